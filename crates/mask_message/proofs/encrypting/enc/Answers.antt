use Rattle.std.proofs.Common.{ℕ, [], add-one, refl, ◌∙◌, subst, arith}
use Rattle.std.proofs.KnownBytes.{Consumes-nil}
use Rattle.mask_message.specs.Encrypting.{TellsStrongCalls}
use Rattle.mask_message.proofs.Reading.{stops_under, lines_long, encs_under}
use Rattle.mask_message.proofs.Telling.{streams_have_keys, no_key_fault}
use Rattle.mask_message.proofs.encrypting.enc.Goals as goal

pub returns-in-Err-clause-ends : goal.returns-in-Err-clause-ends
returns-in-Err-clause-ends g c =
    let stopped = c.in-Err.ensures.err in
    record {
      keys = stopped.0;
      keys_taken = stopped.1;
      bytes = [];
      taken = Consumes-nil _;
      ends = stops_under c.args.task.now c.args.order _ c.key_length.ensures _ stopped.0 _ c.in-Err.status stopped.2;
      counted = omega arith;
    }

pub encrypt_message-requires-clause-length : goal.encrypt_message-requires-clause-length
encrypt_message-requires-clause-length g c =
    let read = c.in-Ok.ensures.ok in lines_long c.args.task.now c.args.order _ c.key_length.ensures read.0 _ c.in-Ok.lines read.2

pub returns-clause-ends : goal.returns-clause-ends
returns-clause-ends g c =
    let read = c.in-Ok.ensures.ok in
    encs_under c.args.task.now c.args.order _ c.key_length.ensures read.0 _ c.in-Ok.lines read.2 _ c.encrypt_message.result read.1 refl
    (c.encrypt_message.ensures.ends _ _)

pub returns-clause-unread : goal.returns-clause-unread
returns-clause-unread g c of_keys =
    let takes = c.encrypt_message.ensures.ends (g.K.Source.left c.args.keys.now) (g.K.Source.left c.read_lines.new.keys) in
    absurd (streams_have_keys c.args.task.now _ c.in-Ok.lines _ takes.bytes c.encrypt_message.result takes.streams of_keys)

pub returns-clause-secure : goal.returns-clause-secure
returns-clause-secure g c =
    let many = c.in-Ok.ensures.ok.2.file.many ∙ add-one c.args.order in
    subst (λ (n : ℕ). TellsStrongCalls n (g.W.Watch.told c.args.watch.now) (g.W.Watch.told c.encrypt_message.new.watch)) many
    c.encrypt_message.ensures.secure

pub returns-clause-key_faults : goal.returns-clause-key_faults
returns-clause-key_faults g c =
    let takes = c.encrypt_message.ensures.ends (g.K.Source.left c.args.keys.now) (g.K.Source.left c.read_lines.new.keys) in
    rw (no_key_fault c.encrypt_message.result (streams_have_keys c.args.task.now _ c.in-Ok.lines _ takes.bytes c.encrypt_message.result takes.streams)) c.in-Ok.ensures.key_faults
