use Rattle.std.proofs.Common.{◌+◌, ◌≤◌, [], None, refl, inl, arith}
use Rattle.std.proofs.KnownBytes.{Consumes-nil}
use Rattle.mask_run.proofs.Statuses.{RunsItself-unread}
use Rattle.mask_run.proofs.Telling.{TellsSecureCalls-strong}
use Rattle.mask_run.proofs.command.run_job.Goals as goal

-- A CIRCUIT

pub returns-in-Eval-clause-ends : goal.returns-in-Eval-clause-ends
returns-in-Eval-clause-ends g c = rw c.in-Eval.is (c.eval.ensures.ends (g.K.Source.left c.args.keys.now))

pub returns-in-Check-clause-ends : goal.returns-in-Check-clause-ends
returns-in-Check-clause-ends g c =
    let taken = c.check.ensures.ends in
    rw c.in-Check.is
    (record { keys = []; keys_taken = Consumes-nil _; bytes = taken.0; taken = taken.1; ends = taken.2.0; costs = taken.2.1; asks = inl refl })

pub returns-in-Upgrade-clause-ends : goal.returns-in-Upgrade-clause-ends
returns-in-Upgrade-clause-ends g c =
    let taken = c.upgrade.ensures.ends in
    rw c.in-Upgrade.is
    (record { keys = []; keys_taken = Consumes-nil _; bytes = taken.0; taken = taken.1; ends = taken.2; costs = inl refl; asks = inl refl })

pub returns-in-Probe-clause-ends : goal.returns-in-Probe-clause-ends
returns-in-Probe-clause-ends g c =
    let taken = c.probe.ensures.ends in
    rw c.in-Probe.is
    (record { keys = []; keys_taken = Consumes-nil _; bytes = taken.0; taken = taken.1; ends = taken.2.0; costs = taken.2.1; asks = inl refl })

-- KEY LINES

pub returns-in-Enc-clause-ends : goal.returns-in-Enc-clause-ends
returns-in-Enc-clause-ends g c =
    let run = c.enc.ensures.ends in
    rw c.in-Enc.is
    (record { keys = run.keys; keys_taken = run.keys_taken; bytes = run.bytes; taken = run.taken; ends = run.ends; costs = run.counted; asks = tt })

pub returns-in-Mac-clause-ends : goal.returns-in-Mac-clause-ends
returns-in-Mac-clause-ends g c =
    let run = c.enc-in-Mac.ensures.ends in
    rw c.in-Mac.is
    (record { keys = run.keys; keys_taken = run.keys_taken; bytes = run.bytes; taken = run.taken; ends = run.ends; costs = run.counted; asks = tt })

pub returns-in-Split-clause-ends : goal.returns-in-Split-clause-ends
returns-in-Split-clause-ends g c =
    let taken = c.split.ensures.ends in
    rw c.in-Split.is
    (record { keys = taken.0; keys_taken = taken.1; bytes = []; taken = Consumes-nil _; ends = taken.2; costs = omega arith; asks = tt })

pub returns-in-Join-clause-ends : goal.returns-in-Join-clause-ends
returns-in-Join-clause-ends g c =
    let taken = c.join.ensures.ends in
    rw c.in-Join.is
    (record { keys = taken.0; keys_taken = taken.1; bytes = []; taken = Consumes-nil _; ends = taken.2; costs = omega arith; asks = tt })

-- WORDS ALONE

pub returns-in-Emit-clause-ends : goal.returns-in-Emit-clause-ends
returns-in-Emit-clause-ends g c =
    rw c.in-Emit.is
    (record { keys = []; keys_taken = Consumes-nil _; bytes = []; taken = Consumes-nil _; ends = c.emit.ensures.ends; costs = c.emit.ensures.steps; asks = tt })

pub returns-in-SelfRun-clause-ends : goal.returns-in-SelfRun-clause-ends
returns-in-SelfRun-clause-ends g c =
    rw c.in-SelfRun.is
    (record {
      keys = [];
      keys_taken = Consumes-nil _;
      bytes = [];
      taken = Consumes-nil _;
      ends = c.self_run.ensures.ends (g.K.Source.left c.args.keys.now) (g.S.Source.left c.args.input.now);
      costs = c.self_run.ensures.steps;
      asks = tt;
    })

pub returns-in-SelfRun-clause-key_faults : goal.returns-in-SelfRun-clause-key_faults
returns-in-SelfRun-clause-key_faults g c = rw (RunsItself-unread _ _ _ _ c.self_run.result (c.self_run.ensures.ends None None)).0 refl

pub returns-in-SelfRun-clause-input_faults : goal.returns-in-SelfRun-clause-input_faults
returns-in-SelfRun-clause-input_faults g c = rw (RunsItself-unread _ _ _ _ c.self_run.result (c.self_run.ensures.ends None None)).1 refl

-- CALLS

pub returns-in-Enc-clause-secure : goal.returns-in-Enc-clause-secure
returns-in-Enc-clause-secure g c =
    let told = c.enc.ensures.secure in
    let order = rw c.in-Enc.is at c.requires.order in
    TellsSecureCalls-strong c.in-Enc.order _ _ order.0 order.1 told.0 told.1 told.2

pub returns-in-Mac-clause-secure : goal.returns-in-Mac-clause-secure
returns-in-Mac-clause-secure g c =
    let told = c.enc-in-Mac.ensures.secure in
    let order = rw c.in-Mac.is at c.requires.order in
    TellsSecureCalls-strong c.in-Mac.order _ _ order.0 order.1 told.0 told.1 told.2

pub returns-in-SelfRun-clause-secure : goal.returns-in-SelfRun-clause-secure
returns-in-SelfRun-clause-secure g c =
    let told = c.self_run.ensures.secure in
    let order = rw c.in-SelfRun.is at c.requires.order in
    TellsSecureCalls-strong c.in-SelfRun.order _ _ order.0 order.1 told.0 told.1 told.2
