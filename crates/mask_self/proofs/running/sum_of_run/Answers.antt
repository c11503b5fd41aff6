use Rattle.std.proofs.Common.{◌≡◌, ◌≤◌, length, None, Some, refl, sym, ap, ◌∙◌, arith}
use Rattle.mask_tasks.specs.Tasks.{longest_message}
use Rattle.mask_keys.specs.Lines.{joined}
use Rattle.mask_ciphers.specs.Tasks.{output}
use Rattle.mask_self.specs.Generator.{bytes_from}
use Rattle.mask_self.specs.Collecting.{Kept}
use Rattle.mask_self.specs.Reports.{sum_of_blocks}
use Rattle.mask_message.proofs.Ending.{of_cipher}
use Rattle.mask_self.proofs.Carrying.{nothing-ran}
use Rattle.mask_self.proofs.Ending.{ciphertext, runs_whole, fails_to_draw, breaks_off, whole_elsewhere, draws_elsewhere, breaks_elsewhere, never_fails, length-output, within_whole}
use Rattle.mask_self.proofs.Generating.{length-bytes_from}
use Rattle.mask_self.proofs.running.sum_of_run.Goals as goal

pub returns-in-Err-clause-ends : goal.returns-in-Err-clause-ends
returns-in-Err-clause-ends g c keys_before keys_after left_before left_after out_before out_after =
    (0, nothing-ran c.args.task.now (length c.args.lines.now) c.args.lines.now (bytes_from c.args.generator 0 c.args.count) _ (omega (arith, c.requires.count, c.requires.some)) c.requires.whole_task refl)

pub sum_of_blocks-requires : goal.sum_of_blocks-requires
sum_of_blocks-requires g c =
    let takes = c.in-Done.ensures.ends None None in
    let message = bytes_from c.args.generator 0 c.args.count in
    let written : c.bytes.result.now ≡ output c.args.task.now (joined c.args.lines.now) message
    = c.bytes.ensures
    ∙ ciphertext c.args.task.now c.requires.whole_task c.requires.cipher (length c.args.lines.now) c.args.lines.now message takes.bytes c.encrypt_message-status.new.input _
    (omega (arith, c.requires.count, c.requires.some)) (sym c.new-message.ensures ∙ takes.taken) refl (of_cipher c.args.task.now c.requires.cipher _ _ _ _ _ takes.streams) _ (ap (λ (k : Kept). Some k.bytes) c.in-Ok.ensures) refl in
    omega (arith, ap length written, length-output c.args.task.now c.requires.cipher c.args.lines.now message c.requires.length, length-bytes_from c.args.generator 0 c.args.count)

pub returns-in-Done-clause-sum : goal.returns-in-Done-clause-sum
returns-in-Done-clause-sum g c =
    let takes = c.in-Done.ensures.ends None None in
    let message = bytes_from c.args.generator 0 c.args.count in
    let written : c.bytes.result.now ≡ output c.args.task.now (joined c.args.lines.now) message
    = c.bytes.ensures
    ∙ ciphertext c.args.task.now c.requires.whole_task c.requires.cipher (length c.args.lines.now) c.args.lines.now message takes.bytes c.encrypt_message-status.new.input _
    (omega (arith, c.requires.count, c.requires.some)) (sym c.new-message.ensures ∙ takes.taken) refl (of_cipher c.args.task.now c.requires.cipher _ _ _ _ _ takes.streams) _ (ap (λ (k : Kept). Some k.bytes) c.in-Ok.ensures) refl in
    c.sum_of_blocks.ensures ∙ ap sum_of_blocks written

pub returns-in-Done-clause-ends : goal.returns-in-Done-clause-ends
returns-in-Done-clause-ends g c keys_before keys_after left_before left_after out_before out_after =
    let takes = c.in-Done.ensures.ends None None in
    whole_elsewhere c.args.task.now (length c.args.lines.now) c.args.lines.now (bytes_from c.args.generator 0 c.args.count) _ keys_before keys_after left_before left_after out_before out_after
    (runs_whole c.args.task.now c.requires.whole_task c.requires.cipher (length c.args.lines.now) c.args.lines.now (bytes_from c.args.generator 0 c.args.count) takes.bytes c.encrypt_message-status.new.input _
    (omega (arith, c.requires.count, c.requires.some)) (sym c.new-message.ensures ∙ takes.taken) refl (of_cipher c.args.task.now c.requires.cipher _ _ _ _ _ takes.streams))

pub returns-in-TapeFault-clause-ends : goal.returns-in-TapeFault-clause-ends
returns-in-TapeFault-clause-ends g c keys_before keys_after left_before left_after out_before out_after =
    let takes = c.in-TapeFault.ensures.ends None None in
    draws_elsewhere c.args.task.now (length c.args.lines.now) c.args.lines.now (bytes_from c.args.generator 0 c.args.count) _ keys_before keys_after left_before left_after out_before out_after
    (fails_to_draw c.args.task.now c.requires.whole_task c.requires.cipher (length c.args.lines.now) c.args.lines.now (bytes_from c.args.generator 0 c.args.count) takes.bytes c.encrypt_message-status.new.input _
    (omega (arith, c.requires.count, c.requires.some)) (sym c.new-message.ensures ∙ takes.taken) refl (of_cipher c.args.task.now c.requires.cipher _ _ _ _ _ takes.streams))

pub returns-clause-ends : goal.returns-clause-ends
returns-clause-ends g c keys_before keys_after left_before left_after out_before out_after =
    let takes = c.encrypt_message-status.ensures.ends None None in
    let message = bytes_from c.args.generator 0 c.args.count in
    let short : length message ≤ longest_message c.args.task.now = omega (arith, c.requires.limit, length-bytes_from c.args.generator 0 c.args.count) in
    breaks_elsewhere c.args.task.now (length c.args.lines.now) c.args.lines.now message _ keys_before keys_after left_before left_after out_before out_after
    (breaks_off c.args.task.now c.requires.whole_task c.requires.cipher (length c.args.lines.now) c.args.lines.now message takes.bytes c.encrypt_message-status.new.input _
    (omega (arith, c.requires.count, c.requires.some)) (sym c.new-message.ensures ∙ takes.taken) refl short c.encrypt_message-status.result c.in_default.not-Done c.in_default.not-TapeFault
    (never_fails c.encrypt_message-status.result c.encrypt_message-status.ensures.input_faults) (of_cipher c.args.task.now c.requires.cipher _ _ _ _ _ takes.streams))

pub returns-in-Err-clause-steps : goal.returns-in-Err-clause-steps
returns-in-Err-clause-steps g c = omega arith

pub returns-in-Done-clause-steps : goal.returns-in-Done-clause-steps
returns-in-Done-clause-steps g c =
    let takes = c.in-Done.ensures.ends None None in
    within_whole c.args.task.now c.requires.cipher (bytes_from c.args.generator 0 c.args.count) takes.bytes c.encrypt_message-status.new.input c.args.count _ _
    (length-bytes_from c.args.generator 0 c.args.count) (sym c.new-message.ensures ∙ takes.taken) takes.counted

pub returns-in-TapeFault-clause-steps : goal.returns-in-TapeFault-clause-steps
returns-in-TapeFault-clause-steps g c =
    let takes = c.in-TapeFault.ensures.ends None None in
    within_whole c.args.task.now c.requires.cipher (bytes_from c.args.generator 0 c.args.count) takes.bytes c.encrypt_message-status.new.input c.args.count _ _
    (length-bytes_from c.args.generator 0 c.args.count) (sym c.new-message.ensures ∙ takes.taken) takes.counted

pub returns-clause-steps : goal.returns-clause-steps
returns-clause-steps g c =
    let takes = c.encrypt_message-status.ensures.ends None None in
    within_whole c.args.task.now c.requires.cipher (bytes_from c.args.generator 0 c.args.count) takes.bytes c.encrypt_message-status.new.input c.args.count _ _
    (length-bytes_from c.args.generator 0 c.args.count) (sym c.new-message.ensures ∙ takes.taken) takes.counted
