-- Where blocks have the bits of their bytes, and how many bytes there are at once.
use Rattle.std.proofs.Common.{◌≡◌, ℕ, suc, ◌+◌, ◌-◌, ◌*◌, ◌%◌, ◌^◌, ◌<◌, ◌≤◌, false, List, length, get_or, refl, ap, ◌∙◌, arith}
use Rattle.std.specs.Prelude.{slice_index}
use Rattle.mask_bits.specs.Reading.{bit, high}
use Rattle.mask_tasks.specs.declared.tasks.Task.{Task}
use Rattle.mask_tasks.specs.declared.tasks.Task.TheVariants.{Present, Lea, Trivium, LightMac, Chaskey}
use Rattle.std.proofs.Math.Nat.{zero-mod}
use Rattle.mask_tasks.specs.Limits.{counter_bytes}
use Rattle.mask_macs.specs.Codes.{Code}
use Rattle.mask_modes.specs.Steps.{IsBlock, Mode}
use Rattle.mask_modes.proofs.Readings.{bytes_are_read}
use Rattle.mask_ciphers.specs.Methods.{Method, InCounterMode, AsStream, AsCode}
use Rattle.mask_ciphers.specs.Tasks.{method_of}
use Rattle.mask_plan.specs.declared.runs.TaskRun.{TaskRun}
use Rattle.mask_plan.specs.declared.runs.TaskRun.TheVariants.{Counter, Stream, Tag}
use Rattle.mask_plan.specs.Sessions.{batch_length, bit_place, block_length, output_bits}
use Rattle.mask_plan.specs.Inside.{HasOutputs, IsBy, outputs}

-- A block has a bit of one of its bytes at this place.
abbrev pub Places : Method → (ℕ → ℕ → ℕ) → Type 0
Places (InCounterMode m cipher) place = (byte p : ℕ) → byte < m.block → p < 8 → (block : List ℕ) → IsBlock m block →
    get_or (m.reading block) (place byte p) false ≡ bit p (slice_index block byte)
Places (AsStream iv) place = (byte p : ℕ) → place byte p ≡ 288 + (8 * byte + p)
Places (AsCode code) place = (byte p : ℕ) → place byte p ≡ code.place byte + p

pub bits_stand : (task : Task) → Places (method_of task) (bit_place task)
bits_stand (Present size iv) = λ byte p lt small block is.
    let long : length block ≡ 8 = is.0 in
    let place : 8 * (8 - suc byte) + p ≡ 8 * (length block - 1 - byte) + p = omega arith in
    ap (λ (j : ℕ). get_or (high block) j false) place ∙ bytes_are_read.high_place block byte p (omega arith) small
bits_stand (Lea size iv) = λ byte p lt small block is.
    let long : length block ≡ 16 = is.0 in
    bytes_are_read.low_place block byte p (omega arith) small
bits_stand (Trivium iv) = λ byte p. refl
bits_stand (LightMac size counter tag) = λ byte p. omega arith
bits_stand (Chaskey tag) = λ byte p. refl

-- a run of the task has the words of all bits that it hands out
pub has_output_bits : {N : ℕ} (task : Task) (run : TaskRun N) → IsBy N (method_of task) run → HasOutputs run → length (outputs run) ≡ output_bits task
has_output_bits (Present size iv) (Counter run) by many = many ∙ ap (λ (m : Mode). 8 * m.block) by
has_output_bits (Lea size iv) (Counter run) by many = many ∙ ap (λ (m : Mode). 8 * m.block) by
has_output_bits (Trivium iv) (Stream run) by many = many
has_output_bits (LightMac size counter tag) (Tag run) by many = many ∙ ap (λ (c : Code). c.state_bits) by
has_output_bits (Chaskey tag) (Tag run) by many = many ∙ ap (λ (c : Code). c.state_bits) by
has_output_bits (Present size iv) (Stream run) by many = absurd by
has_output_bits (Lea size iv) (Stream run) by many = absurd by
has_output_bits (Trivium iv) (Counter run) by many = absurd by
has_output_bits (Present size iv) (Tag run) by many = absurd by
has_output_bits (Lea size iv) (Tag run) by many = absurd by
has_output_bits (Trivium iv) (Tag run) by many = absurd by
has_output_bits (LightMac size counter tag) (Counter run) by many = absurd by
has_output_bits (LightMac size counter tag) (Stream run) by many = absurd by
has_output_bits (Chaskey tag) (Counter run) by many = absurd by
has_output_bits (Chaskey tag) (Stream run) by many = absurd by

pub whole_at_first : (task : Task) → 0 % batch_length task ≡ 0
whole_at_first (Present size iv) = refl
whole_at_first (Lea size iv) = refl
whole_at_first (Trivium iv) = refl
whole_at_first (LightMac size counter tag) = zero-mod (8 - counter_bytes counter)
whole_at_first (Chaskey tag) = refl
