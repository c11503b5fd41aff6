use Rattle.std.proofs.Common.{◌≡◌, ℕ, ◌/◌, ◌%◌, ◌^◌, ◌<◌}
use Rattle.std.specs.Prelude.{slice_index}
use Rattle.mask_bits.specs.Lanes.{lane}
use Rattle.mask_bits.specs.Reading.{bit}
use Rattle.mask_circuit.specs.Ring.{bits}
use Rattle.mask_circuit.specs.Sharing.{unmasked}
use Rattle.mask_plan.specs.Sessions.{out_words}
use Rattle.mask_message.proofs.bytes.unmask_bytes.Given as goal

abbrev pub invariant-loop-k : goal.invariant-loop-k
invariant-loop-k g l = record {
  small : (k : ℕ) → k < l.k → slice_index l.bytes k < 2 ^ 8;
  bits : (k p : ℕ) → k < l.k → p < 8 →
      bit p (slice_index l.bytes k) ≡ unmasked bits (lane (k / l.fn.block) (out_words l.fn.session (k % l.fn.block) p));
}
