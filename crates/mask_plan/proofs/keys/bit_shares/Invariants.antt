use Rattle.std.proofs.Common.{◌≡◌, ◌<◌, false, ℕ, length, []}
use Rattle.std.specs.Prelude.{slice_index, slice_index_or}
use Rattle.mask_bits.specs.Reading.{bit}
use Rattle.mask_ciphers.specs.Tasks.{key_bits}
use Rattle.mask_plan.proofs.keys.bit_shares.Given as goal

abbrev pub invariant-loop-i : goal.invariant-loop-i
invariant-loop-i g l = record {
  count : length l.parts ≡ g.row.N;
  done : (k : ℕ) → k < l.i → bit 0 (slice_index l.parts k) ≡ slice_index_or (key_bits l.task (slice_index_or l.key k [])) l.j false;
}
