use Rattle.std.proofs.Common.{◌≡◌, false, List, ℕ, length, map}
use Rattle.std.specs.Prelude.{slice_index_or}
use Rattle.mask_bits.specs.Lanes.{lane}
use Rattle.mask_circuit.specs.Wires.{each}
use Rattle.mask_ciphers.specs.Tasks.{key_bits}
use Rattle.mask_plan.proofs.keys.shares_of_key.Given as goal

abbrev pub invariant-loop-j : goal.invariant-loop-j
invariant-loop-j g l = record {
  count : length l.shares.items ≡ l.j;
  done : map (lane 0) l.shares.items ≡ each (λ j. map (λ (line : List ℕ). slice_index_or (key_bits l.task line) j false) l.key) l.j;
}
