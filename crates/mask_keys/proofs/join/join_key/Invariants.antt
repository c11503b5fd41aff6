use Rattle.std.proofs.Common.{◌≡◌, ℕ, List, length, map, take, slice_index}
use Rattle.mask_circuit.specs.Wires.{each}
use Rattle.mask_circuit.specs.Ring.{words}
use Rattle.mask_circuit.specs.Sharing.{unmasked}
use Rattle.mask_keys.proofs.join.join_key.Given as goal

abbrev pub invariant-loop-b : goal.invariant-loop-b
invariant-loop-b l = record {
  room : length l.key ≡ 64;
  done : take l.b l.key ≡ each (λ b. unmasked words (map (λ (line : List ℕ). slice_index line b) l.lines)) l.b;
}
