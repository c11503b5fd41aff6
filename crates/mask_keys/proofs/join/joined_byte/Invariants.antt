use Rattle.std.proofs.Common.{◌≡◌, ℕ, List, map, take, slice_index}
use Rattle.mask_circuit.specs.Ring.{words}
use Rattle.mask_circuit.specs.Sharing.{unmasked}
use Rattle.mask_keys.proofs.join.joined_byte.Given as goal

abbrev pub invariant-loop-i : goal.invariant-loop-i
invariant-loop-i l = l.byte ≡ unmasked words (map (λ (line : List ℕ). slice_index line l.b) (take l.i l.lines))
