-- Plain bits as words of one lane, and back.
use Rattle.std.specs.Prelude.{ℕ, Bool, List, map, if◌then◌else◌}
use Rattle.mask_bits.specs.Lanes.{lane}
use Rattle.mask_circuit.specs.Ring.{bits}
use Rattle.mask_shares.specs.Sharing.{unmasked}

-- each bit as a word that has it in lane 0
abbrev pub words_of : List Bool → List ℕ
words_of inputs = map (λ b. if b then 1 else 0) inputs

-- the bit that the shares of a word stand for in lane 0
abbrev pub first_bit : List ℕ → Bool
first_bit shares = unmasked bits (lane 0 shares)
