-- Words as up to 64 lanes side by side: bit l of each word belongs to lane l.
use Rattle.std.specs.Prelude.{ℕ, Bool, List, map}
use Rattle.mask_bits.specs.Reading.{bit}

-- the bits of these words in lane l
abbrev pub lane : ℕ → List ℕ → List Bool
lane l words = map (bit l) words
