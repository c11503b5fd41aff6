-- What single bits and machine words have in common: a gadget does the same to either.
use Rattle.std.specs.Prelude.{ℕ, ◌-◌, ◌^◌, Bool, true, false, ◌&&◌, bit_and, bit_xor}
use Rattle.mask_circuit.specs.Value.{xor}

-- add is XOR, and mul is AND
pub record Ring (X : Type 0) : Type 0 where
  pub nought : X
  pub unit : X
  pub add : X → X → X
  pub mul : X → X → X

abbrev pub bits : Ring Bool
bits = record { nought = false; unit = true; add = xor; mul = λ a b. a && b }

-- words of 64 bits, each bit for itself
abbrev pub words : Ring ℕ
words = record { nought = 0; unit = 2 ^ 64 - 1; add = bit_xor; mul = bit_and }
