-- The line that a run prints.
use Rattle.std.specs.Prelude.{ℕ, List, [], ◌∷◌, ◌++◌, codes, decimal, fold, replicate}
use Rattle.hex.specs.Hex.{encode_lower}
use Rattle.mask_modes.specs.CounterMode.{xor_bytes}
use Rattle.mask_modes.specs.Steps.{blocks}

-- the XOR of the blocks of 16 bytes, the last one filled up with zeros
abbrev pub sum_of_blocks : List ℕ → List ℕ
sum_of_blocks bytes = fold xor_bytes (replicate 16 0) (blocks 16 bytes)

-- the line on so many bytes, calls and bits, and this block
abbrev pub line : ℕ → ℕ → ℕ → List ℕ → List ℕ
line bytes calls bits block =
    codes "self bytes " ++ decimal bytes ++ codes " calls " ++ decimal calls ++ codes " bits " ++ decimal bits ++ codes " xor " ++ encode_lower block ++ 10 ∷ []
