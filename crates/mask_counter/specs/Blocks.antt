-- The order of the bits of a block.
use Rattle.std.specs.Prelude.{◌≡◌, ◌⊎◌, ℕ, List, Bool, reverse}
use Rattle.mask_bits.specs.Reading.{low, high}
use Rattle.mask_counter.specs.declared.words.BitOrder.{BitOrder}
use Rattle.mask_counter.specs.declared.words.BitOrder.TheVariants.{LowFirst, HighFirst}

-- the reading of bytes in this order
abbrev pub reading : BitOrder → List ℕ → List Bool
reading LowFirst = low
reading HighFirst = high

-- the bytes in the order in which their bits are read, those of a byte low first
abbrev pub ordered : BitOrder → List ℕ → List ℕ
ordered LowFirst block = block
ordered HighFirst block = reverse block

-- the lengths of blocks in bytes
abbrev pub IsBlockLength : ℕ → Type 0
IsBlockLength b = (b ≡ 8) ⊎ (b ≡ 16)
