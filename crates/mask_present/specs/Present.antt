-- The block cipher PRESENT on whole numbers (ISO/IEC 29192-2; Bogdanov and others, CHES 2007).
--
-- A block is a number of 64 bits and a key is one of 80 or 128 bits. Bit j of a number weighs 2 ^ j. The table of the
-- S-box is `sbox` of `mask_parts/specs/PresentSbox.antt`.
use Rattle.std.specs.Prelude.{ℕ, zero, suc, ◌+◌, ◌-◌, ◌*◌, ◌/◌, ◌%◌, ◌^◌, ◌==◌, List, [], ◌∷◌, sum_by, fold, bit_xor, if◌then◌else◌}
use Rattle.std.specs.List.{range_with_len}
use Rattle.std.specs.Int.{bit_at}
use Rattle.mask_tasks.specs.declared.sizes.KeySize.{KeySize}
use Rattle.mask_tasks.specs.declared.sizes.KeySize.TheVariants.{K80, K128}
use Rattle.mask_parts.specs.PresentSbox.{sbox}

-- the lowest n nibbles of a number, each replaced by the S-box
unfoldable pub substituted : ℕ → ℕ → ℕ
substituted zero s = 0
substituted (suc n) s = sbox (s % 16) + 16 * substituted n (s / 16)

-- where bit j of a block goes
abbrev pub place : ℕ → ℕ
place j = if j == 63 then 63 else 16 * j % 63

-- the block with each bit moved to its place
unfoldable pub permuted : ℕ → ℕ
permuted s = sum_by (λ j. bit_at s j * 2 ^ place j) (range_with_len 0 64)

-- What the size of a key decides: the bits of the key register; the lowest bits of the nibbles of it that pass the S-box
-- in an update, in order; and the lowest of the five bits that the number of the round is xored into.
pub record Register : Type 0 where
  pub width : ℕ
  pub nibbles : List ℕ
  pub counter : ℕ

abbrev pub register : KeySize → Register
register K80 = record { width = 80; nibbles = 76 ∷ []; counter = 15 }
register K128 = record { width = 128; nibbles = 124 ∷ 120 ∷ []; counter = 62 }

-- the round key: the highest 64 bits of the register
unfoldable pub round_key : Register → ℕ → ℕ
round_key r k = k / 2 ^ (r.width - 64)

-- the register rotated left by 61 places
unfoldable pub rotated : Register → ℕ → ℕ
rotated r k = k % 2 ^ (r.width - 61) * 2 ^ 61 + k / 2 ^ (r.width - 61)

-- bits `at` to `at + 3` replaced by the S-box
unfoldable pub replaced : ℕ → ℕ → ℕ
replaced k at = k / 2 ^ (at + 4) * 2 ^ (at + 4) + sbox (k / 2 ^ at % 16) * 2 ^ at + k % 2 ^ at

-- the update after round i took its key: rotate, replace nibbles, xor the number of the round
unfoldable pub updated : Register → ℕ → ℕ → ℕ
updated r i k = bit_xor (fold replaced (rotated r k) r.nibbles) (i * 2 ^ r.counter)

-- the register after i updates
unfoldable pub register_after : Register → ℕ → ℕ → ℕ
register_after r zero key = key
register_after r (suc i) key = updated r (suc i) (register_after r i key)

-- round key number i + 1
abbrev pub key_of_round : Register → ℕ → ℕ → ℕ
key_of_round r i key = round_key r (register_after r i key)

-- the block after i rounds: xor the round key, replace the sixteen nibbles, move the bits
unfoldable pub block_after : Register → ℕ → ℕ → ℕ → ℕ
block_after r zero key block = block
block_after r (suc i) key block = permuted (substituted 16 (bit_xor (block_after r i key block) (key_of_round r i key)))

-- 31 rounds, and the last round key
unfoldable pub encrypted : Register → ℕ → ℕ → ℕ
encrypted r key block = bit_xor (block_after r 31 key block) (key_of_round r 31 key)

-- the encryption of a block under a key of this size
unfoldable pub present : KeySize → ℕ → ℕ → ℕ
present size key block = encrypted (register size) key block
