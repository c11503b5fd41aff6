-- The message authentication code Chaskey-12 (ISO/IEC 29192-6:2019; Mouha and others, SAC 2014, with twelve rounds).
--
-- A word is a number below 2 ^ 32. A block is four words, or the number below 2 ^ 128 in which the first word is the lowest, or
-- sixteen bytes, the first the lowest.
use Rattle.std.specs.Prelude.{ℕ, zero, suc, ◌+◌, ◌-◌, ◌*◌, ◌/◌, ◌%◌, ◌^◌, ◌==◌, List, [], ◌∷◌, ◌++◌, length, take, drop, replicate, bit_xor, slice_index, slice_set, if◌then◌else◌}
use Rattle.mask_bits.specs.Reading.{low, number}
use Rattle.mask_chaskey.specs.declared.doubling.End.{End}
use Rattle.mask_chaskey.specs.declared.doubling.End.TheVariants.{Whole, Short}
use Rattle.mask_parts.specs.Turns.{in_turn}
use Rattle.mask_parts.specs.Words32.{rol32, words_of, joined}

-- THE PERMUTATION

-- word i with word j added, and word j rotated left by k places and xored with that sum
unfoldable pub mixed : ℕ → ℕ → ℕ → List ℕ → List ℕ
mixed i j k v =
    let sum = (slice_index v i + slice_index v j) % 2 ^ 32 in
    slice_set (slice_set v i sum) j (bit_xor (rol32 k (slice_index v j)) sum)

-- word i rotated by half its width
unfoldable pub turned : ℕ → List ℕ → List ℕ
turned i v = slice_set v i (rol32 16 (slice_index v i))

-- a round
unfoldable pub round : List ℕ → List ℕ
round v =
    let first = turned 0 (mixed 0 1 5 v) in
    let second = mixed 2 3 8 first in
    let third = mixed 0 3 13 second in
    turned 2 (mixed 2 1 7 third)

-- the twelve rounds
unfoldable pub permuted : List ℕ → List ℕ
permuted v = in_turn (λ i. round) 12 v

-- the permutation of a block as a number
unfoldable pub permutation : ℕ → ℕ
permutation a = joined (permuted (words_of 4 a))

-- THE CODE

-- twice a key: shifted left by one place, and xored with 0x87 where the top bit falls out
unfoldable pub doubled : ℕ → ℕ
doubled key = bit_xor (2 * key % 2 ^ 128) (if key / 2 ^ 127 == 0 then 0 else 0x87)

-- what the last block is masked with: twice the key where the block is whole, and else four times the key
unfoldable pub last_mask : End → ℕ → ℕ
last_mask Whole key = doubled key
last_mask Short key = doubled (doubled key)

-- the state h after a block that isn't the last
unfoldable pub absorbed : ℕ → ℕ → ℕ
absorbed h block = permutation (bit_xor h block)

-- and after the last one
unfoldable pub finished : End → ℕ → ℕ → ℕ → ℕ
finished end key h block =
    let mask = last_mask end key in
    bit_xor (permutation (bit_xor (bit_xor h block) mask)) mask

-- the number of bytes of which the first is the lowest
abbrev pub number_of : List ℕ → ℕ
number_of bytes = number (low bytes)

-- n bytes of a number, the lowest first
unfoldable pub bytes_of : ℕ → ℕ → List ℕ
bytes_of zero a = []
bytes_of (suc n) a = a % 256 ∷ bytes_of n (a / 256)

-- block i of a message
unfoldable pub block_at : List ℕ → ℕ → ℕ
block_at message i = number_of (take 16 (drop (16 * i) message))

-- how many blocks come before the last one
unfoldable pub blocks_before : List ℕ → ℕ
blocks_before message = (length message - 1) / 16

-- the bytes of the last one: 16 or fewer, and none only where the message has none
unfoldable pub last_bytes : List ℕ → List ℕ
last_bytes message = drop (16 * blocks_before message) message

-- how the message ends
unfoldable pub end_of : List ℕ → End
end_of message = if length (last_bytes message) == 16 then Whole else Short

-- the bytes of a last block: behind fewer than 16 come a one and zeros
unfoldable pub padded : End → List ℕ → List ℕ
padded Whole bytes = bytes
padded Short bytes = bytes ++ (1 ∷ replicate (15 - length bytes) 0)

unfoldable pub last_block : List ℕ → ℕ
last_block message = number_of (padded (end_of message) (last_bytes message))

-- the state before the last block: it begins as the key
unfoldable pub state_before_last : ℕ → List ℕ → ℕ
state_before_last key message = in_turn (λ i h. absorbed h (block_at message i)) (blocks_before message) key

-- the tag of 8 or 16 bytes of a message under a key of 16 bytes
unfoldable pub chaskey_mac : List ℕ → List ℕ → ℕ → List ℕ
chaskey_mac key message tag_bytes =
    let k = number_of key in
    bytes_of tag_bytes (finished (end_of message) k (state_before_last k message) (last_block message))
