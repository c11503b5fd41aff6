-- The message authentication code LightMAC over PRESENT (ISO/IEC 29192-6:2019; Luykx, Preneel, Tischhauser and Yasuda, FSE 2016).
--
-- Keys, blocks and counters are big-endian numbers. A counter has s bytes, 1, 2 or 4, and a message is cut into pieces of
-- 8 - s bytes. It has at most 2 ^ (8 * s) pieces, so that no counter comes twice.
use Rattle.std.specs.Prelude.{ℕ, zero, suc, ◌-◌, ◌*◌, ◌/◌, ◌%◌, List, [], ◌∷◌, ◌++◌, length, take, drop, replicate, bit_xor}
use Rattle.mask_bits.specs.Reading.{high, number}
use Rattle.mask_tasks.specs.declared.sizes.KeySize.{KeySize}
use Rattle.mask_tasks.specs.Sizes.{present_bytes}
use Rattle.mask_present.specs.Present.{present}

-- the number of bytes of which the first is the highest
abbrev pub number_of : List ℕ → ℕ
number_of bytes = number (high bytes)

-- n bytes of a number, the highest first
unfoldable pub bytes_of : ℕ → ℕ → List ℕ
bytes_of zero a = []
bytes_of (suc n) a = bytes_of n (a / 256) ++ a % 256 ∷ []

-- THE CODE ON NUMBERS

-- the value V after a block of a counter and a piece, under the key K1
unfoldable pub absorbed : KeySize → ℕ → ℕ → ℕ → ℕ
absorbed size k1 v block = bit_xor (present size k1 block) v

-- and what the tag is the first part of, under the key K2: here the block is the last piece, padded
unfoldable pub finished : KeySize → ℕ → ℕ → ℕ → ℕ
finished size k2 v block = present size k2 (bit_xor v block)

-- the block of piece number k
unfoldable pub counted : ℕ → ℕ → List ℕ → ℕ
counted s k piece = number_of (bytes_of s k ++ piece)

-- the bytes of the last piece with their padding: behind them come the byte 0x80 and zeros
unfoldable pub padded : List ℕ → List ℕ
padded piece = piece ++ 0x80 ∷ replicate (7 - length piece) 0

-- THE PIECES OF A MESSAGE

-- how many pieces come before the last one
unfoldable pub pieces_before : ℕ → List ℕ → ℕ
pieces_before s message = (length message - 1) / (8 - s)

-- piece number i + 1
unfoldable pub piece_at : ℕ → List ℕ → ℕ → List ℕ
piece_at s message i = take (8 - s) (drop ((8 - s) * i) message)

-- the last piece: 8 - s bytes or fewer, and none only where the message has none
unfoldable pub last_piece : ℕ → List ℕ → List ℕ
last_piece s message = drop ((8 - s) * pieces_before s message) message

-- THE TAG

-- the value V after i pieces: it begins as 0, and piece number k comes with the counter k
unfoldable pub value_after : KeySize → ℕ → ℕ → List ℕ → ℕ → ℕ
value_after size s k1 message zero = 0
value_after size s k1 message (suc i) = absorbed size k1 (value_after size s k1 message i) (counted s (suc i) (piece_at s message i))

unfoldable pub value_before_last : KeySize → ℕ → ℕ → List ℕ → ℕ
value_before_last size s k1 message = value_after size s k1 message (pieces_before s message)

-- the tag of 4 or 8 bytes of a message, under a key that is K1 and then K2
unfoldable pub lightmac : KeySize → ℕ → ℕ → List ℕ → List ℕ → List ℕ
lightmac size s tag_bytes key message =
    let k1 = number_of (take (present_bytes size) key) in
    let k2 = number_of (drop (present_bytes size) key) in
    take tag_bytes (bytes_of 8 (finished size k2 (value_before_last size s k1 message) (number_of (padded (last_piece s message)))))
