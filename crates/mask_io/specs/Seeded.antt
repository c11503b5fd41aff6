-- The bytes of a seed: ChaCha20's words, each as four bytes.
use Rattle.std.specs.Prelude.{ℕ, ◌/◌, ◌%◌, ◌^◌, List, slice_index}
use Rattle.std.specs.Int.{w32, to_le_bytes}
use Rattle.rand_chacha.specs.ChaCha.{word_at}

-- what contracts see of a seeded entropy: the eight words of its key, and the place of its next byte, below 2 ^ 70
pub record Seeded : Type 0 where
  pub key : List ℕ
  pub place : ℕ

-- the byte at a place: word k has bytes 4k to 4k + 3, the lowest first, and is ChaCha20's word of stream 0 at place
-- k modulo 2 ^ 68 (RFC 8439, with a counter of 64 bits and ten double rounds)
abbrev pub stream_byte : List ℕ → ℕ → ℕ
stream_byte key place = slice_index (to_le_bytes w32 (word_at 10 key 0 (place / 4 % 2 ^ 68))) (place % 4)
