-- Where a seeded entropy stands, and the bytes of the word that it stands in.
use Rattle.std.proofs.Common.{◌≡◌, ℕ, ◌+◌, ◌-◌, ◌*◌, ◌/◌, ◌%◌, ◌^◌, ◌<◌, ◌≤◌, List, refl, sym, ap, arith}
use Rattle.std.specs.Prelude.{slice_index}
use Rattle.std.specs.Int.{w32, to_le_bytes}
use Rattle.rand_chacha.specs.ChaCha.{ChaCha, word_at, next_word}
use Rattle.mask_io.specs.Seeded.{stream_byte}

-- the place of the word before this one, in a stream of 2 ^ 68 words
abbrev pub before : ℕ → ℕ
before place = (place + (2 ^ 68 - 1)) % 2 ^ 68

before_next : (place : ℕ) → place < 2 ^ 68 → before ((place + 1) % 2 ^ 68) ≡ place
before_next place h = omega arith

-- byte i of word w
pub stream_byte-word : (key : List ℕ) (w i : ℕ) → w < 2 ^ 68 → i < 4
    → stream_byte key (w * 4 + i) ≡ slice_index (to_le_bytes w32 (word_at 10 key 0 w)) i
stream_byte-word key w i h k =
    let word : (w * 4 + i) / 4 % 2 ^ 68 ≡ w = omega arith in
    let byte : (w * 4 + i) % 4 ≡ i = omega arith in
    rw (word, byte) refl

-- what the generator and the word hold while bytes from `used` on are left
pub record Stands (rng : ChaCha) (word : List ℕ) (used : ℕ) : Type 0 where
  pub within : used ≤ 4
  pub first_stream : rng.stream ≡ 0
  pub below : rng.word_pos < 2 ^ 68
  pub bytes : (i : ℕ) → used ≤ i → i < 4 → slice_index word i ≡ stream_byte rng.key (before rng.word_pos * 4 + i)

-- after the next word was drawn
pub drawn : (rng now : ChaCha) (result : ℕ) → (result, now) ≡ next_word 10 rng → rng.stream ≡ 0 → rng.word_pos < 2 ^ 68
    → Stands now (to_le_bytes w32 result) 0
drawn rng now result step first_stream below =
    let now_is : now ≡ (next_word 10 rng).1 = ap (λ (p : ℕ × ChaCha). p.1) step in
    let result_is : result ≡ word_at 10 rng.key rng.stream rng.word_pos = ap (λ (p : ℕ × ChaCha). p.0) step in
    rw (now_is, result_is, first_stream) (record {
      within = omega arith;
      first_stream = refl;
      below = omega arith;
      bytes = λ i h k. rw (before_next rng.word_pos below) (sym (stream_byte-word rng.key rng.word_pos i below k));
    })
