-- Blocks as numbers: their XOR, and ciphers on numbers.
use Rattle.std.proofs.Common.{◌≡◌, ℕ, ◌+◌, ◌*◌, ◌%◌, ◌^◌, ◌<◌, Bool, List, [], ◌∷◌, ◌++◌, length, reverse, bit_xor, refl, ap, ap₂, sym, subst, ◌∙◌, arith, fold}
use Rattle.std.proofs.Math.Nat.{mod-mod}
use Rattle.std.proofs.lemmas.Nat.{xor_block, xor_mod, xor_comm}
use Rattle.std.proofs.lemmas.List.{length-reverse, reverse-reverse}
use Rattle.std.proofs.lemmas.List.Elements.{All-tail}
use Rattle.mask_bits.specs.Reading.{lowest, low, high, big_endian, AreBytes}
use Rattle.mask_circuit.specs.Value.{plain}
use Rattle.mask_circuit.proofs.Places.{length-each}
use Rattle.mask_modes.specs.CounterMode.{bytes_of, xor_bytes}
use Rattle.mask_modes.specs.Readings.{IsReading}
use Rattle.mask_modes.specs.Steps.{Mode, EnciphersNumbers, IsBlock, on_numbers, on_little_numbers}
use Rattle.mask_modes.specs.Laws.{NumbersAreBlocks}
use Rattle.mask_modes.proofs.Blocks.{xor_bytes_are_bytes}
use Rattle.mask_modes.proofs.Keystreams.{bytes_of_are_bytes}
use Rattle.mask_modes.proofs.Readings.{bytes_are_read, lowest-mod, number_of_high, high_is, big_endian-bytes_of, AreBytes-reverse}
use Rattle.mask_modes.proofs.Xors.{length-xor_bytes, xor_bytes-reverse}

-- the number of bytes behind a number
abbrev number_from : ℕ → List ℕ → ℕ
number_from n bytes = fold (λ (m byte : ℕ). 256 * m + byte) n bytes

number_from-xor : (xs ys : List ℕ) (m n : ℕ) → AreBytes xs → AreBytes ys → length xs ≡ length ys →
    number_from (bit_xor m n) (xor_bytes xs ys) ≡ bit_xor (number_from m xs) (number_from n ys)
number_from-xor [] [] m n are are' e = refl
number_from-xor [] (y ∷ ys) m n are are' e = absurd (omega arith)
number_from-xor (x ∷ xs) [] m n are are' e = absurd (omega arith)
number_from-xor (x ∷ xs) (y ∷ ys) m n are are' e =
    let turned : (a b : ℕ) → a * 2 ^ 8 + b ≡ 256 * a + b = λ a b. omega arith in
    let step : 256 * bit_xor m n + bit_xor x y ≡ bit_xor (256 * m + x) (256 * n + y)
    = sym (turned (bit_xor m n) (bit_xor x y))
    ∙ sym (xor_block 8 m n x y (are 0 0 (omega arith)) (are' 0 0 (omega arith)))
    ∙ ap₂ bit_xor (turned m x) (turned n y) in
    ap (λ (k : ℕ). number_from k (xor_bytes xs ys)) step
    ∙ number_from-xor xs ys (256 * m + x) (256 * n + y) (All-tail (λ b. b < 2 ^ 8) x xs are) (All-tail (λ b. b < 2 ^ 8) y ys are') (omega arith)

-- only the last bits of numbers are in the last bits of their XOR
lowest-xor : (n x y : ℕ) → lowest n (bit_xor x (y % 2 ^ n)) ≡ lowest n (bit_xor x y)
lowest-xor n x y =
    sym (lowest-mod n (bit_xor x (y % 2 ^ n)))
    ∙ ap (lowest n)
    (xor_mod x (y % 2 ^ n) n
    ∙ ap (bit_xor (x % 2 ^ n)) (mod-mod y (2 ^ n))
    ∙ sym (xor_mod x y n))
    ∙ lowest-mod n (bit_xor x y)

-- a block of n bytes, added to those of a number
high-xor : (n x : ℕ) (block : List ℕ) → length block ≡ n → AreBytes block →
    high (xor_bytes block (bytes_of n x)) ≡ lowest (8 * n) (bit_xor x (big_endian block))
high-xor n x block size are =
    let bytes = bytes_of n x in
    let same : length block ≡ length bytes = size ∙ sym (length-each _ n) in
    let long : length (xor_bytes block bytes) ≡ n = length-xor_bytes block bytes (omega arith) ∙ size in
    high_is (xor_bytes block bytes) (xor_bytes_are_bytes block bytes are (bytes_of_are_bytes n x))
    ∙ ap₂ (λ (k y : ℕ). lowest (8 * k) y) long
    (number_from-xor block bytes 0 0 are (bytes_of_are_bytes n x) same ∙ ap (bit_xor (big_endian block)) (big_endian-bytes_of n x))
    ∙ lowest-xor (8 * n) (big_endian block) x
    ∙ ap (lowest (8 * n)) (xor_comm (big_endian block) x)

-- the low-first reading is the high-first one of the bytes the other way round
low_is_high : (bytes : List ℕ) → low bytes ≡ high (reverse bytes)
low_is_high bytes = ap low (sym (reverse-reverse bytes))

turned_is_block : (m : Mode) (bytes : List ℕ) → IsBlock m bytes → IsBlock m (reverse bytes)
turned_is_block m bytes (size, are) = (length-reverse bytes ∙ size, AreBytes-reverse bytes are)

numbers_make_blocks : (m : Mode) (encrypt : List Bool → ℕ → ℕ) (key : List Bool) (counter : List ℕ) → IsBlock m (on_numbers m.block encrypt key counter)
numbers_make_blocks m encrypt key counter = (length-each _ m.block, bytes_of_are_bytes m.block (encrypt key (big_endian counter)))

module _ (reading : List ℕ → List Bool) (encrypt : List Bool → ℕ → ℕ) (m : Mode) (is : EnciphersNumbers reading encrypt m) where
  -- the circuit on bytes that are read high first
  value_high : (key : List Bool) (counter block : List ℕ) → length key ≡ m.key → IsBlock m counter → IsBlock m block →
      plain m.circuit (key ++ (high counter ++ high block)) ≡ high (xor_bytes block (on_numbers m.block encrypt key counter))
  value_high key counter block size counter_is block_is =
      let bits : (bytes : List ℕ) → length bytes ≡ m.block → length (high bytes) ≡ 8 * m.block
      = λ bytes e. bytes_are_read.high_first.count bytes ∙ ap (λ (n : ℕ). 8 * n) e in
      is.value key (high counter) (high block) size (bits counter counter_is.0) (bits block block_is.0)
      ∙ ap₂ (λ (c b : ℕ). lowest (8 * m.block) (bit_xor (encrypt key c) b)) (number_of_high counter counter_is.1) (number_of_high block block_is.1)
      ∙ sym (high-xor m.block (encrypt key (big_endian counter)) block block_is.0 block_is.1)

  -- and read low first
  value_low : (key : List Bool) (counter block : List ℕ) → length key ≡ m.key → IsBlock m counter → IsBlock m block →
      plain m.circuit (key ++ (low counter ++ low block)) ≡ low (xor_bytes block (on_little_numbers m.block encrypt key counter))
  value_low key counter block size counter_is block_is =
      let made = on_numbers m.block encrypt key (reverse counter) in
      let same : length (reverse block) ≡ length made
      = length-reverse block ∙ block_is.0 ∙ sym (numbers_make_blocks m encrypt key (reverse counter)).0 in
      ap₂ (λ (c b : List Bool). plain m.circuit (key ++ (c ++ b))) (low_is_high counter) (low_is_high block)
      ∙ value_high key (reverse counter) (reverse block) size (turned_is_block m counter counter_is) (turned_is_block m block block_is)
      ∙ ap low (sym (xor_bytes-reverse (reverse block) made same) ∙ ap (λ bytes. xor_bytes bytes (reverse made)) (reverse-reverse block))

pub numbers_are_blocks : NumbersAreBlocks
numbers_are_blocks = record {
  high_first = λ m encrypt is. record {
    circuits = is.circuits;
    reads = subst IsReading (sym is.reads) bytes_are_read.high_first;
    is_block = λ key counter size block_is. numbers_make_blocks m encrypt key counter;
    value = λ key counter block size counter_is block_is.
        subst (λ (reading : List ℕ → List Bool). plain m.circuit (key ++ (reading counter ++ reading block)) ≡ reading (xor_bytes block (on_numbers m.block encrypt key counter)))
        (sym is.reads) (value_high high encrypt m is key counter block size counter_is block_is);
  };
  low_first = λ m encrypt is. record {
    circuits = is.circuits;
    reads = subst IsReading (sym is.reads) bytes_are_read.low_first;
    is_block = λ key counter size block_is.
        turned_is_block m (on_numbers m.block encrypt key (reverse counter)) (numbers_make_blocks m encrypt key (reverse counter));
    value = λ key counter block size counter_is block_is.
        subst (λ (reading : List ℕ → List Bool). plain m.circuit (key ++ (reading counter ++ reading block)) ≡ reading (xor_bytes block (on_little_numbers m.block encrypt key counter)))
        (sym is.reads) (value_low low encrypt m is key counter block size counter_is block_is);
  };
}
