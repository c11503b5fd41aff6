-- Keystreams in parts, and what is made with them.
use Rattle.std.proofs.Common.{◌≡◌, ℕ, ◌+◌, ◌-◌, ◌*◌, ◌^◌, ◌<◌, ◌≤◌, Bool, List, ◌++◌, length, take, ap, sym, ◌∙◌, arith, length-append, add_assoc}
use Rattle.std.proofs.lemmas.List.{length-take}
use Rattle.std.proofs.lemmas.Nat.{mod_below, pow_pos}
use Rattle.mask_circuit.specs.Wires.{joined}
use Rattle.mask_circuit.proofs.Places.{length-each, length-joined}
use Rattle.mask_gadget.proofs.Made.{joined-same}
use Rattle.mask_modes.specs.CounterMode.{MakesBlocks, bytes_of, block_count, counter, keystream, ciphertext_from, xor_bytes}
use Rattle.mask_bits.specs.Reading.{AreBytes}
use Rattle.mask_modes.specs.Steps.{Cipher, Mode, Enciphers, IsBlock}
use Rattle.mask_modes.specs.Laws.{CiphertextFits}
use Rattle.mask_modes.proofs.BlockCounts.{block_count-add, block_count-whole, le-block_count, block_count_grows}
use Rattle.mask_laws.proofs.CircuitNames.{All-each}
use Rattle.mask_modes.proofs.Pieces.{joined-add}
use Rattle.mask_modes.proofs.Xors.{length-xor_bytes, xor_bytes-append, xor_bytes-append_right, xor_bytes-take, xor_bytes_twice}

pub length-counter : (b iv i : ℕ) → length (counter b iv i) ≡ b
length-counter b iv i = length-each _ b

pub bytes_of_are_bytes : (n x : ℕ) → AreBytes (bytes_of n x)
bytes_of_are_bytes n x = All-each (λ byte. byte < 2 ^ 8) _ n (λ k lt. mod_below _ (2 ^ 8) (pow_pos 8))

-- a counter is a block
pub counter_is_block : (m : Mode) (i : ℕ) → IsBlock m (counter m.block m.iv i)
counter_is_block m i = (length-counter m.block m.iv i, bytes_of_are_bytes m.block _)

pub makes_blocks : (m : Mode) (cipher : Cipher) (key : List Bool) → Enciphers cipher m → length key ≡ m.key → MakesBlocks m.block m.iv (cipher key)
makes_blocks m cipher key is size i = (is.is_block key (counter m.block m.iv i) size (counter_is_block m i)).0

module _ (b iv : ℕ) (cipher : List ℕ → List ℕ) (some : 0 < b) (makes : MakesBlocks b iv cipher) where
  length-keystream : (i n : ℕ) → length (keystream b iv cipher i n) ≡ n * b
  unfolding keystream
  length-keystream i n = length-joined (λ j. cipher (counter b iv (i + j))) b n (λ j. makes (i + j))

  keystream-add : (i m n : ℕ) → keystream b iv cipher i (m + n) ≡ keystream b iv cipher i m ++ keystream b iv cipher (i + m) n
  unfolding keystream
  keystream-add i m n =
      joined-add (λ j. cipher (counter b iv (i + j))) m n
      ∙ ap (λ l. joined (λ j. cipher (counter b iv (i + j))) m ++ l)
      (joined-same _ _ n (λ j lt. ap (λ (k : ℕ). cipher (counter b iv k)) (sym (add_assoc i m j))))

  -- the keystream is long enough
  covered : (i : ℕ) (part : List ℕ) → length part ≤ length (keystream b iv cipher i (block_count b (length part)))
  covered i part = omega (arith, length-keystream i (block_count b (length part)), le-block_count b (length part) some)

  -- more keystream than it takes changes nothing
  ciphertext-more : (i n : ℕ) (part : List ℕ) → block_count b (length part) ≤ n → xor_bytes part (keystream b iv cipher i n) ≡ ciphertext_from b iv cipher i part
  unfolding ciphertext_from
  ciphertext-more i n part le =
      let count = block_count b (length part) in
      let e : n ≡ count + (n - count) = omega arith in
      ap (λ (k : ℕ). xor_bytes part (keystream b iv cipher i k)) e
      ∙ ap (xor_bytes part) (keystream-add i count (n - count))
      ∙ xor_bytes-append_right part (keystream b iv cipher i count) _ (covered i part)

  pub length-ciphertext : (i : ℕ) (part : List ℕ) → length (ciphertext_from b iv cipher i part) ≡ length part
  unfolding ciphertext_from
  length-ciphertext i part = length-xor_bytes part _ (covered i part)

  pub ciphertext-take : (i n : ℕ) (part : List ℕ) → ciphertext_from b iv cipher i (take n part) ≡ take n (ciphertext_from b iv cipher i part)
  unfolding ciphertext_from
  ciphertext-take i n part =
      sym (ciphertext-more i (block_count b (length part)) (take n part) (block_count_grows b _ (length part) some (omega (arith, length-take n part))))
      ∙ xor_bytes-take n part (keystream b iv cipher i (block_count b (length part)))

  pub ciphertext_twice : (i : ℕ) (part : List ℕ) → ciphertext_from b iv cipher i (ciphertext_from b iv cipher i part) ≡ part
  unfolding ciphertext_from
  ciphertext_twice i part =
      ap (λ (n : ℕ). xor_bytes (ciphertext_from b iv cipher i part) (keystream b iv cipher i (block_count b n))) (length-ciphertext i part)
      ∙ xor_bytes_twice part (keystream b iv cipher i (block_count b (length part))) (covered i part)

  pub ciphertext-append : (i n : ℕ) (front rest : List ℕ) → length front ≡ n * b →
      ciphertext_from b iv cipher i (front ++ rest) ≡ ciphertext_from b iv cipher i front ++ ciphertext_from b iv cipher (i + n) rest
  unfolding ciphertext_from
  ciphertext-append i n front rest whole =
      let whole_count : block_count b (length front) ≡ n = ap (block_count b) whole ∙ block_count-whole b n some in
      let count : block_count b (length (front ++ rest)) ≡ n + block_count b (length rest)
      = ap (block_count b) (length-append front rest ∙ ap (λ (k : ℕ). k + length rest) whole) ∙ block_count-add b n (length rest) some in
      ap (λ (k : ℕ). xor_bytes (front ++ rest) (keystream b iv cipher i k)) count
      ∙ ap (xor_bytes (front ++ rest)) (keystream-add i n (block_count b (length rest)))
      ∙ xor_bytes-append front rest (keystream b iv cipher i n) (keystream b iv cipher (i + n) (block_count b (length rest))) (whole ∙ sym (length-keystream i n))
      ∙ ap (λ (k : ℕ). xor_bytes front (keystream b iv cipher i k) ++ ciphertext_from b iv cipher (i + n) rest) (sym whole_count)

pub ciphertext_fits : CiphertextFits
ciphertext_fits = record {
  as_long = λ b iv cipher i part some makes. length-ciphertext b iv cipher some makes i part;
  front = λ b iv cipher i n part some makes. ciphertext-take b iv cipher some makes i n part;
  decrypts = λ b iv cipher i part some makes. ciphertext_twice b iv cipher some makes i part;
  blocks = makes_blocks;
}
