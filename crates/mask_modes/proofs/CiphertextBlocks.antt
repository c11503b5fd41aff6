-- The ciphertext as blocks end to end.
use Rattle.std.proofs.Common.{◌≡◌, ℕ, zero, suc, ◌+◌, ◌-◌, ◌*◌, ◌/◌, ◌%◌, ◌<◌, ◌≤◌, List, ◌++◌, length, take, drop, replicate, get_or, inl, inr, refl, ap, ap₂, sym, ◌∙◌, arith}
use Rattle.std.proofs.Math.Seq.{take-add}
use Rattle.std.proofs.lemmas.Bool.{cases_lt}
use Rattle.std.proofs.lemmas.List.{drop-append-le, take-append-le, take_all, take-take, get_or-take, get_or_append_left, get_or-append_right}
use Rattle.std.proofs.lemmas.Nat.{div-add-mod', div_below, mod_below, mul-add-lt, row_fits}
use Rattle.std.proofs.Math.Nat.{div-mul-le_self}
use Rattle.mask_circuit.specs.Wires.{joined}
use Rattle.mask_circuit.proofs.Places.{length-joined}
use Rattle.mask_gadget.proofs.Made.{joined-same}
use Rattle.mask_modes.specs.CounterMode.{MakesBlocks, block_count, counter, keystream, ciphertext_from, xor_bytes}
use Rattle.mask_modes.specs.Steps.{block_at}
use Rattle.mask_modes.specs.Outputs.{ciphertext_block}
use Rattle.mask_modes.specs.Laws.{CiphertextInBlocks}
use Rattle.mask_modes.proofs.BlockCounts.{le-block_count}
use Rattle.mask_modes.proofs.Blocks.{length-block_at}
use Rattle.mask_modes.proofs.Xors.{length-xor_bytes, xor_bytes-append, xor_bytes-take}

-- pieces of b elements each, from the front of a list
pieces : {A : Type 0} (b n : ℕ) (xs : List A) → joined (λ j. take b (drop (j * b) xs)) n ≡ take (n * b) xs
pieces b zero xs = let e : 0 ≡ 0 * b = omega arith in ap (λ (k : ℕ). take k xs) e
pieces b (suc n) xs =
    let e : n * b + b ≡ suc n * b = omega arith in
    ap (λ l. l ++ take b (drop (n * b) xs)) (pieces b n xs) ∙ sym (take-add (n * b) b xs) ∙ ap (λ (k : ℕ). take k xs) e

-- an element of pieces of b elements each
get_or-joined : {A : Type 0} (f : ℕ → List A) (b n j p : ℕ) (d : A) → ((i : ℕ) → length (f i) ≡ b) → j < n → p < b →
    get_or (joined f n) (j * b + p) d ≡ get_or (f j) p d
get_or-joined f b zero j p d size lt below = absurd (omega arith)
get_or-joined f b (suc n) j p d size lt below =
    let long : length (joined f n) ≡ n * b = length-joined f b n size in
    elim (cases_lt j n) [
      | inl low ↦ let within : j * b + p < b * n = mul-add-lt j b p n low below in
          get_or_append_left (joined f n) (f n) d (j * b + p) (omega arith) ∙ get_or-joined f b n j p d size low below
      | inr high ↦ let e : n ≡ j = omega arith in
          let last : n * b ≡ j * b = ap (λ (k : ℕ). k * b) e in
          let place : j * b + p - n * b ≡ p = omega arith in
          get_or-append_right (joined f n) (f n) (n * b) (j * b + p) d long (omega arith) ∙ ap₂ (λ (i q : ℕ). get_or (f i) q d) e place
    ]

-- what stands piece by piece
joined_xors : (f g : ℕ → List ℕ) (b n : ℕ) → ((i : ℕ) → length (f i) ≡ b) → ((i : ℕ) → length (g i) ≡ b) →
    joined (λ i. xor_bytes (f i) (g i)) n ≡ xor_bytes (joined f n) (joined g n)
joined_xors f g b zero size size' = refl
joined_xors f g b (suc n) size size' =
    ap (λ l. l ++ xor_bytes (f n) (g n)) (joined_xors f g b n size size')
    ∙ sym (xor_bytes-append (joined f n) (f n) (joined g n) (g n) (length-joined f b n size ∙ sym (length-joined g b n size')))

-- the blocks of a part end to end are the part, filled up
joined_blocks : (b : ℕ) (part : List ℕ) → 0 < b →
    joined (block_at b part) (block_count b (length part)) ≡ take (block_count b (length part) * b) (part ++ replicate b 0)
joined_blocks b part some =
    let n = block_count b (length part) in
    let up_to : n * b ≤ length part + (b - 1) = div-mul-le_self (length part + (b - 1)) b in
    joined-same _ _ n (λ j lt.
    let within : j * b + b ≤ n * b = row_fits j b n b lt (omega arith) in
    ap (take b) (sym (drop-append-le (j * b) part (replicate b 0) (omega arith))))
    ∙ pieces b n (part ++ replicate b 0)

module _ (b iv : ℕ) (cipher : List ℕ → List ℕ) (some : 0 < b) (makes : MakesBlocks b iv cipher) where
  length-ciphertext_block : (i : ℕ) (part : List ℕ) (j : ℕ) → length (ciphertext_block b iv cipher i part j) ≡ b
  length-ciphertext_block i part j =
      let long = makes (i + j) in
      length-xor_bytes (block_at b part j) (cipher (counter b iv (i + j))) (omega (arith, length-block_at b part j)) ∙ length-block_at b part j

  pub ciphertext_whole : (i : ℕ) (part : List ℕ) →
      ciphertext_from b iv cipher i part ≡ take (length part) (joined (ciphertext_block b iv cipher i part) (block_count b (length part)))
  unfolding ciphertext_from keystream
  ciphertext_whole i part =
      let n = block_count b (length part) in
      let parts = joined (block_at b part) n in
      let filled : take (length part) parts ≡ part
      = ap (take (length part)) (joined_blocks b part some)
      ∙ take-take (length part) (n * b) (part ++ replicate b 0) (le-block_count b (length part) some)
      ∙ take-append-le (length part) part (replicate b 0) (omega arith)
      ∙ take_all (length part) part (omega arith) in
      ap (λ l. xor_bytes l (keystream b iv cipher i n)) (sym filled)
      ∙ xor_bytes-take (length part) parts (keystream b iv cipher i n)
      ∙ ap (take (length part))
      (sym (joined_xors (block_at b part) (λ j. cipher (counter b iv (i + j))) b n (length-block_at b part) (λ j. makes (i + j))))

  pub ciphertext_byte : (i : ℕ) (part : List ℕ) (k : ℕ) → k < length part →
      get_or (ciphertext_from b iv cipher i part) k 0 ≡ get_or (ciphertext_block b iv cipher i part (k / b)) (k % b) 0
  ciphertext_byte i part k lt =
      let n = block_count b (length part) in
      let place : k ≡ k / b * b + k % b = sym (div-add-mod' k b) in
      let within : k < n * b = omega (arith, le-block_count b (length part) some) in
      ap (λ l. get_or l k 0) (ciphertext_whole i part)
      ∙ get_or-take (length part) (joined (ciphertext_block b iv cipher i part) n) k 0 lt
      ∙ ap (λ (q : ℕ). get_or (joined (ciphertext_block b iv cipher i part) n) q 0) place
      ∙ get_or-joined (ciphertext_block b iv cipher i part) b n (k / b) (k % b) 0 (length-ciphertext_block i part) (div_below k b n some within) (mod_below k b some)

pub ciphertext_in_blocks : CiphertextInBlocks
ciphertext_in_blocks = record {
  whole = λ b iv cipher i part some makes. ciphertext_whole b iv cipher some makes i part;
  byte = λ b iv cipher i part k some makes lt. ciphertext_byte b iv cipher some makes i part k lt;
}
