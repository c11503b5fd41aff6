-- The sum of blocks, block by block and byte by byte.
use Rattle.std.proofs.Common.{◌≡◌, ℕ, zero, suc, ◌+◌, ◌-◌, ◌*◌, ◌<◌, ◌≤◌, List, [], ◌∷◌, ◌++◌, length, take, drop, get_or, replicate, bit_xor, fold, min, inl, inr, refl, ap, ap₂, sym, ◌∙◌, arith, length-append}
use Rattle.std.proofs.lemmas.Bool.{cases_lt}
use Rattle.std.proofs.lemmas.List.{append-nil, ext_get_or, get_or_past, length-drop, length-replicate, length-take-le, take_all, take-append-le}
use Rattle.std.proofs.lemmas.List.Sums.{fold-append}
use Rattle.std.proofs.Math.Seq.{take-append-add}
use Rattle.std.specs.Int.Bits.{xor_zero_r}
use Rattle.mask_circuit.specs.Wires.{each}
use Rattle.mask_modes.specs.CounterMode.{xor_bytes}
use Rattle.mask_modes.specs.Steps.{block_at}
use Rattle.mask_modes.proofs.Xors.{length-xor_bytes}

-- A BLOCK

get_or-xor_bytes : (xs ys : List ℕ) (j : ℕ) → length xs ≡ length ys → get_or (xor_bytes xs ys) j 0 ≡ bit_xor (get_or xs j 0) (get_or ys j 0)
get_or-xor_bytes [] [] j same = refl
get_or-xor_bytes [] (y ∷ ys) j same = absurd (omega arith)
get_or-xor_bytes (x ∷ xs) [] j same = absurd (omega arith)
get_or-xor_bytes (x ∷ xs) (y ∷ ys) zero same = refl
get_or-xor_bytes (x ∷ xs) (y ∷ ys) (suc j) same = get_or-xor_bytes xs ys j (omega arith)

-- zeros behind a list don't show
get_or-filled : (xs : List ℕ) (n j : ℕ) → get_or (xs ++ replicate n 0) j 0 ≡ get_or xs j 0
get_or-filled [] zero j = refl
get_or-filled [] (suc n) zero = refl
get_or-filled [] (suc n) (suc j) = get_or-filled [] n j
get_or-filled (x ∷ xs) n zero = refl
get_or-filled (x ∷ xs) n (suc j) = get_or-filled xs n j

-- bytes that were added one by one
pub block-added : (old now block : List ℕ) → length old ≡ 16 → length now ≡ 16 → length block ≤ 16 →
    ((j : ℕ) → j < length block → get_or now j 0 ≡ bit_xor (get_or old j 0) (get_or block j 0)) → ((j : ℕ) → length block ≤ j → get_or now j 0 ≡ get_or old j 0) →
    now ≡ xor_bytes old (block ++ replicate (16 - length block) 0)
block-added old now block size size' few done rest =
    let filled = block ++ replicate (16 - length block) 0 in
    let full : length filled ≡ 16 = omega (arith, length-append block (replicate (16 - length block) 0), length-replicate {A = ℕ} (16 - length block) 0) in
    let same : length old ≡ length filled = omega arith in
    ext_get_or 0 now (xor_bytes old filled) (size' ∙ sym (length-xor_bytes old filled (omega arith) ∙ size)) (λ j lt.
    elim (cases_lt j (length block)) [
      | inl within ↦ done j within ∙ sym (get_or-xor_bytes old filled j same ∙ ap (bit_xor (get_or old j 0)) (get_or-filled block (16 - length block) j))
      | inr past ↦
          rest j past
          ∙ sym (get_or-xor_bytes old filled j same ∙ ap (bit_xor (get_or old j 0)) (get_or-filled block (16 - length block) j ∙ get_or_past block j 0 past) ∙ xor_zero_r (get_or old j 0))
    ])

-- BLOCKS

-- so many bytes of those that are left, and zeros behind them
block-filled : (left : List ℕ) (n : ℕ) → n ≡ min (length left) 16 → take 16 (left ++ replicate 16 0) ≡ take n left ++ replicate (16 - length (take n left)) 0
block-filled left n is = elim (cases_lt (length left) 16) [
  | inl few ↦
      let all : n ≡ length left = omega (arith, is) in
      let same : take n left ≡ left = take_all n left (omega arith) in
      let split : 16 ≡ length left + (16 - length left) = omega arith in
      ap (λ (k : ℕ). take k (left ++ replicate 16 0)) split
      ∙ take-append-add left (replicate 16 0) (16 - length left)
      ∙ ap (λ (l : List ℕ). left ++ l) (take-zeros (16 - length left) 16 (omega arith))
      ∙ ap (λ (l : List ℕ). l ++ replicate (16 - length l) 0) (sym same)
  | inr many ↦
      let all : n ≡ 16 = omega (arith, is) in
      let size : length (take n left) ≡ 16 = length-take-le n left (omega arith) ∙ all in
      let none : 16 - length (take n left) ≡ 0 = omega arith in
      take-append-le 16 left (replicate 16 0) many
      ∙ ap (λ (k : ℕ). take k left) (sym all)
      ∙ sym (append-nil (take n left))
      ∙ ap (λ (k : ℕ). take n left ++ replicate k 0) (sym none)
]
  where
    take-zeros : (k m : ℕ) → k ≤ m → take k (replicate {A = ℕ} m 0) ≡ replicate k 0
    take-zeros zero m le = refl
    take-zeros (suc k) zero le = absurd (omega arith)
    take-zeros (suc k) (suc m) le = ap (λ (l : List ℕ). 0 ∷ l) (take-zeros k m (omega arith))

-- a block from its first byte on
pub block-from : (bytes : List ℕ) (i start n : ℕ) → start ≡ 16 * i → n ≡ min (length bytes) (16 * i + 16) - 16 * i →
    block_at 16 bytes i ≡ take n (drop start bytes) ++ replicate (16 - length (take n (drop start bytes))) 0
block-from bytes i start n from is =
    let place : i * 16 ≡ start = omega arith in
    ap (λ (k : ℕ). take 16 (drop k bytes ++ replicate 16 0)) place ∙ block-filled (drop start bytes) n (omega (arith, is, length-drop start bytes))

-- one block more
pub sum-more : (bytes sum : List ℕ) (i : ℕ) (block : List ℕ) → sum ≡ fold xor_bytes (replicate 16 0) (each (block_at 16 bytes) i) → block ≡ block_at 16 bytes i →
    xor_bytes sum block ≡ fold xor_bytes (replicate 16 0) (each (block_at 16 bytes) (i + 1))
sum-more bytes sum i block so_far is =
    let e : i + 1 ≡ suc i = omega arith in
    ap₂ xor_bytes so_far is
    ∙ sym (ap (λ (n : ℕ). fold xor_bytes (replicate 16 0) (each (block_at 16 bytes) n)) e
    ∙ fold-append xor_bytes (replicate 16 0) (each (block_at 16 bytes) i) (block_at 16 bytes i ∷ []))
