-- The sum of two words: its gates, and what they compute, carry by carry.
use Rattle.std.proofs.Common.{◌≡◌, ℕ, zero, suc, ◌+◌, ◌*◌, ◌/◌, ◌%◌, ◌^◌, ◌<◌, Bool, true, false, ◌&&◌, List, [], ◌∷◌, ◌++◌, length, map, slice_index, All, refl, ap, ap₂, ◌∙◌, subst, arith, lit<, add-zero, if◌then◌else◌}
use Rattle.std.specs.List.{range_with_len}
use Rattle.std.proofs.Math.Arith.{mod-mul}
use Rattle.std.proofs.Math.Nat.{pow-suc}
use Rattle.std.proofs.lemmas.List.Elements.{All-append}
use Rattle.std.proofs.lemmas.Nat.{pow_pos}
use Rattle.mask_bits.specs.Reading.{number}
use Rattle.mask_circuit.specs.Netlist.{Netlist, AreGates, value_count}
use Rattle.mask_circuit.specs.Value.{xor, value_at, plain_values}
use Rattle.mask_parts.specs.declared.tables.Step.{Step}
use Rattle.mask_parts.specs.Drafts.{with_gates, bits_of}
use Rattle.mask_parts.specs.Tables.{gates_from, part_usable, is_part, with_part}
use Rattle.mask_parts.specs.Tidiness.{KeepsTidy}
use Rattle.mask_parts.specs.Words32.{half_adder, full_adder, ripple, sum32_steps, sum32_gates, with_sum32, sum_place, sum32_results}
use Rattle.mask_parts.proofs.PartGates.{AreGates-part}
use Rattle.mask_parts.proofs.PartTidiness.{AreFree, are_usable, KeepsTidy-usable}
use Rattle.mask_parts.proofs.Solving.{Solves, Solves-with_gates, bits_of-with_gates}
use Rattle.mask_parts.proofs.WordParts.{length-both, first_word, second_word}

-- GATES

pub is_part-sum32 : is_part 64 sum32_steps ≡ true
unfolding sum32_steps
is_part-sum32 = refl

pub length-sum32_gates : (n : ℕ) (xs ys : List ℕ) → length (sum32_gates n xs ys) ≡ 185
unfolding sum32_gates sum32_steps
length-sum32_gates n xs ys = refl

pub AreGates-sum32 : (n : ℕ) (xs ys : List ℕ) → length xs ≡ 32 → length ys ≡ 32 → All (λ u. u < n) xs → All (λ u. u < n) ys → AreGates n (sum32_gates n xs ys)
unfolding sum32_gates
AreGates-sum32 n xs ys x_long y_long x_below y_below =
    AreGates-part n (xs ++ ys) sum32_steps (All-append (λ u. u < n) xs ys x_below y_below) (rw (length-both xs ys x_long y_long) is_part-sum32)

pub with_sum32-with_part : (c : Netlist) (xs ys : List ℕ) → with_sum32 c xs ys ≡ with_part c (xs ++ ys) sum32_steps
unfolding with_sum32 sum32_gates with_part
with_sum32-with_part c xs ys = refl

-- ONE BIT

abbrev digit : Bool → ℕ
digit b = if b then 1 else 0

abbrev sum_bit : Bool → Bool → Bool → Bool
sum_bit x y c = xor x (xor y c)

abbrev carry_bit : Bool → Bool → Bool → Bool
carry_bit x y c = xor (xor x c && xor y c) c

-- the truth table of a full adder
full_sum : (x y c : Bool) → digit (sum_bit x y c) + 2 * digit (carry_bit x y c) ≡ digit x + digit y + digit c
full_sum true true true = refl
full_sum true true false = refl
full_sum true false true = refl
full_sum true false false = refl
full_sum false true true = refl
full_sum false true false = refl
full_sum false false true = refl
full_sum false false false = refl

-- and of a half adder
half_sum : (x y : Bool) → digit (xor x y) + 2 * digit (x && y) ≡ digit x + digit y + 0
half_sum true true = refl
half_sum true false = refl
half_sum false true = refl
half_sum false false = refl

digit-lt : (b : Bool) → digit b < 2
digit-lt true = lit< tt
digit-lt false = lit< tt

-- a digit s of a sum before the rest of it, where c is the carry into the digit and d the carry out of it
with_low : (s d x y c m n p : ℕ) → s < 2 → 0 < p → s + 2 * d ≡ x + y + c → s + 2 * ((m + n + d) % p) ≡ (x + 2 * m + (y + 2 * n) + c) % (p * 2)
with_low s d x y c m n p small some digits =
    let t = m + n + d in
    let all : x + 2 * m + (y + 2 * n) + c ≡ s + 2 * t = omega arith in
    let quotient : (s + 2 * t) / 2 ≡ t = omega arith in
    let rest : (s + 2 * t) % 2 ≡ s = omega arith in
    rw (all, mod-mul (s + 2 * t) some (lit< tt), quotient, rest) (omega arith)

-- ALL BITS

-- the values that are the sum's bits, from one after k others on, where value c is the carry
abbrev ripple_sums : ℕ → ℕ → List ℕ
ripple_sums zero c = (c + 2) ∷ []
ripple_sums (suc k) c = (c + 3) ∷ ripple_sums k (c + 6)

-- the part on the values zs, from value n on
module _ (vs : List Bool) (n : ℕ) (zs : List ℕ) where
  abbrev x_bit : ℕ → Bool
  x_bit i = value_at vs (slice_index zs i)

  abbrev y_bit : ℕ → Bool
  y_bit i = value_at vs (slice_index zs (32 + i))

  abbrev made : ℕ → Bool
  made k = value_at vs (n + k)

  -- the number of the k bits from bit i on
  abbrev x_number : ℕ → ℕ → ℕ
  x_number i k = number (map x_bit (range_with_len i k))

  abbrev y_number : ℕ → ℕ → ℕ
  y_number i k = number (map y_bit (range_with_len i k))

  at : (j k : ℕ) → n + k ≡ j → made k ≡ value_at vs j
  at j k same = ap (value_at vs) same

  full_adder-solved : (i c : ℕ) (rest : List Step) → Solves vs (n + (c + 1)) (gates_from n zs (c + 1) (full_adder i c ++ rest)) →
      (made (c + 3) ≡ sum_bit (x_bit i) (y_bit i) (made c)) × (made (c + 6) ≡ carry_bit (x_bit i) (y_bit i) (made c))
      × Solves vs (n + (c + 6 + 1)) (gates_from n zs (c + 6 + 1) rest)
  full_adder-solved i c rest s =
      let p : made (c + 1) ≡ xor (x_bit i) (made c) = s.0 in
      let q : made (c + 2) ≡ xor (y_bit i) (made c) = at _ (c + 2) (omega arith) ∙ s.1.0 in
      let t : made (c + 3) ≡ xor (x_bit i) (made (c + 2)) = at _ (c + 3) (omega arith) ∙ s.1.1.0 in
      let r : made (c + 4) ≡ made (c + 2) = at _ (c + 4) (omega arith) ∙ s.1.1.1.0 in
      let fresh : n + (c + 1 + 1 + 1 + 1) ≡ n + (c + 4) = omega arith in
      let m : made (c + 5) ≡ (made (c + 1) && made (c + 4)) =
      at _ (c + 5) (omega arith) ∙ s.1.1.1.1.0 ∙ ap (λ v. made (c + 1) && value_at vs v) fresh in
      let k : made (c + 6) ≡ xor (made (c + 5)) (made c) = at _ (c + 6) (omega arith) ∙ s.1.1.1.1.1.0 in
      let count : c + 1 + 1 + 1 + 1 + 2 + 1 ≡ c + 6 + 1 = omega arith in
      let next : suc (suc (suc (suc (suc (suc (n + (c + 1))))))) ≡ n + (c + 6 + 1) = omega arith in (
        t ∙ ap (xor (x_bit i)) q,
        k ∙ ap (λ b. xor b (made c)) (m ∙ ap₂ ◌&&◌ p (r ∙ q)),
        subst (λ j. Solves vs (n + (c + 6 + 1)) (gates_from n zs j rest)) count
            (subst (λ j. Solves vs j (gates_from n zs (c + 1 + 1 + 1 + 1 + 2 + 1) rest)) next s.1.1.1.1.1.1),
      )

  -- the sum of the bits from bit i on and of the carry into it
  ripple-solved : (k i c : ℕ) → Solves vs (n + (c + 1)) (gates_from n zs (c + 1) (ripple k i c)) →
      number (map made (ripple_sums k c)) ≡ (x_number i (suc k) + y_number i (suc k) + digit (made c)) % 2 ^ suc k
  ripple-solved zero i c s =
      let p : made (c + 1) ≡ xor (y_bit i) (made c) = s.0 in
      let t : made (c + 2) ≡ sum_bit (x_bit i) (y_bit i) (made c) = at _ (c + 2) (omega arith) ∙ s.1.0 ∙ ap (xor (x_bit i)) p in
      let table = full_sum (x_bit i) (y_bit i) (made c) in
      let small = digit-lt (sum_bit (x_bit i) (y_bit i) (made c)) in
      rw t (omega arith)
  ripple-solved (suc k) i c s =
      let here = full_adder-solved i c (ripple k (i + 1) (c + 6)) s in
      let later = ripple-solved k (i + 1) (c + 6) here.2 in
      rw (here.0, later, here.1, pow-suc 2 (suc k))
      (with_low _ _ _ _ _ _ _ (2 ^ suc k) (digit-lt (sum_bit (x_bit i) (y_bit i) (made c))) (pow_pos (suc k)) (full_sum (x_bit i) (y_bit i) (made c)))

  -- the sum of all bits, of which the first is a half adder's
  sum-solved : Solves vs n (gates_from n zs 0 (half_adder ++ ripple 30 1 2)) →
      number (map made (0 ∷ ripple_sums 30 2)) ≡ (x_number 0 32 + y_number 0 32) % 2 ^ 32
  sum-solved s =
      let t : made 0 ≡ xor (x_bit 0) (y_bit 0) = at n 0 (add-zero n) ∙ s.0 in
      let fresh : n + (0 + 1) ≡ suc n = omega arith in
      let k : made 2 ≡ (x_bit 0 && y_bit 0) = at _ 2 (omega arith) ∙ s.1.1.0 ∙ ap (λ v. x_bit 0 && value_at vs v) fresh ∙ ap (λ b. x_bit 0 && b) s.1.0 in
      let next : suc (suc (suc n)) ≡ n + (2 + 1) = omega arith in
      let later = ripple-solved 30 1 2 (subst (λ j. Solves vs j (gates_from n zs 3 (ripple 30 1 2))) next s.1.1.1) in
      ap₂ (λ b m. digit b + 2 * m) t (later ∙ ap (λ b. (x_number 1 31 + y_number 1 31 + digit b) % 2 ^ 31) k)
      ∙ with_low (digit (xor (x_bit 0) (y_bit 0))) (digit (x_bit 0 && y_bit 0)) (digit (x_bit 0)) (digit (y_bit 0)) 0 (x_number 1 31) (y_number 1 31) (2 ^ 31)
      (digit-lt (xor (x_bit 0) (y_bit 0))) (pow_pos 31) (half_sum (x_bit 0) (y_bit 0))
      ∙ ap (λ m. m % 2 ^ 32) (add-zero (x_number 0 32 + y_number 0 32))

-- the results are those of the ripple
sum32_results-bits : (vs : List Bool) (n : ℕ) → map (value_at vs) (sum32_results n) ≡ map (made vs n []) (0 ∷ ripple_sums 30 2)
unfolding sum32_results
sum32_results-bits vs n = refl

-- values that solve its gates
pub sum32-solved : (vs : List Bool) (n : ℕ) (xs ys : List ℕ) → length xs ≡ 32 → length ys ≡ 32 → Solves vs n (sum32_gates n xs ys) →
    number (map (value_at vs) (sum32_results n)) ≡ (number (map (value_at vs) xs) + number (map (value_at vs) ys)) % 2 ^ 32
unfolding sum32_gates sum32_steps
sum32-solved vs n xs ys x_long y_long s =
    ap number (sum32_results-bits vs n) ∙ sum-solved vs n (xs ++ ys) s
    ∙ ap₂ (λ (a b : List Bool). (number a + number b) % 2 ^ 32) (first_word (value_at vs) 0 false xs ys x_long) (second_word (value_at vs) 0 false xs ys x_long y_long)

-- a draft with it at its end
pub number-with_sum32 : (c : Netlist) (xs ys : List ℕ) (x : List Bool) → length xs ≡ 32 → length ys ≡ 32 → All (λ u. u < value_count c) xs →
    All (λ u. u < value_count c) ys → length x ≡ c.inputs →
    number (bits_of (with_sum32 c xs ys) x (sum32_results (value_count c))) ≡ (number (bits_of c x xs) + number (bits_of c x ys)) % 2 ^ 32
unfolding with_sum32 bits_of
number-with_sum32 c xs ys x x_long y_long x_below y_below long =
    let n = value_count c in
    let gs = sum32_gates n xs ys in
    sum32-solved (plain_values (with_gates c gs) x) n xs ys x_long y_long (Solves-with_gates c gs x long (AreGates-sum32 n xs ys x_long y_long x_below y_below))
    ∙ ap₂ (λ (a b : List Bool). (number a + number b) % 2 ^ 32) (bits_of-with_gates c gs x xs long x_below) (bits_of-with_gates c gs x ys long y_below)

-- TIDINESS

pub usable-sum32 : are_usable (part_usable sum32_steps) (map sum_place (range_with_len 0 32)) ≡ true
unfolding sum32_steps
usable-sum32 = refl

pub results_from : (n : ℕ) → map (λ k. n + k) (map sum_place (range_with_len 0 32)) ≡ sum32_results n
unfolding sum32_results
results_from n = refl

-- where the values that its table flags are free, so are its results
pub KeepsTidy-sum32_results : (c d : Netlist) (n : ℕ) → KeepsTidy c d [] → AreFree d n (part_usable sum32_steps) → KeepsTidy c d (sum32_results n)
KeepsTidy-sum32_results c d n kept free = KeepsTidy-usable c d n (part_usable sum32_steps) (map sum_place (range_with_len 0 32)) (sum32_results n) usable-sum32 (results_from n) kept free
