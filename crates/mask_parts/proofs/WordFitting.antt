-- How many values the parts on words make, and which values their results are.
use Rattle.std.proofs.Common.{◌≡◌, ℕ, ◌+◌, ◌-◌, ◌<◌, Bool, true, false, List, [], ◌∷◌, length, map, take, drop, All, refl, arith, length-append, if◌then◌else◌}
use Rattle.std.specs.List.{range_with_len}
use Rattle.std.proofs.lemmas.List.{length-take, length-drop}
use Rattle.std.proofs.lemmas.List.Elements.{All-nil, All-cons, All-append, All-take, All-drop, All-from_get_or}
use Rattle.std.proofs.lemmas.List.FromFn.{get_or-range_with_len, get_or-map-range_with_len}
use Rattle.mask_bits.specs.Reading.{lowest}
use Rattle.mask_circuit.specs.Netlist.{Netlist, value_count}
use Rattle.mask_parts.specs.Words32.{xor32_gates, with_xor32, xor32_results, sum32_gates, with_sum32, sum_place, sum32_results, rotated32, constant32}
use Rattle.mask_parts.proofs.Adding.{length-sum32_gates}
use Rattle.mask_parts.proofs.Growing.{value_count-with_gates}
use Rattle.mask_parts.proofs.Xoring.{length-xor32_gates}

-- VALUES

pub value_count-with_xor32 : (c : Netlist) (xs ys : List ℕ) → value_count (with_xor32 c xs ys) ≡ value_count c + 32
unfolding with_xor32
value_count-with_xor32 c xs ys =
    omega (arith, value_count-with_gates c (xor32_gates (value_count c) xs ys), length-xor32_gates (value_count c) xs ys)

pub value_count-with_sum32 : (c : Netlist) (xs ys : List ℕ) → value_count (with_sum32 c xs ys) ≡ value_count c + 185
unfolding with_sum32
value_count-with_sum32 c xs ys =
    omega (arith, value_count-with_gates c (sum32_gates (value_count c) xs ys), length-sum32_gates (value_count c) xs ys)

-- RESULTS

pub length-xor32_results : (n : ℕ) → length (xor32_results n) ≡ 32
unfolding xor32_results
length-xor32_results n = refl

pub length-sum32_results : (n : ℕ) → length (sum32_results n) ≡ 32
unfolding sum32_results
length-sum32_results n = refl

-- they are values that the part makes
pub xor32_results-below : (n : ℕ) → All (λ u. u < n + 32) (xor32_results n)
unfolding xor32_results
xor32_results-below n = All-from_get_or (λ u. u < n + 32) (range_with_len n 32) 0
    (λ i lt. let at = get_or-range_with_len n 32 i 0 lt in omega arith)

-- bit i of the sum is one of the 185 values
sum_place-lt : (i : ℕ) → i < 32 → sum_place i < 185
sum_place-lt i lt = grind arith

pub sum32_results-below : (n : ℕ) → All (λ u. u < n + 185) (sum32_results n)
unfolding sum32_results
sum32_results-below n = All-from_get_or (λ u. u < n + 185) (map (λ i. n + sum_place i) (range_with_len 0 32)) 0
    (λ i lt. let at = get_or-map-range_with_len (λ j. n + sum_place j) 0 32 i i 0 lt (omega arith) in
    let small = sum_place-lt i lt in omega arith)

-- OTHER WORDS

pub length-rotated32 : (k : ℕ) (xs : List ℕ) → length (rotated32 k xs) ≡ length xs
unfolding rotated32
length-rotated32 k xs =
    omega (arith, length-append (drop (32 - k) xs) (take (32 - k) xs), length-drop (32 - k) xs, length-take (32 - k) xs)

pub All-rotated32 : (P : ℕ → Type 0) (k : ℕ) (xs : List ℕ) → All P xs → All P (rotated32 k xs)
unfolding rotated32
All-rotated32 P k xs all = All-append P (drop (32 - k) xs) (take (32 - k) xs) (All-drop P (32 - k) xs all) (All-take P (32 - k) xs all)

pub length-constant32 : (nought one word : ℕ) → length (constant32 nought one word) ≡ 32
unfolding constant32
length-constant32 nought one word = refl

pub All-constant32 : (P : ℕ → Type 0) (nought one word : ℕ) → P nought → P one → All P (constant32 nought one word)
unfolding constant32
All-constant32 P nought one word no_bit bit = go (lowest 32 word)
  where
    go : (bits : List Bool) → All P (map (λ b. if b then one else nought) bits)
    go [] = All-nil P
    go (true ∷ bits) = All-cons P one _ bit (go bits)
    go (false ∷ bits) = All-cons P nought _ no_bit (go bits)
