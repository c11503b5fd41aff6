-- The XOR of two words: its gates, and what they compute.
use Rattle.std.proofs.Common.{◌≡◌, ℕ, ◌+◌, ◌<◌, Bool, true, false, List, [], ◌++◌, length, map, All, bit_xor, refl, ap, ap₂, sym, ◌∙◌}
use Rattle.std.specs.List.{range_with_len}
use Rattle.std.proofs.lemmas.List.{length-map, map-append, map-id}
use Rattle.std.proofs.lemmas.List.Elements.{All-append}
use Rattle.std.proofs.lemmas.List.FromFn.{length-range_with_len, get_or-range_with_len, fill_by_all}
use Rattle.mask_bits.specs.Reading.{number}
use Rattle.mask_circuit.specs.Netlist.{Netlist, AreGates, value_count}
use Rattle.mask_circuit.specs.Value.{xor, value_at, plain_values}
use Rattle.mask_parts.specs.Drafts.{with_gates, bits_of}
use Rattle.mask_parts.specs.Tables.{part_bits, part_usable, is_part, with_part}
use Rattle.mask_parts.specs.Tidiness.{KeepsTidy}
use Rattle.mask_parts.specs.Words32.{xor32_steps, xor32_gates, with_xor32, xor32_results}
use Rattle.mask_parts.proofs.PartGates.{AreGates-part, part_bits-solved}
use Rattle.mask_parts.proofs.PartTidiness.{AreFree, are_usable, KeepsTidy-usable}
use Rattle.mask_parts.proofs.Solving.{Solves, Solves-with_gates, bits_of-with_gates}
use Rattle.mask_parts.proofs.WordNumbers.{number-xor}
use Rattle.mask_parts.proofs.WordParts.{length-both, first_word, second_word}

-- GATES

pub is_part-xor32 : is_part 64 xor32_steps ≡ true
unfolding xor32_steps
is_part-xor32 = refl

pub length-xor32_gates : (n : ℕ) (xs ys : List ℕ) → length (xor32_gates n xs ys) ≡ 32
unfolding xor32_gates xor32_steps
length-xor32_gates n xs ys = refl

pub AreGates-xor32 : (n : ℕ) (xs ys : List ℕ) → length xs ≡ 32 → length ys ≡ 32 → All (λ u. u < n) xs → All (λ u. u < n) ys → AreGates n (xor32_gates n xs ys)
unfolding xor32_gates
AreGates-xor32 n xs ys x_long y_long x_below y_below =
    AreGates-part n (xs ++ ys) xor32_steps (All-append (λ u. u < n) xs ys x_below y_below) (rw (length-both xs ys x_long y_long) is_part-xor32)

pub with_xor32-with_part : (c : Netlist) (xs ys : List ℕ) → with_xor32 c xs ys ≡ with_part c (xs ++ ys) xor32_steps
unfolding with_xor32 xor32_gates with_part
with_xor32-with_part c xs ys = refl

-- its results one by one
pub xor32_results-bits : (n : ℕ) → map (λ k. n + k) (range_with_len 0 32) ≡ xor32_results n
unfolding xor32_results
xor32_results-bits n =
    sym (fill_by_all (λ k. n + k) (range_with_len n 32) 32 0 (length-range_with_len n 32) (λ k lt. get_or-range_with_len n 32 k 0 lt))

-- BITS

length-usable : length (part_usable xor32_steps) ≡ 32
unfolding xor32_steps
length-usable = refl

-- the bits that it makes
made : (bits : List Bool) → part_bits bits xor32_steps ≡ map (λ i. xor (value_at bits i) (value_at bits (32 + i))) (range_with_len 0 32)
unfolding xor32_steps
made bits = refl

xor32-bits : (xs ys : List Bool) → length xs ≡ 32 → length ys ≡ 32 → number (part_bits (xs ++ ys) xor32_steps) ≡ bit_xor (number xs) (number ys)
xor32-bits xs ys x_long y_long =
    let first : map (value_at (xs ++ ys)) (range_with_len 0 32) ≡ xs = first_word (λ b. b) false false xs ys x_long ∙ map-id xs in
    let second : map (λ i. value_at (xs ++ ys) (32 + i)) (range_with_len 0 32) ≡ ys = second_word (λ b. b) false false xs ys x_long y_long ∙ map-id ys in
    ap number (made (xs ++ ys)) ∙ number-xor (value_at (xs ++ ys)) (λ i. value_at (xs ++ ys) (32 + i)) (range_with_len 0 32)
    ∙ ap₂ (λ (a b : List Bool). bit_xor (number a) (number b)) first second

-- values that solve its gates
pub xor32-solved : (vs : List Bool) (n : ℕ) (xs ys : List ℕ) → length xs ≡ 32 → length ys ≡ 32 → Solves vs n (xor32_gates n xs ys) →
    number (map (value_at vs) (xor32_results n)) ≡ bit_xor (number (map (value_at vs) xs)) (number (map (value_at vs) ys))
unfolding xor32_gates xor32_results
xor32-solved vs n xs ys x_long y_long s =
    let f = value_at vs in
    let solved = part_bits-solved vs n (xs ++ ys) xor32_steps (rw (length-both xs ys x_long y_long) is_part-xor32) s in
    ap number (ap (λ k. map f (range_with_len n k)) (sym length-usable) ∙ sym solved ∙ ap (λ (bs : List Bool). part_bits bs xor32_steps) (map-append f xs ys))
    ∙ xor32-bits (map f xs) (map f ys) (length-map xs f ∙ x_long) (length-map ys f ∙ y_long)

-- a draft with it at its end
pub number-with_xor32 : (c : Netlist) (xs ys : List ℕ) (x : List Bool) → length xs ≡ 32 → length ys ≡ 32 → All (λ u. u < value_count c) xs →
    All (λ u. u < value_count c) ys → length x ≡ c.inputs →
    number (bits_of (with_xor32 c xs ys) x (xor32_results (value_count c))) ≡ bit_xor (number (bits_of c x xs)) (number (bits_of c x ys))
unfolding with_xor32 bits_of
number-with_xor32 c xs ys x x_long y_long x_below y_below long =
    let n = value_count c in
    let gs = xor32_gates n xs ys in
    xor32-solved (plain_values (with_gates c gs) x) n xs ys x_long y_long (Solves-with_gates c gs x long (AreGates-xor32 n xs ys x_long y_long x_below y_below))
    ∙ ap₂ (λ (a b : List Bool). bit_xor (number a) (number b)) (bits_of-with_gates c gs x xs long x_below) (bits_of-with_gates c gs x ys long y_below)

-- TIDINESS

pub usable-xor32 : are_usable (part_usable xor32_steps) (range_with_len 0 32) ≡ true
unfolding xor32_steps
usable-xor32 = refl

-- where the values that its table flags are free, so are its results
pub KeepsTidy-xor32_results : (c d : Netlist) (n : ℕ) → KeepsTidy c d [] → AreFree d n (part_usable xor32_steps) → KeepsTidy c d (xor32_results n)
KeepsTidy-xor32_results c d n kept free = KeepsTidy-usable c d n (part_usable xor32_steps) (range_with_len 0 32) (xor32_results n) usable-xor32 (xor32_results-bits n) kept free
