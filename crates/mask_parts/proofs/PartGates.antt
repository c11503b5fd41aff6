-- The gates of a sound table: they take earlier values alone, and what they compute can be read off the table.
use Rattle.std.proofs.Common.{◌≡◌, ℕ, suc, ◌+◌, ◌<◌, Bool, true, false, not, ◌&&◌, inl, inr, List, [], ◌∷◌, ◌++◌, length, map, All, refl, ap, ap₂, sym, ◌∙◌, subst, arith, length-append}
use Rattle.std.specs.List.{range_with_len}
use Rattle.std.proofs.lemmas.Bool.{cases_lt, false≢true, ltb-true, and_parts}
use Rattle.std.proofs.lemmas.List.{append_assoc, get_or_past, get_or-map}
use Rattle.std.proofs.lemmas.List.FromFn.{get_or-map-range_with_len, map-range_with_len_more}
use Rattle.mask_circuit.specs.declared.gates.Gate.{Gate}
use Rattle.mask_circuit.specs.Netlist.{Netlist, AreGates, value_count}
use Rattle.mask_circuit.specs.Value.{xor, value_at, plain_values}
use Rattle.mask_parts.specs.declared.tables.Place.{Place}
use Rattle.mask_parts.specs.declared.tables.Place.TheVariants.{Given, Made}
use Rattle.mask_parts.specs.declared.tables.Step.{Step}
use Rattle.mask_parts.specs.declared.tables.Step.TheVariants.{Xor, Not, Product}
use Rattle.mask_parts.specs.Drafts.{with_gates, bits_of}
use Rattle.mask_parts.specs.Tables.{with_part, place_value, step_gates, step_usable, gates_from, part_gates, usable_from, part_usable, IsPlace, ArePlaces, is_place, is_step, are_steps, is_part, place_bit, step_bits, bits_from, part_bits}
use Rattle.mask_parts.proofs.Growing.{AreGates-append}
use Rattle.mask_parts.proofs.Solving.{Solves, Solves-left, Solves-right, Solves-with_gates, bits_of-with_gates}

-- PLACES

-- what may be taken was made
pub usable-within : (made : List Bool) (i : ℕ) → value_at made i ≡ true → i < length made
usable-within made i e = elim (cases_lt i (length made)) [ inl lt ↦ lt | inr le ↦ absurd (false≢true (sym (get_or_past made i false le) ∙ e)) ]

pub IsPlace-from_test : (k : ℕ) (made : List Bool) (p : Place) → is_place k made p ≡ true → IsPlace k (length made) p
IsPlace-from_test k made (Given i) e = ltb-true i k e
IsPlace-from_test k made (Made i) e = usable-within made i e

pub ArePlaces-from_test : (k : ℕ) (made : List Bool) (s : Step) → is_step k made s ≡ true → ArePlaces k (length made) s
ArePlaces-from_test k made (Xor p q) e = (IsPlace-from_test k made p (and_parts _ _ e).0, IsPlace-from_test k made q (and_parts _ _ e).1)
ArePlaces-from_test k made (Not p) e = IsPlace-from_test k made p e
ArePlaces-from_test k made (Product p q) e = (IsPlace-from_test k made p (and_parts _ _ e).0, IsPlace-from_test k made q (and_parts _ _ e).1)

-- a place names an earlier value
pub place_value-below : (n m : ℕ) (xs : List ℕ) (p : Place) → All (λ u. u < n) xs → IsPlace (length xs) m p → place_value n xs p < n + m
place_value-below n m xs (Given i) below is = let b = below i 0 is in omega arith
place_value-below n m xs (Made i) below is = omega arith

-- GATES

pub length-step_gates : (n m : ℕ) (xs : List ℕ) (s : Step) → length (step_gates n xs m s) ≡ length (step_usable s)
length-step_gates n m xs (Xor p q) = refl
length-step_gates n m xs (Not p) = refl
length-step_gates n m xs (Product p q) = refl

pub AreGates-step : (n m : ℕ) (xs : List ℕ) (s : Step) → All (λ u. u < n) xs → ArePlaces (length xs) m s → AreGates (n + m) (step_gates n xs m s)
AreGates-step n m xs (Xor p q) below are = ((place_value-below n m xs p below are.0, place_value-below n m xs q below are.1), tt)
AreGates-step n m xs (Not p) below are = (place_value-below n m xs p below are, tt)
AreGates-step n m xs (Product p q) below are =
    let left = place_value-below n m xs p below are.0 in
    (place_value-below n m xs q below are.1, ((let up : place_value n xs p < suc (n + m) = omega arith in up, omega arith), tt))

-- the gates of sound steps take earlier values alone
AreGates-from : (n : ℕ) (xs : List ℕ) (made : List Bool) (ss : List Step) → All (λ u. u < n) xs → are_steps (length xs) made ss ≡ true →
    AreGates (n + length made) (gates_from n xs (length made) ss)
AreGates-from n xs made [] below sound = tt
AreGates-from n xs made (s ∷ ss) below sound =
    let m = length made in
    let here = AreGates-step n m xs s below (ArePlaces-from_test (length xs) made s (and_parts _ _ sound).0) in
    let grown : length (made ++ step_usable s) ≡ m + length (step_usable s) = length-append made (step_usable s) in
    let up : n + length (made ++ step_usable s) ≡ n + m + length (step_gates n xs m s) = omega (arith, length-step_gates n m xs s) in
    AreGates-append (n + m) (step_gates n xs m s) (gates_from n xs (m + length (step_usable s)) ss) here
    (subst (λ (k : ℕ). AreGates k (gates_from n xs (m + length (step_usable s)) ss)) up
    (subst (λ (k : ℕ). AreGates (n + length (made ++ step_usable s)) (gates_from n xs k ss)) grown
    (AreGates-from n xs (made ++ step_usable s) ss below (and_parts _ _ sound).1)))

pub AreGates-part : (n : ℕ) (xs : List ℕ) (ss : List Step) → All (λ u. u < n) xs → is_part (length xs) ss ≡ true → AreGates n (part_gates n xs ss)
AreGates-part n xs ss below sound = let e : n + 0 ≡ n = omega arith in subst (λ (k : ℕ). AreGates k (part_gates n xs ss)) e (AreGates-from n xs [] ss below sound)

length-gates_from : (n : ℕ) (xs : List ℕ) (made : List Bool) (ss : List Step) →
    length made + length (gates_from n xs (length made) ss) ≡ length (usable_from made ss)
length-gates_from n xs made [] = omega arith
length-gates_from n xs made (s ∷ ss) =
    let m = length made in
    let rest : List Gate = gates_from n xs (m + length (step_usable s)) ss in
    let grown : length (made ++ step_usable s) ≡ m + length (step_usable s) = length-append made (step_usable s) in
    let up : m + length (step_usable s) + length rest ≡ length (usable_from (made ++ step_usable s) ss) =
    subst (λ (k : ℕ). k + length (gates_from n xs k ss) ≡ length (usable_from (made ++ step_usable s) ss)) grown
    (length-gates_from n xs (made ++ step_usable s) ss) in
    omega (arith, length-append (step_gates n xs m s) rest, length-step_gates n m xs s)

-- a part has a gate for each value that it makes
pub length-part_gates : (n : ℕ) (xs : List ℕ) (ss : List Step) → length (part_gates n xs ss) ≡ length (part_usable ss)
length-part_gates n xs ss = omega (arith, length-gates_from n xs [] ss)

-- BITS

-- the bits of the values xs, and of the m values from n on
abbrev bits_at : List Bool → List ℕ → List Bool
bits_at vs xs = map (value_at vs) xs

place_bit-solved : (vs : List Bool) (n m : ℕ) (xs : List ℕ) (p : Place) → IsPlace (length xs) m p →
    place_bit (bits_at vs xs) (bits_at vs (range_with_len n m)) p ≡ value_at vs (place_value n xs p)
place_bit-solved vs n m xs (Given i) is = get_or-map (value_at vs) xs i 0 false is
place_bit-solved vs n m xs (Made i) is = get_or-map-range_with_len (value_at vs) n m i (n + i) false is refl

-- one value more
bits_at-more : (vs : List Bool) (n m : ℕ) (b : Bool) → b ≡ value_at vs (n + m) →
    bits_at vs (range_with_len n m) ++ b ∷ [] ≡ bits_at vs (range_with_len n (m + 1))
bits_at-more vs n m b is = rw is (sym (map-range_with_len_more (value_at vs) n m (n + m) refl))

step_bits-solved : (vs : List Bool) (n m : ℕ) (xs : List ℕ) (s : Step) → ArePlaces (length xs) m s → Solves vs (n + m) (step_gates n xs m s) →
    bits_at vs (range_with_len n m) ++ step_bits (bits_at vs xs) (bits_at vs (range_with_len n m)) s
    ≡ bits_at vs (range_with_len n (m + length (step_usable s)))
step_bits-solved vs n m xs (Xor p q) are s =
    bits_at-more vs n m _ (ap₂ xor (place_bit-solved vs n m xs p are.0) (place_bit-solved vs n m xs q are.1) ∙ sym s.0)
step_bits-solved vs n m xs (Not p) are s = bits_at-more vs n m _ (ap not (place_bit-solved vs n m xs p are) ∙ sym s.0)
step_bits-solved vs n m xs (Product p q) are s =
    let xb = bits_at vs xs in
    let ms = bits_at vs (range_with_len n m) in
    let bq = place_bit xb ms q in
    let b = place_bit xb ms p && bq in
    let refreshed : bq ≡ value_at vs (n + m) = place_bit-solved vs n m xs q are.1 ∙ sym s.0 in
    let next : suc (n + m) ≡ n + (m + 1) = omega arith in
    let two : m + 1 + 1 ≡ m + 2 = omega arith in
    let multiplied : b ≡ value_at vs (n + (m + 1)) =
    ap₂ ◌&&◌ (place_bit-solved vs n m xs p are.0) refreshed ∙ sym s.1.0 ∙ ap (value_at vs) next in
    sym (append_assoc ms (bq ∷ []) (b ∷ []))
    ∙ ap (λ (bs : List Bool). bs ++ b ∷ []) (bits_at-more vs n m bq refreshed)
    ∙ bits_at-more vs n (m + 1) b multiplied
    ∙ ap (λ k. bits_at vs (range_with_len n k)) two

bits_from-solved : (vs : List Bool) (n : ℕ) (xs : List ℕ) (made : List Bool) (ss : List Step) → are_steps (length xs) made ss ≡ true →
    Solves vs (n + length made) (gates_from n xs (length made) ss) →
    bits_from (bits_at vs xs) (bits_at vs (range_with_len n (length made))) ss ≡ bits_at vs (range_with_len n (length (usable_from made ss)))
bits_from-solved vs n xs made [] sound s = refl
bits_from-solved vs n xs made (t ∷ ss) sound s =
    let m = length made in
    let k = length (step_usable t) in
    let rest : ℕ → List Gate = λ j. gates_from n xs j ss in
    let here = step_gates n xs m t in
    let grown : m + k ≡ length (made ++ step_usable t) = sym (length-append made (step_usable t)) in
    let up : n + m + length here ≡ n + (m + k) = omega (arith, length-step_gates n m xs t) in
    let later : Solves vs (n + (m + k)) (rest (m + k)) = subst (λ j. Solves vs j (rest (m + k))) up (Solves-right vs (n + m) here (rest (m + k)) s) in
    ap (λ (bs : List Bool). bits_from (bits_at vs xs) bs ss)
    (step_bits-solved vs n m xs t (ArePlaces-from_test (length xs) made t (and_parts _ _ sound).0) (Solves-left vs (n + m) here (rest (m + k)) s)
    ∙ ap (λ j. bits_at vs (range_with_len n j)) grown)
    ∙ bits_from-solved vs n xs (made ++ step_usable t) ss (and_parts _ _ sound).1 (subst (λ j. Solves vs (n + j) (rest j)) grown later)

-- values that solve a part's gates are, from its first value on, the bits that it makes of the bits of its operands
pub part_bits-solved : (vs : List Bool) (n : ℕ) (xs : List ℕ) (ss : List Step) → is_part (length xs) ss ≡ true → Solves vs n (part_gates n xs ss) →
    part_bits (map (value_at vs) xs) ss ≡ map (value_at vs) (range_with_len n (length (part_usable ss)))
part_bits-solved vs n xs ss sound s =
    let e : n ≡ n + 0 = omega arith in
    bits_from-solved vs n xs [] ss sound (subst (λ j. Solves vs j (part_gates n xs ss)) e s)

-- so on a draft with the part at its end
pub bits_of-with_part : (c : Netlist) (xs : List ℕ) (ss : List Step) (x : List Bool) → All (λ u. u < value_count c) xs → is_part (length xs) ss ≡ true → length x ≡ c.inputs →
    bits_of (with_part c xs ss) x (range_with_len (value_count c) (length (part_usable ss))) ≡ part_bits (bits_of c x xs) ss
unfolding with_part bits_of
bits_of-with_part c xs ss x below sound long =
    let n = value_count c in
    let gs = part_gates n xs ss in
    let solved = Solves-with_gates c gs x long (AreGates-part n xs ss below sound) in
    sym (part_bits-solved (plain_values (with_gates c gs) x) n xs ss sound solved)
    ∙ ap (λ (bs : List Bool). part_bits bs ss) (bits_of-with_gates c gs x xs long below)
