-- The circuit for the S-box of PRESENT: its gates, and that it computes the table.
use Rattle.std.proofs.Common.{◌≡◌, ℕ, ◌+◌, ◌<◌, Bool, true, false, List, [], ◌∷◌, length, map, All, refl, ap, ap₂, sym, ◌∙◌, arith, lit<}
use Rattle.std.specs.List.{range_with_len, count_by}
use Rattle.std.proofs.lemmas.List.Elements.{All-nil, All-cons}
use Rattle.std.proofs.lemmas.List.FromFn.{get_or-map-range_with_len}
use Rattle.mask_bits.specs.Reading.{number}
use Rattle.mask_circuit.specs.Netlist.{Netlist, AreGates, value_count, is_product, is_refresh}
use Rattle.mask_circuit.specs.Value.{value_at, plain_values}
use Rattle.mask_circuit.specs.Acceptance.{IsTidy}
use Rattle.mask_parts.specs.Drafts.{with_gates, bits_of}
use Rattle.mask_parts.specs.Tables.{part_bits, part_usable, is_part, with_part}
use Rattle.mask_parts.specs.PresentSbox.{sbox, sbox_steps, sbox_gates, sbox_results, with_sbox}
use Rattle.mask_parts.specs.Tidiness.{IsFree, KeepsTidy}
use Rattle.mask_parts.proofs.PartGates.{AreGates-part, part_bits-solved}
use Rattle.mask_parts.proofs.PartTidiness.{KeepsTidy-part}
use Rattle.mask_parts.proofs.Solving.{Solves, Solves-with_gates, bits_of-with_gates}

-- GATES

pub is_part-sbox : is_part 4 sbox_steps ≡ true
unfolding sbox_steps
is_part-sbox = refl

pub length-sbox_gates : (n : ℕ) (xs : List ℕ) → length (sbox_gates n xs) ≡ 26
unfolding sbox_gates sbox_steps
length-sbox_gates n xs = refl

pub products-sbox_gates : (n : ℕ) (xs : List ℕ) → count_by is_product (sbox_gates n xs) ≡ 5
unfolding sbox_gates sbox_steps
products-sbox_gates n xs = refl

pub refreshes-sbox_gates : (n : ℕ) (xs : List ℕ) → count_by is_refresh (sbox_gates n xs) ≡ 5
unfolding sbox_gates sbox_steps
refreshes-sbox_gates n xs = refl

pub AreGates-sbox : (n : ℕ) (xs : List ℕ) → length xs ≡ 4 → All (λ u. u < n) xs → AreGates n (sbox_gates n xs)
unfolding sbox_gates
AreGates-sbox n xs four below = AreGates-part n xs sbox_steps below (rw four is_part-sbox)

pub with_sbox-with_part : (c : Netlist) (xs : List ℕ) → with_sbox c xs ≡ with_part c xs sbox_steps
unfolding with_sbox sbox_gates with_part
with_sbox-with_part c xs = refl

-- BITS

-- the results among all bits that the circuit makes of four bits
results : List Bool → List Bool
results bits = value_at bits 16 ∷ value_at bits 17 ∷ value_at bits 21 ∷ value_at bits 25 ∷ []

-- on each of the sixteen inputs the circuit gives the table's entry
by_table : (a b c d : Bool) → number (results (part_bits (a ∷ b ∷ c ∷ d ∷ []) sbox_steps)) ≡ sbox (number (a ∷ b ∷ c ∷ d ∷ []))
unfolding results sbox sbox_steps
by_table false false false false = refl
by_table true false false false = refl
by_table false true false false = refl
by_table true true false false = refl
by_table false false true false = refl
by_table true false true false = refl
by_table false true true false = refl
by_table true true true false = refl
by_table false false false true = refl
by_table true false false true = refl
by_table false true false true = refl
by_table true true false true = refl
by_table false false true true = refl
by_table true false true true = refl
by_table false true true true = refl
by_table true true true true = refl

length-usable : length (part_usable sbox_steps) ≡ 26
unfolding sbox_steps
length-usable = refl

-- values that solve its gates
pub sbox-solved : (vs : List Bool) (n : ℕ) (xs : List ℕ) → length xs ≡ 4 → Solves vs n (sbox_gates n xs) →
    number (map (value_at vs) (sbox_results n)) ≡ sbox (number (map (value_at vs) xs))
unfolding sbox_gates sbox_results results
sbox-solved vs n (a ∷ b ∷ c ∷ d ∷ []) four s =
    let bits = part_bits (map (value_at vs) (a ∷ b ∷ c ∷ d ∷ [])) sbox_steps in
    let made : bits ≡ map (value_at vs) (range_with_len n 26) =
    part_bits-solved vs n (a ∷ b ∷ c ∷ d ∷ []) sbox_steps is_part-sbox s ∙ ap (λ (k : ℕ). map (value_at vs) (range_with_len n k)) length-usable in
    let at : (i : ℕ) → i < 26 → value_at vs (n + i) ≡ value_at bits i =
    λ i lt. sym (ap (λ (bs : List Bool). value_at bs i) made ∙ get_or-map-range_with_len (value_at vs) n 26 i (n + i) false lt refl) in
    let shown : map (value_at vs) ((n + 16) ∷ (n + 17) ∷ (n + 21) ∷ (n + 25) ∷ []) ≡ results bits =
    ap₂ ◌∷◌ (at 16 (lit< tt)) (ap₂ ◌∷◌ (at 17 (lit< tt)) (ap₂ ◌∷◌ (at 21 (lit< tt)) (ap₂ ◌∷◌ (at 25 (lit< tt)) refl))) in
    ap number shown ∙ by_table (value_at vs a) (value_at vs b) (value_at vs c) (value_at vs d)
sbox-solved vs n xs four s = absurd (omega arith)

-- a draft with the circuit at its end
pub number-with_sbox : (c : Netlist) (xs : List ℕ) (x : List Bool) → length xs ≡ 4 → All (λ u. u < value_count c) xs → length x ≡ c.inputs →
    number (bits_of (with_sbox c xs) x (sbox_results (value_count c))) ≡ sbox (number (bits_of c x xs))
unfolding with_sbox bits_of
number-with_sbox c xs x four below long =
    let n = value_count c in
    let gs = sbox_gates n xs in
    sbox-solved (plain_values (with_gates c gs) x) n xs four (Solves-with_gates c gs x long (AreGates-sbox n xs four below))
    ∙ ap (λ (bs : List Bool). sbox (number bs)) (bits_of-with_gates c gs x xs long below)

-- TIDINESS

usable_results : (value_at (part_usable sbox_steps) 16 ≡ true) × (value_at (part_usable sbox_steps) 17 ≡ true)
    × (value_at (part_usable sbox_steps) 21 ≡ true) × (value_at (part_usable sbox_steps) 25 ≡ true)
unfolding sbox_steps
usable_results = (refl, refl, refl, refl)

-- where the values that its table flags are free, so are its results
pub KeepsTidy-sbox_results : (c d : Netlist) (n : ℕ) → KeepsTidy c d [] → ((k : ℕ) → value_at (part_usable sbox_steps) k ≡ true → IsFree d (n + k)) →
    KeepsTidy c d (sbox_results n)
unfolding sbox_results
KeepsTidy-sbox_results c d n kept free =
    let last = (n + 25) ∷ [] in
    let high = (n + 21) ∷ last in
    let more = (n + 17) ∷ high in
    record {
      tidy = kept.tidy;
      results_free = All-cons (IsFree d) (n + 16) more (free 16 usable_results.0)
          (All-cons (IsFree d) (n + 17) high (free 17 usable_results.1)
          (All-cons (IsFree d) (n + 21) last (free 21 usable_results.2)
          (All-cons (IsFree d) (n + 25) [] (free 25 usable_results.3) (All-nil (IsFree d)))));
      still_free = kept.still_free;
    }

-- the circuit on free values keeps a draft tidy, and its results are free
pub KeepsTidy-sbox : (c : Netlist) (xs : List ℕ) → AreGates c.inputs c.gates → length xs ≡ 4 → All (λ u. u < value_count c) xs → IsTidy c → All (IsFree c) xs →
    KeepsTidy c (with_sbox c xs) (sbox_results (value_count c))
KeepsTidy-sbox c xs are four below tidy free =
    let kept = KeepsTidy-part c xs sbox_steps are below (rw four is_part-sbox) tidy free in
    rw (with_sbox-with_part c xs) (KeepsTidy-sbox_results c (with_part c xs sbox_steps) (value_count c) kept.0 kept.1)
