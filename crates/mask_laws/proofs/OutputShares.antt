-- The shares of a circuit's outputs that an observer asks for beside the inner wires.
use Rattle.std.proofs.Common.{◌≡◌, ℕ, zero, suc, ◌+◌, ◌<◌, ◌≤◌, ◌⊎◌, inl, inr, Bool, true, false, ◌&&◌, ◌==◌, List, [], ◌∷◌, ◌++◌, map, length, slice_index, slice_index_or, All, Contains, refl, ap, ap₂, sym, ◌∙◌, subst, arith}
use Rattle.std.specs.List.{filter}
use Rattle.std.proofs.lemmas.Bool.{cases_order, or_cases, eqb-true, and_parts, true≢false, and_right}
use Rattle.std.proofs.lemmas.List.{map-append}
use Rattle.std.proofs.lemmas.List.Elements.{filter-append, All-head, All-tail, All-filter, filter_passes, All-append, All-map, All-weaker, Contains-append_left, Contains-append_right}
use Rattle.std.proofs.lemmas.List.Folds.{list_any-append}
use Rattle.std.proofs.lemmas.Option.{get_or_from_slice_get, slice_get_within}
use Rattle.mask_circuit.specs.Netlist.{Netlist, value_count}
use Rattle.mask_circuit.specs.declared.gates.Wire.TheVariants.{Share}
use Rattle.mask_circuit.specs.Wires.{each}
use Rattle.mask_circuit.specs.Expansion.{CircuitWire, names, wire_count}
use Rattle.mask_circuit.specs.Probing.{share_place, output_places}
use Rattle.mask_circuit.specs.Need.{inner_probes, probed_shares, probes_at}
use Rattle.mask_laws.proofs.Numbering.{shares_have_places}
use Rattle.mask_laws.proofs.Demands.{inner_probes-append}
use Rattle.mask_laws.proofs.CircuitNames.{All-each}
use Rattle.mask_laws.proofs.Members.{none_in_nil, Contains-cons_cases, Contains-first, Contains-later}

-- the numbers below n that are in the set
abbrev pub members : ℕ → (ℕ → Bool) → List ℕ
members N set = filter set (each (λ i. i) N)

-- `output_places` of the outputs us, whose sets are those from k on
abbrev pub places_from : Netlist → ℕ → (ℕ → ℕ → Bool) → List ℕ → ℕ → List ℕ
places_from c N O [] k = []
places_from c N O (u ∷ us) k = map (share_place c N u) (members N (O k)) ++ places_from c N O us (suc k)

-- the same wires by name
abbrev pub output_names : ℕ → (ℕ → ℕ → Bool) → List ℕ → ℕ → List CircuitWire
output_names N O [] k = []
output_names N O (u ∷ us) k = map (λ i. (u, Share i)) (members N (O k)) ++ output_names N O us (suc k)

-- they are below n
members-below : (N : ℕ) (set : ℕ → Bool) → All (λ i. i < N) (members N set)
members-below N set = All-filter set (λ i. i < N) (each (λ i. i) N) (All-each (λ i. i < N) (λ i. i) N (λ i lt. lt))

-- PLACES AND NAMES

-- one function after another, where the two together are a third
map_both : {A B C : Type 0} (f : A → B) (g : B → C) (h : A → C) (xs : List A) → All (λ a. g (f a) ≡ h a) xs → map g (map f xs) ≡ map h xs
map_both f g h [] all = refl
map_both f g h (x ∷ xs) all = ap₂ (λ y ys. y ∷ ys) (all 0 x (omega arith)) (map_both f g h xs (λ k d lt. all (suc k) d (omega arith)))

-- the shares from output k on have these names ..
places_from-names : (c : Netlist) (N : ℕ) (O : ℕ → ℕ → Bool) → 2 ≤ N → (us : List ℕ) (k : ℕ) → All (λ u. u < value_count c) us →
    probes_at c N (places_from c N O us k) ≡ output_names N O us k
places_from-names c N O two [] k known = refl
places_from-names c N O two (u ∷ us) k known =
    map-append (λ p. slice_index_or (names c N) p (0, Share 0)) (map (share_place c N u) (members N (O k))) (places_from c N O us (suc k))
    ∙ ap₂ (λ xs ys. xs ++ ys)
    (map_both (share_place c N u) (λ p. slice_index_or (names c N) p (0, Share 0)) (λ i. (u, Share i)) (members N (O k))
    (All-weaker (λ i. i < N) (λ i. slice_index_or (names c N) (share_place c N u i) (0, Share 0) ≡ (u, Share i))
    (λ i lt. get_or_from_slice_get (names c N) (share_place c N u i) (u, Share i) (0, Share 0)
    (shares_have_places c N u i two (All-head (λ u. u < value_count c) u us known) lt))
    (members N (O k)) (members-below N (O k))))
    (places_from-names c N O two us (suc k) (All-tail (λ u. u < value_count c) u us known))

-- .. and are wires of the circuit
places_from-below : (c : Netlist) (N : ℕ) (O : ℕ → ℕ → Bool) → 2 ≤ N → (us : List ℕ) (k : ℕ) → All (λ u. u < value_count c) us →
    All (λ p. p < wire_count c N) (places_from c N O us k)
places_from-below c N O two [] k known = λ j d lt. absurd (omega arith)
places_from-below c N O two (u ∷ us) k known =
    All-append (λ p. p < wire_count c N) (map (share_place c N u) (members N (O k))) (places_from c N O us (suc k))
    (All-map (λ p. p < wire_count c N) (share_place c N u) (members N (O k))
    (All-weaker (λ i. i < N) (λ i. share_place c N u i < wire_count c N)
    (λ i lt. slice_get_within (names c N) (share_place c N u i) (u, Share i) (shares_have_places c N u i two (All-head (λ u. u < value_count c) u us known) lt))
    (members N (O k)) (members-below N (O k))))
    (places_from-below c N O two us (suc k) (All-tail (λ u. u < value_count c) u us known))

-- the shares of outputs that are asked for are wires of these names ..
pub output_places-names : (c : Netlist) (N : ℕ) (O : ℕ → ℕ → Bool) → 2 ≤ N → All (λ u. u < value_count c) c.outputs →
    probes_at c N (output_places c N O) ≡ output_names N O c.outputs 0
output_places-names c N O two known = places_from-names c N O two c.outputs 0 known

-- .. and have numbers of wires
pub output_places-below : (c : Netlist) (N : ℕ) (O : ℕ → ℕ → Bool) → 2 ≤ N → All (λ u. u < value_count c) c.outputs →
    All (λ p. p < wire_count c N) (output_places c N O)
output_places-below c N O two known = places_from-below c N O two c.outputs 0 known

-- WHAT IS ASKED FOR

-- none of them is an inner wire
shares-inner : (m u : ℕ) (is : List ℕ) → inner_probes m (map (λ i. (u, Share i)) is) ≡ []
shares-inner m u [] = refl
shares-inner m u (i ∷ is) = rw (and_right (u == m) false refl) (shares-inner m u is)

-- so of no value is any among the inner probes
pub output_names-inner : (N : ℕ) (O : ℕ → ℕ → Bool) (us : List ℕ) (k m : ℕ) → inner_probes m (output_names N O us k) ≡ []
output_names-inner N O [] k m = refl
output_names-inner N O (u ∷ us) k m =
    inner_probes-append m (map (λ i. (u, Share i)) (members N (O k))) (output_names N O us (suc k))
    ∙ ap₂ (λ xs ys. xs ++ ys) (shares-inner m u (members N (O k))) (output_names-inner N O us (suc k) m)

-- of one output: a share that is asked for is in its set
shares-only : (set : ℕ → Bool) (u v i : ℕ) (is : List ℕ) → All (λ a. set a ≡ true) is → probed_shares (map (λ a. (u, Share a)) is) v i ≡ true → (u ≡ v) × (set i ≡ true)
shares-only set u v i [] all e = absurd (true≢false (sym e))
shares-only set u v i (a ∷ is) all e = elim (or_cases (u == v && i == a) (probed_shares (map (λ a. (u, Share a)) is) v i) e) [
  | inl here ↦ (let parts = and_parts (u == v) (i == a) here in (eqb-true u v parts.0, ap set (eqb-true i a parts.1) ∙ all 0 a (omega arith)))
  | inr later ↦ shares-only set u v i is (All-tail (λ a. set a ≡ true) a is all) later
]

-- share i of value v is asked for only where v is an output whose set has i
pub output_names-only : (N : ℕ) (O : ℕ → ℕ → Bool) (us : List ℕ) (k v i : ℕ) → probed_shares (output_names N O us k) v i ≡ true →
    (j : ℕ) × (j < length us) × (slice_index us j ≡ v) × (O (k + j) i ≡ true)
output_names-only N O [] k v i e = absurd (true≢false (sym e))
output_names-only N O (u ∷ us) k v i e =
    go (or_cases first (probed_shares (output_names N O us (suc k)) v i) (sym (list_any-append _ (map (λ a. (u, Share a)) (members N (O k))) (output_names N O us (suc k))) ∙ e))
    (λ later. output_names-only N O us (suc k) v i later)
  where
    first : Bool
    first = probed_shares (map (λ a. (u, Share a)) (members N (O k))) v i

    go : (first ≡ true) ⊎ (probed_shares (output_names N O us (suc k)) v i ≡ true) →
        (probed_shares (output_names N O us (suc k)) v i ≡ true → (j : ℕ) × (j < length us) × (slice_index us j ≡ v) × (O (suc k + j) i ≡ true)) →
        (j : ℕ) × (j < suc (length us)) × (slice_index (u ∷ us) j ≡ v) × (O (k + j) i ≡ true)
    go (inl here) up =
        let both = shares-only (O k) u v i (members N (O k)) (filter_passes (O k) (each (λ i. i) N)) here in
        let e : k + 0 ≡ k = omega arith in
        (0, omega arith, both.0, ap (λ m. O m i) e ∙ both.1)
    go (inr later) up =
        let r = up later in
        let e : k + suc r.0 ≡ suc k + r.0 = omega arith in
        (suc r.0, omega (arith, r.1), r.2, ap (λ m. O m i) e ∙ r.3)

-- each number of the set is among its members
members-all : (N : ℕ) (set : ℕ → Bool) (i : ℕ) → i < N → set i ≡ true → Contains (members N set) i
members-all zero set i lt e = absurd (omega arith)
members-all (suc n) set i lt e = subst (λ (xs : List ℕ). Contains xs i) (sym (filter-append set (each (λ i. i) n) (n ∷ [])))
    (go (cases_order i n) (λ l. members-all n set i l e))
  where
    go : (i ≡ n) ⊎ ((i < n) ⊎ (n < i)) → (i < n → Contains (members n set) i) → Contains (members n set ++ filter set (n ∷ [])) i
    go (inl same) up = Contains-append_right (members n set) (filter set (n ∷ [])) i
        (rw (ap set (sym same) ∙ e) (subst (λ (m : ℕ). Contains (n ∷ []) m) (sym same) (Contains-first n [])))
    go (inr (inl l)) up = Contains-append_left (members n set) (filter set (n ∷ [])) i (up l)
    go (inr (inr g)) up = absurd (omega arith)

-- the value at an element is among the values
pub Contains-map : {A B : Type 0} (f : A → B) (xs : List A) (a : A) → Contains xs a → Contains (map f xs) (f a)
Contains-map f [] a h = absurd (none_in_nil a h)
Contains-map f (x ∷ xs) a h = go (Contains-cons_cases x xs a h) (λ t. Contains-map f xs a t)
  where
    go : (x ≡ a) ⊎ Contains xs a → (Contains xs a → Contains (map f xs) (f a)) → Contains (f x ∷ map f xs) (f a)
    go (inl same) up = subst (λ b. Contains (f x ∷ map f xs) (f b)) same (Contains-first (f x) (map f xs))
    go (inr t) up = Contains-later (f x) (map f xs) (f a) (up t)

-- and each such share is
pub output_names-all : (N : ℕ) (O : ℕ → ℕ → Bool) (us : List ℕ) (k j i : ℕ) → j < length us → i < N → O (k + j) i ≡ true →
    Contains (output_names N O us k) (slice_index us j, Share i)
output_names-all N O [] k j i lt below e = absurd (omega arith)
output_names-all N O (u ∷ us) k zero i lt below e =
    let same : k ≡ k + 0 = omega arith in
    Contains-append_left (map (λ a. (u, Share a)) (members N (O k))) (output_names N O us (suc k)) (u, Share i)
    (Contains-map (λ a. (u, Share a)) (members N (O k)) i (members-all N (O k) i below (ap (λ m. O m i) same ∙ e)))
output_names-all N O (u ∷ us) k (suc j) i lt below e =
    let same : suc k + j ≡ k + suc j = omega arith in
    Contains-append_right (map (λ a. (u, Share a)) (members N (O k))) (output_names N O us (suc k)) (slice_index us j, Share i)
    (output_names-all N O us (suc k) j i (omega arith) below (ap (λ m. O m i) same ∙ e))
