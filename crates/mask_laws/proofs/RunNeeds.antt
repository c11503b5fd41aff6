-- How much the calls of a run demand.
use Rattle.std.proofs.Common.{◌≡◌, ℕ, zero, suc, ◌+◌, ◌-◌, ◌<◌, ◌≤◌, ◌⊎◌, inl, inr, Bool, true, false, cond, not, ◌&&◌, ◌||◌, ◌==◌, nat_lt, List, [], ◌∷◌, ◌++◌, map, length, take, All, refl, ap, ap₂, sym, ◌∙◌, subst, arith, append_assoc, append-nil}
use Rattle.std.specs.List.{filter, list_any}
use Rattle.std.proofs.lemmas.Bool.{true≢false, or_cases, or_left, or_right, and_parts, and_from, eq-eqb, eqb-true, ltb-true, cases_order}
use Rattle.std.proofs.lemmas.List.{length-map}
use Rattle.std.proofs.lemmas.List.Elements.{All-weaker, filter_passes}
use Rattle.std.proofs.lemmas.List.Folds.{list_any-append}
use Rattle.mask_circuit.specs.Value.{xor}
use Rattle.mask_circuit.specs.Wires.{each}
use Rattle.mask_circuit.specs.Probing.{size, ShareSets, output_places}
use Rattle.mask_circuit.specs.Need.{ShareSet, need}
use Rattle.mask_laws.specs.Strong.{AreAllowed}
use Rattle.mask_laws.specs.Runs.{Origin, Public, Variable, Output, Call, origin_at, call_wires, IsPublic, IsStrongCall, AreStrongCalls, places_within, places_behind, same_origin, demanded_by, demanded, StrongRunsBegin, StrongRunsGrow}
use Rattle.mask_laws.proofs.Sets.{size-mono, size-or, size-none}
use Rattle.mask_laws.proofs.Strengthening.{size_cases, need_small}

-- PLACES

-- what passes a test and what fails it are the whole list
filter_parts : (test : ℕ → Bool) (xs : List ℕ) → length (filter test xs) + length (filter (λ x. not (test x)) xs) ≡ length xs
filter_parts test [] = refl
filter_parts test (x ∷ xs) = go (test x) (filter_parts test xs)
  where
    go : (b : Bool) → length (filter test xs) + length (filter (λ y. not (test y)) xs) ≡ length xs →
        length (cond b (x ∷ filter test xs) (filter test xs)) + length (cond (not b) (x ∷ filter (λ y. not (test y)) xs) (filter (λ y. not (test y)) xs)) ≡ suc (length xs)
    go true e = omega arith
    go false e = omega arith

-- each place is on the first n wires or behind them
pub length-places : (n : ℕ) (P : List ℕ) → length (places_within n P) + length (places_behind n P) ≡ length P
length-places n P =
    let same = length-map (filter (λ p. not (nat_lt p n)) P) (λ p. p - n) in
    let both = filter_parts (λ p. nat_lt p n) P in
    omega arith

-- the places on the first n wires are below n
pub places_within-below : (n : ℕ) (P : List ℕ) → All (λ p. p < n) (places_within n P)
places_within-below n P = All-weaker (λ p. nat_lt p n ≡ true) (λ p. p < n) (λ p e. ltb-true p n e) (places_within n P) (filter_passes (λ p. nat_lt p n) P)

-- SOURCES

-- bits whose sum is 0 are the same
not_xor : (a b : Bool) → not (xor a b) ≡ true → a ≡ b
not_xor true true e = refl
not_xor true false e = absurd (true≢false (sym e))
not_xor false true e = absurd (true≢false (sym e))
not_xor false false e = refl

-- the test finds the same origin alone ..
same_origin-true : (s t : Origin) → same_origin s t ≡ true → s ≡ t
same_origin-true (Public a) (Public b) e = ap Public (not_xor a b e)
same_origin-true (Public a) (Variable v) e = absurd (true≢false (sym e))
same_origin-true (Public a) (Output j k) e = absurd (true≢false (sym e))
same_origin-true (Variable u) (Public b) e = absurd (true≢false (sym e))
same_origin-true (Variable u) (Variable v) e = ap Variable (eqb-true u v e)
same_origin-true (Variable u) (Output j k) e = absurd (true≢false (sym e))
same_origin-true (Output i l) (Public b) e = absurd (true≢false (sym e))
same_origin-true (Output i l) (Variable v) e = absurd (true≢false (sym e))
same_origin-true (Output i l) (Output j k) e =
    let parts = and_parts (i == j) (l == k) e in ap₂ (λ a b. Output a b) (eqb-true i j parts.0) (eqb-true l k parts.1)

-- .. and finds it
same_origin-itself : (s : Origin) → same_origin s s ≡ true
same_origin-itself (Public true) = refl
same_origin-itself (Public false) = refl
same_origin-itself (Variable v) = eq-eqb v v refl
same_origin-itself (Output j k) = and_from (j == j) (k == k) (eq-eqb j j refl) (eq-eqb k k refl)

-- some number below n passes where the test says so ..
any_below : (test : ℕ → Bool) (n : ℕ) → list_any test (each (λ v. v) n) ≡ true → (v : ℕ) × (v < n) × (test v ≡ true)
any_below test zero e = absurd (true≢false (sym e))
any_below test (suc n) e = go (or_cases (list_any test (each (λ v. v) n)) (test n || false) (sym (list_any-append test (each (λ v. v) n) (n ∷ [])) ∙ e)) (any_below test n)
  where
    go : (list_any test (each (λ v. v) n) ≡ true) ⊎ ((test n || false) ≡ true) → (list_any test (each (λ v. v) n) ≡ true → (v : ℕ) × (v < n) × (test v ≡ true)) →
        (v : ℕ) × (v < suc n) × (test v ≡ true)
    go (inl old) up = let r = up old in (r.0, omega (arith, r.1), r.2)
    go (inr new) up = elim (or_cases (test n) false new) [ inl is ↦ (n, omega arith, is) | inr never ↦ absurd (true≢false (sym never)) ]

-- .. and the test says so where one does
below_any : (test : ℕ → Bool) (n v : ℕ) → v < n → test v ≡ true → list_any test (each (λ v. v) n) ≡ true
below_any test zero v lt is = absurd (omega arith)
below_any test (suc n) v lt is = list_any-append test (each (λ v. v) n) (n ∷ []) ∙ go (cases_order v n) (λ l. below_any test n v l is)
  where
    go : (v ≡ n) ⊎ ((v < n) ⊎ (n < v)) → (v < n → list_any test (each (λ v. v) n) ≡ true) → (list_any test (each (λ v. v) n) || (test n || false)) ≡ true
    go (inl same) up = or_right _ (test n || false) (or_left (test n) false (ap test (sym same) ∙ is))
    go (inr (inl l)) up = or_left _ (test n || false) (up l)
    go (inr (inr g)) up = absurd (omega arith)

-- a demanded share of an origin is one of an input that has this origin ..
pub demanded_by-only : (call : Call) (I : ShareSets) (s : Origin) (i : ℕ) → demanded_by call I s i ≡ true →
    (v : ℕ) × (v < call.circuit.inputs) × (origin_at call v ≡ s) × (I v i ≡ true)
demanded_by-only call I s i e =
    let r = any_below (λ v. same_origin (origin_at call v) s && I v i) call.circuit.inputs e in
    let parts = and_parts (same_origin (origin_at call r.0) s) (I r.0 i) r.2 in
    (r.0, r.1, same_origin-true (origin_at call r.0) s parts.0, parts.1)

-- .. and those of each input are demanded
pub demanded_by-all : (call : Call) (I : ShareSets) (v i : ℕ) → v < call.circuit.inputs → I v i ≡ true → demanded_by call I (origin_at call v) i ≡ true
demanded_by-all call I v i lt is =
    below_any (λ u. same_origin (origin_at call u) (origin_at call v) && I u i) call.circuit.inputs v lt
    (and_from (same_origin (origin_at call v) (origin_at call v)) (I v i) (same_origin-itself (origin_at call v)) is)

-- where no origin is taken twice, no more shares of it are demanded than of some input
size-demanded_by : (counts : List ℕ) (call : Call) (I : ShareSets) (s : Origin) (N t : ℕ) → IsStrongCall counts call → (IsPublic s → ⊥) →
    ((v : ℕ) → v < call.circuit.inputs → size N (I v) ≤ t) → size N (demanded_by call I s) ≤ t
size-demanded_by counts call I s N t is secret small = go (size_cases N (demanded_by call I s))
  where
    apart : (u v : ℕ) → u < v → v < call.circuit.inputs → origin_at call u ≡ s → origin_at call v ≡ s → ⊥
    apart u v lt within one two = secret (subst IsPublic one (is.once u v lt (omega (arith, is.origins)) (one ∙ sym two)))

    go : (size N (demanded_by call I s) ≡ 0) ⊎ ((i : ℕ) × (i < N) × (demanded_by call I s i ≡ true)) → size N (demanded_by call I s) ≤ t
    go (inl none) = omega arith
    go (inr some) =
        let v = demanded_by-only call I s some.0 some.2 in
        let bound = small v.0 v.1 in
        let within : size N (demanded_by call I s) ≤ size N (I v.0) = size-mono N (demanded_by call I s) (I v.0) (λ i lt e.
        let u = demanded_by-only call I s i e in
        elim (cases_order u.0 v.0) [
          | inl same ↦ ap (λ w. I w i) (sym same) ∙ u.3
          | inr other ↦ elim other [ inl l ↦ absurd (apart u.0 v.0 l v.1 u.2 v.2) | inr g ↦ absurd (apart v.0 u.0 g u.1 v.2 u.2) ]
        ]) in
        omega arith

-- CALLS

-- the shares of its outputs that are demanded of call number j by those after it
abbrev pub asked_of : Call → List Call → ℕ → ℕ → List ℕ → ℕ → ShareSet
asked_of call calls N j P k = demanded calls N (places_behind (call_wires N call) P) (Output j k)

-- the probes on its own wires, and these shares
abbrev pub call_probes : Call → List Call → ℕ → ℕ → List ℕ → List ℕ
call_probes call calls N j P = places_within (call_wires N call) P ++ output_places call.circuit N (asked_of call calls N j P)

-- No origin that isn't public has more demanded shares than there are probes.
pub demanded_small : (calls : List Call) (N : ℕ) (P counts : List ℕ) (s : Origin) → AreStrongCalls counts calls → (IsPublic s → ⊥) → size N (demanded calls N P s) ≤ length P
demanded_small [] N P counts s are secret = let none : size N (λ i. false) ≡ 0 = size-none N (λ i. false) (λ i lt. refl) in omega arith
demanded_small (call ∷ calls) N P counts s are secret =
    let own = size-demanded_by counts call (need call.circuit N (places_within (call_wires N call) P)) s N (length (places_within (call_wires N call) P)) are.0 secret
    (need_small call.circuit N (places_within (call_wires N call) P) are.0.formed are.0.strong.0) in
    let later = demanded_small calls N (places_behind (call_wires N call) P) _ s are.1 secret in
    let both = size-or N (demanded_by call (need call.circuit N (places_within (call_wires N call) P)) s) (demanded calls N (places_behind (call_wires N call) P) s) in
    let parts = length-places (call_wires N call) P in
    omega arith

-- so the probes of a call and what is asked of it are few enough
pub call_allowed : (call : Call) (calls : List Call) (N j : ℕ) (P counts : List ℕ) → AreStrongCalls counts calls → length P < N →
    AreAllowed call.circuit N (places_within (call_wires N call) P) (asked_of call calls N j P)
call_allowed call calls N j P counts are few =
    let parts = length-places (call_wires N call) P in
    record {
      wires = places_within-below (call_wires N call) P;
      few = omega arith;
      fewer = λ k lt.
          let small = demanded_small calls N (places_behind (call_wires N call) P) counts (Output j k) are (λ e. e) in
          omega arith;
    }

-- STRONG RUNS

-- the first of these calls are strong calls
begin : (counts : List ℕ) (calls : List Call) (k : ℕ) → AreStrongCalls counts calls → AreStrongCalls counts (take k calls)
begin counts calls zero are = tt
begin counts [] (suc k) are = tt
begin counts (call ∷ calls) (suc k) are = (are.0, begin _ calls k are.1)

-- so the first calls of a run are one
pub strong_runs_begin : StrongRunsBegin
strong_runs_begin calls k are = begin [] calls k are

-- strong calls that follow these
grow : (counts : List ℕ) (calls more : List Call) → AreStrongCalls counts calls →
    AreStrongCalls (counts ++ map (λ call. length call.circuit.outputs) calls) more → AreStrongCalls counts (calls ++ more)
grow counts [] more are later = subst (λ (ns : List ℕ). AreStrongCalls ns more) (append-nil counts) later
grow counts (call ∷ calls) more are later =
    let m = length call.circuit.outputs in (
      are.0,
      grow (counts ++ m ∷ []) calls more are.1
          (subst (λ (ns : List ℕ). AreStrongCalls ns more) (sym (append_assoc counts (m ∷ []) (map (λ call. length call.circuit.outputs) calls))) later),
    )

-- so a run grows by strong calls
pub strong_runs_grow : StrongRunsGrow
strong_runs_grow calls more are later = grow [] calls more are later
