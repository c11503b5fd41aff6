-- The shift of a run's tape, call by call, and what it keeps.
use Rattle.std.proofs.Common.{◌≡◌, ℕ, suc, ◌+◌, ◌-◌, ◌<◌, ◌≤◌, ◌⊎◌, inl, inr, Bool, true, false, cond, not, ◌==◌, nat_lt, List, [], ◌∷◌, ◌++◌, map, length, take, drop, Contains, slice_index, slice_index_or, refl, ap, ap₂, sym, ◌∙◌, subst, arith, length-drop}
use Rattle.std.specs.List.{filter, flat_map}
use Rattle.std.proofs.lemmas.Bool.{true≢false, cases_lt, cases_order, or_left, or_right, eq-eqb, ne_eqb, lt-ltb, le-ltb, cond-true, cond-false}
use Rattle.std.proofs.lemmas.List.{length-map, length-take-le, get_or_append_left, get_or-append_right, get_or_push, length_push}
use Rattle.std.proofs.lemmas.List.Elements.{All-get_or, Contains-append_left, Contains-append_right}
use Rattle.std.proofs.lemmas.List.Sums.{sum_by-cons}
use Rattle.mask_circuit.specs.Netlist.{Netlist}
use Rattle.mask_circuit.specs.Ring.{bits}
use Rattle.mask_circuit.specs.declared.gates.Wire.TheVariants.{Share}
use Rattle.mask_circuit.specs.Wires.{Shares}
use Rattle.mask_circuit.specs.Expansion.{CircuitWire, shares_of, expand, names, wire_count, wires}
use Rattle.mask_circuit.specs.Probing.{same_bits, sum_over_tapes, AgreeOn, output_places}
use Rattle.mask_circuit.specs.Need.{need, probes_at}
use Rattle.mask_circuit.specs.Acceptance.{output_at}
use Rattle.mask_circuit.specs.Shift.{shift}
use Rattle.mask_laws.specs.Runs.{Origin, Public, Variable, Output, Call, origin_at, Outputs, no_outputs, origin_shares, call_inputs, call_draws, call_wires, evaluation, evaluation_wires, with_outputs, evaluations_from, run_wires, run_draws, run_seen, IsThere, IsStrongCall, AreStrongCalls, places_within, places_behind, demanded, demanded_by, run_need, RunNeed}
use Rattle.mask_laws.proofs.Members.{none_in_nil, Contains-cons_cases, Contains-first, Contains-later, map-same_in}
use Rattle.mask_laws.proofs.OutputShares.{Contains-map, output_names, output_names-all}
use Rattle.mask_laws.proofs.RunNeeds.{asked_of, call_probes, call_allowed, demanded_by-all, demanded_small, length-places}
use Rattle.mask_laws.proofs.Gates.{gate_keeps}
use Rattle.mask_laws.proofs.Probes.{probed_shares-from_Contains, need_from-probed}
use Rattle.mask_laws.proofs.Seen.{shift_keeps, shift_reorders}
use Rattle.mask_laws.proofs.Shifts.{take_front, drop_front, length-shift_from}
use Rattle.mask_laws.proofs.Strengthening.{strong_masked, need_with_outputs, asked_names, asked_within, asked_fits}
use Rattle.mask_laws.proofs.Tapes.{sum_over_tapes-same, sum_over_tapes-add}

-- THE SHIFT

-- a call's part of the tape, shifted for inputs with the shares s to inputs with the shares s'
abbrev call_shift : Call → List Call → ℕ → ℕ → List ℕ → (ℕ → Shares Bool) → (ℕ → Shares Bool) → List Bool → List Bool
call_shift call calls N j P s s' own = shift call.circuit N s s' (call_probes call calls N j P) own

-- the tape for variables y and outputs b on which the places P show what they show for x and a on the tape r
abbrev pub shift_run : List Call → ℕ → ℕ → (ℕ → Shares Bool) → (ℕ → Shares Bool) → Outputs → Outputs → List ℕ → List Bool → List Bool
shift_run [] N j x y a b P r = r
shift_run (call ∷ calls) N j x y a b P r =
    let s = call_inputs x a call in
    let s' = call_inputs y b call in
    let own = take (call_draws N call) r in
    let new = call_shift call calls N j P s s' own in
    new ++ shift_run calls N (suc j) x y (with_outputs N j (evaluation call s own) a) (with_outputs N j (evaluation call s' new) b) (places_behind (call_wires N call) P) (drop (call_draws N call) r)

-- it is as long as before
length-call_shift : (call : Call) (calls : List Call) (N j : ℕ) (P : List ℕ) (s s' : ℕ → Shares Bool) (own : List Bool) → length (call_shift call calls N j P s s' own) ≡ length own
length-call_shift call calls N j P s s' own = length-shift_from _ N call.circuit.gates call.circuit.inputs _ _ own

-- the shift of a tape in two parts
shift_parts : (call : Call) (calls : List Call) (N j : ℕ) (x y : ℕ → Shares Bool) (a b : Outputs) (P : List ℕ) (own rest : List Bool) → length own ≡ call_draws N call →
    shift_run (call ∷ calls) N j x y a b P (own ++ rest)
    ≡ call_shift call calls N j P (call_inputs x a call) (call_inputs y b call) own
    ++ shift_run calls N (suc j) x y (with_outputs N j (evaluation call (call_inputs x a call) own) a)
    (with_outputs N j (evaluation call (call_inputs y b call) (call_shift call calls N j P (call_inputs x a call) (call_inputs y b call) own)) b)
    (places_behind (call_wires N call) P) rest
shift_parts call calls N j x y a b P own rest long =
    ap₂ (λ own rest. call_shift call calls N j P (call_inputs x a call) (call_inputs y b call) own
    ++ shift_run calls N (suc j) x y (with_outputs N j (evaluation call (call_inputs x a call) own) a)
    (with_outputs N j (evaluation call (call_inputs y b call) (call_shift call calls N j P (call_inputs x a call) (call_inputs y b call) own)) b)
    (places_behind (call_wires N call) P) rest)
    (take_front (call_draws N call) own rest long) (drop_front (call_draws N call) own rest long)

-- The shift reorders the tapes.
pub sum_over_tapes-shift_run : (calls : List Call) (N j : ℕ) (x y : ℕ → Shares Bool) (a b : Outputs) (P : List ℕ) (f : List Bool → ℕ) →
    sum_over_tapes (run_draws calls N) (λ r. f (shift_run calls N j x y a b P r)) ≡ sum_over_tapes (run_draws calls N) f
sum_over_tapes-shift_run [] N j x y a b P f = refl
sum_over_tapes-shift_run (call ∷ calls) N j x y a b P f =
    let d = call_draws N call in
    let m = run_draws calls N in
    let s = call_inputs x a call in
    let s' = call_inputs y b call in
    let new = call_shift call calls N j P s s' in
    let shifted = λ (r : List Bool). f (shift_run (call ∷ calls) N j x y a b P r) in
    let rest_of = λ (own : List Bool). sum_over_tapes m (λ rest. f (own ++ rest)) in
    let front : (own : List Bool) → length own ≡ d → sum_over_tapes m (λ rest. shifted (own ++ rest)) ≡ rest_of (new own) = λ own long.
    sum_over_tapes-same m _ _ (λ rest _. ap f (shift_parts call calls N j x y a b P own rest long))
    ∙ sum_over_tapes-shift_run calls N (suc j) x y (with_outputs N j (evaluation call s own) a) (with_outputs N j (evaluation call s' (new own)) b) (places_behind (call_wires N call) P) (λ rest. f (new own ++ rest))
    in
    ap (λ n. sum_over_tapes n shifted) (sum_by-cons (call_draws N) call calls)
    ∙ sum_over_tapes-add d m shifted
    ∙ sum_over_tapes-same d _ _ front
    ∙ shift_reorders call.circuit N s s' (call_probes call calls N j P) rest_of
    ∙ sym (sum_over_tapes-add d m f)
    ∙ ap (λ n. sum_over_tapes n f) (sym (sum_by-cons (call_draws N) call calls))

-- WHAT IT KEEPS

-- both sides have the same shares where these calls demand them
abbrev pub SidesAgree : List Call → ℕ → List ℕ → List ℕ → (ℕ → Shares Bool) → (ℕ → Shares Bool) → Outputs → Outputs → Type 0
SidesAgree calls N P counts x y a b = (s : Origin) → IsThere counts s → (i : ℕ) → i < N → demanded calls N P s i ≡ true → origin_shares x a s i ≡ origin_shares y b s i

-- so has the need of a call the same input shares
inputs_agree : (call : Call) (calls : List Call) (N j : ℕ) (P counts : List ℕ) (x y : ℕ → Shares Bool) (a b : Outputs) → 2 ≤ N → IsStrongCall counts call →
    SidesAgree (call ∷ calls) N P counts x y a b → AgreeOn call.circuit N (need call.circuit N (call_probes call calls N j P)) (call_inputs x a call) (call_inputs y b call)
inputs_agree call calls N j P counts x y a b two is agree v i within lt needed =
    let own = need call.circuit N (places_within (call_wires N call) P) in
    agree (origin_at call v) (All-get_or (IsThere counts) call.origins v (Public false) (omega (arith, is.origins)) is.there) i lt
    (or_left (demanded_by call own (origin_at call v) i) (demanded calls N (places_behind (call_wires N call) P) (origin_at call v) i)
    (demanded_by-all call own v i within
    (sym (need_with_outputs call.circuit N (places_within (call_wires N call) P) (asked_of call calls N j P) two is.formed (strong_masked call.circuit is.strong) v i within) ∙ needed)))

-- lists that are the same have the same first element and the same rest
same_cons : {A : Type 0} (a b : A) (xs ys : List A) → a ∷ xs ≡ b ∷ ys → (a ≡ b) × (xs ≡ ys)
same_cons a b xs ys e = (cc, cc)

-- two functions that make one list of a list agree at its elements
pub same_at : {A B : Type 0} (f g : A → B) (xs : List A) (x : A) → map f xs ≡ map g xs → Contains xs x → f x ≡ g x
same_at f g [] x e h = absurd (none_in_nil x h)
same_at f g (y ∷ xs) x e h = go (Contains-cons_cases y xs x h) (λ rest. same_at f g xs x (same_cons (f y) (g y) (map f xs) (map g xs) e).1 rest)
  where
    go : (y ≡ x) ⊎ Contains xs x → (Contains xs x → f x ≡ g x) → f x ≡ g x
    go (inl same) up = subst (λ z. f z ≡ g z) same (same_cons (f y) (g y) (map f xs) (map g xs) e).0
    go (inr rest) up = up rest

-- an element that passes is among those that pass
pub Contains-filter : (test : ℕ → Bool) (xs : List ℕ) (x : ℕ) → Contains xs x → test x ≡ true → Contains (filter test xs) x
Contains-filter test [] x h e = absurd (none_in_nil x h)
Contains-filter test (y ∷ xs) x h e = go (test y) refl (Contains-cons_cases y xs x h) (λ rest. Contains-filter test xs x rest e)
  where
    go : (b : Bool) → test y ≡ b → (y ≡ x) ⊎ Contains xs x → (Contains xs x → Contains (filter test xs) x) → Contains (cond b (y ∷ filter test xs) (filter test xs)) x
    go true is (inl same) up = subst (Contains (y ∷ filter test xs)) same (Contains-first y (filter test xs))
    go true is (inr rest) up = Contains-later y (filter test xs) x (up rest)
    go false is (inl same) up = absurd (true≢false (sym e ∙ ap test (sym same) ∙ is))
    go false is (inr rest) up = up rest

-- one call: its probed wires carry the same ..
wires_kept : (call : Call) (calls : List Call) (N j : ℕ) (P counts : List ℕ) (s s' : ℕ → Shares Bool) (own : List Bool) → 2 ≤ N → AreStrongCalls counts (call ∷ calls) → length P < N →
    AgreeOn call.circuit N (need call.circuit N (call_probes call calls N j P)) s s' → length own ≡ call_draws N call → (p : ℕ) → Contains P p → p < call_wires N call →
    slice_index_or (wires bits call.circuit N s own) p false ≡ slice_index_or (wires bits call.circuit N s' (call_shift call calls N j P s s' own)) p false
wires_kept call calls N j P counts s s' own two are few agree long p h lt =
    let c = call.circuit in
    let allowed = call_allowed call calls N j P _ are.1 few in
    let Q = call_probes call calls N j P in
    let here : Contains Q p = Contains-append_left (places_within (call_wires N call) P) (output_places c N (asked_of call calls N j P)) p
    (Contains-filter (λ q. nat_lt q (call_wires N call)) P p h (lt-ltb p (call_wires N call) lt)) in
    same_at (λ q. slice_index_or (wires bits c N s own) q false) (λ q. slice_index_or (wires bits c N s' (call_shift call calls N j P s s' own)) q false) Q p
    (sym (shift_keeps gate_keeps c N s s' Q own two are.0.formed.gates (asked_within c N (places_within (call_wires N call) P) (asked_of call calls N j P) two are.0.formed allowed)
    (asked_fits c N (places_within (call_wires N call) P) (asked_of call calls N j P) two are.0.formed (strong_masked c are.0.strong) allowed) agree long).0) here

-- .. and so do the shares of its outputs that are asked for
outputs_kept : (call : Call) (calls : List Call) (N j : ℕ) (P counts : List ℕ) (s s' : ℕ → Shares Bool) (own : List Bool) → 2 ≤ N → AreStrongCalls counts (call ∷ calls) → length P < N →
    AgreeOn call.circuit N (need call.circuit N (call_probes call calls N j P)) s s' → length own ≡ call_draws N call →
    (k i : ℕ) → k < length call.circuit.outputs → i < N → asked_of call calls N j P k i ≡ true →
    shares_of (expand bits call.circuit N s own) (output_at call.circuit k) i
    ≡ shares_of (expand bits call.circuit N s' (call_shift call calls N j P s s' own)) (output_at call.circuit k) i
outputs_kept call calls N j P counts s s' own two are few agree long k i lt below asked =
    let c = call.circuit in
    let O = asked_of call calls N j P in
    let within = places_within (call_wires N call) P in
    let allowed = call_allowed call calls N j P _ are.1 few in
    let Q = call_probes call calls N j P in
    let zero_k : 0 + k ≡ k = omega arith in
    let here : Contains (probes_at c N Q) (output_at c k, Share i) =
    subst (λ (S : List CircuitWire). Contains S (output_at c k, Share i)) (sym (asked_names c N within O two are.0.formed))
    (Contains-append_right (probes_at c N within) (output_names N O c.outputs 0) (output_at c k, Share i)
    (output_names-all N O c.outputs 0 k i lt below (ap (λ z. O z i) zero_k ∙ asked))) in
    let demanded = need_from-probed (probes_at c N Q) c.gates c.inputs (output_at c k) i (probed_shares-from_Contains (probes_at c N Q) (output_at c k) i here) in
    sym ((shift_keeps gate_keeps c N s s' Q own two are.0.formed.gates (asked_within c N within O two are.0.formed allowed)
    (asked_fits c N within O two are.0.formed (strong_masked c are.0.strong) allowed) agree long).1 (output_at c k) i (are.0.formed.outputs k 0 lt) below demanded)

-- the outputs of the call itself ..
with_new : (N j : ℕ) (call : Call) (s : ℕ → Shares Bool) (own : List Bool) (a : Outputs) (l k i : ℕ) → l ≡ j →
    with_outputs N j (evaluation call s own) a l k i ≡ shares_of (expand bits call.circuit N s own) (output_at call.circuit k) i
with_new N j call s own a l k i same = ap (λ (f : Shares Bool). f i) (cond-true (l == j) (shares_of (expand bits call.circuit N s own) (output_at call.circuit k)) (a l k) (eq-eqb l j same))

-- .. and those of others, which stay
with_old : (N j : ℕ) (call : Call) (s : ℕ → Shares Bool) (own : List Bool) (a : Outputs) (l k i : ℕ) → (l ≡ j → ⊥) →
    with_outputs N j (evaluation call s own) a l k i ≡ a l k i
with_old N j call s own a l k i other = ap (λ (f : Shares Bool). f i) (cond-false (l == j) (shares_of (expand bits call.circuit N s own) (output_at call.circuit k)) (a l k) (ne_eqb l j other))

-- so the sides agree on what later calls demand
later_agree : (call : Call) (calls : List Call) (N j : ℕ) (P counts : List ℕ) (x y : ℕ → Shares Bool) (a b : Outputs) (own : List Bool) → 2 ≤ N →
    AreStrongCalls counts (call ∷ calls) → length P < N → length counts ≡ j → SidesAgree (call ∷ calls) N P counts x y a b → length own ≡ call_draws N call →
    SidesAgree calls N (places_behind (call_wires N call) P) (counts ++ length call.circuit.outputs ∷ []) x y
    (with_outputs N j (evaluation call (call_inputs x a call) own) a)
    (with_outputs N j (evaluation call (call_inputs y b call) (call_shift call calls N j P (call_inputs x a call) (call_inputs y b call) own)) b)
later_agree call calls N j P counts x y a b own two are few number agree long = go
  where
    s : ℕ → Shares Bool
    s = call_inputs x a call

    s' : ℕ → Shares Bool
    s' = call_inputs y b call

    earlier : (t : Origin) → IsThere counts t → (i : ℕ) → i < N → demanded calls N (places_behind (call_wires N call) P) t i ≡ true → origin_shares x a t i ≡ origin_shares y b t i
    earlier t there i lt e = agree t there i lt (or_right _ (demanded calls N (places_behind (call_wires N call) P) t i) e)

    go : (t : Origin) → IsThere (counts ++ length call.circuit.outputs ∷ []) t → (i : ℕ) → i < N → demanded calls N (places_behind (call_wires N call) P) t i ≡ true →
        origin_shares x (with_outputs N j (evaluation call s own) a) t i ≡ origin_shares y (with_outputs N j (evaluation call s' (call_shift call calls N j P s s' own)) b) t i
    go (Public bit) there i lt e = refl
    go (Variable v) there i lt e = earlier (Variable v) tt i lt e
    go (Output l k) there i lt e = at (cases_order l j)
      where
        m : ℕ
        m = length call.circuit.outputs

        at : (l ≡ j) ⊎ ((l < j) ⊎ (j < l)) → with_outputs N j (evaluation call s own) a l k i ≡ with_outputs N j (evaluation call s' (call_shift call calls N j P s s' own)) b l k i
        at (inl same) =
            let last : slice_index (counts ++ m ∷ []) l ≡ m = get_or_push counts m 0 l (number ∙ sym same) in
            with_new N j call s own a l k i same
            ∙ outputs_kept call calls N j P counts s s' own two are few (inputs_agree call calls N j P counts x y a b two are.0 agree) long k i
            (omega (arith, there.1)) lt (subst (λ (z : ℕ). demanded calls N (places_behind (call_wires N call) P) (Output z k) i ≡ true) same e)
            ∙ sym (with_new N j call s' (call_shift call calls N j P s s' own) b l k i same)
        at (inr (inl before)) =
            let old : slice_index (counts ++ m ∷ []) l ≡ slice_index counts l = get_or_append_left counts (m ∷ []) 0 l (omega arith) in
            with_old N j call s own a l k i (λ same. omega arith)
            ∙ earlier (Output l k) (omega arith, omega (arith, there.1)) i lt e
            ∙ sym (with_old N j call s' (call_shift call calls N j P s s' own) b l k i (λ same. omega arith))
        at (inr (inr after)) = absurd (omega (arith, there.0, length_push counts m))

-- the wires of these calls
abbrev wires_from : List Call → ℕ → ℕ → (ℕ → Shares Bool) → Outputs → List Bool → List Bool
wires_from calls N j x a r = flat_map (evaluation_wires N) (evaluations_from calls N j x a r)

-- those of a tape in two parts
wires_parts : (call : Call) (calls : List Call) (N j : ℕ) (x : ℕ → Shares Bool) (a : Outputs) (own rest : List Bool) → length own ≡ call_draws N call →
    wires_from (call ∷ calls) N j x a (own ++ rest)
    ≡ wires bits call.circuit N (call_inputs x a call) own ++ wires_from calls N (suc j) x (with_outputs N j (evaluation call (call_inputs x a call) own) a) rest
wires_parts call calls N j x a own rest long =
    ap₂ (λ own rest. wires bits call.circuit N (call_inputs x a call) own ++ wires_from calls N (suc j) x (with_outputs N j (evaluation call (call_inputs x a call) own) a) rest)
    (take_front (call_draws N call) own rest long) (drop_front (call_draws N call) own rest long)

-- a circuit has as many wires whatever they carry
pub length-wires : (c : Netlist) (N : ℕ) (s : ℕ → Shares Bool) (r : List Bool) → length (wires bits c N s r) ≡ wire_count c N
length-wires c N s r = length-map (names c N) (λ p. expand bits c N s r p.0 p.1)

-- two lists that agree before n and behind it agree at every place
same_parts : (xs xs' ys ys' : List Bool) (n p : ℕ) → length xs ≡ n → length xs' ≡ n →
    (p < n → slice_index_or xs p false ≡ slice_index_or xs' p false) → (n ≤ p → slice_index_or ys (p - n) false ≡ slice_index_or ys' (p - n) false) →
    slice_index_or (xs ++ ys) p false ≡ slice_index_or (xs' ++ ys') p false
same_parts xs xs' ys ys' n p size size' front back = elim (cases_lt p n) [
  | inl lt ↦ get_or_append_left xs ys false p (omega arith) ∙ front lt ∙ sym (get_or_append_left xs' ys' false p (omega arith))
  | inr le ↦ get_or-append_right xs ys n p false size le ∙ back le ∙ sym (get_or-append_right xs' ys' n p false size' le)
]

-- a place behind the first n wires, counted from there
place_behind : (n : ℕ) (P : List ℕ) (p : ℕ) → Contains P p → n ≤ p → Contains (places_behind n P) (p - n)
place_behind n P p h le = Contains-map (λ q. q - n) (filter (λ q. not (nat_lt q n)) P) p
    (Contains-filter (λ q. not (nat_lt q n)) P p h (ap not (le-ltb p n le)))

-- Each place shows the same on both sides.
pub shift_run-keeps : (calls : List Call) (N j : ℕ) (P counts : List ℕ) (x y : ℕ → Shares Bool) (a b : Outputs) (r : List Bool) → 2 ≤ N →
    AreStrongCalls counts calls → length P < N → length counts ≡ j → SidesAgree calls N P counts x y a b → length r ≡ run_draws calls N → (p : ℕ) → Contains P p →
    slice_index_or (wires_from calls N j x a r) p false ≡ slice_index_or (wires_from calls N j y b (shift_run calls N j x y a b P r)) p false
shift_run-keeps [] N j P counts x y a b r two are few number agree long p h = refl
shift_run-keeps (call ∷ calls) N j P counts x y a b r two are few number agree long p h =
    let d = call_draws N call in
    let w = call_wires N call in
    let s = call_inputs x a call in
    let s' = call_inputs y b call in
    let own = take d r in
    let new = call_shift call calls N j P s s' own in
    let total : run_draws (call ∷ calls) N ≡ d + run_draws calls N = sum_by-cons (call_draws N) call calls in
    let own_long : length own ≡ d = length-take-le d r (omega arith) in
    let rest_long : length (drop d r) ≡ run_draws calls N = omega (arith, length-drop d r) in
    let new_long : length new ≡ d = length-call_shift call calls N j P s s' own ∙ own_long in
    let parts = length-places w P in
    same_parts (wires bits call.circuit N s own) (wires bits call.circuit N s' new) _ _ w p (length-wires call.circuit N s own) (length-wires call.circuit N s' new)
    (λ lt. wires_kept call calls N j P counts s s' own two are few (inputs_agree call calls N j P counts x y a b two are.0 agree) own_long p h lt)
    (λ le. shift_run-keeps calls N (suc j) (places_behind w P) _ x y _ _ (drop d r) two are.1 (omega arith) (length_push counts (length call.circuit.outputs) ∙ omega arith)
    (later_agree call calls N j P counts x y a b own two are few number agree own_long) rest_long (p - w) (place_behind w P p h le))
    ∙ ap (λ ws. slice_index_or ws p false) (sym (wires_parts call calls N j y b new _ new_long))

-- before any call the sides agree on the need of the variables
start_agree : (calls : List Call) (N : ℕ) (P : List ℕ) (x y : ℕ → Shares Bool) → ((v i : ℕ) → i < N → run_need calls N P v i ≡ true → x v i ≡ y v i) →
    SidesAgree calls N P [] x y no_outputs no_outputs
start_agree calls N P x y agree (Public bit) there i lt e = refl
start_agree calls N P x y agree (Variable v) there i lt e = agree v i lt e
start_agree calls N P x y agree (Output j k) there i lt e = refl

-- what the places show has the same sum over all tapes as over the shifted tapes
pub run_needs : RunNeed
run_needs calls N P two are few = (
  λ v. demanded_small calls N P [] (Variable v) are (λ e. e),
  λ x y agree v.
      let hit = λ (bs : List Bool). cond (same_bits bs v) 1 0 in
      let shifted = λ (r : List Bool). shift_run calls N 0 x y no_outputs no_outputs P r in
      sum_over_tapes-same (run_draws calls N) _ _ (λ r long. ap hit
      (map-same_in (λ p. slice_index_or (run_wires calls N x r) p false) (λ p. slice_index_or (run_wires calls N y (shifted r)) p false) P
      (λ p h. shift_run-keeps calls N 0 P [] x y no_outputs no_outputs r two are few refl (start_agree calls N P x y agree) long p h)))
      ∙ sum_over_tapes-shift_run calls N 0 x y no_outputs no_outputs P (λ r. hit (run_seen calls N y r P)),
)
