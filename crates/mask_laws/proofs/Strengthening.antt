-- Circuits whose outputs are masked, as those of strong circuits are: the shares of outputs that are asked for beside the
-- inner wires fit too, and cost no further need.
use Rattle.std.proofs.Common.{◌≡◌, ℕ, zero, suc, ◌+◌, ◌<◌, ◌≤◌, ◌⊎◌, inl, inr, Bool, true, false, cond, ◌&&◌, ◌||◌, ◌==◌, List, [], ◌∷◌, ◌++◌, length, slice_index_or, All, Some, None, refl, ap, ap₂, sym, ◌∙◌, subst, arith, append-nil}
use Rattle.std.proofs.lemmas.Bool.{cases_order, false_from_ne_true}
use Rattle.std.proofs.lemmas.List.{map-append, length-map}
use Rattle.std.proofs.lemmas.List.Elements.{All-append, All-weaker, All-nil, All-cons}
use Rattle.std.proofs.lemmas.List.Folds.{list_any-append}
use Rattle.std.specs.declared.option.Option.{Option}
use Rattle.mask_circuit.specs.declared.gates.Gate.{Gate}
use Rattle.mask_circuit.specs.declared.gates.Gate.TheVariants.{Zero, One, Xor, Not, And, Ref}
use Rattle.mask_circuit.specs.Netlist.{Netlist, IsWellFormed, AreGates}
use Rattle.mask_circuit.specs.declared.gates.Wire.{Wire}
use Rattle.mask_circuit.specs.declared.gates.Wire.TheVariants.{Share}
use Rattle.mask_circuit.specs.Expansion.{CircuitWire, names, wire_count}
use Rattle.mask_circuit.specs.Probing.{same_wire, size, HasAtMost, IsInner, IsSimulated, IsSNI, output_places}
use Rattle.mask_circuit.specs.Need.{ShareSet, inner_probes, probed_shares, demand, need_from, need, probes_at}
use Rattle.mask_circuit.specs.Acceptance.{gate_at, Reaches, Input, ProductHere, RefreshHere, IsAccepted, IsStrong, output_at}
use Rattle.mask_laws.specs.Clashes.{reach, clash}
use Rattle.mask_laws.specs.Gadgets.{FitsGate, lone_product, lone_refresh, GadgetsAreSNI}
use Rattle.mask_laws.specs.Circuits.{FitsAt, FitsFrom, Fits}
use Rattle.mask_laws.specs.Strong.{AreAllowed, StrongNeed, StrongIsSNI}
use Rattle.mask_laws.proofs.Bits.{or-false}
use Rattle.mask_laws.proofs.Sets.{size-mono, size-or}
use Rattle.mask_laws.proofs.Clashing.{clash_decides}
use Rattle.mask_laws.proofs.Demands.{inner_probes-append}
use Rattle.mask_laws.proofs.Fitting.{source_count}
use Rattle.mask_circuit.proofs.GateAt.{gate_at_input, AreGatesAt, AreGatesAt-all}
use Rattle.mask_laws.proofs.Gates.{gate_keeps}
use Rattle.mask_laws.proofs.Seen.{fitting_is_simulated}
use Rattle.mask_laws.proofs.Simulation.{accepted_needs_few}
use Rattle.mask_laws.proofs.OutputShares.{output_names, output_places-names, output_places-below, output_names-inner, output_names-only}

-- the last two of three change places
or_turn : (a b d : Bool) → ((a || b) || d) ≡ ((a || d) || b)
or_turn true b d = refl
or_turn false true true = refl
or_turn false true false = refl
or_turn false false d = sym (or-false d)

-- a set is empty, or has an element
pub size_cases : (n : ℕ) (f : ℕ → Bool) → (size n f ≡ 0) ⊎ ((i : ℕ) × (i < n) × (f i ≡ true))
size_cases zero f = inl refl
size_cases (suc n) f = go (f n) refl (size_cases n f)
  where
    go : (b : Bool) → f n ≡ b → (size n f ≡ 0) ⊎ ((i : ℕ) × (i < n) × (f i ≡ true)) →
        (size n f + cond b 1 0 ≡ 0) ⊎ ((i : ℕ) × (i < suc n) × (f i ≡ true))
    go true e old = inr (n, omega arith, e)
    go false e (inl none) = inl (omega arith)
    go false e (inr some) = inr (some.0, omega (arith, some.1), some.2)

-- a product or a refresh: it demands by its inner probes alone, whatever is asked for of its value
abbrev pub IsMasked : Option Gate → Type 0
IsMasked None = ⊥
IsMasked (Some Zero) = ⊥
IsMasked (Some One) = ⊥
IsMasked (Some (Xor u v)) = ⊥
IsMasked (Some (Not u)) = ⊥
IsMasked (Some (And u v)) = Unit {0}
IsMasked (Some (Ref u)) = Unit {0}

-- S are shares of values that products and refreshes make: none is an inner wire
pub record AreMasked (c : Netlist) (S : List CircuitWire) : Type 0 where
  pub shares : (m : ℕ) → inner_probes m S ≡ []
  pub masked : (m i : ℕ) → probed_shares S m i ≡ true → IsMasked (gate_at c m)

-- so no other gate has any of them
unasked : (c : Netlist) (S : List CircuitWire) (m i : ℕ) (g : Option Gate) → AreMasked c S → gate_at c m ≡ g → (IsMasked g → ⊥) → probed_shares S m i ≡ false
unasked c S m i g are is other = false_from_ne_true (probed_shares S m i) (λ asked. other (subst IsMasked is (are.masked m i asked)))

-- to ask for them beside P makes no gate demand more
demand_asked : (c : Netlist) (S : List CircuitWire) (g : Gate) (n : ℕ) (Q : List Wire) (O : ShareSet) (v i : ℕ) → AreMasked c S → gate_at c n ≡ Some g →
    demand g Q (λ j. O j || probed_shares S n j) v i ≡ demand g Q O v i
demand_asked c S Zero n Q O v i are is = refl
demand_asked c S One n Q O v i are is = refl
demand_asked c S (Xor u w) n Q O v i are is =
    ap (λ b. (v == u || v == w) && (O i || b)) (unasked c S n i (Some (Xor u w)) are is (λ h. h)) ∙ ap (λ b. (v == u || v == w) && b) (or-false (O i))
demand_asked c S (Not u) n Q O v i are is =
    ap (λ b. v == u && (O i || b)) (unasked c S n i (Some (Not u)) are is (λ h. h)) ∙ ap (λ b. v == u && b) (or-false (O i))
demand_asked c S (And u w) n Q O v i are is = refl
demand_asked c S (Ref u) n Q O v i are is = refl

-- the inner probes stay those of P
inner_asked : (c : Netlist) (P S : List CircuitWire) (n : ℕ) → AreMasked c S → inner_probes n (P ++ S) ≡ inner_probes n P
inner_asked c P S n are = inner_probes-append n P S ∙ ap (λ Q. inner_probes n P ++ Q) (are.shares n) ∙ append-nil (inner_probes n P)

-- what is demanded beside P is what is asked for, and nothing further
pub need_asked : (c : Netlist) (P S : List CircuitWire) (gs : List Gate) (n v i : ℕ) → AreMasked c S → AreGatesAt c gs n →
    need_from (P ++ S) gs n v i ≡ (need_from P gs n v i || probed_shares S v i)
need_asked c P S [] n v i are at = list_any-append (λ p. p.0 == v && same_wire (Share i) p.1) P S
need_asked c P S (g ∷ gs) n v i are at =
    ap₂ (λ b (O : ShareSet). b || demand g (inner_probes n (P ++ S)) O v i) (need_asked c P S gs (suc n) v i are at.1)
    (λ d j. need_asked c P S gs (suc n) n j are at.1 d)
    ∙ ap (λ b. (need_from P gs (suc n) v i || probed_shares S v i) || b)
    (ap (λ Q. demand g Q (λ j. need_from P gs (suc n) n j || probed_shares S n j) v i) (inner_asked c P S n are)
    ∙ demand_asked c S g n (inner_probes n P) (need_from P gs (suc n) n) v i are at.0)
    ∙ or_turn (need_from P gs (suc n) v i) (probed_shares S v i) (demand g (inner_probes n P) (need_from P gs (suc n) n) v i)

-- the shares that are asked for of each value leave room for as many probes as P has
abbrev pub HasRoom : ℕ → List CircuitWire → List CircuitWire → Type 0
HasRoom N P S = (m : ℕ) → length P + size N (probed_shares S m) < N

-- at a source the count of P leaves room for what is asked for ..
fits_source : (c : Netlist) (N : ℕ) (P S : List CircuitWire) (g : Gate) (gs : List Gate) (n : ℕ) → IsAccepted c → AreMasked c S → HasRoom N P S →
    AreGatesAt c gs (suc n) → AreGates (suc n) gs → Reaches c n n → FitsGate N (inner_probes n (P ++ S)) (need_from (P ++ S) gs (suc n) n)
fits_source c N P S g gs n accepted asked room at are source =
    let count = source_count c N P accepted gs (suc n) at are n source in
    let inner : length (inner_probes n (P ++ S)) ≡ length (inner_probes n P) = ap length (inner_asked c P S n asked) in
    let split : size N (need_from (P ++ S) gs (suc n) n) ≤ size N (λ i. need_from P gs (suc n) n i || probed_shares S n i) =
    size-mono N _ _ (λ i k d. sym (need_asked c P S gs (suc n) n i asked at) ∙ d) in
    let union = size-or N (need_from P gs (suc n) n) (probed_shares S n) in
    let free = room n in
    omega arith

-- .. so each gate has it
fits_at : (c : Netlist) (N : ℕ) (P S : List CircuitWire) (g : Gate) (gs : List Gate) (n : ℕ) → IsAccepted c → AreMasked c S → HasRoom N P S → gate_at c n ≡ Some g →
    AreGatesAt c gs (suc n) → AreGates (suc n) gs → FitsAt N g (inner_probes n (P ++ S)) (need_from (P ++ S) gs (suc n) n)
fits_at c N P S Zero gs n accepted asked room is at are = tt
fits_at c N P S One gs n accepted asked room is at are = tt
fits_at c N P S (Xor u v) gs n accepted asked room is at are = tt
fits_at c N P S (Not u) gs n accepted asked room is at are = tt
fits_at c N P S (And u v) gs n accepted asked room is at are = fits_source c N P S (And u v) gs n accepted asked room at are (ProductHere is)
fits_at c N P S (Ref u) gs n accepted asked room is at are = fits_source c N P S (Ref u) gs n accepted asked room at are (RefreshHere is)

-- With room for what is asked for, the list with it fits.
pub fits_asked : (c : Netlist) (N : ℕ) (P S : List CircuitWire) (gs : List Gate) (n : ℕ) → IsAccepted c → AreMasked c S → HasRoom N P S →
    AreGatesAt c gs n → AreGates n gs → FitsFrom N (P ++ S) gs n
fits_asked c N P S [] n accepted asked room at are = tt
fits_asked c N P S (g ∷ gs) n accepted asked room at are =
    (fits_at c N P S g gs n accepted asked room at.0 at.1 are.1, fits_asked c N P S gs (suc n) accepted asked room at.1 are.1)

-- and of the inputs nothing further is demanded
pub inputs_asked : (c : Netlist) (P S : List CircuitWire) (v i : ℕ) → AreMasked c S → v < c.inputs → need_from (P ++ S) c.gates c.inputs v i ≡ need_from P c.gates c.inputs v i
inputs_asked c P S v i asked lt =
    need_asked c P S c.gates c.inputs v i asked (AreGatesAt-all c)
    ∙ ap (λ b. need_from P c.gates c.inputs v i || b) (unasked c S v i None asked (gate_at_input c v lt) (λ h. h))
    ∙ or-false (need_from P c.gates c.inputs v i)

-- CIRCUITS WITH MASKED OUTPUTS

-- the circuit is accepted, and its outputs are distinct products and refreshes
pub record HasMaskedOutputs (c : Netlist) : Type 0 where
  pub accepted : IsAccepted c
  pub masked : (k : ℕ) → k < length c.outputs → IsMasked (gate_at c (output_at c k))
  pub first : (i k : ℕ) → i < k → k < length c.outputs → output_at c i ≡ output_at c k → ⊥

-- as it is in a strong circuit
pub strong_masked : (c : Netlist) → IsStrong c → HasMaskedOutputs c
strong_masked c strong = record {
  accepted = strong.0;
  masked = λ k lt. let fence = (strong.1 k lt).is_refresh in subst IsMasked (sym fence.1) tt;
  first = λ i k lt within. (strong.1 k within).is_first i lt;
}

-- so only shares of products and refreshes are asked for
outputs_masked : (c : Netlist) (N : ℕ) (O : ℕ → ℕ → Bool) → HasMaskedOutputs c → AreMasked c (output_names N O c.outputs 0)
outputs_masked c N O has = record {
  shares = output_names-inner N O c.outputs 0;
  masked = λ m i asked.
      let r = output_names-only N O c.outputs 0 m i asked in
      subst (λ (u : ℕ). IsMasked (gate_at c u)) r.2 (has.masked r.0 r.1);
}

-- outputs are distinct, so that of each value at most the set of one output is asked for
outputs_apart : (c : Netlist) → HasMaskedOutputs c → (j k : ℕ) → j < length c.outputs → k < length c.outputs → output_at c j ≡ output_at c k → j ≡ k
outputs_apart c has j k one two same = elim (cases_order j k) [
  | inl e ↦ e
  | inr other ↦ elim other [ inl l ↦ absurd (has.first j k l two same) | inr g ↦ absurd (has.first k j g one (sym same)) ]
]

-- so where each set of shares leaves room, all that is asked for does
outputs_room : (c : Netlist) (N : ℕ) (P : List CircuitWire) (O : ℕ → ℕ → Bool) → HasMaskedOutputs c → length P < N →
    ((k : ℕ) → k < length c.outputs → length P + size N (O k) < N) → HasRoom N P (output_names N O c.outputs 0)
outputs_room c N P O has few room m = go (size_cases N (probed_shares S m))
  where
    S : List CircuitWire
    S = output_names N O c.outputs 0

    go : (size N (probed_shares S m) ≡ 0) ⊎ ((i : ℕ) × (i < N) × (probed_shares S m i ≡ true)) → length P + size N (probed_shares S m) < N
    go (inl none) = omega arith
    go (inr some) =
        let k = output_names-only N O c.outputs 0 m some.0 some.2 in
        let free = room k.0 k.1 in
        let within : size N (probed_shares S m) ≤ size N (O k.0) = size-mono N (probed_shares S m) (O k.0) (λ i lt asked.
        let j = output_names-only N O c.outputs 0 m i asked in
        let e : 0 + j.0 ≡ k.0 = omega (arith, outputs_apart c has j.0 k.0 j.1 k.1 (j.2 ∙ sym k.2)) in
        ap (λ z. O z i) (sym e) ∙ j.3) in
        omega arith

-- the wires that are probed or asked for, by name
pub asked_names : (c : Netlist) (N : ℕ) (P : List ℕ) (O : ℕ → ℕ → Bool) → 2 ≤ N → IsWellFormed c →
    probes_at c N (P ++ output_places c N O) ≡ probes_at c N P ++ output_names N O c.outputs 0
asked_names c N P O two is =
    map-append (λ p. slice_index_or (names c N) p (0, Share 0)) P (output_places c N O)
    ∙ ap (λ S. probes_at c N P ++ S) (output_places-names c N O two is.outputs)

-- they are wires of the circuit
pub asked_within : (c : Netlist) (N : ℕ) (P : List ℕ) (O : ℕ → ℕ → Bool) → 2 ≤ N → IsWellFormed c → AreAllowed c N P O →
    All (λ p. p < wire_count c N) (P ++ output_places c N O)
asked_within c N P O two is allowed = All-append (λ p. p < wire_count c N) P (output_places c N O) allowed.wires (output_places-below c N O two is.outputs)

-- they fit
pub asked_fits : (c : Netlist) (N : ℕ) (P : List ℕ) (O : ℕ → ℕ → Bool) → 2 ≤ N → IsWellFormed c → HasMaskedOutputs c → AreAllowed c N P O →
    Fits c N (probes_at c N (P ++ output_places c N O))
asked_fits c N P O two is has allowed =
    let size_is : length (probes_at c N P) ≡ length P = length-map P (λ p. slice_index_or (names c N) p (0, Share 0)) in
    subst (Fits c N) (sym (asked_names c N P O two is))
    (fits_asked c N (probes_at c N P) (output_names N O c.outputs 0) c.gates c.inputs has.accepted (outputs_masked c N O has)
    (outputs_room c N (probes_at c N P) O has (omega (arith, allowed.few)) (λ k lt. omega (arith, allowed.fewer k lt)))
    (AreGatesAt-all c) is.gates)

-- and need no more of the inputs than the probes alone
pub need_with_outputs : (c : Netlist) (N : ℕ) (P : List ℕ) (O : ℕ → ℕ → Bool) → 2 ≤ N → IsWellFormed c → HasMaskedOutputs c → (v i : ℕ) → v < c.inputs →
    need c N (P ++ output_places c N O) v i ≡ need c N P v i
need_with_outputs c N P O two is has v i lt =
    ap (λ S. need_from S c.gates c.inputs v i) (asked_names c N P O two is)
    ∙ inputs_asked c (probes_at c N P) (output_names N O c.outputs 0) v i (outputs_masked c N O has) lt

-- the need of few wires has few shares of each input
pub need_small : (c : Netlist) (N : ℕ) (P : List ℕ) → IsWellFormed c → IsAccepted c → HasAtMost c N (need c N P) (length P)
need_small c N P is accepted v lt = let few = accepted_needs_few c N P is.gates accepted v (Input lt) in omega arith

-- so they are simulated from the need of the probes alone
masked_need : (c : Netlist) (N : ℕ) (P : List ℕ) (O : ℕ → ℕ → Bool) → 2 ≤ N → IsWellFormed c → HasMaskedOutputs c → AreAllowed c N P O →
    HasAtMost c N (need c N P) (length P) × IsSimulated c N (P ++ output_places c N O) (need c N P)
masked_need c N P O two is has allowed = (
  need_small c N P is has.accepted,
  λ x y agree. fitting_is_simulated gate_keeps c N (P ++ output_places c N O) two is.gates
      (asked_within c N P O two is allowed) (asked_fits c N P O two is has allowed) x y
      (λ v i within lt needed. agree v i within lt (sym (need_with_outputs c N P O two is has v i within) ∙ needed)),
)

-- So the circuit is strongly non-interfering.
masked_is_sni : (c : Netlist) (N : ℕ) → 2 ≤ N → IsWellFormed c → HasMaskedOutputs c → IsSNI c N
masked_is_sni c N two is has P O inner few room =
    let all = masked_need c N P O two is has (record {
      wires = All-weaker (λ p. (p < wire_count c N) × IsInner c N p) (λ p. p < wire_count c N) (λ p h. h.0) P inner;
      few = few;
      fewer = room;
    }) in
    (need c N P, all.0, all.1)

pub strong_need : StrongNeed
strong_need c N P O two is strong = masked_need c N P O two is (strong_masked c strong)

pub strong_is_sni : StrongIsSNI
strong_is_sni c N two is strong = masked_is_sni c N two is (strong_masked c strong)

-- GADGETS

product_formed : IsWellFormed lone_product
product_formed = record { gates = ((omega arith, omega arith), tt); outputs = All-cons (λ u. u < 3) 2 [] (omega arith) (All-nil (λ u. u < 3)) }

refresh_formed : IsWellFormed lone_refresh
refresh_formed = record { gates = (omega arith, tt); outputs = All-cons (λ u. u < 2) 1 [] (omega arith) (All-nil (λ u. u < 2)) }

product_masked : HasMaskedOutputs lone_product
unfolding reach clash
product_masked = record {
  accepted = (clash_decides lone_product product_formed).0.0 refl;
  masked = one;
  first = λ i k lt within. absurd (omega arith);
}
  where
    one : (k : ℕ) → k < 1 → IsMasked (gate_at lone_product (output_at lone_product k))
    one zero lt = tt
    one (suc k) lt = absurd (omega arith)

refresh_masked : HasMaskedOutputs lone_refresh
unfolding reach clash
refresh_masked = record {
  accepted = (clash_decides lone_refresh refresh_formed).0.0 refl;
  masked = one;
  first = λ i k lt within. absurd (omega arith);
}
  where
    one : (k : ℕ) → k < 1 → IsMasked (gate_at lone_refresh (output_at lone_refresh k))
    one zero lt = tt
    one (suc k) lt = absurd (omega arith)

-- Both gadgets are strongly non-interfering.
pub gadgets_are_sni : GadgetsAreSNI
gadgets_are_sni N two = (masked_is_sni lone_product N two product_formed product_masked, masked_is_sni lone_refresh N two refresh_formed refresh_masked)
