-- Few probes of an accepted circuit fit.
use Rattle.std.proofs.Common.{◌≡◌, ℕ, zero, suc, ◌+◌, ◌<◌, ◌≤◌, Bool, true, false, cond, not, ◌&&◌, ◌||◌, ◌==◌, ◌⊎◌, inl, inr, List, [], ◌∷◌, length, Some, None, refl, ap, ap₂, sym, subst, ◌∙◌, arith, eqb-true, ne_eqb, length-append}
use Rattle.std.specs.List.{cons_option}
use Rattle.std.proofs.lemmas.Bool.{and_parts, and_right, not-true, cases_lt, false_from_ne_true}
use Rattle.mask_circuit.specs.declared.gates.Gate.{Gate}
use Rattle.mask_circuit.specs.declared.gates.Gate.TheVariants.{Zero, One, Xor, Not, And, Ref}
use Rattle.mask_circuit.specs.Netlist.{Netlist, AreGates}
use Rattle.mask_circuit.specs.declared.gates.Wire.{Wire}
use Rattle.mask_circuit.specs.declared.gates.Wire.TheVariants.{Share}
use Rattle.mask_circuit.specs.Expansion.{CircuitWire}
use Rattle.mask_circuit.specs.Probing.{size, same_wire}
use Rattle.mask_circuit.specs.Need.{ShareSet, is_share, inner_probes, need_from}
use Rattle.mask_circuit.specs.Acceptance.{gate_at, Reaches, ProductHere, RefreshHere, IsAccepted}
use Rattle.mask_circuit.proofs.GateAt.{AreGatesAt}
use Rattle.mask_laws.specs.Circuits.{FitsAt, FitsFrom}
use Rattle.mask_laws.proofs.Sets.{size-mono, size-none, size-or}
use Rattle.mask_laws.proofs.Probes.{is_inner_at}
use Rattle.mask_laws.proofs.Demands.{demand_part, demand_part-below, need_part, touched, need_from-part, need_part-append, inner_probes-append}
use Rattle.mask_laws.proofs.Confining.{IsConfined, at_most_one, probe_confined, same_wire-inner}

-- a set with at most one element
size-at_most_one : (n : ℕ) (f : ℕ → Bool) → ((i j : ℕ) → f i ≡ true → f j ≡ true → i ≡ j) → size n f ≤ 1
size-at_most_one zero f h = omega arith
size-at_most_one (suc n) f h = go (f n) refl (size-at_most_one n f h)
  where
    go : (b : Bool) → f n ≡ b → size n f ≤ 1 → size n f + cond b 1 0 ≤ 1
    go false e small = omega arith
    go true e small =
        let none : size n f ≡ 0 = size-none n f (λ i k. false_from_ne_true (f i) (λ d. let same : i ≡ n = h i n d e in omega arith)) in
        omega arith

-- a gate with no inner probes and no demanded shares demands nothing
demand_part-none : (T : ShareSet) (g : Gate) (v i : ℕ) → demand_part T g [] (λ j. false) v i ≡ false
demand_part-none T Zero v i = refl
demand_part-none T One v i = refl
demand_part-none T (Xor u w) v i = and_right (v == u || v == w) false refl
demand_part-none T (Not u) v i = and_right (v == u) false refl
demand_part-none T (And u w) v i = ap₂ (λ (a b : Bool). a || b) (and_right (v == u) false refl) (and_right (v == w) false refl)
demand_part-none T (Ref u) v i = and_right (v == u) false refl

-- no probes demand nothing
need_part-none : (T : ℕ → ShareSet) (gs : List Gate) (n v i : ℕ) → need_part T [] gs n v i ≡ false
need_part-none T [] n v i = refl
need_part-none T (g ∷ gs) n v i =
    ap₂ (λ (b : Bool) (O : ShareSet). b || demand_part (T n) g [] O v i) (need_part-none T gs (suc n) v i) (λ d j. need_part-none T gs (suc n) n j d)
    ∙ demand_part-none (T n) g v i

-- an inner probe of an earlier value demands nothing of later gates
need_part-past : (T : ℕ → ShareSet) (q : ℕ) (w : Wire) (gs : List Gate) (n v i : ℕ) → is_share w ≡ false → q < n →
    need_part T ((q, w) ∷ []) gs n v i ≡ false
need_part-past T q w [] n v i inner past = ap (λ (b : Bool). b || false) (and_right (q == v) (same_wire (Share i) w) (same_wire-inner w i inner))
need_part-past T q w (g ∷ gs) n v i inner past =
    ap₂ (λ (b : Bool) (O : ShareSet). b || demand_part (T n) g (inner_probes n ((q, w) ∷ [])) O v i)
    (need_part-past T q w gs (suc n) v i inner (omega arith)) (λ d j. need_part-past T q w gs (suc n) n j inner (omega arith) d)
    ∙ ap (λ (Q : List Wire). demand_part (T n) g Q (λ j. false) v i) elsewhere
    ∙ demand_part-none (T n) g v i
  where
    elsewhere : inner_probes n ((q, w) ∷ []) ≡ []
    elsewhere = ap (λ (b : Bool). cons_option (cond (b && not (is_share w)) (Some w) None) []) (ne_eqb q n (λ e. omega arith))

-- nor does it of its own value
need_part-own : (T : ℕ → ShareSet) (q : ℕ) (w : Wire) (gs : List Gate) (n i : ℕ) → is_share w ≡ false → AreGates n gs →
    need_part T ((q, w) ∷ []) gs n q i ≡ false
need_part-own T q w [] n i inner are = ap (λ (b : Bool). b || false) (and_right (q == q) (same_wire (Share i) w) (same_wire-inner w i inner))
need_part-own T q w (g ∷ gs) n i inner are = go (cases_lt q n) (need_part-own T q w gs (suc n) i inner are.1)
  where
    O : ShareSet
    O = need_part T ((q, w) ∷ []) gs (suc n) n

    go : (q < n) ⊎ (n ≤ q) → need_part T ((q, w) ∷ []) gs (suc n) q i ≡ false → need_part T ((q, w) ∷ []) (g ∷ gs) n q i ≡ false
    go (inl past) none = need_part-past T q w (g ∷ gs) n q i inner past
    go (inr later) none = ap₂ (λ (a b : Bool). a || b) none (false_from_ne_true (demand_part (T n) g (inner_probes n ((q, w) ∷ [])) O q i)
        (λ d. let below = demand_part-below (T n) n g (inner_probes n ((q, w) ∷ [])) O q i are.0 d in omega arith))

-- one probe: at a source either it is an inner probe, or it demands at most one share
one_at_source : (c : Netlist) (T : ℕ → ShareSet) (N : ℕ) (p : CircuitWire) → IsConfined c T p →
    (gs : List Gate) (n : ℕ) → AreGatesAt c gs n → AreGates n gs → (s : ℕ) → Reaches c s s →
    length (inner_probes s (p ∷ [])) + size N (need_part T (p ∷ []) gs n s) ≤ 1
one_at_source c T N p confined gs n at are s source = go (is_inner_at s p) refl
  where
    go : (b : Bool) → is_inner_at s p ≡ b → length (cons_option (cond b (Some p.1) None) []) + size N (need_part T (p ∷ []) gs n s) ≤ 1
    go true e =
        let both = and_parts (p.0 == s) (not (is_share p.1)) e in
        let here : p.0 ≡ s = eqb-true p.0 s both.0 in
        let none : size N (need_part T (p ∷ []) gs n s) ≡ 0
        = size-none N (need_part T (p ∷ []) gs n s)
        (λ i k. subst (λ (v : ℕ). need_part T (p ∷ []) gs n v i ≡ false) here (need_part-own T p.0 p.1 gs n i (not-true (is_share p.1) both.1) are)) in
        omega arith
    go false e = let one = size-at_most_one N (need_part T (p ∷ []) gs n s) (at_most_one c T p confined gs n at s source) in omega arith

-- a list of probes: their inner probes at a source and their demanded shares of it are no more than the probes
pub all_at_source : (c : Netlist) (T : ℕ → ShareSet) (N : ℕ) → ((p : CircuitWire) → IsConfined c T p) →
    (L : List CircuitWire) (gs : List Gate) (n : ℕ) → AreGatesAt c gs n → AreGates n gs → (s : ℕ) → Reaches c s s → length (inner_probes s L) + size N (need_part T L gs n s) ≤ length L
all_at_source c T N confined [] gs n at are s source =
    let none : size N (need_part T [] gs n s) ≡ 0 = size-none N (need_part T [] gs n s) (λ i k. need_part-none T gs n s i) in omega arith
all_at_source c T N confined (p ∷ L) gs n at are s source =
    let first = one_at_source c T N p (confined p) gs n at are s source in
    let others = all_at_source c T N confined L gs n at are s source in
    let inner : length (inner_probes s (p ∷ L)) ≡ length (inner_probes s (p ∷ [])) + length (inner_probes s L)
    = ap length (inner_probes-append s (p ∷ []) L) ∙ length-append (inner_probes s (p ∷ [])) (inner_probes s L) in
    let union : size N (need_part T (p ∷ L) gs n s) ≤ size N (λ i. need_part T (p ∷ []) gs n s i || need_part T L gs n s i)
    = size-mono N _ _ (λ i k d. sym (need_part-append T (p ∷ []) L gs n s i) ∙ d) in
    let small = size-or N (need_part T (p ∷ []) gs n s) (need_part T L gs n s) in
    omega arith

-- In an accepted circuit the inner probes and the demanded shares of each source are together no more than the probes.
pub source_count : (c : Netlist) (N : ℕ) (P : List CircuitWire) → IsAccepted c →
    (gs : List Gate) (n : ℕ) → AreGatesAt c gs n → AreGates n gs → (s : ℕ) → Reaches c s s →
    length (inner_probes s P) + size N (need_from P gs n s) ≤ length P
source_count c N P accepted gs n at are s source =
    let all = all_at_source c (touched P) N (λ p. probe_confined c (touched P) p accepted) P gs n at are s source in
    let same : size N (need_from P gs n s) ≤ size N (need_part (touched P) P gs n s)
    = size-mono N _ _ (λ i k d. sym (need_from-part P gs n s i) ∙ d) in
    omega arith

-- so fewer probes than shares fit ..
FitsAt-accepted : (c : Netlist) (N : ℕ) (P : List CircuitWire) → IsAccepted c → length P < N → (g : Gate) (gs : List Gate) (n : ℕ) → gate_at c n ≡ Some g →
    AreGatesAt c gs (suc n) → AreGates (suc n) gs → FitsAt N g (inner_probes n P) (need_from P gs (suc n) n)
FitsAt-accepted c N P accepted few Zero gs n here at are = tt
FitsAt-accepted c N P accepted few One gs n here at are = tt
FitsAt-accepted c N P accepted few (Xor u v) gs n here at are = tt
FitsAt-accepted c N P accepted few (Not u) gs n here at are = tt
FitsAt-accepted c N P accepted few (And u v) gs n here at are = let count = source_count c N P accepted gs (suc n) at are n (ProductHere here) in omega arith
FitsAt-accepted c N P accepted few (Ref u) gs n here at are = let count = source_count c N P accepted gs (suc n) at are n (RefreshHere here) in omega arith

-- .. at each gate
pub FitsFrom-accepted : (c : Netlist) (N : ℕ) (P : List CircuitWire) → IsAccepted c → length P < N →
    (gs : List Gate) (n : ℕ) → AreGatesAt c gs n → AreGates n gs → FitsFrom N P gs n
FitsFrom-accepted c N P accepted few [] n at are = tt
FitsFrom-accepted c N P accepted few (g ∷ gs) n at are =
    (FitsAt-accepted c N P accepted few g gs n at.0 at.1 are.1, FitsFrom-accepted c N P accepted few gs (suc n) at.1 are.1)
