-- The shift of a tape keeps what the probes see.
use Rattle.std.proofs.Common.{◌≡◌, ℕ, suc, ◌+◌, ◌<◌, ◌≤◌, Bool, true, false, ◌||◌, ◌==◌, inl, inr, List, [], ◌∷◌, ◌++◌, length, take, drop, Contains, refl, ap, ap₂, sym, subst, ◌∙◌, arith, eq-eqb, cond, ⊎_elim, add-zero}
use Rattle.std.proofs.lemmas.Bool.{and_from, or_cases, or_left, or_right, false≢true}
use Rattle.std.proofs.lemmas.List.Elements.{All-contains}
use Rattle.mask_circuit.specs.declared.gates.Gate.{Gate}
use Rattle.mask_circuit.specs.declared.gates.Gate.TheVariants.{Zero, One, Xor, Not, And, Ref}
use Rattle.mask_circuit.specs.Netlist.{OperandsBelow, AreGates}
use Rattle.mask_circuit.specs.Value.{xor}
use Rattle.mask_circuit.specs.Ring.{bits}
use Rattle.mask_circuit.specs.declared.gates.Wire.{Wire}
use Rattle.mask_circuit.specs.declared.gates.Wire.TheVariants.{Share}
use Rattle.mask_circuit.specs.Wires.{Shares, gate_names, gate_draws, gate_wire}
use Rattle.mask_circuit.specs.Expansion.{CircuitWire, Carried, shares_of, run}
use Rattle.mask_circuit.specs.Need.{ShareSet, is_share, inner_probes, product_rows, demand, need_from}
use Rattle.mask_circuit.specs.Shift.{add_bits, gate_mask, shift_from}
use Rattle.mask_laws.specs.Gadgets.{AreInner, AgreeBefore, IsWatched, GateKeeps}
use Rattle.mask_laws.specs.Circuits.{FitsAt, FitsFrom}
use Rattle.mask_laws.proofs.Demands.{demand-part, demand_part-below}
use Rattle.mask_laws.proofs.Probes.{All-inner_probes, Contains-inner_probes}
use Rattle.mask_laws.proofs.Tapes.{length-add_bits}
use Rattle.mask_laws.proofs.Carrying.{put-same, run-earlier}
use Rattle.mask_laws.proofs.Shifts.{draws_from, mask_at, carried_at, front_of_tape, take_front, drop_front}

-- a gate that acts share by share: where a share is watched it is demanded
watched_share : (N : ℕ) (g : Gate) (Q : List Wire) (O : ShareSet) (i : ℕ) → AreInner N g Q → IsWatched N Q O (Share i) → (i < N) × (O i ≡ true)
watched_share N g Q O i inner (inl probed) =
    let never = All-contains (λ w. Contains (gate_names N g) w × (is_share w ≡ false)) Q (Share i) inner probed in
    absurd (false≢true (sym never.1))
watched_share N g Q O i inner (inr (j, below, demanded, e)) =
    let same : j ≡ i = cc in (subst (λ (k : ℕ). k < N) same below, subst (λ (k : ℕ). O k ≡ true) same demanded)

-- the law of a single gate, where only products and refreshes have to fit
pub keeps_at : GateKeeps → (N : ℕ) (g : Gate) (Q : List Wire) (O : ShareSet) (s s' : ℕ → Shares Bool) (r : List Bool) →
    2 ≤ N → AreInner N g Q → FitsAt N g Q O → AgreeBefore N g Q O s s' → length r ≡ gate_draws N g → (w : Wire) → IsWatched N Q O w →
    gate_wire bits N g s r w ≡ gate_wire bits N g s' (add_bits r (gate_mask N g Q O s s')) w
keeps_at keeps N Zero Q O s s' r two inner fits agree long w watched = refl
keeps_at keeps N One Q O s s' r two inner fits agree long w watched = refl
keeps_at keeps N (And u v) Q O s s' r two inner fits agree long w watched = keeps N (And u v) Q O s s' r two inner fits agree long w watched
keeps_at keeps N (Ref u) Q O s s' r two inner fits agree long w watched = keeps N (Ref u) Q O s s' r two inner fits agree long w watched
keeps_at keeps N (Not u) Q O s s' r two inner fits agree long (Share i) watched =
    let h = watched_share N (Not u) Q O i inner watched in
    let e = agree u i h.0 (and_from (u == u) (O i) (eq-eqb u u refl) h.1) in
    ap (λ (b : Bool). cond (i == 0) (xor b true) b) e
keeps_at keeps N (Not u) Q O s s' r two inner fits agree long w watched = refl
keeps_at keeps N (Xor u v) Q O s s' r two inner fits agree long (Share i) watched =
    let h = watched_share N (Xor u v) Q O i inner watched in
    ap₂ xor
    (agree u i h.0 (and_from (u == u || u == v) (O i) (or_left (u == u) (u == v) (eq-eqb u u refl)) h.1))
    (agree v i h.0 (and_from (v == u || v == v) (O i) (or_right (v == u) (v == v) (eq-eqb v v refl)) h.1))
keeps_at keeps N (Xor u v) Q O s s' r two inner fits agree long w watched = refl

-- a gate demands shares of its operands alone
demand-below : (n : ℕ) (g : Gate) (Q : List Wire) (O : ShareSet) (v i : ℕ) → OperandsBelow n g → demand g Q O v i ≡ true → v < n
demand-below n g Q O v i below d = demand_part-below (product_rows Q) n g Q O v i below (sym (demand-part g Q O v i) ∙ d)

-- the probes on wires of these gates, the first of which makes value n, are names of their wires
abbrev pub AreNamed : ℕ → List CircuitWire → List Gate → ℕ → Type 0
AreNamed N P [] n = Unit {0}
AreNamed N P (g ∷ gs) n = ((w : Wire) → Contains P (n, w) → Contains (gate_names N g) w) × AreNamed N P gs (suc n)

-- What is carried on two sides agrees, on the values below bound, on each share that is demanded from these gates and on each inner probe.
pub record CarriedAgree (N : ℕ) (P : List CircuitWire) (gs : List Gate) (n bound : ℕ) (t t' : Carried Bool) : Type 0 where
  pub shares : (v i : ℕ) → v < bound → i < N → need_from P gs n v i ≡ true → t v (Share i) ≡ t' v (Share i)
  pub inner : (v : ℕ) (w : Wire) → v < bound → Contains P (v, w) → is_share w ≡ false → t v w ≡ t' v w

-- one gate: what agrees before it agrees after it
carried_step : GateKeeps → (N : ℕ) (P : List CircuitWire) (g : Gate) (gs : List Gate) (n : ℕ) (t t' : Carried Bool) (old : List Bool) → 2 ≤ N →
    OperandsBelow n g → ((w : Wire) → Contains P (n, w) → Contains (gate_names N g) w) →
    FitsAt N g (inner_probes n P) (need_from P gs (suc n) n) → length old ≡ gate_draws N g → CarriedAgree N P (g ∷ gs) n n t t' →
    CarriedAgree N P gs (suc n) (suc n) (carried_at N g n t old) (carried_at N g n t' (add_bits old (mask_at P N g gs n t t')))
carried_step keeps N P g gs n t t' old two below named fits long agree = record {
  shares = λ v i h k d. put-same n v (Share i) made made' t t'
      (λ e. kept (Share i) (inr (i, k, subst (λ (u : ℕ). need_from P gs (suc n) u i ≡ true) e d, refl)))
      (λ ne. agree.shares v i (omega arith) k (or_left (need_from P gs (suc n) v i) _ d));
  inner = λ v w h c hidden. put-same n v w made made' t t'
      (λ e. kept w (inl (Contains-inner_probes n P w (subst (λ (u : ℕ). Contains P (u, w)) e c) hidden)))
      (λ ne. agree.inner v w (omega arith) c hidden);
}
  where
    made : Wire → Bool
    made = gate_wire bits N g (shares_of t) old

    made' : Wire → Bool
    made' = gate_wire bits N g (shares_of t') (add_bits old (mask_at P N g gs n t t'))

    Q : List Wire
    Q = inner_probes n P

    O : ShareSet
    O = need_from P gs (suc n) n

    before : AgreeBefore N g Q O (shares_of t) (shares_of t')
    before v i k d = agree.shares v i (demand-below n g Q O v i below d) k (or_right (need_from P gs (suc n) v i) _ d)

    kept : (w : Wire) → IsWatched N Q O w → made w ≡ made' w
    kept w watched = keeps_at keeps N g Q O (shares_of t) (shares_of t') old two
        (All-inner_probes (λ w. Contains (gate_names N g) w) n P named) fits before long w watched

-- the shift keeps the agreement over all gates
pub keeps_from : GateKeeps → (N : ℕ) (P : List CircuitWire) (gs : List Gate) (n : ℕ) (t t' : Carried Bool) (r : List Bool) → 2 ≤ N →
    AreGates n gs → AreNamed N P gs n → FitsFrom N P gs n → length r ≡ draws_from N gs → CarriedAgree N P gs n n t t' →
    CarriedAgree N P gs n (n + length gs) (run bits N gs n t r) (run bits N gs n t' (shift_from P N gs n t t' r))
keeps_from keeps N P [] n t t' r two are named fits long agree = subst (λ (k : ℕ). CarriedAgree N P [] n k t t') (sym (add-zero n)) agree
keeps_from keeps N P (g ∷ gs) n t t' r two are named fits long agree =
    let w = gate_draws N g in
    let old = take w r in
    let m = mask_at P N g gs n t t' in
    let new = add_bits old m in
    let rest = shift_from P N gs (suc n) (carried_at N g n t old) (carried_at N g n t' new) (drop w r) in
    let parts = front_of_tape N g gs r long in
    let fits_new : length new ≡ w = length-add_bits old m ∙ parts.0 in
    let same : run bits N (g ∷ gs) n t' (new ++ rest) ≡ run bits N gs (suc n) (carried_at N g n t' new) rest
    = ap₂ (λ (a b : List Bool). run bits N gs (suc n) (carried_at N g n t' a) b) (take_front w new rest fits_new) (drop_front w new rest fits_new) in
    let ih = keeps_from keeps N P gs (suc n) (carried_at N g n t old) (carried_at N g n t' new) (drop w r) two are.1 named.1 fits.1 parts.1
    (carried_step keeps N P g gs n t t' old two are.0 named.0 fits.0 parts.0 agree) in
    record {
      shares = λ v i h k d. ⊎_elim
          (λ e. ih.shares v i (omega arith) k e ∙ ap (λ (T : Carried Bool). T v (Share i)) (sym same))
          (λ e.
          let below : v < n = demand-below n g (inner_probes n P) (need_from P gs (suc n) n) v i are.0 e in
          run-earlier bits N (g ∷ gs) n t r v (Share i) below ∙ agree.shares v i below k d ∙ sym (run-earlier bits N (g ∷ gs) n t' (new ++ rest) v (Share i) below))
          (or_cases (need_from P gs (suc n) v i) _ d);
      inner = λ v w h k hidden. ih.inner v w (omega arith) k hidden ∙ ap (λ (T : Carried Bool). T v w) (sym same);
    }
