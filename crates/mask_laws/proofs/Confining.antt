-- In an accepted circuit a single probe demands at most one share of each source.
--
-- What a probe demands of its gate's operands is one share of each; from there demands go down through xor and not
-- alone, to values that reach fewer sources. The operands of a product reach no source in common.
use Rattle.std.proofs.Common.{◌≡◌, ℕ, suc, Bool, true, false, cond, not, ◌&&◌, ◌||◌, ◌==◌, ◌⊎◌, inl, inr, ⊎_elim, List, [], ◌∷◌, Option, Some, None, refl, ap, sym, subst, ◌∙◌, eqb-true}
use Rattle.std.specs.List.{cons_option, list_any}
use Rattle.std.proofs.lemmas.Bool.{and_parts, and_right, or_cases, false≢true}
use Rattle.mask_circuit.specs.declared.gates.Gate.{Gate}
use Rattle.mask_circuit.specs.declared.gates.Gate.TheVariants.{Zero, One, Xor, Not, And, Ref}
use Rattle.mask_circuit.specs.Netlist.{Netlist}
use Rattle.mask_circuit.specs.declared.gates.Wire.{Wire}
use Rattle.mask_circuit.specs.declared.gates.Wire.TheVariants.{Share}
use Rattle.mask_circuit.specs.Expansion.{CircuitWire}
use Rattle.mask_circuit.specs.Probing.{same_wire}
use Rattle.mask_circuit.specs.Need.{ShareSet, is_share, inner_probes, probed_shares, is_of_row, demands_left, demands_right, left_need, is_update_of, refresh_need}
use Rattle.mask_circuit.specs.Acceptance.{gate_at, Reaches, FromLeft, FromRight, FromNegated, IsAccepted}
use Rattle.mask_circuit.proofs.GateAt.{AreGatesAt}
use Rattle.mask_laws.proofs.Sets.{list_any-or}
use Rattle.mask_laws.proofs.Needs.{row_of, left_owner, right_of, right_owner, update_is}
use Rattle.mask_laws.proofs.Demands.{right_part, demand_part, need_part}

-- A relation of values and shares that holds of what the probes L demand at their own gates, and goes down through xor
-- and not.
pub record IsClosed (c : Netlist) (T : ℕ → ShareSet) (L : List CircuitWire) (M : ℕ → ℕ → Type 0) : Type 0 where
  pub probed : (v i : ℕ) → probed_shares L v i ≡ true → M v i
  pub left_of_xor : (m u w i : ℕ) → gate_at c m ≡ Some (Xor u w) → M m i → M u i
  pub right_of_xor : (m u w i : ℕ) → gate_at c m ≡ Some (Xor u w) → M m i → M w i
  pub negated : (m u i : ℕ) → gate_at c m ≡ Some (Not u) → M m i → M u i
  pub left_of_product : (m u w i : ℕ) → gate_at c m ≡ Some (And u w) → left_need (inner_probes m L) i ≡ true → M u i
  pub right_of_product : (m u w i : ℕ) → gate_at c m ≡ Some (And u w) → right_part (T m) (inner_probes m L) i ≡ true → M w i
  pub refreshed : (m u i : ℕ) → gate_at c m ≡ Some (Ref u) → refresh_need (inner_probes m L) i ≡ true → M u i

-- it holds of all that one gate demands ..
demand_part-closed : (c : Netlist) (T : ℕ → ShareSet) (L : List CircuitWire) (M : ℕ → ℕ → Type 0) → IsClosed c T L M → (g : Gate) (n : ℕ) (O : ShareSet) →
    gate_at c n ≡ Some g → ((i : ℕ) → O i ≡ true → M n i) → (v i : ℕ) → demand_part (T n) g (inner_probes n L) O v i ≡ true → M v i
demand_part-closed c T L M closed Zero n O here own v i d = absurd (false≢true d)
demand_part-closed c T L M closed One n O here own v i d = absurd (false≢true d)
demand_part-closed c T L M closed (Xor u w) n O here own v i d =
    let both = and_parts (v == u || v == w) (O i) d in
    ⊎_elim
    (λ e. subst (λ (z : ℕ). M z i) (sym (eqb-true v u e)) (closed.left_of_xor n u w i here (own i both.1)))
    (λ e. subst (λ (z : ℕ). M z i) (sym (eqb-true v w e)) (closed.right_of_xor n u w i here (own i both.1)))
    (or_cases (v == u) (v == w) both.0)
demand_part-closed c T L M closed (Not u) n O here own v i d =
    let both = and_parts (v == u) (O i) d in
    subst (λ (z : ℕ). M z i) (sym (eqb-true v u both.0)) (closed.negated n u i here (own i both.1))
demand_part-closed c T L M closed (And u w) n O here own v i d = ⊎_elim
    (λ e.
    let both = and_parts (v == u) (left_need (inner_probes n L) i) e in
    subst (λ (z : ℕ). M z i) (sym (eqb-true v u both.0)) (closed.left_of_product n u w i here both.1))
    (λ e.
    let both = and_parts (v == w) (right_part (T n) (inner_probes n L) i) e in
    subst (λ (z : ℕ). M z i) (sym (eqb-true v w both.0)) (closed.right_of_product n u w i here both.1))
    (or_cases (v == u && left_need (inner_probes n L) i) (v == w && right_part (T n) (inner_probes n L) i) d)
demand_part-closed c T L M closed (Ref u) n O here own v i d =
    let both = and_parts (v == u) (refresh_need (inner_probes n L) i) d in
    subst (λ (z : ℕ). M z i) (sym (eqb-true v u both.0)) (closed.refreshed n u i here both.1)

-- .. and of all that gates demand
pub need_part-closed : (c : Netlist) (T : ℕ → ShareSet) (L : List CircuitWire) (M : ℕ → ℕ → Type 0) → IsClosed c T L M →
    (gs : List Gate) (n : ℕ) → AreGatesAt c gs n → (v i : ℕ) → need_part T L gs n v i ≡ true → M v i
need_part-closed c T L M closed [] n at v i d = closed.probed v i d
need_part-closed c T L M closed (g ∷ gs) n at v i d = ⊎_elim
    (λ e. need_part-closed c T L M closed gs (suc n) at.1 v i e)
    (λ e. demand_part-closed c T L M closed g n (need_part T L gs (suc n) n) at.0 (λ j h. need_part-closed c T L M closed gs (suc n) at.1 n j h) v i e)
    (or_cases (need_part T L gs (suc n) v i) _ d)

-- share a of values that reach sources in X alone, and share b of values that reach sources in Y alone
abbrev pub Confined : Netlist → ℕ → ℕ → (ℕ → Type 0) → (ℕ → Type 0) → ℕ → ℕ → Type 0
Confined c a b X Y v i = ((i ≡ a) × ((s : ℕ) → Reaches c v s → X s)) ⊎ ((i ≡ b) × ((s : ℕ) → Reaches c v s → Y s))

-- What the probe p demands: share a of values above sources in X, and share b of values above sources in Y, which are apart.
pub record IsConfined (c : Netlist) (T : ℕ → ShareSet) (p : CircuitWire) : Type 1 where
  pub a : ℕ
  pub b : ℕ
  pub X : ℕ → Type 0
  pub Y : ℕ → Type 0
  pub apart : (s : ℕ) → X s → Y s → ⊥
  pub closed : IsClosed c T (p ∷ []) (Confined c a b X Y)

-- what is confined at a value is so at one that reaches no more
Confined-below : (c : Netlist) (a b : ℕ) (X Y : ℕ → Type 0) (v u i : ℕ) → ((s : ℕ) → Reaches c u s → Reaches c v s) →
    Confined c a b X Y v i → Confined c a b X Y u i
Confined-below c a b X Y v u i up (inl (e, h)) = inl (e, λ s r. h s (up s r))
Confined-below c a b X Y v u i up (inr (e, h)) = inr (e, λ s r. h s (up s r))

-- so it demands at most one share of each source
pub at_most_one : (c : Netlist) (T : ℕ → ShareSet) (p : CircuitWire) → IsConfined c T p → (gs : List Gate) (n : ℕ) → AreGatesAt c gs n → (s : ℕ) → Reaches c s s →
    (i j : ℕ) → need_part T (p ∷ []) gs n s i ≡ true → need_part T (p ∷ []) gs n s j ≡ true → i ≡ j
at_most_one c T p confined gs n at s source i j d e = go (within i d) (within j e)
  where
    within : (k : ℕ) → need_part T (p ∷ []) gs n s k ≡ true → Confined c confined.a confined.b confined.X confined.Y s k
    within k f = need_part-closed c T (p ∷ []) (Confined c confined.a confined.b confined.X confined.Y) confined.closed gs n at s k f

    go : Confined c confined.a confined.b confined.X confined.Y s i → Confined c confined.a confined.b confined.X confined.Y s j → i ≡ j
    go (inl (f, x)) (inl (g, y)) = f ∙ sym g
    go (inr (f, x)) (inr (g, y)) = f ∙ sym g
    go (inl (f, x)) (inr (g, y)) = absurd (confined.apart s (x s source) (y s source))
    go (inr (f, x)) (inl (g, y)) = absurd (confined.apart s (y s source) (x s source))

-- the inner probes of value m among a single probe: itself where it stands in m and is no share, else none
inner_probes-one : (m q : ℕ) (w : Wire) (S : List Wire → Type 0) → (q ≡ m → is_share w ≡ false → S (w ∷ [])) → S [] → S (inner_probes m ((q, w) ∷ []))
inner_probes-one m q w S here none = go (q == m) (is_share w) refl refl
  where
    go : (b d : Bool) → (q == m) ≡ b → is_share w ≡ d → S (cons_option (cond (b && not d) (Some w) None) [])
    go true false e f = here (eqb-true q m e) f
    go true true e f = none
    go false d e f = none

list_any-one : {A : Type 0} (test : A → Bool) (a : A) → list_any test (a ∷ []) ≡ true → test a ≡ true
list_any-one test a h = ⊎_elim (λ e. e) (λ e. absurd (false≢true e)) (or_cases (test a) false h)

one_probed : (p : CircuitWire) (v i : ℕ) → probed_shares (p ∷ []) v i ≡ true → (p.0 == v && same_wire (Share i) p.1) ≡ true
one_probed p v i h = list_any-one (λ (q : CircuitWire). q.0 == v && same_wire (Share i) q.1) p h

-- a single inner probe on a product demands one share of either operand
one_left : (w : Wire) (i : ℕ) → left_need (w ∷ []) i ≡ true → i ≡ row_of w
one_left w i h = left_owner i w
    (list_any-one (λ q. is_of_row i q || demands_left i q) w (sym (list_any-or (is_of_row i) (demands_left i) (w ∷ [])) ∙ h))

one_right : (T : ShareSet) (w : Wire) (i : ℕ) → right_part T (w ∷ []) i ≡ true → i ≡ right_of T w
one_right T w i h = right_owner T i w
    (list_any-one (λ q. is_of_row i q || demands_right T i q) w (sym (list_any-or (is_of_row i) (demands_right T i) (w ∷ [])) ∙ h))

-- a wire that is no share is not a share
pub same_wire-inner : (w : Wire) (i : ℕ) → is_share w ≡ false → same_wire (Share i) w ≡ false
same_wire-inner (Share k) i inner = absurd (false≢true (sym inner))
same_wire-inner w i inner = refl

-- a relation that confines what a probe demands at its own gate confines all that it demands
confined_by : (c : Netlist) (T : ℕ → ShareSet) (p : CircuitWire) (a b : ℕ) (X Y : ℕ → Type 0) → ((s : ℕ) → X s → Y s → ⊥) →
    ((v i : ℕ) → probed_shares (p ∷ []) v i ≡ true → Confined c a b X Y v i) →
    ((m u w i : ℕ) → gate_at c m ≡ Some (And u w) → left_need (inner_probes m (p ∷ [])) i ≡ true → Confined c a b X Y u i) →
    ((m u w i : ℕ) → gate_at c m ≡ Some (And u w) → right_part (T m) (inner_probes m (p ∷ [])) i ≡ true → Confined c a b X Y w i) →
    ((m u i : ℕ) → gate_at c m ≡ Some (Ref u) → refresh_need (inner_probes m (p ∷ [])) i ≡ true → Confined c a b X Y u i) → IsConfined c T p
confined_by c T p a b X Y apart probed left right refreshed = record {
  a = a;
  b = b;
  X = X;
  Y = Y;
  apart = apart;
  closed = record {
    probed = probed;
    left_of_xor = λ m u w i h k. Confined-below c a b X Y m u i (λ s r. FromLeft h r) k;
    right_of_xor = λ m u w i h k. Confined-below c a b X Y m w i (λ s r. FromRight h r) k;
    negated = λ m u i h k. Confined-below c a b X Y m u i (λ s r. FromNegated h r) k;
    left_of_product = left;
    right_of_product = right;
    refreshed = refreshed;
  };
}

-- a probed share is no inner probe ..
inner_probes-share : (m q k : ℕ) → inner_probes m ((q, Share k) ∷ []) ≡ []
inner_probes-share m q k = ap (λ (b : Bool). cons_option (cond b (Some (Share k)) None) []) (and_right (q == m) false refl)

-- .. and demands itself alone
share_confined : (c : Netlist) (T : ℕ → ShareSet) (q k : ℕ) → IsConfined c T (q, Share k)
share_confined c T q k = confined_by c T (q, Share k) k k (λ s. Unit {0}) (λ s. ⊥) (λ s x y. y)
    (λ v i h. inl (eqb-true i k (and_parts (q == v) (i == k) (one_probed (q, Share k) v i h)).1, λ s r. tt))
    (λ m u w i h d. none m (λ Q. left_need Q i) refl d)
    (λ m u w i h d. none m (λ Q. right_part (T m) Q i) refl d)
    (λ m u i h d. none m (λ Q. refresh_need Q i) refl d)
  where
    none : {A : Type 0} (m : ℕ) (test : List Wire → Bool) → test [] ≡ false → test (inner_probes m ((q, Share k) ∷ [])) ≡ true → A
    none m test e d = absurd (false≢true (sym (ap test (inner_probes-share m q k) ∙ e) ∙ d))

-- an inner probe demands shares at its own gate alone
inner_confined : (c : Netlist) (T : ℕ → ShareSet) (q : ℕ) (w : Wire) (a b : ℕ) (X Y : ℕ → Type 0) → is_share w ≡ false → ((s : ℕ) → X s → Y s → ⊥) →
    ((u v i : ℕ) → gate_at c q ≡ Some (And u v) → left_need (w ∷ []) i ≡ true → Confined c a b X Y u i) →
    ((u v i : ℕ) → gate_at c q ≡ Some (And u v) → right_part (T q) (w ∷ []) i ≡ true → Confined c a b X Y v i) →
    ((u i : ℕ) → gate_at c q ≡ Some (Ref u) → refresh_need (w ∷ []) i ≡ true → Confined c a b X Y u i) → IsConfined c T (q, w)
inner_confined c T q w a b X Y inner apart left right refreshed = confined_by c T (q, w) a b X Y apart
    (λ v i h. absurd (false≢true (sym (same_wire-inner w i inner) ∙ (and_parts (q == v) (same_wire (Share i) w) (one_probed (q, w) v i h)).1)))
    (λ m u v i h. inner_probes-one m q w (λ Q. left_need Q i ≡ true → Confined c a b X Y u i)
    (λ e f d. left u v i (ap (gate_at c) e ∙ h) d) (λ d. absurd (false≢true d)))
    (λ m u v i h. inner_probes-one m q w (λ Q. right_part (T m) Q i ≡ true → Confined c a b X Y v i)
    (λ e f d. right u v i (ap (gate_at c) e ∙ h) (subst (λ (z : ℕ). right_part (T z) (w ∷ []) i ≡ true) (sym e) d)) (λ d. absurd (false≢true d)))
    (λ m u i h. inner_probes-one m q w (λ Q. refresh_need Q i ≡ true → Confined c a b X Y u i)
    (λ e f d. refreshed u i (ap (gate_at c) e ∙ h) d) (λ d. absurd (false≢true d)))

-- a gate is of one kind, and has its operands
same_product : {u v u' v' : ℕ} → Some (And u v) ≡ Some (And u' v') → (u ≡ u') × (v ≡ v')
same_product e = (cc, cc)

-- in an accepted circuit what an inner probe demands of a product's operands is above sources that are apart
inner_probe_confined : (c : Netlist) (T : ℕ → ShareSet) (q : ℕ) (w : Wire) → IsAccepted c → is_share w ≡ false →
    (o : Option Gate) → gate_at c q ≡ o → IsConfined c T (q, w)
inner_probe_confined c T q w accepted inner (Some (And u v)) e = inner_confined c T q w (row_of w) (right_of (T q) w) (Reaches c u) (Reaches c v) inner
    (λ s x y. accepted q s (record { left = u; right = v; is_product = e; left_reaches = x; right_reaches = y }))
    (λ u' v' i h d. inl (one_left w i d, λ s r. subst (λ (z : ℕ). Reaches c z s) (same_product (sym h ∙ e)).0 r))
    (λ u' v' i h d. inr (one_right (T q) w i d, λ s r. subst (λ (z : ℕ). Reaches c z s) (same_product (sym h ∙ e)).1 r))
    (λ u' i h d. absurd (let other_kind = sym h ∙ e in cc))
inner_probe_confined c T q w accepted inner (Some (Ref u)) e = inner_confined c T q w (row_of w) (row_of w) (λ s. Unit {0}) (λ s. ⊥) inner (λ s x y. y)
    (λ u' v' i h d. absurd (let other_kind = sym h ∙ e in cc))
    (λ u' v' i h d. absurd (let other_kind = sym h ∙ e in cc))
    (λ u' i h d. inl (update_is i w (list_any-one (is_update_of i) w d), λ s r. tt))
inner_probe_confined c T q w accepted inner o e = inner_confined c T q w 0 0 (λ s. Unit {0}) (λ s. ⊥) inner (λ s x y. y)
    (λ u' v' i h d. absurd (let other_kind = sym h ∙ e in cc))
    (λ u' v' i h d. absurd (let other_kind = sym h ∙ e in cc))
    (λ u' i h d. absurd (let other_kind = sym h ∙ e in cc))

-- in an accepted circuit each probe is confined
pub probe_confined : (c : Netlist) (T : ℕ → ShareSet) (p : CircuitWire) → IsAccepted c → IsConfined c T p
probe_confined c T p accepted = go p.1
  where
    go : (w : Wire) → IsConfined c T (p.0, w)
    go (Share k) = share_confined c T p.0 k
    go w = inner_probe_confined c T p.0 w accepted refl (gate_at c p.0) refl
