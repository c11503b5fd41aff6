-- The probes of a circuit by the gate that they stand in, and what is demanded at least.
use Rattle.std.proofs.Common.{◌≡◌, ℕ, suc, Bool, true, false, cond, not, ◌&&◌, ◌==◌, ◌⊎◌, inl, inr, List, [], ◌∷◌, All, Contains, Some, None, refl, ap, subst, ◌∙◌, eqb-true, eq-eqb}
use Rattle.std.specs.List.{cons_option}
use Rattle.std.proofs.lemmas.Bool.{and_parts, and_from, not-true, or_left, or_right}
use Rattle.std.proofs.lemmas.List.Elements.{All-nil, All-cons}
use Rattle.mask_circuit.specs.declared.gates.Gate.{Gate}
use Rattle.mask_circuit.specs.declared.gates.Wire.{Wire}
use Rattle.mask_circuit.specs.declared.gates.Wire.TheVariants.{Share}
use Rattle.mask_circuit.specs.Expansion.{CircuitWire}
use Rattle.mask_circuit.specs.Probing.{same_wire}
use Rattle.mask_circuit.specs.Need.{is_share, inner_probes, probed_shares, need_from}
use Rattle.mask_laws.proofs.Members.{none_in_nil, Contains-cons_cases, Contains-first, Contains-later}

-- whether p is an inner probe of value n
abbrev pub is_inner_at : ℕ → CircuitWire → Bool
is_inner_at n p = p.0 == n && not (is_share p.1)

-- each inner probe of value n stands in the list, and is no share
pub All-inner_probes : (A : Wire → Type 0) (n : ℕ) (P : List CircuitWire) → ((w : Wire) → Contains P (n, w) → A w) → All (λ w. A w × (is_share w ≡ false)) (inner_probes n P)
All-inner_probes A n [] h = All-nil (λ w. A w × (is_share w ≡ false))
All-inner_probes A n (p ∷ P) h = go (is_inner_at n p) refl (All-inner_probes A n P (λ w k. h w (Contains-later p P (n, w) k)))
  where
    go : (b : Bool) → is_inner_at n p ≡ b → All (λ w. A w × (is_share w ≡ false)) (inner_probes n P) →
        All (λ w. A w × (is_share w ≡ false)) (cons_option (cond b (Some p.1) None) (inner_probes n P))
    go false e rest = rest
    go true e rest =
        let both = and_parts (p.0 == n) (not (is_share p.1)) e in
        let here : Contains (p ∷ P) (n, p.1) = subst (λ (m : ℕ). Contains (p ∷ P) (m, p.1)) (eqb-true p.0 n both.0) (Contains-first p P) in
        All-cons (λ w. A w × (is_share w ≡ false)) p.1 (inner_probes n P) (h p.1 here, not-true (is_share p.1) both.1) rest

-- a probe on a wire of value n that is no share is among its inner probes
pub Contains-inner_probes : (n : ℕ) (P : List CircuitWire) (w : Wire) → Contains P (n, w) → is_share w ≡ false → Contains (inner_probes n P) w
Contains-inner_probes n [] w k inner = absurd (none_in_nil _ k)
Contains-inner_probes n (p ∷ P) w k inner = go (is_inner_at n p) refl (Contains-cons_cases p P (n, w) k) (λ (rest : Contains P (n, w)). Contains-inner_probes n P w rest inner)
  where
    passes : p ≡ (n, w) → is_inner_at n p ≡ true
    passes e = ap (is_inner_at n) e ∙ and_from (n == n) (not (is_share w)) (eq-eqb n n refl) (ap not inner)

    go : (b : Bool) → is_inner_at n p ≡ b → (p ≡ (n, w)) ⊎ Contains P (n, w) → (Contains P (n, w) → Contains (inner_probes n P) w) →
        Contains (cons_option (cond b (Some p.1) None) (inner_probes n P)) w
    go true e (inl same) ih = subst (λ (q : CircuitWire). Contains (p.1 ∷ inner_probes n P) q.1) same (Contains-first p.1 (inner_probes n P))
    go true e (inr rest) ih = Contains-later p.1 (inner_probes n P) w (ih rest)
    go false e (inl same) ih = absurd (let t = passes same in cc)
    go false e (inr rest) ih = ih rest

pub probed_shares-from_Contains : (P : List CircuitWire) (v i : ℕ) → Contains P (v, Share i) → probed_shares P v i ≡ true
probed_shares-from_Contains [] v i k = absurd (none_in_nil _ k)
probed_shares-from_Contains (p ∷ P) v i k = go (Contains-cons_cases p P (v, Share i) k) (λ (rest : Contains P (v, Share i)). probed_shares-from_Contains P v i rest)
  where
    go : (p ≡ (v, Share i)) ⊎ Contains P (v, Share i) → (Contains P (v, Share i) → probed_shares P v i ≡ true) → probed_shares (p ∷ P) v i ≡ true
    go (inl same) ih = or_left _ (probed_shares P v i)
        (ap (λ (q : CircuitWire). q.0 == v && same_wire (Share i) q.1) same ∙ and_from (v == v) (i == i) (eq-eqb v v refl) (eq-eqb i i refl))
    go (inr rest) ih = or_right _ (probed_shares P v i) (ih rest)

-- a probed share is demanded
pub need_from-probed : (P : List CircuitWire) (gs : List Gate) (n v i : ℕ) → probed_shares P v i ≡ true → need_from P gs n v i ≡ true
need_from-probed P [] n v i h = h
need_from-probed P (g ∷ gs) n v i h = or_left (need_from P gs (suc n) v i) _ (need_from-probed P gs (suc n) v i h)
