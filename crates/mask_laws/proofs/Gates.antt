-- The law of any gate: each watched wire is kept.
use Rattle.std.proofs.Common.{◌≡◌, ℕ, ◌<◌, ◌≤◌, inl, inr, Bool, true, false, cond, ◌&&◌, ◌||◌, ◌==◌, List, length, map, All, Contains, refl, sym, ap, subst, eq-eqb}
use Rattle.std.proofs.lemmas.Bool.{and_from, or_left, or_right}
use Rattle.std.proofs.lemmas.List.Elements.{All-weaker, All-contains}
use Rattle.mask_circuit.specs.declared.gates.Gate.TheVariants.{Zero, One, Xor, Not, And, Ref}
use Rattle.mask_circuit.specs.Value.{xor}
use Rattle.mask_circuit.specs.Ring.{bits}
use Rattle.mask_circuit.specs.declared.gates.Wire.{Wire}
use Rattle.mask_circuit.specs.declared.gates.Wire.TheVariants.{Share, Product, Fresh, Left, Right, Partial}
use Rattle.mask_circuit.specs.Wires.{Shares, pairs, fresh_of, share_wire, gate_wire, product_names, refresh_names, share_names}
use Rattle.mask_circuit.specs.Need.{ShareSet, is_share, left_need, right_need, refresh_need}
use Rattle.mask_circuit.specs.Shift.{sides_of, product_mask, refresh_mask, gate_mask, add_bits}
use Rattle.mask_laws.specs.Names.{IsPair, IsProductName, IsRefreshName}
use Rattle.mask_laws.specs.Gadgets.{AreInner, FitsGate, AgreeBefore, IsWatched, GateKeeps}
use Rattle.mask_laws.proofs.Names.{Contains-pairs, gate_names-by_shape}
use Rattle.mask_laws.proofs.FreshBits.{fresh_of-masked}
use Rattle.mask_laws.proofs.Products.{product_keeps}
use Rattle.mask_laws.proofs.Refreshes.{refresh_keeps}

-- a gate that acts share by share keeps each watched wire whose share it keeps where it is demanded: it has no inner wires
shares_keep : (n : ℕ) (Q : List Wire) (O : ShareSet) (s s' : Shares Bool) → All (λ w. Contains (share_names n) w × (is_share w ≡ false)) Q →
    ((i : ℕ) → i < n → O i ≡ true → s i ≡ s' i) → (w : Wire) → IsWatched n Q O w → share_wire bits s w ≡ share_wire bits s' w
shares_keep n Q O s s' inner same w (inl probed) = by_name w (All-contains (λ v. Contains (share_names n) v × (is_share v ≡ false)) Q w inner probed).1
  where
    by_name : (v : Wire) → is_share v ≡ false → share_wire bits s v ≡ share_wire bits s' v
    by_name (Share i) inner_wire = cc
    by_name (Product i j) inner_wire = refl
    by_name (Fresh i j) inner_wire = refl
    by_name (Left i j) inner_wire = refl
    by_name (Right i j) inner_wire = refl
    by_name (Partial i k) inner_wire = refl
shares_keep n Q O s s' inner same w (inr demanded) =
    let P : Wire → Type 0 = λ v. share_wire bits s v ≡ share_wire bits s' v in subst P (sym demanded.3) (same demanded.0 demanded.1 demanded.2)

-- the fresh bits of a pair on the two sides differ by the mask
masked : (n : ℕ) (f : ℕ → ℕ → Bool) (r : List Bool) → length r ≡ length (pairs n) → (i j : ℕ) → IsPair n i j →
    fresh_of bits (pairs n) (add_bits r (map (λ p. f p.0 p.1) (pairs n))) i j ≡ xor (fresh_of bits (pairs n) r i j) (f i j)
masked n f r e i j is = fresh_of-masked f (pairs n) r i j e (Contains-pairs n i j is)

and_keeps : (N u v : ℕ) (Q : List Wire) (O : ShareSet) (s s' : ℕ → Shares Bool) (r : List Bool) → 2 ≤ N → AreInner N (And u v) Q → FitsGate N Q O →
    AgreeBefore N (And u v) Q O s s' → length r ≡ length (pairs N) → (w : Wire) → IsWatched N Q O w →
    gate_wire bits N (And u v) s r w ≡ gate_wire bits N (And u v) s' (add_bits r (gate_mask N (And u v) Q O s s')) w
and_keeps N u v Q O s s' r two inner fits agree e w watched =
    product_keeps N Q O (sides_of s s' u) (sides_of s s' v) (fresh_of bits (pairs N) r) (fresh_of bits (pairs N) (add_bits r (gate_mask N (And u v) Q O s s')))
    (record {
      fits = fits;
      fresh = masked N (product_mask N Q O (sides_of s s' u) (sides_of s s' v)) r e;
      left = λ i hi h. agree u i hi (or_left (u == u && left_need Q i) (u == v && right_need Q i) (and_from (u == u) (left_need Q i) (eq-eqb u u refl) h));
      right = λ i hi h. agree v i hi (or_right (v == u && left_need Q i) (v == v && right_need Q i) (and_from (v == v) (right_need Q i) (eq-eqb v v refl) h));
    })
    (All-weaker (λ x. Contains (product_names N) x × (is_share x ≡ false)) (λ x. IsProductName N x × (is_share x ≡ false))
    (λ x h. ((gate_names-by_shape N (And u v) x two).0 h.0, h.1)) Q inner) w watched

ref_keeps : (N u : ℕ) (Q : List Wire) (O : ShareSet) (s s' : ℕ → Shares Bool) (r : List Bool) → 2 ≤ N → AreInner N (Ref u) Q → FitsGate N Q O →
    AgreeBefore N (Ref u) Q O s s' → length r ≡ length (pairs N) → (w : Wire) → IsWatched N Q O w →
    gate_wire bits N (Ref u) s r w ≡ gate_wire bits N (Ref u) s' (add_bits r (gate_mask N (Ref u) Q O s s')) w
ref_keeps N u Q O s s' r two inner fits agree e w watched =
    refresh_keeps N Q O (sides_of s s' u) (fresh_of bits (pairs N) r) (fresh_of bits (pairs N) (add_bits r (gate_mask N (Ref u) Q O s s')))
    (record {
      fits = fits;
      fresh = masked N (refresh_mask N Q O (sides_of s s' u)) r e;
      shares = λ i hi h. agree u i hi (and_from (u == u) (refresh_need Q i) (eq-eqb u u refl) h);
    })
    (All-weaker (λ x. Contains (refresh_names N) x × (is_share x ≡ false)) (λ x. IsRefreshName N x × (is_share x ≡ false))
    (λ x h. ((gate_names-by_shape N (Ref u) x two).0 h.0, h.1)) Q inner) w watched

pub gate_keeps : GateKeeps
gate_keeps N Zero Q O s s' r two inner fits agree e w watched =
    shares_keep N Q O (λ i. false) (λ i. false) inner (λ i hi h. refl) w watched
gate_keeps N One Q O s s' r two inner fits agree e w watched =
    shares_keep N Q O (λ i. cond (i == 0) true false) (λ i. cond (i == 0) true false) inner (λ i hi h. refl) w watched
gate_keeps N (Xor u v) Q O s s' r two inner fits agree e w watched =
    shares_keep N Q O (λ i. xor (s u i) (s v i)) (λ i. xor (s' u i) (s' v i)) inner
    (λ i hi h. rw (
      agree u i hi (and_from (u == u || u == v) (O i) (or_left (u == u) (u == v) (eq-eqb u u refl)) h),
      agree v i hi (and_from (v == u || v == v) (O i) (or_right (v == u) (v == v) (eq-eqb v v refl)) h),
    ) refl) w watched
gate_keeps N (Not u) Q O s s' r two inner fits agree e w watched =
    shares_keep N Q O (λ i. cond (i == 0) (xor (s u i) true) (s u i)) (λ i. cond (i == 0) (xor (s' u i) true) (s' u i)) inner
    (λ i hi h. ap (λ b. cond (i == 0) (xor b true) b) (agree u i hi (and_from (u == u) (O i) (eq-eqb u u refl) h))) w watched
gate_keeps N (And u v) Q O s s' r two inner fits agree e w watched = and_keeps N u v Q O s s' r two inner fits agree e w watched
gate_keeps N (Ref u) Q O s s' r two inner fits agree e w watched = ref_keeps N u Q O s s' r two inner fits agree e w watched
