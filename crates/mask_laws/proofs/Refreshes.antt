-- The law of a refresh.
use Rattle.std.proofs.Common.{◌≡◌, ◌≢◌, ℕ, pred, ◌<◌, inl, inr, Bool, true, false, cond, ◌&&◌, ◌==◌, nat_lt, List, All, Contains, Some, refl, sym, ap, ◌∙◌, subst, arith, eq-eqb, lt-ltb, le-ltb}
use Rattle.std.proofs.lemmas.Bool.{cases_lt, or_cases}
use Rattle.std.proofs.lemmas.List.Elements.{All-contains}
use Rattle.mask_circuit.specs.Value.{xor}
use Rattle.mask_circuit.specs.Ring.{bits}
use Rattle.mask_circuit.specs.declared.gates.Wire.{Wire}
use Rattle.mask_circuit.specs.declared.gates.Wire.TheVariants.{Share, Product, Fresh, Left, Right, Partial}
use Rattle.mask_circuit.specs.Wires.{row_sum, fresh_between, refresh_wire}
use Rattle.mask_circuit.specs.Probing.{same_wire}
use Rattle.mask_circuit.specs.Need.{ShareSet, is_share, is_update_of, refresh_need}
use Rattle.mask_circuit.specs.Shift.{Sides, is_probed, wire_between, partner, refresh_mask}
use Rattle.mask_laws.specs.Names.{IsPair, IsRefreshName}
use Rattle.mask_laws.specs.Gadgets.{FitsGate, IsWatched}
use Rattle.mask_laws.proofs.Bits.{xor-false, xor_self, xor_comm, xor-change, xor_same, same_under_no_change}
use Rattle.mask_laws.proofs.Sums.{row_sum-same, row_sum-xor, row_sum-first, row_sum-none, row_sum-one_more}
use Rattle.mask_laws.proofs.Sets.{list_any-passes}
use Rattle.mask_laws.proofs.Names.{same_wire_self}
use Rattle.mask_laws.proofs.Needs.{row_of, update_is}
use Rattle.mask_laws.proofs.Flips.{flip, has_partner, partner-Some, flip-from_touched, flip-to_touched, flip-probed, flip-to_demanded, flip-at_partner, wire_between-is, other_end, other_end-forth, other_end-back}

-- PARTNERS

-- the row that a probe keeps from serving as the partner of row i: that of an update, or the other end of a fresh bit's pair
kept_from : ℕ → Wire → ℕ
kept_from i (Share k) = 0
kept_from i (Product k l) = 0
kept_from i (Fresh k l) = other_end i k l
kept_from i (Left k l) = 0
kept_from i (Right k l) = 0
kept_from i (Partial k l) = k

same_kept : (i k : ℕ) (w : Wire) → same_wire (wire_between Fresh i k) w ≡ true → k ≡ kept_from i w
unfolding kept_from
same_kept i k (Share a) h = wire_between-is (λ v. same_wire v (Share a) ≡ true → k ≡ 0) Fresh i k (λ e. cc) (λ e. cc) h
same_kept i k (Product a b) h = wire_between-is (λ v. same_wire v (Product a b) ≡ true → k ≡ 0) Fresh i k (λ e. cc) (λ e. cc) h
same_kept i k (Fresh a b) h =
    wire_between-is (λ v. same_wire v (Fresh a b) ≡ true → k ≡ other_end i a b) Fresh i k (other_end-forth i k a b) (other_end-back i k a b) h
same_kept i k (Left a b) h = wire_between-is (λ v. same_wire v (Left a b) ≡ true → k ≡ 0) Fresh i k (λ e. cc) (λ e. cc) h
same_kept i k (Right a b) h = wire_between-is (λ v. same_wire v (Right a b) ≡ true → k ≡ 0) Fresh i k (λ e. cc) (λ e. cc) h
same_kept i k (Partial a b) h = wire_between-is (λ v. same_wire v (Partial a b) ≡ true → k ≡ a) Fresh i k (λ e. cc) (λ e. cc) h

update_kept : (i k : ℕ) (w : Wire) → is_update_of k w ≡ true → k ≡ kept_from i w
unfolding kept_from row_of
update_kept i k (Share a) h = cc
update_kept i k (Product a b) h = cc
update_kept i k (Fresh a b) h = cc
update_kept i k (Left a b) h = cc
update_kept i k (Right a b) h = cc
update_kept i k (Partial a b) h = update_is k (Partial a b) h

refresh_partner : (n : ℕ) (Q : List Wire) (O : ShareSet) (i : ℕ) → FitsGate n Q O → O i ≡ true →
    (k : ℕ) × (partner n Fresh Q (refresh_need Q) O i ≡ Some k)
refresh_partner n Q O i fits demanded =
    has_partner n Fresh Q is_update_of O i (kept_from i)
    (λ k w h. elim (or_cases (is_update_of k w) (same_wire (wire_between Fresh i k) w) h) [ inl e ↦ update_kept i k w e | inr e ↦ same_kept i k w e ])
    fits demanded

-- CHANGES

-- whether share i of the operand differs between the sides
abbrev differs : Sides → ℕ → Bool
differs a i = xor (a.one i) (a.two i)

-- fresh bits that differ by m differ by m between two rows
fresh_between-xor : (n : ℕ) (r r' m : ℕ → ℕ → Bool) → ((i j : ℕ) → IsPair n i j → r' i j ≡ xor (r i j) (m i j)) →
    (i j : ℕ) → i < n → j < n → i ≢ j → fresh_between r' i j ≡ xor (fresh_between r i j) (fresh_between m i j)
fresh_between-xor n r r' m differ i j hi hj ne =
    elim (cases_lt i j) [ inl l ↦ rw (lt-ltb i j l) (differ i j (l, hj)) | inr g ↦ rw (le-ltb i j g) (differ j i (omega arith, hi)) ]

-- the sum of a row differs by the sum of what its terms differ by
row-xor : (n : ℕ) (a : Sides) (r r' m : ℕ → ℕ → Bool) → ((i j : ℕ) → IsPair n i j → r' i j ≡ xor (r i j) (m i j)) → (i k : ℕ) → i < n → k < n →
    row_sum bits (a.two i) (fresh_between r' i) i k
    ≡ xor (row_sum bits (a.one i) (fresh_between r i) i k) (row_sum bits (differs a i) (fresh_between m i) i k)
row-xor n a r r' m differ i k hi hk =
    row_sum-same bits (a.two i) (xor (a.one i) (differs a i)) (fresh_between r' i) (λ j. xor (fresh_between r i j) (fresh_between m i j)) i k
    (xor-change (a.one i) (a.two i)) (λ j le ne. fresh_between-xor n r r' m differ i j hi (omega arith) ne)
    ∙ row_sum-xor (a.one i) (differs a i) (fresh_between r i) (fresh_between m i) i k

-- THE LAW

-- what a refresh needs so that its watched wires are kept: the fresh bits differ by the mask, and the operand's shares
-- agree where the probes demand them
pub record AgreeAtRefresh (n : ℕ) (Q : List Wire) (O : ShareSet) (a : Sides) (r r' : ℕ → ℕ → Bool) : Type 0 where
  pub fits : FitsGate n Q O
  pub fresh : (i j : ℕ) → IsPair n i j → r' i j ≡ xor (r i j) (refresh_mask n Q O a i j)
  pub shares : (i : ℕ) → i < n → refresh_need Q i ≡ true → a.one i ≡ a.two i

module _ (n : ℕ) (Q : List Wire) (O : ShareSet) (a : Sides) (r r' : ℕ → ℕ → Bool) (agree : AgreeAtRefresh n Q O a r r') where
  abbrev T : ShareSet
  T = refresh_need Q

  abbrev mask : ℕ → ℕ → Bool
  mask = refresh_mask n Q O a

  -- whether the bit of rows i and j is flipped for row i
  abbrev flip_for : ℕ → ℕ → Bool
  flip_for = flip n Fresh Q T O (differs a)

  abbrev one : Wire → Bool
  one = refresh_wire bits n a.one r

  abbrev two : Wire → Bool
  two = refresh_wire bits n a.two r'

  -- the mask of two rows has the flips for both
  fresh_between-mask : (i j : ℕ) → fresh_between mask i j ≡ xor (flip_for i j) (flip_for j i)
  fresh_between-mask i j = go (nat_lt i j)
    where
      go : (b : Bool) → cond b (mask i j) (mask j i) ≡ xor (flip_for i j) (flip_for j i)
      go true = refl
      go false = xor_comm (flip_for j i) (flip_for i j)

  -- a row up to some column is kept if it doesn't change ..
  kept_row : (i k : ℕ) → i < n → k < n → row_sum bits (differs a i) (fresh_between mask i) i k ≡ false →
      row_sum bits (a.one i) (fresh_between r i) i k ≡ row_sum bits (a.two i) (fresh_between r' i) i k
  kept_row i k hi hk none =
      same_under_no_change (row_sum bits (a.one i) (fresh_between r i) i k) (row_sum bits (a.two i) (fresh_between r' i) i k)
      (row_sum bits (differs a i) (fresh_between mask i) i k) (row-xor n a r r' mask agree.fresh i k hi hk) none

  -- .. as a touched row doesn't, since no flip touches it ..
  touched_row : (i k : ℕ) → i < n → T i ≡ true → row_sum bits (differs a i) (fresh_between mask i) i k ≡ false
  touched_row i k hi touched =
      row_sum-none (differs a i) (fresh_between mask i) i k (xor_same (a.one i) (a.two i) (agree.shares i hi touched))
      (λ j le ne. rw (
        fresh_between-mask i j,
        flip-from_touched n Fresh Q T O (differs a) i j touched,
        flip-to_touched n Fresh Q T O (differs a) i j touched,
      ) refl)

  -- .. nor one that is demanded and not touched: what its share changes by, its flip makes up for
  demanded_row : (i : ℕ) → O i ≡ true → T i ≡ false → row_sum bits (differs a i) (fresh_between mask i) i (pred n) ≡ false
  demanded_row i demanded untouched = go (refresh_partner n Q O i agree.fits demanded)
    where
      go : (p : ℕ) × (partner n Fresh Q T O i ≡ Some p) → row_sum bits (differs a i) (fresh_between mask i) i (pred n) ≡ false
      go (p, found) =
          let is = partner-Some n Fresh Q T O i p found in
          row_sum-same bits (differs a i) (differs a i) (fresh_between mask i) (λ j. differs a i && p == j) i (pred n) refl
          (λ j le ne. rw (
            fresh_between-mask i j,
            flip-to_demanded n Fresh Q T O (differs a) i j demanded,
            flip-at_partner n Fresh Q T O (differs a) i j p demanded untouched found,
          ) (xor-false (differs a i && p == j)))
          ∙ row_sum-one_more (differs a i) (differs a i) (λ j. false) p i (pred n) is.apart (let below = is.below in omega arith)
          ∙ ap (λ b. xor b (differs a i)) (row_sum-first (differs a i) (λ j. false) i (pred n) (λ j le ne. refl))
          ∙ xor_self (differs a i)

  -- an output share that is demanded is kept
  kept_share : (i : ℕ) → i < n → O i ≡ true → one (Share i) ≡ two (Share i)
  kept_share i hi demanded = go (T i) refl
    where
      go : (t : Bool) → T i ≡ t → one (Share i) ≡ two (Share i)
      go true touched = kept_row i (pred n) hi (omega arith) (touched_row i (pred n) hi touched)
      go false untouched = kept_row i (pred n) hi (omega arith) (demanded_row i demanded untouched)

  -- a probed fresh bit is kept, since no flip touches it
  kept_fresh : (i j : ℕ) → IsPair n i j → Contains Q (Fresh i j) → one (Fresh i j) ≡ two (Fresh i j)
  kept_fresh i j is probed =
      let hit : is_probed Q (Fresh i j) ≡ true = list_any-passes (same_wire (Fresh i j)) Q (Fresh i j) probed (same_wire_self (Fresh i j)) in
      let forth : is_probed Q (wire_between Fresh i j) ≡ true = rw (lt-ltb i j is.0) hit in
      let back : is_probed Q (wire_between Fresh j i) ≡ true = rw (le-ltb j i (omega (arith, is.0))) hit in
      same_under_no_change (r i j) (r' i j) (mask i j) (agree.fresh i j is)
      (rw (flip-probed n Fresh Q T O (differs a) i j forth, flip-probed n Fresh Q T O (differs a) j i back) refl)

  -- an inner probe is kept
  kept_probe : (w : Wire) → IsRefreshName n w → is_share w ≡ false → Contains Q w → one w ≡ two w
  kept_probe (Share i) name inner probed = cc
  kept_probe (Product i j) name inner probed = refl
  kept_probe (Fresh i j) name inner probed = kept_fresh i j name probed
  kept_probe (Left i j) name inner probed = refl
  kept_probe (Right i j) name inner probed = refl
  kept_probe (Partial i k) name inner probed =
      kept_row i k name.0 name.1 (touched_row i k name.0 (list_any-passes (is_update_of i) Q (Partial i k) probed (eq-eqb i i refl)))

  -- A refresh keeps each watched wire.
  pub refresh_keeps : All (λ w. IsRefreshName n w × (is_share w ≡ false)) Q → (w : Wire) → IsWatched n Q O w → one w ≡ two w
  refresh_keeps inner w (inl probed) =
      let is = All-contains (λ v. IsRefreshName n v × (is_share v ≡ false)) Q w inner probed in kept_probe w is.0 is.1 probed
  refresh_keeps inner w (inr demanded) =
      let P : Wire → Type 0 = λ v. one v ≡ two v in subst P (sym demanded.3) (kept_share demanded.0 demanded.1 demanded.2)
