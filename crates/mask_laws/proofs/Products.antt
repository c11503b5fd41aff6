-- The law of a product.
use Rattle.std.proofs.Common.{◌≡◌, ◌≢◌, ℕ, pred, ◌<◌, inl, inr, Bool, true, false, cond, ◌&&◌, ◌==◌, nat_lt, List, All, Contains, Some, refl, sym, ◌∙◌, subst, arith, eq-eqb, lt-ltb, le-ltb}
use Rattle.std.specs.List.{list_any}
use Rattle.std.proofs.lemmas.Bool.{cases_lt, or_cases, or_left, or_right}
use Rattle.std.proofs.lemmas.List.Elements.{All-contains}
use Rattle.mask_circuit.specs.Value.{xor}
use Rattle.mask_circuit.specs.Ring.{bits}
use Rattle.mask_circuit.specs.declared.gates.Wire.{Wire}
use Rattle.mask_circuit.specs.declared.gates.Wire.TheVariants.{Share, Product, Fresh, Left, Right, Partial}
use Rattle.mask_circuit.specs.Wires.{row_sum, cross, product_wire}
use Rattle.mask_circuit.specs.Probing.{same_wire}
use Rattle.mask_circuit.specs.Need.{ShareSet, is_share, is_of_row, product_rows, demands_left, demands_right, left_need, right_need}
use Rattle.mask_circuit.specs.Shift.{Sides, product_change, is_probed, wire_between, partner, product_base, cross_change, share_change, product_mask}
use Rattle.mask_laws.specs.Names.{IsPair, IsProductName}
use Rattle.mask_laws.specs.Gadgets.{FitsGate, IsWatched}
use Rattle.mask_laws.proofs.Bits.{xor-false, xor_self, xor-xor, xor_comm, xor_right_comm, xor-change, same_under_no_change, both_twice}
use Rattle.mask_laws.proofs.Sums.{row_sum-same, row_sum-xor, row_sum-none, row_sum-one_more}
use Rattle.mask_laws.proofs.Sets.{list_any-passes}
use Rattle.mask_laws.proofs.Names.{same_wire_self}
use Rattle.mask_laws.proofs.Needs.{row_of, row_is}
use Rattle.mask_laws.proofs.Flips.{flip, has_partner, partner-Some, flip-from_touched, flip-to_touched, flip-probed, flip-to_demanded, flip-at_partner, wire_between-is, other_end, other_end-forth, other_end-back}

-- PARTNERS

-- the row that a probe keeps from serving as the partner of row i: its own row, or the other end of the pair of a v
kept_from : ℕ → Wire → ℕ
kept_from i (Share k) = 0
kept_from i (Product k l) = k
kept_from i (Fresh k l) = k
kept_from i (Left k l) = other_end i k l
kept_from i (Right k l) = l
kept_from i (Partial k l) = k

same_kept : (i k : ℕ) (w : Wire) → same_wire (wire_between Left i k) w ≡ true → k ≡ kept_from i w
unfolding kept_from
same_kept i k (Share c) h = wire_between-is (λ v. same_wire v (Share c) ≡ true → k ≡ 0) Left i k (λ e. cc) (λ e. cc) h
same_kept i k (Product c d) h = wire_between-is (λ v. same_wire v (Product c d) ≡ true → k ≡ c) Left i k (λ e. cc) (λ e. cc) h
same_kept i k (Fresh c d) h = wire_between-is (λ v. same_wire v (Fresh c d) ≡ true → k ≡ c) Left i k (λ e. cc) (λ e. cc) h
same_kept i k (Left c d) h =
    wire_between-is (λ v. same_wire v (Left c d) ≡ true → k ≡ other_end i c d) Left i k (other_end-forth i k c d) (other_end-back i k c d) h
same_kept i k (Right c d) h = wire_between-is (λ v. same_wire v (Right c d) ≡ true → k ≡ d) Left i k (λ e. cc) (λ e. cc) h
same_kept i k (Partial c d) h = wire_between-is (λ v. same_wire v (Partial c d) ≡ true → k ≡ c) Left i k (λ e. cc) (λ e. cc) h

row_kept : (i k : ℕ) (w : Wire) → is_of_row k w ≡ true → k ≡ kept_from i w
unfolding kept_from row_of
row_kept i k (Share c) h = cc
row_kept i k (Product c d) h = row_is k (Product c d) h
row_kept i k (Fresh c d) h = row_is k (Fresh c d) h
row_kept i k (Left c d) h = cc
row_kept i k (Right c d) h = row_is k (Right c d) h
row_kept i k (Partial c d) h = row_is k (Partial c d) h

product_partner : (n : ℕ) (Q : List Wire) (O : ShareSet) (i : ℕ) → FitsGate n Q O → O i ≡ true →
    (k : ℕ) × (partner n Left Q (product_rows Q) O i ≡ Some k)
product_partner n Q O i fits demanded =
    has_partner n Left Q is_of_row O i (kept_from i)
    (λ k w h. elim (or_cases (is_of_row k w) (same_wire (wire_between Left i k) w) h) [ inl e ↦ row_kept i k w e | inr e ↦ same_kept i k w e ])
    fits demanded

-- CHANGES

-- a term of shares that agree doesn't change
no_change : (a b : Sides) (i j : ℕ) → a.one i ≡ a.two i → b.one j ≡ b.two j → product_change a b i j ≡ false
no_change a b i j left right = rw (left, right) (xor_self (a.two i && b.two j))

-- a term on the second side is that on the first with its change
term-xor : (a b : Sides) (i j : ℕ) → (a.two i && b.two j) ≡ xor (a.one i && b.one j) (product_change a b i j)
term-xor a b i j = xor-change (a.one i && b.one j) (a.two i && b.two j)

-- two terms that differ by m and d, and three
two_terms : (r r' m p p' d : Bool) → r' ≡ xor r m → p' ≡ xor p d → xor r' p' ≡ xor (xor r p) (xor m d)
two_terms r r' m p p' d er ep = rw (er, ep) (xor-xor r m p d)

three_terms : (r r' m p p' d q q' e : Bool) → r' ≡ xor r m → p' ≡ xor p d → q' ≡ xor q e →
    xor (xor r' p') q' ≡ xor (xor (xor r p) q) (xor (xor m d) e)
three_terms r r' m p p' d q q' e er ep eq = two_terms (xor r p) (xor r' p') (xor m d) q q' e (two_terms r r' m p p' d er ep) eq

-- where the fresh bits differ by m, each r_ij differs by its change ..
cross-xor : (n : ℕ) (a b : Sides) (r r' m : ℕ → ℕ → Bool) → ((i j : ℕ) → IsPair n i j → r' i j ≡ xor (r i j) (m i j)) →
    (i j : ℕ) → i < n → j < n → i ≢ j → cross bits a.two b.two r' i j ≡ xor (cross bits a.one b.one r i j) (cross_change a b m i j)
cross-xor n a b r r' m differ i j hi hj ne =
    elim (cases_lt i j) [
      | inl l ↦ rw (lt-ltb i j l) (differ i j (l, hj))
      | inr g ↦ rw (le-ltb i j g)
          (three_terms (r j i) (r' j i) (m j i) (a.one j && b.one i) (a.two j && b.two i) (product_change a b j i)
          (a.one i && b.one j) (a.two i && b.two j) (product_change a b i j) (differ j i (omega arith, hi)) (term-xor a b j i) (term-xor a b i j))
    ]

-- .. and the sum of a row by the sum of what its terms change by
row-xor : (n : ℕ) (a b : Sides) (r r' m : ℕ → ℕ → Bool) → ((i j : ℕ) → IsPair n i j → r' i j ≡ xor (r i j) (m i j)) → (i k : ℕ) → i < n → k < n →
    row_sum bits (a.two i && b.two i) (cross bits a.two b.two r' i) i k
    ≡ xor (row_sum bits (a.one i && b.one i) (cross bits a.one b.one r i) i k) (row_sum bits (product_change a b i i) (cross_change a b m i) i k)
row-xor n a b r r' m differ i k hi hk =
    row_sum-same bits (a.two i && b.two i) (xor (a.one i && b.one i) (product_change a b i i)) (cross bits a.two b.two r' i)
    (λ j. xor (cross bits a.one b.one r i j) (cross_change a b m i j)) i k
    (term-xor a b i i) (λ j le ne. cross-xor n a b r r' m differ i j hi (omega arith) ne)
    ∙ row_sum-xor (a.one i && b.one i) (product_change a b i i) (cross bits a.one b.one r i) (cross_change a b m i) i k

-- THE LAW

-- what a product needs so that its watched wires are kept: the fresh bits differ by the mask, and the operands' shares
-- agree where the probes demand them
pub record AgreeAtProduct (n : ℕ) (Q : List Wire) (O : ShareSet) (a b : Sides) (r r' : ℕ → ℕ → Bool) : Type 0 where
  pub fits : FitsGate n Q O
  pub fresh : (i j : ℕ) → IsPair n i j → r' i j ≡ xor (r i j) (product_mask n Q O a b i j)
  pub left : (i : ℕ) → i < n → left_need Q i ≡ true → a.one i ≡ a.two i
  pub right : (i : ℕ) → i < n → right_need Q i ≡ true → b.one i ≡ b.two i

module _ (n : ℕ) (Q : List Wire) (O : ShareSet) (a b : Sides) (r r' : ℕ → ℕ → Bool) (agree : AgreeAtProduct n Q O a b r r') where
  abbrev T : ShareSet
  T = product_rows Q

  abbrev base : ℕ → ℕ → Bool
  base = product_base Q a b

  abbrev mask : ℕ → ℕ → Bool
  mask = product_mask n Q O a b

  -- output share i changes so under the base
  abbrev change : ℕ → Bool
  change = share_change n a b base

  -- whether the bit of rows i and j is flipped for row i
  abbrev flip_for : ℕ → ℕ → Bool
  flip_for = flip n Left Q T O change

  abbrev one : Wire → Bool
  one = product_wire bits n a.one b.one r

  abbrev two : Wire → Bool
  two = product_wire bits n a.two b.two r'

  -- both operands agree on the touched rows
  left_touched : (i : ℕ) → i < n → T i ≡ true → a.one i ≡ a.two i
  left_touched i hi touched = agree.left i hi (or_left (T i) (list_any (demands_left i) Q) touched)

  right_touched : (i : ℕ) → i < n → T i ≡ true → b.one i ≡ b.two i
  right_touched i hi touched = agree.right i hi (or_left (T i) (list_any (demands_right T i) Q) touched)

  -- what a probe demands of an operand
  left_demanded : (i : ℕ) (w : Wire) → i < n → Contains Q w → demands_left i w ≡ true → a.one i ≡ a.two i
  left_demanded i w hi probed demands =
      agree.left i hi (or_right (T i) (list_any (demands_left i) Q) (list_any-passes (demands_left i) Q w probed demands))

  right_demanded : (i : ℕ) (w : Wire) → i < n → Contains Q w → demands_right T i w ≡ true → b.one i ≡ b.two i
  right_demanded i w hi probed demands =
      agree.right i hi (or_right (T i) (list_any (demands_right T i) Q) (list_any-passes (demands_right T i) Q w probed demands))

  -- the change of r_ij under the mask is that under the base with the flips for both rows
  cross_change-mask : (i j : ℕ) → cross_change a b mask i j ≡ xor (cross_change a b base i j) (xor (flip_for i j) (flip_for j i))
  cross_change-mask i j = go (nat_lt i j)
    where
      moved : (m f g d e : Bool) → xor (xor (xor m (xor f g)) d) e ≡ xor (xor (xor m d) e) (xor g f)
      moved m f g d e = rw (xor_right_comm m (xor f g) d, xor_right_comm (xor m d) (xor f g) e, xor_comm f g) refl

      go : (below : Bool) → cond below (mask i j) (xor (xor (mask j i) (product_change a b j i)) (product_change a b i j))
          ≡ xor (cond below (base i j) (xor (xor (base j i) (product_change a b j i)) (product_change a b i j))) (xor (flip_for i j) (flip_for j i))
      go true = refl
      go false = moved (base j i) (flip_for j i) (flip_for i j) (product_change a b j i) (product_change a b i j)

  -- under the base no r_ij of a touched row changes ..
  base_touched : (i j : ℕ) → i < n → j < n → T i ≡ true → cross_change a b base i j ≡ false
  base_touched i j hi hj touched = go (nat_lt i j) (T j) refl
    where
      go : (below t : Bool) → T j ≡ t → cond below (base i j) (xor (xor (base j i) (product_change a b j i)) (product_change a b i j)) ≡ false
      go true t at = rw touched refl
      go false true at =
          rw (
            at,
            no_change a b j i (left_touched j hj at) (right_touched i hi touched),
            no_change a b i j (left_touched i hi touched) (right_touched j hj at),
          ) refl
      go false false at = rw (at, touched) (both_twice (product_change a b j i) (product_change a b i j))

  -- .. nor does it under the mask
  cross_touched : (i j : ℕ) → i < n → j < n → T i ≡ true → cross_change a b mask i j ≡ false
  cross_touched i j hi hj touched =
      rw (
        cross_change-mask i j,
        base_touched i j hi hj touched,
        flip-from_touched n Left Q T O change i j touched,
        flip-to_touched n Left Q T O change i j touched,
      ) refl

  -- so each r_ij of a touched row is kept ..
  kept_cross : (i j : ℕ) → i < n → j < n → i ≢ j → T i ≡ true → cross bits a.one b.one r i j ≡ cross bits a.two b.two r' i j
  kept_cross i j hi hj ne touched =
      same_under_no_change (cross bits a.one b.one r i j) (cross bits a.two b.two r' i j) (cross_change a b mask i j)
      (cross-xor n a b r r' mask agree.fresh i j hi hj ne) (cross_touched i j hi hj touched)

  -- a row up to some column is kept if it doesn't change ..
  kept_row : (i k : ℕ) → i < n → k < n → row_sum bits (product_change a b i i) (cross_change a b mask i) i k ≡ false →
      row_sum bits (a.one i && b.one i) (cross bits a.one b.one r i) i k ≡ row_sum bits (a.two i && b.two i) (cross bits a.two b.two r' i) i k
  kept_row i k hi hk none =
      same_under_no_change (row_sum bits (a.one i && b.one i) (cross bits a.one b.one r i) i k)
      (row_sum bits (a.two i && b.two i) (cross bits a.two b.two r' i) i k) (row_sum bits (product_change a b i i) (cross_change a b mask i) i k) (row-xor n a b r r' mask agree.fresh i k hi hk) none

  -- .. as a touched row doesn't ..
  touched_row : (i k : ℕ) → i < n → k < n → T i ≡ true → row_sum bits (product_change a b i i) (cross_change a b mask i) i k ≡ false
  touched_row i k hi hk touched =
      row_sum-none (product_change a b i i) (cross_change a b mask i) i k (no_change a b i i (left_touched i hi touched) (right_touched i hi touched))
      (λ j le ne. cross_touched i j hi (omega arith) touched)

  -- .. nor an output share that is demanded and not touched: what it changes by under the base, its flip makes up for
  demanded_row : (i : ℕ) → i < n → O i ≡ true → T i ≡ false → row_sum bits (product_change a b i i) (cross_change a b mask i) i (pred n) ≡ false
  demanded_row i hi demanded untouched = go (product_partner n Q O i agree.fits demanded)
    where
      go : (p : ℕ) × (partner n Left Q T O i ≡ Some p) → row_sum bits (product_change a b i i) (cross_change a b mask i) i (pred n) ≡ false
      go (p, found) =
          let is = partner-Some n Left Q T O i p found in
          row_sum-same bits (product_change a b i i) (product_change a b i i) (cross_change a b mask i)
          (λ j. xor (cross_change a b base i j) (change i && p == j)) i (pred n) refl
          (λ j le ne. rw (
            cross_change-mask i j,
            flip-to_demanded n Left Q T O change i j demanded,
            flip-at_partner n Left Q T O change i j p demanded untouched found,
            xor-false (change i && p == j),
          ) refl)
          ∙ row_sum-one_more (product_change a b i i) (change i) (cross_change a b base i) p i (pred n) is.apart (let below = is.below in omega arith)
          ∙ xor_self (change i)

  -- an output share that is demanded is kept
  kept_share : (i : ℕ) → i < n → O i ≡ true → one (Share i) ≡ two (Share i)
  kept_share i hi demanded = go (T i) refl
    where
      go : (t : Bool) → T i ≡ t → one (Share i) ≡ two (Share i)
      go true touched = kept_row i (pred n) hi (omega arith) (touched_row i (pred n) hi (omega arith) touched)
      go false untouched = kept_row i (pred n) hi (omega arith) (demanded_row i hi demanded untouched)

  -- under the base no probed v_ij changes ..
  base_left : (i j : ℕ) → IsPair n i j → Contains Q (Left i j) → is_probed Q (Left i j) ≡ true → xor (base i j) (product_change a b i j) ≡ false
  base_left i j is probed hit = go (T i) refl (T j) refl
    where
      hi : i < n
      hi = omega (arith, is.0, is.1)

      go : (t : Bool) → T i ≡ t → (u : Bool) → T j ≡ u → xor (base i j) (product_change a b i j) ≡ false
      go true at true at' = rw at (no_change a b i j (left_touched i hi at) (right_touched j is.1 at'))
      go true at false at' =
          rw at (no_change a b i j (left_touched i hi at) (right_demanded j (Left i j) is.1 probed (rw (at, at', eq-eqb j j refl) refl)))
      go false at true at' =
          let back = no_change a b j i (left_touched j is.1 at') (right_demanded i (Left i j) hi probed (rw (at, at', eq-eqb i i refl) refl)) in
          rw (at, at', back, xor-false (product_change a b i j)) (xor_self (product_change a b i j))
      go false at false at' = rw (at, at', hit) (xor_self (product_change a b i j))

  -- .. nor does it under the mask, so it is kept
  kept_left : (i j : ℕ) → IsPair n i j → Contains Q (Left i j) → one (Left i j) ≡ two (Left i j)
  kept_left i j is probed =
      let hit : is_probed Q (Left i j) ≡ true = list_any-passes (same_wire (Left i j)) Q (Left i j) probed (same_wire_self (Left i j)) in
      let forth : is_probed Q (wire_between Left i j) ≡ true = rw (lt-ltb i j is.0) hit in
      let back : is_probed Q (wire_between Left j i) ≡ true = rw (le-ltb j i (omega (arith, is.0))) hit in
      let unflipped : mask i j ≡ base i j =
      rw (flip-probed n Left Q T O change i j forth, flip-probed n Left Q T O change j i back) (xor-false (base i j)) in
      same_under_no_change (one (Left i j)) (two (Left i j)) (xor (mask i j) (product_change a b i j))
      (two_terms (r i j) (r' i j) (mask i j) (a.one i && b.one j) (a.two i && b.two j) (product_change a b i j) (agree.fresh i j is) (term-xor a b i j))
      (rw unflipped (base_left i j is probed hit))

  -- a probe that belongs to a row touches it
  touches : (i : ℕ) (w : Wire) → Contains Q w → is_of_row i w ≡ true → T i ≡ true
  touches i w probed of_row = list_any-passes (is_of_row i) Q w probed of_row

  -- a probed term is kept, also on the diagonal, where it touches its row
  kept_term : (i j : ℕ) → i < n → j < n → Contains Q (Product i j) → one (Product i j) ≡ two (Product i j)
  kept_term i j hi hj probed =
      rw (left_demanded i (Product i j) hi probed (eq-eqb i i refl), right_demanded j (Product i j) hj probed (eq-eqb j j refl)) refl

  -- an inner probe is kept
  kept_probe : (w : Wire) → IsProductName n w → is_share w ≡ false → Contains Q w → one w ≡ two w
  kept_probe (Share i) name inner probed = cc
  kept_probe (Product i j) name inner probed = kept_term i j name.0 name.1 probed
  kept_probe (Fresh i j) name inner probed =
      let kept = kept_cross i j (omega (arith, name.0, name.1)) name.1 (omega (arith, name.0)) (touches i (Fresh i j) probed (eq-eqb i i refl)) in
      rw (lt-ltb i j name.0) at kept
  kept_probe (Left i j) name inner probed = kept_left i j name probed
  kept_probe (Right i j) name inner probed =
      let kept = kept_cross j i name.1 (omega (arith, name.0, name.1)) (omega (arith, name.0)) (touches j (Right i j) probed (eq-eqb j j refl)) in
      rw (le-ltb j i (omega (arith, name.0))) at kept
  kept_probe (Partial i k) name inner probed =
      kept_row i k name.0 name.1 (touched_row i k name.0 name.1 (touches i (Partial i k) probed (eq-eqb i i refl)))

  -- A product keeps each watched wire.
  pub product_keeps : All (λ w. IsProductName n w × (is_share w ≡ false)) Q → (w : Wire) → IsWatched n Q O w → one w ≡ two w
  product_keeps inner w (inl probed) =
      let is = All-contains (λ v. IsProductName n v × (is_share v ≡ false)) Q w inner probed in kept_probe w is.0 is.1 probed
  product_keeps inner w (inr demanded) =
      let P : Wire → Type 0 = λ v. one v ≡ two v in subst P (sym demanded.3) (kept_share demanded.0 demanded.1 demanded.2)
