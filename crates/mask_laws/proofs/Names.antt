-- The names of a gate's wires, by their shapes.
use Rattle.std.proofs.Common.{◌≡◌, ◌≢◌, ℕ, suc, pred, ◌+◌, ◌-◌, ◌<◌, ◌≤◌, inl, inr, Bool, true, false, ◌==◌, List, [], ◌∷◌, ◌++◌, Contains, flat_map, refl, sym, ap, subst, arith, lt-ltb, le-ltb, eq-eqb}
use Rattle.std.proofs.lemmas.Bool.{cases_lt, cases_eq, cond-true, cond-false, or_right, or_left, and_from}
use Rattle.std.proofs.lemmas.List.Elements.{Contains-append_left, Contains-append_right, Contains-append_cases}
use Rattle.mask_circuit.specs.declared.gates.Gate.TheVariants.{Zero, One, Xor, Not, And, Ref}
use Rattle.mask_circuit.specs.declared.gates.Wire.{Wire}
use Rattle.mask_circuit.specs.declared.gates.Wire.TheVariants.{Share, Product, Fresh, Left, Right, Partial}
use Rattle.mask_circuit.specs.Wires.{Pair, each, joined, row_pairs, pairs, other, is_last, row_wire, share_names, product_names, refresh_names}
use Rattle.mask_circuit.specs.Probing.{same_wire}
use Rattle.mask_laws.specs.Names.{IsShareName, IsPair, IsInnerColumn, IsProductName, IsRefreshName, GateHasNames}
use Rattle.mask_laws.proofs.Members.{first_of_three, second_of_three, third_of_three, each_place, Contains-each, joined_piece, Contains-joined, flat_map_piece, Contains-flat_map, holds_of_three}

-- PAIRS

-- an element of the pairs is a pair of two shares, the lower one first ..
pub pairs_below : (n : ℕ) (p : Pair) → Contains (pairs n) p → IsPair n p.0 p.1
pairs_below n p h =
    let r = joined_piece (row_pairs n) n p h in
    let m = each_place (λ (m : ℕ). (r.0, suc r.0 + m)) (n - suc r.0) p r.2 in
    let first : r.0 ≡ p.0 = ap (λ (q : Pair). q.0) m.2 in
    let second : suc r.0 + m.0 ≡ p.1 = ap (λ (q : Pair). q.1) m.2 in
    (omega (arith, first, second), omega (arith, first, second, m.1))

-- .. and each such pair is there
pub Contains-pairs : (n i j : ℕ) → IsPair n i j → Contains (pairs n) (i, j)
Contains-pairs n i j h =
    let m : ℕ = j - suc i in
    let at : suc i + m ≡ j = omega (arith, h.0) in
    let below : m < n - suc i = omega (arith, h.0, h.1) in
    Contains-joined (row_pairs n) n i (i, j) (omega (arith, h.0, h.1))
    (subst (λ (k : ℕ). Contains (row_pairs n i) (i, k)) at (Contains-each (λ (k : ℕ). (i, suc i + k)) (n - suc i) m below))

-- COLUMNS OF A ROW

-- the other columns of row i are below n, and none is i ..
pub other-below : (n i m : ℕ) → i < n → m < pred n → other i m < n
other-below n i m hi hm = elim (cases_lt m i) [ inl l ↦ rw (lt-ltb m i l) (omega arith) | inr g ↦ rw (le-ltb m i g) (omega arith) ]

pub other-apart : (i m : ℕ) → i ≢ other i m
other-apart i m = elim (cases_lt m i) [ inl l ↦ rw (lt-ltb m i l) (omega arith) | inr g ↦ rw (le-ltb m i g) (omega arith) ]

-- .. and each column but i is among them
other_at : (n i k : ℕ) → i < n → k < n → i ≢ k → (m : ℕ) × (m < pred n) × (other i m ≡ k)
other_at n i k hi hk ne =
    elim (cases_lt k i) [
      | inl l ↦ (k, omega arith, rw (lt-ltb k i l) refl)
      | inr g ↦ (pred k, omega arith, rw (le-ltb (pred k) i (omega arith)) (omega arith))
    ]

-- the wire of row i at column k is a partial sum, or an output share at the last column
row_wire-inner : (n i k : ℕ) → is_last n i k ≡ false → row_wire n i k ≡ Partial i k
row_wire-inner n i k e = cond-false (is_last n i k) (Share i) (Partial i k) e

row_wire-last : (n i k : ℕ) → is_last n i k ≡ true → row_wire n i k ≡ Share i
row_wire-last n i k e = cond-true (is_last n i k) (Share i) (Partial i k) e

-- what holds of the output share and of an inner column holds of the wire
row_wire-is : (P : Wire → Type 0) (n i k : ℕ) → i < n → k < n → i ≢ k → P (Share i) → (IsInnerColumn n i k → P (Partial i k)) →
    P (row_wire n i k)
row_wire-is P n i k hi hk ne last inner = go (is_last n i k) refl
  where
    go : (b : Bool) → is_last n i k ≡ b → P (row_wire n i k)
    go true e = subst P (sym (row_wire-last n i k e)) last
    go false e = subst P (sym (row_wire-inner n i k e)) (inner (hi, hk, ne, e))

-- each row of two shares or more has a last column, which is another one
has_last : (n i : ℕ) → 2 ≤ n → i < n → (k : ℕ) × (k < n) × (i ≢ k) × (is_last n i k ≡ true)
has_last n i two hi =
    elim (cases_eq (suc i) n) [
      | inl e ↦ (
        pred (pred n),
        omega arith,
        omega arith,
        or_right (suc (pred (pred n)) == n) _ (and_from _ _ (eq-eqb (suc i) n e) (eq-eqb _ _ (omega arith))),
      )
      | inr ne ↦ (pred n, omega arith, omega arith, or_left _ _ (eq-eqb (suc (pred n)) n (omega arith)))
    ]

-- SHARES

-- each name in the list has its shape, and each shape is in the list
share_forward : (n : ℕ) (w : Wire) → Contains (share_names n) w → IsShareName n w
share_forward n w h = let r = each_place Share n w h in subst (IsShareName n) r.2 r.1

share_backward : (n : ℕ) (w : Wire) → IsShareName n w → Contains (share_names n) w
share_backward n (Share i) h = Contains-each Share n i h
share_backward n (Product i j) h = absurd h
share_backward n (Fresh i j) h = absurd h
share_backward n (Left i j) h = absurd h
share_backward n (Right i j) h = absurd h
share_backward n (Partial i k) h = absurd h

-- PRODUCTS

-- the parts of the list of names: all a_i · b_j ..
unfoldable pub products : ℕ → List Wire
products n = joined (λ i. each (Product i) n) n

-- .. the three wires of each pair ..
unfoldable pub of_pair : Pair → List Wire
of_pair p = Fresh p.0 p.1 ∷ Left p.0 p.1 ∷ Right p.0 p.1 ∷ []

-- .. and the rows
unfoldable pub rows : ℕ → List Wire
rows n = joined (λ i. each (λ m. row_wire n i (other i m)) (pred n)) n

-- each name in a part of the list has its shape ..
products_forward : (n : ℕ) (w : Wire) → Contains (products n) w → IsProductName n w
unfolding products
products_forward n w h =
    let r = joined_piece (λ i. each (Product i) n) n w h in
    let c = each_place (Product r.0) n w r.2 in
    subst (IsProductName n) c.2 (r.1, c.1)

pair_wires_forward : (n : ℕ) (w : Wire) → Contains (flat_map of_pair (pairs n)) w → IsProductName n w
unfolding of_pair
pair_wires_forward n w h =
    let r = flat_map_piece of_pair (pairs n) w h in
    let is : IsPair n r.0.0 r.0.1 = pairs_below n r.0 r.1 in
    holds_of_three (IsProductName n) (Fresh r.0.0 r.0.1) (Left r.0.0 r.0.1) (Right r.0.0 r.0.1) w is is is r.2

rows_forward : (n : ℕ) (w : Wire) → Contains (rows n) w → IsProductName n w
unfolding rows
rows_forward n w h =
    let r = joined_piece (λ i. each (λ m. row_wire n i (other i m)) (pred n)) n w h in
    let i : ℕ = r.0 in
    let c = each_place (λ m. row_wire n i (other i m)) (pred n) w r.2 in
    subst (IsProductName n) c.2
    (row_wire-is (IsProductName n) n i (other i c.0) r.1 (other-below n i c.0 r.1 c.1) (other-apart i c.0) r.1 (λ is. is))

product_forward : (n : ℕ) (w : Wire) → Contains (product_names n) w → IsProductName n w
unfolding products of_pair rows
product_forward n w h =
    elim (Contains-append_cases (products n ++ flat_map of_pair (pairs n)) (rows n) w h) [
      | inl front ↦ elim (Contains-append_cases (products n) (flat_map of_pair (pairs n)) w front) [
        | inl in_products ↦ products_forward n w in_products
        | inr in_pairs ↦ pair_wires_forward n w in_pairs
      ]
      | inr in_rows ↦ rows_forward n w in_rows
    ]

-- .. each part is in the list ..
product_at : (n : ℕ) (w : Wire) → Contains (products n) w → Contains (product_names n) w
unfolding products of_pair rows
product_at n w h =
    Contains-append_left (products n ++ flat_map of_pair (pairs n)) (rows n) w
    (Contains-append_left (products n) (flat_map of_pair (pairs n)) w h)

pair_wire_at : (n i j : ℕ) (w : Wire) → IsPair n i j → Contains (of_pair (i, j)) w → Contains (product_names n) w
unfolding products of_pair rows
pair_wire_at n i j w is h =
    Contains-append_left (products n ++ flat_map of_pair (pairs n)) (rows n) w
    (Contains-append_right (products n) (flat_map of_pair (pairs n)) w (Contains-flat_map of_pair (pairs n) (i, j) w (Contains-pairs n i j is) h))

row_at : (n i k : ℕ) → i < n → k < n → i ≢ k → Contains (product_names n) (row_wire n i k)
unfolding products of_pair rows
row_at n i k hi hk ne =
    let m = other_at n i k hi hk ne in
    Contains-append_right (products n ++ flat_map of_pair (pairs n)) (rows n) (row_wire n i k)
    (Contains-joined (λ i. each (λ m. row_wire n i (other i m)) (pred n)) n i (row_wire n i k) hi
    (subst (λ (c : ℕ). Contains (each (λ m. row_wire n i (other i m)) (pred n)) (row_wire n i c)) m.2
    (Contains-each (λ m. row_wire n i (other i m)) (pred n) m.0 m.1)))

-- .. and so each shape is
product_backward : (n : ℕ) (w : Wire) → 2 ≤ n → IsProductName n w → Contains (product_names n) w
unfolding products of_pair
product_backward n (Share i) two h =
    let k = has_last n i two h in subst (Contains (product_names n)) (row_wire-last n i k.0 k.3) (row_at n i k.0 h k.1 k.2)
product_backward n (Product i j) two h = product_at n (Product i j)
    (Contains-joined (λ i. each (Product i) n) n i (Product i j) h.0 (Contains-each (Product i) n j h.1))
product_backward n (Fresh i j) two h = pair_wire_at n i j (Fresh i j) h (first_of_three (Fresh i j) (Left i j) (Right i j))
product_backward n (Left i j) two h = pair_wire_at n i j (Left i j) h (second_of_three (Fresh i j) (Left i j) (Right i j))
product_backward n (Right i j) two h = pair_wire_at n i j (Right i j) h (third_of_three (Fresh i j) (Left i j) (Right i j))
product_backward n (Partial i k) two h =
    subst (Contains (product_names n)) (row_wire-inner n i k h.3) (row_at n i k h.0 h.1 h.2)

-- REFRESHES

-- the three wires of each pair
unfoldable pub updates : ℕ → Pair → List Wire
updates n p = Fresh p.0 p.1 ∷ row_wire n p.0 p.1 ∷ row_wire n p.1 p.0 ∷ []

-- each name in the list has its shape ..
refresh_forward : (n : ℕ) (w : Wire) → Contains (refresh_names n) w → IsRefreshName n w
unfolding updates
refresh_forward n w h =
    let r = flat_map_piece (updates n) (pairs n) w h in
    let i : ℕ = r.0.0 in
    let j : ℕ = r.0.1 in
    let is : IsPair n i j = pairs_below n r.0 r.1 in
    let low : i < n = omega (arith, is.0, is.1) in
    let apart : i ≢ j = omega (arith, is.0) in
    let apart' : j ≢ i = omega (arith, is.0) in
    holds_of_three (IsRefreshName n) (Fresh i j) (row_wire n i j) (row_wire n j i) w is
    (row_wire-is (IsRefreshName n) n i j low is.1 apart low (λ inner. inner))
    (row_wire-is (IsRefreshName n) n j i is.1 low apart' is.1 (λ inner. inner)) r.2

-- .. the wires of each pair are in the list, so each update of a share is ..
update_at : (n i j : ℕ) (w : Wire) → IsPair n i j → Contains (updates n (i, j)) w → Contains (refresh_names n) w
unfolding updates
update_at n i j w is h = Contains-flat_map (updates n) (pairs n) (i, j) w (Contains-pairs n i j is) h

update_of : (n i k : ℕ) → i < n → k < n → i ≢ k → Contains (refresh_names n) (row_wire n i k)
unfolding updates
update_of n i k hi hk ne =
    elim (cases_lt i k) [
      | inl l ↦ update_at n i k (row_wire n i k) (l, hk) (second_of_three (Fresh i k) (row_wire n i k) (row_wire n k i))
      | inr g ↦ update_at n k i (row_wire n i k) (omega arith, hi) (third_of_three (Fresh k i) (row_wire n k i) (row_wire n i k))
    ]

-- .. and so each shape is
refresh_backward : (n : ℕ) (w : Wire) → 2 ≤ n → IsRefreshName n w → Contains (refresh_names n) w
unfolding updates
refresh_backward n (Share i) two h =
    let k = has_last n i two h in subst (Contains (refresh_names n)) (row_wire-last n i k.0 k.3) (update_of n i k.0 h k.1 k.2)
refresh_backward n (Product i j) two h = absurd h
refresh_backward n (Fresh i j) two h = update_at n i j (Fresh i j) h (first_of_three (Fresh i j) (row_wire n i j) (row_wire n j i))
refresh_backward n (Left i j) two h = absurd h
refresh_backward n (Right i j) two h = absurd h
refresh_backward n (Partial i k) two h =
    subst (Contains (refresh_names n)) (row_wire-inner n i k h.3) (update_of n i k h.0 h.1 h.2)

-- ALL GATES

pub gate_names-by_shape : GateHasNames
gate_names-by_shape N Zero w two = (share_forward N w, share_backward N w)
gate_names-by_shape N One w two = (share_forward N w, share_backward N w)
gate_names-by_shape N (Xor u v) w two = (share_forward N w, share_backward N w)
gate_names-by_shape N (Not u) w two = (share_forward N w, share_backward N w)
gate_names-by_shape N (And u v) w two = (product_forward N w, product_backward N w two)
gate_names-by_shape N (Ref u) w two = (refresh_forward N w, refresh_backward N w two)

-- a name is the same as itself
pub same_wire_self : (w : Wire) → same_wire w w ≡ true
same_wire_self (Share i) = eq-eqb i i refl
same_wire_self (Product i j) = and_from (i == i) (j == j) (eq-eqb i i refl) (eq-eqb j j refl)
same_wire_self (Fresh i j) = and_from (i == i) (j == j) (eq-eqb i i refl) (eq-eqb j j refl)
same_wire_self (Left i j) = and_from (i == i) (j == j) (eq-eqb i i refl) (eq-eqb j j refl)
same_wire_self (Right i j) = and_from (i == i) (j == j) (eq-eqb i i refl) (eq-eqb j j refl)
same_wire_self (Partial i j) = and_from (i == i) (j == j) (eq-eqb i i refl) (eq-eqb j j refl)
