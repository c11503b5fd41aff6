-- Each probe on a gate demands one share of each operand at most.
use Rattle.std.proofs.Common.{◌≡◌, ℕ, ◌≤◌, inl, inr, Bool, true, false, cond, not, ◌&&◌, ◌||◌, ◌==◌, List, length, sym, arith, eqb-true}
use Rattle.std.specs.List.{list_any}
use Rattle.std.proofs.lemmas.Bool.{or_cases, and_parts}
use Rattle.mask_circuit.specs.declared.gates.Wire.{Wire}
use Rattle.mask_circuit.specs.declared.gates.Wire.TheVariants.{Share, Product, Fresh, Left, Right, Partial}
use Rattle.mask_circuit.specs.Probing.{size}
use Rattle.mask_circuit.specs.Need.{ShareSet, is_of_row, product_rows, demands_left, demands_right, left_need, right_need, is_update_of}
use Rattle.mask_laws.specs.Needs.{NeedsAreSmall}
use Rattle.mask_laws.proofs.Sets.{size-mono, size-owned, list_any-or}

-- what one of two tests gives, each of which gives the same
either : {P : Type 0} (x y : Bool) → (x ≡ true → P) → (y ≡ true → P) → (x || y) ≡ true → P
either x y f g h = elim (or_cases x y h) [ inl e ↦ f e | inr e ↦ g e ]

-- the row that a wire of a product belongs to, if there is one
unfoldable pub row_of : Wire → ℕ
row_of (Share k) = 0
row_of (Product k l) = k
row_of (Fresh k l) = k
row_of (Left k l) = 0
row_of (Right k l) = l
row_of (Partial k l) = k

pub row_is : (i : ℕ) (w : Wire) → is_of_row i w ≡ true → i ≡ row_of w
unfolding row_of
row_is i (Share k) h = cc
row_is i (Product k l) h = sym (eqb-true k i (and_parts (k == i) (l == i) h).0)
row_is i (Fresh k l) h = sym (eqb-true k i h)
row_is i (Left k l) h = cc
row_is i (Right k l) h = sym (eqb-true l i h)
row_is i (Partial k l) h = sym (eqb-true k i h)

-- the share of the first operand that a wire of a product demands, if there is one
pub left_owner : (i : ℕ) (w : Wire) → (is_of_row i w || demands_left i w) ≡ true → i ≡ row_of w
unfolding row_of
left_owner i (Share k) h = cc
left_owner i (Product k l) h = either (k == i && l == i) (k == i) (λ e. row_is i (Product k l) e) (λ e. sym (eqb-true k i e)) h
left_owner i (Fresh k l) h = either (k == i) false (λ e. sym (eqb-true k i e)) (λ e. cc) h
left_owner i (Left k l) h = cc
left_owner i (Right k l) h = either (l == i) false (λ e. sym (eqb-true l i e)) (λ e. cc) h
left_owner i (Partial k l) h = either (k == i) false (λ e. sym (eqb-true k i e)) (λ e. cc) h

-- the share of the second one, where T has the touched rows
pub right_of : ShareSet → Wire → ℕ
right_of T (Share k) = 0
right_of T (Product k l) = l
right_of T (Fresh k l) = k
right_of T (Left k l) = cond (T k) l k
right_of T (Right k l) = l
right_of T (Partial k l) = k

pub right_owner : (T : ShareSet) (i : ℕ) (w : Wire) → (is_of_row i w || demands_right T i w) ≡ true → i ≡ right_of T w
unfolding right_of
right_owner T i (Share k) h = cc
right_owner T i (Product k l) h = either (k == i && l == i) (l == i)
    (λ e. sym (eqb-true l i (and_parts (k == i) (l == i) e).1)) (λ e. sym (eqb-true l i e)) h
right_owner T i (Fresh k l) h = either (k == i) false (λ e. sym (eqb-true k i e)) (λ e. cc) h
right_owner T i (Left k l) h = one_row (T k) (T l) (l == i) (k == i) (λ e. sym (eqb-true l i e)) (λ e. sym (eqb-true k i e)) h
  where
    one_row : (t u x y : Bool) → (x ≡ true → i ≡ l) → (y ≡ true → i ≡ k) → ((t && not u && x) || (u && not t && y)) ≡ true → i ≡ cond t l k
    one_row true false x y f g h = either x false f (λ e. cc) h
    one_row true true x y f g h = cc
    one_row false true x y f g h = g h
    one_row false false x y f g h = cc
right_owner T i (Right k l) h = either (l == i) false (λ e. sym (eqb-true l i e)) (λ e. cc) h
right_owner T i (Partial k l) h = either (k == i) false (λ e. sym (eqb-true k i e)) (λ e. cc) h

pub update_is : (i : ℕ) (w : Wire) → is_update_of i w ≡ true → i ≡ row_of w
unfolding row_of
update_is i (Share k) h = cc
update_is i (Product k l) h = cc
update_is i (Fresh k l) h = cc
update_is i (Left k l) h = cc
update_is i (Right k l) h = cc
update_is i (Partial k l) h = sym (eqb-true k i h)

size-left_need : (N : ℕ) (Q : List Wire) → size N (left_need Q) ≤ length Q
size-left_need N Q =
    let one_test = size-mono N (left_need Q) (λ i. list_any (λ w. is_of_row i w || demands_left i w) Q)
    (λ i lt h. rw (← (list_any-or (is_of_row i) (demands_left i) Q)) h) in
    let few = size-owned N (λ i w. is_of_row i w || demands_left i w) row_of Q left_owner in omega arith

size-right_need : (N : ℕ) (Q : List Wire) → size N (right_need Q) ≤ length Q
size-right_need N Q =
    let one_test = size-mono N (right_need Q) (λ i. list_any (λ w. is_of_row i w || demands_right (product_rows Q) i w) Q)
    (λ i lt h. rw (← (list_any-or (is_of_row i) (demands_right (product_rows Q) i) Q)) h) in
    let few = size-owned N (λ i w. is_of_row i w || demands_right (product_rows Q) i w) (right_of (product_rows Q)) Q (right_owner (product_rows Q)) in
    omega arith

pub needs_are_small : NeedsAreSmall
needs_are_small N Q = (size-left_need N Q, size-right_need N Q, size-owned N is_update_of row_of Q update_is)
