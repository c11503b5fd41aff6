-- A gate on n shares reads the shares below n of its operands alone: where these are the same, so are its output shares
-- and, between two sides, its mask.
use Rattle.std.proofs.Common.{◌≡◌, ℕ, zero, suc, pred, ◌<◌, Bool, false, cond, not, ◌&&◌, ◌==◌, List, refl, ap, ap₂, arith}
use Rattle.mask_circuit.specs.declared.gates.Gate.{Gate}
use Rattle.mask_circuit.specs.declared.gates.Gate.TheVariants.{Zero, One, Xor, Not, And, Ref}
use Rattle.mask_circuit.specs.Netlist.{OperandsBelow}
use Rattle.mask_circuit.specs.Value.{xor}
use Rattle.mask_circuit.specs.Ring.{Ring, bits}
use Rattle.mask_circuit.specs.declared.gates.Wire.{Wire}
use Rattle.mask_circuit.specs.declared.gates.Wire.TheVariants.{Share, Fresh, Left}
use Rattle.mask_circuit.specs.Wires.{Shares, pairs, row_sum, fresh_of, fresh_between, cross, gate_wire}
use Rattle.mask_circuit.specs.Need.{ShareSet, product_rows, refresh_need}
use Rattle.mask_circuit.specs.Shift.{Sides, product_change, is_probed, wire_between, least, partner, product_base, cross_change, share_change, product_mask, refresh_mask, sides_of, gate_mask}
pub use Rattle.mask_laws.specs.Sharing.{SameShares}
use Rattle.mask_laws.proofs.Names.{pairs_below}
use Rattle.mask_laws.proofs.Sums.{row_sum-same}
use Rattle.mask_laws.proofs.Members.{map-same_in}

-- OUTPUT SHARES

module _ {X : Type 0} (R : Ring X) (n : ℕ) (a a' b b' : Shares X) (r : ℕ → ℕ → X) (left : (i : ℕ) → i < n → a i ≡ a' i) (right : (i : ℕ) → i < n → b i ≡ b' i) where
  cross-same : (i j : ℕ) → i < n → j < n → cross R a b r i j ≡ cross R a' b' r i j
  cross-same i j hi hj = rw (left i hi, left j hj, right i hi, right j hj) refl

  -- the sums of a product's rows
  pub row-same : (i k : ℕ) → i < n → k < n → row_sum R (R.mul (a i) (b i)) (cross R a b r i) i k ≡ row_sum R (R.mul (a' i) (b' i)) (cross R a' b' r i) i k
  row-same i k hi hk = row_sum-same R _ _ _ _ i k (rw (left i hi, right i hi) refl) (λ j le ne. cross-same i j hi (omega arith))

pub share-same : {X : Type 0} (R : Ring X) (N m : ℕ) (g : Gate) (s s' : ℕ → Shares X) (r : List X) (i : ℕ) → OperandsBelow m g → SameShares N m s s' → i < N →
    gate_wire R N g s r (Share i) ≡ gate_wire R N g s' r (Share i)
share-same R N m Zero s s' r i below same hi = refl
share-same R N m One s s' r i below same hi = refl
share-same R N m (Xor u v) s s' r i below same hi = ap₂ R.add (same u i below.0 hi) (same v i below.1 hi)
share-same {X} R N m (Not u) s s' r i below same hi = ap (λ (x : X). cond (i == 0) (R.add x R.unit) x) (same u i below hi)
share-same R N m (And u v) s s' r i below same hi =
    row-same R N (s u) (s' u) (s v) (s' v) (fresh_of R (pairs N) r) (λ k lt. same u k below.0 lt) (λ k lt. same v k below.1 lt) i (pred N) hi (omega arith)
share-same {X} R N m (Ref u) s s' r i below same hi =
    ap (λ (x : X). row_sum R x (fresh_between (fresh_of R (pairs N) r) i) i (pred N)) (same u i below hi)

-- on bits
pub gate_share-same : (N m : ℕ) (g : Gate) (s s' : ℕ → Shares Bool) (r : List Bool) (i : ℕ) → OperandsBelow m g → SameShares N m s s' → i < N →
    gate_wire bits N g s r (Share i) ≡ gate_wire bits N g s' r (Share i)
gate_share-same = share-same bits

-- MASKS

least-same : (test test' : ℕ → Bool) (n : ℕ) → ((k : ℕ) → k < n → test k ≡ test' k) → least test n ≡ least test' n
least-same test test' zero same = refl
least-same test test' (suc n) same = rw (least-same test test' n (λ k lt. same k (omega arith)), same n (omega arith)) refl

module _ (n : ℕ) (Q : List Wire) (O O' : ShareSet) (outputs : (i : ℕ) → i < n → O i ≡ O' i) where
  partner-same : (wire : ℕ → ℕ → Wire) (T : ShareSet) (i : ℕ) → partner n wire Q T O i ≡ partner n wire Q T O' i
  partner-same wire T i =
      least-same _ _ n
      (λ k lt. ap (λ (b : Bool). not (k == i) && not (T k) && not b && not (is_probed Q (wire_between wire i k))) (outputs k lt))

  module _ (a a' b b' : Sides) (changes : (i j : ℕ) → i < n → j < n → product_change a b i j ≡ product_change a' b' i j) where
    base-same : (i j : ℕ) → i < n → j < n → product_base Q a b i j ≡ product_base Q a' b' i j
    base-same i j hi hj =
        ap₂ (λ (x y : Bool). cond (product_rows Q i) false (cond (product_rows Q j) (xor x y) (cond (is_probed Q (Left i j)) x false)))
        (changes i j hi hj) (changes j i hj hi)

    cross_change-same : (i j : ℕ) → i < n → j < n → cross_change a b (product_base Q a b) i j ≡ cross_change a' b' (product_base Q a' b') i j
    cross_change-same i j hi hj = rw (base-same i j hi hj, base-same j i hj hi, changes i j hi hj, changes j i hj hi) refl

    share_change-same : (i : ℕ) → i < n → share_change n a b (product_base Q a b) i ≡ share_change n a' b' (product_base Q a' b') i
    share_change-same i hi =
        row_sum-same bits _ _ _ _ i (pred n) (changes i i hi hi) (λ j le ne. cross_change-same i j hi (omega arith))

    turned-same : (i : ℕ) → i < n →
        (O i && not (product_rows Q i) && share_change n a b (product_base Q a b) i)
        ≡ (O' i && not (product_rows Q i) && share_change n a' b' (product_base Q a' b') i)
    turned-same i hi = ap₂ (λ (o c : Bool). o && not (product_rows Q i) && c) (outputs i hi) (share_change-same i hi)

    product_mask-same : (i j : ℕ) → i < n → j < n → product_mask n Q O a b i j ≡ product_mask n Q O' a' b' i j
    product_mask-same i j hi hj =
        rw (
          base-same i j hi hj,
          turned-same i hi,
          turned-same j hj,
          partner-same Left (product_rows Q) i,
          partner-same Left (product_rows Q) j,
        ) refl

  module _ (a a' : Sides) (changes : (i : ℕ) → i < n → xor (a.one i) (a.two i) ≡ xor (a'.one i) (a'.two i)) where
    refreshed-same : (i : ℕ) → i < n →
        (O i && not (refresh_need Q i) && xor (a.one i) (a.two i)) ≡ (O' i && not (refresh_need Q i) && xor (a'.one i) (a'.two i))
    refreshed-same i hi = ap₂ (λ (o c : Bool). o && not (refresh_need Q i) && c) (outputs i hi) (changes i hi)

    refresh_mask-same : (i j : ℕ) → i < n → j < n → refresh_mask n Q O a i j ≡ refresh_mask n Q O' a' i j
    refresh_mask-same i j hi hj =
        rw (
          refreshed-same i hi,
          refreshed-same j hj,
          partner-same Fresh (refresh_need Q) i,
          partner-same Fresh (refresh_need Q) j,
        ) refl

pub gate_mask-same : (N m : ℕ) (g : Gate) (Q : List Wire) (O O' : ShareSet) (s s' z z' : ℕ → Shares Bool) → OperandsBelow m g →
    ((i : ℕ) → i < N → O i ≡ O' i) → SameShares N m s s' → SameShares N m z z' → gate_mask N g Q O s z ≡ gate_mask N g Q O' s' z'
gate_mask-same N m Zero Q O O' s s' z z' below outputs one two = refl
gate_mask-same N m One Q O O' s s' z z' below outputs one two = refl
gate_mask-same N m (Xor u v) Q O O' s s' z z' below outputs one two = refl
gate_mask-same N m (Not u) Q O O' s s' z z' below outputs one two = refl
gate_mask-same N m (And u v) Q O O' s s' z z' below outputs one two =
    map-same_in _ _ (pairs N)
    (λ p h. let is = pairs_below N p h in
    product_mask-same N Q O O' outputs (sides_of s z u) (sides_of s' z' u) (sides_of s z v) (sides_of s' z' v)
    (λ i j hi hj. rw (one u i below.0 hi, one v j below.1 hj, two u i below.0 hi, two v j below.1 hj) refl)
    p.0 p.1 (omega (arith, is.0, is.1)) is.1)
gate_mask-same N m (Ref u) Q O O' s s' z z' below outputs one two =
    map-same_in _ _ (pairs N)
    (λ p h. let is = pairs_below N p h in
    refresh_mask-same N Q O O' outputs (sides_of s z u) (sides_of s' z' u) (λ i hi. ap₂ xor (one u i below hi) (two u i below hi))
    p.0 p.1 (omega (arith, is.0, is.1)) is.1)
