-- A gate on n shares reads no share from n on: operands that agree below n give the same wires and output shares. With it a
-- caller goes from lists of shares to whatever numbers the shares of its values.
use Rattle.std.proofs.Common.{◌≡◌, ℕ, pred, ◌<◌, ◌≤◌, map, refl, ap, arith}
use Rattle.mask_circuit.specs.Ring.{Ring}
use Rattle.mask_circuit.specs.declared.gates.Gate.TheVariants.{Zero, And, Ref}
use Rattle.mask_circuit.specs.declared.gates.Wire.{Wire}
use Rattle.mask_circuit.specs.declared.gates.Wire.TheVariants.{Share, Product, Fresh, Left, Right, Partial}
use Rattle.mask_circuit.specs.Wires.{Shares, row_sum, product_wire, product_names, fresh_between, refresh_wire, refresh_names, share_names}
use Rattle.mask_laws.specs.Names.{IsProductName, IsRefreshName, IsShareName}
use Rattle.mask_laws.proofs.Names.{gate_names-by_shape}
use Rattle.mask_laws.proofs.Operands.{row-same}
use Rattle.mask_laws.proofs.Members.{map-same_in}

-- an output share is a wire of a product, and of a refresh
product_share : (n : ℕ) (w : Wire) → IsShareName n w → IsProductName n w
product_share n (Share i) is = is
product_share n (Product i j) is = absurd is
product_share n (Fresh i j) is = absurd is
product_share n (Left i j) is = absurd is
product_share n (Right i j) is = absurd is
product_share n (Partial i k) is = absurd is

refresh_share : (n : ℕ) (w : Wire) → IsShareName n w → IsRefreshName n w
refresh_share n (Share i) is = is
refresh_share n (Product i j) is = absurd is
refresh_share n (Fresh i j) is = absurd is
refresh_share n (Left i j) is = absurd is
refresh_share n (Right i j) is = absurd is
refresh_share n (Partial i k) is = absurd is

module _ {X : Type 0} (R : Ring X) (n : ℕ) (r : ℕ → ℕ → X) where
  module _ (a a' b b' : Shares X) (left : (i : ℕ) → i < n → a i ≡ a' i) (right : (i : ℕ) → i < n → b i ≡ b' i) where
    term-same : (i j : ℕ) → i < n → j < n → R.mul (a i) (b j) ≡ R.mul (a' i) (b' j)
    term-same i j hi hj = rw (left i hi, right j hj) refl

    right-same : (i j : ℕ) → i < n → j < n →
        R.add (R.add (r i j) (R.mul (a i) (b j))) (R.mul (a j) (b i)) ≡ R.add (R.add (r i j) (R.mul (a' i) (b' j))) (R.mul (a' j) (b' i))
    right-same i j hi hj = rw (term-same i j hi hj, term-same j i hj hi) refl

    wire-same : (w : Wire) → IsProductName n w → product_wire R n a b r w ≡ product_wire R n a' b' r w
    wire-same (Share i) is = row-same R n a a' b b' r left right i (pred n) is (omega arith)
    wire-same (Product i j) is = term-same i j is.0 is.1
    wire-same (Fresh i j) is = refl
    wire-same (Left i j) is = ap (R.add (r i j)) (term-same i j (omega (arith, is.0, is.1)) is.1)
    wire-same (Right i j) is = right-same i j (omega (arith, is.0, is.1)) is.1
    wire-same (Partial i k) is = row-same R n a a' b b' r left right i k is.0 is.1

    pub product_wires-agree : 2 ≤ n → map (product_wire R n a b r) (product_names n) ≡ map (product_wire R n a' b' r) (product_names n)
    product_wires-agree two = map-same_in _ _ (product_names n) (λ w h. let shape = gate_names-by_shape n (And 0 0) w two in wire-same w (shape.0 h))

    pub product_out-agree : 2 ≤ n → map (product_wire R n a b r) (share_names n) ≡ map (product_wire R n a' b' r) (share_names n)
    product_out-agree two =
        map-same_in _ _ (share_names n) (λ w h. let shape = gate_names-by_shape n Zero w two in wire-same w (product_share n w (shape.0 h)))

  module _ (a a' : Shares X) (same : (i : ℕ) → i < n → a i ≡ a' i) where
    update-same : (i k : ℕ) → i < n → row_sum R (a i) (fresh_between r i) i k ≡ row_sum R (a' i) (fresh_between r i) i k
    update-same i k hi = ap (λ x. row_sum R x (fresh_between r i) i k) (same i hi)

    refresh-same : (w : Wire) → IsRefreshName n w → refresh_wire R n a r w ≡ refresh_wire R n a' r w
    refresh-same (Share i) is = update-same i (pred n) is
    refresh-same (Product i j) is = refl
    refresh-same (Fresh i j) is = refl
    refresh-same (Left i j) is = refl
    refresh-same (Right i j) is = refl
    refresh-same (Partial i k) is = update-same i k is.0

    pub refresh_wires-agree : 2 ≤ n → map (refresh_wire R n a r) (refresh_names n) ≡ map (refresh_wire R n a' r) (refresh_names n)
    refresh_wires-agree two = map-same_in _ _ (refresh_names n) (λ w h. let shape = gate_names-by_shape n (Ref 0) w two in refresh-same w (shape.0 h))

    pub refresh_out-agree : 2 ≤ n → map (refresh_wire R n a r) (share_names n) ≡ map (refresh_wire R n a' r) (share_names n)
    refresh_out-agree two =
        map-same_in _ _ (share_names n) (λ w h. let shape = gate_names-by_shape n Zero w two in refresh-same w (refresh_share n w (shape.0 h)))
