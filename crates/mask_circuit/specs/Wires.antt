-- The wires and output shares of each gate on n shares: the product of Ishai, Sahai and Wagner (2003), the refresh that
-- adds a fresh bit to each pair of shares (Barthe and others 2016), and the gates that act share by share.
--
-- Shares are numbered from 0. In X, bits or words, + is `add` and · is `mul`.
use Rattle.std.specs.Prelude.{ℕ, zero, suc, pred, ◌+◌, ◌-◌, Bool, cond, ◌&&◌, ◌||◌, ◌==◌, nat_lt, List, [], ◌∷◌, ◌++◌, map, length}
use Rattle.std.specs.List.{flat_map}
use Rattle.mask_circuit.specs.declared.gates.Gate.{Gate}
use Rattle.mask_circuit.specs.declared.gates.Gate.TheVariants.{Zero, One, Xor, Not, And, Ref}
use Rattle.mask_circuit.specs.Ring.{Ring}
use Rattle.mask_circuit.specs.declared.gates.Wire.{Wire}
use Rattle.mask_circuit.specs.declared.gates.Wire.TheVariants.{Share, Product, Fresh, Left, Right, Partial}

-- f 0, f 1, .., f (n - 1)
abbrev pub each : {A : Type 0} → (ℕ → A) → ℕ → List A
each f zero = []
each f (suc n) = each f n ++ f n ∷ []

-- the lists f 0, f 1, .., f (n - 1) end to end
abbrev pub joined : {A : Type 0} → (ℕ → List A) → ℕ → List A
joined f zero = []
joined f (suc n) = joined f n ++ f n

-- A pair of different shares, the lower one first.
abbrev pub Pair : Type 0
Pair = ℕ × ℕ

-- the pairs of row i: (i, i + 1), .., (i, n - 1)
abbrev pub row_pairs : ℕ → ℕ → List Pair
row_pairs n i = each (λ m. (i, suc i + m)) (n - suc i)

-- all pairs of n shares: (0, 1), (0, 2), .., (0, n - 1), (1, 2), ..
abbrev pub pairs : ℕ → List Pair
pairs n = joined (row_pairs n) n

-- the partner number m of share i, counted from 0: all shares but i, rising
abbrev pub other : ℕ → ℕ → ℕ
other i m = cond (nat_lt m i) m (suc m)

-- whether k is the last partner of share i among n shares
abbrev pub is_last : ℕ → ℕ → ℕ → Bool
is_last n i k = (suc k == n) || (suc i == n && suc (suc k) == n)

-- the wire of row i up to column k: the last one of a row is output share i
abbrev pub row_wire : ℕ → ℕ → ℕ → Wire
row_wire n i k = cond (is_last n i k) (Share i) (Partial i k)

-- the wires of a gate that acts share by share
abbrev pub share_names : ℕ → List Wire
share_names n = each Share n

-- the wires of a product: all a_i · b_j, three for each pair, then the partial sums of each row
abbrev pub product_names : ℕ → List Wire
product_names n = joined (λ i. each (Product i) n) n
    ++ flat_map (λ p. Fresh p.0 p.1 ∷ Left p.0 p.1 ∷ Right p.0 p.1 ∷ []) (pairs n)
    ++ joined (λ i. each (λ m. row_wire n i (other i m)) (pred n)) n

-- the wires of a refresh: for each pair its fresh bit and the two shares after that bit was added
abbrev pub refresh_names : ℕ → List Wire
refresh_names n = flat_map (λ p. Fresh p.0 p.1 ∷ row_wire n p.0 p.1 ∷ row_wire n p.1 p.0 ∷ []) (pairs n)

-- the wires of a gate in order: the place of a name in this list is its local number
abbrev pub gate_names : ℕ → Gate → List Wire
gate_names n Zero = share_names n
gate_names n One = share_names n
gate_names n (Xor u v) = share_names n
gate_names n (Not u) = share_names n
gate_names n (And u v) = product_names n
gate_names n (Ref u) = refresh_names n

-- how many fresh bits a gate draws: one for each pair
abbrev pub gate_draws : ℕ → Gate → ℕ
gate_draws n Zero = 0
gate_draws n One = 0
gate_draws n (Xor u v) = 0
gate_draws n (Not u) = 0
gate_draws n (And u v) = length (pairs n)
gate_draws n (Ref u) = length (pairs n)

-- The shares of one value, and those of all values by value number.
abbrev pub Shares : Type 0 → Type 0
Shares X = ℕ → X

-- the fresh bit of the pair (i, j), where there is one for each pair in order
abbrev pub fresh_of : {X : Type 0} → Ring X → List Pair → List X → ℕ → ℕ → X
fresh_of R [] r i j = R.nought
fresh_of R (p ∷ ps) [] i j = R.nought
fresh_of R (p ∷ ps) (x ∷ r) i j = cond (p.0 == i && p.1 == j) x (fresh_of R ps r i j)

-- first plus the terms of the columns 0 to k, but for column i, one after another
abbrev pub row_sum : {X : Type 0} → Ring X → X → (ℕ → X) → ℕ → ℕ → X
row_sum R first term i zero = cond (i == 0) first (R.add first (term 0))
row_sum R first term i (suc k) = cond (i == suc k) (row_sum R first term i k) (R.add (row_sum R first term i k) (term (suc k)))

-- r_ij for two different shares i and j
abbrev pub cross : {X : Type 0} → Ring X → Shares X → Shares X → (ℕ → ℕ → X) → ℕ → ℕ → X
cross R a b r i j = cond (nat_lt i j) (r i j) (R.add (R.add (r j i) (R.mul (a j) (b i))) (R.mul (a i) (b j)))

-- what the wires of a product carry, where r i j is the fresh bit of the pair (i, j)
abbrev pub product_wire : {X : Type 0} → Ring X → ℕ → Shares X → Shares X → (ℕ → ℕ → X) → Wire → X
product_wire R n a b r (Share i) = row_sum R (R.mul (a i) (b i)) (cross R a b r i) i (pred n)
product_wire R n a b r (Product i j) = R.mul (a i) (b j)
product_wire R n a b r (Fresh i j) = r i j
product_wire R n a b r (Left i j) = R.add (r i j) (R.mul (a i) (b j))
product_wire R n a b r (Right i j) = R.add (R.add (r i j) (R.mul (a i) (b j))) (R.mul (a j) (b i))
product_wire R n a b r (Partial i k) = row_sum R (R.mul (a i) (b i)) (cross R a b r i) i k

-- the fresh bit of the pair of i and j, in either order
abbrev pub fresh_between : {X : Type 0} → (ℕ → ℕ → X) → ℕ → ℕ → X
fresh_between r i j = cond (nat_lt i j) (r i j) (r j i)

-- what the wires of a refresh carry; it has neither products nor the wires that mix them in
abbrev pub refresh_wire : {X : Type 0} → Ring X → ℕ → Shares X → (ℕ → ℕ → X) → Wire → X
refresh_wire R n a r (Share i) = row_sum R (a i) (fresh_between r i) i (pred n)
refresh_wire R n a r (Product i j) = R.nought
refresh_wire R n a r (Fresh i j) = r i j
refresh_wire R n a r (Left i j) = R.nought
refresh_wire R n a r (Right i j) = R.nought
refresh_wire R n a r (Partial i k) = row_sum R (a i) (fresh_between r i) i k

-- a gate that acts share by share has its output shares for wires, and no others
abbrev pub share_wire : {X : Type 0} → Ring X → Shares X → Wire → X
share_wire R s (Share i) = s i
share_wire R s (Product i j) = R.nought
share_wire R s (Fresh i j) = R.nought
share_wire R s (Left i j) = R.nought
share_wire R s (Right i j) = R.nought
share_wire R s (Partial i k) = R.nought

-- x on share 0
abbrev pub on_first : {X : Type 0} → Ring X → X → Shares X
on_first R x i = cond (i == 0) x R.nought

-- What the wires of a gate carry: s u i is share i of value u, and r has the gate's fresh bits.
abbrev pub gate_wire : {X : Type 0} → Ring X → ℕ → Gate → (ℕ → Shares X) → List X → Wire → X
gate_wire R n Zero s r = share_wire R (λ i. R.nought)
gate_wire R n One s r = share_wire R (on_first R R.unit)
gate_wire R n (Xor u v) s r = share_wire R (λ i. R.add (s u i) (s v i))
gate_wire R n (Not u) s r = share_wire R (λ i. cond (i == 0) (R.add (s u i) R.unit) (s u i))
gate_wire R n (And u v) s r = product_wire R n (s u) (s v) (fresh_of R (pairs n) r)
gate_wire R n (Ref u) s r = refresh_wire R n (s u) (fresh_of R (pairs n) r)

-- the wires of a gate by local number
abbrev pub gate_wires : {X : Type 0} → Ring X → ℕ → Gate → (ℕ → Shares X) → List X → List X
gate_wires R n g s r = map (gate_wire R n g s r) (gate_names n g)

-- its n output shares
abbrev pub gate_out : {X : Type 0} → Ring X → ℕ → Gate → (ℕ → Shares X) → List X → List X
gate_out R n g s r = map (gate_wire R n g s r) (share_names n)
