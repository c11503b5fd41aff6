-- The shift: how a tape for one side of inputs is turned into a tape for another side on which the probes see the same.
use Rattle.std.specs.Prelude.{ℕ, zero, suc, pred, Bool, false, cond, not, ◌&&◌, ◌==◌, nat_lt, List, [], ◌∷◌, ◌++◌, map, take, drop, Some, None}
use Rattle.std.specs.List.{list_any}
use Rattle.std.specs.declared.option.Option.{Option}
use Rattle.mask_circuit.specs.declared.gates.Gate.{Gate}
use Rattle.mask_circuit.specs.declared.gates.Gate.TheVariants.{Zero, One, Xor, Not, And, Ref}
use Rattle.mask_circuit.specs.Netlist.{Netlist}
use Rattle.mask_circuit.specs.Value.{xor}
use Rattle.mask_circuit.specs.Ring.{bits}
use Rattle.mask_circuit.specs.declared.gates.Wire.{Wire}
use Rattle.mask_circuit.specs.declared.gates.Wire.TheVariants.{Fresh, Left}
use Rattle.mask_circuit.specs.Wires.{Shares, pairs, row_sum, gate_draws, gate_wire}
use Rattle.mask_circuit.specs.Expansion.{CircuitWire, Carried, shares_of, put, start}
use Rattle.mask_circuit.specs.Probing.{same_wire}
use Rattle.mask_circuit.specs.Need.{ShareSet, inner_probes, product_rows, refresh_need, need_from, probes_at}

-- Two sides of an operand: its shares on the one and on the other.
pub record Sides : Type 0 where
  pub one : Shares Bool
  pub two : Shares Bool

-- how the term a_i · b_j differs between the sides
abbrev pub product_change : Sides → Sides → ℕ → ℕ → Bool
product_change a b i j = xor (a.one i && b.one j) (a.two i && b.two j)

abbrev pub is_probed : List Wire → Wire → Bool
is_probed Q w = list_any (same_wire w) Q

-- the wire between two shares that a flip may not touch: v of a product, the fresh bit of a refresh
abbrev pub wire_between : (ℕ → ℕ → Wire) → ℕ → ℕ → Wire
wire_between wire i k = cond (nat_lt i k) (wire i k) (wire k i)

-- the least number below n that passes
abbrev pub least : (ℕ → Bool) → ℕ → Option ℕ
least test zero = None
least test (suc n) = first_of (least test n) (cond (test n) (Some n) None)
  where
    first_of : Option ℕ → Option ℕ → Option ℕ
    first_of (Some k) other = Some k
    first_of None other = other

-- the partner of row i: the least row that isn't i, isn't in T or O, and whose wire with i isn't probed
abbrev pub partner : ℕ → (ℕ → ℕ → Wire) → List Wire → ShareSet → ShareSet → ℕ → Option ℕ
partner n wire Q T O i = least (λ k. not (k == i) && not (T k) && not (O k) && not (is_probed Q (wire_between wire i k))) n

abbrev pub is_some_of : Option ℕ → ℕ → Bool
is_some_of None k = false
is_some_of (Some j) k = j == k

-- a mask by pairs: base, where the bit of the pair of each row i that has a flip and of its partner is flipped
abbrev pub flipped : (ℕ → ℕ → Bool) → ShareSet → (ℕ → Option ℕ) → ℕ → ℕ → Bool
flipped base flips partner_of i j =
    xor (base i j) (xor (flips i && is_some_of (partner_of i) j) (flips j && is_some_of (partner_of j) i))

-- the mask of a product before any flip
abbrev pub product_base : List Wire → Sides → Sides → ℕ → ℕ → Bool
product_base Q a b i j =
    cond (product_rows Q i) false
    (cond (product_rows Q j) (xor (product_change a b i j) (product_change a b j i))
    (cond (is_probed Q (Left i j)) (product_change a b i j) false))

-- how r_ij differs between the sides, where the fresh bits differ by the mask
abbrev pub cross_change : Sides → Sides → (ℕ → ℕ → Bool) → ℕ → ℕ → Bool
cross_change a b mask i j =
    cond (nat_lt i j) (mask i j) (xor (xor (mask j i) (product_change a b j i)) (product_change a b i j))

-- how output share i of a product differs between the sides, where the fresh bits differ by the mask
abbrev pub share_change : ℕ → Sides → Sides → (ℕ → ℕ → Bool) → ℕ → Bool
share_change n a b mask i = row_sum bits (product_change a b i i) (cross_change a b mask i) i (pred n)

-- The mask of a product with inner probes Q and demanded output shares O: each demanded row outside T that would
-- change under the base has its bit with its partner flipped.
abbrev pub product_mask : ℕ → List Wire → ShareSet → Sides → Sides → ℕ → ℕ → Bool
product_mask n Q O a b =
    flipped (product_base Q a b)
    (λ i. O i && not (product_rows Q i) && share_change n a b (product_base Q a b) i)
    (partner n Left Q (product_rows Q) O)

-- The mask of a refresh: each demanded row outside T whose operand share changed has its bit with its partner flipped.
abbrev pub refresh_mask : ℕ → List Wire → ShareSet → Sides → ℕ → ℕ → Bool
refresh_mask n Q O a =
    flipped (λ i j. false)
    (λ i. O i && not (refresh_need Q i) && xor (a.one i) (a.two i))
    (partner n Fresh Q (refresh_need Q) O)

-- value u on the two sides
abbrev pub sides_of : (ℕ → Shares Bool) → (ℕ → Shares Bool) → ℕ → Sides
sides_of s s' u = record { one = s u; two = s' u }

-- the mask of a gate, one bit for each fresh bit that it draws; s and s' are the shares of earlier values on the sides
abbrev pub gate_mask : ℕ → Gate → List Wire → ShareSet → (ℕ → Shares Bool) → (ℕ → Shares Bool) → List Bool
gate_mask n Zero Q O s s' = []
gate_mask n One Q O s s' = []
gate_mask n (Xor u v) Q O s s' = []
gate_mask n (Not u) Q O s s' = []
gate_mask n (And u v) Q O s s' = map (λ p. product_mask n Q O (sides_of s s' u) (sides_of s s' v) p.0 p.1) (pairs n)
gate_mask n (Ref u) Q O s s' = map (λ p. refresh_mask n Q O (sides_of s s' u) p.0 p.1) (pairs n)

-- the XOR of two lists of bits, as long as the first
abbrev pub add_bits : List Bool → List Bool → List Bool
add_bits [] ms = []
add_bits (b ∷ bs) [] = b ∷ bs
add_bits (b ∷ bs) (m ∷ ms) = xor b m ∷ add_bits bs ms

-- Gate by gate forwards: t has the wires on the first side with the given tape r, t' those on the second side with the
-- new tape so far. The first of the gates makes value n. The new tape is as long as the given one.
abbrev pub shift_from : List CircuitWire → ℕ → List Gate → ℕ → Carried Bool → Carried Bool → List Bool → List Bool
shift_from P N [] n t t' r = r
shift_from P N (g ∷ gs) n t t' r =
    let old = take (gate_draws N g) r in
    let new = add_bits old (gate_mask N g (inner_probes n P) (need_from P gs (suc n) n) (shares_of t) (shares_of t')) in
    new ++ shift_from P N gs (suc n) (put n (gate_wire bits N g (shares_of t) old) t)
    (put n (gate_wire bits N g (shares_of t') new) t') (drop (gate_draws N g) r)

-- the tape for inputs y on which the probes P see what they see on inputs x with the tape r
abbrev pub shift : Netlist → ℕ → (ℕ → Shares Bool) → (ℕ → Shares Bool) → List ℕ → List Bool → List Bool
shift c N x y P r = shift_from (probes_at c N P) N c.gates c.inputs (start bits x) (start bits y) r
