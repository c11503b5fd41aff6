-- Which input shares suffice for a list of probes: the backward rule from probes to the inputs.
use Rattle.std.specs.Prelude.{ℕ, suc, Bool, true, false, cond, not, ◌&&◌, ◌||◌, ◌==◌, List, [], ◌∷◌, map, slice_index_or, Some, None}
use Rattle.std.specs.List.{list_any, filter_map}
use Rattle.mask_circuit.specs.declared.gates.Gate.{Gate}
use Rattle.mask_circuit.specs.declared.gates.Gate.TheVariants.{Zero, One, Xor, Not, And, Ref}
use Rattle.mask_circuit.specs.Netlist.{Netlist}
use Rattle.mask_circuit.specs.declared.gates.Wire.{Wire}
use Rattle.mask_circuit.specs.declared.gates.Wire.TheVariants.{Share, Product, Fresh, Left, Right, Partial}
use Rattle.mask_circuit.specs.Expansion.{CircuitWire, names}
use Rattle.mask_circuit.specs.Probing.{ShareSets, same_wire}

-- A set of shares of one value.
abbrev pub ShareSet : Type 0
ShareSet = ℕ → Bool

-- whether a name is that of an output share
abbrev pub is_share : Wire → Bool
is_share (Share i) = true
is_share (Product i j) = false
is_share (Fresh i j) = false
is_share (Left i j) = false
is_share (Right i j) = false
is_share (Partial i k) = false

-- the probes on wires of value n that are no output shares: its inner probes
abbrev pub inner_probes : ℕ → List CircuitWire → List Wire
inner_probes n P = filter_map (λ p. cond (p.0 == n && not (is_share p.1)) (Some p.1) None) P

-- the output shares of value v that are probed
abbrev pub probed_shares : List CircuitWire → ℕ → ShareSet
probed_shares P v i = list_any (λ p. p.0 == v && same_wire (Share i) p.1) P

-- whether a wire of a product is a_i · b_i, some r_ij, or a partial sum of row i that isn't its last
abbrev pub is_of_row : ℕ → Wire → Bool
is_of_row i (Share k) = false
is_of_row i (Product k l) = k == i && l == i
is_of_row i (Fresh k l) = k == i
is_of_row i (Left k l) = false
is_of_row i (Right k l) = l == i
is_of_row i (Partial k l) = k == i

-- the rows of a product that the inner probes Q touch
abbrev pub product_rows : List Wire → ShareSet
product_rows Q i = list_any (is_of_row i) Q

-- whether a probe on this wire demands share i of the first operand: a_i · b_j does
abbrev pub demands_left : ℕ → Wire → Bool
demands_left i (Share k) = false
demands_left i (Product k l) = k == i
demands_left i (Fresh k l) = false
demands_left i (Left k l) = false
demands_left i (Right k l) = false
demands_left i (Partial k l) = false

-- whether a probe on this wire demands share i of the second operand, where T has the touched rows: a_j · b_i does, and
-- v_jk where just one of j and k is in T and i is the other one
abbrev pub demands_right : ShareSet → ℕ → Wire → Bool
demands_right T i (Share k) = false
demands_right T i (Product k l) = l == i
demands_right T i (Fresh k l) = false
demands_right T i (Left k l) = (T k && not (T l) && l == i) || (T l && not (T k) && k == i)
demands_right T i (Right k l) = false
demands_right T i (Partial k l) = false

-- the shares of the first operand of a product that the inner probes Q demand
abbrev pub left_need : List Wire → ShareSet
left_need Q i = product_rows Q i || list_any (demands_left i) Q

-- the shares of the second operand
abbrev pub right_need : List Wire → ShareSet
right_need Q i = product_rows Q i || list_any (demands_right (product_rows Q) i) Q

-- whether a wire of a refresh is an update of share i; a probe on a fresh bit demands nothing
abbrev pub is_update_of : ℕ → Wire → Bool
is_update_of i (Share k) = false
is_update_of i (Product k l) = false
is_update_of i (Fresh k l) = false
is_update_of i (Left k l) = false
is_update_of i (Right k l) = false
is_update_of i (Partial k l) = k == i

-- the shares of a refresh's operand that the inner probes Q demand
abbrev pub refresh_need : List Wire → ShareSet
refresh_need Q i = list_any (is_update_of i) Q

-- the shares of value v that a gate demands, where Q are its inner probes and O the demanded shares of its own value
abbrev pub demand : Gate → List Wire → ShareSet → ShareSets
demand Zero Q O v i = false
demand One Q O v i = false
demand (Xor u w) Q O v i = (v == u || v == w) && O i
demand (Not u) Q O v i = v == u && O i
demand (And u w) Q O v i = (v == u && left_need Q i) || (v == w && right_need Q i)
demand (Ref u) Q O v i = v == u && refresh_need Q i

-- the demanded shares of each value, from the last of these gates back to the first, which makes value n
abbrev pub need_from : List CircuitWire → List Gate → ℕ → ShareSets
need_from P [] n v i = probed_shares P v i
need_from P (g ∷ gs) n v i =
    need_from P gs (suc n) v i || demand g (inner_probes n P) (need_from P gs (suc n) n) v i

-- the wires of these numbers
abbrev pub probes_at : Netlist → ℕ → List ℕ → List CircuitWire
probes_at c N P = map (λ p. slice_index_or (names c N) p (0, Share 0)) P

-- The need of the probes P: for each input the shares that are demanded in the end.
abbrev pub need : Netlist → ℕ → List ℕ → ShareSets
need c N P v i = need_from (probes_at c N P) c.gates c.inputs v i
