-- Which circuits are accepted: this project's own rule on paths of gates, which the laws show to give non-interference.
use Rattle.std.specs.Prelude.{◌≡◌, ◌≢◌, ℕ, ◌-◌, ◌<◌, ◌≤◌, ◌⊎◌, cond, nat_lt, length, slice_get, slice_index, Some, None}
use Rattle.std.specs.declared.option.Option.{Option}
use Rattle.mask_circuit.specs.declared.gates.Gate.{Gate}
use Rattle.mask_circuit.specs.declared.gates.Gate.TheVariants.{Zero, One, Xor, Not, And, Ref}
use Rattle.mask_circuit.specs.Netlist.{Netlist}

-- the gate that makes value v; inputs have none
abbrev pub gate_at : Netlist → ℕ → Option Gate
gate_at c v = cond (nat_lt v c.inputs) None (slice_get c.gates (v - c.inputs))

-- Value u reaches the source s: an input, a product or a refresh that is u itself, or from which u comes by xor and not
-- gates alone. Constants reach nothing.
pub data Reaches (c : Netlist) : ℕ → ℕ → Type 0 where
  Input : {s : ℕ} → s < c.inputs → Reaches c s s
  ProductHere : {s u v : ℕ} → gate_at c s ≡ Some (And u v) → Reaches c s s
  RefreshHere : {s u : ℕ} → gate_at c s ≡ Some (Ref u) → Reaches c s s
  FromLeft : {w u v s : ℕ} → gate_at c w ≡ Some (Xor u v) → Reaches c u s → Reaches c w s
  FromRight : {w u v s : ℕ} → gate_at c w ≡ Some (Xor u v) → Reaches c v s → Reaches c w s
  FromNegated : {w u s : ℕ} → gate_at c w ≡ Some (Not u) → Reaches c u s → Reaches c w s

-- value p is a product whose operands both reach s
pub record IsShared (c : Netlist) (p s : ℕ) : Type 0 where
  pub left : ℕ
  pub right : ℕ
  pub is_product : gate_at c p ≡ Some (And left right)
  pub left_reaches : Reaches c left s
  pub right_reaches : Reaches c right s

-- no product has operands that reach one source
abbrev pub IsAccepted : Netlist → Type 0
IsAccepted c = (p s : ℕ) → IsShared c p s → ⊥

-- p is the lowest product whose operands share a source, and s their lowest shared source
pub record IsClash (c : Netlist) (p s : ℕ) : Type 0 where
  pub shared : IsShared c p s
  pub lowest : (q t : ℕ) → IsShared c q t → (p < q) ⊎ ((p ≡ q) × (s ≤ t))

-- value u is an operand of the gate
abbrev pub Uses : ℕ → Option Gate → Type 0
Uses u None = ⊥
Uses u (Some Zero) = ⊥
Uses u (Some One) = ⊥
Uses u (Some (Xor v w)) = (u ≡ v) ⊎ (u ≡ w)
Uses u (Some (Not v)) = u ≡ v
Uses u (Some (And v w)) = (u ≡ v) ⊎ (u ≡ w)
Uses u (Some (Ref v)) = u ≡ v

-- the value in output place k
abbrev pub output_at : Netlist → ℕ → ℕ
output_at c k = slice_index c.outputs k

-- output k is a refresh that no gate uses and that stands at no earlier place
pub record IsFence (c : Netlist) (k : ℕ) : Type 0 where
  pub is_refresh : (u : ℕ) × (gate_at c (output_at c k) ≡ Some (Ref u))
  pub is_unused : (v : ℕ) → Uses (output_at c k) (gate_at c v) → ⊥
  pub is_first : (i : ℕ) → i < k → output_at c i ≢ output_at c k

-- the outputs are distinct refreshes that no gate uses
abbrev pub IsFenced : Netlist → Type 0
IsFenced c = (k : ℕ) → k < length c.outputs → IsFence c k

abbrev pub IsStrong : Netlist → Type 0
IsStrong c = IsAccepted c × IsFenced c

-- k is the lowest output place that is no fence
pub record IsGap (c : Netlist) (k : ℕ) : Type 0 where
  pub within : k < length c.outputs
  pub gap : IsFence c k → ⊥
  pub lowest : (i : ℕ) → i < k → IsFence c i

-- the second operand of each product is a refresh that is used there alone
pub record IsTidy (c : Netlist) : Type 0 where
  pub refreshed : (p u v : ℕ) → gate_at c p ≡ Some (And u v) → (w : ℕ) × (gate_at c v ≡ Some (Ref w))
  pub apart : (p u v : ℕ) → gate_at c p ≡ Some (And u v) → u ≢ v
  pub alone : (p u v q : ℕ) → gate_at c p ≡ Some (And u v) → Uses v (gate_at c q) → q ≡ p
