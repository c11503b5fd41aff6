-- A run as data: which circuits are evaluated, one after another, and where the bits of their inputs come from.
use Rattle.std.specs.Prelude.{◌≡◌, ℕ, pred, ◌+◌, ◌*◌, ◌<◌, ◌≤◌, Bool, false, List, [], ◌∷◌, ◌++◌, length, drop, sum_by, slice_index_or, All}
use Rattle.mask_circuit.specs.Netlist.{Netlist, IsWellFormed}
use Rattle.mask_circuit.specs.Expansion.{draws}
use Rattle.mask_circuit.specs.Acceptance.{IsStrong}

-- What a run has in shares at any time: its key, and a state that it passes on. An element of X stands for a bit: its
-- shares, say, or the place that it comes from.
pub record Registers (X : Type 0) : Type 0 where
  pub key : List X
  pub state : List X

-- Where the bit of an input comes from.
pub data InputBit : Type 0 where
  -- a bit that all may know: share 0 is the bit, and the others are 0
  Public : Bool → InputBit
  -- a bit of the message: it is shared with the next coins
  Plain : Bool → InputBit
  -- the bit at a place of the key or of the state, in the shares that it has
  Key : ℕ → InputBit
  State : ℕ → InputBit

-- What becomes of the outputs of a step: nothing, they replace as many bits at the front of the key, or they are the state.
pub data Keeps : Type 0 where
  Nothing : Keeps
  AsKey : Keeps
  AsState : Keeps

-- One evaluation: a circuit, the bit of each of its inputs, and what becomes of its outputs.
pub record Step : Type 0 where
  pub circuit : Netlist
  pub inputs : List InputBit
  pub keeps : Keeps

-- the registers after a step with these outputs
abbrev pub kept : {X : Type 0} → Keeps → List X → Registers X → Registers X
kept Nothing outputs r = r
kept AsKey outputs r = record { key = outputs ++ drop (length outputs) r.key; state = r.state }
kept AsState outputs r = record { key = r.key; state = outputs }

-- the message bits among the inputs
abbrev pub plain_bits : List InputBit → List Bool
plain_bits [] = []
plain_bits (Public b ∷ is) = plain_bits is
plain_bits (Plain b ∷ is) = b ∷ plain_bits is
plain_bits (Key k ∷ is) = plain_bits is
plain_bits (State k ∷ is) = plain_bits is

-- how many bits of the tape share the message bits of a step, on N shares
abbrev pub sharing_bits : ℕ → Step → ℕ
sharing_bits N s = pred N * length (plain_bits s.inputs)

-- how many bits of the tape a step takes: those, and then those of its products and refreshes
abbrev pub stretch : ℕ → Step → ℕ
stretch N s = sharing_bits N s + draws s.circuit N

-- how many bits of the tape the steps take
abbrev pub bits_of : ℕ → List Step → ℕ
bits_of N steps = sum_by (stretch N) steps

-- STRONG PLANS

-- a bit is there, where the key has k bits and the state s
abbrev pub IsThere : ℕ → ℕ → InputBit → Type 0
IsThere k s (Public b) = Unit {0}
IsThere k s (Plain b) = Unit {0}
IsThere k s (Key i) = i < k
IsThere k s (State i) = i < s

-- a bit whose shares no register holds
abbrev pub IsNotHeld : InputBit → Type 0
IsNotHeld (Public b) = Unit {0}
IsNotHeld (Plain b) = Unit {0}
IsNotHeld (Key i) = ⊥
IsNotHeld (State i) = ⊥

-- the bit of input v
abbrev pub input_at : Step → ℕ → InputBit
input_at s v = slice_index_or s.inputs v (Public false)

-- the outputs fit where they are kept: no more than k bits replace bits of a key of k bits
abbrev pub Fit : ℕ → Keeps → Netlist → Type 0
Fit k Nothing c = Unit {0}
Fit k AsKey c = length c.outputs ≤ k
Fit k AsState c = Unit {0}

-- how many bits the state has after the step
abbrev pub state_after : Keeps → Netlist → ℕ → ℕ
state_after Nothing c s = s
state_after AsKey c s = s
state_after AsState c s = length c.outputs

-- a step of a strong circuit, which takes no bit of the key or the state twice
pub record IsStrongStep (k s : ℕ) (t : Step) : Type 0 where
  pub formed : IsWellFormed t.circuit
  pub strong : IsStrong t.circuit
  pub count : length t.inputs ≡ t.circuit.inputs
  pub there : All (IsThere k s) t.inputs
  pub once : (u v : ℕ) → u < v → v < length t.inputs → input_at t u ≡ input_at t v → IsNotHeld (input_at t u)
  pub fit : Fit k t.keeps t.circuit

-- steps of this kind, where the key has k bits and the state s before the first of them
abbrev pub IsStrongPlan : ℕ → ℕ → List Step → Type 0
IsStrongPlan k s [] = Unit {0}
IsStrongPlan k s (t ∷ ts) = IsStrongStep k s t × IsStrongPlan k (state_after t.keeps t.circuit s) ts
