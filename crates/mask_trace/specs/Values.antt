-- What a run computes: the same steps on plain bits.
use Rattle.std.specs.Prelude.{◌≡◌, ℕ, pred, ◌≤◌, Bool, false, List, [], ◌∷◌, map, length, slice_index_or, All}
use Rattle.mask_circuit.specs.Netlist.{IsWellFormed}
use Rattle.mask_circuit.specs.Value.{plain}
use Rattle.mask_circuit.specs.Ring.{bits}
use Rattle.mask_circuit.specs.Acceptance.{IsStrong}
use Rattle.mask_circuit.specs.Sharing.{unmasked}
use Rattle.mask_eval.specs.Watching.{Told, told_more, IsEvaluation}
use Rattle.mask_trace.specs.Steps.{InputBit, Public, Plain, Key, State, Registers, Step, kept, state_after, bits_of, IsStrongStep, IsStrongPlan}
use Rattle.mask_trace.specs.Traces.{BitShares, output_shares, after, trace}
use Rattle.mask_trace.specs.Drawing.{Stand, Ran}

-- The registers have k and s bits, in N shares each.
pub record HasShares (N k s : ℕ) (have : Registers BitShares) : Type 0 where
  pub key : length have.key ≡ k
  pub state : length have.state ≡ s
  pub key_shares : All (λ shares. length shares ≡ N) have.key
  pub state_shares : All (λ shares. length shares ≡ N) have.state

-- the bits that they stand for
abbrev pub values_of : Registers BitShares → Registers Bool
values_of have = record { key = map (unmasked bits) have.key; state = map (unmasked bits) have.state }

-- the bit of an input
abbrev pub input_value : Registers Bool → InputBit → Bool
input_value have (Public b) = b
input_value have (Plain b) = b
input_value have (Key k) = slice_index_or have.key k false
input_value have (State k) = slice_index_or have.state k false

-- the output bits of a step
abbrev pub step_value : Registers Bool → Step → List Bool
step_value have s = plain s.circuit (map (input_value have) s.inputs)

-- the registers behind steps, and how many bits the state has there
unfoldable pub value_after : Registers Bool → List Step → Registers Bool
value_after have [] = have
value_after have (s ∷ ss) = value_after (kept s.keeps (step_value have s) have) ss

abbrev pub states_after : ℕ → List Step → ℕ
states_after n [] = n
states_after n (s ∷ ss) = states_after (state_after s.keeps s.circuit n) ss

-- Whatever the tape, the outputs of a step stand for what its circuit makes of the bits that its inputs stand for; and so
-- it is with the registers behind steps, which have N shares of each bit there too.
pub record RunsCompute : Type 0 where
  pub outputs : (N k s : ℕ) (have : Registers BitShares) (t : Step) (r : List Bool) → 1 ≤ N → IsStrongStep k s t → HasShares N k s have →
      map (unmasked bits) (output_shares N have t r) ≡ step_value (values_of have) t
  pub registers : (N k s : ℕ) (have : Registers BitShares) (ss : List Step) (r : List Bool) → 1 ≤ N → IsStrongPlan k s ss → HasShares N k s have →
      HasShares N k (states_after s ss) (after N have ss r) × (values_of (after N have ss r) ≡ value_after (values_of have) ss)

-- What was told is an evaluation of a strong circuit on N shares.
pub record IsStrongEvaluation (N : ℕ) (t : Told) : Type 0 where
  pub order : t.order ≡ pred N
  pub formed : IsWellFormed t.circuit
  pub strong : IsStrong t.circuit
  pub evaluation : IsEvaluation t

-- A strong plan is told as evaluations of strong circuits, where the tape is long enough.
abbrev pub TracesAreEvaluations : Type 0
TracesAreEvaluations = (N k s : ℕ) (have : Registers BitShares) (ss : List Step) (r : List Bool) → 1 ≤ N → IsStrongPlan k s ss → HasShares N k s have →
    bits_of N ss ≤ length r → All (IsStrongEvaluation N) (trace N have ss r)

-- So what a run left: N shares of each bit of the registers, which stand for what the steps compute, and on the watch
-- evaluations of strong circuits alone.
pub record Computed (N k s : ℕ) (have : Registers BitShares) (ss : List Step) (now : Registers BitShares) (a b : Stand) : Type 0 where
  pub shares : HasShares N k (states_after s ss) now
  pub values : values_of now ≡ value_after (values_of have) ss
  pub calls : List Told
  pub tells : b.told ≡ told_more a.told calls
  pub evaluations : All (IsStrongEvaluation N) calls

abbrev pub RunsAreComputed : Type 0
RunsAreComputed = (N k s : ℕ) (have : Registers BitShares) (ss : List Step) (now : Registers BitShares) (a b : Stand) →
    1 ≤ N → IsStrongPlan k s ss → HasShares N k s have → Ran N have ss now a b → Computed N k s have ss now a b
