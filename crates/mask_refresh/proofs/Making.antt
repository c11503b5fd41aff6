-- What the circuit of refreshes is: strong, of its size, and without an effect on plain bits.
use Rattle.std.proofs.Common.{◌≡◌, ℕ, Bool, List, length, refl, ap, ap₂, sym, subst, ◌∙◌, arith}
use Rattle.std.specs.List.{range_with_len}
use Rattle.std.proofs.lemmas.List.FromFn.{length-range_with_len}
use Rattle.mask_circuit.specs.Netlist.{Netlist, IsWellFormed, IsCircuit, only_inputs}
use Rattle.mask_circuit.specs.Value.{plain}
use Rattle.mask_circuit.specs.Acceptance.{IsStrong}
use Rattle.mask_parts.specs.CipherCircuits.{size_of, IsCipherCircuit}
use Rattle.mask_parts.specs.Drafts.{with_gates, with_outputs, bits_of}
use Rattle.mask_parts.specs.Fences.{with_fence}
use Rattle.mask_parts.proofs.Concluding.{IsStrong-tidy_fence, IsCipherCircuit-strong}
use Rattle.mask_parts.proofs.Counting.{same_size, size-with_fence}
use Rattle.mask_parts.proofs.Fencing.{IsWellFormed-fence, plain-with_fence}
use Rattle.mask_parts.proofs.Inputs.{IsTidy-inputs, AreOf-inputs}
use Rattle.mask_parts.proofs.Passing.{AreOf}
use Rattle.mask_parts.proofs.Ranges.{read-all}
use Rattle.mask_refresh.specs.Refreshing.{refreshing, refreshing_size, same_bits}

pub below-inputs : (n : ℕ) → AreOf (only_inputs n) (range_with_len 0 n)
below-inputs n = AreOf-inputs n 0 n (omega arith)

pub IsWellFormed-refreshing : (n : ℕ) → IsWellFormed (refreshing n)
unfolding refreshing
IsWellFormed-refreshing n = IsWellFormed-fence (only_inputs n) (range_with_len 0 n) tt (below-inputs n) refl

pub strong-refreshing : (n : ℕ) → IsStrong (refreshing n)
unfolding refreshing
strong-refreshing n = IsStrong-tidy_fence (only_inputs n) (range_with_len 0 n) tt (below-inputs n) refl (IsTidy-inputs n)

pub size-refreshing : (n : ℕ) → size_of (refreshing n) ≡ refreshing_size n
unfolding refreshing
size-refreshing n =
    let long : length (range_with_len 0 n) ≡ n = length-range_with_len 0 n in
    size-with_fence (only_inputs n) (range_with_len 0 n) refl ∙ same_size _ _ refl long refl (omega arith) (omega arith)

pub plain-refreshing : (n : ℕ) (x : List Bool) → length x ≡ n → plain (refreshing n) x ≡ x
unfolding refreshing bits_of
plain-refreshing n x long =
    plain-with_fence (only_inputs n) (range_with_len 0 n) tt (below-inputs n) x long (λ k d lt. absurd (omega (arith, lt)))
    ∙ rw (sym long) (read-all x)

-- the fence of these inputs is this circuit
pub fenced-inputs : (n : ℕ) (c : Netlist) (us : List ℕ) → c ≡ only_inputs n → us ≡ range_with_len 0 n → with_fence c us ≡ refreshing n
unfolding refreshing
fenced-inputs n c us is are = ap₂ with_fence is are

pub inputs-refreshing : (n : ℕ) → (refreshing n).inputs ≡ n
unfolding refreshing with_fence with_gates with_outputs
inputs-refreshing n = refl

-- so it meets its contract
pub IsCipherCircuit-refreshing : (n : ℕ) (c : Netlist) → c ≡ refreshing n → IsCircuit c → IsCipherCircuit (refreshing n) (refreshing_size n) same_bits c
IsCipherCircuit-refreshing n c made circuit =
    IsCipherCircuit-strong (refreshing n) (refreshing_size n) same_bits c made circuit (ap size_of made ∙ size-refreshing n)
    (subst IsStrong (sym made) (strong-refreshing n))
    (λ x long. ap (λ d. plain d x) made ∙ plain-refreshing n x (long ∙ ap (λ (d : Netlist). d.inputs) made ∙ inputs-refreshing n))
