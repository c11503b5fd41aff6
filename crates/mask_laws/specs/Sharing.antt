-- What shares stand for: the sum of the bits, which is the bit that was shared.
use Rattle.std.specs.Prelude.{◌≡◌, ℕ, ◌<◌, ◌≤◌, Bool, List, map}
use Rattle.mask_circuit.specs.Netlist.{Netlist, IsWellFormed, value_count}
use Rattle.mask_circuit.specs.Value.{value_at, plain_values, plain}
use Rattle.mask_circuit.specs.Ring.{bits}
use Rattle.mask_circuit.specs.Wires.{Shares, each}
use Rattle.mask_circuit.specs.Expansion.{expand, shares_of, outs}
use Rattle.mask_circuit.specs.Sharing.{unmasked}

-- the bit that N shares stand for
abbrev pub unshared : ℕ → Shares Bool → Bool
unshared N s = unmasked bits (each s N)

-- the input bits that the input shares stand for
abbrev pub unshared_inputs : Netlist → ℕ → (ℕ → Shares Bool) → List Bool
unshared_inputs c N x = each (λ v. unshared N (x v)) c.inputs

-- the first n values have the same N shares
abbrev pub SameShares : {X : Type 0} → ℕ → ℕ → (ℕ → Shares X) → (ℕ → Shares X) → Type 0
SameShares N n s s' = (u i : ℕ) → u < n → i < N → s u i ≡ s' u i

-- The shares of each value stand for its plain value, whatever the tape ..
abbrev pub ValuesUnmask : Type 0
ValuesUnmask = (c : Netlist) (N : ℕ) (x : ℕ → Shares Bool) (r : List Bool) → IsWellFormed c → 1 ≤ N →
    (u : ℕ) → u < value_count c →
    unshared N (shares_of (expand bits c N x r) u) ≡ value_at (plain_values c (unshared_inputs c N x)) u

-- .. and so do those of each output.
abbrev pub OutputsUnmask : Type 0
OutputsUnmask = (c : Netlist) (N : ℕ) (x : ℕ → Shares Bool) (r : List Bool) → IsWellFormed c → 1 ≤ N →
    map (unmasked bits) (outs bits c N x r) ≡ plain c (unshared_inputs c N x)
