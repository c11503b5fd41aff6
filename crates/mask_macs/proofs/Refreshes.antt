-- A step that gives the first bits of the key fresh shares: it is strong, hands these bits on, and draws one bit of the tape for
-- each of them and each pair of shares.
use Rattle.std.proofs.Common.{◌≡◌, ℕ, suc, ◌+◌, ◌*◌, ◌≤◌, Bool, List, length, take, ap, ap₂, sym, ◌∙◌, arith}
use Rattle.std.proofs.lemmas.List.{length-take-le}
use Rattle.mask_circuit.specs.Value.{plain}
use Rattle.mask_circuit.specs.Wires.{each}
use Rattle.mask_circuit.proofs.Places.{length-each}
use Rattle.mask_laws.proofs.CircuitNames.{All-each}
use Rattle.mask_parts.specs.CipherCircuits.{Size, size_of, gate_bits}
use Rattle.mask_parts.proofs.Drawing.{draws-gates}
use Rattle.mask_refresh.specs.Refreshing.{refreshing, refreshing_size}
use Rattle.mask_refresh.proofs.Making.{IsWellFormed-refreshing, inputs-refreshing, plain-refreshing, size-refreshing, strong-refreshing}
use Rattle.mask_trace.specs.Steps.{Keeps, Key, Registers, Step, Fit, IsStrongStep, IsThere, stretch}
use Rattle.mask_trace.specs.Values.{step_value}
use Rattle.mask_trace.proofs.Inputs.{inputs_stand_in_parts}
use Rattle.mask_macs.proofs.Rows.{each_once, first_key_values}

-- fresh shares of the first n bits of the key
abbrev pub key_refresh : ℕ → Keeps → Step
key_refresh n keeps = record { circuit = refreshing n; inputs = each Key n; keeps = keeps }

pub outputs-refreshing : (n : ℕ) → length (refreshing n).outputs ≡ n
unfolding size_of
outputs-refreshing n = ap (λ (s : Size). s.outputs) (size-refreshing n)

pub refresh_is_strong : (k s n : ℕ) (keeps : Keeps) → n ≤ k → Fit k keeps (refreshing n) → IsStrongStep k s (key_refresh n keeps)
refresh_is_strong k s n keeps within fits = record {
  formed = IsWellFormed-refreshing n;
  strong = strong-refreshing n;
  count = length-each Key n ∙ sym (inputs-refreshing n);
  there = All-each (IsThere k s) Key n (λ i lt. omega arith);
  once = each_once Key (λ i j e. cc) n;
  fit = fits;
}

pub refresh_value : (held : Registers Bool) (n : ℕ) (keeps : Keeps) → n ≤ length held.key →
    step_value held (key_refresh n keeps) ≡ take n held.key
refresh_value held n keeps within =
    ap (plain (refreshing n)) (first_key_values held n within)
    ∙ plain-refreshing n (take n held.key) (length-take-le n held.key within)

pub stretch-refresh : (d n : ℕ) (keeps : Keeps) → stretch (suc d) (key_refresh n keeps) ≡ n * gate_bits d
stretch-refresh d n keeps =
    let gates : 0 + n ≡ n = omega arith in
    ap₂ (λ (bs : List Bool) (m : ℕ). d * length bs + m) (inputs_stand_in_parts.bits_of_key n)
    (draws-gates (refreshing n) (refreshing_size n) d n (size-refreshing n) gates)
    ∙ omega arith
