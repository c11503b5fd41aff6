-- The trace of a run: the evaluations of its steps, each with the next stretch of the tape.
use Rattle.std.specs.Prelude.{ℕ, pred, Bool, List, [], ◌∷◌, take, drop, slice_index_or}
use Rattle.mask_circuit.specs.Ring.{bits}
use Rattle.mask_circuit.specs.Wires.{each, on_first}
use Rattle.mask_circuit.specs.Expansion.{draws, outs}
use Rattle.mask_circuit.specs.Sharing.{all_listed, shared}
use Rattle.mask_eval.specs.Watching.{Told, value_by_value}
use Rattle.mask_trace.specs.Steps.{InputBit, Public, Plain, Key, State, Registers, Step, kept, sharing_bits, stretch}

-- The shares of a bit, share 0 first.
abbrev pub BitShares : Type 0
BitShares = List Bool

-- the shares of the inputs of a step on N shares, where r has the bits of the tape from the step's first one on
abbrev pub input_shares : ℕ → Registers BitShares → List InputBit → List Bool → List BitShares
input_shares N have [] r = []
input_shares N have (Public b ∷ is) r = each (on_first bits b) N ∷ input_shares N have is r
input_shares N have (Plain b ∷ is) r = shared bits b (take (pred N) r) ∷ input_shares N have is (drop (pred N) r)
input_shares N have (Key k ∷ is) r = slice_index_or have.key k [] ∷ input_shares N have is r
input_shares N have (State k ∷ is) r = slice_index_or have.state k [] ∷ input_shares N have is r

-- the bits that products and refreshes of the step draw
abbrev pub gate_tape : ℕ → Step → List Bool → List Bool
gate_tape N s r = take (draws s.circuit N) (drop (sharing_bits N s) r)

-- the shares of the outputs of the step
abbrev pub output_shares : ℕ → Registers BitShares → Step → List Bool → List BitShares
output_shares N have s r = outs bits s.circuit N (all_listed bits (input_shares N have s.inputs r)) (gate_tape N s r)

-- the evaluation of the step, as a watch is told it
abbrev pub evaluation : ℕ → Registers BitShares → Step → List Bool → Told
evaluation N have s r = record {
  circuit = s.circuit;
  order = pred N;
  inputs = value_by_value (input_shares N have s.inputs r);
  tape = gate_tape N s r;
  outputs = value_by_value (output_shares N have s r);
}

-- what the run has in shares after the step, and after all of these
abbrev pub after_step : ℕ → Registers BitShares → Step → List Bool → Registers BitShares
after_step N have s r = kept s.keeps (output_shares N have s r) have

unfoldable pub after : ℕ → Registers BitShares → List Step → List Bool → Registers BitShares
after N have [] r = have
after N have (s ∷ ss) r = after N (after_step N have s r) ss (drop (stretch N s) r)

-- the evaluations of the steps, where r is the tape
unfoldable pub trace : ℕ → Registers BitShares → List Step → List Bool → List Told
trace N have [] r = []
trace N have (s ∷ ss) r = evaluation N have s r ∷ trace N (after_step N have s r) ss (drop (stretch N s) r)
