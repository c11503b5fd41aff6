-- The steps of a run as the calls of a whole run in the probing model: the bits of the key and of the message are its
-- variables.
use Rattle.std.specs.Prelude.{ℕ, suc, pred, ◌+◌, Bool, false, List, [], ◌∷◌, ◌++◌, length, take, drop, slice_index_or}
use Rattle.mask_circuit.specs.Netlist.{Netlist}
use Rattle.mask_circuit.specs.Ring.{bits}
use Rattle.mask_circuit.specs.Wires.{Shares, each}
use Rattle.mask_circuit.specs.Sharing.{all_listed, all_shared}
use Rattle.mask_laws.specs.Runs.{Origin, Public, Variable, Output, Call}
use Rattle.mask_trace.specs.Steps as steps
use Rattle.mask_trace.specs.Traces.{BitShares, gate_tape}

-- the origins of the inputs of a step, where its message bits are the variables from v on
abbrev pub origins : steps.Registers Origin → ℕ → List steps.InputBit → List Origin
origins have v [] = []
origins have v (steps.Public b ∷ is) = Public b ∷ origins have v is
origins have v (steps.Plain b ∷ is) = Variable v ∷ origins have (suc v) is
origins have v (steps.Key k ∷ is) = slice_index_or have.key k (Public false) ∷ origins have v is
origins have v (steps.State k ∷ is) = slice_index_or have.state k (Public false) ∷ origins have v is

-- the outputs of call j
abbrev pub outputs_of : ℕ → Netlist → List Origin
outputs_of j c = each (Output j) (length c.outputs)

-- the calls of these steps, the first of which is call j; its message bits are the variables from v on
unfoldable pub calls_from : steps.Registers Origin → ℕ → ℕ → List steps.Step → List Call
calls_from have v j [] = []
calls_from have v j (s ∷ ss) = record { circuit = s.circuit; origins = origins have v s.inputs }
    ∷ calls_from (steps.kept s.keeps (outputs_of j s.circuit) have) (v + length (steps.plain_bits s.inputs)) (suc j) ss

-- a run that begins with a key of n bits, which are its first variables, and with no state
abbrev pub with_key : ℕ → steps.Registers Origin
with_key n = record { key = each Variable n; state = [] }

-- the calls of a run of these steps with a key of n bits
abbrev pub calls_of : ℕ → List steps.Step → List Call
calls_of n ss = calls_from (with_key n) n 0 ss

-- the message bits of all steps, in their order
unfoldable pub message_bits : List steps.Step → List Bool
message_bits [] = []
message_bits (s ∷ ss) = steps.plain_bits s.inputs ++ message_bits ss

-- the coins that share them, of the tape r of all steps ..
unfoldable pub message_coins : ℕ → List steps.Step → List Bool → List Bool
message_coins N [] r = []
message_coins N (s ∷ ss) r = take (steps.sharing_bits N s) r ++ message_coins N ss (drop (steps.stretch N s) r)

-- .. and the coins that products and refreshes draw
unfoldable pub gate_coins : ℕ → List steps.Step → List Bool → List Bool
gate_coins N [] r = []
gate_coins N (s ∷ ss) r = gate_tape N s r ++ gate_coins N ss (drop (steps.stretch N s) r)

-- the shares of all variables: those of the key, and then those of the message bits
abbrev pub variables : ℕ → List BitShares → List steps.Step → List Bool → ℕ → Shares Bool
variables N key ss r = all_listed bits (key ++ all_shared bits (pred N) (message_bits ss) (message_coins N ss r))
