-- The definitions of a run at a worked example on two shares, computed.
use Rattle.std.proofs.Common.{◌≡◌, Bool, true, false, List, [], ◌∷◌, map, refl}
use Rattle.mask_circuit.specs.declared.gates.Gate.TheVariants.{Xor, And, Ref}
use Rattle.mask_circuit.specs.Netlist.{Netlist}
use Rattle.mask_eval.specs.Watching.{Told}
use Rattle.mask_laws.specs.Runs as runs
use Rattle.mask_trace.specs.Steps.{Public, Plain, Key, State, Nothing, AsKey, AsState, Registers, Step, bits_of}
use Rattle.mask_trace.specs.Traces.{BitShares, after, trace}
use Rattle.mask_trace.specs.Calls.{calls_of, calls_from, message_bits, message_coins, gate_coins, variables}
use Rattle.mask_trace.specs.Values.{values_of, step_value, value_after}
use Rattle.mask_trace.specs.Privacy.{trace_wires, trace_hits}

-- the product of the bits 1 and 2, and bit 0 added to it, refreshed
abbrev pub mixed : Netlist
mixed = record { inputs = 3; gates = And 1 2 ∷ Xor 3 0 ∷ Ref 4 ∷ []; outputs = 5 ∷ [] }

abbrev pub refresh : Netlist
refresh = record { inputs = 1; gates = Ref 0 ∷ []; outputs = 1 ∷ [] }

-- From a key of one bit: a step on a message bit makes the state, then the key is refreshed, and a last step takes both.
abbrev pub first : Step
first = record { circuit = mixed; inputs = Public false ∷ Plain true ∷ Key 0 ∷ []; keeps = AsState }

abbrev pub second : Step
second = record { circuit = refresh; inputs = Key 0 ∷ []; keeps = AsKey }

abbrev pub third : Step
third = record { circuit = mixed; inputs = Public true ∷ State 0 ∷ Key 0 ∷ []; keeps = Nothing }

abbrev pub plan : List Step
plan = first ∷ second ∷ third ∷ []

-- the key bit 1 in shares
abbrev pub key : List BitShares
key = (false ∷ true ∷ []) ∷ []

abbrev pub key_alone : Registers BitShares
key_alone = record { key = key; state = [] }

-- the coin of the message bit, two bits of the first step, the bit of the refresh, and two of the last step
abbrev pub tape : List Bool
tape = true ∷ true ∷ false ∷ true ∷ false ∷ true ∷ []

plan_bits : bits_of 2 plan ≡ 6
plan_bits = refl

-- The message bit is shared as (0, 1), the key is (1, 0) behind the refresh, and the state is (1, 0).
abbrev pub told : List Told
told =
    record {
      circuit = mixed;
      order = 1;
      inputs = false ∷ false ∷ false ∷ true ∷ false ∷ true ∷ [];
      tape = true ∷ false ∷ [];
      outputs = true ∷ false ∷ [];
    }
    ∷ record { circuit = refresh; order = 1; inputs = false ∷ true ∷ []; tape = true ∷ []; outputs = true ∷ false ∷ [] }
    ∷ record {
      circuit = mixed;
      order = 1;
      inputs = true ∷ false ∷ true ∷ false ∷ true ∷ false ∷ [];
      tape = false ∷ true ∷ [];
      outputs = true ∷ true ∷ [];
    }
    ∷ []

plan_trace : trace 2 key_alone plan tape ≡ told
unfolding trace
plan_trace = refl

plan_after : after 2 key_alone plan tape ≡ record { key = (true ∷ false ∷ []) ∷ []; state = (true ∷ false ∷ []) ∷ [] }
unfolding after
plan_after = refl

-- On plain bits the first step gives 1 · 1, the refresh gives the key bit, and the last step gives 1 · 1 + 1.
plan_values : value_after (values_of key_alone) plan ≡ record { key = true ∷ []; state = true ∷ [] }
unfolding value_after
plan_values = refl

last_value : step_value (record { key = true ∷ []; state = true ∷ [] }) third ≡ false ∷ []
last_value = refl

-- The variables are the key bit and then the message bit; the last call takes an output of each of the others.
plan_calls : calls_of 1 plan
    ≡ record { circuit = mixed; origins = runs.Public false ∷ runs.Variable 1 ∷ runs.Variable 0 ∷ [] }
    ∷ record { circuit = refresh; origins = runs.Variable 0 ∷ [] }
    ∷ record { circuit = mixed; origins = runs.Public true ∷ runs.Output 0 0 ∷ runs.Output 1 0 ∷ [] }
    ∷ []
unfolding calls_from
plan_calls = refl

plan_coins : gate_coins 2 plan tape ≡ true ∷ false ∷ true ∷ false ∷ true ∷ []
unfolding gate_coins
plan_coins = refl

-- The wires are those of the calls.
plan_wires : trace_wires 2 key_alone plan tape ≡ runs.run_wires (calls_of 1 plan) 2 (variables 2 key plan tape) (gate_coins 2 plan tape)
unfolding trace_wires calls_from message_bits message_coins gate_coins
plan_wires = refl

-- Of the 32 sharings of the key and tapes of the first two steps 8 show 1 on the product of share 0 of the message bit and
-- share 1 of the key, whatever the key and the message are.
abbrev pub other_first : Step
other_first = record { circuit = mixed; inputs = Public false ∷ Plain false ∷ Key 0 ∷ []; keeps = AsState }

product_hits : map (λ ss. map (λ k. trace_hits 2 (k ∷ []) ss (7 ∷ []) (true ∷ [])) (false ∷ true ∷ []))
    ((first ∷ second ∷ []) ∷ (other_first ∷ second ∷ []) ∷ []) ≡ (8 ∷ 8 ∷ []) ∷ (8 ∷ 8 ∷ []) ∷ []
unfolding trace_wires
product_hits = refl
