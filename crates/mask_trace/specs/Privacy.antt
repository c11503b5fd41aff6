-- What few wires of all evaluations of a run show: nothing of its key and its message.
use Rattle.std.specs.Prelude.{◌≡◌, ℕ, pred, ◌*◌, ◌<◌, Bool, false, cond, List, [], ◌∷◌, ◌++◌, map, length, drop, slice_index_or}
use Rattle.mask_circuit.specs.Ring.{bits}
use Rattle.mask_circuit.specs.Expansion.{wires}
use Rattle.mask_circuit.specs.Probing.{same_bits, sum_over_tapes}
use Rattle.mask_circuit.specs.Sharing.{all_listed, all_shared}
use Rattle.mask_trace.specs.Steps.{InputBit, Public, Plain, Key, State, Registers, Step, stretch, bits_of}
use Rattle.mask_trace.specs.Traces.{BitShares, input_shares, gate_tape, after_step}

-- the wires of one step
abbrev pub step_wires : ℕ → Registers BitShares → Step → List Bool → List Bool
step_wires N have s r = wires bits s.circuit N (all_listed bits (input_shares N have s.inputs r)) (gate_tape N s r)

-- the wires of all steps, step by step
unfoldable pub trace_wires : ℕ → Registers BitShares → List Step → List Bool → List Bool
trace_wires N have [] r = []
trace_wires N have (s ∷ ss) r = step_wires N have s r ++ trace_wires N (after_step N have s r) ss (drop (stretch N s) r)

-- the bits on the wires of these numbers; a number may be repeated, and one past the wires shows 0
abbrev pub trace_seen : ℕ → Registers BitShares → List Step → List Bool → List ℕ → List Bool
trace_seen N have ss r P = map (λ p. slice_index_or (trace_wires N have ss r) p false) P

-- the key on N shares, each bit shared with the next coins, and no state
abbrev pub key_shared : ℕ → List Bool → List Bool → Registers BitShares
key_shared N key coins = record { key = all_shared bits (pred N) key coins; state = [] }

-- how many sharings of the key, each with all tapes of the run, show just the bits v on the wires P
abbrev pub trace_hits : ℕ → List Bool → List Step → List ℕ → List Bool → ℕ
trace_hits N key ss P v = sum_over_tapes (pred N * length key)
    (λ coins. sum_over_tapes (bits_of N ss) (λ r. cond (same_bits (trace_seen N (key_shared N key coins) ss r P) v) 1 0))

-- the same input, whatever the message bit
abbrev pub without_message : InputBit → InputBit
without_message (Public b) = Public b
without_message (Plain b) = Plain false
without_message (Key k) = Key k
without_message (State k) = State k

-- the same step, whatever the message bits
abbrev pub blank : Step → Step
blank s = record { circuit = s.circuit; inputs = map without_message s.inputs; keeps = s.keeps }

-- steps that are the same but for the message bits
abbrev pub AreAlike : List Step → List Step → Type 0
AreAlike ss ts = map blank ss ≡ map blank ts

-- Privacy of a run with a key of n bits: what any t wires of all its evaluations show, t at most N - 1, has over all
-- sharings of the key and all tapes the same distribution for any two keys and any two messages.
abbrev pub IsPrivateTrace : ℕ → ℕ → List Step → Type 0
IsPrivateTrace N n ss = (P : List ℕ) → length P < N → (ts : List Step) → AreAlike ss ts →
    (key key' : List Bool) → length key ≡ n → length key' ≡ n → (v : List Bool) → trace_hits N key ss P v ≡ trace_hits N key' ts P v
