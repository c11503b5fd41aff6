-- Traces are split anywhere, and read as many bits of the tape as their steps take.
use Rattle.std.proofs.Common.{◌≡◌, ℕ, pred, ◌+◌, ◌-◌, ◌*◌, ◌≤◌, Bool, List, [], ◌∷◌, ◌++◌, length, take, drop, get_or, refl, ap, ap₂, sym, ◌∙◌, arith}
use Rattle.std.proofs.lemmas.List.{take-take, drop-take, drop-drop, take-append-le}
use Rattle.std.proofs.lemmas.List.Sums.{sum_by-cons, sum_by-append}
use Rattle.mask_circuit.specs.Ring.{bits}
use Rattle.mask_circuit.specs.Wires.{each, on_first}
use Rattle.mask_circuit.specs.Expansion.{draws, outs}
use Rattle.mask_circuit.specs.Sharing.{all_listed, shared}
use Rattle.mask_eval.specs.Watching.{Told, value_by_value}
use Rattle.mask_trace.specs.Steps.{InputBit, Public, Plain, Key, State, Registers, Step, plain_bits, kept, sharing_bits, stretch, bits_of}
use Rattle.mask_trace.specs.Traces.{BitShares, input_shares, gate_tape, output_shares, evaluation, after_step, after, trace}
use Rattle.mask_trace.specs.Laws.{TracesSplit, TapeIsEnough}

-- SPLITTING

-- the bits of one step more
pub bits_of-cons : (N : ℕ) (s : Step) (ss : List Step) → bits_of N (s ∷ ss) ≡ stretch N s + bits_of N ss
bits_of-cons N s ss = sum_by-cons (stretch N) s ss

-- the tape that is left behind one step more
pub drop-cons : (N : ℕ) (s : Step) (ss : List Step) (r : List Bool) → drop (bits_of N ss) (drop (stretch N s) r) ≡ drop (bits_of N (s ∷ ss)) r
drop-cons N s ss r = drop-drop (bits_of N ss) (stretch N s) r ∙ ap (λ (n : ℕ). drop n r) (sym (bits_of-cons N s ss))

trace_split : (N : ℕ) (have : Registers BitShares) (ss ts : List Step) (r : List Bool) →
    trace N have (ss ++ ts) r ≡ trace N have ss r ++ trace N (after N have ss r) ts (drop (bits_of N ss) r)
unfolding trace after
trace_split N have [] ts r = refl
trace_split N have (s ∷ ss) ts r =
    ap (λ (told : List Told). evaluation N have s r ∷ told)
    (trace_split N (after_step N have s r) ss ts (drop (stretch N s) r)
    ∙ ap (λ (rest : List Bool). trace N (after_step N have s r) ss (drop (stretch N s) r)
    ++ trace N (after N (after_step N have s r) ss (drop (stretch N s) r)) ts rest) (drop-cons N s ss r))

after_split : (N : ℕ) (have : Registers BitShares) (ss ts : List Step) (r : List Bool) →
    after N have (ss ++ ts) r ≡ after N (after N have ss r) ts (drop (bits_of N ss) r)
unfolding after
after_split N have [] ts r = refl
after_split N have (s ∷ ss) ts r =
    after_split N (after_step N have s r) ss ts (drop (stretch N s) r)
    ∙ ap (after N (after N (after_step N have s r) ss (drop (stretch N s) r)) ts) (drop-cons N s ss r)

pub traces_split : TracesSplit
traces_split = record { trace = trace_split; after = after_split; bits = λ N ss ts. sum_by-append (stretch N) ss ts }

-- THE TAPE

-- the beginning of a list behind its first m elements
drop-begin : (m n : ℕ) (r : List Bool) → m ≤ n → drop m (take n r) ≡ take (n - m) (drop m r)
drop-begin m n r le = let all : n ≡ m + (n - m) = omega arith in ap (λ (k : ℕ). drop m (take k r)) all ∙ drop-take m (n - m) r

-- inputs read just the coins that share their message bits
pub input_shares-take : (N : ℕ) (have : Registers BitShares) (is : List InputBit) (n : ℕ) (r : List Bool) → pred N * length (plain_bits is) ≤ n →
    input_shares N have is (take n r) ≡ input_shares N have is r
input_shares-take N have [] n r le = refl
input_shares-take N have (Public b ∷ is) n r le = ap (λ (ss : List BitShares). each (on_first bits b) N ∷ ss) (input_shares-take N have is n r le)
input_shares-take N have (Plain b ∷ is) n r le =
    ap₂ (λ (own : List Bool) (ss : List BitShares). shared bits b own ∷ ss) (take-take (pred N) n r (omega arith))
    (ap (input_shares N have is) (drop-begin (pred N) n r (omega arith)) ∙ input_shares-take N have is (n - pred N) (drop (pred N) r) (omega arith))
input_shares-take N have (Key k ∷ is) n r le = ap (λ (ss : List BitShares). get_or have.key k [] ∷ ss) (input_shares-take N have is n r le)
input_shares-take N have (State k ∷ is) n r le = ap (λ (ss : List BitShares). get_or have.state k [] ∷ ss) (input_shares-take N have is n r le)

pub gate_tape-take : (N : ℕ) (s : Step) (n : ℕ) (r : List Bool) → stretch N s ≤ n → gate_tape N s (take n r) ≡ gate_tape N s r
gate_tape-take N s n r le =
    let m = sharing_bits N s in
    ap (take (draws s.circuit N)) (drop-begin m n r (omega arith)) ∙ take-take (draws s.circuit N) (n - m) (drop m r) (omega arith)

-- what is told of a step with these shares of its inputs and these bits for its gates
abbrev pub told_of : ℕ → Step → List BitShares → List Bool → Told
told_of N s inputs tape = record {
  circuit = s.circuit;
  order = pred N;
  inputs = value_by_value inputs;
  tape = tape;
  outputs = value_by_value (outs bits s.circuit N (all_listed bits inputs) tape);
}

-- a step reads just its stretch
pub evaluation-take : (N : ℕ) (have : Registers BitShares) (s : Step) (n : ℕ) (r : List Bool) → stretch N s ≤ n → evaluation N have s (take n r) ≡ evaluation N have s r
evaluation-take N have s n r le =
    ap₂ (told_of N s) (input_shares-take N have s.inputs n r (omega arith)) (gate_tape-take N s n r le)

pub output_shares-take : (N : ℕ) (have : Registers BitShares) (s : Step) (n : ℕ) (r : List Bool) → stretch N s ≤ n →
    output_shares N have s (take n r) ≡ output_shares N have s r
output_shares-take N have s n r le =
    ap₂ (λ (ss : List BitShares) (tape : List Bool). outs bits s.circuit N (all_listed bits ss) tape)
    (input_shares-take N have s.inputs n r (omega arith)) (gate_tape-take N s n r le)

-- and so do steps
pub trace-take : (N : ℕ) (have : Registers BitShares) (ss : List Step) (n : ℕ) (r : List Bool) → bits_of N ss ≤ n → trace N have ss (take n r) ≡ trace N have ss r
unfolding trace
trace-take N have [] n r le = refl
trace-take N have (s ∷ ss) n r le =
    let more = bits_of-cons N s ss in
    ap₂ (λ (one : Told) (rest : List Told). one ∷ rest)
    (evaluation-take N have s n r (omega arith))
    (ap₂ (λ (outputs : List BitShares) (rest : List Bool). trace N (kept s.keeps outputs have) ss rest)
    (output_shares-take N have s n r (omega arith)) (drop-begin (stretch N s) n r (omega arith))
    ∙ trace-take N (after_step N have s r) ss (n - stretch N s) (drop (stretch N s) r) (omega arith))

pub after-take : (N : ℕ) (have : Registers BitShares) (ss : List Step) (n : ℕ) (r : List Bool) → bits_of N ss ≤ n → after N have ss (take n r) ≡ after N have ss r
unfolding after
after-take N have [] n r le = refl
after-take N have (s ∷ ss) n r le =
    let more = bits_of-cons N s ss in
    ap₂ (λ (outputs : List BitShares) (rest : List Bool). after N (kept s.keeps outputs have) ss rest)
    (output_shares-take N have s n r (omega arith)) (drop-begin (stretch N s) n r (omega arith))
    ∙ after-take N (after_step N have s r) ss (n - stretch N s) (drop (stretch N s) r) (omega arith)

pub tape_is_enough : TapeIsEnough
tape_is_enough = record {
  trace = λ N have ss r more le.
      sym (trace-take N have ss (bits_of N ss) (r ++ more) (omega arith))
      ∙ ap (trace N have ss) (take-append-le (bits_of N ss) r more le)
      ∙ trace-take N have ss (bits_of N ss) r (omega arith);
  after = λ N have ss r more le.
      sym (after-take N have ss (bits_of N ss) (r ++ more) (omega arith))
      ∙ ap (after N have ss) (take-append-le (bits_of N ss) r more le)
      ∙ after-take N have ss (bits_of N ss) r (omega arith);
}
