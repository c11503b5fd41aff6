-- An evaluation of a run: where the bits of its inputs come from, and what becomes of its outputs.
use Rattle.std.specs.Prelude.{◌≡◌, ℕ, ◌+◌, ◌≤◌, List, [], ◌∷◌, ◌++◌, length, map, take, drop, All}
use Rattle.mask_bits.specs.Lanes.{lane}
use Rattle.mask_circuit.specs.Netlist.{Netlist}
use Rattle.mask_circuit.specs.Ring.{words}
use Rattle.mask_circuit.specs.Wires.{each, on_first}
use Rattle.mask_trace.specs.Steps as steps
use Rattle.mask_chain.specs.declared.evaluations.Source.{Source}
use Rattle.mask_chain.specs.declared.evaluations.Source.TheVariants.{Key, State, Public}
use Rattle.mask_chain.specs.declared.evaluations.Keep.{Keep}
use Rattle.mask_chain.specs.declared.evaluations.Keep.TheVariants.{AsKey, AsState}
use Rattle.mask_chain.specs.declared.evaluations.Evaluation.{Evaluation}

-- the bits of a source, and of all of these
abbrev pub source_bits : Source → List steps.InputBit
source_bits (Key from count) = each (λ j. steps.Key (from + j)) count
source_bits (State count) = each steps.State count
source_bits (Public bits) = map steps.Public (lane 0 bits.now)

abbrev pub input_bits : List Source → List steps.InputBit
input_bits [] = []
input_bits (source ∷ sources) = source_bits source ++ input_bits sources

-- all inputs: those before the bits of the message, these, and those behind them
abbrev pub inputs_of : List Source → List ℕ → List Source → List steps.InputBit
inputs_of before message behind = input_bits before ++ (map steps.Plain (lane 0 message) ++ input_bits behind)

abbrev pub keeps : Keep → steps.Keeps
keeps AsKey = steps.AsKey
keeps AsState = steps.AsState

-- the step that an evaluation of this circuit is
abbrev pub step : Netlist → Evaluation → steps.Step
step circuit e = record {
  circuit = circuit;
  inputs = inputs_of e.before.now e.message.now e.behind.now;
  keeps = keeps e.keep;
}

-- a source has its bits, where the key has k bits and the state s
abbrev pub IsThere : ℕ → ℕ → Source → Type 0
IsThere k s (Key from count) = from + count ≤ k
IsThere k s (State count) = count ≤ s
IsThere k s (Public bits) = Unit {0}

-- The circuit takes what it is given, and its outputs fit where they are kept.
pub record Suits (k s : ℕ) (circuit : Netlist) (e : Evaluation) : Type 0 where
  pub before : All (IsThere k s) e.before.now
  pub behind : All (IsThere k s) e.behind.now
  pub count : length (step circuit e).inputs ≡ circuit.inputs
  pub fit : steps.Fit k (keeps e.keep) circuit

-- for the code: the words of a source and of all of these, where the key and the state have these words
abbrev pub laid : ℕ → List (List ℕ) → List (List ℕ) → Source → List (List ℕ)
laid N key state (Key from count) = take count (drop from key)
laid N key state (State count) = take count state
laid N key state (Public bits) = map (λ w. each (on_first words w) N) bits.now

abbrev pub all_laid : ℕ → List (List ℕ) → List (List ℕ) → List Source → List (List ℕ)
all_laid N key state [] = []
all_laid N key state (source ∷ sources) = laid N key state source ++ all_laid N key state sources
