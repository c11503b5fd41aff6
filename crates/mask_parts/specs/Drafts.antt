-- Drafts: circuits under construction, as contracts see a `Builder`, and what a call that lays gates makes of one.
use Rattle.std.specs.Prelude.{◌≡◌, ℕ, ◌≤◌, Bool, List, ◌++◌, length, map, Result, MatchResult}
use Rattle.mask_circuit.specs.declared.gates.Gate.{Gate}
use Rattle.mask_circuit.specs.declared.builders.CircuitError.{CircuitError}
use Rattle.mask_circuit.specs.declared.builders.CircuitError.TheVariants.{TooManyValues}
use Rattle.mask_circuit.specs.Netlist.{Netlist, value_count}
use Rattle.mask_circuit.specs.Value.{value_at, plain_values}

-- more gates, at the end
unfoldable pub with_gates : Netlist → List Gate → Netlist
with_gates c gs = record c { gates = c.gates ++ gs }

-- more outputs, at the end
unfoldable pub with_outputs : Netlist → List ℕ → Netlist
with_outputs c us = record c { outputs = c.outputs ++ us }

-- the bits of these values on the input bits x
unfoldable pub bits_of : Netlist → List Bool → List ℕ → List Bool
bits_of c x us = map (λ u. value_at (plain_values c x) u) us

-- the draft after is the one before, and perhaps more gates and more outputs behind its own
pub record Grows (before after : Netlist) : Type 0 where
  pub gates : List Gate
  pub outputs : List ℕ
  pub grown : after ≡ with_outputs (with_gates before gates) outputs

-- as large as a circuit may be
pub record IsWithinLimits (c : Netlist) : Type 0 where
  pub values : value_count c ≤ 1_000_000
  pub outputs : length c.outputs ≤ 1_000_000

-- A call that was to make whole of the draft before has refused: the draft after has the gates and outputs of whole that
-- were made so far. There are too many values only where whole is larger than a circuit may be.
pub record IsRefused (before whole after : Netlist) (e : CircuitError) : Type 0 where
  pub begun : Grows before after
  pub part : Grows after whole
  pub too_many : e ≡ TooManyValues → ¬ IsWithinLimits whole

-- What a call gives that is to make whole of the draft before and to hand back an answer, from a single gate up to a
-- circuit: it did so, and whole is as large as a circuit may be, or it refused. So it refuses for too many values exactly
-- where whole would be larger than that, unless there is no memory.
abbrev pub Lays : {A : Type 0} → Netlist → Netlist → A → Netlist → Result A CircuitError → Type 0
Lays before whole answer after r = MatchResult r
    (λ a. (a ≡ answer) × (after ≡ whole) × IsWithinLimits whole)
    (λ e. IsRefused before whole after e)
