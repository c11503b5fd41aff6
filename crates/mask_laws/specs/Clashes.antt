-- The clash of a circuit as a value that can be computed, and what it says of acceptance.
use Rattle.std.specs.Prelude.{◌≡◌, ℕ, suc, ◌↔◌, Bool, true, false, cond, ◌&&◌, ◌||◌, ◌==◌, nat_lt, List, [], ◌∷◌, Some, None}
use Rattle.std.specs.declared.option.Option.{Option}
use Rattle.mask_circuit.specs.declared.gates.Gate.{Gate}
use Rattle.mask_circuit.specs.declared.gates.Gate.TheVariants.{Zero, One, Xor, Not, And, Ref}
use Rattle.mask_circuit.specs.Netlist.{Netlist, IsWellFormed}
use Rattle.mask_circuit.specs.Acceptance.{Reaches, IsAccepted, IsClash, IsTidy}
use Rattle.mask_circuit.specs.Shift.{least}

-- For each value the sources that it reaches.
abbrev pub Table : Type 0
Table = ℕ → ℕ → Bool

-- whether value n reaches s, where g makes it and R has the values before it
abbrev pub gate_reach : Gate → ℕ → Table → ℕ → Bool
gate_reach Zero n R s = false
gate_reach One n R s = false
gate_reach (Xor u v) n R s = R u s || R v s
gate_reach (Not u) n R s = R u s
gate_reach (And u v) n R s = s == n
gate_reach (Ref u) n R s = s == n

-- the table after these gates, the first of which makes value n
abbrev pub reach_from : List Gate → ℕ → Table → Table
reach_from [] n R = R
reach_from (g ∷ gs) n R = reach_from gs (suc n) (λ u s. cond (u == n) (gate_reach g n R s) (R u s))

-- the table of a circuit: an input reaches itself
unfoldable pub reach : Netlist → Table
reach c = reach_from c.gates c.inputs (λ u s. nat_lt u c.inputs && u == s)

-- the lowest source that both operands of a product reach, where the product is value n
abbrev pub shared_source : Table → Gate → ℕ → Option ℕ
shared_source R Zero n = None
shared_source R One n = None
shared_source R (Xor u v) n = None
shared_source R (Not u) n = None
shared_source R (And u v) n = least (λ s. R u s && R v s) n
shared_source R (Ref u) n = None

-- value n with its source if there is one, else what comes later
abbrev pub or_later : ℕ → Option ℕ → Option (ℕ × ℕ) → Option (ℕ × ℕ)
or_later n (Some s) later = Some (n, s)
or_later n None later = later

-- the first of these gates whose operands share a source, with the lowest source that they share
abbrev pub clash_from : Table → List Gate → ℕ → Option (ℕ × ℕ)
clash_from R [] n = None
clash_from R (g ∷ gs) n = or_later n (shared_source R g n) (clash_from R gs (suc n))

-- The lowest product whose operands share a source, and their lowest shared source.
unfoldable pub clash : Netlist → Option (ℕ × ℕ)
clash c = clash_from (reach c) c.gates c.inputs

-- A circuit with tidy gates is accepted.
abbrev pub TidyIsAccepted : Type 0
TidyIsAccepted = (c : Netlist) → IsTidy c → IsAccepted c

-- A circuit has one clash at most ..
abbrev pub ClashIsUnique : Type 0
ClashIsUnique = (c : Netlist) (p s q t : ℕ) → IsClash c p s → IsClash c q t → (p ≡ q) × (s ≡ t)

-- .. and with a clash it isn't accepted.
abbrev pub ClashRefutes : Type 0
ClashRefutes = (c : Netlist) (p s : ℕ) → IsClash c p s → IsAccepted c → ⊥

-- The table holds just what reaches what.
abbrev pub TableReaches : Type 0
TableReaches = (c : Netlist) → IsWellFormed c → (u s : ℕ) → (reach c u s ≡ true) ↔ Reaches c u s

-- The computed clash is None just where the circuit is accepted, and else its clash.
abbrev pub ClashDecides : Type 0
ClashDecides = (c : Netlist) → IsWellFormed c →
    ((clash c ≡ None) ↔ IsAccepted c) × ((p s : ℕ) → (clash c ≡ Some (p, s)) ↔ IsClash c p s)
