-- What `probe` writes; W has the numbers of the wires that are asked about.
use Rattle.std.specs.Prelude.{◌≡◌, ℕ, suc, Bool, List, [], ◌∷◌, ◌++◌, length, map, drop, codes, decimal, if◌then◌else◌}
use Rattle.std.specs.declared.option.Option.{Option}
use Rattle.mask_circuit.specs.Netlist.{Netlist}
use Rattle.mask_circuit.specs.Wires.{joined}
use Rattle.mask_circuit.specs.Probing.{HasAtMost, IsSimulated}
use Rattle.mask_circuit.specs.Need.{ShareSet, need}
use Rattle.mask_circuit.specs.Acceptance.{IsAccepted}
use Rattle.mask_circuit.specs.Text.{spaced}
use Rattle.mask_sni.specs.Asked.{members}
use Rattle.mask_probe.specs.Asking.{AreProbes}
use Rattle.mask_text.specs.Text.{IsTextOf}
use Rattle.mask_words.specs.WordTests.{Word, number_of}
use Rattle.mask_status.specs.declared.status.Status.{Status}
use Rattle.mask_status.specs.declared.status.Status.TheVariants.{BadProbe, NoMemory}
use Rattle.mask_inspect.specs.Checks.{IsBadProbe}
use Rattle.mask_status.specs.Ends.{Writes}

-- the numbers of the WIRE words: those from the fifth word on
abbrev pub wires_of : List Word → List ℕ
wires_of ws = map number_of (drop 4 ws)

-- numbers with a space between them, or `none`
abbrev pub numbers_text : List ℕ → List ℕ
numbers_text [] = codes "none"
numbers_text (i ∷ is) = spaced (map decimal (i ∷ is))

-- what a share adds to the text: its number where it is needed, behind a space where it isn't the first one
abbrev pub share_text : ℕ → Bool → Bool → List ℕ
share_text share needed is_first = if needed then (if is_first then decimal share else (32 ∷ decimal share)) else []

-- the line of input v, of which this set of shares is needed
abbrev pub need_line : ℕ → ShareSet → ℕ → List ℕ
need_line N set v = codes "input " ++ decimal v ++ codes ": " ++ numbers_text (members N set) ++ 10 ∷ []

-- the report on these wires: a line for each input
abbrev pub need_report : Netlist → ℕ → List ℕ → List ℕ
need_report c N W = joined (λ v. need_line N (need c N W v) v) c.inputs

-- The wires are fewer than the shares, and the report names a set of shares that suffices: at most as many of each input
-- as there are wires, and what the wires show has the same distribution for all inputs that agree on them.
pub record IsNeedReport (c : Netlist) (N : ℕ) (W : List ℕ) (report : List ℕ) : Type 0 where
  pub probes : AreProbes c N W
  pub few_shares : HasAtMost c N (need c N W) (length W)
  pub simulated : IsSimulated c N W (need c N W)
  pub line : report ≡ need_report c N W

-- why there is no report on these wires of an accepted circuit
abbrev pub RefusesProbes : Netlist → ℕ → List ℕ → Status → Type 0
RefusesProbes c N W (BadProbe place) = IsBadProbe c N W place
RefusesProbes c N W NoMemory = Unit {0}
RefusesProbes c N W status = ⊥

-- the report on an accepted circuit for which the text stands was written, or a part of it
pub record PrintsNeed (text : List ℕ) (order : ℕ) (W : List ℕ) (before now : Option (List ℕ)) (status : Status) : Type 0 where
  pub circuit : Netlist
  pub report : List ℕ
  pub is_text : IsTextOf text circuit
  pub accepted : IsAccepted circuit
  pub needs : IsNeedReport circuit (suc order) W report
  pub written : Writes report before now status
