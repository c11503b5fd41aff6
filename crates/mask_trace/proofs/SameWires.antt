-- The wires of a circuit depend on no more than the N shares of its inputs.
use Rattle.std.proofs.Common.{◌≡◌, ℕ, ◌≤◌, Bool, List, ◌++◌, ap₂, sym, ◌∙◌}
use Rattle.std.proofs.lemmas.List.{map-append}
use Rattle.mask_circuit.specs.Netlist.{Netlist, IsWellFormed, value_count}
use Rattle.mask_circuit.specs.Ring.{bits}
use Rattle.mask_circuit.specs.declared.gates.Wire.TheVariants.{Share}
use Rattle.mask_circuit.specs.Wires.{Shares, each, joined}
use Rattle.mask_circuit.specs.Expansion.{CircuitWire, shares_of, start, expand, names_from, wires}
use Rattle.mask_laws.proofs.Carrying.{run-earlier}
use Rattle.mask_laws.specs.Sharing.{SameShares}
use Rattle.mask_shares.proofs.Lists.{map-each, each-same}
use Rattle.mask_gadget.proofs.Made.{map-joined, joined-same}
use Rattle.mask_eval.specs.Telling.{wires_from}
use Rattle.mask_eval.proofs.Runs.{run-same}
use Rattle.mask_eval.proofs.Told.{wires_from-same, named_from}

module _ (c : Netlist) (N : ℕ) (two : 2 ≤ N) (formed : IsWellFormed c) (r : List Bool) where
  -- the shares of the inputs, and then the wires of the gates
  wires-parts : (x : ℕ → Shares Bool) → wires bits c N x r ≡ joined (λ v. each (x v) N) c.inputs ++ wires_from bits N c.gates c.inputs (start bits x) r
  wires-parts x =
      let carried : CircuitWire → Bool = λ p. expand bits c N x r p.0 p.1 in
      let share_of : ℕ → ℕ → CircuitWire = λ v i. (v, Share i) in
      map-append carried (joined (λ v. each (share_of v) N) c.inputs) (names_from N c.gates c.inputs)
      ∙ ap₂ (λ (xs ys : List Bool). xs ++ ys)
      (map-joined carried (λ v. each (share_of v) N) c.inputs
      ∙ joined-same _ _ c.inputs (λ v lt. map-each carried (share_of v) N
      ∙ each-same _ _ N (λ i small. run-earlier bits N c.gates c.inputs (start bits x) r v (Share i) lt)))
      (named_from bits N c.gates c.inputs (start bits x) r)

  pub wires-same : (x y : ℕ → Shares Bool) → SameShares N c.inputs x y → wires bits c N x r ≡ wires bits c N y r
  wires-same x y same =
      wires-parts x
      ∙ ap₂ (λ (xs ys : List Bool). xs ++ ys)
      (joined-same _ _ c.inputs (λ v lt. each-same _ _ N (λ i small. same v i lt small)))
      (wires_from-same bits N two c.gates c.inputs (start bits x) (start bits y) r formed.gates same)
      ∙ sym (wires-parts y)

  -- and so do the shares of all values
  pub values-same : (x y : ℕ → Shares Bool) → SameShares N c.inputs x y →
      SameShares N (value_count c) (shares_of (expand bits c N x r)) (shares_of (expand bits c N y r))
  values-same x y same = run-same bits N c.gates c.inputs (start bits x) (start bits y) r formed.gates same
