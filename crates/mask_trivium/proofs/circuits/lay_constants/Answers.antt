use Rattle.std.proofs.Common.{◌≡◌, ℕ, [], ◌∷◌, Ok, Err, ap, ap₂, sym, ◌∙◌, subst}
use Rattle.std.specs.List.{range_with_len}
use Rattle.mask_circuit.specs.declared.gates.Gate.TheVariants.{Zero, One}
use Rattle.mask_circuit.specs.Netlist.{Netlist, value_count, only_inputs, with_gate}
use Rattle.mask_parts.specs.Drafts.{with_gates, Grows, IsWithinLimits}
use Rattle.mask_parts.proofs.Growing.{with_gates-with_gates, Grows-refl, Grows-with_gates}
use Rattle.mask_parts.proofs.Laying.{IsWithinLimits-circuit, Lays-from_gate, Lays-exit}
use Rattle.mask_trivium.specs.Clocks.{stage}
use Rattle.mask_trivium.specs.NamedTrivium.{start}
use Rattle.mask_trivium.specs.Trivium.{loaded}
use Rattle.mask_trivium.proofs.circuits.lay_constants.Goals as goal

-- both constants make the draft at the start
both : (b : Netlist) → b ≡ only_inputs 160 → with_gates (with_gates b (Zero ∷ [])) (One ∷ []) ≡ start.draft
unfolding start stage
both b is = with_gates-with_gates b (Zero ∷ []) (One ∷ []) ∙ ap (λ (d : Netlist). with_gates d (Zero ∷ One ∷ [])) is

-- the first of them grows to that
left : (b : Netlist) → b ≡ only_inputs 160 → Grows (with_gates b (Zero ∷ [])) start.draft
left b is = rw (← both b is) (Grows-with_gates (with_gates b (Zero ∷ [])) (One ∷ []))

pub returns-in_err-zero : goal.returns-in_err-zero
returns-in_err-zero c =
    let b = c.args.b.now in
    let e = c.in_err-zero.field-0.0 in
    let refused = c.in_err-zero.ensures in
    Lays-exit b b (with_gates b (Zero ∷ [])) _ _ _ _ e c.from_residual.ensures.1 (Grows-refl b) (left b c.requires)
    (Lays-from_gate b Zero c.zero.new.self (Err e) (IsWithinLimits-circuit b c.values-values.ensures.circuit) refused.made refused.full refused.same)

pub returns-in_err-one : goal.returns-in_err-one
returns-in_err-one c =
    let b = c.args.b.now in
    let e = c.in_err-one.field-0.0 in
    let told = c.in_ok-zero.ensures in
    let refused = c.in_err-one.ensures in
    let first = Lays-from_gate b Zero c.zero.new.self (Ok c.in_ok-zero.zero) (IsWithinLimits-circuit b c.values-values.ensures.circuit) told.made told.full told.same in
    let within : IsWithinLimits c.zero.new.self = subst IsWithinLimits (sym first.1) first.2 in
    Lays-exit b c.zero.new.self (with_gates c.zero.new.self (One ∷ [])) _ _ _ _ e c.from_residual-in_err-one.ensures.1 (subst (Grows b) (sym first.1) (Grows-with_gates b (Zero ∷ [])))
    (rw (first.1, both b c.requires) (Grows-refl start.draft))
    (Lays-from_gate c.zero.new.self One c.one.new.self (Err e) within refused.made refused.full refused.same)

-- the draft c was made of the inputs by the first constant, and d by the second one
module _ (b c d : Netlist) (nought one : ℕ) (is : b ≡ only_inputs 160) (first : (nought ≡ value_count b) × (c ≡ with_gate b Zero)) (second : (one ≡ value_count c) × (d ≡ with_gate c One)) where
  between : c ≡ with_gate (only_inputs 160) Zero
  between = first.1 ∙ ap (λ (e : Netlist). with_gate e Zero) is

  drafted : d ≡ start.draft
  unfolding start stage with_gates
  drafted = second.1 ∙ ap (λ (e : Netlist). with_gate e One) between

  started : loaded nought one (range_with_len 0 80) (range_with_len 80 80) ≡ start.state
  unfolding start stage
  started =
      let zeroth : nought ≡ 160 = first.0 ∙ ap (λ (e : Netlist). value_count e) is in
      let next : one ≡ 161 = second.0 ∙ ap (λ (e : Netlist). value_count e) between in
      ap₂ (λ (n m : ℕ). loaded n m (range_with_len 0 80) (range_with_len 80 80)) zeroth next

pub returns : goal.returns
returns c =
    let b = c.args.b.now in
    let zero = c.in_ok-zero.ensures in
    let one = c.in_ok-one.ensures in
    let draft = drafted b c.zero.new.self c.one.new.self c.in_ok-zero.zero c.in_ok-one.one c.requires zero.made one.made in
    let first = Lays-from_gate b Zero c.zero.new.self (Ok c.in_ok-zero.zero) (IsWithinLimits-circuit b c.values-values.ensures.circuit) zero.made zero.full zero.same in
    let second = Lays-from_gate c.zero.new.self One c.one.new.self (Ok c.in_ok-one.one) (subst IsWithinLimits (sym first.1) first.2) one.made one.full one.same in (
      c.load.ensures ∙ started b c.zero.new.self c.one.new.self c.in_ok-zero.zero c.in_ok-one.one c.requires zero.made one.made,
      draft,
      subst IsWithinLimits (sym second.1 ∙ draft) second.2,
    )
