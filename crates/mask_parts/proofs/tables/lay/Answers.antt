use Rattle.std.proofs.Common.{◌≡◌, ℕ, ◌+◌, ◌<◌, ◌≤◌, List, ◌∷◌, length, drop, get_or, sym, subst, arith}
use Rattle.std.proofs.lemmas.List.{drop_more, drop_all}
use Rattle.mask_circuit.specs.Netlist.{Netlist}
use Rattle.mask_parts.specs.declared.tables.Place.TheVariants.{Given}
use Rattle.mask_parts.specs.declared.tables.Step.{Step}
use Rattle.mask_parts.specs.declared.tables.Step.TheVariants.{Xor}
use Rattle.mask_parts.specs.Drafts.{IsWithinLimits}
use Rattle.mask_parts.proofs.Growing.{value_count-Grows}
use Rattle.mask_parts.proofs.Laying.{IsWithinLimits-circuit, IsUnderWay-exit}
use Rattle.mask_parts.proofs.PartGates.{bits_of-with_part}
use Rattle.mask_parts.proofs.PartLaying.{IsPartUnderWay, IsPartUnderWay-first, IsPartUnderWay-done, next_places, next_part, next_more}
use Rattle.mask_parts.proofs.PartTidiness.{KeepsTidy-part}
use Rattle.mask_parts.proofs.tables.lay.Goals as goal

-- what stands past the end of a table
abbrev no_step : Step
no_step = Xor (Given 0) (Given 0)

-- the next step is what is left first
at_step : (before now whole : Netlist) (first : ℕ) (xs : List ℕ) (ss : List Step) (i : ℕ) → i < length ss → IsPartUnderWay before now first xs (drop i ss) whole →
    IsPartUnderWay before now first xs (get_or ss i no_step ∷ drop (i + 1) ss) whole
at_step before now whole first xs ss i lt way =
    subst (λ (rest : List Step). IsPartUnderWay before now first xs rest whole) (drop_more ss i no_step lt) way

pub loop-step-init : goal.loop-step-init
loop-step-init c =
    IsPartUnderWay-first c.args.b.now c.values-first.result c.args.operands.now c.args.steps.now c.values-first.ensures.count c.requires.sound
    (IsWithinLimits-circuit c.args.b.now c.values-first.ensures.circuit)

pub lay_step-requires-clause-begun : goal.lay_step-requires-clause-begun
lay_step-requires-clause-begun c = omega (arith, c.loop-step.invariant.count)

pub lay_step-requires-clause-known : goal.lay_step-requires-clause-known
lay_step-requires-clause-known c =
    let grown = value_count-Grows c.args.b.now c.loop-step.b c.loop-step.invariant.way.begun in
    λ k d lt. (let known = c.requires.known k d lt in omega arith)

pub lay_step-requires-clause-places : goal.lay_step-requires-clause-places
lay_step-requires-clause-places c =
    next_places _ _ _ _ _ _ _ (at_step _ _ _ _ c.args.operands.now _ _ c.loop-step-test.true c.loop-step.invariant)

pub returns-in_err-lay_step-clause-laid : goal.returns-in_err-lay_step-clause-laid
returns-in_err-lay_step-clause-laid c =
    let way = at_step _ _ _ _ c.args.operands.now _ _ c.loop-step-test.true c.loop-step.invariant in
    IsUnderWay-exit c.args.b.now c.loop-step.b _ _ _ c.lay_step.new.b _ c.from_residual.result c.in_err-lay_step.field-0.0 c.from_residual.ensures.1
    way.way (next_part _ _ _ _ _ _ _ way) c.in_err-lay_step.ensures

pub loop-step-preserved : goal.loop-step-preserved
loop-step-preserved c =
    let laid = c.in_ok-lay_step.ensures in
    next_more _ _ _ _ _ _ _ (at_step _ _ _ _ c.args.operands.now _ _ c.loop-step-test.true c.loop-step.invariant)
    c.lay_step.new.b laid.1 (subst IsWithinLimits (sym laid.1) laid.2)

-- nothing is left at the end
at_end : (before now whole : Netlist) (first : ℕ) (xs : List ℕ) (ss : List Step) (i : ℕ) → length ss ≤ i → IsPartUnderWay before now first xs (drop i ss) whole →
    (now ≡ whole) × IsWithinLimits whole
at_end before now whole first xs ss i le way =
    IsPartUnderWay-done before now whole first xs
    (subst (λ (rest : List Step). IsPartUnderWay before now first xs rest whole) (drop_all i ss le) way)

pub returns-clause-laid : goal.returns-clause-laid
returns-clause-laid c =
    let end = at_end _ _ _ _ c.args.operands.now _ _ c.loop-step-test.false c.loop-step.invariant in
    (c.values-first.ensures.count, end.0, end.1)

pub returns-clause-plain : goal.returns-clause-plain
returns-clause-plain c =
    let end = at_end _ _ _ _ c.args.operands.now _ _ c.loop-step-test.false c.loop-step.invariant in
    λ x long. rw (end.0, c.values-first.ensures.count) (bits_of-with_part c.args.b.now c.args.operands.now c.args.steps.now x c.requires.known c.requires.sound long)

pub returns-clause-tidy : goal.returns-clause-tidy
returns-clause-tidy c =
    let end = at_end _ _ _ _ c.args.operands.now _ _ c.loop-step-test.false c.loop-step.invariant in
    λ tidy free. rw (end.0, c.values-first.ensures.count)
    (KeepsTidy-part c.args.b.now c.args.operands.now c.args.steps.now c.values-first.ensures.circuit.formed.gates c.requires.known c.requires.sound tidy free)
