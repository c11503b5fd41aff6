use Rattle.std.proofs.Common.{◌≡◌, [], refl, ap, sym, subst, arith}
use Rattle.mask_parts.specs.Drafts.{IsWithinLimits}
use Rattle.mask_parts.proofs.Laying.{IsWithinLimits-circuit, Lays-exit}
use Rattle.mask_parts.proofs.Passing.{AreOf-ready}
use Rattle.mask_trivium.specs.Clocks.{Stage, stage, setup}
use Rattle.mask_trivium.proofs.Calling.{IsFine-stage, stage-clock, HasRun-none, HasRun-more, HasRun-all, left-behind}
use Rattle.mask_trivium.proofs.Clocking.{IsClock-setup}
use Rattle.mask_trivium.proofs.clocks.lay_setup.Goals as goal

pub loop-clock-init : goal.loop-clock-init
unfolding stage
loop-clock-init c =
    let b = c.args.b.now in let circuit = c.values-values.ensures.circuit in
    HasRun-none setup 1152 (stage b c.args.state.now []) (IsWithinLimits-circuit b circuit) (IsFine-stage b c.args.state.now circuit.formed.gates c.told-state c.requires)

pub setup_clock-requires : goal.setup_clock-requires
unfolding stage
setup_clock-requires c = AreOf-ready ⊥ c.loop-clock.b c.loop-clock.state c.loop-clock.invariant.fine.state

pub returns-in_err-setup_clock-clause-laid : goal.returns-in_err-setup_clock-clause-laid
unfolding stage
returns-in_err-setup_clock-clause-laid c =
    Lays-exit _ c.loop-clock.b _ _ _ _ _ _ c.from_residual.ensures.1 c.loop-clock.invariant.begun
    (left-behind setup 15 _ IsClock-setup 1152 _ _ c.loop-clock._clock c.loop-clock.invariant c.loop-clock-test.true)
    c.in_err-setup_clock.ensures.laid

pub loop-clock-preserved : goal.loop-clock-preserved
unfolding stage
loop-clock-preserved c =
    let b = c.loop-clock.b in
    let laid = c.in_ok-setup_clock.ensures.laid in
    let is = stage-clock setup b c.setup_clock.new.b c.loop-clock.state c.setup_clock.new.state [] [] laid.1 c.in_ok-setup_clock.ensures.moved refl in
    HasRun-more setup 15 _ IsClock-setup 1152 _ _ c.loop-clock._clock c.loop-clock.invariant _ c.loop-clock-test.true is (subst IsWithinLimits (sym laid.1) laid.2)

pub returns : goal.returns
unfolding stage
returns c =
    let last : c.loop-clock._clock ≡ 1152 = let high = c.loop-clock.auto._clock-end in let low = c.loop-clock-test.false in omega arith in
    let whole = HasRun-all setup 1152 (stage c.args.b.now c.args.state.now []) (stage c.loop-clock.b c.loop-clock.state []) c.loop-clock._clock c.loop-clock.invariant last in
    let draft = ap (λ (t : Stage). t.draft) whole in
    record { laid = (refl, draft, subst IsWithinLimits draft c.loop-clock.invariant.within); moved = ap (λ (t : Stage). t.state) whole }
