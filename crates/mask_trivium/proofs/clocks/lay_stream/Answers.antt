use Rattle.std.proofs.Common.{◌≡◌, ℕ, ◌+◌, ◌<◌, List, [], ◌∷◌, ◌++◌, length, take, set, refl, ap, sym, ◌∙◌, subst, arith}
use Rattle.std.proofs.lemmas.Grind.{take-set_at}
use Rattle.std.proofs.lemmas.List.{length-set, take_all}
use Rattle.mask_circuit.specs.Netlist.{Netlist}
use Rattle.mask_parts.specs.Drafts.{IsWithinLimits}
use Rattle.mask_parts.proofs.Laying.{IsWithinLimits-circuit, Lays-exit}
use Rattle.mask_parts.proofs.Passing.{AreOf-ready}
use Rattle.mask_trivium.specs.Clocks.{Stage, stage, stream, with_clock, with_clocks}
use Rattle.mask_trivium.proofs.Calling.{IsFine-stage, stage-clock, HasRun, HasRun-none, HasRun-more, HasRun-all, left-behind}
use Rattle.mask_trivium.proofs.Clocking.{IsClock-stream}
use Rattle.mask_trivium.proofs.clocks.lay_stream.Goals as goal

pub loop-k-init : goal.loop-k-init
unfolding stage
loop-k-init c =
    let b = c.args.b.now in let circuit = c.values-values.ensures.circuit in
    record {
      long = refl;
      run = HasRun-none stream 64 (stage b c.args.state.now []) (IsWithinLimits-circuit b circuit) (IsFine-stage b c.args.state.now circuit.formed.gates c.told-state c.requires);
    }

pub stream_clock-requires : goal.stream_clock-requires
unfolding stage
stream_clock-requires c = AreOf-ready ⊥ c.loop-k.b c.loop-k.state c.loop-k.invariant.run.fine.state

pub returns-in_err-outputs-clause-laid : goal.returns-in_err-outputs-clause-laid
unfolding stage with_clock
returns-in_err-outputs-clause-laid c =
    Lays-exit _ c.loop-k.b _ _ _ _ _ _ c.from_residual.ensures.1 c.loop-k.invariant.run.begun
    (left-behind stream 17 _ IsClock-stream 64 _ _ c.loop-k.k c.loop-k.invariant.run c.loop-k-test.true)
    c.in_err-outputs.ensures.laid

pub loop-k-preserved : goal.loop-k-preserved
unfolding stage
loop-k-preserved c =
    let k = c.loop-k.k in
    let us = c.loop-k.outputs in
    let z = c.in_ok-outputs.field-0 in
    let low : k < length us = rw c.loop-k.invariant.long c.loop-k-test.true in
    let laid = c.in_ok-outputs.ensures.laid in
    let more : take (k + 1) (set us k z) ≡ take k us ++ (z ∷ []) = take-set_at us k (k + 1) z refl low in
    let is = stage-clock stream c.loop-k.b c.stream_clock.new.b c.loop-k.state c.stream_clock.new.state (take k us) _ laid.1 c.in_ok-outputs.ensures.moved (more ∙ rw laid.0 refl) in
    record {
      long = length-set us k z ∙ c.loop-k.invariant.long;
      run = HasRun-more stream 17 _ IsClock-stream 64 _ _ k c.loop-k.invariant.run _ c.loop-k-test.true is (subst IsWithinLimits (sym laid.1) laid.2);
    }

-- the stage after the loop
ended : (b d : Netlist) (xs ys us : List ℕ) (k : ℕ) → length us ≡ 64 → k ≡ 64 → HasRun stream 64 (stage b xs []) (stage d ys (take k us)) k
    → stage d ys us ≡ with_clocks stream 64 (stage b xs [])
ended b d xs ys us k long end run =
    ap (stage d ys) (sym (take_all k us (omega arith))) ∙ HasRun-all stream 64 (stage b xs []) (stage d ys (take k us)) k run end

pub returns : goal.returns
unfolding stage
returns c =
    let last : c.loop-k.k ≡ 64 = let high = c.loop-k.auto.k-end in let low = c.loop-k-test.false in omega arith in
    let is = c.loop-k.invariant in
    let whole = ended c.args.b.now c.loop-k.b c.args.state.now c.loop-k.state c.loop-k.outputs c.loop-k.k is.long last is.run in
    let draft = ap (λ (t : Stage). t.draft) whole in
    record {
      laid = (ap (λ (t : Stage). t.outputs) whole, draft, subst IsWithinLimits draft is.run.within);
      moved = ap (λ (t : Stage). t.state) whole;
    }
