use Rattle.std.proofs.Common.{◌≡◌, ℕ, List, ap, ◌∙◌, subst, arith}
use Rattle.mask_circuit.specs.Netlist.{Netlist, IsCircuit}
use Rattle.mask_tasks.specs.declared.sizes.LeaSize.{LeaSize}
use Rattle.mask_parts.specs.Drafts.{IsWithinLimits}
use Rattle.mask_parts.specs.Turns.{in_turn}
use Rattle.mask_parts.proofs.Laying.{IsWithinLimits-circuit, IsRefused-within}
use Rattle.mask_parts.proofs.Turns.{HasRun, HasRun-none, HasRun-more, begun-run, left-run}
use Rattle.mask_lea.specs.Lea.{schedule}
use Rattle.mask_lea.specs.Rounds.{Stage, stage, with_round, with_rounds}
use Rattle.mask_lea.proofs.Calling.{IsKnown, IsKnown-from, IsKnown-run, stage-round}
use Rattle.mask_lea.proofs.Lengthening.{Lengthens-round}
use Rattle.mask_lea.proofs.Running.{IsShape-schedule, Runs-round}
use Rattle.mask_lea.proofs.rounds.encrypt.Goals as goal

-- the stage in the loop is known
known : (size : LeaSize) (i : ℕ) (b c : Netlist) (nought one : ℕ) (key now us vs : List (List ℕ)) → IsCircuit b → IsKnown (schedule size) 4 b nought one key us
    → HasRun (λ (s : Stage). s.draft) (with_round (schedule size)) (stage b nought one key us) (stage c nought one now vs) i → IsKnown (schedule size) 4 c nought one now vs
known size i b c nought one key now us vs circuit at_first has =
    IsKnown-run (schedule size) 4 (with_round (schedule size)) (λ k s fine. (Runs-round ⊥ (schedule size) (IsShape-schedule size) k s fine).fine)
    b c nought one key now us vs i circuit.formed.gates at_first has

pub loop-i-init : goal.loop-i-init
unfolding stage
loop-i-init c = HasRun-none _ (stage c.args.b.now c.args.zero c.args.one c.args.key.now c.args.block.now) (IsWithinLimits-circuit c.args.b.now c.values-values.ensures.circuit)

pub round-requires : goal.round-requires
round-requires c =
    let at_first = IsKnown-from (schedule c.args.size) 4 c.args.b.now c.args.zero c.args.one c.args.key.now c.args.block.now c.requires.zero_known c.requires.one_known
    c.requires.width c.requires.key_known c.told-block c.requires.block_known in
    let now = known c.args.size c.loop-i.i c.args.b.now c.loop-i.b c.args.zero c.args.one c.args.key.now c.loop-i.key c.args.block.now c.loop-i.state c.values-values.ensures.circuit at_first
    c.loop-i.invariant in
    record {
      width = now.width;
      key_known = now.key_known;
      block_known = now.block_known;
      zero_known = now.nought_known;
      one_known = now.one_known;
      few = (let low = rw c.rounds-i-end.ensures at c.loop-i-test.true in let short = (IsShape-schedule c.args.size).short in omega arith);
    }

pub returns-in-Err : goal.returns-in-Err
unfolding with_rounds stage
returns-in-Err c =
    let r = schedule c.args.size in
    IsRefused-within _ c.loop-i.b _ _ _ _
    (begun-run (with_round r) (Lengthens-round r) _ _ c.loop-i.i 0 c.loop-i.invariant)
    (left-run (with_round r) (Lengthens-round r) _ _ c.loop-i.i r.rounds c.loop-i.invariant
    (rw c.rounds-i-end.ensures at c.loop-i-test.true))
    c.in-Err.ensures.laid

pub loop-i-preserved : goal.loop-i-preserved
loop-i-preserved c =
    let r = schedule c.args.size in
    let is = stage-round r c.loop-i.i c.loop-i.b c.round.new.b c.args.zero c.args.one c.loop-i.key c.round.new.key c.loop-i.state c.in-Ok.state c.in-Ok.ensures.laid.1 c.in-Ok.ensures.updated c.in-Ok.ensures.laid.0 in
    HasRun-more (with_round r) _ _ _ c.loop-i.i c.loop-i.invariant is (rw is c.in-Ok.ensures.laid.2)

pub returns : goal.returns
unfolding with_rounds stage
returns c =
    let r = schedule c.args.size in
    let last : c.loop-i.i ≡ r.rounds =
    let count = c.rounds-i-end.ensures in let high = c.loop-i.auto.i-end in let low = c.loop-i-test.false in omega arith in
    let before = stage c.args.b.now c.args.zero c.args.one c.args.key.now c.args.block.now in
    let whole : stage c.loop-i.b c.args.zero c.args.one c.loop-i.key c.loop-i.state ≡ with_rounds r before =
    c.loop-i.invariant.is ∙ ap (λ (n : ℕ). in_turn (with_round r) n before) last in
    let draft : c.loop-i.b ≡ (with_rounds r before).draft = ap (λ (s : Stage). s.draft) whole in
    (ap (λ (s : Stage). s.block) whole, draft, subst IsWithinLimits draft c.loop-i.invariant.within)
