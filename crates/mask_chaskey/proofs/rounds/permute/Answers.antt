use Rattle.std.proofs.Common.{◌≡◌, ℕ, ◌+◌, ◌<◌, List, length, arith}
use Rattle.mask_circuit.specs.Netlist.{Netlist, IsCircuit}
use Rattle.mask_parts.specs.Drafts.{Grows, IsWithinLimits}
use Rattle.mask_parts.specs.Words32.{AreWordsOf}
use Rattle.mask_parts.proofs.Laying.{IsWithinLimits-circuit, IsRefused-within}
use Rattle.mask_parts.proofs.Turns.{HasRun, HasRun-none, HasRun-more, begun-run, left-run}
use Rattle.mask_chaskey.specs.Rounds.{Stage, stage, with_round, with_permutation}
use Rattle.mask_chaskey.proofs.Calling.{IsFine-known, known-fine, stage-is, HasRun-done}
use Rattle.mask_chaskey.proofs.Lengthening.{Lengthens-round}
use Rattle.mask_chaskey.proofs.Running.{Runs-rounds}
use Rattle.mask_chaskey.proofs.rounds.permute.Goals as goal

module _ (b c : Netlist) (xs us : List (List ℕ)) (k : ℕ) (has : HasRun (λ (s : Stage). s.draft) (λ i. with_round) (stage b xs) (stage c us) k) where
  -- the words so far are four of the draft's
  known : IsCircuit b → length xs ≡ 4 → AreWordsOf b xs → (length us ≡ 4) × AreWordsOf c us
  known circuit long x_known = known-fine c us (rw has.is (Runs-rounds ⊥ (stage b xs) (IsFine-known b xs circuit.formed.gates long x_known) k).fine)

  begun : Grows b c
  unfolding stage
  begun = begun-run (λ i. with_round) (λ i. Lengthens-round) (stage b xs) (stage c us) k 0 has

  left : k < 12 → Grows (with_round (stage c us)).draft (with_permutation (stage b xs)).draft
  unfolding with_permutation
  left inside = left-run (λ i. with_round) (λ i. Lengthens-round) (stage b xs) (stage c us) k 12 has inside

  stepped : (d : Netlist) (vs : List (List ℕ)) → vs ≡ (with_round (stage c us)).block → d ≡ (with_round (stage c us)).draft → IsWithinLimits (with_round (stage c us)).draft
      → HasRun (λ (s : Stage). s.draft) (λ i. with_round) (stage b xs) (stage d vs) (k + 1)
  stepped d vs block draft within =
      let is = stage-is d vs (with_round (stage c us)) block draft in
      HasRun-more (λ i. with_round) (stage b xs) (stage c us) (stage d vs) k has is (rw is within)

pub loop-i-init : goal.loop-i-init
loop-i-init c = HasRun-none _ (stage c.args.b.now c.args.block.now) (unfold stage in IsWithinLimits-circuit c.args.b.now c.values-values.ensures.circuit)

pub round-requires : goal.round-requires
round-requires c =
    (known c.args.b.now c.loop-i.b c.args.block.now c.loop-i.state c.loop-i._i c.loop-i.invariant c.values-values.ensures.circuit c.told-block c.requires).1

pub returns-in-Err : goal.returns-in-Err
returns-in-Err c =
    let b = c.args.b.now in
    IsRefused-within b c.loop-i.b _ c.round.new.b _ c.in-Err.e (begun b c.loop-i.b c.args.block.now c.loop-i.state c.loop-i._i c.loop-i.invariant)
    (left b c.loop-i.b c.args.block.now c.loop-i.state c.loop-i._i c.loop-i.invariant c.loop-i-test.true) c.in-Err.ensures

pub loop-i-preserved : goal.loop-i-preserved
loop-i-preserved c =
    let laid = c.in-Ok.ensures in
    stepped c.args.b.now c.loop-i.b c.args.block.now c.loop-i.state c.loop-i._i c.loop-i.invariant c.round.new.b c.in-Ok.state laid.0 laid.1 laid.2

pub returns : goal.returns
unfolding with_permutation
returns c =
    let last : c.loop-i._i ≡ 12 = let high = c.loop-i.auto._i-end in let low = c.loop-i-test.false in omega arith in
    HasRun-done (λ i. with_round) (stage c.args.b.now c.args.block.now) c.loop-i.b c.loop-i.state 12 (rw last at c.loop-i.invariant)
