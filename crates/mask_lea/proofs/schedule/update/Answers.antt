use Rattle.std.proofs.Common.{◌≡◌, ℕ, List, [], length, refl, ap, ◌∙◌, subst, arith}
use Rattle.std.proofs.lemmas.List.Elements.{All-nil}
use Rattle.mask_tasks.specs.declared.sizes.LeaSize.{LeaSize}
use Rattle.mask_circuit.specs.Netlist.{Netlist, IsCircuit}
use Rattle.mask_parts.specs.Drafts.{IsWithinLimits}
use Rattle.mask_parts.specs.Turns.{in_turn}
use Rattle.mask_parts.proofs.Laying.{IsWithinLimits-circuit, IsRefused-within}
use Rattle.mask_parts.proofs.Turns.{HasRun, HasRun-none, HasRun-more, begun-run, left-run}
use Rattle.mask_lea.specs.Lea.{schedule}
use Rattle.mask_lea.specs.Rounds.{Stage, stage, with_word_updated, with_key_updated}
use Rattle.mask_lea.proofs.Calling.{IsKnown, IsKnown-run}
use Rattle.mask_lea.proofs.Lengthening.{Lengthens-word_updated}
use Rattle.mask_lea.proofs.Running.{IsShape-schedule, Runs-word_updated}
use Rattle.mask_lea.proofs.schedule.update.Goals as goal

-- the key in the loop is known
known : (size : LeaSize) (i j : ℕ) (b c : Netlist) (nought one : ℕ) (key now : List (List ℕ)) → IsCircuit b → IsKnown (schedule size) 0 b nought one key []
    → HasRun (λ (s : Stage). s.draft) (with_word_updated (schedule size) i) (stage b nought one key []) (stage c nought one now []) j → IsKnown (schedule size) 0 c nought one now []
known size i j b c nought one key now circuit at_first has =
    IsKnown-run (schedule size) 0 (with_word_updated (schedule size) i) (λ k s fine. (Runs-word_updated ⊥ (schedule size) (IsShape-schedule size) 0 i k s fine).fine)
    b c nought one key now [] [] j circuit.formed.gates at_first has

-- a stage without a block, after a step
stepped : (size : LeaSize) (i j : ℕ) (b d : Netlist) (nought one : ℕ) (key now : List (List ℕ)) → d ≡ (with_word_updated (schedule size) i j (stage b nought one key [])).draft
    → now ≡ (with_word_updated (schedule size) i j (stage b nought one key [])).key → stage d nought one now [] ≡ with_word_updated (schedule size) i j (stage b nought one key [])
unfolding with_word_updated stage
stepped size i j b d nought one key now draft_is key_is = rw (draft_is, key_is) refl

pub loop-j-init : goal.loop-j-init
unfolding stage
loop-j-init c = HasRun-none _ (stage c.args.b.now c.args.zero c.args.one c.args.key.now []) (IsWithinLimits-circuit c.args.b.now c.values-values.ensures.circuit)

pub update_word-requires : goal.update_word-requires
update_word-requires c =
    let at_first : IsKnown (schedule c.args.size) 0 c.args.b.now c.args.zero c.args.one c.args.key.now [] = record {
      nought_known = c.requires.zero_known;
      one_known = c.requires.one_known;
      width = c.requires.width;
      key_known = c.requires.key_known;
      block_long = refl;
      block_known = All-nil _;
    } in
    let now = known c.args.size c.args.i c.loop-j.j c.args.b.now c.loop-j.b c.args.zero c.args.one c.args.key.now c.loop-j.key c.values-values.ensures.circuit at_first c.loop-j.invariant in
    record {
      width = now.width;
      key_known = now.key_known;
      zero_known = now.nought_known;
      one_known = now.one_known;
      few = c.requires.few;
      within = rw c.turns-j-end.ensures at c.loop-j-test.true;
    }

pub returns-in-Err-clause-laid : goal.returns-in-Err-clause-laid
unfolding with_key_updated stage
returns-in-Err-clause-laid c =
    let r = schedule c.args.size in
    IsRefused-within _ c.loop-j.b _ _ _ _
    (begun-run (with_word_updated r c.args.i) (Lengthens-word_updated r c.args.i) _ _ c.loop-j.j 0 c.loop-j.invariant)
    (left-run (with_word_updated r c.args.i) (Lengthens-word_updated r c.args.i) _ _ c.loop-j.j (length r.turns) c.loop-j.invariant
    (rw c.turns-j-end.ensures at c.loop-j-test.true))
    c.in-Err.ensures.laid

pub loop-j-preserved : goal.loop-j-preserved
loop-j-preserved c =
    let r = schedule c.args.size in
    let is = stepped c.args.size c.args.i c.loop-j.j c.loop-j.b c.update_word.new.b c.args.zero c.args.one c.loop-j.key c.update_word.new.key c.in-Ok.ensures.laid.1 c.in-Ok.ensures.updated in
    HasRun-more (with_word_updated r c.args.i) _ _ _ c.loop-j.j c.loop-j.invariant is (rw is c.in-Ok.ensures.laid.2)

pub returns : goal.returns
unfolding with_key_updated stage
returns c =
    let r = schedule c.args.size in
    let count : length c.turns-j-end.result.now ≡ length r.turns = ap length c.turns-j-end.ensures in
    let last : c.loop-j.j ≡ length r.turns = let high = c.loop-j.auto.j-end in let low = c.loop-j-test.false in omega arith in
    let whole : stage c.loop-j.b c.args.zero c.args.one c.loop-j.key [] ≡ with_key_updated r c.args.i (stage c.args.b.now c.args.zero c.args.one c.args.key.now []) =
    c.loop-j.invariant.is ∙ ap (λ (n : ℕ). in_turn (with_word_updated r c.args.i) n (stage c.args.b.now c.args.zero c.args.one c.args.key.now [])) last in
    let draft : c.loop-j.b ≡ (with_key_updated r c.args.i (stage c.args.b.now c.args.zero c.args.one c.args.key.now [])).draft = ap (λ (s : Stage). s.draft) whole in
    record { laid = (refl, draft, subst IsWithinLimits draft c.loop-j.invariant.within); updated = ap (λ (s : Stage). s.key) whole }
