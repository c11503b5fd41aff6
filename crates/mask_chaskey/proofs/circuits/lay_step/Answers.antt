use Rattle.std.proofs.Common.{◌≡◌, ℕ, List, refl, lit≤}
use Rattle.mask_circuit.specs.Netlist.{Netlist, only_inputs}
use Rattle.mask_parts.specs.Drafts.{Grows}
use Rattle.mask_parts.proofs.Growing.{Grows-refl, Grows-trans}
use Rattle.mask_parts.proofs.Laying.{Lays-exit, Lays-last}
use Rattle.mask_parts.proofs.WordPassing.{known-words}
use Rattle.mask_chaskey.specs.NamedChaskey.{block_from, step_stage, fenced, named_step}
use Rattle.mask_chaskey.specs.Rounds.{stage}
use Rattle.mask_chaskey.proofs.Calling.{stage-is}
use Rattle.mask_chaskey.proofs.Concluding.{Grows-fenced, known-us, step_start, step_xored, CameOut-step, Runs-step_xored}
use Rattle.mask_chaskey.proofs.Lengthening.{Lengthens-block_xored, Lengthens-permutation}
use Rattle.mask_chaskey.proofs.Starting.{words-block_from}
use Rattle.mask_chaskey.proofs.circuits.lay_step.Goals as goal

left : Grows step_xored.draft named_step
unfolding named_step step_stage
left = Grows-trans step_xored.draft step_stage.draft named_step (Lengthens-permutation step_xored) (Grows-fenced step_stage)

begun : (b : Netlist) → b ≡ only_inputs 256 → Grows b step_xored.draft
unfolding stage
begun b is = rw is (Lengthens-block_xored (block_from 128) step_start)

start-is : (b : Netlist) (ws : List (List ℕ)) → b ≡ only_inputs 256 → ws ≡ block_from 0 → stage b ws ≡ step_start
start-is b ws is block = rw (is, block) refl

pub xor_blocks-requires-clause-xs_known : goal.xor_blocks-requires-clause-xs_known
xor_blocks-requires-clause-xs_known c = rw (c.block_from.ensures, c.requires) (known-words ⊥ (only_inputs 256) (block_from 0) (words-block_from ⊥ 256 0 (lit≤ tt)))

pub xor_blocks-requires-clause-ys_known : goal.xor_blocks-requires-clause-ys_known
xor_blocks-requires-clause-ys_known c = rw (c.block_from-2.ensures, c.requires) (known-words ⊥ (only_inputs 256) (block_from 128) (words-block_from ⊥ 256 128 (lit≤ tt)))

pub returns-in_err-xored : goal.returns-in_err-xored
returns-in_err-xored c =
    let b = c.args.b.now in
    let start = start-is b _ c.requires c.block_from.ensures in
    Lays-exit b b step_xored.draft _ _ _ _ _ c.from_residual.ensures.1 (Grows-refl b) left (rw (start, c.block_from-2.ensures) at c.in_err-xored.ensures)

pub permute-requires : goal.permute-requires
permute-requires c =
    let start = start-is c.args.b.now _ c.requires c.block_from.ensures in
    let xored = rw (start, c.block_from-2.ensures) at c.in_ok-xored.ensures in
    rw (xored.0, xored.1) (known-words ⊥ _ _ (Runs-step_xored ⊥).fine.words)

pub returns-in_err-permuted : goal.returns-in_err-permuted
unfolding named_step step_stage
returns-in_err-permuted c =
    let b = c.args.b.now in
    let start = start-is b _ c.requires c.block_from.ensures in
    let xored = rw (start, c.block_from-2.ensures) at c.in_ok-xored.ensures in
    Lays-exit b step_xored.draft step_stage.draft _ _ _ _ _ c.from_residual-in_err-permuted.ensures.1 (begun b c.requires) (Grows-fenced step_stage)
    (rw (stage-is _ _ step_xored xored.0 xored.1, xored.1) at c.in_err-permuted.ensures)

pub fence_outputs-requires : goal.fence_outputs-requires
unfolding step_stage
fence_outputs-requires c =
    let start = start-is c.args.b.now _ c.requires c.block_from.ensures in
    let xored = rw (start, c.block_from-2.ensures) at c.in_ok-xored.ensures in
    let permuted = rw (stage-is _ _ step_xored xored.0 xored.1) at c.in_ok-permuted.ensures in
    rw (c.all_values.ensures, permuted.0, permuted.1) (known-us 256 step_stage _ _ CameOut-step)

pub returns : goal.returns
unfolding named_step step_stage fenced
returns c =
    let b = c.args.b.now in
    let start = start-is b _ c.requires c.block_from.ensures in
    let xored = rw (start, c.block_from-2.ensures) at c.in_ok-xored.ensures in
    let permuted = rw (stage-is _ _ step_xored xored.0 xored.1) at c.in_ok-permuted.ensures in
    Lays-last b step_stage.draft _ _ _ _ _ _ (Grows-trans b step_xored.draft step_stage.draft (begun b c.requires) (Lengthens-permutation step_xored)) refl refl
    (rw (c.all_values.ensures, permuted.0, permuted.1) at c.fence_outputs.ensures.laid)
