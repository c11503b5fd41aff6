use Rattle.std.proofs.Common.{ap, ◌∙◌}
use Rattle.mask_parts.proofs.Growing.{Grows-refl}
use Rattle.mask_parts.proofs.Laying.{Lays-exit}
use Rattle.mask_present.specs.Present.{register}
use Rattle.mask_present.specs.Rounds.{stage, moved, key_added, block_substituted, block_moved, block_round}
use Rattle.mask_present.proofs.Encrypting.{Fits-stage, Known-stage}
use Rattle.mask_present.proofs.Fitting.{IsShape-register}
use Rattle.mask_present.proofs.Knowing.{Known-key_added}
use Rattle.mask_present.proofs.Lengthening.{Lengthens-key_added, Lengthens-block_substituted}
use Rattle.mask_present.proofs.rounds.block_round.Goals as goal

pub returns-in_err-keyed : goal.returns-in_err-keyed
unfolding block_round block_moved
returns-in_err-keyed c =
    let b = c.args.b.now in
    Lays-exit _ b _ _ _ _ _ _ c.from_residual.ensures.1 (Grows-refl b)
    (Lengthens-block_substituted (key_added (register c.args.size) (stage b c.args.key.now c.args.block.now))) c.in_err-keyed.ensures

pub substituted-requires : goal.substituted-requires
substituted-requires c =
    let r = register c.args.size in let b = c.args.b.now in let key = c.args.key.now in let block = c.args.block.now in
    rw (c.in_ok-keyed.ensures.1, c.in_ok-keyed.ensures.0)
    (Known-key_added r (stage b key block) (IsShape-register c.args.size) (Fits-stage r b key block c.requires.width c.told-block)
    (Known-stage b key block c.requires.key_known c.requires.block_known)).values.block

pub returns-in_err-substituted : goal.returns-in_err-substituted
unfolding block_round block_moved block_substituted
returns-in_err-substituted c =
    let r = register c.args.size in let b = c.args.b.now in let s = stage b c.args.key.now c.args.block.now in
    Lays-exit _ (key_added r s).draft _ _ _ _ _ _ c.from_residual-in_err-substituted.ensures.1 (unfold stage in Lengthens-key_added r s) (Grows-refl _)
    (rw (c.in_ok-keyed.ensures.1, c.in_ok-keyed.ensures.0) at c.in_err-substituted.ensures)

pub returns : goal.returns
unfolding block_round block_moved block_substituted
returns c =
    let laid = rw (c.in_ok-keyed.ensures.1, c.in_ok-keyed.ensures.0) at c.in_ok-substituted.ensures in
    (c.moved.ensures ∙ ap moved laid.0, laid.1, laid.2)
