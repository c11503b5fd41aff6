use Rattle.std.proofs.Common.{ap, arith}
use Rattle.mask_parts.proofs.Laying.{IsWithinLimits-circuit, IsRefused-within, Lays-last}
use Rattle.mask_present.specs.Present.{register}
use Rattle.mask_present.specs.Rounds.{Stage, stage}
use Rattle.mask_present.proofs.Encrypting.{Fits-stage, Known-stage, HasRun-none, HasRun-more, key-run, block-run, key-block_run, begun-run, begun-block_run, left-block_run, left-update_run, whole-run}
use Rattle.mask_present.proofs.rounds.rounds.Goals as goal

pub loop-done-init : goal.loop-done-init
loop-done-init c =
    HasRun-none (register c.args.size) c.args.b.now c.args.key.now c.args.block.now (IsWithinLimits-circuit c.args.b.now c.values-values.ensures.circuit)

pub block_round-requires-clause-key_known : goal.block_round-requires-clause-key_known
block_round-requires-clause-key_known c =
    let b = c.args.b.now in let key = c.args.key.now in let block = c.args.block.now in
    key-run c.args.size (stage b key block) c.loop-done.b c.loop-done.key c.loop-done.state c.loop-done.done
    (Fits-stage (register c.args.size) b key block c.requires.width c.told-block) (Known-stage b key block c.requires.key_known c.requires.block_known) c.loop-done.invariant

pub block_round-requires-clause-block_known : goal.block_round-requires-clause-block_known
block_round-requires-clause-block_known c =
    let b = c.args.b.now in let key = c.args.key.now in let block = c.args.block.now in
    block-run c.args.size (stage b key block) c.loop-done.b c.loop-done.key c.loop-done.state c.loop-done.done
    (Fits-stage (register c.args.size) b key block c.requires.width c.told-block) (Known-stage b key block c.requires.key_known c.requires.block_known) c.loop-done.invariant

pub returns-in-Err : goal.returns-in-Err
unfolding stage
returns-in-Err c =
    let b = c.args.b.now in let key = c.args.key.now in let block = c.args.block.now in
    let fits = Fits-stage (register c.args.size) b key block c.requires.width c.told-block in
    let known = Known-stage b key block c.requires.key_known c.requires.block_known in
    IsRefused-within _ c.loop-done.b _ _ _ _
    (begun-run c.args.size (stage b key block) c.loop-done.b c.loop-done.key c.loop-done.state c.loop-done.done fits known c.loop-done.invariant)
    (left-block_run c.args.size (stage b key block) c.loop-done.b c.loop-done.key c.loop-done.state c.loop-done.done fits known c.loop-done.invariant (omega arith))
    c.in-Err.ensures

pub update-requires-clause-known : goal.update-requires-clause-known
update-requires-clause-known c =
    let b = c.args.b.now in let key = c.args.key.now in let block = c.args.block.now in
    rw (c.in-Ok.ensures.1)
    (key-block_run c.args.size (stage b key block) c.loop-done.b c.loop-done.key c.loop-done.state c.loop-done.done
    (Fits-stage (register c.args.size) b key block c.requires.width c.told-block) (Known-stage b key block c.requires.key_known c.requires.block_known) c.loop-done.invariant)

pub returns-in-Err-update : goal.returns-in-Err-update
unfolding stage
returns-in-Err-update c =
    let b = c.args.b.now in let key = c.args.key.now in let block = c.args.block.now in
    let fits = Fits-stage (register c.args.size) b key block c.requires.width c.told-block in
    let known = Known-stage b key block c.requires.key_known c.requires.block_known in
    IsRefused-within _ c.block_round.new.b _ _ _ _
    (rw (c.in-Ok.ensures.1) (begun-block_run c.args.size (stage b key block) c.loop-done.b c.loop-done.key c.loop-done.state c.loop-done.done fits known c.loop-done.invariant))
    (left-update_run c.args.size (stage b key block) c.loop-done.b c.loop-done.key c.loop-done.state c.loop-done.done fits known c.loop-done.invariant (omega arith)
    c.block_round.new.b c.in-Ok.state c.in-Ok.ensures.1 c.in-Ok.ensures.0)
    c.in-Err-update.ensures.laid

pub loop-done-preserved : goal.loop-done-preserved
loop-done-preserved c =
    HasRun-more (register c.args.size) _ c.loop-done.b c.block_round.new.b c.update.new.b c.loop-done.key c.loop-done.state c.in-Ok.state c.update.new.key c.loop-done.done
    c.loop-done.invariant c.in-Ok.ensures.1 c.in-Ok.ensures.0 c.in-Ok-update.ensures.laid.1 c.in-Ok-update.ensures.updated c.in-Ok-update.ensures.laid.2

pub add_key-requires-clause-key_known : goal.add_key-requires-clause-key_known
add_key-requires-clause-key_known c =
    let b = c.args.b.now in let key = c.args.key.now in let block = c.args.block.now in
    key-run c.args.size (stage b key block) c.loop-done.b c.loop-done.key c.loop-done.state c.loop-done.done
    (Fits-stage (register c.args.size) b key block c.requires.width c.told-block) (Known-stage b key block c.requires.key_known c.requires.block_known) c.loop-done.invariant

pub add_key-requires-clause-block_known : goal.add_key-requires-clause-block_known
add_key-requires-clause-block_known c =
    let b = c.args.b.now in let key = c.args.key.now in let block = c.args.block.now in
    block-run c.args.size (stage b key block) c.loop-done.b c.loop-done.key c.loop-done.state c.loop-done.done
    (Fits-stage (register c.args.size) b key block c.requires.width c.told-block) (Known-stage b key block c.requires.key_known c.requires.block_known) c.loop-done.invariant

pub returns : goal.returns
unfolding stage
returns c =
    let b = c.args.b.now in let key = c.args.key.now in let block = c.args.block.now in
    let fits = Fits-stage (register c.args.size) b key block c.requires.width c.told-block in
    let known = Known-stage b key block c.requires.key_known c.requires.block_known in
    let whole = whole-run c.args.size (stage b key block) c.loop-done.b c.loop-done.key c.loop-done.state c.loop-done.done fits known c.loop-done.invariant (omega arith) in
    Lays-last b c.loop-done.b _ _ _ _ _ _
    (begun-run c.args.size (stage b key block) c.loop-done.b c.loop-done.key c.loop-done.state c.loop-done.done fits known c.loop-done.invariant)
    (ap (λ (s : Stage). s.draft) whole) (ap (λ (s : Stage). s.block) whole) c.add_key.ensures
