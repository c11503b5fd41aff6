use Rattle.std.proofs.Common.{◌≡◌, ℕ, List, refl, lit≤}
use Rattle.mask_circuit.specs.Netlist.{Netlist, only_inputs}
use Rattle.mask_parts.specs.Drafts.{Grows}
use Rattle.mask_parts.proofs.Growing.{Grows-refl, Grows-trans}
use Rattle.mask_parts.proofs.Laying.{Lays-exit, Lays-last}
use Rattle.mask_parts.proofs.WordPassing.{known-words}
use Rattle.mask_chaskey.specs.declared.doubling.End.{End}
use Rattle.mask_chaskey.specs.NamedChaskey.{block_from, end_stage, fenced, named_end}
use Rattle.mask_chaskey.specs.Rounds.{Stage, stage}
use Rattle.mask_chaskey.proofs.Calling.{stage-is}
use Rattle.mask_chaskey.proofs.Concluding.{Grows-fenced, known-us, end_key, end_mask, end_start, end_xored, end_masked, end_permuted, inputs_later, mask_later, Runs-end_xored, Runs-end_masked, Runs-end_permuted, CameOut-end, left-mask, left-xored, left-masked, left-permuted}
use Rattle.mask_chaskey.proofs.Lengthening.{Lengthens, Lengthens-block_xored, Lengthens-permutation, Lengthens-last_mask}
use Rattle.mask_chaskey.proofs.Starting.{words-block_from}
use Rattle.mask_chaskey.proofs.circuits.lay_end.Goals as goal

key-is : (b : Netlist) (ws : List (List ℕ)) → b ≡ only_inputs 384 → ws ≡ block_from 128 → stage b ws ≡ end_key
key-is b ws is block = rw (is, block) refl

start-is : (end : End) (c : Netlist) (ws : List (List ℕ)) → c ≡ (end_mask end).draft → ws ≡ block_from 0 → stage c ws ≡ end_start end
start-is end c ws is block = rw (is, block) refl

-- what is left of the circuit behind a stage
to_named : (end : End) (s : Stage) → Lengthens s (end_stage end) → Grows s.draft (named_end end)
unfolding named_end
to_named end s left = Grows-trans s.draft (end_stage end).draft (fenced (end_stage end)) left (Grows-fenced (end_stage end))

-- and what was made before it
module _ (end : End) (b : Netlist) (is : b ≡ only_inputs 384) where
  begun-mask : Grows b (end_mask end).draft
  unfolding stage
  begun-mask = rw is (Lengthens-last_mask end end_key)

  begun-xored : Grows b (end_xored end).draft
  unfolding stage
  begun-xored = Grows-trans b (end_mask end).draft (end_xored end).draft begun-mask (Lengthens-block_xored (block_from 256) (end_start end))

  begun-masked : Grows b (end_masked end).draft
  begun-masked = Grows-trans b (end_xored end).draft (end_masked end).draft begun-xored (Lengthens-block_xored (end_mask end).block (end_xored end))

  begun-permuted : Grows b (end_permuted end).draft
  begun-permuted = Grows-trans b (end_masked end).draft (end_permuted end).draft begun-masked (Lengthens-permutation (end_masked end))

  begun-end : Grows b (end_stage end).draft
  begun-end = Grows-trans b (end_permuted end).draft (end_stage end).draft begun-permuted (left-permuted end)

pub last_mask-requires : goal.last_mask-requires
last_mask-requires c = rw (c.block_from.ensures, c.requires) (known-words ⊥ (only_inputs 384) (block_from 128) (words-block_from ⊥ 384 128 (lit≤ tt)))

pub returns-in_err-mask : goal.returns-in_err-mask
returns-in_err-mask c =
    let b = c.args.b.now in let end = c.args.end in
    Lays-exit b b (end_mask end).draft _ _ _ _ _ c.from_residual.ensures.1 (Grows-refl b) (to_named end (end_mask end) (left-mask end))
    (rw (key-is b _ c.requires c.block_from.ensures) at c.in_err-mask.ensures)

pub xor_blocks-requires-clause-xs_known : goal.xor_blocks-requires-clause-xs_known
xor_blocks-requires-clause-xs_known c =
    let end = c.args.end in
    let mask = rw (key-is c.args.b.now _ c.requires c.block_from.ensures) at c.in_ok-mask.ensures in
    rw (c.block_from-2.ensures, mask.1) (known-words ⊥ (end_mask end).draft (block_from 0) (inputs_later ⊥ end 0 (lit≤ tt)))

pub xor_blocks-requires-clause-ys_known : goal.xor_blocks-requires-clause-ys_known
xor_blocks-requires-clause-ys_known c =
    let end = c.args.end in
    let mask = rw (key-is c.args.b.now _ c.requires c.block_from.ensures) at c.in_ok-mask.ensures in
    rw (c.block_from-3.ensures, mask.1) (known-words ⊥ (end_mask end).draft (block_from 256) (inputs_later ⊥ end 256 (lit≤ tt)))

pub returns-in_err-xored : goal.returns-in_err-xored
returns-in_err-xored c =
    let b = c.args.b.now in let end = c.args.end in
    let mask = rw (key-is b _ c.requires c.block_from.ensures) at c.in_ok-mask.ensures in
    Lays-exit b (end_mask end).draft (end_xored end).draft _ _ _ _ _ c.from_residual-in_err-xored.ensures.1 (begun-mask end b c.requires) (to_named end (end_xored end) (left-xored end))
    (rw (start-is end _ _ mask.1 c.block_from-2.ensures, c.block_from-3.ensures, mask.1) at c.in_err-xored.ensures)

pub xor_blocks-requires-2-clause-xs_known : goal.xor_blocks-requires-2-clause-xs_known
xor_blocks-requires-2-clause-xs_known c =
    let end = c.args.end in
    let mask = rw (key-is c.args.b.now _ c.requires c.block_from.ensures) at c.in_ok-mask.ensures in
    let xored = rw (start-is end _ _ mask.1 c.block_from-2.ensures, c.block_from-3.ensures) at c.in_ok-xored.ensures in
    rw (xored.0, xored.1) (known-words ⊥ _ _ (Runs-end_xored ⊥ end).fine.words)

pub xor_blocks-requires-2-clause-ys_known : goal.xor_blocks-requires-2-clause-ys_known
xor_blocks-requires-2-clause-ys_known c =
    let end = c.args.end in
    let mask = rw (key-is c.args.b.now _ c.requires c.block_from.ensures) at c.in_ok-mask.ensures in
    let xored = rw (start-is end _ _ mask.1 c.block_from-2.ensures, c.block_from-3.ensures) at c.in_ok-xored.ensures in
    rw (mask.0, xored.1) (known-words ⊥ _ _ (mask_later ⊥ end (end_xored end) 128 0 (Runs-end_xored ⊥ end)))

pub returns-in_err-masked : goal.returns-in_err-masked
returns-in_err-masked c =
    let b = c.args.b.now in let end = c.args.end in
    let mask = rw (key-is b _ c.requires c.block_from.ensures) at c.in_ok-mask.ensures in
    let xored = rw (start-is end _ _ mask.1 c.block_from-2.ensures, c.block_from-3.ensures) at c.in_ok-xored.ensures in
    Lays-exit b (end_xored end).draft (end_masked end).draft _ _ _ _ _ c.from_residual-in_err-masked.ensures.1 (begun-xored end b c.requires) (to_named end (end_masked end) (left-masked end))
    (rw (stage-is _ _ (end_xored end) xored.0 xored.1, mask.0, xored.1) at c.in_err-masked.ensures)

pub permute-requires : goal.permute-requires
permute-requires c =
    let end = c.args.end in
    let mask = rw (key-is c.args.b.now _ c.requires c.block_from.ensures) at c.in_ok-mask.ensures in
    let xored = rw (start-is end _ _ mask.1 c.block_from-2.ensures, c.block_from-3.ensures) at c.in_ok-xored.ensures in
    let masked = rw (stage-is _ _ (end_xored end) xored.0 xored.1, mask.0) at c.in_ok-masked.ensures in
    rw (masked.0, masked.1) (known-words ⊥ _ _ (Runs-end_masked ⊥ end).fine.words)

pub returns-in_err-permuted : goal.returns-in_err-permuted
returns-in_err-permuted c =
    let b = c.args.b.now in let end = c.args.end in
    let mask = rw (key-is b _ c.requires c.block_from.ensures) at c.in_ok-mask.ensures in
    let xored = rw (start-is end _ _ mask.1 c.block_from-2.ensures, c.block_from-3.ensures) at c.in_ok-xored.ensures in
    let masked = rw (stage-is _ _ (end_xored end) xored.0 xored.1, mask.0) at c.in_ok-masked.ensures in
    Lays-exit b (end_masked end).draft (end_permuted end).draft _ _ _ _ _ c.from_residual-in_err-permuted.ensures.1 (begun-masked end b c.requires) (to_named end (end_permuted end) (left-permuted end))
    (rw (stage-is _ _ (end_masked end) masked.0 masked.1, masked.1) at c.in_err-permuted.ensures)

pub xor_blocks-requires-3-clause-xs_known : goal.xor_blocks-requires-3-clause-xs_known
xor_blocks-requires-3-clause-xs_known c =
    let end = c.args.end in
    let mask = rw (key-is c.args.b.now _ c.requires c.block_from.ensures) at c.in_ok-mask.ensures in
    let xored = rw (start-is end _ _ mask.1 c.block_from-2.ensures, c.block_from-3.ensures) at c.in_ok-xored.ensures in
    let masked = rw (stage-is _ _ (end_xored end) xored.0 xored.1, mask.0) at c.in_ok-masked.ensures in
    let permuted = rw (stage-is _ _ (end_masked end) masked.0 masked.1) at c.in_ok-permuted.ensures in
    rw (permuted.0, permuted.1) (known-words ⊥ _ _ (Runs-end_permuted ⊥ end).fine.words)

pub xor_blocks-requires-3-clause-ys_known : goal.xor_blocks-requires-3-clause-ys_known
xor_blocks-requires-3-clause-ys_known c =
    let end = c.args.end in
    let mask = rw (key-is c.args.b.now _ c.requires c.block_from.ensures) at c.in_ok-mask.ensures in
    let xored = rw (start-is end _ _ mask.1 c.block_from-2.ensures, c.block_from-3.ensures) at c.in_ok-xored.ensures in
    let masked = rw (stage-is _ _ (end_xored end) xored.0 xored.1, mask.0) at c.in_ok-masked.ensures in
    let permuted = rw (stage-is _ _ (end_masked end) masked.0 masked.1) at c.in_ok-permuted.ensures in
    rw (mask.0, permuted.1) (known-words ⊥ _ _ (mask_later ⊥ end (end_permuted end) 10_672 1488 (Runs-end_permuted ⊥ end)))

pub returns-in_err-state : goal.returns-in_err-state
unfolding end_stage
returns-in_err-state c =
    let b = c.args.b.now in let end = c.args.end in
    let mask = rw (key-is b _ c.requires c.block_from.ensures) at c.in_ok-mask.ensures in
    let xored = rw (start-is end _ _ mask.1 c.block_from-2.ensures, c.block_from-3.ensures) at c.in_ok-xored.ensures in
    let masked = rw (stage-is _ _ (end_xored end) xored.0 xored.1, mask.0) at c.in_ok-masked.ensures in
    let permuted = rw (stage-is _ _ (end_masked end) masked.0 masked.1) at c.in_ok-permuted.ensures in
    Lays-exit b (end_permuted end).draft (end_stage end).draft _ _ _ _ _ c.from_residual-in_err-state.ensures.1 (begun-permuted end b c.requires) (to_named end (end_stage end) (Grows-refl _))
    (rw (stage-is _ _ (end_permuted end) permuted.0 permuted.1, mask.0, permuted.1) at c.in_err-state.ensures)

pub fence_outputs-requires : goal.fence_outputs-requires
unfolding end_stage
fence_outputs-requires c =
    let end = c.args.end in
    let mask = rw (key-is c.args.b.now _ c.requires c.block_from.ensures) at c.in_ok-mask.ensures in
    let xored = rw (start-is end _ _ mask.1 c.block_from-2.ensures, c.block_from-3.ensures) at c.in_ok-xored.ensures in
    let masked = rw (stage-is _ _ (end_xored end) xored.0 xored.1, mask.0) at c.in_ok-masked.ensures in
    let permuted = rw (stage-is _ _ (end_masked end) masked.0 masked.1) at c.in_ok-permuted.ensures in
    let state = rw (stage-is _ _ (end_permuted end) permuted.0 permuted.1, mask.0) at c.in_ok-state.ensures in
    rw (c.all_values.ensures, state.0, state.1) (known-us 384 (end_stage end) _ _ (CameOut-end end))

pub returns : goal.returns
unfolding named_end end_stage fenced
returns c =
    let b = c.args.b.now in let end = c.args.end in
    let mask = rw (key-is b _ c.requires c.block_from.ensures) at c.in_ok-mask.ensures in
    let xored = rw (start-is end _ _ mask.1 c.block_from-2.ensures, c.block_from-3.ensures) at c.in_ok-xored.ensures in
    let masked = rw (stage-is _ _ (end_xored end) xored.0 xored.1, mask.0) at c.in_ok-masked.ensures in
    let permuted = rw (stage-is _ _ (end_masked end) masked.0 masked.1) at c.in_ok-permuted.ensures in
    let state = rw (stage-is _ _ (end_permuted end) permuted.0 permuted.1, mask.0) at c.in_ok-state.ensures in
    Lays-last b (end_stage end).draft _ _ _ _ _ _ (begun-end end b c.requires) refl refl (rw (c.all_values.ensures, state.0, state.1) at c.fence_outputs.ensures.laid)
