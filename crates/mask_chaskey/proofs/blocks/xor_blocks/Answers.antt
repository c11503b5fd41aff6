use Rattle.std.proofs.Common.{◌≡◌, ℕ, ◌+◌, ◌<◌, ◌≤◌, List, length, refl, arith, slice_set}
use Rattle.mask_circuit.specs.Netlist.{Netlist, IsCircuit, value_count}
use Rattle.mask_parts.specs.Drafts.{Grows, IsWithinLimits}
use Rattle.mask_parts.specs.Words32.{with_xor32, xor32_results, word, AreWordsOf}
use Rattle.mask_parts.proofs.Laying.{IsWithinLimits-circuit, IsRefused-within}
use Rattle.mask_parts.proofs.Passing.{AreOf-Grows}
use Rattle.mask_parts.proofs.Turns.{HasRun, HasRun-none, HasRun-more, begun-run, left-run}
use Rattle.mask_parts.proofs.WordPassing.{AreOf-word, words-known}
use Rattle.mask_chaskey.specs.Rounds.{Stage, stage, with_word_xored, with_block_xored}
use Rattle.mask_chaskey.proofs.Calling.{IsFine-known, known-fine, HasRun-done}
use Rattle.mask_chaskey.proofs.Lengthening.{Lengthens-word_xored}
use Rattle.mask_chaskey.proofs.Running.{Runs-words_xored}
use Rattle.mask_chaskey.proofs.blocks.xor_blocks.Goals as goal

module _ (b c : Netlist) (xs ys us : List (List ℕ)) (k : ℕ) (has : HasRun (λ (s : Stage). s.draft) (with_word_xored ys) (stage b xs) (stage c us) k) where
  -- the words so far are four of the draft's
  known : IsCircuit b → k ≤ 4 → length xs ≡ 4 → length ys ≡ 4 → AreWordsOf b xs → AreWordsOf b ys → (length us ≡ 4) × AreWordsOf c us
  known circuit few x_long y_long x_known y_known =
      known-fine c us (rw has.is (Runs-words_xored ⊥ ys (stage b xs) y_long (unfold stage in words-known b ys y_known) (IsFine-known b xs circuit.formed.gates x_long x_known) k few).fine)

  begun : Grows b c
  unfolding stage
  begun = begun-run (with_word_xored ys) (Lengthens-word_xored ys) (stage b xs) (stage c us) k 0 has

  left : k < 4 → Grows (with_xor32 c (word us k) (word ys k)) (with_block_xored ys (stage b xs)).draft
  unfolding stage with_word_xored with_block_xored
  left inside = left-run (with_word_xored ys) (Lengthens-word_xored ys) (stage b xs) (stage c us) k 4 has inside

  stepped : (d : Netlist) (w : List ℕ) → w ≡ xor32_results (value_count c) → d ≡ with_xor32 c (word us k) (word ys k) → IsWithinLimits (with_xor32 c (word us k) (word ys k))
      → HasRun (λ (s : Stage). s.draft) (with_word_xored ys) (stage b xs) (stage d (slice_set us k w)) (k + 1)
  unfolding stage with_word_xored
  stepped d w is draft within = HasRun-more (with_word_xored ys) (stage b xs) (stage c us) _ k has (rw (is, draft) refl) (rw draft within)

pub loop-k-init : goal.loop-k-init
loop-k-init c = HasRun-none _ (stage c.args.b.now c.args.xs.now) (unfold stage in IsWithinLimits-circuit c.args.b.now c.values-values.ensures.circuit)

pub xor32-requires-clause-x_known : goal.xor32-requires-clause-x_known
xor32-requires-clause-x_known c =
    let inside : c.loop-k.k < 4 = c.loop-k-test.true in
    let us = known c.args.b.now c.loop-k.b c.args.xs.now c.args.ys.now c.loop-k.xored c.loop-k.k c.loop-k.invariant c.values-values.ensures.circuit (omega arith)
    c.told-xs c.told-ys c.requires.xs_known c.requires.ys_known in
    AreOf-word c.loop-k.b c.loop-k.xored c.loop-k.k (rw us.0 inside) us.1

pub xor32-requires-clause-y_known : goal.xor32-requires-clause-y_known
xor32-requires-clause-y_known c =
    AreOf-Grows c.args.b.now c.loop-k.b _ (begun c.args.b.now c.loop-k.b c.args.xs.now c.args.ys.now c.loop-k.xored c.loop-k.k c.loop-k.invariant)
    (AreOf-word c.args.b.now c.args.ys.now c.loop-k.k (rw c.told-ys c.loop-k-test.true) c.requires.ys_known)

pub returns-in-Err : goal.returns-in-Err
returns-in-Err c =
    let b = c.args.b.now in
    IsRefused-within b c.loop-k.b _ c.xor32.new.b _ c.in-Err.e (begun b c.loop-k.b c.args.xs.now c.args.ys.now c.loop-k.xored c.loop-k.k c.loop-k.invariant)
    (left b c.loop-k.b c.args.xs.now c.args.ys.now c.loop-k.xored c.loop-k.k c.loop-k.invariant c.loop-k-test.true) c.in-Err.ensures.laid

pub loop-k-preserved : goal.loop-k-preserved
loop-k-preserved c =
    let laid = c.in-Ok.ensures.laid in
    stepped c.args.b.now c.loop-k.b c.args.xs.now c.args.ys.now c.loop-k.xored c.loop-k.k c.loop-k.invariant c.xor32.new.b c.in-Ok.word laid.0 laid.1 laid.2

pub returns : goal.returns
unfolding with_block_xored
returns c =
    let last : c.loop-k.k ≡ 4 = let high = c.loop-k.auto.k-end in let low = c.loop-k-test.false in omega arith in
    HasRun-done (with_word_xored c.args.ys.now) (stage c.args.b.now c.args.xs.now) c.loop-k.b c.loop-k.xored 4 (rw last at c.loop-k.invariant)
