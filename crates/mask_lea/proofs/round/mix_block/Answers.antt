use Rattle.std.proofs.Common.{◌≡◌, ℕ, ◌+◌, ◌<◌, List, ◌∷◌, length, refl, ap, ap₂, ◌∙◌, arith, lit<}
use Rattle.mask_circuit.specs.Netlist.{Netlist, value_count}
use Rattle.mask_parts.specs.Drafts.{Grows}
use Rattle.mask_parts.specs.Words32.{rotated32, word, AreWordsOf}
use Rattle.mask_parts.proofs.Growing.{Grows-refl, Grows-trans}
use Rattle.mask_parts.proofs.Laying.{Lays-exit}
use Rattle.mask_parts.proofs.Passing.{AreOf, AreOf-Grows}
use Rattle.mask_parts.proofs.WordPassing.{AreOf-word}
use Rattle.mask_lea.specs.Rounds.{stage, with_mixed, with_block_mixed}
use Rattle.mask_lea.proofs.Lengthening.{count-with_mixed, Grows-mixed}
use Rattle.mask_lea.proofs.round.mix_block.Goals as goal

-- the drafts after one and after two words
abbrev one_mixed : Netlist → List (List ℕ) → List (List ℕ) → Netlist
one_mixed b ks xs = with_mixed b (word xs 0) (word ks 0) (word xs 1) (word ks 1)

abbrev two_mixed : Netlist → List (List ℕ) → List (List ℕ) → Netlist
two_mixed b ks xs = with_mixed (one_mixed b ks xs) (word xs 1) (word ks 2) (word xs 2) (word ks 3)

Grows-two : (b : Netlist) (ks xs : List (List ℕ)) → Grows b (two_mixed b ks xs)
Grows-two b ks xs = Grows-trans b (one_mixed b ks xs) _ (Grows-mixed b _ _ _ _) (Grows-mixed (one_mixed b ks xs) _ _ _ _)

-- a word is known on a longer draft
later : (b d : Netlist) (ws : List (List ℕ)) (m k : ℕ) → length ws ≡ m → k < m → Grows b d → AreWordsOf b ws → AreOf d (word ws k)
later b d ws m k long inside grows known = AreOf-Grows b d (word ws k) grows (AreOf-word b ws k (rw long inside) known)

pub mixed-requires : goal.mixed-requires
mixed-requires c =
    let b = c.args.b.now in
    record {
      x_known = later b b c.args.block.now 4 0 c.told-block (lit< tt) (Grows-refl b) c.requires.block_known;
      k_known = later b b c.args.key.now 6 0 c.told-key (lit< tt) (Grows-refl b) c.requires.key_known;
      y_known = later b b c.args.block.now 4 1 c.told-block (lit< tt) (Grows-refl b) c.requires.block_known;
      l_known = later b b c.args.key.now 6 1 c.told-key (lit< tt) (Grows-refl b) c.requires.key_known;
    }

pub returns-in_err-first : goal.returns-in_err-first
unfolding with_block_mixed stage
returns-in_err-first c =
    let b = c.args.b.now in
    Lays-exit _ b _ _ _ _ _ _ c.from_residual.ensures.1 (Grows-refl b) (Grows-trans _ _ _ (Grows-mixed _ _ _ _ _) (Grows-mixed _ _ _ _ _)) c.in_err-first.ensures

pub mixed-requires-2 : goal.mixed-requires-2
mixed-requires-2 c =
    let b = c.args.b.now in
    let grows : Grows b c.mixed.new.b = rw c.in_ok-first.ensures.1 (Grows-mixed b _ _ _ _) in
    record {
      x_known = later b c.mixed.new.b c.args.block.now 4 1 c.told-block (lit< tt) grows c.requires.block_known;
      k_known = later b c.mixed.new.b c.args.key.now 6 2 c.told-key (lit< tt) grows c.requires.key_known;
      y_known = later b c.mixed.new.b c.args.block.now 4 2 c.told-block (lit< tt) grows c.requires.block_known;
      l_known = later b c.mixed.new.b c.args.key.now 6 3 c.told-key (lit< tt) grows c.requires.key_known;
    }

pub returns-in_err-second : goal.returns-in_err-second
unfolding with_block_mixed stage
returns-in_err-second c =
    let b = c.args.b.now in
    Lays-exit _ (one_mixed b c.args.key.now c.args.block.now) _ _ _ _ _ _ c.from_residual-in_err-second.ensures.1 (Grows-mixed b _ _ _ _) (Grows-mixed _ _ _ _ _)
    (rw c.in_ok-first.ensures.1 at c.in_err-second.ensures)

pub mixed-requires-3 : goal.mixed-requires-3
mixed-requires-3 c =
    let b = c.args.b.now in
    let ks = c.args.key.now in let xs = c.args.block.now in
    let grows : Grows b c.mixed-2.new.b = rw (c.in_ok-second.ensures.1, c.in_ok-first.ensures.1) (Grows-two b ks xs) in
    record {
      x_known = later b c.mixed-2.new.b xs 4 2 c.told-block (lit< tt) grows c.requires.block_known;
      k_known = later b c.mixed-2.new.b ks 6 4 c.told-key (lit< tt) grows c.requires.key_known;
      y_known = later b c.mixed-2.new.b xs 4 3 c.told-block (lit< tt) grows c.requires.block_known;
      l_known = later b c.mixed-2.new.b ks 6 5 c.told-key (lit< tt) grows c.requires.key_known;
    }

pub returns-in_err-third : goal.returns-in_err-third
unfolding with_block_mixed stage
returns-in_err-third c =
    let b = c.args.b.now in
    Lays-exit _ (two_mixed b c.args.key.now c.args.block.now) _ _ _ _ _ _ c.from_residual-in_err-third.ensures.1 (Grows-two b c.args.key.now c.args.block.now) (Grows-refl _)
    (rw (c.in_ok-second.ensures.1, c.in_ok-first.ensures.1) at c.in_err-third.ensures)

pub returns : goal.returns
unfolding with_block_mixed stage
returns c =
    let b = c.args.b.now in
    let ks = c.args.key.now in let xs = c.args.block.now in
    let d = one_mixed b ks xs in
    let count : value_count d ≡ value_count b + 249 = count-with_mixed b _ _ _ _ in
    let count' : value_count (two_mixed b ks xs) ≡ value_count b + 498 = count-with_mixed d _ _ _ _ ∙ omega arith in
    let second = rw (c.in_ok-first.ensures.1, count) at c.in_ok-second.ensures.0 in
    let third = rw (c.in_ok-second.ensures.1, c.in_ok-first.ensures.1, count') at c.in_ok-third.ensures.0 in
    let laid = rw (c.in_ok-second.ensures.1, c.in_ok-first.ensures.1) at c.in_ok-third.ensures in (
      ap₂ ◌∷◌ (c.rot32.ensures.rotated ∙ ap (rotated32 9) c.in_ok-first.ensures.0)
          (ap₂ ◌∷◌ (c.rot32-2.ensures.rotated ∙ ap (rotated32 27) second)
          (ap₂ ◌∷◌ (c.rot32-3.ensures.rotated ∙ ap (rotated32 29) third) refl)),
      laid.1,
      laid.2,
    )
