use Rattle.std.proofs.Common.{refl, arith}
use Rattle.mask_parts.proofs.Growing.{Grows-refl}
use Rattle.mask_parts.proofs.Laying.{Lays-exit}
use Rattle.mask_parts.proofs.WordPassing.{AreOf-word}
use Rattle.mask_lea.specs.Lea.{schedule}
use Rattle.mask_lea.specs.Rounds.{stage, with_word_updated}
use Rattle.mask_lea.proofs.Calling.{place-inside, place-low, AreOf-constant}
use Rattle.mask_lea.proofs.schedule.update_word.Goals as goal

pub offset_bounds-key-at : goal.offset_bounds-key-at
offset_bounds-key-at c = let a = place-low c.args.size c.args.i c.args.j c.place-at.result c.place-at.ensures in omega arith

pub bounds-key-at : goal.bounds-key-at
bounds-key-at c = rw c.requires.width (place-inside c.args.size c.args.i c.args.j c.place-at.result c.place-at.ensures)

pub offset_bounds-key-at-2 : goal.offset_bounds-key-at-2
offset_bounds-key-at-2 c = let a = place-low c.args.size c.args.i c.args.j c.place-at.result c.place-at.ensures in omega arith

pub bounds-key-at-2 : goal.bounds-key-at-2
bounds-key-at-2 c = rw c.requires.width (place-inside c.args.size c.args.i c.args.j c.place-at.result c.place-at.ensures)

pub add32-requires : goal.add32-requires
add32-requires c =
    let r = schedule c.args.size in
    let b = c.args.b.now in
    record {
      x_known = AreOf-word b c.args.key.now c.place-at.result (rw c.requires.width (place-inside c.args.size c.args.i c.args.j c.place-at.result c.place-at.ensures)) c.requires.key_known;
      y_known = rw c.constant_word-constant.ensures (AreOf-constant r c.args.i c.args.j b c.args.zero c.args.one c.requires.zero_known c.requires.one_known);
    }

pub returns-in_err-sum-clause-laid : goal.returns-in_err-sum-clause-laid
unfolding with_word_updated stage
returns-in_err-sum-clause-laid c =
    Lays-exit _ c.args.b.now _ _ _ _ _ _ c.from_residual.ensures.1 (Grows-refl c.args.b.now) (Grows-refl _) (rw (c.constant_word-constant.ensures, c.place-at.ensures) at c.in_err-sum.ensures.laid)

pub returns-clause-laid : goal.returns-clause-laid
unfolding with_word_updated stage
returns-clause-laid c =
    let laid = rw (c.constant_word-constant.ensures, c.place-at.ensures) at c.in_ok-sum.ensures.laid in (refl, laid.1, laid.2)

pub returns-clause-updated : goal.returns-clause-updated
unfolding with_word_updated stage
returns-clause-updated c = rw (c.rot32.ensures.rotated, c.turns.ensures, c.in_ok-sum.ensures.laid.0, c.place-at.ensures) refl
