use Rattle.std.proofs.Common.{◌≡◌, ◌+◌, refl, ap, ◌∙◌, arith}
use Rattle.mask_circuit.specs.Netlist.{value_count}
use Rattle.mask_parts.specs.Words32.{with_xor32, xor32_results, sum32_results}
use Rattle.mask_parts.proofs.Growing.{Grows-refl, Grows-trans}
use Rattle.mask_parts.proofs.Laying.{Lays-exit, Lays-last}
use Rattle.mask_parts.proofs.Passing.{AreOf-Grows}
use Rattle.mask_parts.proofs.WordFitting.{value_count-with_xor32}
use Rattle.mask_parts.proofs.WordPassing.{Grows-xor32, Grows-sum32, AreOf-xor32}
use Rattle.mask_lea.specs.Rounds.{with_mixed, mixed_results}
use Rattle.mask_lea.proofs.round.mixed.Goals as goal

pub returns-in_err-left : goal.returns-in_err-left
unfolding with_mixed
returns-in_err-left c =
    let b = c.args.b.now in
    Lays-exit _ b _ _ _ _ _ _ c.from_residual.ensures.1 (Grows-refl b) (Grows-trans _ _ _ (Grows-xor32 _ _ _) (Grows-sum32 _ _ _)) c.in_err-left.ensures.laid

pub xor32-requires-2-clause-x_known : goal.xor32-requires-2-clause-x_known
xor32-requires-2-clause-x_known c =
    let b = c.args.b.now in rw c.in_ok-left.ensures.laid.1 (AreOf-Grows b _ c.args.y.now (Grows-xor32 b c.args.x.now c.args.k.now) c.requires.y_known)

pub xor32-requires-2-clause-y_known : goal.xor32-requires-2-clause-y_known
xor32-requires-2-clause-y_known c =
    let b = c.args.b.now in rw c.in_ok-left.ensures.laid.1 (AreOf-Grows b _ c.args.l.now (Grows-xor32 b c.args.x.now c.args.k.now) c.requires.l_known)

pub returns-in_err-right : goal.returns-in_err-right
unfolding with_mixed
returns-in_err-right c =
    let b = c.args.b.now in
    Lays-exit _ (with_xor32 b c.args.x.now c.args.k.now) _ _ _ _ _ _ c.from_residual-in_err-right.ensures.1 (Grows-xor32 b _ _) (Grows-sum32 _ _ _)
    (rw c.in_ok-left.ensures.laid.1 at c.in_err-right.ensures.laid)

pub add32-requires-clause-x_known : goal.add32-requires-clause-x_known
add32-requires-clause-x_known c =
    let b = c.args.b.now in let left = with_xor32 b c.args.x.now c.args.k.now in
    rw (c.in_ok-right.ensures.laid.1, c.in_ok-left.ensures.laid.1, c.in_ok-left.ensures.laid.0)
    (AreOf-Grows left _ (xor32_results (value_count b)) (Grows-xor32 left c.args.y.now c.args.l.now) (AreOf-xor32 b c.args.x.now c.args.k.now))

pub add32-requires-clause-y_known : goal.add32-requires-clause-y_known
add32-requires-clause-y_known c =
    rw (c.in_ok-right.ensures.laid.1, c.in_ok-right.ensures.laid.0) (AreOf-xor32 c.xor32.new.b c.args.y.now c.args.l.now)

pub returns : goal.returns
unfolding with_mixed mixed_results
returns c =
    let b = c.args.b.now in
    let left = with_xor32 b c.args.x.now c.args.k.now in
    let right = with_xor32 left c.args.y.now c.args.l.now in
    let count : value_count left ≡ value_count b + 32 = value_count-with_xor32 b c.args.x.now c.args.k.now in
    let count' : value_count right ≡ value_count b + 64 = value_count-with_xor32 left c.args.y.now c.args.l.now ∙ omega arith in
    Lays-last b right _ _ _ _ _ _ (Grows-trans _ _ _ (Grows-xor32 b _ _) (Grows-xor32 left _ _)) refl (ap sum32_results count')
    (rw (c.in_ok-right.ensures.laid.1, c.in_ok-right.ensures.laid.0, c.in_ok-left.ensures.laid.1, c.in_ok-left.ensures.laid.0, count) at c.add32.ensures.laid)
