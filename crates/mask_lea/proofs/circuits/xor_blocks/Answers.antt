use Rattle.std.proofs.Common.{◌≡◌, ℕ, ◌+◌, ◌<◌, List, [], length, drop, refl, ap, sym, ◌∙◌, subst, arith}
use Rattle.std.proofs.lemmas.List.{drop_more, drop_all}
use Rattle.mask_circuit.specs.Netlist.{Netlist}
use Rattle.mask_parts.specs.Drafts.{Grows, IsWithinLimits}
use Rattle.mask_parts.specs.Words32.{with_xor32, word}
use Rattle.mask_parts.proofs.Laying.{IsWithinLimits-circuit, IsUnderWay-first, IsUnderWay-more, IsUnderWay-exit, IsUnderWay-done}
use Rattle.mask_parts.proofs.Passing.{AreOf-Grows}
use Rattle.mask_parts.proofs.WordPassing.{AreOf-word, Grows-xor32}
use Rattle.mask_lea.specs.NamedLea.{with_blocks_xored}
use Rattle.mask_lea.proofs.Blocks.{Grows-blocks_xored}
use Rattle.mask_lea.proofs.circuits.xor_blocks.Goals as goal

-- the next words come first of those that are left
next : (c : Netlist) (xs ys : List (List ℕ)) (k : ℕ) → k < length xs → k < length ys
    → with_blocks_xored (with_xor32 c (word xs k) (word ys k)) (drop (k + 1) xs) (drop (k + 1) ys) ≡ with_blocks_xored c (drop k xs) (drop k ys)
next c xs ys k in_xs in_ys = rw (drop_more xs k [] in_xs, drop_more ys k [] in_ys) (unfold with_blocks_xored in refl)

pub loop-k-init : goal.loop-k-init
loop-k-init c = IsUnderWay-first c.args.b.now _ (IsWithinLimits-circuit c.args.b.now c.values-values.ensures.circuit)

pub xor32-requires : goal.xor32-requires
xor32-requires c =
    let b = c.args.b.now in
    let grows = c.loop-k.invariant.begun in
    record {
      x_known = AreOf-Grows b c.loop-k.b _ grows (AreOf-word b c.args.xs.now c.loop-k.k (rw c.told-xs c.loop-k-test.true) c.requires.xs_known);
      y_known = AreOf-Grows b c.loop-k.b _ grows (AreOf-word b c.args.ys.now c.loop-k.k (rw c.told-ys c.loop-k-test.true) c.requires.ys_known);
    }

pub returns-in_err-xor32 : goal.returns-in_err-xor32
returns-in_err-xor32 c =
    let b = c.loop-k.b in
    let xs = c.args.xs.now in let ys = c.args.ys.now in let k = c.loop-k.k in
    let rest = with_blocks_xored (with_xor32 b (word xs k) (word ys k)) (drop (k + 1) xs) (drop (k + 1) ys) in
    IsUnderWay-exit c.args.b.now b (with_xor32 b (word xs k) (word ys k)) _ _ c.xor32.new.b _ c.from_residual.result c.in_err-xor32.field-0.0 c.from_residual.ensures.1
    c.loop-k.invariant
    (rw (← next b xs ys k (rw c.told-xs c.loop-k-test.true) (rw c.told-ys c.loop-k-test.true)) (Grows-blocks_xored _ (drop (k + 1) xs) (drop (k + 1) ys)))
    c.in_err-xor32.ensures.laid

pub loop-k-preserved : goal.loop-k-preserved
loop-k-preserved c =
    let b = c.loop-k.b in
    let xs = c.args.xs.now in let ys = c.args.ys.now in let k = c.loop-k.k in
    let laid = c.in_ok-xor32.ensures.laid in
    IsUnderWay-more c.args.b.now b c.xor32.new.b _ _ _ c.loop-k.invariant (subst (Grows b) (sym laid.1) (Grows-xor32 b _ _))
    (ap (λ (d : Netlist). with_blocks_xored d (drop (k + 1) xs) (drop (k + 1) ys)) laid.1
    ∙ next b xs ys k (rw c.told-xs c.loop-k-test.true) (rw c.told-ys c.loop-k-test.true))
    (subst IsWithinLimits (sym laid.1) laid.2)

none_left : (c : Netlist) (xs ys : List (List ℕ)) (k : ℕ) → length xs ≡ 4 → length ys ≡ 4 → k ≡ 4 → with_blocks_xored c (drop k xs) (drop k ys) ≡ c
none_left c xs ys k x_long y_long end = rw (drop_all k xs (omega arith), drop_all k ys (omega arith)) (unfold with_blocks_xored in refl)

pub returns : goal.returns
returns c =
    let high = c.loop-k-test.false in
    let done = IsUnderWay-done c.args.b.now c.loop-k.b _ _ c.loop-k.invariant (none_left c.loop-k.b c.args.xs.now c.args.ys.now c.loop-k.k c.told-xs c.told-ys (omega arith)) in
    (refl, done.0, done.1)
