use Rattle.std.proofs.Common.{◌≡◌, ℕ, ◌+◌, ◌*◌, ◌-◌, ◌<◌, List, [], ◌∷◌, ◌++◌, length, take, get_or, sym, ap, ◌∙◌, arith, length-append, length-take, length-drop, append-nil}
use Rattle.std.specs.List.{concat}
use Rattle.std.proofs.lemmas.List.{take_more}
use Rattle.std.proofs.lemmas.List.Folds.{concat-append}
use Rattle.std.proofs.lemmas.Slice.{take-put_mid}
use borrow.Rule.Slice.PartMut.{put_mid}
use Rattle.mask_chaskey.proofs.blocks.all_values.Goals as goal

-- one word more
more : (us : List ℕ) (ws : List (List ℕ)) (w : List ℕ) (k m : ℕ) → length us ≡ 128 → k < 4 → length ws ≡ 4 → length w ≡ 32 → w ≡ get_or ws k [] → m ≡ 32
    → take (32 * k) us ≡ concat (take k ws)
    → (length (put_mid (32 * k) m us w) ≡ 128) × (take (32 * (k + 1)) (put_mid (32 * k) m us w) ≡ concat (take (k + 1) ws))
more us ws w k m long inside four w_long is all so_far =
    let next : concat (take (k + 1) ws) ≡ concat (take k ws) ++ w =
    ap concat (take_more ws k [] (omega arith)) ∙ concat-append (take k ws) (get_or ws k [] ∷ []) ∙ ap (λ (vs : List ℕ). concat (take k ws) ++ vs) (append-nil (get_or ws k []) ∙ sym is) in (
      simp (length-append, length-take, length-drop) (omega arith),
      take-put_mid (32 * k) m us w (32 * (k + 1)) (omega arith) (omega arith) ∙ ap (λ (vs : List ℕ). vs ++ w) so_far ∙ sym next,
    )

pub loop-k-preserved : goal.loop-k-preserved
loop-k-preserved c =
    let k = c.loop-k.k in
    let inside : k < 4 = c.loop-k-test.true in
    let width : 32 * k + 32 - 32 * k ≡ 32 = omega arith in
    let long : length c.copy_from_slice.new.self ≡ 32 = c.copy_from_slice.ensures.len ∙ (rw (length-take, length-drop, c.loop-k-test.array_long) (omega arith)) in
    let next = more c.loop-k.values c.args.words.now c.copy_from_slice.new.self k (32 * k + 32 - 32 * k) c.loop-k-test.array_long inside c.told-words long c.copy_from_slice.ensures.after width
    c.loop-k.invariant.so_far in
    record { long = next.0; so_far = next.1 }
