use Rattle.std.proofs.Common.{◌≡◌, ℕ, ◌+◌, ◌-◌, ◌<◌, List, ◌∷◌, length, drop, get_or, set, sym, ap, ◌∙◌, arith}
use Rattle.std.proofs.lemmas.List.{drop_all, drop_more, drop-set, length-set}
use Rattle.mask_gadget.proofs.refresh.copy_shares.Goals as goal

-- the word in front of those that were copied
copied_more : {A : Type 0} (xs out : List A) (m n : ℕ) (d : A) → m < length xs → m < length out → n ≡ m + 1 → drop n out ≡ drop n xs →
    drop m (set out m (get_or xs m d)) ≡ drop m xs
copied_more {A = A} xs out m n d lt lt_out next same =
    drop-set out m (get_or xs m d) lt_out
    ∙ ap (λ (ws : List A). get_or xs m d ∷ ws) (rw next at same)
    ∙ sym (drop_more xs m d lt)

pub loop-i-init : goal.loop-i-init
loop-i-init g c = record {
  count = c.told-out;
  copied = drop_all (g.row.N - 0) c.args.out.now (omega arith) ∙ sym (drop_all (g.row.N - 0) c.args.x.now (omega arith));
}

pub loop-i-preserved : goal.loop-i-preserved
loop-i-preserved g c =
    let at = g.row.N - 1 - c.loop-i.i in
    let next : g.row.N - (c.loop-i.i + 1) ≡ g.row.N - 1 - c.loop-i.i = omega arith in
    record {
      count = length-set c.loop-i.out at _ ∙ c.loop-i.invariant.count;
      copied = rw next (copied_more c.args.x.now c.loop-i.out (g.row.N - 1 - c.loop-i.i) (g.row.N - c.loop-i.i) c.index-x-i.result (omega arith) (omega arith) (omega arith)
          c.loop-i.invariant.copied);
    }

pub returns : goal.returns
returns g c = let all : g.row.N - c.loop-i.i ≡ 0 = omega arith in rw all at c.loop-i.invariant.copied
