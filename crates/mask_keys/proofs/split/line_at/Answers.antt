use Rattle.std.proofs.Common.{◌≡◌, ℕ, ◌*◌, ◌++◌, ◌∷◌, [], List, length, take, ap, sym, refl, ◌∙◌, arith}
use Rattle.std.proofs.lemmas.List.{take_more_set, length-set}
use Rattle.mask_bits.specs.Reading.{low}
use Rattle.mask_keys.specs.Splitting.{split_line, packed, shares_at}
use Rattle.mask_keys.proofs.Sharing.{line_more, coins_left, coins_next}
use Rattle.mask_keys.proofs.split.line_at.Goals as goal

pub split_at-requires : goal.split_at-requires
split_at-requires c = coins_left (length c.args.key.now) (8 * c.args.order) c.loop-b.b c.args.coins.now c.loop-b.rest.now (omega arith) (c.requires.coins ∙ omega arith) c.loop-b.invariant.rest

pub loop-b-init : goal.loop-b-init
unfolding packed
loop-b-init c = record {
  rest = let none : 0 * (8 * c.args.order) ≡ 0 = omega arith in rw none refl;
  room = refl;
  done = refl;
}

pub loop-b-preserved : goal.loop-b-preserved
loop-b-preserved c = record {
  rest = c.split_at.ensures.back ∙ coins_next (8 * c.args.order) c.loop-b.b c.args.coins.now c.loop-b.rest.now c.loop-b.invariant.rest;
  room = length-set c.loop-b.line c.loop-b.b c.byte_at.result ∙ c.loop-b.invariant.room;
  done = take_more_set c.loop-b.line c.loop-b.b c.byte_at.result (omega arith)
      ∙ ap (λ (xs : List ℕ). xs ++ c.byte_at.result ∷ []) c.loop-b.invariant.done
      ∙ sym (line_more c.args.order c.args.k c.loop-b.b c.byte_at.result c.args.key.now c.args.coins.now c.split_at.result.0.now (omega arith)
      (c.split_at.ensures.front ∙ ap (take (8 * c.args.order)) c.loop-b.invariant.rest) (omega arith) c.byte_at.ensures);
}

pub returns : goal.returns
unfolding split_line
returns c =
    let end : c.loop-b.b ≡ length c.args.key.now = omega arith in
    c.new.ensures ∙ ap (λ (n : ℕ). take n c.loop-b.line) (sym end) ∙ c.loop-b.invariant.done
    ∙ ap (λ (n : ℕ). packed n (shares_at c.args.order c.args.k (low c.args.key.now) c.args.coins.now)) end
