use Rattle.std.proofs.Common.{◌≡◌, length, get_or, bit_xor, arith}
use Rattle.std.proofs.lemmas.List.{length-set}
use Rattle.std.proofs.lemmas.List.Edits.{fill_by_more}
use Rattle.mask_shares.proofs.Lists.{is_each}
use Rattle.mask_shares.proofs.Shares.xor.Goals as goal

pub loop-i-preserved : goal.loop-i-preserved
loop-i-preserved g c =
    let mine : c.self.inside.words ≡ c.args.self = c.self.view_is in
    let theirs : c.other.inside.words ≡ c.args.other = c.other.view_is in
    let count : length c.loop-i.words ≡ g.row.N = c.loop-i.invariant.count in
    record {
      count = simp length-set count;
      done = rw (mine, theirs) (fill_by_more (λ k. bit_xor (get_or c.args.self k 0) (get_or c.args.other k 0)) c.loop-i.words c.loop-i.i 0 (omega arith) c.loop-i.invariant.done);
    }

pub returns : goal.returns
returns g c =
    is_each (λ i. bit_xor (get_or c.args.self i 0) (get_or c.args.other i 0)) g.row.N c.loop-i.words c.loop-i.invariant.count
    (λ k lt. c.loop-i.invariant.done k (omega arith))
