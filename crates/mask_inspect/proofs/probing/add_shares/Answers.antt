use Rattle.std.proofs.Common.{◌≡◌, ℕ, suc, ◌+◌, ◌++◌, List, ap, sym, ◌∙◌, arith, append_assoc}
use Rattle.mask_sni.specs.Asked.{members}
use Rattle.mask_probe.specs.Asking.{has_share}
use Rattle.mask_inspect.specs.Probing.{share_text}
use Rattle.mask_inspect.proofs.Reports.{numbers, is_nil, share_more}
use Rattle.mask_inspect.proofs.probing.add_shares.Goals as goal

pub loop-share-preserved : goal.loop-share-preserved
loop-share-preserved c =
    let set = has_share c.args.needs.now c.args.input in
    let next : suc c.loop-share.share ≡ c.loop-share.share + 1 = omega arith in
    let more = share_more c.loop-share.share set c.loop-share.is_first _ (sym c.has-needed.ensures) c.loop-share.invariant.first in
    record {
      first = c.in_ok-is_first.ensures.first ∙ more.1 ∙ ap (λ (n : ℕ). is_nil (members n set)) next;
      text =
          c.in_ok-is_first.ensures.text
          ∙ ap (λ (bs : List ℕ). bs ++ share_text c.loop-share.share c.has-needed.result c.loop-share.is_first) c.loop-share.invariant.text
          ∙ append_assoc c.args.report.now.items (numbers (members c.loop-share.share set))
          (share_text c.loop-share.share c.has-needed.result c.loop-share.is_first)
          ∙ ap (λ (bs : List ℕ). c.args.report.now.items ++ bs) (sym more.0 ∙ ap (λ (n : ℕ). numbers (members n set)) next);
    }
