use Rattle.std.proofs.Common.{sym, ◌∙◌, arith}
use Rattle.mask_keys.specs.Splitting.{split_lines}
use Rattle.mask_keys.proofs.Sending.{line-sent, line-stopped, lines-sent}
use Rattle.mask_keys.proofs.Sharing.{length-split_lines, get_or-split_lines}
use Rattle.mask_keys.proofs.split.write_lines.Goals as goal

pub loop-k-preserved : goal.loop-k-preserved
loop-k-preserved g c =
    record {
      sent = line-sent (split_lines c.args.order c.args.key.now c.args.coins.now) c.loop-k.k c.line_at.result
          (omega (arith, length-split_lines c.args.order c.args.key.now c.args.coins.now))
          (c.line_at.ensures ∙ sym (get_or-split_lines c.args.order c.args.key.now c.args.coins.now c.loop-k.k (omega arith)))
          _ _ _ c.as_slice.result.now _ (c.as_slice.ensures.value ∙ c.line_text-text.ensures) c.loop-k.invariant.sent c.in-Ok.ensures.whole;
      counts = c.in-Ok.ensures.counts ∙ c.loop-k.invariant.counts;
    }

pub returns-in-Err-clause-part : goal.returns-in-Err-clause-part
returns-in-Err-clause-part g c =
    line-stopped (split_lines c.args.order c.args.key.now c.args.coins.now) c.loop-k.k c.line_at.result
    (omega (arith, length-split_lines c.args.order c.args.key.now c.args.coins.now))
    (c.line_at.ensures ∙ sym (get_or-split_lines c.args.order c.args.key.now c.args.coins.now c.loop-k.k (omega arith)))
    _ _ _ c.as_slice.result.now _ (c.as_slice.ensures.value ∙ c.line_text-text.ensures) c.loop-k.invariant.sent c.in-Err.ensures.part

pub returns-clause-whole : goal.returns-clause-whole
returns-clause-whole g c =
    lines-sent (split_lines c.args.order c.args.key.now c.args.coins.now) c.loop-k.k _ _ _
    (omega (arith, length-split_lines c.args.order c.args.key.now c.args.coins.now)) c.loop-k.invariant.sent
