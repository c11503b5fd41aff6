use Rattle.std.proofs.Common.{◌≡◌, false, replicate, rules, ap, ◌∙◌}
use Rattle.mask_check.proofs.Flagging.{FlagsOperands-start}
use Rattle.mask_check.proofs.fences.lowest_gap.Goals as goal

pub find_gap-requires : goal.find_gap-requires
find_gap-requires c =
    let flags : c.deref_mut.result.now ≡ replicate c.values.result false = search rules in
    FlagsOperands-start c.args.circuit.now _ (flags ∙ ap (λ n. replicate n false) c.values.ensures.count)
