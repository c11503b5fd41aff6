use Rattle.std.proofs.Common.{◌+◌, length, ◌∙◌, arith}
use Rattle.std.proofs.lemmas.List.FromFn.{fill_by_all}
use Rattle.mask_parts.proofs.Ranges.{map-range}
use Rattle.mask_parts.proofs.rows.number_from.Goals as goal

pub returns : goal.returns
returns c =
    let first = c.args.first in
    fill_by_all (λ k. first + k) c.loop-k.places (length c.args.places.now) 0 c.loop-k.auto.places
    (λ i low. c.loop-k.invariant i (omega arith))
    ∙ map-range first 0 (length c.args.places.now) first (omega arith)
