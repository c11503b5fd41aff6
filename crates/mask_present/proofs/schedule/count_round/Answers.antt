use Rattle.std.proofs.Common.{◌≡◌, ◌+◌, ◌-◌, length, take, drop, sym, ◌∙◌, arith}
use Rattle.std.proofs.lemmas.List.{length-take-le, length-drop}
use Rattle.mask_bits.specs.Reading.{lowest}
use Rattle.mask_circuit.specs.Netlist.{value_count}
use Rattle.mask_present.specs.Rounds.{not_results}
use Rattle.mask_present.proofs.Fitting.{length-not_results}
use Rattle.mask_present.proofs.Stretches.{put_mid-stretch}
use Rattle.mask_present.proofs.schedule.count_round.Goals as goal

pub returns-clause-counted : goal.returns-clause-counted
returns-clause-counted c =
    let at = c.args.at in let key = c.args.key.now in
    let five : at + 5 - at ≡ 5 = omega arith in
    let us = take 5 (drop at key) in
    let us_long : length us ≡ 5 = length-take-le 5 (drop at key) (rw (length-drop at key) (omega arith)) in
    let long = length-not_results (value_count c.args.b.now) (lowest 5 c.args.round) us ∙ us_long in
    put_mid-stretch at _ key _ (not_results (value_count c.args.b.now) (lowest 5 c.args.round) us)
    (c.copy_from_slice.ensures.after ∙ (rw five at c.in_ok-counted.ensures.0)) (five ∙ sym long)
