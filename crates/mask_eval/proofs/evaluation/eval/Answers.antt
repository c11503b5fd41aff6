use Rattle.std.proofs.Common.{◌≡◌, ℕ, ◌≤◌, List, length, take, map, All, sym, ap, subst, ◌∙◌, arith}
use Rattle.std.proofs.lemmas.List.{take_at, length-take-le}
use Rattle.mask_bits.specs.Lanes.{lane}
use Rattle.mask_circuit.specs.Netlist.{Netlist, value_count}
use Rattle.mask_circuit.specs.Expansion.{draws, wire_count}
use Rattle.mask_tape.specs.Drawn.{ahead}
use Rattle.mask_gadget.proofs.Sizes.{row_fits}
use Rattle.mask_eval.specs.Frames.{Held, input_values}
use Rattle.mask_eval.proofs.LaneRuns.{outputs_of_frame, outs_in_lane, plain_in_lane}
use Rattle.mask_eval.proofs.Told.{few_wires}
use Rattle.mask_eval.proofs.evaluation.eval.Goals as goal

pub eval_on-requires : goal.eval_on-requires
eval_on-requires g c =
    let values : length c.deref_mut.result.now ≡ value_count c.args.circuit.now =
    ap length (c.deref_mut.ensures.value ∙ ap (λ (f : Held). f.values) c.frame.view_is) ∙ c.requires.fits.values in
    let few : value_count c.args.circuit.now ≤ 1000000 = c.circuit-circuit.ensures.circuit.few_values in
    let wires : wire_count c.args.circuit.now g.row.N ≤ 18446744073709551616 = omega (arith, few_wires c.args.circuit.now g.row.N c.requires.some c.requires.few) in
    (row_fits g.row.N 8 c.requires.few (omega arith), (c.requires.some, (c.requires.few, (values, (c.requires.coins, wires)))))

pub returns-clause-words : goal.returns-clause-words
returns-clause-words g c =
    let values : length c.eval_on.new.values ≡ c.frame.inside.values.len = omega arith in
    let outputs : length c.copy_values.new.copies ≡ c.frame.inside.outputs.len = omega arith in
    take_at c.copy_values.new.copies _ c.frame.inside.outputs.len outputs
    ∙ outputs_of_frame c.args.circuit.now g.row.N c.args.frame.now c.outputs.result.now c.deref_mut.result.now c.eval_on.new.values c.deref.result.now
    c.copy_values.new.copies c.args.coins.now c.circuit-circuit.ensures.circuit c.requires.fits
    (c.outputs.ensures.same ∙ ap (λ (n : Netlist). n.outputs) c.circuit-circuit.ensures.same)
    (c.deref_mut.ensures.value ∙ ap (λ (f : Held). f.values) c.frame.view_is)
    (c.deref.ensures.value ∙ take_at c.eval_on.new.values _ c.frame.inside.values.len values) c.copy_values.ensures.copies c.copy_values.ensures.counts
    c.eval_on.ensures.shares

pub returns-clause-shares : goal.returns-clause-shares
returns-clause-shares g c l lt =
    ap (map (lane l)) (returns-clause-words g c)
    ∙ outs_in_lane l g.row.N c.args.circuit.now (input_values c.args.frame.now) (ahead (draws c.args.circuit.now g.row.N) c.args.coins.now) lt

pub returns-clause-plain : goal.returns-clause-plain
returns-clause-plain g c l lt =
    let values : length c.eval_on.new.values ≡ c.frame.inside.values.len = omega arith in
    let frame = c.args.frame.now in
    let inputs : c.frame.inside.inputs ≡ c.args.circuit.now.inputs = ap (λ (f : Held). f.inputs) c.frame.view_is ∙ c.requires.fits.inputs in
    let counts : All (λ v. length v ≡ g.row.N) (take c.frame.inside.inputs c.deref-2.result.now) = c.write_values.ensures.counts in
    let same : take c.frame.inside.inputs c.deref-2.result.now ≡ take frame.inputs frame.values =
    ap (take c.frame.inside.inputs) (c.deref-2.ensures.value ∙ take_at c.eval_on.new.values _ c.frame.inside.values.len values)
    ∙ ap (λ (n : ℕ). take n c.eval_on.new.values) inputs
    ∙ c.eval_on.ensures.inputs
    ∙ ap (λ (n : ℕ). take n c.deref_mut.result.now) (sym c.requires.fits.inputs)
    ∙ ap (take frame.inputs) (c.deref_mut.ensures.value ∙ ap (λ (f : Held). f.values) c.frame.view_is) in
    let few : frame.inputs ≤ length frame.values = omega arith in
    plain_in_lane l g.row.N c.args.circuit.now (input_values frame) _ (lane l (ahead (draws c.args.circuit.now g.row.N) c.args.coins.now))
    c.circuit-circuit.ensures.circuit (omega arith) (length-take-le frame.inputs frame.values few ∙ c.requires.fits.inputs)
    (subst (λ (vs : List (List ℕ)). All (λ v. length v ≡ g.row.N) vs) same counts) (returns-clause-shares g c l lt)
