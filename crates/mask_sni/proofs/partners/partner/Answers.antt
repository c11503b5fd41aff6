use Rattle.std.proofs.Common.{◌≡◌, ℕ, Bool, true, false, ◌&&◌, ◌==◌, not, rules, tests}
use Rattle.std.proofs.lemmas.Iterator.{first_from_Range}
use Rattle.mask_circuit.specs.Shift.{wire_between, is_probed}
use Rattle.mask_sni.specs.Asked.{in_places}
use Rattle.mask_sni.specs.Kinds.{pair_wire, touched}
use Rattle.mask_sni.proofs.Masks.{least_found}
use Rattle.mask_sni.proofs.partners.partner.Goals as goal

pub returns : goal.returns
returns c =
    let test : ℕ → Bool = λ k. not (k == c.args.i) && not (touched c.args.kind c.args.wires.now k) && not (in_places c.args.outputs.now.items k)
    && not (is_probed c.args.wires.now (wire_between (pair_wire c.args.kind) c.args.i k)) in
    least_found test c.args.n c.find.result
    (first_from_Range _ _ _ c.find.result (λ k. test k ≡ true) (λ k. test k ≡ false) c.find.ensures.ran (λ x q k. search (rules, tests)) (λ x q k. search (rules, tests)))
