use Rattle.std.proofs.Common.{ℕ, ◌∷◌, [], arith, ◌∙◌, ap, ap₂}
use Rattle.mask_gadget.specs.Wiring.{told_more}
use Rattle.mask_gadget.proofs.Refreshes.{first_updated, second_updated, both_updated}
use Rattle.mask_gadget.proofs.Telling.{told_then}
use Rattle.mask_gadget.proofs.refresh.add_to_pair.Goals as goal

pub returns-clause-parts : goal.returns-clause-parts
returns-clause-parts g c =
    both_updated g.W.Wiring.carried g.row.N c.args.parts.now c.args.i c.args.j c.xor.result c.xor-2.result (g.W.Wiring.carried c.args.coin) _ _ c.told-parts
    c.requires.order c.requires.bound c.xor.ensures.value c.xor-2.ensures.value

pub returns-clause-told : goal.returns-clause-told
returns-clause-told g c =
    let W = g.W.Wiring in
    let first = first_updated W.carried g.row.N c.args.parts.now c.args.i c.xor.result (W.carried c.args.coin) _ c.told-parts (omega arith) c.xor.ensures.value in
    let second = second_updated W.carried g.row.N c.args.parts.now c.args.i c.args.j c.xor.result c.xor-2.result (W.carried c.args.coin) _ c.told-parts
    c.requires.order c.requires.bound c.xor-2.ensures.value in
    told_then (W.told c.args.wires.now) _ _ _ _ c.xor.ensures.told c.xor-2.ensures.told
    ∙ ap (told_more (W.told c.args.wires.now)) (ap₂ (λ (x y : ℕ). x ∷ y ∷ []) first second)
