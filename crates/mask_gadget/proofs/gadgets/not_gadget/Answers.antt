use Rattle.std.proofs.Common.{List, ℕ, [], ◌∷◌, refl, sym, ap, ◌∙◌}
use Rattle.mask_circuit.specs.declared.gates.Gate.TheVariants.{Not}
use Rattle.mask_circuit.specs.Ring.{words}
use Rattle.mask_circuit.specs.Wires.{gate_out}
use Rattle.mask_bits.specs.Lanes.{lane}
use Rattle.mask_shares.specs.Sharing.{all_listed}
use Rattle.mask_gadget.proofs.Lanes.{out_of_words, length-lane, keeps_unit}
use Rattle.mask_gadget.proofs.Telling.{plain_words}
use Rattle.mask_gadget.proofs.Unmasking.{unmasked-not}
use Rattle.mask_gadget.proofs.gadgets.not_gadget.Goals as goal

pub returns-clause-words : goal.returns-clause-words
returns-clause-words g c =
    c.from_parts.ensures.value ∙ sym (plain_words c.not.new.out c.not.new.out refl) ∙ c.not.ensures.shares
    ∙ ap (λ (x : List ℕ). gate_out words g.row.N (Not 0) (all_listed words (x ∷ [])) []) (plain_words c.parts.result c.args.x c.parts.ensures.value)

pub returns-clause-shares : goal.returns-clause-shares
returns-clause-shares g c =
    λ l lt. out_of_words l g.row.N (Not 0) (c.args.x ∷ []) [] c.from_parts.result (keeps_unit l lt) (returns-clause-words g c)

pub returns-clause-bit : goal.returns-clause-bit
returns-clause-bit g c =
    λ l lt. rw (returns-clause-shares g c l lt)
    (unmasked-not g.row.N (lane l c.args.x) (length-lane l g.row.N c.args.x c.count.ensures.length) c.requires.some)
