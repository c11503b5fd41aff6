use Rattle.std.proofs.Common.{List, ℕ, [], ◌∷◌, refl, sym, ap₂, ◌∙◌}
use Rattle.mask_circuit.specs.declared.gates.Gate.TheVariants.{Xor}
use Rattle.mask_circuit.specs.Ring.{words}
use Rattle.mask_circuit.specs.Wires.{gate_out}
use Rattle.mask_bits.specs.Lanes.{lane}
use Rattle.mask_shares.specs.Sharing.{all_listed}
use Rattle.mask_gadget.proofs.Lanes.{out_of_words, length-lane}
use Rattle.mask_gadget.proofs.Telling.{plain_words}
use Rattle.mask_gadget.proofs.Unmasking.{unmasked-xor}
use Rattle.mask_gadget.proofs.gadgets.xor_gadget.Goals as goal

pub returns-clause-words : goal.returns-clause-words
returns-clause-words g c =
    c.from_parts.ensures.value ∙ sym (plain_words c.xor.new.out c.xor.new.out refl) ∙ c.xor.ensures.shares
    ∙ ap₂ (λ (x y : List ℕ). gate_out words g.row.N (Xor 0 1) (all_listed words (x ∷ y ∷ [])) [])
    (plain_words c.parts.result c.args.x c.parts.ensures.value) (plain_words c.parts-2.result c.args.y c.parts-2.ensures.value)

pub returns-clause-shares : goal.returns-clause-shares
returns-clause-shares g c = λ l. out_of_words l g.row.N (Xor 0 1) (c.args.x ∷ c.args.y ∷ []) [] c.from_parts.result tt (returns-clause-words g c)

pub returns-clause-bit : goal.returns-clause-bit
returns-clause-bit g c =
    λ l. rw (returns-clause-shares g c l)
    (unmasked-xor g.row.N (lane l c.args.x) (lane l c.args.y) (length-lane l g.row.N c.args.x c.count.ensures.length)
    (length-lane l g.row.N c.args.y c.count-2.ensures.length))
