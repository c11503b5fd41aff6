use Rattle.std.proofs.Common.{List, ℕ, [], ◌∷◌, length, refl, sym, ap, ap₂, ◌∙◌, arith}
use Rattle.mask_circuit.specs.declared.gates.Gate.TheVariants.{And}
use Rattle.mask_circuit.specs.Ring.{words}
use Rattle.mask_circuit.specs.Wires.{gate_out, gate_wires}
use Rattle.mask_bits.specs.Lanes.{lane}
use Rattle.mask_circuit.proofs.PairNumbers.{small, length-pairs}
use Rattle.mask_shares.specs.Sharing.{all_listed}
use Rattle.mask_gadget.specs.Gadgets.{coins_of}
use Rattle.mask_gadget.proofs.Lanes.{out_of_words, wires_of_words, length-lane}
use Rattle.mask_gadget.proofs.Products.{product_count}
use Rattle.mask_gadget.proofs.Sizes.{row_fits}
use Rattle.mask_gadget.proofs.Telling.{plain_words, told_all}
use Rattle.mask_gadget.proofs.Unmasking.{unmasked-and}
use Rattle.mask_gadget.proofs.gadgets.and_gadget.Goals as goal

pub product-requires : goal.product-requires
product-requires g c =
    let few = small g.row.N c.requires.few in
    let all = length-pairs g.row.N in
    let count = product_count g.row.N in
    let none = ap length c.clear.ensures in
    (row_fits g.row.N 8 c.requires.few (omega arith), (c.requires.some, (c.requires.few, (c.requires.coins, omega arith))))

pub returns-clause-words : goal.returns-clause-words
returns-clause-words g c =
    c.from_parts.ensures.value ∙ sym (plain_words c.product.new.out c.product.new.out refl) ∙ c.product.ensures.shares
    ∙ ap₂ (λ (x y : List ℕ). gate_out words g.row.N (And 0 1) (all_listed words (x ∷ y ∷ [])) (coins_of g.row.N c.args.coins.now))
    (plain_words c.parts.result c.args.x c.parts.ensures.value) (plain_words c.parts-2.result c.args.y c.parts-2.ensures.value)

pub returns-clause-word_wires : goal.returns-clause-word_wires
returns-clause-word_wires g c =
    told_all c.clear.new.self.items c.product.new.wires.items _ c.clear.ensures c.product.ensures.told
    ∙ ap₂ (λ (x y : List ℕ). gate_wires words g.row.N (And 0 1) (all_listed words (x ∷ y ∷ [])) (coins_of g.row.N c.args.coins.now))
    (plain_words c.parts.result c.args.x c.parts.ensures.value) (plain_words c.parts-2.result c.args.y c.parts-2.ensures.value)

pub returns-clause-shares : goal.returns-clause-shares
returns-clause-shares g c =
    λ l. out_of_words l g.row.N (And 0 1) (c.args.x ∷ c.args.y ∷ []) (coins_of g.row.N c.args.coins.now) c.from_parts.result tt (returns-clause-words g c)

pub returns-clause-wires : goal.returns-clause-wires
returns-clause-wires g c =
    λ l. wires_of_words l g.row.N (And 0 1) (c.args.x ∷ c.args.y ∷ []) (coins_of g.row.N c.args.coins.now) c.product.new.wires.items tt
    (returns-clause-word_wires g c)

pub returns-clause-bit : goal.returns-clause-bit
returns-clause-bit g c =
    λ l. rw (returns-clause-shares g c l)
    (unmasked-and g.row.N (lane l c.args.x) (lane l c.args.y) (lane l (coins_of g.row.N c.args.coins.now))
    (length-lane l g.row.N c.args.x c.count.ensures.length) (length-lane l g.row.N c.args.y c.count-2.ensures.length) c.requires.some)
