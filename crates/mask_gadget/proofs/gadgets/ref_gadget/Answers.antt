use Rattle.std.proofs.Common.{List, ℕ, [], ◌∷◌, length, refl, sym, ap, ◌∙◌, arith}
use Rattle.mask_circuit.specs.declared.gates.Gate.TheVariants.{Ref}
use Rattle.mask_circuit.specs.Ring.{words}
use Rattle.mask_circuit.specs.Wires.{gate_out, gate_wires}
use Rattle.mask_bits.specs.Lanes.{lane}
use Rattle.mask_circuit.proofs.PairNumbers.{small, length-pairs}
use Rattle.mask_shares.specs.Sharing.{all_listed}
use Rattle.mask_gadget.specs.Gadgets.{coins_of}
use Rattle.mask_gadget.proofs.Lanes.{out_of_words, wires_of_words, length-lane}
use Rattle.mask_gadget.proofs.Refreshes.{refresh_count}
use Rattle.mask_gadget.proofs.Sizes.{row_fits}
use Rattle.mask_gadget.proofs.Telling.{plain_words, told_all}
use Rattle.mask_gadget.proofs.Unmasking.{unmasked-ref}
use Rattle.mask_gadget.proofs.gadgets.ref_gadget.Goals as goal

pub refresh-requires : goal.refresh-requires
refresh-requires g c =
    let few = small g.row.N c.requires.few in
    let all = length-pairs g.row.N in
    let count = refresh_count g.row.N in
    let none = ap length c.clear.ensures in
    (row_fits g.row.N 8 c.requires.few (omega arith), (c.requires.some, (c.requires.few, (c.requires.coins, omega arith))))

pub returns-clause-words : goal.returns-clause-words
returns-clause-words g c =
    c.from_parts.ensures.value ∙ sym (plain_words c.refresh.new.out c.refresh.new.out refl) ∙ c.refresh.ensures.shares
    ∙ ap (λ (x : List ℕ). gate_out words g.row.N (Ref 0) (all_listed words (x ∷ [])) (coins_of g.row.N c.args.coins.now))
    (plain_words c.parts.result c.args.x c.parts.ensures.value)

pub returns-clause-word_wires : goal.returns-clause-word_wires
returns-clause-word_wires g c =
    told_all c.clear.new.self.items c.refresh.new.wires.items _ c.clear.ensures c.refresh.ensures.told
    ∙ ap (λ (x : List ℕ). gate_wires words g.row.N (Ref 0) (all_listed words (x ∷ [])) (coins_of g.row.N c.args.coins.now))
    (plain_words c.parts.result c.args.x c.parts.ensures.value)

pub returns-clause-shares : goal.returns-clause-shares
returns-clause-shares g c =
    λ l. out_of_words l g.row.N (Ref 0) (c.args.x ∷ []) (coins_of g.row.N c.args.coins.now) c.from_parts.result tt (returns-clause-words g c)

pub returns-clause-wires : goal.returns-clause-wires
returns-clause-wires g c =
    λ l. wires_of_words l g.row.N (Ref 0) (c.args.x ∷ []) (coins_of g.row.N c.args.coins.now) c.refresh.new.wires.items tt (returns-clause-word_wires g c)

pub returns-clause-bit : goal.returns-clause-bit
returns-clause-bit g c =
    λ l. rw (returns-clause-shares g c l)
    (unmasked-ref g.row.N (lane l c.args.x) (lane l (coins_of g.row.N c.args.coins.now)) (length-lane l g.row.N c.args.x c.count.ensures.length)
    c.requires.some)
