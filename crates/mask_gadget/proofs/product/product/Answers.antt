use Rattle.std.proofs.Common.{ℕ, map, get_or, arith, ◌∙◌, sym}
use Rattle.std.proofs.lemmas.List.{length-replicate}
use Rattle.mask_circuit.specs.Ring.{words}
use Rattle.mask_circuit.specs.declared.gates.Wire.TheVariants.{Share}
use Rattle.mask_circuit.specs.Wires.{product_wire}
use Rattle.mask_gadget.specs.Wiring.{cell}
use Rattle.mask_gadget.specs.Gadgets.{pair_coin}
use Rattle.mask_gadget.proofs.Cells.{same_rows}
use Rattle.mask_shares.proofs.Lists.{map-each}
use Rattle.mask_gadget.proofs.Mixing.{none_mixed}
use Rattle.mask_gadget.proofs.Products.{product_count, all_told}
use Rattle.mask_gadget.proofs.Sizes.{row_fits, square_fits}
use Rattle.mask_gadget.proofs.product.product.Goals as goal

pub multiply-requires : goal.multiply-requires
multiply-requires g c =
    let count = product_count g.row.N in
    (row_fits g.row.N _ c.requires.few g.met.W.Wiring.small, (square_fits g.row.N _ c.requires.few g.met.W.Wiring.small, (c.requires.few, (omega arith, same_rows g.row.N _ (length-replicate g.row.N _)))))

pub mix-requires : goal.mix-requires
mix-requires g c =
    let count = product_count g.row.N in (
      square_fits g.row.N _ c.requires.few g.met.W.Wiring.small,
      (
        row_fits g.row.N _ c.requires.few g.met.W.Wiring.small,
        (c.requires.few, (c.requires.coins, (omega arith, c.multiply.ensures.square))),
      ),
    )

pub sum_rows-requires : goal.sum_rows-requires
sum_rows-requires g c =
    let count = product_count g.row.N in (
      square_fits g.row.N _ c.requires.few g.met.W.Wiring.small,
      (
        row_fits g.row.N _ c.requires.few g.met.W.Wiring.small,
        (c.requires.some, (c.requires.few, (omega arith, c.mix.ensures.square))),
      ),
    )

pub returns-clause-shares : goal.returns-clause-shares
returns-clause-shares g c =
    let a : ℕ → ℕ = λ i. get_or (map g.W.Wiring.carried c.args.x.now) i 0 in
    let b : ℕ → ℕ = λ i. get_or (map g.W.Wiring.carried c.args.y.now) i 0 in
    let r : ℕ → ℕ → ℕ = pair_coin g.row.N (g.W.Wiring.drawn c.args.coins.now) in
    let none = none_mixed g.row.N a b r (cell g.W.Wiring.carried c.multiply.new.terms) c.multiply.ensures.cells in
    c.sum_rows.ensures.shares a b r (c.mix.ensures.cells a b none) ∙ sym (map-each (product_wire words g.row.N a b r) Share g.row.N)

pub returns-clause-told : goal.returns-clause-told
returns-clause-told g c =
    let W = g.W.Wiring in
    let a : ℕ → ℕ = λ i. get_or (map g.W.Wiring.carried c.args.x.now) i 0 in
    let b : ℕ → ℕ = λ i. get_or (map g.W.Wiring.carried c.args.y.now) i 0 in
    let r : ℕ → ℕ → ℕ = pair_coin g.row.N (g.W.Wiring.drawn c.args.coins.now) in
    let none = none_mixed g.row.N a b r (cell g.W.Wiring.carried c.multiply.new.terms) c.multiply.ensures.cells in
    all_told g.row.N a b r (W.told c.args.wires.now) _ _ _ c.multiply.ensures.told (c.mix.ensures.told a b none)
    (c.sum_rows.ensures.told a b r (c.mix.ensures.cells a b none))

pub returns-clause-room : goal.returns-clause-room
returns-clause-room g c = let count = product_count g.row.N in omega arith
