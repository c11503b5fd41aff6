use Rattle.std.proofs.Common.{◌≡◌, ℕ, ◌+◌, ◌-◌, ◌*◌, ◌<◌, ◌≤◌, length, map, arith, ◌∙◌, ap}
use Rattle.std.proofs.Math.Nat.{mul-le-mul_right}
use Rattle.std.proofs.lemmas.List.{length-map, length-set, map-set}
use Rattle.std.proofs.lemmas.List.Edits.{fill_by_more}
use Rattle.mask_circuit.specs.Ring.{words}
use Rattle.mask_circuit.specs.declared.gates.Wire.TheVariants.{Share}
use Rattle.mask_circuit.specs.Wires.{product_wire}
use Rattle.mask_shares.proofs.Lists.{is_each}
use Rattle.mask_gadget.specs.Wiring.{told_more, cell}
use Rattle.mask_gadget.specs.Gadgets.{row_names}
use Rattle.mask_gadget.proofs.Products.{row_made, row_ends}
use Rattle.mask_gadget.proofs.Sizes.{row_fits}
use Rattle.mask_gadget.proofs.Telling.{told_more-none, told_joined}
use Rattle.mask_gadget.proofs.product.sum_rows.Goals as goal

pub loop-i-init : goal.loop-i-init
loop-i-init g c = record {
  count = c.told-out;
  shares = λ a b r mixed k lt. absurd (omega arith);
  told = λ a b r mixed. told_more-none (g.W.Wiring.told c.args.wires.now);
  room = omega arith;
}

pub sum_row-requires : goal.sum_row-requires
sum_row-requires g c =
    let rows : (c.loop-i.i + 1) * (g.row.N - 1) ≤ g.row.N * (g.row.N - 1) = mul-le-mul_right (g.row.N - 1) (omega arith) in
    (row_fits g.row.N _ c.requires.few g.met.W.Wiring.small, (c.requires.some, (c.requires.few, (c.loop-i-test.true, omega arith))))

pub loop-i-preserved : goal.loop-i-preserved
loop-i-preserved g c =
    let W = g.W.Wiring in
    let term : ℕ → ℕ → ℕ = cell g.W.Wiring.carried c.args.terms.now in
    record {
      count = length-set c.loop-i.out c.loop-i.i c.sum_row.result ∙ c.loop-i.invariant.count;
      shares = λ a b r mixed.
          let f : ℕ → ℕ = λ k. product_wire words g.row.N a b r (Share k) in
          let share : W.carried c.sum_row.result ≡ f c.loop-i.i = c.sum_row.ensures.sum ∙ row_ends g.row.N a b r term c.loop-i.i c.loop-i-test.true mixed in
          let within : c.loop-i.i < length (map W.carried c.loop-i.out) = rw (length-map c.loop-i.out W.carried, c.loop-i.invariant.count) c.loop-i-test.true in
          rw (map-set W.carried c.loop-i.out c.loop-i.i c.sum_row.result, share)
          (fill_by_more f (map W.carried c.loop-i.out) c.loop-i.i 0 within (c.loop-i.invariant.shares a b r mixed));
      told = λ a b r mixed. told_joined (product_wire words g.row.N a b r) (row_names g.row.N) (W.told c.args.wires.now) (W.told c.loop-i.wires) _ c.loop-i.i
          (c.loop-i.invariant.told a b r mixed)
          (c.sum_row.ensures.told ∙ ap (told_more (W.told c.loop-i.wires)) (row_made g.row.N a b r term c.loop-i.i c.loop-i-test.true mixed));
      room = omega arith;
    }

pub returns-clause-shares : goal.returns-clause-shares
returns-clause-shares g c =
    λ a b r mixed. is_each (λ k. product_wire words g.row.N a b r (Share k)) g.row.N (map g.W.Wiring.carried c.loop-i.out)
    (length-map c.loop-i.out g.W.Wiring.carried ∙ c.loop-i.invariant.count) (λ k lt. c.loop-i.invariant.shares a b r mixed k (omega arith))

pub returns-clause-told : goal.returns-clause-told
returns-clause-told g c = λ a b r mixed. let end : c.loop-i.i ≡ g.row.N = omega arith in rw end at c.loop-i.invariant.told a b r mixed
