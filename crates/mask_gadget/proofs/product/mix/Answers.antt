use Rattle.std.proofs.Common.{◌≡◌, suc, ◌+◌, ◌-◌, length, refl, arith, ap, add-one}
use Rattle.mask_circuit.specs.Ring.{words}
use Rattle.mask_circuit.specs.Wires.{product_wire}
use Rattle.mask_gadget.specs.Gadgets.{pair_coin, pair_row}
use Rattle.mask_circuit.proofs.PairNumbers.{length-pairs, pairs_before-all, pairs_before-more}
use Rattle.mask_gadget.proofs.Pairs.{row_within, next_row}
use Rattle.mask_gadget.proofs.Sizes.{row_fits, square_fits}
use Rattle.mask_gadget.proofs.Telling.{told_more-none, told_joined}
use Rattle.mask_gadget.proofs.product.mix.Goals as goal

pub loop-i-init : goal.loop-i-init
loop-i-init g c = record {
  square = c.requires.square;
  cells = λ a b mixed. mixed;
  told = λ a b mixed. told_more-none (g.W.Wiring.told c.args.wires.now);
  room = omega arith;
  at = record { same = refl; used = omega arith };
}

pub mix_row-requires : goal.mix_row-requires
mix_row-requires g c =
    let within = row_within g.row.N c.loop-i.i (omega arith) in
    let all = length-pairs g.row.N in
    let same = ap length c.loop-i.invariant.at.same in
    let used = c.loop-i.invariant.at.used in (
      square_fits g.row.N _ c.requires.few g.met.W.Wiring.small,
      (
        row_fits g.row.N _ c.requires.few g.met.W.Wiring.small,
        (c.requires.few, (omega arith, (omega arith, (omega arith, c.loop-i.invariant.square)))),
      ),
    )

pub loop-i-preserved : goal.loop-i-preserved
loop-i-preserved g c =
    let W = g.W.Wiring in
    let first = g.W.Wiring.drawn c.args.coins.now in
    let next : c.loop-i.i + 1 ≡ suc c.loop-i.i = add-one c.loop-i.i in
    record {
      square = c.mix_row.ensures.square;
      cells = λ a b mixed. rw next (c.mix_row.ensures.cells a b first c.loop-i.invariant.at (c.loop-i.invariant.cells a b mixed));
      told = λ a b mixed. told_joined (product_wire words g.row.N a b (pair_coin g.row.N first)) (λ i. pair_row i (g.row.N - suc i))
          (W.told c.args.wires.now) (W.told c.loop-i.wires) _ c.loop-i.i (c.loop-i.invariant.told a b mixed)
          (c.mix_row.ensures.told a b first c.loop-i.invariant.at (c.loop-i.invariant.cells a b mixed));
      room = let more = pairs_before-more g.row.N c.loop-i.i in omega arith;
      at = next_row g.row.N c.loop-i.i first (W.drawn c.loop-i.coins) _ c.loop-i.invariant.at c.mix_row.ensures.same c.mix_row.ensures.spent;
    }

pub returns-clause-cells : goal.returns-clause-cells
returns-clause-cells g c = λ a b mixed. let end : c.loop-i.i ≡ g.row.N = omega arith in rw end at c.loop-i.invariant.cells a b mixed

pub returns-clause-told : goal.returns-clause-told
returns-clause-told g c = λ a b mixed. let end : c.loop-i.i ≡ g.row.N = omega arith in rw end at c.loop-i.invariant.told a b mixed

pub returns-clause-room : goal.returns-clause-room
returns-clause-room g c = let all = pairs_before-all g.row.N c.loop-i.i (omega arith) in omega arith

pub returns-clause-spent : goal.returns-clause-spent
returns-clause-spent g c = let all = pairs_before-all g.row.N c.loop-i.i (omega arith) in omega (arith, c.loop-i.invariant.at.used)
