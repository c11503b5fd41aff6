use Rattle.std.proofs.Common.{◌≡◌, suc, ◌+◌, ◌-◌, ◌<◌, ◌∷◌, [], length, map, refl, arith, ◌∙◌, ap}
use Rattle.mask_circuit.specs.Ring.{words}
use Rattle.mask_circuit.specs.Wires.{refresh_wire}
use Rattle.mask_tape.specs.Drawn.{Drawn}
use Rattle.mask_gadget.specs.Gadgets.{IsAtRow, pair_coin, update_names}
use Rattle.mask_gadget.proofs.Pairs.{coin_next, column_more}
use Rattle.mask_gadget.proofs.Refreshes.{row_begins, row_ends, pair_done, pair_wires}
use Rattle.mask_gadget.proofs.Sizes.{row_fits}
use Rattle.mask_gadget.proofs.Telling.{told_more-none, told_then}
use Rattle.mask_gadget.proofs.refresh.add_to_row.Goals as goal

pub loop-j-init : goal.loop-j-init
loop-j-init g c =
    let none : 0 - suc c.args.i ≡ 0 = omega arith in
    let start : suc c.args.i + (0 - suc c.args.i) ≡ c.args.i + 1 = omega arith in
    record {
      told = λ a first at done. rw none (told_more-none (g.W.Wiring.told c.args.wires.now));
      room = omega arith;
      used = omega arith;
      same = refl;
      parts = λ a first at done. rw start (row_begins g.row.N a (pair_coin g.row.N first) c.args.i (map g.W.Wiring.carried c.args.parts.now) c.requires.row done);
    }

pub fresh-coin-requires : goal.fresh-coin-requires
fresh-coin-requires g c = let same = ap length c.loop-j.invariant.same in record { left = omega arith; room = omega arith }

pub add_to_pair-requires : goal.add_to_pair-requires
add_to_pair-requires g c = (row_fits g.row.N _ c.requires.few g.met.W.Wiring.small, (omega arith, (c.loop-j-test.true, omega arith)))

pub loop-j-preserved : goal.loop-j-preserved
loop-j-preserved g c =
    let W = g.W.Wiring in
    let low : c.args.i < c.loop-j.j = omega arith in
    let high : c.loop-j.j < g.row.N = c.loop-j-test.true in
    let here : suc c.args.i + (c.loop-j.j - suc c.args.i) ≡ c.loop-j.j = omega arith in
    let next : suc c.args.i + (c.loop-j.j + 1 - suc c.args.i) ≡ c.loop-j.j + 1 = omega arith in
    let parts = map g.W.Wiring.carried c.loop-j.parts in
    let coin = g.W.Wiring.carried c.fresh-coin.result in
    let coin_is : (first : Drawn) → IsAtRow g.row.N c.args.i first (g.W.Wiring.drawn c.args.coins.now) → coin ≡ pair_coin g.row.N first c.args.i c.loop-j.j =
    λ first at. c.fresh-coin.ensures.value
    ∙ coin_next g.row.N c.args.i c.loop-j.j first (W.drawn c.args.coins.now) (W.drawn c.loop-j.coins) low high at c.loop-j.invariant.same c.loop-j.invariant.used in
    record {
      told = λ a first at done.
          column_more (refresh_wire words g.row.N a (pair_coin g.row.N first)) (update_names g.row.N) (W.told c.args.wires.now) (W.told c.loop-j.wires) _ c.args.i
          c.loop-j.j _ low (c.loop-j.invariant.told a first at done)
          (told_then (W.told c.loop-j.wires) _ _ (coin ∷ []) _ c.fresh-coin.ensures.told c.add_to_pair.ensures.told)
          (pair_wires g.row.N a (pair_coin g.row.N first) c.args.i c.loop-j.j coin parts low high (coin_is first at) (rw here at c.loop-j.invariant.parts a first at done));
      room = omega arith;
      used = omega arith;
      same = c.fresh-coin.ensures.same ∙ c.loop-j.invariant.same;
      parts = λ a first at done. rw (next, c.add_to_pair.ensures.parts)
          (pair_done g.row.N a (pair_coin g.row.N first) c.args.i c.loop-j.j coin parts low high (coin_is first at) (rw here at c.loop-j.invariant.parts a first at done));
    }

pub loop-j-preserved-then-j-i : goal.loop-j-preserved-then-j-i
loop-j-preserved-then-j-i g c =
    let none : c.loop-j.j + 1 - suc c.args.i ≡ c.loop-j.j - suc c.args.i = omega arith in
    record {
      told = λ a first at done. rw none (c.loop-j.invariant.told a first at done);
      room = omega arith;
      used = omega arith;
      same = c.loop-j.invariant.same;
      parts = λ a first at done. rw none (c.loop-j.invariant.parts a first at done);
    }

pub returns-clause-parts : goal.returns-clause-parts
returns-clause-parts g c =
    λ a first at done. row_ends g.row.N a (pair_coin g.row.N first) c.args.i _ (map g.W.Wiring.carried c.loop-j.parts) c.requires.row (omega arith)
    (c.loop-j.invariant.parts a first at done)

pub returns-clause-told : goal.returns-clause-told
returns-clause-told g c =
    λ a first at done. let end : c.loop-j.j ≡ g.row.N = omega arith in rw end at c.loop-j.invariant.told a first at done
