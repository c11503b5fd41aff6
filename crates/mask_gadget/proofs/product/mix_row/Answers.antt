use Rattle.std.proofs.Common.{◌≡◌, ℕ, suc, ◌+◌, ◌-◌, ◌<◌, [], length, get_or, bit_xor, refl, arith, ◌∙◌, ap, add-one}
use Rattle.mask_circuit.specs.Ring.{words}
use Rattle.mask_circuit.specs.Wires.{product_wire}
use Rattle.mask_tape.specs.Drawn.{Drawn}
use Rattle.mask_gadget.specs.Wiring.{cell}
use Rattle.mask_gadget.specs.Gadgets.{IsAtRow, pair_coin, pair_names}
use Rattle.mask_gadget.proofs.Cells.{both_square, upper_written, lower_written, others_kept}
use Rattle.mask_gadget.proofs.Mixing.{pair_mixed, pair_terms, row_begun, row_mixed}
use Rattle.mask_gadget.proofs.Pairs.{coin_next, column_more}
use Rattle.mask_gadget.proofs.Telling.{told_more-none, told_three, word_read}
use Rattle.mask_gadget.proofs.product.mix_row.Goals as goal

pub loop-j-init : goal.loop-j-init
loop-j-init g c =
    let none : 0 - suc c.args.i ≡ 0 = omega arith in
    record {
      square = c.requires.square;
      cells = λ a b first at mixed. row_begun g.row.N a b (pair_coin g.row.N first) c.args.i (suc c.args.i) 0 (cell g.W.Wiring.carried c.args.terms.now) (omega arith) (omega arith) mixed;
      told = λ a b first at mixed. rw none (told_more-none (g.W.Wiring.told c.args.wires.now));
      room = omega arith;
      used = omega arith;
      same = refl;
    }

pub fresh-fresh-requires : goal.fresh-fresh-requires
fresh-fresh-requires g c = let same = ap length c.loop-j.invariant.same in record { left = omega arith; room = omega arith }

pub loop-j-preserved : goal.loop-j-preserved
loop-j-preserved g c =
    let W = g.W.Wiring in
    let i = c.args.i in
    let j = c.loop-j.j in
    let low : c.args.i < c.loop-j.j = omega arith in
    let high : c.loop-j.j < g.row.N = c.loop-j-test.true in
    let term : ℕ → ℕ → ℕ = cell g.W.Wiring.carried c.loop-j.terms in
    let fresh : ℕ = g.W.Wiring.carried c.fresh-fresh.result in
    let square = c.loop-j.invariant.square in
    let upper_row : c.loop-j.j < length (get_or c.loop-j.terms c.args.i []) = rw (square.columns i (omega arith)) high in
    let lower_row : c.args.i < length (get_or c.loop-j.terms c.loop-j.j []) = rw (square.columns j high) (omega arith) in
    let left : W.carried c.xor-left.result ≡ bit_xor fresh (term i j) =
    c.xor-left.ensures.value ∙ ap (bit_xor fresh) (word_read W.carried (get_or c.loop-j.terms i []) j c.index-terms-i.result upper_row) in
    let right : W.carried c.xor-right.result ≡ bit_xor (bit_xor fresh (term i j)) (term j i) =
    c.xor-right.ensures.value
    ∙ ap (bit_xor (W.carried c.xor-left.result)) (word_read W.carried (get_or c.loop-j.terms j []) i c.index-terms-j.result lower_row)
    ∙ ap (λ (x : ℕ). bit_xor x (term j i)) left in
    let coin : (first : Drawn) → IsAtRow g.row.N c.args.i first (g.W.Wiring.drawn c.args.coins.now) → fresh ≡ pair_coin g.row.N first i j =
    λ first at. c.fresh-fresh.ensures.value
    ∙ coin_next g.row.N i j first (W.drawn c.args.coins.now) (W.drawn c.loop-j.coins) low high at c.loop-j.invariant.same c.loop-j.invariant.used in
    record {
      square = both_square W.carried g.row.N c.loop-j.terms square i j c.fresh-fresh.result c.xor-right.result low high;
      cells = λ a b first at mixed.
          let r : ℕ → ℕ → ℕ = pair_coin g.row.N first in
          rw (add-one j)
          (pair_mixed g.row.N a b r i j term _ low high (c.loop-j.invariant.cells a b first at mixed)
          (upper_written W.carried g.row.N c.loop-j.terms square i j c.fresh-fresh.result c.xor-right.result low high ∙ coin first at)
          (lower_written W.carried g.row.N c.loop-j.terms square i j c.fresh-fresh.result c.xor-right.result low high
          ∙ right ∙ ap (λ (x : ℕ). bit_xor (bit_xor x (term i j)) (term j i)) (coin first at))
          (others_kept W.carried g.row.N c.loop-j.terms square i j c.fresh-fresh.result c.xor-right.result low high));
      told = λ a b first at mixed.
          let r : ℕ → ℕ → ℕ = pair_coin g.row.N first in
          let terms = pair_terms g.row.N a b r i j term low high (c.loop-j.invariant.cells a b first at mixed) in
          column_more (product_wire words g.row.N a b r) pair_names (W.told c.args.wires.now) (W.told c.loop-j.wires) _ i j _ low
          (c.loop-j.invariant.told a b first at mixed)
          (told_three (W.told c.loop-j.wires) _ _ _ _ _ _ c.fresh-fresh.ensures.told c.xor-left.ensures.told c.xor-right.ensures.told)
          (rw (right, left, coin first at, terms.0, terms.1) refl);
      room = omega arith;
      used = omega arith;
      same = c.fresh-fresh.ensures.same ∙ c.loop-j.invariant.same;
    }

pub loop-j-preserved-then-j-i : goal.loop-j-preserved-then-j-i
loop-j-preserved-then-j-i g c =
    let none : c.loop-j.j + 1 - suc c.args.i ≡ c.loop-j.j - suc c.args.i = omega arith in
    record {
      square = c.loop-j.invariant.square;
      cells = λ a b first at mixed.
          row_begun g.row.N a b (pair_coin g.row.N first) c.args.i c.loop-j.j (c.loop-j.j + 1) (cell g.W.Wiring.carried c.loop-j.terms) (omega arith) (omega arith)
          (c.loop-j.invariant.cells a b first at mixed);
      told = λ a b first at mixed. rw none (c.loop-j.invariant.told a b first at mixed);
      room = omega arith;
      used = omega arith;
      same = c.loop-j.invariant.same;
    }

pub returns-clause-cells : goal.returns-clause-cells
returns-clause-cells g c =
    λ a b first at mixed.
    let end : c.loop-j.j ≡ g.row.N = omega arith in
    row_mixed g.row.N a b (pair_coin g.row.N first) c.args.i (cell g.W.Wiring.carried c.loop-j.terms) (rw end at c.loop-j.invariant.cells a b first at mixed)

pub returns-clause-told : goal.returns-clause-told
returns-clause-told g c = λ a b first at mixed. let end : c.loop-j.j ≡ g.row.N = omega arith in rw end at c.loop-j.invariant.told a b first at mixed
