use Rattle.std.proofs.Common.{◌≡◌, ℕ, ◌<◌, ◌*◌, ◌+◌, ◌≤◌, inl, inr, List, length, map, get_or, bit_and, arith, ◌∙◌, ap, sym}
use Rattle.std.proofs.Math.Nat.{mul-le-mul_right}
use Rattle.mask_circuit.specs.Wires.{each}
use Rattle.mask_circuit.proofs.Places.{below_cases}
use Rattle.mask_shares.proofs.Lists.{get_or-each}
use Rattle.mask_gadget.specs.Wiring.{told_more}
use Rattle.mask_gadget.proofs.Cells.{row_written, row_kept, row_square}
use Rattle.mask_gadget.proofs.Sizes.{row_fits}
use Rattle.mask_gadget.proofs.Telling.{told_more-none, told_piece, made_count, word_read}
use Rattle.mask_gadget.proofs.product.multiply.Goals as goal

pub loop-i-init : goal.loop-i-init
loop-i-init g c = record {
  square = c.requires.square;
  cells = λ i j lt_i lt_j. absurd (omega arith);
  told = told_more-none (g.W.Wiring.told c.args.wires.now);
  room = omega arith;
}

pub multiply_row-requires : goal.multiply_row-requires
multiply_row-requires g c =
    let rows : (c.loop-i.i + 1) * g.row.N ≤ g.row.N * g.row.N = mul-le-mul_right g.row.N (omega arith) in
    (row_fits g.row.N _ c.requires.few g.met.W.Wiring.small, (c.requires.few, omega arith))

pub loop-i-preserved : goal.loop-i-preserved
loop-i-preserved g c =
    let W = g.W.Wiring in
    let product : ℕ → ℕ → ℕ = λ i j. bit_and (get_or (map g.W.Wiring.carried c.args.x.now) i 0) (get_or (map g.W.Wiring.carried c.args.y.now) j 0) in
    let within : c.loop-i.i < length c.args.x.now = omega arith in
    let share : W.carried (get_or c.args.x.now c.loop-i.i c.index-x-i.result) ≡ get_or (map W.carried c.args.x.now) c.loop-i.i 0 =
    word_read W.carried c.args.x.now c.loop-i.i c.index-x-i.result within in
    let row : map W.carried c.multiply_row.new.row ≡ each (product c.loop-i.i) g.row.N =
    c.multiply_row.ensures.row ∙ ap (λ (a : ℕ). each (λ j. bit_and a (get_or (map g.W.Wiring.carried c.args.y.now) j 0)) g.row.N) share in
    record {
      square = row_square g.row.N c.loop-i.terms c.loop-i.invariant.square c.loop-i.i c.multiply_row.new.row
          (made_count W.carried g.row.N (product c.loop-i.i) c.multiply_row.new.row row);
      cells = λ i j lt_i lt_j. elim (below_cases i c.loop-i.i (omega arith)) [
        | inl before ↦
            row_kept g.row.N c.loop-i.terms c.loop-i.invariant.square c.loop-i.i c.multiply_row.new.row W.carried i j (λ e. omega arith)
            ∙ c.loop-i.invariant.cells i j before lt_j
        | inr here ↦
            row_written g.row.N c.loop-i.terms c.loop-i.invariant.square c.loop-i.i c.multiply_row.new.row W.carried i j c.loop-i-test.true here
            ∙ ap (λ (xs : List ℕ). get_or xs j 0) row
            ∙ get_or-each (product c.loop-i.i) g.row.N j 0 lt_j
            ∙ ap (λ (k : ℕ). product k j) (sym here)
      ];
      told = told_piece (W.told c.args.wires.now) (W.told c.loop-i.wires) _ (λ i. each (product i) g.row.N) c.loop-i.i c.loop-i.invariant.told
          (c.multiply_row.ensures.told ∙ ap (λ (a : ℕ). told_more (W.told c.loop-i.wires) (each (λ j. bit_and a (get_or (map g.W.Wiring.carried c.args.y.now) j 0)) g.row.N)) share);
      room = omega arith;
    }

pub returns-clause-cells : goal.returns-clause-cells
returns-clause-cells g c = λ i j lt_i lt_j. c.loop-i.invariant.cells i j (omega arith) lt_j
