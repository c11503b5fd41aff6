use Rattle.std.proofs.Common.{ℕ, ◌+◌, ◌*◌, false, get_or, arith, ap, ◌∙◌}
use Rattle.std.proofs.lemmas.List.{length-set, length-replicate}
use Rattle.mask_bits.specs.Reading.{bit, low}
use Rattle.mask_tape.proofs.Lanes.{bit-nought, zeros_at, row_set, row_clear}
use Rattle.mask_tape.proofs.spreading.square.Goals as goal

pub loop-lane-init : goal.loop-lane-init
loop-lane-init c = record {
  count = length-replicate {A = ℕ} 64 0;
  done = λ m j lt hj. absurd (omega arith);
  clear = λ m j le. ap (bit j) (zeros_at 64 m) ∙ bit-nought j;
}

pub loop-lane-preserved : goal.loop-lane-preserved
loop-lane-preserved c =
    let count = c.loop-lane.invariant.count in
    record {
      count = simp length-set count;
      done = row_set (λ m j. get_or (low c.args.bytes.now) (c.args.at + m * c.args.bits + j) false) c.loop-lane.rows c.loop-lane.lane c.window.result
          64 (omega arith) c.loop-lane.invariant.done c.window.ensures;
      clear = row_clear c.loop-lane.rows c.loop-lane.lane c.window.result c.loop-lane.invariant.clear;
    }
