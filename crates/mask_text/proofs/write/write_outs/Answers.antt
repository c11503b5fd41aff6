use Rattle.std.proofs.Common.{◌≡◌, ◌∷◌, [], ◌++◌, get_or, refl, arith}
use Rattle.std.proofs.lemmas.Result.{err_from_is_err_and}
use Rattle.mask_circuit.specs.Text.{Out, line_words, spaced}
use Rattle.mask_text.proofs.Sends.{line-sent, line-stopped, lines-sent}
use Rattle.mask_text.proofs.write.write_outs.Goals as goal

pub loop-value-preserved : goal.loop-value-preserved
loop-value-preserved g c =
    let piece : c.deref.result.now ≡ spaced (line_words (Out (get_or c.args.outputs.now c.loop-value.value-index 0))) ++ 10 ∷ [] = cc in
    record {
      sent = line-sent Out c.args.outputs.now c.loop-value.value-index (get_or c.args.outputs.now c.loop-value.value-index 0) 0
          c.loop-value-test.true refl _ _ _ c.deref.result.now _ piece c.loop-value.invariant.sent c.in_ok-write_all.ensures.whole;
      steady = omega (arith, c.in_ok-write_all.ensures.counts, c.loop-value.invariant.steady);
    }

pub returns-in_err-write_all-clause-sends : goal.returns-in_err-write_all-clause-sends
returns-in_err-write_all-clause-sends g c =
    let piece : c.deref.result.now ≡ spaced (line_words (Out (get_or c.args.outputs.now c.loop-value.value-index 0))) ++ 10 ∷ [] = cc in
    let stopped = err_from_is_err_and c.from_residual.result c.from_residual.ensures.1 in
    rw stopped.1 (line-stopped Out c.args.outputs.now c.loop-value.value-index (get_or c.args.outputs.now c.loop-value.value-index 0) 0
    c.loop-value-test.true refl _ _ _ c.deref.result.now _ piece c.loop-value.invariant.sent c.in_err-write_all.ensures.part)

pub returns-clause-sends : goal.returns-clause-sends
returns-clause-sends g c = lines-sent Out c.args.outputs.now c.loop-value.value-index _ _ _ (omega arith) c.loop-value.invariant.sent
