use Rattle.std.proofs.Common.{◌≡◌, ◌∷◌, [], ◌++◌, get_or, refl, arith}
use Rattle.std.proofs.lemmas.Result.{err_from_is_err_and}
use Rattle.mask_circuit.specs.declared.gates.Gate.TheVariants.{Zero}
use Rattle.mask_circuit.specs.Text.{Makes, line_words, spaced}
use Rattle.mask_text.proofs.Sends.{line-sent, line-stopped, lines-sent}
use Rattle.mask_text.proofs.write.write_gates.Goals as goal

pub loop-gate-preserved : goal.loop-gate-preserved
loop-gate-preserved g c =
    let piece : c.deref.result.now ≡ spaced (line_words (Makes (get_or c.args.gates.now c.loop-gate.gate-index Zero))) ++ 10 ∷ [] = cc in
    record {
      sent = line-sent Makes c.args.gates.now c.loop-gate.gate-index (get_or c.args.gates.now c.loop-gate.gate-index Zero) Zero
          c.loop-gate-test.true refl _ _ _ c.deref.result.now _ piece c.loop-gate.invariant.sent c.in_ok-write_all.ensures.whole;
      steady = omega (arith, c.in_ok-write_all.ensures.counts, c.loop-gate.invariant.steady);
    }

pub returns-in_err-write_all-clause-sends : goal.returns-in_err-write_all-clause-sends
returns-in_err-write_all-clause-sends g c =
    let piece : c.deref.result.now ≡ spaced (line_words (Makes (get_or c.args.gates.now c.loop-gate.gate-index Zero))) ++ 10 ∷ [] = cc in
    let stopped = err_from_is_err_and c.from_residual.result c.from_residual.ensures.1 in
    rw stopped.1 (line-stopped Makes c.args.gates.now c.loop-gate.gate-index (get_or c.args.gates.now c.loop-gate.gate-index Zero) Zero
    c.loop-gate-test.true refl _ _ _ c.deref.result.now _ piece c.loop-gate.invariant.sent c.in_err-write_all.ensures.part)

pub returns-clause-sends : goal.returns-clause-sends
returns-clause-sends g c = lines-sent Makes c.args.gates.now c.loop-gate.gate-index _ _ _ (omega arith) c.loop-gate.invariant.sent
