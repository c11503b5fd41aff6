use Rattle.std.proofs.Common.{refl, arith}
use Rattle.mask_check.proofs.Passing.{HasCome-start, HasCome-new, HasCome-old, HasCome-unmarked, operands_in, IsVisit-words}
use Rattle.mask_check.proofs.backward.pass.Goals as goal

pub loop-value-init : goal.loop-value-init
loop-value-init g c =
    let start = HasCome-start c.args.circuit.now c.args.left.now c.args.right.now c.args.until c.requires.circuit c.requires.until c.requires.left_size
    c.requires.right_size c.requires.left_low c.requires.right_low in
    (start, refl)

pub take_marks-on_left-requires-clause-earlier : goal.take_marks-on_left-requires-clause-earlier
take_marks-on_left-requires-clause-earlier g c =
    operands_in c.args.circuit.now _ _ _ c.requires.circuit (omega (arith, c.loop-value.invariant.0.within)) c.loop-value.invariant.0.on_left.size
    c.gate_at-gate.ensures

pub take_marks-on_right-requires-clause-earlier : goal.take_marks-on_right-requires-clause-earlier
take_marks-on_right-requires-clause-earlier g c =
    operands_in c.args.circuit.now _ _ _ c.requires.circuit (omega (arith, c.loop-value.invariant.0.within)) c.loop-value.invariant.0.on_right.size
    c.gate_at-gate.ensures

pub loop-value-preserved-then-bit-lowest : goal.loop-value-preserved-then-bit-lowest
loop-value-preserved-then-bit-lowest g c = (
  HasCome-new c.args.circuit.now _ _ c.loop-value.left c.loop-value.right _ _ _ c.loop-value.value _ c.gate_at-gate.result c.loop-value.lowest (omega arith)
      c.requires.circuit
      (IsVisit-words _ _ _ _ _ _ _ c.take_marks-on_left.result c.take_marks-on_right.result c.lowest_common-bit.result c.gate_at-gate.ensures
      c.take_marks-on_left.ensures.word c.take_marks-on_right.ensures.word c.take_marks-on_left.ensures.passed c.take_marks-on_right.ensures.passed
      (record {
        source = c.lowest_common-bit.ensures.source;
        on_left = c.lowest_common-bit.ensures.on_left;
        on_right = c.lowest_common-bit.ensures.on_right;
        lowest = c.lowest_common-bit.ensures.lowest;
      }))
      c.loop-value.invariant.0 c.if-bit-lowest.true,
  omega (arith, c.tick.ensures, c.loop-value.invariant.1),
)

pub loop-value-preserved : goal.loop-value-preserved
loop-value-preserved g c = (
  HasCome-old c.args.circuit.now _ _ c.loop-value.left c.loop-value.right _ _ _ c.loop-value.value _ c.gate_at-gate.result c.loop-value.lowest (omega arith)
      c.requires.circuit
      (IsVisit-words _ _ _ _ _ _ _ c.take_marks-on_left.result c.take_marks-on_right.result c.lowest_common-bit.result c.gate_at-gate.ensures
      c.take_marks-on_left.ensures.word c.take_marks-on_right.ensures.word c.take_marks-on_left.ensures.passed c.take_marks-on_right.ensures.passed
      (record {
        source = c.lowest_common-bit.ensures.source;
        on_left = c.lowest_common-bit.ensures.on_left;
        on_right = c.lowest_common-bit.ensures.on_right;
        lowest = c.lowest_common-bit.ensures.lowest;
      }))
      c.loop-value.invariant.0 c.if-bit-lowest.false,
  omega (arith, c.tick.ensures, c.loop-value.invariant.1),
)

pub loop-value-preserved-then-right-value-eq0 : goal.loop-value-preserved-then-right-value-eq0
loop-value-preserved-then-right-value-eq0 g c = (
  HasCome-unmarked c.args.circuit.now _ _ c.loop-value.left c.loop-value.right _ _ c.loop-value.lowest (omega arith) c.requires.circuit
      c.if-left-value-eq0.true c.if-right-value-eq0.true c.loop-value.invariant.0,
  omega (arith, c.tick.ensures, c.loop-value.invariant.1),
)
