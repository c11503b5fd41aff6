use Rattle.std.proofs.Common.{◌≡◌, ◌+◌, [], ◌∷◌, length, drop, get_or, Err, Ok, refl, ap, sym, ◌∙◌, subst, arith}
use Rattle.mask_circuit.specs.declared.gates.Gate.TheVariants.{Xor}
use Rattle.mask_circuit.specs.Netlist.{Netlist}
use Rattle.mask_parts.specs.Drafts.{with_gates, Grows, IsWithinLimits}
use Rattle.mask_parts.specs.Rows.{xor_gates}
use Rattle.mask_parts.proofs.Growing.{value_count-Grows, with_gates-with_gates, Grows-with_gates, Grows-first_gates}
use Rattle.mask_parts.proofs.Laying.{IsWithinLimits-circuit, Lays-from_gate, IsUnderWay-first, IsUnderWay-more, IsUnderWay-exit, IsUnderWay-done}
use Rattle.mask_parts.proofs.XorRows.{xor_gates-next, xor_gates-none}
use Rattle.mask_parts.proofs.rows.xor_all.Goals as goal

pub loop-k-init : goal.loop-k-init
loop-k-init c = IsUnderWay-first c.args.b.now _ (IsWithinLimits-circuit c.args.b.now c.values-values.ensures.circuit)

pub xor-requires : goal.xor-requires
xor-requires c =
    let grown = value_count-Grows c.args.b.now c.loop-k.b c.loop-k.invariant.begun in
    let left = c.requires.us_known c.loop-k.k 0 (omega arith) in
    let right = c.requires.vs_known c.loop-k.k 0 (omega arith) in
    record { u_known = omega arith; v_known = omega arith }

pub returns-in_err-xor : goal.returns-in_err-xor
returns-in_err-xor c =
    let b = c.loop-k.b in
    let us = c.args.us.now in let vs = c.args.vs.now in let k = c.loop-k.k in
    let here = Xor (get_or us k 0) (get_or vs k 0) in
    let e = c.in_err-xor.field-0.0 in
    let refused = c.in_err-xor.ensures in
    IsUnderWay-exit c.args.b.now b (with_gates b (here ∷ [])) _ _ c.xor.new.self _ c.from_residual.result e c.from_residual.ensures.1 c.loop-k.invariant
    (rw (xor_gates-next us vs k (omega arith) (omega arith)) (Grows-first_gates b (here ∷ []) (xor_gates (drop (k + 1) us) (drop (k + 1) vs))))
    (Lays-from_gate b here c.xor.new.self (Err e) c.loop-k.invariant.within refused.made refused.full refused.same)

pub loop-k-preserved : goal.loop-k-preserved
loop-k-preserved c =
    let b = c.loop-k.b in
    let us = c.args.us.now in let vs = c.args.vs.now in let k = c.loop-k.k in
    let here = Xor (get_or us k 0) (get_or vs k 0) in
    let rest = xor_gates (drop (k + 1) us) (drop (k + 1) vs) in
    let told = c.in_ok-xor.ensures in
    let laid = Lays-from_gate b here c.xor.new.self (Ok c.in_ok-xor.field-0) c.loop-k.invariant.within told.made told.full told.same in
    IsUnderWay-more c.args.b.now b c.xor.new.self _ _ _ c.loop-k.invariant (subst (Grows b) (sym laid.1) (Grows-with_gates b (here ∷ [])))
    (ap (λ (d : Netlist). with_gates d rest) laid.1
    ∙ with_gates-with_gates b (here ∷ []) rest
    ∙ ap (with_gates b) (sym (xor_gates-next us vs k (omega arith) (omega arith))))
    (subst IsWithinLimits (sym laid.1) laid.2)

pub returns : goal.returns
returns c =
    let last : c.loop-k.k ≡ length c.args.us.now = let high = c.loop-k.auto.k-end in let low = c.loop-k-test.false in omega arith in
    let done = IsUnderWay-done c.args.b.now c.loop-k.b _ _ c.loop-k.invariant (xor_gates-none c.loop-k.b c.args.us.now c.args.vs.now c.loop-k.k last) in
    (refl, done.0, done.1)
