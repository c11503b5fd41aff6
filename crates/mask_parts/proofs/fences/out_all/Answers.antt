use Rattle.std.proofs.Common.{◌≡◌, ℕ, suc, ◌+◌, ◌-◌, ◌<◌, [], ◌∷◌, ◌++◌, Err, Ok, refl, ap, sym, ◌∙◌, subst, arith}
use Rattle.std.specs.List.{range_with_len}
use Rattle.mask_circuit.specs.Netlist.{Netlist}
use Rattle.mask_parts.specs.Drafts.{with_outputs, Grows, IsWithinLimits}
use Rattle.mask_parts.proofs.Growing.{value_count-Grows, with_outputs-nil, with_outputs-with_outputs, Grows-with_outputs, Grows-first_outputs}
use Rattle.mask_parts.proofs.Laying.{IsWithinLimits-circuit, Lays-from_out, IsUnderWay-first, IsUnderWay-more, IsUnderWay-exit, IsUnderWay-done}
use Rattle.mask_parts.proofs.fences.out_all.Goals as goal

pub loop-value-init : goal.loop-value-init
loop-value-init c = IsUnderWay-first c.args.b.now _ (IsWithinLimits-circuit c.args.b.now c.values-values.ensures.circuit)

pub out-requires : goal.out-requires
out-requires c =
    let grown = value_count-Grows c.args.b.now c.loop-value.b c.loop-value.invariant.begun in
    record { u_known = omega (arith, c.requires.known) }

-- the next value comes first of those that are left
range-next : (v end : ℕ) → v < end → range_with_len v (end - v) ≡ (v ∷ []) ++ range_with_len (v + 1) (end - (v + 1))
range-next v end lt = let e : end - v ≡ suc (end - (v + 1)) = omega arith in rw e refl

pub returns-in_err-out : goal.returns-in_err-out
returns-in_err-out c =
    let b = c.loop-value.b in
    let v = c.loop-value.value in
    let e = c.in_err-out.field-0.0 in
    let refused = c.in_err-out.ensures in
    IsUnderWay-exit c.args.b.now b (with_outputs b (v ∷ [])) _ _ c.out.new.self _ c.from_residual.result e c.from_residual.ensures.1 c.loop-value.invariant
    (rw (range-next v c.args.end c.loop-value-test.true) (Grows-first_outputs b (v ∷ []) (range_with_len (v + 1) (c.args.end - (v + 1)))))
    (Lays-from_out b v c.out.new.self (Err e) c.loop-value.invariant.within refused.made refused.full refused.same)

pub loop-value-preserved : goal.loop-value-preserved
loop-value-preserved c =
    let b = c.loop-value.b in
    let v = c.loop-value.value in
    let rest = range_with_len (v + 1) (c.args.end - (v + 1)) in
    let told = c.in_ok-out.ensures in
    let laid = Lays-from_out b v c.out.new.self (Ok c.in_ok-out.field-0) c.loop-value.invariant.within told.made told.full told.same in
    IsUnderWay-more c.args.b.now b c.out.new.self _ _ _ c.loop-value.invariant (subst (Grows b) (sym laid.1) (Grows-with_outputs b (v ∷ [])))
    (ap (λ (d : Netlist). with_outputs d rest) laid.1
    ∙ with_outputs-with_outputs b (v ∷ []) rest
    ∙ ap (with_outputs b) (sym (range-next v c.args.end c.loop-value-test.true)))
    (subst IsWithinLimits (sym laid.1) laid.2)

pub returns : goal.returns
returns c =
    let end : c.args.end - c.loop-value.value ≡ 0 = omega (arith, c.loop-value-test.false) in
    let none : with_outputs c.loop-value.b (range_with_len c.loop-value.value (c.args.end - c.loop-value.value)) ≡ c.loop-value.b =
    ap (λ (k : ℕ). with_outputs c.loop-value.b (range_with_len c.loop-value.value k)) end ∙ with_outputs-nil c.loop-value.b in
    let done = IsUnderWay-done c.args.b.now c.loop-value.b _ _ c.loop-value.invariant none in
    (refl, done.0, done.1)
