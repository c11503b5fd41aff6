use Rattle.std.proofs.Common.{◌≡◌, ℕ, ◌+◌, ◌<◌, List, [], ◌∷◌, ◌++◌, length, map, drop, get_or, Err, Ok, refl, ap, sym, ◌∙◌, subst, arith}
use Rattle.std.proofs.lemmas.List.{drop_more, drop_all}
use Rattle.mask_circuit.specs.declared.gates.Gate.TheVariants.{Ref}
use Rattle.mask_circuit.specs.Netlist.{Netlist}
use Rattle.mask_parts.specs.Drafts.{with_gates, Grows, IsWithinLimits}
use Rattle.mask_parts.proofs.Growing.{value_count-Grows, with_gates-nil, with_gates-with_gates, Grows-with_gates, Grows-first_gates}
use Rattle.mask_parts.proofs.Laying.{IsWithinLimits-circuit, Lays-from_gate, IsUnderWay-first, IsUnderWay-more, IsUnderWay-exit, IsUnderWay-done}
use Rattle.mask_parts.proofs.fences.refresh_all.Goals as goal

pub loop-value-init : goal.loop-value-init
loop-value-init c = IsUnderWay-first c.args.b.now _ (IsWithinLimits-circuit c.args.b.now c.values-values.ensures.circuit)

pub refresh-requires : goal.refresh-requires
refresh-requires c =
    let grown = value_count-Grows c.args.b.now c.loop-value.b c.loop-value.invariant.begun in
    let known = c.requires c.loop-value.value-index 0 c.loop-value-test.true in
    record { u_known = omega arith }

-- the refresh of value i comes first of those that are left
refs-drop : (us : List ℕ) (i : ℕ) → i < length us → map Ref (drop i us) ≡ (Ref (get_or us i 0) ∷ []) ++ map Ref (drop (i + 1) us)
refs-drop us i lt = ap (map Ref) (drop_more us i 0 lt)

pub returns-in_err-refresh : goal.returns-in_err-refresh
returns-in_err-refresh c =
    let b = c.loop-value.b in
    let us = c.args.values.now in
    let i = c.loop-value.value-index in
    let here = Ref (get_or us i 0) in
    let e = c.in_err-refresh.field-0.0 in
    let refused = c.in_err-refresh.ensures in
    IsUnderWay-exit c.args.b.now b (with_gates b (here ∷ [])) _ _ c.refresh.new.self _ c.from_residual.result e c.from_residual.ensures.1 c.loop-value.invariant
    (rw (refs-drop us i c.loop-value-test.true) (Grows-first_gates b (here ∷ []) (map Ref (drop (i + 1) us))))
    (Lays-from_gate b here c.refresh.new.self (Err e) c.loop-value.invariant.within refused.made refused.full refused.same)

pub loop-value-preserved : goal.loop-value-preserved
loop-value-preserved c =
    let b = c.loop-value.b in
    let us = c.args.values.now in
    let i = c.loop-value.value-index in
    let here = Ref (get_or us i 0) in
    let told = c.in_ok-refresh.ensures in
    let laid = Lays-from_gate b here c.refresh.new.self (Ok c.in_ok-refresh.field-0) c.loop-value.invariant.within told.made told.full told.same in
    IsUnderWay-more c.args.b.now b c.refresh.new.self _ _ _ c.loop-value.invariant (subst (Grows b) (sym laid.1) (Grows-with_gates b (here ∷ [])))
    (ap (λ (d : Netlist). with_gates d (map Ref (drop (i + 1) us))) laid.1
    ∙ with_gates-with_gates b (here ∷ []) (map Ref (drop (i + 1) us))
    ∙ ap (with_gates b) (sym (refs-drop us i c.loop-value-test.true)))
    (subst IsWithinLimits (sym laid.1) laid.2)

pub returns : goal.returns
returns c =
    let us = c.args.values.now in
    let none : with_gates c.loop-value.b (map Ref (drop c.loop-value.value-index us)) ≡ c.loop-value.b =
    ap (λ (ws : List ℕ). with_gates c.loop-value.b (map Ref ws)) (drop_all c.loop-value.value-index us c.loop-value-test.false) ∙ with_gates-nil c.loop-value.b in
    let done = IsUnderWay-done c.args.b.now c.loop-value.b _ _ c.loop-value.invariant none in
    (refl, done.0, done.1)
