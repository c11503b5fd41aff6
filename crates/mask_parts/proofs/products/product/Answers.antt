use Rattle.std.proofs.Common.{◌≡◌, ℕ, ◌+◌, ◌&&◌, Bool, List, [], ◌∷◌, length, Err, Ok, ap, ap₂, sym, ◌∙◌, subst}
use Rattle.mask_circuit.specs.declared.gates.Gate.TheVariants.{And, Ref}
use Rattle.mask_circuit.specs.Netlist.{Netlist, value_count}
use Rattle.mask_circuit.specs.Value.{value_at, plain_values}
use Rattle.mask_circuit.specs.Acceptance.{IsTidy}
use Rattle.mask_parts.specs.Drafts.{with_gates, Grows, IsWithinLimits}
use Rattle.mask_parts.specs.Tables.{product_gates}
use Rattle.mask_parts.specs.Tidiness.{IsFree, KeepsTidy}
use Rattle.mask_parts.proofs.Growing.{with_gates-with_gates, value_count-with_gates, Grows-refl, Grows-with_gates, Grows-first_gates}
use Rattle.mask_parts.proofs.Keeping.{KeepsTidy-product}
use Rattle.mask_parts.proofs.Laying.{IsWithinLimits-circuit, Lays-from_gate, Lays-exit, Lays-last, IfOk-from_Lays}
use Rattle.mask_parts.proofs.Multiplying.{value_at-with_product}
use Rattle.mask_parts.proofs.products.product.Goals as goal

pub returns-in_err-fresh-clause-laid : goal.returns-in_err-fresh-clause-laid
returns-in_err-fresh-clause-laid c =
    let b = c.args.b.now in
    let e = c.in_err-fresh.field-0.0 in
    let refused = c.in_err-fresh.ensures in
    Lays-exit b b (with_gates b (Ref c.args.v ∷ [])) c.refresh.new.self _ _ c.from_residual.result e c.from_residual.ensures.1 (Grows-refl b)
    (Grows-first_gates b (Ref c.args.v ∷ []) (And c.args.u (value_count b) ∷ []))
    (Lays-from_gate b (Ref c.args.v) c.refresh.new.self (Err e) (IsWithinLimits-circuit b c.values-values.ensures.circuit) refused.made refused.full refused.same)

pub returns-clause-laid : goal.returns-clause-laid
returns-clause-laid c =
    let b = c.args.b.now in
    let n = value_count b in
    let d = c.refresh.new.self in
    let told = c.in_ok-fresh.ensures in
    let first = Lays-from_gate b (Ref c.args.v) d (Ok c.in_ok-fresh.fresh) (IsWithinLimits-circuit b c.values-values.ensures.circuit) told.made told.full told.same in
    let gate = And c.args.u c.in_ok-fresh.fresh ∷ [] in
    let all : with_gates d gate ≡ with_gates b (product_gates n c.args.u c.args.v) =
    ap₂ (λ (x : Netlist) (w : ℕ). with_gates x (And c.args.u w ∷ [])) first.1 first.0 ∙ with_gates-with_gates b (Ref c.args.v ∷ []) (And c.args.u n ∷ []) in
    Lays-last b d (with_gates d gate) _ c.and.new.self (value_count d) (n + 1) c.and.result
    (subst (Grows b) (sym first.1) (Grows-with_gates b (Ref c.args.v ∷ []))) all
    (ap value_count first.1 ∙ value_count-with_gates b (Ref c.args.v ∷ []))
    (Lays-from_gate d (And c.args.u c.in_ok-fresh.fresh) c.and.new.self c.and.result (subst IsWithinLimits (sym first.1) first.2)
    c.and.ensures.made c.and.ensures.full c.and.ensures.same)

pub returns-clause-plain : goal.returns-clause-plain
returns-clause-plain c =
    let b = c.args.b.now in
    IfOk-from_Lays b _ c.and.new.self (value_count b + 1) c.and.result
    (λ w d. (x : List Bool) → length x ≡ b.inputs → value_at (plain_values d x) w ≡ (value_at (plain_values b x) c.args.u && value_at (plain_values b x) c.args.v))
    (returns-clause-laid c) (λ x long. value_at-with_product b c.args.u c.args.v x long c.requires.u_known c.requires.v_known)

pub returns-clause-tidy : goal.returns-clause-tidy
returns-clause-tidy c =
    let b = c.args.b.now in
    IfOk-from_Lays b _ c.and.new.self (value_count b + 1) c.and.result
    (λ w d. IsTidy b → IsFree b c.args.u → IsFree b c.args.v → KeepsTidy b d (w ∷ []))
    (returns-clause-laid c)
    (λ tidy u_free v_free. KeepsTidy-product b c.args.u c.args.v c.values-values.ensures.circuit.formed.gates c.requires.u_known c.requires.v_known u_free v_free tidy)
