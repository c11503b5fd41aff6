use Rattle.std.proofs.Common.{◌≡◌, ℕ, ◌+◌, ◌-◌, Bool, List, [], ◌++◌, length, map, All, refl, ap, ap₂, sym, subst, arith}
use Rattle.std.specs.List.{range_with_len}
use Rattle.std.proofs.lemmas.List.{length-map}
use Rattle.mask_circuit.specs.declared.gates.Gate.TheVariants.{Ref}
use Rattle.mask_circuit.specs.Netlist.{Netlist, value_count}
use Rattle.mask_circuit.specs.Value.{plain}
use Rattle.mask_circuit.specs.Acceptance.{IsAccepted, IsStrong, IsTidy}
use Rattle.mask_parts.specs.Drafts.{with_gates, with_outputs, bits_of, Grows}
use Rattle.mask_parts.specs.Fences.{with_fence}
use Rattle.mask_parts.specs.Tidiness.{IsFree, KeepsTidy}
use Rattle.mask_parts.proofs.Fencing.{IsStrong-fence, plain-with_fence, KeepsTidy-fence}
use Rattle.mask_parts.proofs.Growing.{value_count-with_gates, Grows-refl, Grows-with_gates, Grows-with_outputs}
use Rattle.mask_parts.proofs.Laying.{Lays-exit, Lays-last, IfOk-from_Lays}
use Rattle.mask_parts.proofs.fences.fence_outputs.Goals as goal

Grows-fence : (c : Netlist) (us : List ℕ) → Grows (with_gates c (map Ref us)) (with_fence c us)
unfolding with_fence
Grows-fence c us = Grows-with_outputs (with_gates c (map Ref us)) (range_with_len (value_count c) (length us))

-- the values from `first` on are the refreshes
refreshed : (b d : Netlist) (us : List ℕ) (first end : ℕ) → first ≡ value_count b → end ≡ value_count d → d ≡ with_gates b (map Ref us) → end ≡ first + length us
refreshed b d us first end at up is =
    omega (arith, ap value_count is, value_count-with_gates b (map Ref us), length-map us Ref)

pub returns-in_err-refresh_all-clause-laid : goal.returns-in_err-refresh_all-clause-laid
returns-in_err-refresh_all-clause-laid c =
    let b = c.args.b.now in
    Lays-exit b b (with_gates b (map Ref c.args.values.now)) c.refresh_all.new.b (with_fence b c.args.values.now) tt c.from_residual.result
    c.in_err-refresh_all.field-0.0 c.from_residual.ensures.1 (Grows-refl b) (Grows-fence b c.args.values.now) c.in_err-refresh_all.ensures

pub out_all-requires-clause-order : goal.out_all-requires-clause-order
out_all-requires-clause-order c =
    let e = refreshed c.args.b.now c.refresh_all.new.b c.args.values.now c.values-first.result c.values-end.result
    c.values-first.ensures.count c.values-end.ensures.count c.in_ok-refresh_all.ensures.1 in
    omega arith

pub returns-clause-laid : goal.returns-clause-laid
unfolding with_fence
returns-clause-laid c =
    let b = c.args.b.now in
    let us = c.args.values.now in
    let d = c.refresh_all.new.b in
    let is = c.in_ok-refresh_all.ensures.1 in
    let e = refreshed b d us c.values-first.result c.values-end.result c.values-first.ensures.count c.values-end.ensures.count is in
    let many : c.values-end.result - c.values-first.result ≡ length us = omega arith in
    let all : with_outputs d (range_with_len c.values-first.result (c.values-end.result - c.values-first.result)) ≡ with_fence b us =
    ap₂ with_outputs is (ap₂ range_with_len c.values-first.ensures.count many) in
    Lays-last b d _ (with_fence b us) c.out_all.new.b tt tt c.out_all.result (subst (Grows b) (sym is) (Grows-with_gates b (map Ref us))) all refl c.out_all.ensures

pub returns-clause-plain : goal.returns-clause-plain
returns-clause-plain c =
    let b = c.args.b.now in
    let us = c.args.values.now in
    let formed = c.values-first.ensures.circuit.formed in
    IfOk-from_Lays b (with_fence b us) c.out_all.new.b tt c.out_all.result
    (λ a d. (x : List Bool) → length x ≡ b.inputs → plain d x ≡ plain b x ++ bits_of b x us)
    (returns-clause-laid c) (λ x long. plain-with_fence b us formed.gates c.requires x long formed.outputs)

pub returns-clause-strong : goal.returns-clause-strong
returns-clause-strong c =
    let b = c.args.b.now in
    let us = c.args.values.now in
    IfOk-from_Lays b (with_fence b us) c.out_all.new.b tt c.out_all.result (λ a d. b.outputs ≡ [] → IsAccepted b → IsStrong d)
    (returns-clause-laid c) (λ none accepted. IsStrong-fence b us c.values-first.ensures.circuit.formed.gates c.requires none accepted)

pub returns-clause-tidy : goal.returns-clause-tidy
returns-clause-tidy c =
    let b = c.args.b.now in
    let us = c.args.values.now in
    IfOk-from_Lays b (with_fence b us) c.out_all.new.b tt c.out_all.result (λ a d. IsTidy b → All (λ u. IsFree b u) us → KeepsTidy b d [])
    (returns-clause-laid c) (λ tidy free. KeepsTidy-fence b us c.values-first.ensures.circuit.formed.gates c.requires tidy free)
