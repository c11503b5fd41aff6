use Rattle.std.proofs.Common.{◌≡◌, ℕ, ◌+◌, ◌<◌, ◌≤◌, List, ◌++◌, rules, ap, ap₂, sym, ◌∙◌, subst, arith}
use Rattle.std.proofs.lemmas.List.Elements.{All-append}
use Rattle.mask_circuit.specs.Netlist.{Netlist, value_count}
use Rattle.mask_parts.specs.declared.tables.Step.{Step}
use Rattle.mask_parts.specs.Drafts.{Grows, IsWithinLimits}
use Rattle.mask_parts.specs.Tables.{part_usable, with_part}
use Rattle.mask_parts.specs.Tidiness.{IsFree}
use Rattle.mask_parts.specs.Words32.{sum32_steps, sum32_gates, with_sum32, sum32_results}
use Rattle.mask_parts.proofs.Growing.{value_count-with_gates, Grows-refl}
use Rattle.mask_parts.proofs.Laying.{Lays-exit}
use Rattle.mask_parts.proofs.PartTidiness.{AreFree}
use Rattle.mask_parts.proofs.WordParts.{length-both}
use Rattle.mask_parts.proofs.Adding.{is_part-sum32, length-sum32_gates, with_sum32-with_part, number-with_sum32, KeepsTidy-sum32_results}
use Rattle.mask_parts.proofs.words.add32.Goals as goal

-- what `lay` made of the table
same_draft : (b : Netlist) (xs ys us : List ℕ) (ss : List Step) → us ≡ xs ++ ys → ss ≡ sum32_steps → with_part b us ss ≡ with_sum32 b xs ys
same_draft b xs ys us ss both same = ap₂ (with_part b) both same ∙ sym (with_sum32-with_part b xs ys)

-- all its values have numbers
room : (b : Netlist) (xs ys : List ℕ) (first : ℕ) → first ≡ value_count b → IsWithinLimits (with_sum32 b xs ys) → first + 185 ≤ 1_000_000
unfolding with_sum32
room b xs ys first same within = omega (arith, within.values, value_count-with_gates b (sum32_gates (value_count b) xs ys), length-sum32_gates (value_count b) xs ys)

pub lay-requires-clause-known : goal.lay-requires-clause-known
lay-requires-clause-known c =
    rw c.operands.ensures (All-append (λ u. u < value_count c.args.b.now) c.args.x.now c.args.y.now c.requires.x_known c.requires.y_known)

pub lay-requires-clause-sound : goal.lay-requires-clause-sound
lay-requires-clause-sound c =
    rw (c.operands.ensures, length-both c.args.x.now c.args.y.now (search rules) (search rules), c.sum_steps.ensures) is_part-sum32

pub returns-in_err-first-clause-laid : goal.returns-in_err-first-clause-laid
returns-in_err-first-clause-laid c =
    let b = c.args.b.now in
    let part = with_part b c.operands.result c.sum_steps.result in
    Lays-exit b b part c.lay.new.b (with_sum32 b c.args.x.now c.args.y.now) _ c.from_residual.result c.in_err-first.field-0.0 c.from_residual.ensures.1 (Grows-refl b)
    (subst (Grows part) (same_draft b c.args.x.now c.args.y.now _ _ c.operands.ensures c.sum_steps.ensures) (Grows-refl part)) c.in_err-first.ensures.laid

pub sum_results-requires : goal.sum_results-requires
sum_results-requires c =
    let laid = c.in_ok-first.ensures.laid in
    let same = same_draft c.args.b.now c.args.x.now c.args.y.now _ _ c.operands.ensures c.sum_steps.ensures in
    let fits = room c.args.b.now c.args.x.now c.args.y.now c.in_ok-first.first laid.0 (subst IsWithinLimits same laid.2) in
    omega arith

pub returns-clause-laid : goal.returns-clause-laid
returns-clause-laid c =
    let laid = c.in_ok-first.ensures.laid in
    let same = same_draft c.args.b.now c.args.x.now c.args.y.now _ _ c.operands.ensures c.sum_steps.ensures in
    (c.sum_results.ensures ∙ ap sum32_results laid.0, laid.1 ∙ same, subst IsWithinLimits same laid.2)

pub returns-clause-plain : goal.returns-clause-plain
returns-clause-plain c =
    let laid = returns-clause-laid c in
    λ input long. rw (laid.1, laid.0)
    (number-with_sum32 c.args.b.now c.args.x.now c.args.y.now input (search rules) (search rules) c.requires.x_known c.requires.y_known long)

pub returns-clause-tidy : goal.returns-clause-tidy
returns-clause-tidy c =
    let b = c.args.b.now in
    λ tidy x_free y_free. (let kept = c.in_ok-first.ensures.tidy tidy (rw c.operands.ensures (All-append (λ u. IsFree b u) c.args.x.now c.args.y.now x_free y_free)) in
    rw c.sum_results.ensures
    (KeepsTidy-sum32_results b c.lay.new.b c.in_ok-first.first kept.0
    (subst (λ (ss : List Step). AreFree c.lay.new.b c.in_ok-first.first (part_usable ss)) c.sum_steps.ensures kept.1)))
