use Rattle.std.proofs.Common.{◌≡◌, ℕ, ◌+◌, ◌≤◌, true, List, length, rules, ap, sym, ◌∙◌, subst, arith}
use Rattle.mask_circuit.specs.Netlist.{Netlist, value_count}
use Rattle.mask_circuit.specs.Value.{value_at}
use Rattle.mask_parts.specs.declared.tables.Step.{Step}
use Rattle.mask_parts.specs.Drafts.{Grows, IsWithinLimits}
use Rattle.mask_parts.specs.Tables.{part_usable, with_part}
use Rattle.mask_parts.specs.Tidiness.{IsFree}
use Rattle.mask_parts.specs.PresentSbox.{sbox_steps, sbox_results, sbox_gates, with_sbox}
use Rattle.mask_parts.proofs.Growing.{value_count-with_gates, Grows-refl}
use Rattle.mask_parts.proofs.Laying.{Lays-exit}
use Rattle.mask_parts.proofs.Substituting.{is_part-sbox, length-sbox_gates, with_sbox-with_part, number-with_sbox, KeepsTidy-sbox_results}
use Rattle.mask_parts.proofs.substitution.sbox4_present.Goals as goal

-- what `lay` made of the table
same_draft : (b : Netlist) (xs : List ℕ) (ss : List Step) → ss ≡ sbox_steps → with_part b xs ss ≡ with_sbox b xs
same_draft b xs ss same = ap (with_part b xs) same ∙ sym (with_sbox-with_part b xs)

-- all its values have numbers
room : (b : Netlist) (xs : List ℕ) (first : ℕ) → first ≡ value_count b → IsWithinLimits (with_sbox b xs) → first + 26 ≤ 1_000_000
unfolding with_sbox
room b xs first same within =
    omega (arith, within.values, value_count-with_gates b (sbox_gates (value_count b) xs), length-sbox_gates (value_count b) xs)

pub lay-requires-clause-sound : goal.lay-requires-clause-sound
lay-requires-clause-sound c = let four : length c.args.x ≡ 4 = search rules in rw (four, c.steps.ensures) is_part-sbox

pub returns-in_err-first-clause-laid : goal.returns-in_err-first-clause-laid
returns-in_err-first-clause-laid c =
    let b = c.args.b.now in
    let part = with_part b c.args.x c.steps.result in
    Lays-exit b b part c.lay.new.b (with_sbox b c.args.x) _ c.from_residual.result c.in_err-first.field-0.0 c.from_residual.ensures.1 (Grows-refl b)
    (subst (Grows part) (same_draft b c.args.x c.steps.result c.steps.ensures) (Grows-refl part)) c.in_err-first.ensures.laid

pub results-requires : goal.results-requires
results-requires c =
    let laid = c.in_ok-first.ensures.laid in
    let fits = room c.args.b.now c.args.x c.in_ok-first.first laid.0 (subst IsWithinLimits (same_draft c.args.b.now c.args.x c.steps.result c.steps.ensures) laid.2) in
    omega arith

pub returns-clause-laid : goal.returns-clause-laid
returns-clause-laid c =
    let laid = c.in_ok-first.ensures.laid in
    let same = same_draft c.args.b.now c.args.x c.steps.result c.steps.ensures in
    (c.results.ensures ∙ ap sbox_results laid.0, laid.1 ∙ same, subst IsWithinLimits same laid.2)

pub returns-clause-plain : goal.returns-clause-plain
returns-clause-plain c =
    let laid = c.in_ok-first.ensures.laid in
    let four : length c.args.x ≡ 4 = search rules in
    let all = laid.1 ∙ same_draft c.args.b.now c.args.x c.steps.result c.steps.ensures in
    λ input long. rw (all, c.results.ensures, laid.0) (number-with_sbox c.args.b.now c.args.x input four c.requires long)

pub returns-clause-tidy : goal.returns-clause-tidy
returns-clause-tidy c =
    λ tidy free. (let kept = c.in_ok-first.ensures.tidy tidy free in
    rw c.results.ensures
    (KeepsTidy-sbox_results c.args.b.now c.lay.new.b c.in_ok-first.first kept.0
    (subst (λ (ss : List Step). (k : ℕ) → value_at (part_usable ss) k ≡ true → IsFree c.lay.new.b (c.in_ok-first.first + k)) c.steps.ensures kept.1)))
