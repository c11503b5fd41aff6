use Rattle.std.proofs.Common.{◌≡◌, ℕ, ◌<◌, ◌≤◌, List, length, refl, ap, ◌∙◌, arith}
use Rattle.std.specs.List.{concat}
use Rattle.std.proofs.lemmas.List.Elements.{All-weaker}
use Rattle.mask_circuit.specs.Netlist.{Netlist, value_count}
use Rattle.mask_parts.specs.declared.tables.Step.{Step}
use Rattle.mask_parts.specs.Tables.{part_gates, with_part}
use Rattle.mask_parts.specs.Drafts.{IsWithinLimits}
use Rattle.mask_parts.specs.Words32.{AreWordsOf}
use Rattle.mask_parts.proofs.Growing.{value_count-with_gates, Grows-refl}
use Rattle.mask_parts.proofs.Laying.{Lays-exit}
use Rattle.mask_parts.proofs.Passing.{AreOf, IsReady}
use Rattle.mask_parts.proofs.WordPassing.{words-known}
use Rattle.mask_chaskey.specs.NamedChaskey.{four_words, doubling_steps, doubled_values, with_doubled}
use Rattle.mask_chaskey.specs.Rounds.{stage}
use Rattle.mask_chaskey.proofs.BlockNumbers.{length-concat, All-concat}
use Rattle.mask_chaskey.proofs.doubling.double.Goals as goal

module _ (b : Netlist) (ws : List (List ℕ)) (four : length ws ≡ 4) (known : AreWordsOf b ws) where
  all-known : AreOf b (concat ws)
  all-known = All-weaker (IsReady ⊥ b) (λ u. u < value_count b) (λ u ready. ready.below) (concat ws) (All-concat ⊥ b ws (words-known b ws known))

  long : length (concat ws) ≡ 128
  long = length-concat ⊥ b ws (words-known b ws known) ∙ omega arith

-- all its values have numbers
room : (b : Netlist) (us : List ℕ) (ss : List Step) (first : ℕ) → first ≡ value_count b → IsWithinLimits (with_part b us ss) → first ≤ 1_000_000
unfolding with_part
room b us ss first same within = omega (arith, within.values, value_count-with_gates b (part_gates (value_count b) us ss))

pub lay-requires-clause-known : goal.lay-requires-clause-known
lay-requires-clause-known c = rw c.all_values-values.ensures (all-known c.args.b.now c.args.key.now c.told-key c.requires)

pub returns-in_err-first : goal.returns-in_err-first
unfolding with_doubled stage doubling_steps
returns-in_err-first c =
    let b = c.args.b.now in
    Lays-exit _ b _ _ _ _ _ _ c.from_residual.ensures.1 (Grows-refl b) (Grows-refl _) (rw c.all_values-values.ensures at c.in_err-first.ensures.laid)

pub overflow_add-values : goal.overflow_add-values
overflow_add-values c =
    let low = room c.args.b.now c.all_values-values.result _ c.in_ok-first.first c.in_ok-first.ensures.laid.0 c.in_ok-first.ensures.laid.2 in omega arith

pub overflow_add-values-2 : goal.overflow_add-values-2
overflow_add-values-2 c =
    let low = room c.args.b.now c.all_values-values.result _ c.in_ok-first.first c.in_ok-first.ensures.laid.0 c.in_ok-first.ensures.laid.2 in omega arith

pub returns : goal.returns
unfolding with_doubled stage doubling_steps doubled_values
returns c =
    let laid = rw c.all_values-values.ensures at c.in_ok-first.ensures.laid in
    let moved = rw (c.all_values-values.ensures, long c.args.b.now c.args.key.now c.told-key c.requires) at c.rotate_right.ensures.after in
    (c.four_words.ensures ∙ ap four_words (rw (moved, laid.0) refl), laid.1, laid.2)
