use Rattle.std.proofs.Common.{◌≡◌, ℕ, List, [], ◌∷◌, ◌++◌, ap, ◌∙◌, arith}
use Rattle.std.specs.Prelude.{codes, decimal}
use Rattle.std.proofs.lemmas.Result.{err_from_is_err_and}
use Rattle.mask_circuit.specs.Labels.{NamedGroup}
use Rattle.mask_circuit.specs.Text.{Input, line_words, spaced}
use Rattle.mask_text.proofs.Sends.{line-sent, line-stopped, lines-sent}
use Rattle.mask_text.proofs.write.write_input_groups.Goals as goal

pub loop-group-preserved : goal.loop-group-preserved
loop-group-preserved g c =
    let piece : c.deref.result.now ≡ spaced (line_words (Input c.group-item.result.name c.group-item.result.size)) ++ 10 ∷ [] =
    c.deref.ensures.0 ∙ c.named.ensures
    ∙ ap (λ (name : List ℕ). spaced (codes "input" ∷ (name ∷ (decimal c.group.inside.size ∷ []))) ++ 10 ∷ [])
    (c.as_bytes.ensures.value ∙ c.as_str.ensures.value)
    ∙ ap (λ (h : NamedGroup). spaced (line_words (Input h.name h.size)) ++ 10 ∷ []) c.group.view_is in
    record {
      sent = line-sent (λ g. Input g.name g.size) c.args.groups.now c.loop-group.group-index c.group-item.result c.group-item.result
          c.loop-group-test.true c.group-item.is _ _ _ c.deref.result.now _ piece c.loop-group.invariant.sent
          c.in_ok-write_all.ensures.whole;
      steady = omega (arith, c.in_ok-write_all.ensures.counts, c.loop-group.invariant.steady);
    }

pub returns-in_err-write_all-clause-sends : goal.returns-in_err-write_all-clause-sends
returns-in_err-write_all-clause-sends g c =
    let piece : c.deref.result.now ≡ spaced (line_words (Input c.group-item.result.name c.group-item.result.size)) ++ 10 ∷ [] =
    c.deref.ensures.0 ∙ c.named.ensures
    ∙ ap (λ (name : List ℕ). spaced (codes "input" ∷ (name ∷ (decimal c.group.inside.size ∷ []))) ++ 10 ∷ [])
    (c.as_bytes.ensures.value ∙ c.as_str.ensures.value)
    ∙ ap (λ (h : NamedGroup). spaced (line_words (Input h.name h.size)) ++ 10 ∷ []) c.group.view_is in
    let stopped = err_from_is_err_and c.from_residual.result c.from_residual.ensures.1 in
    rw stopped.1 (line-stopped (λ g. Input g.name g.size) c.args.groups.now c.loop-group.group-index c.group-item.result c.group-item.result
    c.loop-group-test.true c.group-item.is _ _ _ c.deref.result.now _ piece c.loop-group.invariant.sent
    c.in_err-write_all.ensures.part)

pub returns-clause-sends : goal.returns-clause-sends
returns-clause-sends g c = lines-sent (λ g. Input g.name g.size) c.args.groups.now c.loop-group.group-index _ _ _ (omega arith)
    c.loop-group.invariant.sent
