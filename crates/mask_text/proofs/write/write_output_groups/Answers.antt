use Rattle.std.proofs.Common.{◌≡◌, ℕ, ◌+◌, ◌≤◌, List, [], ◌∷◌, ◌++◌, length, take, drop, map, sym, ap, ◌∙◌, subst, arith}
use Rattle.std.specs.Prelude.{codes, decimal}
use Rattle.std.specs.Io.KnownBytes.{Appends}
use Rattle.std.proofs.lemmas.Result.{err_from_is_err_and}
use Rattle.mask_io.specs.Outside.{AppendsProperPrefix}
use Rattle.mask_circuit.specs.Labels.{NamedGroup, sizes}
use Rattle.mask_circuit.specs.Text.{Output, Out, output_lines, line_words, spaced, spelling}
use Rattle.mask_text.proofs.Sends.{Sent, sent-more, sent-stopped, group-named, group-stopped, groups_within, groups-sent}
use Rattle.mask_text.proofs.write.write_output_groups.Goals as goal

pub loop-group-preserved : goal.loop-group-preserved
loop-group-preserved g c =
    let piece : c.deref.result.now ≡ spaced (line_words (Output c.group-item.result.name c.group-item.result.size)) ++ 10 ∷ [] =
    c.deref.ensures.0 ∙ c.named.ensures
    ∙ ap (λ (name : List ℕ). spaced (codes "output" ∷ (name ∷ (decimal c.group.inside.size ∷ []))) ++ 10 ∷ [])
    (c.as_bytes.ensures.value ∙ c.as_str.ensures.value)
    ∙ ap (λ (h : NamedGroup). spaced (line_words (Output h.name h.size)) ++ 10 ∷ []) c.group.view_is in
    let size = ap (λ (h : NamedGroup). h.size) c.group.view_is in
    let front = c.split_at.ensures.front ∙ ap (λ (n : ℕ). take n c.loop-group.rest.now) size in
    let line = group-named c.args.groups.now c.loop-group.group-index c.group-item.result c.group-item.result c.loop-group-test.true
    c.group-item.is _ _ _ c.loop-group.rest.now c.deref.result.now _ piece c.loop-group.invariant.sent c.in_ok-write_all.ensures.whole
    in
    let back = c.split_at.ensures.back ∙ ap (λ (n : ℕ). drop n c.loop-group.rest.now) size in
    let outs = subst (λ (us : List ℕ). Appends (g.O.Sink.written c.write_all.new.sink) (g.O.Sink.written c.write_outs.new.sink)
    (spelling (map Out us))) front c.in_ok-write_outs.ensures.sends in
    let sent = sent-more _ _ _ (spelling (map Out (take c.group-item.result.size c.loop-group.rest.now))) _ _ line outs in
    record {
      sent = subst (λ (us : List ℕ). Sent (g.O.Sink.written c.args.sink.now) (g.O.Sink.written c.write_outs.new.sink)
          (spelling (output_lines (drop (c.loop-group.group-index + 1) c.args.groups.now) us))
          (spelling (output_lines c.args.groups.now c.args.outputs.now))) (sym back) sent;
      enough = subst (λ (us : List ℕ). sizes (drop (c.loop-group.group-index + 1) c.args.groups.now) ≤ length us) (sym back)
          (groups_within c.args.groups.now c.loop-group.group-index c.group-item.result c.group-item.result c.loop-group-test.true
          c.group-item.is c.loop-group.rest.now c.loop-group.invariant.enough);
      steady = omega (arith, c.in_ok-write_outs.ensures.counts, c.in_ok-write_all.ensures.counts, c.loop-group.invariant.steady);
    }

pub returns-in_err-write_all-clause-sends : goal.returns-in_err-write_all-clause-sends
returns-in_err-write_all-clause-sends g c =
    let piece : c.deref.result.now ≡ spaced (line_words (Output c.group-item.result.name c.group-item.result.size)) ++ 10 ∷ [] =
    c.deref.ensures.0 ∙ c.named.ensures
    ∙ ap (λ (name : List ℕ). spaced (codes "output" ∷ (name ∷ (decimal c.group.inside.size ∷ []))) ++ 10 ∷ [])
    (c.as_bytes.ensures.value ∙ c.as_str.ensures.value)
    ∙ ap (λ (h : NamedGroup). spaced (line_words (Output h.name h.size)) ++ 10 ∷ []) c.group.view_is in
    let stopped = err_from_is_err_and c.from_residual.result c.from_residual.ensures.1 in
    rw stopped.1 (group-stopped c.args.groups.now c.loop-group.group-index c.group-item.result c.group-item.result c.loop-group-test.true
    c.group-item.is _ _ _ c.loop-group.rest.now c.deref.result.now _ piece c.loop-group.invariant.sent
    c.in_err-write_all.ensures.part)

pub returns-in_err-write_outs-clause-sends : goal.returns-in_err-write_outs-clause-sends
returns-in_err-write_outs-clause-sends g c =
    let piece : c.deref.result.now ≡ spaced (line_words (Output c.group-item.result.name c.group-item.result.size)) ++ 10 ∷ [] =
    c.deref.ensures.0 ∙ c.named.ensures
    ∙ ap (λ (name : List ℕ). spaced (codes "output" ∷ (name ∷ (decimal c.group.inside.size ∷ []))) ++ 10 ∷ [])
    (c.as_bytes.ensures.value ∙ c.as_str.ensures.value)
    ∙ ap (λ (h : NamedGroup). spaced (line_words (Output h.name h.size)) ++ 10 ∷ []) c.group.view_is in
    let size = ap (λ (h : NamedGroup). h.size) c.group.view_is in
    let front = c.split_at.ensures.front ∙ ap (λ (n : ℕ). take n c.loop-group.rest.now) size in
    let line = group-named c.args.groups.now c.loop-group.group-index c.group-item.result c.group-item.result c.loop-group-test.true
    c.group-item.is _ _ _ c.loop-group.rest.now c.deref.result.now _ piece c.loop-group.invariant.sent c.in_ok-write_all.ensures.whole
    in
    let failed = c.in_err-write_outs.ensures.sends in
    let part = subst (λ (us : List ℕ). AppendsProperPrefix (g.O.Sink.written c.write_all.new.sink) (g.O.Sink.written c.write_outs.new.sink)
    (spelling (map Out us))) front failed in
    let stopped = err_from_is_err_and c.from_residual-in_err-write_outs.result c.from_residual-in_err-write_outs.ensures.1 in
    rw stopped.1 (sent-stopped _ _ _ (spelling (map Out (take c.group-item.result.size c.loop-group.rest.now))) _ _ line part)

pub returns-clause-sends : goal.returns-clause-sends
returns-clause-sends g c = groups-sent c.args.groups.now c.loop-group.group-index c.loop-group.rest.now _ _ _ (omega arith)
    c.loop-group.invariant.sent
