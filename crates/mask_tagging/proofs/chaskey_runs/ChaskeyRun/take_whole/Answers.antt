use Rattle.std.proofs.Common.{◌≡◌, ℕ, ◌+◌, ◌<◌, ◌≤◌, true, false, List, [], ◌∷◌, ◌++◌, length, map, sum_by, IfErr, OnOk, refl, ap, subst, sym, ◌∙◌, arith}
use Rattle.std.proofs.lemmas.List.{length-map}
use Rattle.std.proofs.lemmas.Result.{on_ok_weaker, IfErr-weaker}
use Rattle.mask_bits.specs.Lanes.{lane}
use Rattle.mask_circuit.specs.Netlist.{Netlist}
use Rattle.mask_tape.specs.declared.tape.TapeError.TheVariants as TapeError
use Rattle.mask_trace.specs.Steps.{Registers, Step}
use Rattle.mask_trace.specs.Traces.{BitShares}
use Rattle.mask_trace.specs.Drawing.{Ran, stand}
use Rattle.mask_macs.specs.ChaskeyRuns.{ahead, end_step}
use Rattle.mask_chain.specs.Chains.{have}
use Rattle.mask_tagging.specs.Tagging.{Between, Interrupted, code_of}
use Rattle.mask_tagging.proofs.Stopping.{interrupted}
use Rattle.mask_chaskey.specs.declared.doubling.End.{End}
use Rattle.mask_chaskey.specs.declared.doubling.End.TheVariants.{Whole}
use Rattle.mask_chaskey.specs.Chaskey.{end_of}
use Rattle.mask_macs.proofs.ChaskeyPlans.{end_outputs}
use Rattle.mask_tagging.proofs.ChaskeyEvaluations.{end_is, end_suits}
use Rattle.mask_tagging.proofs.ChaskeyPieces.{padded_bytes, padded_whole, whole_end}
use Rattle.mask_tagging.proofs.chaskey_runs.ChaskeyRun.take_whole.Goals as goal

pub take_behind-requires : goal.take_behind-requires
take_behind-requires g c =
    let suits = end_suits c.self.inside.whole _ Whole c.args.piece.now c.self.invariant.is_whole refl refl refl (c.block_words-message.ensures ∙ padded_whole c.args.piece.now) (sym (ap length (padded_bytes c.args.piece.now)) ∙ c.requires.whole) in
    let outputs : length c.self.inside.whole.outputs ≡ 128 = ap (λ (n : Netlist). length n.outputs) c.self.invariant.is_whole ∙ end_outputs Whole in
    let behind = subst (λ (r : Between). 0 < c.args.fed → length r.held.state ≡ (code_of r.scheme).state_bits) (sym c.self.view_is) c.requires.behind in
    let there : 0 < c.args.fed → length c.self.inside.chain.state ≡ 128 = λ some. sym (length-map c.self.inside.chain.state (lane 0)) ∙ behind some in
    (omega arith, (omega arith, (c.requires.some, (c.requires.few, (c.self.invariant.is_start, (c.self.invariant.key, (suits, (refl, (outputs, (there, c.requires.kept))))))))))

pub returns-clause-ran : goal.returns-clause-ran
returns-clause-ran g c =
    let Did : Registers BitShares → List Step → Type 0 = λ (held : Registers BitShares) (steps : List Step). OnOk c.take_behind.result (Ran g.row.N held steps (have c.take_behind.new.chain)
    (stand c.args.tape.now (g.E.Entropy.left c.args.entropy.now) (g.W.Watch.told c.args.watch.now))
    (stand c.take_behind.new.tape (g.E.Entropy.left c.take_behind.new.entropy) (g.W.Watch.told c.take_behind.new.watch))) in
    let own = end_is c.self.inside.whole c.block_words-message.result Whole c.args.piece.now c.self.invariant.is_whole (c.block_words-message.ensures ∙ padded_whole c.args.piece.now) ∙ ap (λ (end : End). end_step end c.args.piece.now) (sym (whole_end c.args.piece.now c.requires.whole)) in
    subst (λ (r : Between). Did r.held ((code_of r.scheme).next c.args.fed c.args.piece.now true)) c.self.view_is
    (subst (λ (own : Step). Did (have c.self.inside.chain) (ahead c.args.fed ++ own ∷ [])) own c.take_behind.ensures.ran)

pub returns-clause-behind : goal.returns-clause-behind
returns-clause-behind g c =
    on_ok_weaker c.take_behind.result (λ long. length-map c.take_behind.new.chain.state (lane 0) ∙ long ∙ ap (λ (r : Between). (code_of r.scheme).state_bits) c.self.view_is)
    c.take_behind.ensures.behind

pub returns-clause-steps : goal.returns-clause-steps
returns-clause-steps g c =
    let Did : List Step → Type 0 = λ (steps : List Step). OnOk c.take_behind.result (c.take_behind.new.steps ≡ c.args.steps.now + sum_by (λ (step : Step). length step.circuit.gates) steps) in
    let own = end_is c.self.inside.whole c.block_words-message.result Whole c.args.piece.now c.self.invariant.is_whole (c.block_words-message.ensures ∙ padded_whole c.args.piece.now) ∙ ap (λ (end : End). end_step end c.args.piece.now) (sym (whole_end c.args.piece.now c.requires.whole)) in
    subst (λ (r : Between). Did ((code_of r.scheme).next c.args.fed c.args.piece.now true)) c.self.view_is
    (subst (λ (own : Step). Did (ahead c.args.fed ++ own ∷ [])) own c.take_behind.ensures.steps)

pub returns-clause-stopped : goal.returns-clause-stopped
returns-clause-stopped g c =
    let own = end_is c.self.inside.whole c.block_words-message.result Whole c.args.piece.now c.self.invariant.is_whole (c.block_words-message.ensures ∙ padded_whole c.args.piece.now) ∙ ap (λ (end : End). end_step end c.args.piece.now) (sym (whole_end c.args.piece.now c.requires.whole)) in
    subst (λ (r : Between). IfErr c.take_behind.result (λ e. e ≡ TapeError.Failed →
    Interrupted g.row.N (code_of r.scheme) c.args.fed c.args.piece.now true r.held (have c.take_behind.new.chain) (g.E.Entropy.wanted c.take_behind.new.entropy) c.args.steps.now c.take_behind.new.steps
    (stand c.args.tape.now (g.E.Entropy.left c.args.entropy.now) (g.W.Watch.told c.args.watch.now))
    (stand c.take_behind.new.tape (g.E.Entropy.left c.take_behind.new.entropy) (g.W.Watch.told c.take_behind.new.watch)))) c.self.view_is
    (IfErr-weaker c.take_behind.result _ _ (λ e did failed. interrupted (end_step (end_of c.args.piece.now) c.args.piece.now) refl own refl (did failed)) c.take_behind.ensures.stopped)
