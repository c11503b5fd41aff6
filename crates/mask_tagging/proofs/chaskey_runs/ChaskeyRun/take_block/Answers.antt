use Rattle.std.proofs.Common.{◌≡◌, ℕ, ◌+◌, ◌<◌, ◌≤◌, true, false, List, [], ◌∷◌, ◌++◌, length, map, sum_by, IfErr, OnOk, refl, ap, subst, sym, ◌∙◌, arith}
use Rattle.std.proofs.lemmas.List.{length-map}
use Rattle.std.proofs.lemmas.Result.{on_ok_weaker, IfErr-weaker}
use Rattle.mask_bits.specs.Lanes.{lane}
use Rattle.mask_circuit.specs.Netlist.{Netlist}
use Rattle.mask_tape.specs.declared.tape.TapeError.TheVariants as TapeError
use Rattle.mask_trace.specs.Steps.{Registers, Step}
use Rattle.mask_trace.specs.Traces.{BitShares}
use Rattle.mask_trace.specs.Drawing.{Ran, stand}
use Rattle.mask_macs.specs.ChaskeyRuns.{ahead, block_step}
use Rattle.mask_chain.specs.Chains.{have}
use Rattle.mask_tagging.specs.Tagging.{Between, Interrupted, code_of}
use Rattle.mask_tagging.proofs.Stopping.{interrupted}
use Rattle.mask_macs.proofs.ChaskeyPlans.{step_outputs}
use Rattle.mask_macs.specs.Codes.{IsNext}
use Rattle.mask_tagging.proofs.ChaskeyEvaluations.{block_is, block_suits}
use Rattle.mask_tagging.proofs.chaskey_runs.ChaskeyRun.take_block.Goals as goal

pub block_words-message-requires : goal.block_words-message-requires
block_words-message-requires g c = subst (λ (r : Between). IsNext (code_of r.scheme) c.args.fed c.args.piece.now false) (sym c.self.view_is) c.requires.next

pub take_behind-requires : goal.take_behind-requires
take_behind-requires g c =
    let sixteen = subst (λ (r : Between). IsNext (code_of r.scheme) c.args.fed c.args.piece.now false) (sym c.self.view_is) c.requires.next in
    let suits = block_suits c.self.inside.step _ c.args.piece.now c.self.invariant.is_step refl refl refl c.block_words-message.ensures sixteen in
    let outputs : length c.self.inside.step.outputs ≡ 128 = ap (λ (n : Netlist). length n.outputs) c.self.invariant.is_step ∙ step_outputs in
    let behind = subst (λ (r : Between). 0 < c.args.fed → length r.held.state ≡ (code_of r.scheme).state_bits) (sym c.self.view_is) c.requires.behind in
    let there : 0 < c.args.fed → length c.self.inside.chain.state ≡ 128 = λ some. sym (length-map c.self.inside.chain.state (lane 0)) ∙ behind some in
    (omega arith, (omega arith, (c.requires.some, (c.requires.few, (c.self.invariant.is_start, (c.self.invariant.key, (suits, (refl, (outputs, (there, c.requires.kept))))))))))

pub returns-clause-ran : goal.returns-clause-ran
returns-clause-ran g c =
    let Did : Registers BitShares → List Step → Type 0 = λ (held : Registers BitShares) (steps : List Step). OnOk c.take_behind.result (Ran g.row.N held steps (have c.take_behind.new.chain)
    (stand c.args.tape.now (g.E.Entropy.left c.args.entropy.now) (g.W.Watch.told c.args.watch.now))
    (stand c.take_behind.new.tape (g.E.Entropy.left c.take_behind.new.entropy) (g.W.Watch.told c.take_behind.new.watch))) in
    let sixteen = subst (λ (r : Between). IsNext (code_of r.scheme) c.args.fed c.args.piece.now false) (sym c.self.view_is) c.requires.next in
    let own = block_is c.self.inside.step c.block_words-message.result c.args.piece.now c.self.invariant.is_step c.block_words-message.ensures in
    subst (λ (r : Between). Did r.held ((code_of r.scheme).next c.args.fed c.args.piece.now false)) c.self.view_is
    (subst (λ (own : Step). Did (have c.self.inside.chain) (ahead c.args.fed ++ own ∷ [])) own c.take_behind.ensures.ran)

pub returns-clause-behind : goal.returns-clause-behind
returns-clause-behind g c =
    on_ok_weaker c.take_behind.result (λ long. length-map c.take_behind.new.chain.state (lane 0) ∙ long ∙ ap (λ (r : Between). (code_of r.scheme).state_bits) c.self.view_is)
    c.take_behind.ensures.behind

pub returns-clause-steps : goal.returns-clause-steps
returns-clause-steps g c =
    let Did : List Step → Type 0 = λ (steps : List Step). OnOk c.take_behind.result (c.take_behind.new.steps ≡ c.args.steps.now + sum_by (λ (step : Step). length step.circuit.gates) steps) in
    let sixteen = subst (λ (r : Between). IsNext (code_of r.scheme) c.args.fed c.args.piece.now false) (sym c.self.view_is) c.requires.next in
    let own = block_is c.self.inside.step c.block_words-message.result c.args.piece.now c.self.invariant.is_step c.block_words-message.ensures in
    subst (λ (r : Between). Did ((code_of r.scheme).next c.args.fed c.args.piece.now false)) c.self.view_is
    (subst (λ (own : Step). Did (ahead c.args.fed ++ own ∷ [])) own c.take_behind.ensures.steps)

pub returns-clause-stopped : goal.returns-clause-stopped
returns-clause-stopped g c =
    let sixteen = subst (λ (r : Between). IsNext (code_of r.scheme) c.args.fed c.args.piece.now false) (sym c.self.view_is) c.requires.next in
    let own = block_is c.self.inside.step c.block_words-message.result c.args.piece.now c.self.invariant.is_step c.block_words-message.ensures in
    subst (λ (r : Between). IfErr c.take_behind.result (λ e. e ≡ TapeError.Failed →
    Interrupted g.row.N (code_of r.scheme) c.args.fed c.args.piece.now false r.held (have c.take_behind.new.chain) (g.E.Entropy.wanted c.take_behind.new.entropy) c.args.steps.now c.take_behind.new.steps
    (stand c.args.tape.now (g.E.Entropy.left c.args.entropy.now) (g.W.Watch.told c.args.watch.now))
    (stand c.take_behind.new.tape (g.E.Entropy.left c.take_behind.new.entropy) (g.W.Watch.told c.take_behind.new.watch)))) c.self.view_is
    (IfErr-weaker c.take_behind.result _ _ (λ e did failed. interrupted (block_step c.args.piece.now) refl own refl (did failed)) c.take_behind.ensures.stopped)
