use Rattle.std.proofs.Common.{◌≡◌, ℕ, ◌*◌, false, List, [], ◌∷◌, length, replicate, IfErr, OnOk, refl, ap, subst, sym, ◌∙◌, arith}
use Rattle.std.proofs.lemmas.List.{length-map}
use Rattle.std.proofs.lemmas.Result.{on_ok_weaker, IfErr-weaker}
use denote.Ref.{Bor}
use Rattle.mask_bits.specs.Lanes.{lane}
use Rattle.mask_circuit.specs.Netlist.{Netlist}
use Rattle.mask_tape.specs.declared.tape.TapeError.TheVariants as TapeError
use Rattle.mask_trace.specs.Steps.{Registers, Step}
use Rattle.mask_trace.specs.Traces.{BitShares}
use Rattle.mask_trace.specs.Drawing.{Ran, stand}
use Rattle.mask_macs.specs.Codes.{IsNext}
use Rattle.mask_macs.specs.LightMacRuns.{piece_step}
use Rattle.mask_macs.proofs.LightMacPlans.{step_outputs}
use Rattle.mask_chain.specs.Chains.{have}
use Rattle.mask_tagging.specs.Tagging.{Between, Interrupted, code_of}
use Rattle.mask_tagging.proofs.LightMacEvaluations.{first_is, first_strong, one_there, suits}
use Rattle.mask_tagging.proofs.Stopping.{interrupted}
use Rattle.mask_tagging.proofs.lightmac_runs.LightMacRun.first_piece.Goals as goal

pub take-requires : goal.take-requires
take-requires g c =
    let size = c.self.inside.size in
    let k = length c.self.inside.chain.key in
    let s = length c.self.inside.chain.state in
    let zeros : Bor (List ℕ) = record { ref_ptr = c.args.piece.ref_ptr; now = replicate 64 0 } in
    let width = ap (λ (n : ℕ). 8 * n) c.bytes.ensures in
    let next = subst (λ (r : Between). IsNext (code_of r.scheme) 0 c.args.piece.now false) (sym c.self.view_is) c.requires.next in
    let is = first_is size _ width c.self.inside.counter c.self.inside.step c.counted_words-message.result c.args.piece.now zeros
    c.self.invariant.is_step refl c.counted_words-message.ensures in
    let strong = first_strong size c.self.inside.counter c.self.inside.tag c.self.invariant.counted k c.self.invariant.key s c.args.piece.now next in (
      omega arith,
      (
        omega arith,
        (
          c.requires.some,
          (
            c.requires.few,
            (suits k s c.self.inside.step _ _ is strong (one_there k s _ (omega arith)) (one_there k s _ tt), c.requires.kept),
          ),
        ),
      ),
    )

pub returns-clause-ran : goal.returns-clause-ran
returns-clause-ran g c =
    let Did : Registers BitShares → List Step → Type 0 = λ (held : Registers BitShares) (steps : List Step). OnOk c.take.result (Ran g.row.N held steps (have c.take.new.self)
    (stand c.args.tape.now (g.E.Entropy.left c.args.entropy.now) (g.W.Watch.told c.args.watch.now))
    (stand c.take.new.tape (g.E.Entropy.left c.take.new.entropy) (g.W.Watch.told c.take.new.watch))) in
    let zeros : Bor (List ℕ) = record { ref_ptr = c.args.piece.ref_ptr; now = replicate 64 0 } in
    let is = first_is c.self.inside.size _ (ap (λ (n : ℕ). 8 * n) c.bytes.ensures) c.self.inside.counter c.self.inside.step c.counted_words-message.result c.args.piece.now zeros
    c.self.invariant.is_step refl c.counted_words-message.ensures in
    subst (λ (r : Between). Did r.held ((code_of r.scheme).next 0 c.args.piece.now false)) c.self.view_is
    (subst (λ (own : Step). Did (have c.self.inside.chain) (own ∷ [])) is c.take.ensures.ran)

pub returns-clause-behind : goal.returns-clause-behind
returns-clause-behind g c =
    on_ok_weaker c.take.result (λ did. length-map c.take.new.self.state (lane 0) ∙ did.1 ∙ ap (λ (n : Netlist). length n.outputs) c.self.invariant.is_step
    ∙ step_outputs c.self.inside.size ∙ ap (λ (r : Between). (code_of r.scheme).state_bits) c.self.view_is)
    c.take.ensures.lengths

pub returns-clause-stopped : goal.returns-clause-stopped
returns-clause-stopped g c =
    let zeros : Bor (List ℕ) = record { ref_ptr = c.args.piece.ref_ptr; now = replicate 64 0 } in
    let is = first_is c.self.inside.size _ (ap (λ (n : ℕ). 8 * n) c.bytes.ensures) c.self.inside.counter c.self.inside.step c.counted_words-message.result c.args.piece.now zeros
    c.self.invariant.is_step refl c.counted_words-message.ensures in
    subst (λ (r : Between). IfErr c.take.result (λ e. e ≡ TapeError.Failed →
    Interrupted g.row.N (code_of r.scheme) 0 c.args.piece.now false r.held (have c.take.new.self) (g.E.Entropy.wanted c.take.new.entropy) c.args.steps.now c.take.new.steps
    (stand c.args.tape.now (g.E.Entropy.left c.args.entropy.now) (g.W.Watch.told c.args.watch.now))
    (stand c.take.new.tape (g.E.Entropy.left c.take.new.entropy) (g.W.Watch.told c.take.new.watch)))) c.self.view_is
    (IfErr-weaker c.take.result _ _ (λ e did failed. interrupted (piece_step c.self.inside.size c.self.inside.counter 0 c.args.piece.now) refl is refl (did failed)) c.take.ensures.stopped)
