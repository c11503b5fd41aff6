use Rattle.std.proofs.Common.{◌≡◌, ℕ, ◌*◌, ◌≤◌, true, ◌<◌, length, IfErr, refl, ap, subst, sym, ◌∙◌, arith}
use Rattle.std.proofs.lemmas.List.{length-map}
use Rattle.std.proofs.lemmas.Result.{on_ok_weaker, IfErr-weaker}
use Rattle.mask_bits.specs.Lanes.{lane}
use Rattle.mask_circuit.specs.Netlist.{Netlist}
use Rattle.mask_tape.specs.declared.tape.TapeError.TheVariants as TapeError
use Rattle.mask_trace.specs.Drawing.{stand}
use Rattle.mask_macs.specs.Codes.{IsNext}
use Rattle.mask_macs.specs.LightMacRuns.{end_step}
use Rattle.mask_macs.proofs.LightMacPlans.{end_outputs}
use Rattle.mask_chain.specs.Chains.{have}
use Rattle.mask_tagging.specs.Tagging.{Between, Interrupted, code_of}
use Rattle.mask_tagging.proofs.LightMacEvaluations.{end_is, end_strong, none_there, suits, two_there}
use Rattle.mask_tagging.proofs.Stopping.{interrupted}
use Rattle.mask_tagging.proofs.lightmac_runs.LightMacRun.last_piece.Goals as goal

pub take-requires : goal.take-requires
take-requires g c =
    let size = c.self.inside.size in
    let k = length c.self.inside.chain.key in
    let s = length c.self.inside.chain.state in
    let value = c.value_behind-value in
    let width = ap (λ (n : ℕ). 8 * n) c.bytes.ensures in
    let next = subst (λ (r : Between). IsNext (code_of r.scheme) c.args.fed c.args.piece.now true) (sym c.self.view_is) c.requires.next in
    let held = subst (λ (r : Between). 0 < c.args.fed → length r.held.state ≡ (code_of r.scheme).state_bits) (sym c.self.view_is) c.requires.behind in
    let long = length-map c.self.inside.chain.state (lane 0) in
    let there : 0 < c.args.fed → 64 ≤ s = λ later. let e = held later in omega arith in
    let is = end_is size _ width c.args.fed c.self.inside.end c.padded_words-message.result c.args.piece.now value.result
    c.self.invariant.is_end value.ensures.bits c.padded_words-message.ensures in
    let strong = end_strong size c.self.inside.counter c.self.inside.tag c.self.invariant.counted k c.self.invariant.key c.args.fed s c.args.piece.now next there in (
      omega arith,
      (
        omega arith,
        (
          c.requires.some,
          (
            c.requires.few,
            (suits k s c.self.inside.end _ _ is strong (two_there k s _ value.result (omega arith) (value.ensures.there k s there)) (none_there k s), c.requires.kept),
          ),
        ),
      ),
    )

pub returns-clause-behind : goal.returns-clause-behind
returns-clause-behind g c =
    on_ok_weaker c.take.result (λ did. length-map c.take.new.self.state (lane 0) ∙ did.1 ∙ ap (λ (n : Netlist). length n.outputs) c.self.invariant.is_end
    ∙ end_outputs c.self.inside.size ∙ ap (λ (r : Between). (code_of r.scheme).state_bits) c.self.view_is)
    c.take.ensures.lengths

pub returns-clause-stopped : goal.returns-clause-stopped
returns-clause-stopped g c =
    let is = end_is c.self.inside.size _ (ap (λ (n : ℕ). 8 * n) c.bytes.ensures) c.args.fed c.self.inside.end c.padded_words-message.result c.args.piece.now
    c.value_behind-value.result c.self.invariant.is_end c.value_behind-value.ensures.bits c.padded_words-message.ensures in
    subst (λ (r : Between). IfErr c.take.result (λ e. e ≡ TapeError.Failed →
    Interrupted g.row.N (code_of r.scheme) c.args.fed c.args.piece.now true r.held (have c.take.new.self) (g.E.Entropy.wanted c.take.new.entropy) c.args.steps.now c.take.new.steps
    (stand c.args.tape.now (g.E.Entropy.left c.args.entropy.now) (g.W.Watch.told c.args.watch.now))
    (stand c.take.new.tape (g.E.Entropy.left c.take.new.entropy) (g.W.Watch.told c.take.new.watch)))) c.self.view_is
    (IfErr-weaker c.take.result _ _ (λ e did failed. interrupted (end_step c.self.inside.size c.args.fed c.args.piece.now) refl is refl (did failed)) c.take.ensures.stopped)
