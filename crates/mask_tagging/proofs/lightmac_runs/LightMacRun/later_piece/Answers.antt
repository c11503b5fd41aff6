use Rattle.std.proofs.Common.{◌≡◌, ℕ, ◌*◌, false, List, [], ◌∷◌, ◌++◌, length, IfErr, OnOk, refl, ap, ap₂, subst, sym, ◌∙◌, arith}
use Rattle.std.proofs.lemmas.List.{length-map}
use Rattle.std.proofs.lemmas.Result.{on_ok_weaker, IfErr-weaker}
use Rattle.mask_bits.specs.Lanes.{lane}
use Rattle.mask_circuit.specs.Netlist.{Netlist}
use Rattle.mask_tape.specs.declared.tape.TapeError.TheVariants as TapeError
use Rattle.mask_trace.specs.Steps.{Registers, Step}
use Rattle.mask_trace.specs.Traces.{BitShares}
use Rattle.mask_trace.specs.Drawing.{Ran, stand}
use Rattle.mask_macs.specs.Codes.{IsNext}
use Rattle.mask_macs.specs.LightMacRuns.{piece_step}
use Rattle.mask_macs.proofs.LightMacPlans.{step_outputs}
use Rattle.mask_chain.specs.Chains.{have}
use Rattle.mask_tagging.specs.Tagging.{Between, Interrupted, code_of}
use Rattle.mask_tagging.proofs.LightMacEvaluations.{ahead_later, later_is, later_strong, none_there, one_there, refresh_is, suits}
use Rattle.mask_tagging.proofs.Stopping.{interrupted}
use Rattle.mask_tagging.proofs.lightmac_runs.LightMacRun.later_piece.Goals as goal

pub take_two-requires : goal.take_two-requires
take_two-requires g c =
    let size = c.self.inside.size in
    let counter = c.self.inside.counter in
    let k = length c.self.inside.chain.key in
    let s = length c.self.inside.chain.state in
    let width = ap (λ (n : ℕ). 8 * n) c.bytes.ensures in
    let next = subst (λ (r : Between). IsNext (code_of r.scheme) c.args.fed c.args.piece.now false) (sym c.self.view_is) c.requires.next in
    let held = subst (λ (r : Between). length r.held.state ≡ (code_of r.scheme).state_bits) (sym c.self.view_is) c.requires.behind in
    let long : s ≡ 64 = sym (length-map c.self.inside.chain.state (lane 0)) ∙ held in
    let strong = later_strong size counter c.self.inside.tag c.self.invariant.counted k c.self.invariant.key c.args.fed s c.args.piece.now next
    c.requires.later (omega arith) in
    let refresh = refresh_is size _ width c.self.inside.refresh c.self.invariant.is_refresh in
    let is = later_is size _ width counter c.self.inside.step c.counted_words-message.result c.args.piece.now c.args.fed c.requires.later
    c.self.invariant.is_step c.counted_words-message.ensures in (
      omega arith,
      (
        omega arith,
        (
          c.requires.some,
          (
            c.requires.few,
            (
              suits k s c.self.inside.refresh _ _ refresh strong.0 (one_there k s _ (omega arith)) (none_there k s),
              (suits k s c.self.inside.step _ _ is strong.1 (one_there k s _ (omega arith)) (one_there k s _ (omega arith)), c.requires.kept),
            ),
          ),
        ),
      ),
    )

pub returns-clause-ran : goal.returns-clause-ran
returns-clause-ran g c =
    let Did : Registers BitShares → List Step → Type 0 = λ (held : Registers BitShares) (steps : List Step). OnOk c.take_two.result (Ran g.row.N held steps (have c.take_two.new.self)
    (stand c.args.tape.now (g.E.Entropy.left c.args.entropy.now) (g.W.Watch.told c.args.watch.now))
    (stand c.take_two.new.tape (g.E.Entropy.left c.take_two.new.entropy) (g.W.Watch.told c.take_two.new.watch))) in
    let size = c.self.inside.size in
    let counter = c.self.inside.counter in
    let width = ap (λ (n : ℕ). 8 * n) c.bytes.ensures in
    let refresh = refresh_is size _ width c.self.inside.refresh c.self.invariant.is_refresh in
    let is = later_is size _ width counter c.self.inside.step c.counted_words-message.result c.args.piece.now c.args.fed c.requires.later
    c.self.invariant.is_step c.counted_words-message.ensures in
    let own = piece_step size counter c.args.fed c.args.piece.now in
    let all = ap₂ (λ (first next : Step). first ∷ next ∷ []) refresh is
    ∙ ap (λ (before : List Step). before ++ own ∷ []) (sym (ahead_later size c.args.fed c.requires.later)) in
    subst (λ (r : Between). Did r.held ((code_of r.scheme).next c.args.fed c.args.piece.now false)) c.self.view_is
    (subst (Did (have c.self.inside.chain)) all c.take_two.ensures.ran)

pub returns-clause-behind : goal.returns-clause-behind
returns-clause-behind g c =
    on_ok_weaker c.take_two.result (λ did. length-map c.take_two.new.self.state (lane 0) ∙ did.1 ∙ ap (λ (n : Netlist). length n.outputs) c.self.invariant.is_step
    ∙ step_outputs c.self.inside.size ∙ ap (λ (r : Between). (code_of r.scheme).state_bits) c.self.view_is)
    c.take_two.ensures.lengths

pub returns-clause-stopped : goal.returns-clause-stopped
returns-clause-stopped g c =
    let size = c.self.inside.size in
    let counter = c.self.inside.counter in
    let width = ap (λ (n : ℕ). 8 * n) c.bytes.ensures in
    let refresh = refresh_is size _ width c.self.inside.refresh c.self.invariant.is_refresh in
    let ahead = ap (λ (first : Step). first ∷ []) refresh ∙ sym (ahead_later size c.args.fed c.requires.later) in
    let is = later_is size _ width counter c.self.inside.step c.counted_words-message.result c.args.piece.now c.args.fed c.requires.later
    c.self.invariant.is_step c.counted_words-message.ensures in
    subst (λ (r : Between). IfErr c.take_two.result (λ e. e ≡ TapeError.Failed →
    Interrupted g.row.N (code_of r.scheme) c.args.fed c.args.piece.now false r.held (have c.take_two.new.self) (g.E.Entropy.wanted c.take_two.new.entropy) c.args.steps.now c.take_two.new.steps
    (stand c.args.tape.now (g.E.Entropy.left c.args.entropy.now) (g.W.Watch.told c.args.watch.now))
    (stand c.take_two.new.tape (g.E.Entropy.left c.take_two.new.entropy) (g.W.Watch.told c.take_two.new.watch)))) c.self.view_is
    (IfErr-weaker c.take_two.result _ _ (λ e did failed. interrupted (piece_step size counter c.args.fed c.args.piece.now) ahead is refl (did failed)) c.take_two.ensures.stopped)
