use Rattle.std.proofs.Common.{◌≡◌, ℕ, ◌≤◌, List, [], ◌∷◌, length, map, IfErr, OnOk, refl, ap, subst, sym, ◌∙◌, arith}
use Rattle.std.proofs.lemmas.List.{length-map}
use Rattle.std.proofs.lemmas.Result.{on_ok_weaker}
use Rattle.mask_bits.specs.Lanes.{lane}
use Rattle.mask_circuit.specs.Netlist.{Netlist}
use Rattle.mask_tape.specs.declared.tape.TapeError.TheVariants as TapeError
use Rattle.mask_trace.specs.Steps.{Registers, Step}
use Rattle.mask_trace.specs.Traces.{BitShares}
use Rattle.mask_trace.specs.Drawing.{Ran, stand}
use Rattle.mask_modes.specs.Steps.{block_at}
use Rattle.mask_modes.proofs.Blocks.{length-block_at}
use Rattle.mask_streams.specs.Streams.{stream_step}
use Rattle.mask_streams.proofs.Plans.{step_outputs}
use Rattle.mask_chain.specs.Chains.{Stopped, have}
use Rattle.mask_keystream.specs.Streaming.{Between}
use Rattle.mask_keystream.proofs.Evaluations.{stream_is, stream_suits}
use Rattle.mask_keystream.proofs.streaming.StreamRun.later_piece.Goals as goal

pub take-requires : goal.take-requires
take-requires g c =
    let held : length (map (lane 0) c.self.inside.chain.state) ≡ 352 = ap (λ (r : Between). length r.held.state) c.self.view_is ∙ c.requires.behind in
    let long = length-map c.self.inside.chain.state (lane 0) in
    let suits = stream_suits (length c.self.inside.chain.key) (length c.self.inside.chain.state) c.self.inside.step _ (block_at 8 c.args.piece.now 0)
    c.self.invariant.is_step refl refl refl c.block_words-message.ensures (omega arith) (length-block_at 8 c.args.piece.now 0) in
    (omega arith, (omega arith, (c.requires.some, (c.requires.few, (suits, c.requires.kept)))))

pub returns-clause-ran : goal.returns-clause-ran
returns-clause-ran g c =
    let Did : Registers BitShares → Step → Type 0 = λ (held : Registers BitShares) (own : Step). OnOk c.take.result (Ran g.row.N held (own ∷ []) (have c.take.new.self)
    (stand c.args.tape.now (g.E.Entropy.left c.args.entropy.now) (g.W.Watch.told c.args.watch.now))
    (stand c.take.new.tape (g.E.Entropy.left c.take.new.entropy) (g.W.Watch.told c.take.new.watch))) in
    subst (λ (r : Between). Did r.held (stream_step (block_at 8 c.args.piece.now 0))) c.self.view_is
    (subst (Did (have c.self.inside.chain)) (stream_is c.self.inside.step c.block_words-message.result (block_at 8 c.args.piece.now 0) c.self.invariant.is_step c.block_words-message.ensures)
    c.take.ensures.ran)

pub returns-clause-behind : goal.returns-clause-behind
returns-clause-behind g c =
    on_ok_weaker c.take.result (λ did. length-map c.take.new.self.state (lane 0) ∙ did.1 ∙ ap (λ (n : Netlist). length n.outputs) c.self.invariant.is_step ∙ step_outputs)
    c.take.ensures.lengths

pub returns-clause-stopped : goal.returns-clause-stopped
returns-clause-stopped g c =
    let Did : Registers BitShares → Step → Type 0 = λ (held : Registers BitShares) (own : Step). IfErr c.take.result (λ e. e ≡ TapeError.Failed →
    Stopped g.row.N held (have c.take.new.self) [] own (g.E.Entropy.wanted c.take.new.entropy) c.args.steps.now c.take.new.steps
    (stand c.args.tape.now (g.E.Entropy.left c.args.entropy.now) (g.W.Watch.told c.args.watch.now))
    (stand c.take.new.tape (g.E.Entropy.left c.take.new.entropy) (g.W.Watch.told c.take.new.watch))) in
    subst (λ (r : Between). Did r.held (stream_step (block_at 8 c.args.piece.now 0))) c.self.view_is
    (subst (Did (have c.self.inside.chain)) (stream_is c.self.inside.step c.block_words-message.result (block_at 8 c.args.piece.now 0) c.self.invariant.is_step c.block_words-message.ensures)
    c.take.ensures.stopped)
