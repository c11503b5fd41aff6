use Rattle.std.proofs.Common.{◌≡◌, ℕ, ◌≤◌, List, [], ◌∷◌, length, map, IfErr, OnOk, refl, ap, subst, sym, ◌∙◌, arith}
use Rattle.std.proofs.lemmas.List.{length-map}
use Rattle.std.proofs.lemmas.Result.{on_ok_weaker}
use denote.Ref.{Bor}
use Rattle.mask_bits.specs.Lanes.{lane}
use Rattle.mask_circuit.specs.Netlist.{Netlist}
use Rattle.mask_tape.specs.declared.tape.TapeError.TheVariants as TapeError
use Rattle.mask_trace.specs.Steps.{Registers, Step}
use Rattle.mask_trace.specs.Traces.{BitShares}
use Rattle.mask_trace.specs.Drawing.{Ran, stand}
use Rattle.mask_modes.specs.Steps.{block_at}
use Rattle.mask_modes.proofs.Blocks.{length-block_at}
use Rattle.mask_streams.specs.Streams.{start_step, stream_step}
use Rattle.mask_streams.proofs.Plans.{start_outputs, step_outputs}
use Rattle.mask_chain.specs.Chains.{Stopped, have}
use Rattle.mask_keystream.specs.Streaming.{Between}
use Rattle.mask_keystream.proofs.Evaluations.{start_is, start_suits, stream_is, stream_suits}
use Rattle.mask_keystream.proofs.streaming.StreamRun.first_piece.Goals as goal

pub take_two-requires : goal.take_two-requires
take_two-requires g c =
    let outputs = ap (λ (n : Netlist). length n.outputs) c.self.invariant.is_start ∙ start_outputs in
    let start = start_suits (length c.self.inside.chain.key) (length c.self.inside.chain.state) c.self.inside.start _ _ c.self.inside.iv
    c.self.invariant.is_start refl refl refl refl c.iv_words-iv.ensures c.self.invariant.key c.self.invariant.ten in
    let suits = stream_suits (length c.self.inside.chain.key) (length c.self.inside.start.outputs) c.self.inside.step _ (block_at 8 c.args.piece.now 0)
    c.self.invariant.is_step refl refl refl c.block_words-message.ensures (omega arith) (length-block_at 8 c.args.piece.now 0) in
    (omega arith, (omega arith, (c.requires.some, (c.requires.few, (start, (suits, c.requires.kept))))))

pub returns-clause-ran : goal.returns-clause-ran
returns-clause-ran g c =
    let Did : Registers BitShares → Step → Step → Type 0 = λ (held : Registers BitShares) (first own : Step).
    OnOk c.take_two.result (Ran g.row.N held (first ∷ own ∷ []) (have c.take_two.new.self)
    (stand c.args.tape.now (g.E.Entropy.left c.args.entropy.now) (g.W.Watch.told c.args.watch.now))
    (stand c.take_two.new.tape (g.E.Entropy.left c.take_two.new.entropy) (g.W.Watch.told c.take_two.new.watch))) in
    let words : Bor (List ℕ) = record { ref_ptr = c.args.piece.ref_ptr; now = c.iv_words-iv.result } in
    let start = start_is c.self.inside.start words c.self.inside.iv c.self.invariant.is_start c.iv_words-iv.ensures in
    let stream = stream_is c.self.inside.step c.block_words-message.result (block_at 8 c.args.piece.now 0) c.self.invariant.is_step c.block_words-message.ensures in
    subst (λ (r : Between). Did r.held (start_step r.iv) (stream_step (block_at 8 c.args.piece.now 0))) c.self.view_is
    (subst (λ (first : Step). Did (have c.self.inside.chain) first (stream_step (block_at 8 c.args.piece.now 0))) start
    (subst (Did (have c.self.inside.chain) _) stream c.take_two.ensures.ran))

pub returns-clause-behind : goal.returns-clause-behind
returns-clause-behind g c =
    on_ok_weaker c.take_two.result (λ did. length-map c.take_two.new.self.state (lane 0) ∙ did.1 ∙ ap (λ (n : Netlist). length n.outputs) c.self.invariant.is_step ∙ step_outputs)
    c.take_two.ensures.lengths

pub returns-clause-stopped : goal.returns-clause-stopped
returns-clause-stopped g c =
    let Did : Registers BitShares → Step → Step → Type 0 = λ (held : Registers BitShares) (first own : Step).
    IfErr c.take_two.result (λ e. e ≡ TapeError.Failed →
    Stopped g.row.N held (have c.take_two.new.self) (first ∷ []) own (g.E.Entropy.wanted c.take_two.new.entropy) c.args.steps.now c.take_two.new.steps
    (stand c.args.tape.now (g.E.Entropy.left c.args.entropy.now) (g.W.Watch.told c.args.watch.now))
    (stand c.take_two.new.tape (g.E.Entropy.left c.take_two.new.entropy) (g.W.Watch.told c.take_two.new.watch))) in
    let words : Bor (List ℕ) = record { ref_ptr = c.args.piece.ref_ptr; now = c.iv_words-iv.result } in
    let start = start_is c.self.inside.start words c.self.inside.iv c.self.invariant.is_start c.iv_words-iv.ensures in
    let stream = stream_is c.self.inside.step c.block_words-message.result (block_at 8 c.args.piece.now 0) c.self.invariant.is_step c.block_words-message.ensures in
    subst (λ (r : Between). Did r.held (start_step r.iv) (stream_step (block_at 8 c.args.piece.now 0))) c.self.view_is
    (subst (λ (first : Step). Did (have c.self.inside.chain) first (stream_step (block_at 8 c.args.piece.now 0))) start
    (subst (Did (have c.self.inside.chain) _) stream c.take_two.ensures.stopped))
