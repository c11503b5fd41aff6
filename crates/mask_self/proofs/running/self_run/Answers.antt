use Rattle.std.proofs.Common.{ℕ, None, refl, ◌∙◌, subst, add-one}
use Rattle.mask_message.specs.Encrypting.{TellsStrongCalls}
use Rattle.mask_self.proofs.SelfRuns.{counted_own, made_of, stops_early, stops_unwritten, stops_want, writes_line}
use Rattle.mask_self.proofs.running.self_run.Goals as goal

pub returns-in-Err-clause-ends : goal.returns-in-Err-clause-ends
returns-in-Err-clause-ends g c keys left =
    let lines = c.make_lines-lines in
    let iv = c.make_iv-iv in
    let made = made_of c.args.seed c.new-generator.result c.args.order lines.new.generator iv.new.generator iv.result lines.result c.new-generator.ensures lines.ensures.lines
    lines.ensures.count lines.ensures.after iv.ensures.iv iv.ensures.after in
    let out = g.O.Sink.written c.args.out.now in
    stops_early c.args.seed c.args.order lines.new.generator iv.new.generator iv.result c.args.count lines.result made _ c.in-Err.status
    (c.in-Err.ensures.ends keys keys left left out out) refl

pub returns-in-Err-clause-secure : goal.returns-in-Err-clause-secure
returns-in-Err-clause-secure g c =
    subst (λ (n : ℕ). TellsStrongCalls n (g.W.Watch.told c.args.watch.now) (g.W.Watch.told c.sum_of_run.new.watch))
    (c.make_lines-lines.ensures.count ∙ add-one c.args.order) c.sum_of_run.ensures.secure

pub returns-in-Err-clause-out_faults : goal.returns-in-Err-clause-out_faults
returns-in-Err-clause-out_faults g c =
    rw (stops_unwritten _ _ c.make_lines-lines.result _ _ c.in-Err.status (c.in-Err.ensures.ends None None None None None None)) refl

pub returns-in-Err-clause-wants : goal.returns-in-Err-clause-wants
returns-in-Err-clause-wants g c is =
    stops_want _ _ c.make_lines-lines.result _ _ c.in-Err.status (c.in-Err.ensures.ends None None None None None None) is

pub returns-clause-ends : goal.returns-clause-ends
returns-clause-ends g c keys left =
    let lines = c.make_lines-lines in
    let iv = c.make_iv-iv in
    let made = made_of c.args.seed c.new-generator.result c.args.order lines.new.generator iv.new.generator iv.result lines.result c.new-generator.ensures lines.ensures.lines
    lines.ensures.count lines.ensures.after iv.ensures.iv iv.ensures.after in
    writes_line c.args.seed c.args.order lines.new.generator iv.new.generator iv.result c.args.count lines.result made _ c.send.result
    c.calls.result c.bits.result c.in-Ok.sum c.as_slice.result.now c.calls.ensures c.bits.ensures c.in-Ok.ensures.sum (c.as_slice.ensures.value ∙ c.line-line.ensures)
    (c.in-Ok.ensures.ends keys keys left left (g.O.Sink.written c.args.out.now) (g.O.Sink.written c.send.new.out)) c.send.ensures.writes

pub returns-clause-secure : goal.returns-clause-secure
returns-clause-secure g c =
    subst (λ (n : ℕ). TellsStrongCalls n (g.W.Watch.told c.args.watch.now) (g.W.Watch.told c.sum_of_run.new.watch))
    (c.make_lines-lines.ensures.count ∙ add-one c.args.order) c.sum_of_run.ensures.secure

pub returns-in-Err-clause-steps : goal.returns-in-Err-clause-steps
returns-in-Err-clause-steps g c =
    let lines = c.make_lines-lines in
    let iv = c.make_iv-iv in
    let made = made_of c.args.seed c.new-generator.result c.args.order lines.new.generator iv.new.generator iv.result lines.result c.new-generator.ensures lines.ensures.lines
    lines.ensures.count lines.ensures.after iv.ensures.iv iv.ensures.after in
    counted_own c.args.seed c.args.order lines.new.generator iv.new.generator iv.result c.args.count lines.result made _ _ c.sum_of_run.ensures.steps

pub returns-clause-steps : goal.returns-clause-steps
returns-clause-steps g c =
    let lines = c.make_lines-lines in
    let iv = c.make_iv-iv in
    let made = made_of c.args.seed c.new-generator.result c.args.order lines.new.generator iv.new.generator iv.result lines.result c.new-generator.ensures lines.ensures.lines
    lines.ensures.count lines.ensures.after iv.ensures.iv iv.ensures.after in
    counted_own c.args.seed c.args.order lines.new.generator iv.new.generator iv.result c.args.count lines.result made _ _ c.sum_of_run.ensures.steps
