use Rattle.std.proofs.Common.{◌≡◌, ℕ, suc, ◌+◌, ◌-◌, Bool, cond, List, [], ◌∷◌, length, map, refl, sym, ap, ap₂, subst, ◌∙◌, lit<, lit≤, rules, arith}
use Rattle.std.proofs.lemmas.List.{length-map}
use Rattle.mask_circuit.specs.Netlist.{Netlist}
use Rattle.mask_laws.proofs.Hiding.{accepted_call_is_private}
use Rattle.mask_tape.specs.Drawn.{Amount}
use Rattle.mask_eval.specs.Watching.{Awaited, awaited, IsReadyFor}
use Rattle.mask_eval.specs.Evaluated.{coin_count}
use Rattle.mask_run.specs.Hexadecimal.{IsReport}
use Rattle.mask_run.specs.Lanes.{words_of, first_bit}
use Rattle.mask_run.proofs.LaneZero.{count_is, evaluates-same, needed, tells_call, outputs_stand}
use Rattle.mask_run.proofs.Telling.{TellsSecureCalls-none, TellsSecureCalls-evaluated}
use Rattle.mask_run.proofs.evaluation.evaluate.Goals as goal

abbrev amount : ℕ → ℕ → Amount
amount lanes bits = record { lanes = lanes; bits = bits }

pub returns-in_err-room-2-clause-secure : goal.returns-in_err-room-2-clause-secure
returns-in_err-room-2-clause-secure g c = TellsSecureCalls-none _ _ (c.room.ensures.told ∙ c.cancel.ensures.told)

pub evaluate-requires : goal.evaluate-requires
evaluate-requires g c =
    let circuit = c.args.prepared.now.circuit in
    let words = ap length (c.deref.ensures.value ∙ c.in_ok-words.ensures) ∙ length-map c.args.prepared.now.inputs (λ b. cond b 1 0) in
    let inputs : 0 + length c.deref.result.now + 0 ≡ c.args.prepared.now.circuit.inputs = omega (arith, words, c.args.prepared.now.just_enough) in
    let more : c.args.order + 1 ≡ g.row.N = omega arith in
    let order : c.args.order ≡ g.row.N - 1 = omega arith in
    let many : c.len.result ≡ length c.deref.result.now = omega arith in
    let room : c.in_ok-room.room ≡ amount 1 (coin_count c.args.prepared.now.circuit g.row.N (length c.deref.result.now)) =
    c.in_ok-room.ensures ∙ ap₂ (λ (n m : ℕ). amount 1 (coin_count c.args.prepared.now.circuit n m)) more many in
    let ready : IsReadyFor (g.W.Watch.ready c.room.new.self) c.args.prepared.now.circuit (g.row.N - 1) 1 = (
      [],
      subst (λ (e : Awaited). g.W.Watch.ready c.room.new.self (e ∷ []))
          (ap₂ (λ (n : Netlist) (o : ℕ). awaited n o 1) c.circuit-circuit.ensures.same order) (c.in_ok-room-2.ensures.ready [] c.cancel.ensures.ready),
    ) in (
      first_of (search rules, omega arith),
      (lit< tt, (c.requires.some, (c.requires.few, (lit≤ tt, (lit≤ tt, (c.in_ok-frame.ensures.fits, (inputs, (room, ready)))))))),
    )

pub returns-in-Err-clause-secure : goal.returns-in-Err-clause-secure
returns-in-Err-clause-secure g c = TellsSecureCalls-none _ _ (ap g.W.Watch.told c.in-Err.ensures.watch ∙ c.room.ensures.told ∙ c.cancel.ensures.told)

pub returns-in-Err-clause-failed : goal.returns-in-Err-clause-failed
returns-in-Err-clause-failed g c is =
    let more : g.row.N ≡ suc c.args.order = omega arith in
    let circuit = c.args.prepared.now.circuit in
    let inputs = c.args.prepared.now.inputs in
    let words = c.deref.ensures.value ∙ c.in_ok-words.ensures in
    let total = count_is circuit g.row.N c.args.order (length c.deref.result.now) inputs more (ap length words) c.args.prepared.now.just_enough in
    let kept = ap length c.new-bits.ensures in
    let failed = c.in-Err.ensures.failed in
    (omega (arith, failed.0, total, kept), failed.1)

pub returns-in-Err-clause-idle : goal.returns-in-Err-clause-idle
returns-in-Err-clause-idle g c none =
    let more : g.row.N ≡ suc c.args.order = omega arith in
    let circuit = c.args.prepared.now.circuit in
    let inputs = c.args.prepared.now.inputs in
    let words = c.deref.ensures.value ∙ c.in_ok-words.ensures in
    let total = count_is circuit g.row.N c.args.order (length c.deref.result.now) inputs more (ap length words) c.args.prepared.now.just_enough in
    let kept = ap length c.new-bits.ensures in
    c.in-Err.ensures.unasked (omega (arith, total, kept))

pub returns-clause-report : goal.returns-clause-report
returns-clause-report g c =
    let more : suc c.args.order ≡ g.row.N = omega arith in
    let circuit = c.args.prepared.now.circuit in
    let inputs = c.args.prepared.now.inputs in
    let words = sym (c.deref.ensures.value ∙ c.in_ok-words.ensures) in
    let told = sym (c.room.ensures.told ∙ c.cancel.ensures.told) in
    let run = evaluates-same circuit g.row.N (suc c.args.order) _ [] _ [] c.deref.result.now (words_of inputs) c.new-bits.result [] c.evaluate.new.tape
    (g.E.Entropy.left c.args.tape.now) (g.E.Entropy.left c.evaluate.new.entropy) (g.W.Watch.told c.room.new.self) (g.W.Watch.told c.args.watch.now)
    (g.W.Watch.told c.evaluate.new.watch) c.evaluate.new.frame.outputs more refl refl words (sym c.new-bits.ensures) told c.in-Ok.ensures.evaluates in
    let count = c.args.prepared.now.just_enough in
    let stand = outputs_stand circuit c.args.order inputs c.evaluate.new.tape (g.E.Entropy.left c.args.tape.now) (g.E.Entropy.left c.evaluate.new.entropy)
    (g.W.Watch.told c.args.watch.now) (g.W.Watch.told c.evaluate.new.watch) c.evaluate.new.frame.outputs count run in
    subst (λ (bs : List Bool). IsReport bs c.print.result.items) (c.unmask_outputs.ensures ∙ ap (map first_bit) c.outputs-2.ensures ∙ stand) c.print.ensures

pub returns-clause-idle : goal.returns-clause-idle
returns-clause-idle g c none =
    let more : g.row.N ≡ suc c.args.order = omega arith in
    let circuit = c.args.prepared.now.circuit in
    let inputs = c.args.prepared.now.inputs in
    let words = c.deref.ensures.value ∙ c.in_ok-words.ensures in
    let total = count_is circuit g.row.N c.args.order (length c.deref.result.now) inputs more (ap length words) c.args.prepared.now.just_enough in
    let kept = ap length c.new-bits.ensures in
    c.in-Ok.ensures.unasked (omega (arith, total, kept))

pub returns-clause-evaluates : goal.returns-clause-evaluates
returns-clause-evaluates g c =
    let more : suc c.args.order ≡ g.row.N = omega arith in
    let circuit = c.args.prepared.now.circuit in
    let inputs = c.args.prepared.now.inputs in
    let words = sym (c.deref.ensures.value ∙ c.in_ok-words.ensures) in
    let told = sym (c.room.ensures.told ∙ c.cancel.ensures.told) in
    let run = evaluates-same circuit g.row.N (suc c.args.order) _ [] _ [] c.deref.result.now (words_of inputs) c.new-bits.result [] c.evaluate.new.tape
    (g.E.Entropy.left c.args.tape.now) (g.E.Entropy.left c.evaluate.new.entropy) (g.W.Watch.told c.room.new.self) (g.W.Watch.told c.args.watch.now)
    (g.W.Watch.told c.evaluate.new.watch) c.evaluate.new.frame.outputs more refl refl words (sym c.new-bits.ensures) told c.in-Ok.ensures.evaluates in
    let count = c.args.prepared.now.just_enough in
    record {
      fresh = run.drawn.fresh;
      count = needed circuit c.args.order inputs c.evaluate.new.tape (g.E.Entropy.left c.args.tape.now) (g.E.Entropy.left c.evaluate.new.entropy)
          (g.W.Watch.told c.args.watch.now) (g.W.Watch.told c.evaluate.new.watch) c.evaluate.new.frame.outputs count run;
      drawn = run.drawn.taken;
      tells = tells_call circuit c.args.order inputs c.evaluate.new.tape (g.E.Entropy.left c.args.tape.now) (g.E.Entropy.left c.evaluate.new.entropy)
          (g.W.Watch.told c.args.watch.now) (g.W.Watch.told c.evaluate.new.watch) c.evaluate.new.frame.outputs count run;
      private = accepted_call_is_private circuit (suc c.args.order) (omega arith) c.circuit-circuit.ensures.circuit.formed c.circuit-circuit.ensures.accepted;
    }

pub returns-clause-secure : goal.returns-clause-secure
returns-clause-secure g c =
    let circuit = c.circuit-circuit.ensures in
    TellsSecureCalls-evaluated c.args.prepared.now.circuit c.args.order c.args.prepared.now.inputs (g.E.Entropy.left c.args.tape.now)
    (g.E.Entropy.left c.evaluate.new.entropy) (g.W.Watch.told c.args.watch.now) (g.W.Watch.told c.evaluate.new.watch) (returns-clause-evaluates g c)
    c.args.prepared.now.just_enough (omega arith) (omega arith) circuit.circuit circuit.accepted circuit.secure
