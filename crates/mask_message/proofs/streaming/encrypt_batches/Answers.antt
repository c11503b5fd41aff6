use Rattle.std.proofs.Common.{◌≡◌, ℕ, ◌+◌, ◌≤◌, ◌++◌, true, false, List, [], length, take, refl, sym, ap, ◌∙◌, subst, arith}
use Rattle.std.proofs.lemmas.Bool.{le-ltb, lt-ltb}
use Rattle.std.proofs.lemmas.List.{length-take-le}
use Rattle.std.specs.Io.KnownBytes.{Appends}
use Rattle.mask_io.specs.Outside.{AppendsProperPrefix}
use Rattle.mask_tasks.specs.declared.tasks.Task.{Task}
use Rattle.mask_tasks.specs.Tasks.{longest_message}
use Rattle.mask_plan.specs.Sessions.{Progress, batch_length, known_bytes}
use Rattle.mask_message.proofs.Growing.{so_far-none, so_far-more, room-smaller}
use Rattle.mask_ciphers.proofs.Writing.{ciphers_go_on}
use Rattle.mask_message.proofs.Handing.{cipher-long, joined-long, due}
use Rattle.mask_message.proofs.Ending.{cuts_off_at, finishes, refused, stops_reading}
use Rattle.mask_message.proofs.streaming.encrypt_batches.Goals as goal

pub batches-init : goal.batches-init
batches-init g c = record {
  so_far = λ lines has. rw c.new-tape.ensures ([], so_far-none c.args.session.now.task g.row.N lines c.args.session.now _ _ _ _ refl has.begins has.key);
  task_is = refl;
  unclosed = c.requires.unclosed;
  unended = c.requires.unended;
  input_faults = refl;
  tape_faults = refl;
  out_faults = refl;
}

pub returns-in-Err-clause-ends : goal.returns-in-Err-clause-ends
returns-in-Err-clause-ends g c lines has before after steps begun =
    let so_far = c.batches.invariant.so_far lines has in
    let part = c.in-Err.ensures.part in
    stops_reading c.args.session.now.task g.row.N lines _ c.batches.tape c.requires.some c.requires.whole_task so_far.0 c.batches.session _ _ _ _ _ so_far.1 begun c.requires.cipher part.0 part.1 (omega (arith, part.2)) refl refl refl

pub returns-in-Err-advance-clause-ends : goal.returns-in-Err-advance-clause-ends
returns-in-Err-advance-clause-ends g c lines has before after steps begun =
    let so_far = c.batches.invariant.so_far lines has in
    let piece : List ℕ = take c.in-Ok.count c.read_full.new.buf in
    let size : length piece ≡ c.in-Ok.count = length-take-le c.in-Ok.count c.read_full.new.buf (omega (arith, c.in-Ok.ensures.bound)) in
    rw c.status_of.ensures
    (refused c.args.session.now.task g.row.N lines _ c.advance.new.tape c.requires.some c.requires.whole_task so_far.0 c.batches.session _ _ _ _ _ so_far.1 begun c.requires.cipher piece _ c.in-Err-advance.stop
    c.in-Ok.ensures.taken (omega (arith, c.in-Ok.ensures.bound)) (λ not_last. grind (arith, c.in-Ok.ensures.bound, size)) refl c.in-Err-advance.ensures.refused)

pub returns-in-Err-hand_out-clause-ends : goal.returns-in-Err-hand_out-clause-ends
returns-in-Err-hand_out-clause-ends g c lines has before after steps begun =
    let so_far = c.batches.invariant.so_far lines has in
    let piece : List ℕ = take c.in-Ok.count c.read_full.new.buf in
    let size : length piece ≡ c.in-Ok.count = length-take-le c.in-Ok.count c.read_full.new.buf (omega (arith, c.in-Ok.ensures.bound)) in
    let room = length-take-le c.in-Ok.count c.batches.room (omega (arith, c.in-Ok.ensures.bound)) in
    let long = joined-long c.args.session.now.task lines has.long in
    cuts_off_at c.args.session.now.task g.row.N lines _ c.advance.new.tape c.requires.some c.requires.whole_task so_far.0 c.batches.session _ _ _ _ _ so_far.1 begun c.requires.cipher piece _ c.advance.new.session
    (λ last. c.in-Ok.ensures.end (grind (arith, size))) (λ not_last. grind (arith, c.in-Ok.ensures.bound, size)) (omega (arith, c.in-Ok.ensures.bound)) long
    c.in-Ok.ensures.taken c.in-Ok-advance.ensures.counted c.in-Ok-advance.ensures.evaluated c.in-Ok-advance.ensures.now
    (due c.args.session.now.task g.row.N lines so_far.0 piece _ c.batches.session _ _ so_far.1.behind so_far.1.whole long
    (λ (bytes : List ℕ). AppendsProperPrefix (g.O.Sink.written c.batches.out) (g.O.Sink.written c.hand_out.new.out) bytes) _ c.advance.new.session
    (cipher-long c.args.session.now.task c.requires.cipher piece _ ∙ size ∙ sym room) c.advance.ensures.bytes c.in-Ok-advance.ensures.evaluated.hands_out c.in-Err-hand_out.ensures.part)

pub returns-then-last-clause-ends : goal.returns-then-last-clause-ends
returns-then-last-clause-ends g c lines has before after steps begun =
    let so_far = c.batches.invariant.so_far lines has in
    let piece : List ℕ = take c.in-Ok.count c.read_full.new.buf in
    let size : length piece ≡ c.in-Ok.count = length-take-le c.in-Ok.count c.read_full.new.buf (omega (arith, c.in-Ok.ensures.bound)) in
    let room = length-take-le c.in-Ok.count c.batches.room (omega (arith, c.in-Ok.ensures.bound)) in
    let long = joined-long c.args.session.now.task lines has.long in
    let last = lt-ltb c.in-Ok.count (length c.read_full.new.buf) (grind (arith, c.if-last.true)) in
    let steps_are = rw last at c.in-Ok-advance.ensures.counted in
    let evaluated = rw last at c.in-Ok-advance.ensures.evaluated in
    let took = rw last at c.in-Ok-advance.ensures.now in
    finishes c.args.session.now.task g.row.N lines _ c.advance.new.tape c.requires.some c.requires.whole_task so_far.0 c.batches.session _ _ _ _ _ so_far.1 begun piece c.advance.new.session
    (ciphers_go_on.ends c.args.session.now.task c.requires.cipher (length so_far.0) piece) long evaluated took
    c.in-Ok.ensures.taken (c.in-Ok.ensures.end (grind (arith, size, c.if-last.true))) (omega (arith, c.in-Ok.ensures.bound)) steps_are
    (due c.args.session.now.task g.row.N lines so_far.0 piece true c.batches.session _ _ so_far.1.behind so_far.1.whole long
    (λ (bytes : List ℕ). Appends (g.O.Sink.written c.batches.out) (g.O.Sink.written c.hand_out.new.out) bytes) _ c.advance.new.session
    (cipher-long c.args.session.now.task c.requires.cipher piece _ ∙ size ∙ sym room) c.advance.ensures.bytes evaluated.hands_out c.in-Ok-hand_out.ensures.whole)

pub batches-preserved : goal.batches-preserved
batches-preserved g c =
    let piece : List ℕ = take c.in-Ok.count c.read_full.new.buf in
    let size : length piece ≡ c.in-Ok.count = length-take-le c.in-Ok.count c.read_full.new.buf (omega (arith, c.in-Ok.ensures.bound)) in
    let room = length-take-le c.in-Ok.count c.batches.room (omega (arith, c.in-Ok.ensures.bound)) in
    let not_last = le-ltb c.in-Ok.count (length c.read_full.new.buf) (grind (arith, c.if-last.false)) in
    let steps_are = rw not_last at c.in-Ok-advance.ensures.counted in
    let evaluated = rw not_last at c.in-Ok-advance.ensures.evaluated in
    let now = rw not_last at c.in-Ok-advance.ensures.now in
    let all : length piece ≡ batch_length c.args.session.now.task = grind (arith, c.in-Ok.ensures.bound, size, c.if-last.false) in
    record {
      so_far = λ lines has.
          let so_far = c.batches.invariant.so_far lines has in
          let long = joined-long c.args.session.now.task lines has.long in (
            so_far.0 ++ piece,
            so_far-more c.args.session.now.task g.row.N lines so_far.0 piece c.batches.session c.advance.new.session _ _ _ _ _ _ _ _ _ _ _ _ c.requires.whole_task so_far.1
                c.in-Ok.ensures.taken evaluated now all long
                (due c.args.session.now.task g.row.N lines so_far.0 piece false c.batches.session _ _ so_far.1.behind so_far.1.whole long
                (λ (bytes : List ℕ). Appends (g.O.Sink.written c.batches.out) (g.O.Sink.written c.hand_out.new.out) bytes) _ c.advance.new.session
                (cipher-long c.args.session.now.task c.requires.cipher piece _ ∙ size ∙ sym room) c.advance.ensures.bytes evaluated.hands_out c.in-Ok-hand_out.ensures.whole)
                steps_are,
          );
      task_is = ap (λ (p : Progress). p.task) now ∙ c.batches.invariant.task_is;
      unclosed = ap (λ (p : Progress). p.closed) now ∙ c.batches.invariant.unclosed;
      unended = ap (λ (p : Progress). p.ended) now;
      input_faults = c.in-Ok.ensures.counts ∙ c.batches.invariant.input_faults;
      tape_faults = c.in-Ok-advance.ensures.tape_faults ∙ c.batches.invariant.tape_faults;
      out_faults = c.in-Ok-hand_out.ensures.counts ∙ c.batches.invariant.out_faults;
    }

pub batches-smaller : goal.batches-smaller
batches-smaller g c =
    let piece : List ℕ = take c.in-Ok.count c.read_full.new.buf in
    let size : length piece ≡ c.in-Ok.count = length-take-le c.in-Ok.count c.read_full.new.buf (omega (arith, c.in-Ok.ensures.bound)) in
    let not_last = le-ltb c.in-Ok.count (length c.read_full.new.buf) (grind (arith, c.if-last.false)) in
    let evaluated = rw not_last at c.in-Ok-advance.ensures.evaluated in
    let all : length piece ≡ batch_length c.args.session.now.task = grind (arith, c.in-Ok.ensures.bound, size, c.if-last.false) in
    room-smaller c.args.session.now.task c.batches.session.fed c.advance.new.session.fed (length piece) _
    (ap (λ (p : Progress). p.fed) c.in-Ok-advance.ensures.now)
    (subst (λ (t : Task). known_bytes c.batches.session piece false ≤ longest_message t) c.batches.invariant.task_is evaluated.within)
    all
