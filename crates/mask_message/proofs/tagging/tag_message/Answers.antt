use Rattle.std.proofs.Common.{◌≡◌, ℕ, ◌+◌, ◌*◌, ◌<◌, ◌≤◌, ◌++◌, Bool, true, false, Option, List, [], length, take, refl, sym, ap, ◌∙◌, subst, arith, length-append}
use Rattle.std.proofs.KnownBytes.{Appends-nil, Consumes-trans}
use Rattle.std.proofs.Math.Dec.{eqb}
use Rattle.std.proofs.lemmas.Bool.{eq-eqb, eqb-false, eqb-true, ne_eqb}
use Rattle.std.proofs.lemmas.List.{append-nil, length-take-le, nil_from_length}
use Rattle.std.specs.Io.KnownBytes.{Appends, Consumes, IsAtEnd}
use Rattle.mask_io.specs.Outside.{AppendsProperPrefix}
use Rattle.mask_tasks.specs.declared.tasks.Task.{Task}
use Rattle.mask_tasks.specs.Tasks.{longest_message}
use Rattle.mask_ciphers.specs.Tasks.{method_of}
use Rattle.mask_ciphers.proofs.Batches.{may_end, some_batch}
use Rattle.mask_ciphers.specs.Methods.{next_length}
use Rattle.mask_plan.specs.Sessions.{Progress, batch_length, block_length, known_bytes, next_output}
use Rattle.mask_message.proofs.Growing.{so_far-none, so_far-more, room-smaller}
use Rattle.mask_message.proofs.Handing.{joined-long, due, tag-long}
use Rattle.mask_message.proofs.Pieces.{none-out, room-first, room-more}
use Rattle.mask_message.proofs.Ending.{cuts_tag, finishes, refused_tag, stops_looking}
use Rattle.mask_message.proofs.tagging.tag_message.Given as given
use Rattle.mask_message.proofs.tagging.tag_message.Goals.{In-Ok-look_ahead}
use Rattle.mask_message.proofs.tagging.tag_message.Goals as goal

pub returns-in-Err-clause-ends : goal.returns-in-Err-clause-ends
returns-in-Err-clause-ends g c lines has before after steps begun =
    let so_far = so_far-none c.args.session.now.task g.row.N lines c.args.session.now _ _ _ _ refl has.begins has.key in
    let part = c.in-Err.ensures.part in
    stops_looking c.args.session.now.task g.row.N lines _ [] c.requires.some c.requires.whole_task [] c.args.session.now _ _ _ _ _ so_far begun c.requires.tag
    part.0 part.1 (λ some. absurd (omega arith)) (omega (arith, part.2, c.requires.piece)) refl refl refl

pub pieces-init : goal.pieces-init
pieces-init g c = record {
  so_far = λ lines has.
      rw c.new-tape.ensures
      ([], _, so_far-none c.args.session.now.task g.row.N lines c.args.session.now _ _ _ _ refl has.begins has.key, c.in-Ok.ensures.taken);
  task_is = refl;
  unclosed = c.requires.unclosed;
  unended = c.requires.unended;
  below = omega (arith, c.requires.unfed, room-first c.args.session.now.task);
  piece_long = c.in-Ok.ensures.room ∙ c.requires.piece;
  next_long = c.requires.next;
  bound = omega (arith, c.in-Ok.ensures.bound, c.requires.piece);
  some_came = λ some. absurd (omega (arith, c.requires.unfed));
  at_end = λ less. c.in-Ok.ensures.end (omega (arith, c.requires.piece));
  input_faults = c.in-Ok.ensures.counts;
  tape_faults = refl;
  out_faults = refl;
}

pub returns-in-Err-look_ahead-clause-ends : goal.returns-in-Err-look_ahead-clause-ends
returns-in-Err-look_ahead-clause-ends g c lines has before after steps begun =
    let so_far = c.pieces.invariant.so_far lines has in
    let part = c.in-Err-look_ahead.ensures.part in
    let piece : List ℕ = take c.pieces.count c.pieces.piece in
    let size : length piece ≡ c.pieces.count = length-take-le c.pieces.count c.pieces.piece (omega (arith, c.pieces.invariant.bound, c.pieces.invariant.piece_long)) in
    let both = length-append piece part.0 in
    stops_looking c.args.session.now.task g.row.N lines _ c.pieces.tape c.requires.some c.requires.whole_task so_far.0 c.pieces.session so_far.1 _ _ _ _ so_far.2 begun c.requires.tag
    (piece ++ part.0) (Consumes-trans _ _ _ piece part.0 so_far.3 part.1)
    (λ some. omega (arith, both, size, part.3, c.pieces.invariant.next_long))
    (omega (arith, both, size, part.2, c.pieces.invariant.bound, c.pieces.invariant.next_long)) refl refl refl

-- the piece, and what was read behind it
module _ (g : given.Over) (c : In-Ok-look_ahead g) where
  abbrev piece : List ℕ
  piece = take c.pieces.count c.pieces.piece

  abbrev more : List ℕ
  more = take c.in-Ok-look_ahead.more c.look_ahead.new.next

  size : length piece ≡ c.pieces.count
  size = length-take-le c.pieces.count c.pieces.piece (omega (arith, c.pieces.invariant.bound, c.pieces.invariant.piece_long))

  more_size : length more ≡ c.in-Ok-look_ahead.more
  more_size = length-take-le c.in-Ok-look_ahead.more c.look_ahead.new.next (omega (arith, c.in-Ok-look_ahead.ensures.bound, c.in-Ok-look_ahead.ensures.room))

  more_bound : c.in-Ok-look_ahead.more ≤ batch_length c.args.session.now.task
  more_bound = omega (arith, c.in-Ok-look_ahead.ensures.bound, c.pieces.invariant.next_long)

  -- a piece behind which more comes is whole
  whole : 1 ≤ c.in-Ok-look_ahead.more → c.pieces.count ≡ batch_length c.args.session.now.task
  whole some = omega (arith, c.in-Ok-look_ahead.ensures.full some, c.pieces.invariant.bound, c.pieces.invariant.next_long)

  none : c.in-Ok-look_ahead.more ≡ 0 → more ≡ []
  none zero = nil_from_length more (omega (arith, more_size, zero))

  -- behind the last one nothing is left
  ended : c.in-Ok-look_ahead.more ≡ 0 → IsAtEnd (g.S.Source.left c.look_ahead.new.input)
  ended zero =
      c.in-Ok-look_ahead.ensures.end (omega (arith, zero, c.pieces.invariant.next_long, some_batch c.args.session.now.task))
      (λ less. c.pieces.invariant.at_end (omega (arith, c.pieces.invariant.next_long)))

  -- what a code takes next
  room : (s : Progress) (n : ℕ) → s ≡ c.pieces.session → s.fed ≡ n → n < longest_message c.args.session.now.task
  room s n same fed = let here = ap (λ (p : Progress). p.fed) same in omega (arith, c.pieces.invariant.below)

  some_piece : (n : ℕ) → c.pieces.session.fed ≡ n → 0 < n → 0 < length piece
  some_piece n fed some = let came = c.pieces.invariant.some_came (omega arith) in omega (arith, size)

  all_piece : 1 ≤ c.in-Ok-look_ahead.more → length piece ≡ batch_length c.args.session.now.task
  all_piece some = size ∙ whole some

  few_piece : length piece ≤ batch_length c.args.session.now.task
  few_piece = omega (arith, size, c.pieces.invariant.bound)

  some_more : (eqb c.in-Ok-look_ahead.more 0 ≡ false) → 1 ≤ c.in-Ok-look_ahead.more
  some_more other = let ne : c.in-Ok-look_ahead.more ≡ 0 → ⊥ = eqb-false c.in-Ok-look_ahead.more 0 other in omega arith

  -- the last piece
  all_taken : c.in-Ok-look_ahead.more ≡ 0 → (left : Option (List ℕ)) → Consumes left (g.S.Source.left c.pieces.input) piece →
      Consumes left (g.S.Source.left c.look_ahead.new.input) piece
  all_taken zero left taken =
      subst (Consumes left (g.S.Source.left c.look_ahead.new.input)) (ap (λ (bytes : List ℕ). piece ++ bytes) (none zero) ∙ append-nil piece)
      (Consumes-trans _ _ _ piece more taken c.in-Ok-look_ahead.ensures.taken)

  tag_long : next_length (method_of c.args.session.now.task) piece true ≡ length c.pieces.room
  tag_long = tag-long c.args.session.now.task c.requires.tag piece ∙ omega (arith, c.requires.room)

pub returns-in-Err-advance-clause-ends : goal.returns-in-Err-advance-clause-ends
returns-in-Err-advance-clause-ends g c lines has before after steps begun =
    let at = (goal.at.returns-in-Err-advance-clause-ends g c).In-Ok-look_ahead in
    let so_far = c.pieces.invariant.so_far lines has in
    let fed = so_far.2.behind.fed_is in
    rw c.status_of.ensures
    (refused_tag c.args.session.now.task g.row.N lines _ c.advance.new.tape c.requires.some c.requires.whole_task so_far.0 c.pieces.session so_far.1 _ _ _ _ so_far.2 begun c.requires.tag
    (piece g at) (more g at) _ c.in-Err-advance.stop (Consumes-trans _ _ _ (piece g at) (more g at) so_far.3 c.in-Ok-look_ahead.ensures.taken)
    (few_piece g at) (omega (arith, more_size g at, more_bound g at))
    (λ last. none g at (eqb-true c.in-Ok-look_ahead.more 0 last)) (some_piece g at (length so_far.0) fed)
    (λ other. let some = some_more g at other in (all_piece g at some, omega (arith, more_size g at)))
    (room g at c.pieces.session (length so_far.0) refl fed) refl c.in-Err-advance.ensures.refused)

pub returns-in-Ok-hand_out-clause-ends : goal.returns-in-Ok-hand_out-clause-ends
returns-in-Ok-hand_out-clause-ends g c lines has before after steps begun =
    let at = (goal.at.returns-in-Ok-hand_out-clause-ends g c).In-Ok-look_ahead in
    let so_far = c.pieces.invariant.so_far lines has in
    let long = joined-long c.args.session.now.task lines has.long in
    let zero : c.in-Ok-look_ahead.more ≡ 0 = grind (arith, c.if-last.true) in
    let is = eq-eqb c.in-Ok-look_ahead.more 0 zero in
    let steps_are = rw is at c.in-Ok-advance.ensures.counted in
    let evaluated = rw is at c.in-Ok-advance.ensures.evaluated in
    let took = rw is at c.in-Ok-advance.ensures.now in
    finishes c.args.session.now.task g.row.N lines _ c.advance.new.tape c.requires.some c.requires.whole_task so_far.0 c.pieces.session so_far.1 _ _ _ _ so_far.2 begun
    (piece g at) c.advance.new.session (may_end c.args.session.now.task (length so_far.0) (piece g at) (few_piece g at) (some_piece g at (length so_far.0) so_far.2.behind.fed_is))
    long evaluated took (all_taken g at zero so_far.1 so_far.3) (ended g at zero) (few_piece g at) steps_are
    (due c.args.session.now.task g.row.N lines so_far.0 (piece g at) true c.pieces.session _ _ so_far.2.behind so_far.2.whole long
    (λ (bytes : List ℕ). Appends (g.O.Sink.written c.pieces.out) (g.O.Sink.written c.hand_out.new.out) bytes) _ c.advance.new.session
    (tag_long g at) c.advance.ensures.bytes evaluated.hands_out c.in-Ok-hand_out.ensures.whole)

pub returns-in-Err-hand_out-clause-ends : goal.returns-in-Err-hand_out-clause-ends
returns-in-Err-hand_out-clause-ends g c lines has before after steps begun =
    let at = (goal.at.returns-in-Err-hand_out-clause-ends g c).In-Ok-look_ahead in
    let so_far = c.pieces.invariant.so_far lines has in
    let long = joined-long c.args.session.now.task lines has.long in
    let zero : c.in-Ok-look_ahead.more ≡ 0 = grind (arith, c.if-last.true) in
    let is = eq-eqb c.in-Ok-look_ahead.more 0 zero in
    let steps_are = rw is at c.in-Ok-advance.ensures.counted in
    let evaluated = rw is at c.in-Ok-advance.ensures.evaluated in
    let took = rw is at c.in-Ok-advance.ensures.now in
    cuts_tag c.args.session.now.task g.row.N lines _ c.advance.new.tape c.requires.some c.requires.whole_task so_far.0 c.pieces.session so_far.1 _ _ _ _ so_far.2 begun
    (piece g at) c.advance.new.session (may_end c.args.session.now.task (length so_far.0) (piece g at) (few_piece g at) (some_piece g at (length so_far.0) so_far.2.behind.fed_is))
    long evaluated took (all_taken g at zero so_far.1 so_far.3) (ended g at zero) (few_piece g at) steps_are c.requires.tag
    (due c.args.session.now.task g.row.N lines so_far.0 (piece g at) true c.pieces.session _ _ so_far.2.behind so_far.2.whole long
    (λ (bytes : List ℕ). AppendsProperPrefix (g.O.Sink.written c.pieces.out) (g.O.Sink.written c.hand_out.new.out) bytes) _ c.advance.new.session
    (tag_long g at) c.advance.ensures.bytes evaluated.hands_out c.in-Err-hand_out.ensures.part)

pub pieces-preserved : goal.pieces-preserved
pieces-preserved g c =
    let at = (goal.at.pieces-preserved g c).In-Ok-look_ahead in
    let task = c.args.session.now.task in
    let other : c.in-Ok-look_ahead.more ≡ 0 → ⊥ = grind (arith, c.if-last.false) in
    let not_last = ne_eqb c.in-Ok-look_ahead.more 0 other in
    let some : 1 ≤ c.in-Ok-look_ahead.more = some_more g at not_last in
    let steps_are = rw not_last at c.in-Ok-advance.ensures.counted in
    let evaluated = rw not_last at c.in-Ok-advance.ensures.evaluated in
    let now = rw not_last at c.in-Ok-advance.ensures.now in
    let all = all_piece g at some in
    let copied = c.copy_from_slice.ensures.after in
    record {
      so_far = λ lines has.
          let so_far = c.pieces.invariant.so_far lines has in
          let long = joined-long task lines has.long in
          let nothing : Appends (g.O.Sink.written c.pieces.out) (g.O.Sink.written c.pieces.out) (next_output c.pieces.session (piece g at) false)
          = rw (none-out task c.pieces.session c.pieces.invariant.task_is c.requires.tag (piece g at)) (Appends-nil (g.O.Sink.written c.pieces.out)) in (
            so_far.0 ++ piece g at,
            g.S.Source.left c.pieces.input,
            so_far-more task g.row.N lines so_far.0 (piece g at) c.pieces.session c.advance.new.session _ _ _ _ _ _ _ _ _ _ _ _ c.requires.whole_task so_far.2
                so_far.3 evaluated now all long nothing steps_are,
            rw copied c.in-Ok-look_ahead.ensures.taken,
          );
      task_is = ap (λ (p : Progress). p.task) now ∙ c.pieces.invariant.task_is;
      unclosed = ap (λ (p : Progress). p.closed) now ∙ c.pieces.invariant.unclosed;
      unended = ap (λ (p : Progress). p.ended) now;
      below = room-more task c.pieces.session (piece g at) c.advance.new.session.fed c.pieces.invariant.task_is c.requires.tag (ap (λ (p : Progress). p.fed) now) evaluated.within;
      piece_long = ap length copied ∙ c.in-Ok-look_ahead.ensures.room ∙ c.pieces.invariant.next_long;
      next_long = c.in-Ok-look_ahead.ensures.room ∙ c.pieces.invariant.next_long;
      bound = more_bound g at;
      some_came = λ fed. some;
      at_end = λ less. c.in-Ok-look_ahead.ensures.end (omega (arith, c.pieces.invariant.next_long))
          (λ short. absurd (omega (arith, whole g at some, c.pieces.invariant.next_long)));
      input_faults = c.in-Ok-look_ahead.ensures.counts ∙ c.pieces.invariant.input_faults;
      tape_faults = c.in-Ok-advance.ensures.tape_faults ∙ c.pieces.invariant.tape_faults;
      out_faults = c.pieces.invariant.out_faults;
    }

pub pieces-smaller : goal.pieces-smaller
pieces-smaller g c =
    let at = (goal.at.pieces-smaller g c).In-Ok-look_ahead in
    let not_last = ne_eqb c.in-Ok-look_ahead.more 0 (grind (arith, c.if-last.false)) in
    let evaluated = rw not_last at c.in-Ok-advance.ensures.evaluated in
    room-smaller c.args.session.now.task c.pieces.session.fed c.advance.new.session.fed (length (piece g at)) _ (ap (λ (p : Progress). p.fed) c.in-Ok-advance.ensures.now)
    (subst (λ (t : Task). known_bytes c.pieces.session (piece g at) false ≤ longest_message t) c.pieces.invariant.task_is evaluated.within)
    (all_piece g at (some_more g at not_last))
