-- How a run ends behind whole batches.
use Rattle.std.proofs.Common.{◌≡◌, ℕ, pred, suc, zero, ◌+◌, ◌*◌, ◌-◌, ◌<◌, ◌≤◌, Bool, true, false, cond, List, [], ◌∷◌, ◌++◌, None, length, take, drop, refl, sym, ap, ap₂, ◌∙◌, subst, arith, length-append, Option, ◌⊎◌, inl, inr}
use Rattle.std.proofs.Math.Nat.{eq-or-lt_of_le}
use Rattle.std.proofs.Math.Seq.{take-length, take-append-add}
use Rattle.std.proofs.lemmas.Bool.{cases_lt}
use Rattle.std.proofs.lemmas.List.{append-nil, append_assoc, drop-append-le, length-drop, length-take-le, nil_from_length, take-append-drop}
use Rattle.std.proofs.KnownBytes.{Appends-trans, Consumes-nil, Consumes-trans}
use Rattle.std.specs.Io.KnownBytes.{Appends, Consumes, IsAtEnd}
use lib.Seq.{take-append_seam, drop-append-add}
use Rattle.mask_bits.specs.Reading.{low, bytes_for}
use Rattle.mask_bits.proofs.Bytes.{length-low}
use Rattle.mask_io.specs.Outside.{AppendsProperPrefix}
use Rattle.mask_tasks.specs.declared.tasks.Task.{Task}
use Rattle.mask_tasks.specs.Tasks.{IsTask, key_bytes, longest_message}
use Rattle.mask_keys.specs.Lines.{joined}
use Rattle.mask_trace.specs.Steps.{Step, bits_of}
use Rattle.mask_trace.specs.Values.{values_of}
use Rattle.mask_trace.specs.Drawing.{Stand, Drew, Ran, RanPart}
use Rattle.mask_trace.proofs.Traces.{traces_split}
use Rattle.mask_trace.proofs.Drawing.{runs_join}
use Rattle.mask_ciphers.specs.Methods.{Method, InCounterMode, AsStream, AsCode, AreBatches, IsCipher, MayEnd, fed_steps, known_behind, start_steps}
use Rattle.mask_ciphers.specs.Methods as methods
use Rattle.mask_ciphers.specs.Tasks.{fed_output, held_at_first, method_of, output, plan, with_lines}
use Rattle.mask_ciphers.specs.Totals.{total}
use Rattle.mask_ciphers.proofs.Batches.{batches_reach, cipher_or_tag, may_end, pieces_fill, some_batch}
use Rattle.mask_ciphers.proofs.Breaking.{runs_are_private}
use Rattle.mask_ciphers.proofs.Drawing.{runs_draw_totals}
use Rattle.mask_ciphers.proofs.Gates.{gates_go_on}
use Rattle.mask_ciphers.proofs.Writing.{ciphers_go_on, messages_go_on, no_tag}
use Rattle.mask_plan.specs.declared.session.Stop.{Stop}
use Rattle.mask_plan.specs.declared.session.Stop.TheVariants as stops
use Rattle.mask_plan.specs.Sessions.{Progress, Evaluated, Interrupted, Refuses, ahead, batch_length, gates_for, next_steps, next_output}
use Rattle.mask_status.specs.declared.status.Status.{Status}
use Rattle.mask_status.specs.declared.status.Status.TheVariants.{Done, TooLong, ReadFault, TapeFault, WriteFault, NoMemory}
use Rattle.mask_status.specs.Ends.{is_read_fault, is_tape_fault, is_write_fault}
use Rattle.mask_message.specs.Outside.{Outside}
use Rattle.mask_message.specs.Counting.{most_run_steps}
use Rattle.mask_message.specs.Encrypting.{Encrypts, RanAll, RanSteps, WroteBatches, FailsToDraw, FailsToTag, Streams, StreamsBy, StreamsOut, Tags, TakesMessage, TookPieces, at_first, at_last, due_behind}
use Rattle.mask_message.specs.Sessions.{HasTaken}
use Rattle.mask_message.specs.Stopping.{is_of_tape, status_of}
use Rattle.mask_message.proofs.Growing.{Behind, SoFar, so_far-none, batches-more, behind-more, plan-goes_on, fed_steps-go_on, output-goes_on, fed_output-goes_on, counted-fed, counted-last, gates-are}

-- BITS AND BYTES

-- the bits of bytes behind no kept bit
length-fresh : (kept : List Bool) (fresh : List ℕ) → kept ≡ [] → length (kept ++ low fresh) ≡ 8 * length fresh
length-fresh kept fresh none = ap (λ (bits : List Bool). length (bits ++ low fresh)) none ∙ length-low fresh

-- bytes that were drawn behind no kept bit are as many as the bits need
fresh-count : (n : ℕ) (fresh : List ℕ) (a b : Stand) → a.kept ≡ [] → Drew n fresh a b → length fresh ≡ bytes_for n
fresh-count n fresh a b none drew = let bits = length-fresh a.kept fresh none in omega (arith, drew.enough, drew.fewest)

-- the bits of a whole run
run-bits : (task : Task) (N : ℕ) (bytes : List ℕ) → 2 ≤ N → bits_of N (plan task bytes) ≡ total task (pred N) (length bytes)
run-bits task zero bytes some = absurd (omega arith)
run-bits task (suc d) bytes some = runs_draw_totals task d bytes

-- what is wanted behind bits that were drawn, and what these took, are no more than all bits need
wanted-within : (done next all : ℕ) (fresh : List ℕ) (wanted : ℕ) (a b : Stand) → a.kept ≡ [] → Drew done fresh a b → wanted ≡ bytes_for (next - length b.kept) →
    1 ≤ wanted → done + next ≤ all → length fresh + wanted ≤ bytes_for all
wanted-within done next all fresh wanted a b none drew is some fit =
    let bits = length-fresh a.kept fresh none in
    let left : length b.kept ≡ length (a.kept ++ low fresh) - done = ap length drew.kept ∙ length-drop done (a.kept ++ low fresh) in
    omega (arith, drew.enough)

-- WRITING

-- a part of what comes behind what was written
part-behind : (a b c : Option (List ℕ)) (xs ys : List ℕ) → Appends a b xs → AppendsProperPrefix b c ys → AppendsProperPrefix a c (xs ++ ys)
part-behind a b c xs ys first (front, (shorter, is), second) = (
  xs ++ front,
  (
    omega (arith, length-append xs front, length-append xs ys),
    ap (λ (n : ℕ). take n (xs ++ ys)) (length-append xs front) ∙ take-append-add xs ys (length front) ∙ ap (λ (l : List ℕ). xs ++ l) is,
  ),
  Appends-trans a b c xs front first second,
)

-- ENDS

ran_all : (task : Task) → IsTask task → (N : ℕ) (lines : List (List ℕ)) (bytes : List ℕ) (steps : List Step) (n : ℕ) (s : Progress) (o : Outside) (kept : List Bool) → 2 ≤ N →
    steps ≡ plan task bytes → Behind task N lines steps n s (at_first o) (at_last kept o) → RanAll task N lines bytes o
ran_all task is N lines bytes steps n s o kept some are behind = record {
  kept = kept;
  part = runs_join.whole N (with_lines task lines) s.held (plan task bytes) (at_first o) (at_last kept o) (rw are at behind.ran);
  private = runs_are_private N task is bytes (length (plan task bytes)) some;
}

all-drawn : (task : Task) (N : ℕ) (bytes fresh : List ℕ) (a b : Stand) → 2 ≤ N → a.kept ≡ [] → Drew (bits_of N (take (length (plan task bytes)) (plan task bytes))) fresh a b →
    length fresh ≡ bytes_for (total task (pred N) (length bytes))
all-drawn task N bytes fresh a b some none drew =
    fresh-count _ fresh a b none drew ∙ ap bytes_for (ap (bits_of N) (take-length (plan task bytes)) ∙ run-bits task N bytes some)

-- the first steps, and more of them behind it
first-steps : (before next : List Step) (count : ℕ) → take (length before + count) (before ++ next) ≡ before ++ take count next
first-steps before next count = take-append-add before next count

-- the steps of whole batches, those that were evaluated of the next ones, and those that were due then are steps of the message
steps-left : (N : ℕ) (before more all : List Step) → all ≡ before ++ more → (count : ℕ) (next later : List Step) → drop count more ≡ next ++ later →
    bits_of N (take (length before + count) all) + bits_of N next ≤ bits_of N all
steps-left N before more all are count next later follow =
    let n = length before + count in
    let parts : bits_of N all ≡ bits_of N (take n all) + bits_of N (drop n all)
    = ap (bits_of N) (sym (take-append-drop n all)) ∙ traces_split.bits N (take n all) (drop n all) in
    let rest : drop n all ≡ next ++ later = ap (drop n) are ∙ drop-append-add before more count ∙ follow in
    let due = ap (bits_of N) rest ∙ traces_split.bits N next later in
    omega arith

-- the steps of whole batches come first
front-first : (N : ℕ) (before more all : List Step) → all ≡ before ++ more → (count : ℕ) → bits_of N before ≤ bits_of N (take (length before + count) all)
front-first N before more all are count =
    let first : take (length before + count) all ≡ before ++ take count more = ap (take (length before + count)) are ∙ first-steps before more count in
    omega (arith, ap (bits_of N) first ∙ traces_split.bits N before (take count more))

-- a step is wanted of some bytes alone
some-wanted : (N : ℕ) (before more all : List Step) (piece : List ℕ) → all ≡ before ++ more → (piece ≡ [] → more ≡ []) → (next done wanted : ℕ) (kept : List Bool) →
    wanted ≡ bytes_for (next - length kept) → 1 ≤ wanted → done + next ≤ bits_of N all → bits_of N before ≤ done → 1 ≤ length piece
some-wanted N before more all [] are nothing next done wanted kept is least fit first =
    let same : all ≡ before = are ∙ ap (λ (steps : List Step). before ++ steps) (nothing refl) ∙ append-nil before in
    absurd (omega (arith, ap (bits_of N) same))
some-wanted N before more all (x ∷ piece) are nothing next done wanted kept is least fit first = omega arith

-- a room that was read into is full, or the source has ended
pub full_or_end : (n room : ℕ) (End : Type 0) → n ≤ room → (n < room → End) → (n ≡ room) ⊎ End
full_or_end n room End few end = go (eq-or-lt_of_le few)
  where
    go : (n ≡ room) ⊎ (n < room) → (n ≡ room) ⊎ End
    go (inl all) = inl all
    go (inr less) = inr (end less)

-- WHAT A STATUS SAYS

-- of a ciphertext, and of a tag
to_cipher : (task : Task) → IsCipher (method_of task) → (N : ℕ) (lines : List (List ℕ)) (bytes : List ℕ) (o : Outside) (status : Status) →
    StreamsOut task N lines bytes o status → Streams task N lines bytes o status
to_cipher task cipher N lines bytes o status says = go (method_of task) cipher
  where
    go : (method : Method) → IsCipher method → StreamsBy method task N lines bytes o status
    go (InCounterMode m block_cipher) is = says
    go (AsStream iv) is = says
    go (AsCode code) is = absurd is

pub of_cipher : (task : Task) → IsCipher (method_of task) → (N : ℕ) (lines : List (List ℕ)) (bytes : List ℕ) (o : Outside) (status : Status) →
    Streams task N lines bytes o status → StreamsOut task N lines bytes o status
of_cipher task cipher N lines bytes o status says = go (method_of task) cipher says
  where
    go : (method : Method) → IsCipher method → StreamsBy method task N lines bytes o status → StreamsOut task N lines bytes o status
    go (InCounterMode m block_cipher) is said = said
    go (AsStream iv) is said = said
    go (AsCode code) is said = absurd is

to_tag : (task : Task) → (IsCipher (method_of task) → ⊥) → (N : ℕ) (lines : List (List ℕ)) (bytes : List ℕ) (o : Outside) (status : Status) →
    Tags task N lines bytes o status → Streams task N lines bytes o status
to_tag task tag N lines bytes o status says = go (method_of task) tag
  where
    go : (method : Method) → (IsCipher method → ⊥) → StreamsBy method task N lines bytes o status
    go (InCounterMode m cipher) none = absurd (none tt)
    go (AsStream iv) none = absurd (none tt)
    go (AsCode code) none = says

-- it is one or the other
pub ciphertext_or_tag : (task : Task) (N : ℕ) (lines : List (List ℕ)) (bytes : List ℕ) (o : Outside) (status : Status) →
    Streams task N lines bytes o status → StreamsOut task N lines bytes o status ⊎ Tags task N lines bytes o status
ciphertext_or_tag task N lines bytes o status says = go (method_of task) says
  where
    go : (method : Method) → StreamsBy method task N lines bytes o status → StreamsOut task N lines bytes o status ⊎ Tags task N lines bytes o status
    go (InCounterMode m cipher) said = inl said
    go (AsStream iv) said = inl said
    go (AsCode code) said = inr said

-- of both
done : (task : Task) (N : ℕ) (lines : List (List ℕ)) (bytes : List ℕ) (o : Outside) → Encrypts task N lines bytes o → Streams task N lines bytes o Done
done task N lines bytes o says = go (method_of task)
  where
    go : (method : Method) → StreamsBy method task N lines bytes o Done
    go (InCounterMode m cipher) = says
    go (AsStream iv) = says
    go (AsCode code) = says

-- WHAT IS KNOWN OF A MESSAGE

none_known : (task : Task) → IsCipher (method_of task) → (last : Bool) → known_behind (method_of task) last ≡ 0
none_known task cipher last = go (method_of task) cipher
  where
    go : (method : Method) → IsCipher method → known_behind method last ≡ 0
    go (InCounterMode m block_cipher) is = refl
    go (AsStream iv) is = refl
    go (AsCode code) is = absurd is

none_behind_last : (task : Task) → known_behind (method_of task) true ≡ 0
none_behind_last task = go (method_of task)
  where
    go : (method : Method) → known_behind method true ≡ 0
    go (InCounterMode m cipher) = refl
    go (AsStream iv) = refl
    go (AsCode code) = refl

one_behind : (task : Task) → known_behind (method_of task) false ≤ 1
one_behind task = go (method_of task)
  where
    go : (method : Method) → known_behind method false ≤ 1
    go (InCounterMode m cipher) = omega arith
    go (AsStream iv) = omega arith
    go (AsCode code) = omega arith

module _ (task : Task) (N : ℕ) (lines : List (List ℕ)) (o : Outside) (kept : List Bool) (some : 2 ≤ N) (is_task : IsTask task)
    (front : List ℕ) (s : Progress) (left on : Option (List ℕ)) (steps now : ℕ) (b : Stand)
    (so_far : SoFar task N lines front s o.left_before left o.out_before on steps now (at_first o) b) (begun : steps ≤ o.steps_before + start_steps (method_of task)) where
  -- no more was counted than for the last piece
  counted-ends : (piece : List ℕ) → MayEnd (method_of task) (length front) piece → length piece ≤ batch_length task → o.steps_after ≤ now + gates_for s piece true →
      o.steps_after ≤ o.steps_before + most_run_steps task (length (front ++ piece))
  counted-ends piece ends few more =
      omega (arith, begun, counted-last task N lines front piece s (at_first o) b so_far.behind so_far.whole few ends steps now o.steps_after so_far.counted more)

  -- the piece was taken behind whole batches
  takes : (piece : List ℕ) (status : Status) → Consumes left o.left_after piece → Streams task N lines (front ++ piece) o status →
      o.steps_after ≤ o.steps_before + most_run_steps task (length (front ++ piece)) → TakesMessage task N lines o status
  takes piece status taken streams few = record {
    bytes = front ++ piece;
    taken = Consumes-trans o.left_before left o.left_after front piece so_far.taken taken;
    streams = streams;
    counted = few;
  }

  goes_on : (piece : List ℕ) → MayEnd (method_of task) (length front) piece → plan task (front ++ piece) ≡ fed_steps (method_of task) front ++ next_steps s piece true
  goes_on piece ends = plan-goes_on task N lines front piece s (at_first o) b so_far.behind so_far.whole ends

  -- THE LAST PIECE

  module _ (piece : List ℕ) (s' : Progress) (ends : MayEnd (method_of task) (length front) piece) (long : length (joined lines) ≡ key_bytes task)
      (evaluated : Evaluated N s s' piece true b (at_last kept o)) (took : HasTaken s s' piece true) where
    behind-whole : Behind task N lines (fed_steps (method_of task) front ++ next_steps s piece true) (length (front ++ piece)) s' (at_first o) (at_last kept o)
    behind-whole = behind-more task N lines front piece true s (at_first o) b so_far.behind so_far.whole s' (at_last kept o) evaluated took

    ran-whole : RanAll task N lines (front ++ piece) o
    ran-whole = ran_all task is_task N lines (front ++ piece) _ _ s' o kept some (sym (goes_on piece ends)) behind-whole

    output-whole : output task (joined lines) (front ++ piece) ≡ fed_output task (joined lines) front ++ next_output s piece true
    output-whole = output-goes_on task N lines front piece s (at_first o) b so_far.behind so_far.whole is_task long ends

    -- a part of the whole output
    part-written : AppendsProperPrefix on o.out_after (next_output s piece true) → AppendsProperPrefix o.out_before o.out_after (output task (joined lines) (front ++ piece))
    part-written written = rw output-whole (part-behind o.out_before on o.out_after (fed_output task (joined lines) front) (next_output s piece true) so_far.written written)

    module _ (taken : Consumes left o.left_after piece) (at_end : IsAtEnd o.left_after) (few : length piece ≤ batch_length task) (more : o.steps_after ≡ now + gates_for s piece true) where
      -- the message has ended
      pub finishes : Appends on o.out_after (next_output s piece true) → TakesMessage task N lines o Done
      finishes written =
          takes piece Done taken
          (done task N lines (front ++ piece) o
          (record {
            at_end = at_end;
            within = behind-whole.within;
            written = rw output-whole (Appends-trans o.out_before on o.out_after (fed_output task (joined lines) front) (next_output s piece true) so_far.written written);
            ran = ran-whole;
            drawn = all-drawn task N (front ++ piece) ran-whole.part.ran.fresh (at_first o) (at_last ran-whole.kept o) some refl ran-whole.part.ran.drew;
          }))
          (counted-ends piece ends few (omega arith))

      -- writing failed
      cuts_off : IsCipher (method_of task) → AppendsProperPrefix on o.out_after (next_output s piece true) → TakesMessage task N lines o WriteFault
      cuts_off cipher written =
          takes piece WriteFault taken
          (to_cipher task cipher N lines (front ++ piece) o WriteFault
          (record { whole = inr at_end; within = behind-whole.within; written = part-written written; ran = ran-whole }))
          (counted-ends piece ends few (omega arith))

      pub cuts_tag : (IsCipher (method_of task) → ⊥) → AppendsProperPrefix on o.out_after (next_output s piece true) → TakesMessage task N lines o WriteFault
      cuts_tag tag written =
          takes piece WriteFault taken
          (to_tag task tag N lines (front ++ piece) o WriteFault
          (record { at_end = at_end; within = behind-whole.within; written = part-written written; ran = ran-whole }))
          (counted-ends piece ends few (omega arith))

  -- BROKEN OFF

  -- the steps of whole batches are the first of the run
  front-ran : (bytes : List ℕ) (rest : List Step) → plan task bytes ≡ fed_steps (method_of task) front ++ rest → at_last kept o ≡ b →
      RanSteps task N lines bytes (length (fed_steps (method_of task) front)) o
  front-ran bytes rest are idle = record {
    kept = kept;
    part = rw are
        (runs_join.stops N (with_lines task lines) (fed_steps (method_of task) front) rest (length (fed_steps (method_of task) front)) (at_first o) (at_last kept o)
        (runs_join.whole N (with_lines task lines) s.held (fed_steps (method_of task) front) (at_first o) (at_last kept o)
        (subst (Ran N (with_lines task lines) (fed_steps (method_of task) front) s.held (at_first o)) (sym idle) so_far.behind.ran)));
    private = runs_are_private N task is_task bytes (length (fed_steps (method_of task) front)) some;
  }

  -- the tape failed for a piece whose steps follow those of the batches, whatever comes behind it
  module _ (piece bytes : List ℕ) (last : Bool) (later : List Step) (are : plan task bytes ≡ fed_steps (method_of task) front ++ (next_steps s piece last ++ later))
      (stop : Interrupted N s piece last o.wanted now o.steps_after b (at_last kept o)) where
    abbrev stopped-at : ℕ
    stopped-at = length (fed_steps (method_of task) front) + stop.count

    follow : drop stop.count (next_steps s piece last ++ later) ≡ stop.next ++ (stop.later ++ later)
    follow =
        drop-append-le stop.count (next_steps s piece last) later stop.ran.within
        ∙ ap (λ (steps : List Step). steps ++ later) stop.follow
        ∙ append_assoc stop.next stop.later later

    fit : bits_of N (take stopped-at (plan task bytes)) + bits_of N stop.next ≤ bits_of N (plan task bytes)
    fit = steps-left N (fed_steps (method_of task) front) (next_steps s piece last ++ later) (plan task bytes) are stop.count stop.next (stop.later ++ later) follow

    stopped-part : RanPart N (with_lines task lines) (plan task bytes) stopped-at (at_first o) (at_last kept o)
    stopped-part =
        rw are
        (subst (λ (steps : List Step). RanPart N (with_lines task lines) steps stopped-at (at_first o) (at_last kept o))
        (append_assoc (fed_steps (method_of task) front) (next_steps s piece last) later)
        (runs_join.stops N (with_lines task lines) (fed_steps (method_of task) front ++ next_steps s piece last) later stopped-at (at_first o) (at_last kept o)
        (runs_join.part N (with_lines task lines) s.held (fed_steps (method_of task) front) (next_steps s piece last) stop.count (at_first o) b (at_last kept o) so_far.behind.ran stop.ran)))

    ran-stopped : RanSteps task N lines bytes stopped-at o
    ran-stopped = record { kept = kept; part = stopped-part; private = runs_are_private N task is_task bytes stopped-at some }

    wanted-in-all : length ran-stopped.part.ran.fresh + o.wanted ≤ bytes_for (total task (pred N) (length bytes))
    unfolding ran-stopped
    wanted-in-all =
        rw (← run-bits task N bytes some)
        (wanted-within _ (bits_of N stop.next) _ stopped-part.ran.fresh o.wanted (at_first o) (at_last kept o) refl stopped-part.ran.drew stop.wants stop.some fit)

    due-are : length (ahead s last) ≡ length (methods.ahead (method_of task) (length front) last)
    due-are = ap₂ (λ (t : Task) (n : ℕ). length (methods.ahead (method_of t) n last)) so_far.behind.task_is so_far.behind.fed_is

  -- A CIPHERTEXT

  module _ (cipher : IsCipher (method_of task)) where
    -- the message may end behind any bytes
    ends : (piece : List ℕ) → MayEnd (method_of task) (length front) piece
    ends piece = ciphers_go_on.ends task cipher (length front) piece

    counted : (piece : List ℕ) (last : Bool) → length piece ≤ batch_length task → (last ≡ false → length piece ≡ batch_length task) →
        o.steps_after ≤ now + gates_for s piece last → o.steps_after ≤ o.steps_before + most_run_steps task (length (front ++ piece))
    counted piece true few all more = counted-ends piece (ends piece) few more
    counted piece false few all more =
        omega (
          arith,
          begun,
          counted-fed task N lines front piece s (at_first o) b so_far.behind so_far.whole (all refl) steps now o.steps_after so_far.counted more,
          gates_go_on.fewer task cipher (length (front ++ piece)),
        )

    -- nothing was counted behind whole batches
    uncounted : (piece : List ℕ) → length piece ≤ batch_length task → o.steps_after ≡ now → o.steps_after ≤ o.steps_before + most_run_steps task (length (front ++ piece))
    uncounted piece few same = counted-ends piece (ends piece) few (omega arith)

    -- writing failed behind a batch
    cuts_off_between : (piece : List ℕ) (s' : Progress) → length piece ≡ batch_length task → length (joined lines) ≡ key_bytes task →
        Consumes left o.left_after piece → o.steps_after ≡ now + gates_for s piece false → Evaluated N s s' piece false b (at_last kept o) → HasTaken s s' piece false →
        AppendsProperPrefix on o.out_after (next_output s piece false) → TakesMessage task N lines o WriteFault
    cuts_off_between piece s' all long taken more evaluated took written =
        let behind = behind-more task N lines front piece false s (at_first o) b so_far.behind so_far.whole s' (at_last kept o) evaluated took in
        let are : fed_steps (method_of task) front ++ next_steps s piece false ≡ plan task (front ++ piece)
        = sym (fed_steps-go_on task N lines front piece s (at_first o) b so_far.behind so_far.whole all) ∙ ciphers_go_on.steps task cipher (front ++ piece) in
        takes piece WriteFault taken
        (to_cipher task cipher N lines (front ++ piece) o WriteFault
        (record {
          whole = inl (rw (length-append front piece) (batches-more task (length front) (length piece) so_far.whole all));
          within = behind.within;
          written = rw (← ciphers_go_on.output task cipher (joined lines) (front ++ piece), fed_output-goes_on task N lines front piece s (at_first o) b so_far.behind so_far.whole is_task long all)
              (part-behind o.out_before on o.out_after (fed_output task (joined lines) front) (next_output s piece false) so_far.written written);
          ran = ran_all task is_task N lines (front ++ piece) _ _ s' o kept some are behind;
        }))
        (counted piece false (omega arith) (λ last. all) (omega arith))

    -- writing failed, whichever it was
    pub cuts_off_at : (piece : List ℕ) (last : Bool) (s' : Progress) → (last ≡ true → IsAtEnd o.left_after) → (last ≡ false → length piece ≡ batch_length task) →
        length piece ≤ batch_length task → length (joined lines) ≡ key_bytes task → Consumes left o.left_after piece →
        o.steps_after ≡ now + gates_for s piece last → Evaluated N s s' piece last b (at_last kept o) → HasTaken s s' piece last →
        AppendsProperPrefix on o.out_after (next_output s piece last) → TakesMessage task N lines o WriteFault
    cuts_off_at piece true s' at_end all few long taken more evaluated took written =
        cuts_off piece s' (ends piece) long evaluated took taken (at_end refl) few more cipher written
    cuts_off_at piece false s' at_end all few long taken more evaluated took written =
        cuts_off_between piece s' (all refl) long taken more evaluated took written

    -- nothing was taken behind whole batches
    wrote_batches : (piece : List ℕ) → on ≡ o.out_after → at_last kept o ≡ b → WroteBatches task N lines (front ++ piece) front o
    wrote_batches piece unwritten idle = record {
      whole = so_far.whole;
      written = subst (λ (out : Option (List ℕ)). Appends o.out_before out (fed_output task (joined lines) front)) unwritten so_far.written;
      ran = front-ran (front ++ piece) _ (goes_on piece (ends piece)) idle;
    }

    -- reading failed
    pub stops_reading : (piece : List ℕ) → Consumes left o.left_after piece → length piece < batch_length task → on ≡ o.out_after → at_last kept o ≡ b →
        o.steps_after ≡ now → TakesMessage task N lines o ReadFault
    stops_reading piece taken few unwritten idle same =
        takes piece ReadFault taken
        (to_cipher task cipher N lines (front ++ piece) o ReadFault (front, piece, refl, few, wrote_batches piece unwritten idle))
        (uncounted piece (omega arith) same)

    -- there was no memory
    stops_short : (piece : List ℕ) → Consumes left o.left_after piece → length piece ≤ batch_length task → on ≡ o.out_after → at_last kept o ≡ b →
        o.steps_after ≡ now → TakesMessage task N lines o NoMemory
    stops_short piece taken few unwritten idle same =
        takes piece NoMemory taken
        (to_cipher task cipher N lines (front ++ piece) o NoMemory (front, piece, refl, few, wrote_batches piece unwritten idle))
        (uncounted piece few same)

    -- the steps of the piece, the last or not, follow those of the batches
    next-are : (piece : List ℕ) (last : Bool) → (last ≡ false → length piece ≡ batch_length task) →
        plan task (front ++ piece) ≡ fed_steps (method_of task) front ++ next_steps s piece last
    next-are piece true all = goes_on piece (ends piece)
    next-are piece false all =
        sym (ciphers_go_on.steps task cipher (front ++ piece)) ∙ fed_steps-go_on task N lines front piece s (at_first o) b so_far.behind so_far.whole (all refl)

    -- the tape failed
    module _ (piece : List ℕ) (last : Bool) (few : length piece ≤ batch_length task) (all : last ≡ false → length piece ≡ batch_length task)
        (stop : Interrupted N s piece last o.wanted now o.steps_after b (at_last kept o)) where
      are : plan task (front ++ piece) ≡ fed_steps (method_of task) front ++ next_steps s piece last
      are = next-are piece last all

      alone : plan task (front ++ piece) ≡ fed_steps (method_of task) front ++ (next_steps s piece last ++ [])
      alone = are ∙ ap (λ (steps : List Step). fed_steps (method_of task) front ++ steps) (sym (append-nil (next_steps s piece last)))

      -- no bytes have no steps
      nothing : piece ≡ [] → next_steps s piece last ≡ []
      nothing none =
          let same : front ++ piece ≡ front = ap (λ (more : List ℕ). front ++ more) none ∙ append-nil front in
          let whole = ap length (ciphers_go_on.steps task cipher front ∙ ap (plan task) (sym same) ∙ are) in
          nil_from_length (next_steps s piece last)
          (omega (arith, whole, length-append (fed_steps (method_of task) front) (next_steps s piece last)))

      some_came : 1 ≤ length piece
      some_came =
          let count = length (fed_steps (method_of task) front) + stop.count in
          some-wanted N (fed_steps (method_of task) front) (next_steps s piece last) (plan task (front ++ piece)) piece are nothing (bits_of N stop.next)
          (bits_of N (take count (plan task (front ++ piece)))) o.wanted (at_last kept o).kept stop.wants stop.some (fit piece (front ++ piece) last [] alone stop)
          (front-first N (fed_steps (method_of task) front) (next_steps s piece last) (plan task (front ++ piece)) are stop.count)

      ahead-counted : o.steps_after ≤ o.steps_before + most_run_steps task (length (front ++ piece))
      ahead-counted =
          counted piece last few all (omega (arith, stop.counted, gates_go_on.ahead s.task s.fed stop.count piece last (λ is. some_came) stop.few))

      same-ahead : (last : Bool) → methods.ahead (method_of task) (length front) last ≡ due_behind task front
      same-ahead true = refl
      same-ahead false = ciphers_go_on.ahead task cipher (length front)

      fails_to_draw : on ≡ o.out_after → FailsToDraw task N lines (front ++ piece) o
      fails_to_draw unwritten =
          let due : length (ahead s last) ≡ length (due_behind task front)
          = due-are piece (front ++ piece) last [] alone stop ∙ ap length (same-ahead last) in
          record {
            front = front;
            more = piece;
            came = refl;
            whole = so_far.whole;
            some_came = some_came;
            few_came = few;
            written = subst (λ (out : Option (List ℕ)). Appends o.out_before out (fed_output task (joined lines) front)) unwritten so_far.written;
            count = length (fed_steps (method_of task) front) + stop.count;
            ran = ran-stopped piece (front ++ piece) last [] alone stop;
            holds = omega arith;
            few = omega (arith, stop.few);
            wanted = stop.some;
            within = wanted-in-all piece (front ++ piece) last [] alone stop;
          }

    -- the session refused the piece
    pub refused : (piece : List ℕ) (last : Bool) (stop : Stop) → Consumes left o.left_after piece → length piece ≤ batch_length task →
        (last ≡ false → length piece ≡ batch_length task) → on ≡ o.out_after →
        Refuses N s piece last o.wanted now o.steps_after b (at_last kept o) stop → TakesMessage task N lines o (status_of stop)
    refused piece last (stops.TooLong limit) taken few all unwritten stop =
        let is : limit ≡ longest_message task = subst (λ (t : Task). limit ≡ longest_message t) so_far.behind.task_is stop.0 in
        let none : known_behind (method_of s.task) last ≡ 0 = none_known s.task (subst (λ (t : Task). IsCipher (method_of t)) (sym so_far.behind.task_is) cipher) last in
        let over : limit < length front + length piece = omega (arith, stop.1, so_far.behind.fed_is, none) in
        let reached : length front ≡ limit = batches_reach task limit (length front) (length piece) is so_far.whole so_far.behind.within few over in
        let same : take limit (front ++ piece) ≡ front = ap (λ (n : ℕ). take n (front ++ piece)) (sym reached) ∙ take-append_seam front piece in
        takes piece (TooLong limit) taken
        (to_cipher task cipher N lines (front ++ piece) o (TooLong limit)
        (is, rw (length-append front piece) over, rw (length-append front piece) (omega arith), rw same (wrote_batches piece unwritten stop.2)))
        (uncounted piece few stop.3)
    refused piece last stops.TapeFault taken few all unwritten stop =
        takes piece TapeFault taken (to_cipher task cipher N lines (front ++ piece) o TapeFault (fails_to_draw piece last few all stop unwritten)) (ahead-counted piece last few all stop)
    refused piece last stops.NoMemory taken few all unwritten stop = stops_short piece taken few unwritten stop.0 stop.1

  -- A TAG

  module _ (tag : IsCipher (method_of task) → ⊥) where
    unwritten-tag : on ≡ o.out_after → Appends o.out_before o.out_after []
    unwritten-tag same =
        subst (λ (out : Option (List ℕ)). Appends o.out_before out []) same
        (subst (Appends o.out_before on) (no_tag task tag (joined lines) front) so_far.written)

    -- a piece and what comes behind it
    module _ (piece more : List ℕ) (all : length piece ≡ batch_length task) (one : 1 ≤ length more) (few : length more ≤ batch_length task) where
      whole-more : AreBatches (method_of task) (length (front ++ piece))
      whole-more = rw (length-append front piece) (batches-more task (length front) (length piece) so_far.whole all)

      ends-more : MayEnd (method_of task) (length (front ++ piece)) more
      ends-more = may_end task (length (front ++ piece)) more few (λ some. one)

      abbrev last-steps : List Step
      last-steps = methods.next_steps (method_of task) (length (front ++ piece)) more true

      two-pieces : plan task (front ++ (piece ++ more)) ≡ fed_steps (method_of task) front ++ (next_steps s piece false ++ last-steps)
      two-pieces =
          ap (plan task) (sym (append_assoc front piece more))
          ∙ messages_go_on.steps_last task (front ++ piece) more whole-more ends-more
          ∙ ap (λ (steps : List Step). steps ++ last-steps) (fed_steps-go_on task N lines front piece s (at_first o) b so_far.behind so_far.whole all)
          ∙ append_assoc (fed_steps (method_of task) front) (next_steps s piece false) last-steps

      two-counted : o.steps_after ≤ now + gates_for s piece false → o.steps_after ≤ o.steps_before + most_run_steps task (length (front ++ (piece ++ more)))
      two-counted few_steps =
          let fed = counted-fed task N lines front piece s (at_first o) b so_far.behind so_far.whole all steps now o.steps_after so_far.counted few_steps in
          let last = gates_go_on.last task (length (front ++ piece)) more whole-more few ends-more in
          let sum : length (front ++ (piece ++ more)) ≡ length (front ++ piece) + length more
          = ap length (sym (append_assoc front piece more)) ∙ length-append (front ++ piece) more in
          rw sum (omega (arith, begun, fed, last))

    -- the steps of whole pieces are the first of the run on what goes on behind them, and count no more
    module _ (rest : List ℕ) (some_rest : 0 < length front → 0 < length rest) (few : length rest ≤ 2 * batch_length task) where
      plan-begins : (later : List Step) × (plan task (front ++ rest) ≡ fed_steps (method_of task) front ++ later)
      plan-begins = go (cases_lt (batch_length task) (length rest))
        where
          go : (batch_length task < length rest) ⊎ (length rest ≤ batch_length task) → (later : List Step) × (plan task (front ++ rest) ≡ fed_steps (method_of task) front ++ later)
          go (inr within) = (next_steps s rest true, goes_on rest (may_end task (length front) rest within some_rest))
          go (inl over) =
              let k = batch_length task in
              let piece = take k rest in
              let more = drop k rest in
              let size = length-drop k rest in
              let both : piece ++ more ≡ rest = take-append-drop k rest in (
                next_steps s piece false ++ last-steps piece more (length-take-le k rest (omega arith)) (omega arith) (omega arith),
                ap (λ (bytes : List ℕ). plan task (front ++ bytes)) (sym both) ∙ two-pieces piece more (length-take-le k rest (omega arith)) (omega arith) (omega arith),
              )

      held-counted : o.steps_after ≡ now → o.steps_after ≤ o.steps_before + most_run_steps task (length (front ++ rest))
      held-counted same = go (cases_lt (batch_length task) (length rest))
        where
          go : (batch_length task < length rest) ⊎ (length rest ≤ batch_length task) → o.steps_after ≤ o.steps_before + most_run_steps task (length (front ++ rest))
          go (inr within) = counted-ends rest (may_end task (length front) rest within some_rest) within (omega arith)
          go (inl over) =
              let k = batch_length task in
              let size = length-drop k rest in
              subst (λ (bytes : List ℕ). o.steps_after ≤ o.steps_before + most_run_steps task (length (front ++ bytes))) (take-append-drop k rest)
              (two-counted (take k rest) (drop k rest) (length-take-le k rest (omega arith)) (omega arith) (omega arith) (omega arith))

      took_pieces : on ≡ o.out_after → at_last kept o ≡ b → TookPieces task N lines (front ++ rest) front o
      took_pieces unwritten idle = record {
        whole = so_far.whole;
        unwritten = unwritten-tag unwritten;
        ran = front-ran (front ++ rest) plan-begins.0 plan-begins.1 idle;
      }

    -- reading failed
    pub stops_looking : (rest : List ℕ) → Consumes left o.left_after rest → (0 < length front → batch_length task ≤ length rest) → length rest < 2 * batch_length task →
        on ≡ o.out_after → at_last kept o ≡ b → o.steps_after ≡ now → TakesMessage task N lines o ReadFault
    stops_looking rest taken held few unwritten idle same =
        let some_rest : 0 < length front → 0 < length rest = λ some. let least = held some in omega (arith, some_batch task) in
        takes rest ReadFault taken
        (to_tag task tag N lines (front ++ rest) o ReadFault (front, rest, refl, (held, few), took_pieces rest some_rest (omega arith) unwritten idle))
        (held-counted rest some_rest (omega arith) same)

    -- there was no memory
    pub stops_tag : (rest : List ℕ) → Consumes left o.left_after rest → (0 < length front → 0 < length rest) → length rest ≤ 2 * batch_length task →
        on ≡ o.out_after → at_last kept o ≡ b → o.steps_after ≡ now → TakesMessage task N lines o NoMemory
    stops_tag rest taken some_rest few unwritten idle same =
        takes rest NoMemory taken
        (to_tag task tag N lines (front ++ rest) o NoMemory (front, rest, refl, (some_rest, few), took_pieces rest some_rest few unwritten idle))
        (held-counted rest some_rest few same)

    -- the tape failed for a piece, the last or not
    fails_to_tag : (piece rest : List ℕ) (last : Bool) (later : List Step) → plan task (front ++ rest) ≡ fed_steps (method_of task) front ++ (next_steps s piece last ++ later) →
        length rest ≤ cond last 1 2 * batch_length task → on ≡ o.out_after →
        Interrupted N s piece last o.wanted now o.steps_after b (at_last kept o) → FailsToTag task N lines (front ++ rest) o
    fails_to_tag piece rest last later are few unwritten stop = record {
      front = front;
      more = rest;
      last = last;
      came = refl;
      whole = so_far.whole;
      few_came = few;
      unwritten = unwritten-tag unwritten;
      count = length (fed_steps (method_of task) front) + stop.count;
      ran = ran-stopped piece (front ++ rest) last later are stop;
      holds = omega arith;
      few = omega (arith, stop.few, due-are piece (front ++ rest) last later are stop);
      wanted = stop.some;
      within = wanted-in-all piece (front ++ rest) last later are stop;
    }

    ahead-gates : (piece : List ℕ) (last : Bool) → (stop : Interrupted N s piece last o.wanted now o.steps_after b (at_last kept o)) → o.steps_after ≤ now + gates_for s piece last
    ahead-gates piece last stop =
        let no_cipher : IsCipher (method_of s.task) → 1 ≤ length piece = λ is. absurd (tag (subst (λ (t : Task). IsCipher (method_of t)) so_far.behind.task_is is)) in
        omega (arith, stop.counted, gates_go_on.ahead s.task s.fed stop.count piece last no_cipher stop.few)

    -- the session refused the last piece
    refused-last : (piece : List ℕ) (stop : Stop) → Consumes left o.left_after piece → length piece ≤ batch_length task → (0 < length front → 0 < length piece) →
        length front < longest_message task → on ≡ o.out_after →
        Refuses N s piece true o.wanted now o.steps_after b (at_last kept o) stop → TakesMessage task N lines o (status_of stop)
    refused-last piece (stops.TooLong limit) taken few some_piece room unwritten stop =
        let is : limit ≡ longest_message task = subst (λ (t : Task). limit ≡ longest_message t) so_far.behind.task_is stop.0 in
        let none : known_behind (method_of s.task) true ≡ 0 = none_behind_last s.task in
        let over : limit < length front + length piece = omega (arith, stop.1, so_far.behind.fed_is, none) in
        let reached : length front ≡ limit = batches_reach task limit (length front) (length piece) is so_far.whole so_far.behind.within few over in
        absurd (omega arith)
    refused-last piece stops.TapeFault taken few some_piece room unwritten stop =
        let ends = may_end task (length front) piece few some_piece in
        let alone = goes_on piece ends ∙ ap (λ (steps : List Step). fed_steps (method_of task) front ++ steps) (sym (append-nil (next_steps s piece true))) in
        takes piece TapeFault taken
        (to_tag task tag N lines (front ++ piece) o TapeFault (fails_to_tag piece piece true [] alone (omega arith) unwritten stop))
        (counted-ends piece ends few (ahead-gates piece true stop))
    refused-last piece stops.NoMemory taken few some_piece room unwritten stop = stops_tag piece taken some_piece (omega arith) unwritten stop.0 stop.1

    -- and one behind which more comes
    refused-more : (piece more : List ℕ) (stop : Stop) → Consumes left o.left_after (piece ++ more) → length piece ≡ batch_length task → 1 ≤ length more →
        length more ≤ batch_length task → length front < longest_message task → on ≡ o.out_after →
        Refuses N s piece false o.wanted now o.steps_after b (at_last kept o) stop → TakesMessage task N lines o (status_of stop)
    refused-more piece more (stops.TooLong limit) taken all one few room unwritten stop =
        let is : limit ≡ longest_message task = subst (λ (t : Task). limit ≡ longest_message t) so_far.behind.task_is stop.0 in
        let behind : known_behind (method_of s.task) false ≤ 1 = one_behind s.task in
        let fed = so_far.behind.fed_is in
        let sum = length-append piece more in
        let known : limit ≤ length front + length piece = omega (arith, stop.1, behind) in
        let reached : length front + length piece ≡ limit = pieces_fill task limit (length front) (length piece) is so_far.whole all (omega arith) known in
        let total_length = length-append front (piece ++ more) in
        let size : limit - batch_length task ≡ length front = omega arith in
        let same : take (limit - batch_length task) (front ++ (piece ++ more)) ≡ front
        = ap (λ (n : ℕ). take n (front ++ (piece ++ more))) size ∙ take-append_seam front (piece ++ more) in
        takes (piece ++ more) (TooLong limit) taken
        (to_tag task tag N lines (front ++ (piece ++ more)) o (TooLong limit)
        (is, omega arith, omega arith, rw same (took_pieces (piece ++ more) (λ some. omega arith) (omega arith) unwritten stop.2)))
        (held-counted (piece ++ more) (λ some. omega arith) (omega arith) stop.3)
    refused-more piece more stops.TapeFault taken all one few room unwritten stop =
        let sum = length-append piece more in
        takes (piece ++ more) TapeFault taken
        (to_tag task tag N lines (front ++ (piece ++ more)) o TapeFault
        (fails_to_tag piece (piece ++ more) false (last-steps piece more all one few) (two-pieces piece more all one few) (omega arith) unwritten stop))
        (two-counted piece more all one few (ahead-gates piece false stop))
    refused-more piece more stops.NoMemory taken all one few room unwritten stop =
        let sum = length-append piece more in
        stops_tag (piece ++ more) taken (λ some. omega arith) (omega arith) unwritten stop.0 stop.1

    pub refused_tag : (piece more : List ℕ) (last : Bool) (stop : Stop) → Consumes left o.left_after (piece ++ more) → length piece ≤ batch_length task →
        length more ≤ batch_length task → (last ≡ true → more ≡ []) → (0 < length front → 0 < length piece) →
        (last ≡ false → (length piece ≡ batch_length task) × (1 ≤ length more)) → length front < longest_message task → on ≡ o.out_after →
        Refuses N s piece last o.wanted now o.steps_after b (at_last kept o) stop → TakesMessage task N lines o (status_of stop)
    refused_tag piece more true stop taken few few_more none some_piece some_more room unwritten refuses =
        let alone : piece ++ more ≡ piece = ap (λ (bytes : List ℕ). piece ++ bytes) (none refl) ∙ append-nil piece in
        refused-last piece stop (subst (Consumes left o.left_after) alone taken) few some_piece room unwritten refuses
    refused_tag piece more false stop taken few few_more none some_piece some_more room unwritten refuses =
        refused-more piece more stop taken (some_more refl).0 (some_more refl).1 few_more room unwritten refuses

-- the same run, of the task and the lines that the session began with
pub under_task : (task other : Task) (N : ℕ) (lines : List (List ℕ)) (o : Outside) (status : Status) → length lines ≡ N → other ≡ task → TakesMessage other N lines o status →
    TakesMessage task (length lines) lines o status
under_task task other N lines o status many same takes =
    subst (λ (n : ℕ). TakesMessage task n lines o status) (sym many) (subst (λ (t : Task). TakesMessage t N lines o status) same takes)

-- a run that ends before it reads
pub stops_at_start : (task : Task) (N : ℕ) (lines : List (List ℕ)) (o : Outside) → 2 ≤ N → IsTask task → length lines ≡ N →
    values_of (with_lines task lines) ≡ held_at_first task (joined lines) →
    o.left_after ≡ o.left_before → o.out_before ≡ o.out_after → at_last [] o ≡ at_first o → o.steps_after ≤ o.steps_before + start_steps (method_of task) →
    TakesMessage task (length lines) lines o NoMemory
stops_at_start task N lines o some is_task many key unread unwritten idle begun =
    let first : Progress = record { task = task; held = with_lines task lines; fed = 0; closed = None; ended = false; written = 0; outputs = [] } in
    let so_far = so_far-none task N lines first o.left_before o.out_before o.steps_after (at_first o) refl refl key in
    let taken = subst (λ (left : Option (List ℕ)). Consumes o.left_before left []) (sym unread) (Consumes-nil o.left_before) in
    under_task task task N lines o NoMemory many refl (elim (cipher_or_tag task) [
      | inl cipher ↦ stops_short task N lines o [] some is_task [] first o.left_before o.out_before o.steps_after o.steps_after (at_first o) so_far begun cipher
          [] taken (omega arith) unwritten idle refl
      | inr tag ↦ stops_tag task N lines o [] some is_task [] first o.left_before o.out_before o.steps_after o.steps_after (at_first o) so_far begun tag
          [] taken (λ none. none) (omega arith) unwritten idle refl
    ])

-- the status says that the tape failed where the refusal does
pub fault-stop : (stop : Stop) → is_tape_fault (status_of stop) ≡ is_of_tape stop
fault-stop (stops.TooLong limit) = refl
fault-stop stops.TapeFault = refl
fault-stop stops.NoMemory = refl

pub no_read_fault : (stop : Stop) → is_read_fault (status_of stop) ≡ false
no_read_fault (stops.TooLong limit) = refl
no_read_fault stops.TapeFault = refl
no_read_fault stops.NoMemory = refl

pub no_write_fault : (stop : Stop) → is_write_fault (status_of stop) ≡ false
no_write_fault (stops.TooLong limit) = refl
no_write_fault stops.TapeFault = refl
no_write_fault stops.NoMemory = refl
