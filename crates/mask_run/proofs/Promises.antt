-- What the command promises of a key file and an input that tell their bytes, and when each answer comes: for all jobs at once, from how
-- a run ends on the bytes that it took.
use Rattle.std.proofs.Common.{◌≡◌, ◌⊎◌, ℕ, ◌+◌, ◌<◌, ◌≤◌, ◌^◌, Bool, true, List, [], ◌∷◌, length, None, Some, refl, sym, ap, ◌∙◌, subst, inl, inr, arith}
use Rattle.std.proofs.lemmas.List.{append-nil, length-append}
use Rattle.std.specs.declared.option.Option.{Option}
use Rattle.std.specs.Io.KnownBytes.{Consumes, IsAtEnd}
use Rattle.mask_io.specs.Outside.{counted, faults_after, Rose}
use Rattle.mask_circuit.specs.Netlist.{Netlist}
use Rattle.mask_text.specs.Text.{IsTextOf}
use Rattle.mask_keys.specs.declared.files.KeyLength.{KeyLength}
use Rattle.mask_words.specs.WordTests.{Word}
use Rattle.mask_words.specs.Jobs.{HasOrder}
use Rattle.mask_words.specs.declared.table.Job.{Job}
use Rattle.mask_words.specs.declared.table.Job.TheVariants as jobs
use Rattle.mask_status.specs.declared.status.Status.{Status}
use Rattle.mask_status.specs.declared.status.Status.TheVariants.{Done, TooLong, KeyFault, ReadFault, TapeFault, WriteFault, NoMemory}
use Rattle.mask_inspect.specs.Checks.{Check, FirstFailure}
use Rattle.mask_inspect.specs.Ends.{Ends, Long, Fails, Does, Breaks}
use Rattle.mask_inspect.specs.Laws.{FirstFailureIsOne, NoneFailsWhereAllPass, TextIsOne}
use Rattle.mask_keys.specs.Laws.{KeyFileOrFault}
use Rattle.mask_secrets.specs.Laws.{KeysDecide}
use Rattle.mask_secrets.proofs.Deciding.{keys-decide}
use Rattle.mask_message.specs.Outside.{Outside}
use Rattle.mask_run.specs.Promises.{Kind, OnCircuit, OnKeys, OnWords, kind_of, EndsOn, Costs, Asks, PassesLimit, IsWithinLimit, IsDue, earlier, CanBeDone, ReadsCircuit, ReadsAll, OneOf, DrawsNothingOn, most_steps_of}
use Rattle.mask_run.proofs.Statuses.{IsLate, DoesLate}

-- THE BYTES OF AN INPUT THAT TELLS THEM

-- bytes that were taken are no more than there were, and all of them where nothing is left
longer : (text bytes : List ℕ) (now : Option (List ℕ)) → Consumes (Some text) now bytes → length bytes ≤ length text
longer text bytes None taken = absurd taken
longer text bytes (Some rest) taken = rw taken (omega (arith, length-append bytes rest))

whole : (text bytes : List ℕ) (now : Option (List ℕ)) → Consumes (Some text) now bytes → IsAtEnd now → (bytes ≡ text) × (now ≡ Some [])
whole text bytes None taken end = absurd taken
whole text bytes (Some rest) taken end = (sym (taken ∙ rw end (append-nil bytes)), ap Some end)

-- A JOB ON A CIRCUIT

pub IsOnCircuit : Kind → Type 0
IsOnCircuit (OnCircuit checks cost bits Did) = Unit {0}
IsOnCircuit kind = ⊥

pub on_circuit : (job : Job) (words : List Word) → ReadsCircuit job → IsOnCircuit (kind_of job words)
unfolding IsOnCircuit
on_circuit (jobs.Eval order) words h = tt
on_circuit jobs.Check words h = tt
on_circuit jobs.Upgrade words h = tt
on_circuit (jobs.Probe order) words h = tt
on_circuit job words h = absurd h

module _ (o : Outside) (text bytes : List ℕ) (taken : Consumes (Some text) o.left_after bytes) where
  Ends-told : (checks : List Check) (Did : List ℕ → Status → Type 0) (status : Status) →
      Ends (2 ^ 25) checks (Did bytes) bytes o.left_after status → Ends (2 ^ 25) checks (Did text) text o.left_after status
  Ends-told checks Did status ends = go ends
    where
      all : IsAtEnd o.left_after → Ends (2 ^ 25) checks (Did bytes) bytes o.left_after status → Ends (2 ^ 25) checks (Did text) text o.left_after status
      all end = subst (λ (b : List ℕ). Ends (2 ^ 25) checks (Did b) b o.left_after status) (whole text bytes o.left_after taken end).0

      go : Ends (2 ^ 25) checks (Did bytes) bytes o.left_after status → Ends (2 ^ 25) checks (Did text) text o.left_after status
      go (Long e long) = Long e (omega (arith, long, longer text bytes o.left_after taken))
      go (Fails end within h) = all end (Fails end within h)
      go (Does end within pass did) = all end (Does end within pass did)
      go (Breaks h) = Breaks h

  pub EndsOn-told : (kind : Kind) (keys : List ℕ) (status : Status) → IsOnCircuit kind → EndsOn kind o keys bytes status → EndsOn kind o [] text status
  unfolding IsOnCircuit
  EndsOn-told (OnCircuit checks cost bits Did) keys status is ends = Ends-told checks (Did o) status ends
  EndsOn-told kind keys status is ends = absurd is

  Ends-all : (checks : List Check) (Did : Status → Type 0) (status : Status) → ReadsAll status → Ends (2 ^ 25) checks Did bytes o.left_after status → o.left_after ≡ Some []
  Ends-all checks Did status h (Long e long) = absurd (subst ReadsAll e h)
  Ends-all checks Did status h (Fails end within f) = (whole text bytes o.left_after taken end).1
  Ends-all checks Did status h (Does end within pass did) = (whole text bytes o.left_after taken end).1
  Ends-all checks Did status h (Breaks (inl e)) = absurd (subst ReadsAll e h)
  Ends-all checks Did status h (Breaks (inr e)) = absurd (subst ReadsAll e h)

  pub nothing_left : (kind : Kind) (keys : List ℕ) (status : Status) → IsOnCircuit kind → ReadsAll status → EndsOn kind o keys bytes status → o.left_after ≡ Some []
  unfolding IsOnCircuit
  nothing_left (OnCircuit checks cost bits Did) keys status is h ends = Ends-all checks (Did o bytes) status h ends
  nothing_left kind keys status is h ends = absurd is

  module _ (texts : TextIsOne) (c : Netlist) (is_text : IsTextOf text c) where
    -- the circuit that was read
    read_is : (d : Netlist) → IsAtEnd o.left_after → IsTextOf bytes d → d ≡ c
    read_is d end there =
        texts text d c (subst (λ (b : List ℕ). IsTextOf b d) (whole text bytes o.left_after taken end).0 there) is_text

    pub same-idle : (kind : Kind) (same : Type 0) → Asks kind same o bytes → DrawsNothingOn kind c → same
    same-idle (OnCircuit checks cost bits Did) same (inl here) none = here
    same-idle (OnCircuit checks cost bits Did) same (inr asked) none =
        let e : bits asked.0 ≡ bits c = ap bits (read_is asked.0 asked.1.at_end asked.1.is_text) in
        let some = asked.2 in absurd (omega arith)
    same-idle kind same asks none = absurd none

    pub steps-bound : (kind : Kind) → IsOnCircuit kind → Costs kind o bytes → o.steps_after ≤ o.steps_before + most_steps_of kind c
    unfolding IsOnCircuit
    steps-bound (OnCircuit checks cost bits Did) is (inl none) = omega arith
    steps-bound (OnCircuit checks cost bits Did) is (inr read) =
        subst (λ (d : Netlist). o.steps_after ≤ o.steps_before + cost d) (read_is read.0 read.1.at_end read.1.is_text) read.2
    steps-bound kind is costs = absurd is

-- WHEN EACH ANSWER COMES

-- as many lines as shares
pub HasLines : Kind → Type 0
HasLines (OnKeys count asked limit cost Did) = (1 ≤ count) × (count ≤ 8)
HasLines kind = Unit {0}

pub has_lines : (job : Job) (words : List Word) → HasOrder job → HasLines (kind_of job words)
unfolding HasLines
has_lines (jobs.Enc task order) words h = let few = h.1 in (omega arith, omega arith)
has_lines (jobs.Mac task order) words h = let few = h.1 in (omega arith, omega arith)
has_lines (jobs.Split order) words h = (omega arith, omega arith)
has_lines (jobs.Join order) words h = let few = h.1 in (omega arith, omega arith)
has_lines (jobs.Eval order) words h = tt
has_lines jobs.Check words h = tt
has_lines jobs.Upgrade words h = tt
has_lines (jobs.Probe order) words h = tt
has_lines (jobs.Emit circuit) words h = tt
has_lines (jobs.SelfRun seed count order) words h = tt

module _ (one : FirstFailureIsOne) (none : NoneFailsWhereAllPass) (checks : List Check) (Did : Status → Type 0) (text : List ℕ) (rest : Option (List ℕ))
    (status : Status) where
  Ends-answers : (due : Status) → Ends (2 ^ 25) checks Did text rest status →
      ((2 ^ 25 < length text) × (due ≡ TooLong (2 ^ 25))) ⊎ ((length text ≤ 2 ^ 25) × FirstFailure checks text due) → OneOf status (due ∷ ReadFault ∷ NoMemory ∷ [])
  Ends-answers due (Long e long) (inl more) = inl (e ∙ sym more.1)
  Ends-answers due (Long e long) (inr fails) = let within = fails.0 in absurd (omega arith)
  Ends-answers due (Fails end within h) (inl more) = let long = more.0 in absurd (omega arith)
  Ends-answers due (Fails end within h) (inr fails) = inl (one checks text status due h fails.1)
  Ends-answers due (Does end within pass did) (inl more) = let long = more.0 in absurd (omega arith)
  Ends-answers due (Does end within pass did) (inr fails) = absurd (none checks text due pass fails.1)
  Ends-answers due (Breaks (inl read)) is = inr (inl read)
  Ends-answers due (Breaks (inr memory)) is = inr (inr (inl memory))

-- behind a key file in form, where the message passes its limit
Late-answers : (limit : ℕ) (text bytes : List ℕ) (rest : Option (List ℕ)) (due status : Status) → Consumes (Some text) rest bytes → PassesLimit (Some limit) text due →
    IsLate (Some limit) bytes rest status → OneOf status (due ∷ KeyFault ∷ ReadFault ∷ TapeFault ∷ WriteFault ∷ NoMemory ∷ [])
Late-answers limit text bytes rest due Done taken passes h =
    let long = passes.0 in let within = h.1 in absurd (omega (arith, ap length (whole text bytes rest taken h.0).0))
Late-answers limit text bytes rest due (TooLong most) taken passes h = let is = h.0 in let same : most ≡ limit = cc in inl (ap TooLong same ∙ sym passes.1)
Late-answers limit text bytes rest due ReadFault taken passes h = inr (inr (inl refl))
Late-answers limit text bytes rest due TapeFault taken passes h = inr (inr (inr (inl refl)))
Late-answers limit text bytes rest due WriteFault taken passes h = inr (inr (inr (inr (inl refl))))
Late-answers limit text bytes rest due NoMemory taken passes h = inr (inr (inr (inr (inr (inl refl)))))
Late-answers limit text bytes rest due status taken passes h = absurd h

module _ (decides : KeyFileOrFault) (o : Outside) (file keys text bytes : List ℕ) (keys_taken : Consumes (Some file) o.keys_after keys)
    (taken : Consumes (Some text) o.left_after bytes) (status : Status) where
  decided : (count : ℕ) (asked : KeyLength) → (1 ≤ count) × (count ≤ 8) → (Did : Outside → List (List ℕ) → List ℕ → Status → Type 0) →
      KeysDecide count asked (λ lines s. Did o lines bytes s)
  decided count asked few Did = keys-decide decides count asked few.0 few.1 (λ lines s. Did o lines bytes s)

  pub answers : (one : FirstFailureIsOne) (none : NoneFailsWhereAllPass) (kind : Kind) (due : Status) → HasLines kind → DoesLate kind →
      EndsOn kind o keys bytes status → IsDue kind file text due → OneOf status (due ∷ earlier kind)
  unfolding HasLines
  answers one none (OnCircuit checks cost bits Did) due lines late ends is =
      Ends-answers one none checks (Did o text) text o.left_after status due (Ends-told o text bytes taken checks (Did o) status ends) is
  answers one none (OnKeys count asked None cost Did) due lines late ends (inl is) =
      elim ((decided count asked lines Did).due file keys o.keys_after status due keys_taken ends is) [
        | inl e ↦ inl e
        | inr e ↦ inr (inl e)
      ]
  answers one none (OnKeys count asked None cost Did) due lines late ends (inr is) = absurd is.1
  answers one none (OnKeys count asked (Some limit) cost Did) due lines late ends (inl is) =
      elim ((decided count asked lines Did).due file keys o.keys_after status due keys_taken ends is) [
        | inl e ↦ inl e
        | inr e ↦ inr (inl e)
      ]
  answers one none (OnKeys count asked (Some limit) cost Did) due lines late ends (inr is) =
      elim ((decided count asked lines Did).done file keys o.keys_after status keys_taken ends is.0) [
        | inl did ↦ Late-answers limit text bytes o.left_after due status taken is.1 (late o did.0 bytes status did.2)
        | inr e ↦ inr (inl e)
      ]
  answers one none (OnWords cost Did) due lines late ends is = absurd is

  module _ (no_key : status ≡ KeyFault → ⊥) (no_read : status ≡ ReadFault → ⊥) (no_tape : status ≡ TapeFault → ⊥) (no_write : status ≡ WriteFault → ⊥) where
    -- what was done whole is done
    late-done : (limit : Option ℕ) (s : Status) → status ≡ s → IsWithinLimit limit text → IsLate limit bytes o.left_after s → (status ≡ Done) ⊎ (status ≡ NoMemory)
    late-done limit Done e within h = inl e
    late-done None (TooLong most) e within h = let is = h.0 in absurd (cc)
    late-done (Some limit) (TooLong most) e within h =
        let is = h.0 in let long = h.1 in let same : limit ≡ most = cc in absurd (omega (arith, longer text bytes o.left_after taken))
    late-done limit ReadFault e within h = absurd (no_read e)
    late-done limit TapeFault e within h = absurd (no_tape e)
    late-done limit WriteFault e within h = absurd (no_write e)
    late-done limit NoMemory e within h = inr e
    late-done limit s e within h = absurd h

    pub complete : (none : NoneFailsWhereAllPass) (kind : Kind) → HasLines kind → DoesLate kind → CanBeDone kind file text → EndsOn kind o keys bytes status →
        (status ≡ Done) ⊎ (status ≡ NoMemory)
    unfolding HasLines
    complete none (OnCircuit checks cost bits Did) lines late can (Long e long) =
        let within = can.0 in absurd (omega (arith, longer text bytes o.left_after taken))
    complete none (OnCircuit checks cost bits Did) lines late can (Fails end within h) =
        absurd (none checks text status can.1 (subst (λ (b : List ℕ). FirstFailure checks b status) (whole text bytes o.left_after taken end).0 h))
    complete none (OnCircuit checks cost bits Did) lines late can (Does end within pass did) = late-done None status refl tt (late o bytes status did)
    complete none (OnCircuit checks cost bits Did) lines late can (Breaks (inl read)) = absurd (no_read read)
    complete none (OnCircuit checks cost bits Did) lines late can (Breaks (inr memory)) = inr memory
    complete none (OnKeys count asked limit cost Did) lines late can ends =
        elim ((decided count asked lines Did).done file keys o.keys_after status keys_taken ends can.0) [
          | inl did ↦ late-done limit status refl can.1 (late o did.0 bytes status did.2)
          | inr e ↦ absurd (no_key e)
        ]
    complete none (OnWords cost Did) lines late can ends = late-done None status refl tt (late o bytes status ends)

-- a count that a fault raised rose
pub raised : (failed : Bool) (before now : ℕ) → now ≡ faults_after failed before → failed ≡ true → Rose before now
raised failed before now counts is = let now_is : now ≡ counted before = rw is at counts in omega arith
