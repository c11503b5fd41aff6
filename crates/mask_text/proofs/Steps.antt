-- What the words of a line make of a draft, and what that says of the whole text.
use Rattle.std.proofs.Common.{◌≡◌, ℕ, ◌+◌, Bool, true, false, List, [], ◌∷◌, Option, Some, None, Result, Ok, Err, refl, sym, ap, ◌∙◌}
use Rattle.std.specs.Prelude.{IsSome}
use Rattle.std.specs.Option.{option_map}
use Rattle.std.proofs.lemmas.Bool.{cond-true, cond-false, false≢true}
use Rattle.mask_circuit.specs.Text.{Line, First, Second, Inputs, Input, Makes, Output, Out, End}
use Rattle.mask_text.specs.declared.errors.Stop.{Stop}
use Rattle.mask_text.specs.declared.errors.Stop.TheVariants.{Faulty, NoMemory}
use Rattle.mask_text.specs.declared.reader.Reader.{Reader}
use Rattle.mask_text.specs.Readers.{draft_of, GivesDraft, GivesStep, TellsFault, error_at}
use Rattle.mask_text.specs.declared.section.Section.{Section}
use Rattle.mask_text.specs.declared.section.Section.TheVariants.{Start, Size, Plain, Named, Ended}
use Rattle.mask_text.specs.declared.errors.Reason.{Reason}
use Rattle.mask_text.specs.declared.errors.Reason.TheVariants.{NoEnd}
use Rattle.mask_text.specs.Lines.{text_lines, words, is_passed_over}
use Rattle.mask_text.specs.Sayings.{said}
use Rattle.mask_text.specs.Says.{HasNameInForm}
use Rattle.mask_text.specs.Faults.{Draft, Fault, fault_at, at_end, going_on, step, unless_unsaid, unless_misplaced, unless_wrong, goes_on, wrong, misplaced, read_from, reading, at_start, error_of, fault}
use Rattle.mask_text.proofs.Meanings.{IsSmall, said-takes}

pub step_over : (d : Draft) (ws : List (List ℕ)) → is_passed_over ws ≡ true → step d ws ≡ Ok d
unfolding step
step_over d ws over = cond-true _ _ _ over

module _ (d : Draft) (ws : List (List ℕ)) (counts : is_passed_over ws ≡ false) where
  pub step_unsaid : said ws ≡ None → step d ws ≡ Err (misplaced d.section)
  unfolding step
  step_unsaid s = cond-false _ _ _ counts ∙ ap (unless_unsaid d) s

  pub step_misplaced : (line : Line) → said ws ≡ Some line → goes_on d.section d.so_far line ≡ None → step d ws ≡ Err (misplaced d.section)
  unfolding step
  step_misplaced line s g = cond-false _ _ _ counts ∙ ap (unless_unsaid d) s ∙ ap (unless_misplaced d line) g

  pub step_on : (line : Line) (next : Draft) → said ws ≡ Some line → goes_on d.section d.so_far line ≡ Some next → step d ws
      ≡ unless_wrong next (wrong d.so_far line)
  unfolding step
  step_on line next s g = cond-false _ _ _ counts ∙ ap (unless_unsaid d) s ∙ ap (unless_misplaced d line) g

  pub step_wrong : (line : Line) (next : Draft) (reason : Reason) → said ws ≡ Some line → goes_on d.section d.so_far line ≡ Some next
      → wrong d.so_far line ≡ Some reason → step d ws ≡ Err reason
  step_wrong line next reason s g w = step_on line next s g ∙ ap (unless_wrong next) w

  pub step_right : (line : Line) (next : Draft) → said ws ≡ Some line → goes_on d.section d.so_far line ≡ Some next
      → wrong d.so_far line ≡ None → step d ws ≡ Ok next
  step_right line next s g w = step_on line next s g ∙ ap (unless_wrong next) w

pub none_left : {A : Type 0} (o : Option A) (b : Bool) → b ≡ false → b ≡ Rattle.std.specs.Prelude.is_some o → o ≡ None
none_left None b e f = refl
none_left (Some x) b e f = absurd (false≢true (sym e ∙ f))

pub some_left : {A : Type 0} (o : Option A) → IsSome o → (x : A) × (o ≡ Some x)
some_left None h = absurd (false≢true h)
some_left (Some x) h = (x, refl)

-- the name of a line that was said is in form
pub in_form : (ws : List (List ℕ)) (line : Line) → said ws ≡ Some line → HasNameInForm line
in_form ws line s = by line (said-takes ws line s).1
  where
    by : (line : Line) → IsSmall line → HasNameInForm line
    by First h = tt
    by Second h = tt
    by (Inputs n) h = tt
    by (Input name n) h = h.0
    by (Makes gate) h = tt
    by (Output name n) h = h.0
    by (Out u) h = tt
    by End h = tt

pub read_start : (text : List ℕ) → read_from at_start 1 (text_lines text) ≡ reading text
unfolding reading
read_start text = refl

-- the lines read so far leave these, of which the first has number n
module _ (text : List ℕ) (d : Draft) (n : ℕ) (lines : List (List ℕ)) (same : read_from d n lines ≡ reading text) where
  pub read_more : (line : List ℕ) (rest : List (List ℕ)) (next : Draft) → lines ≡ line ∷ rest → step d (words line) ≡ Ok next
      → read_from next (n + 1) rest ≡ reading text
  unfolding read_from
  read_more line rest next e s =
      sym (ap (read_from d n) e ∙ ap (going_on n (λ next. read_from next (n + 1) rest)) s) ∙ same

  pub read_fault : (line : List ℕ) (rest : List (List ℕ)) (reason : Reason) → lines ≡ line ∷ rest → step d (words line) ≡ Err reason
      → fault text ≡ Some (fault_at n reason)
  unfolding read_from fault
  read_fault line rest reason e s =
      ap error_of (sym same ∙ ap (read_from d n) e ∙ ap (going_on n (λ next. read_from next (n + 1) rest)) s)

  pub read_none : lines ≡ [] → (d.section ≡ Ended → ⊥) → fault text ≡ Some (fault_at n NoEnd)
  unfolding read_from fault
  read_none e open_still = ap error_of (sym same ∙ ap (read_from d n) e ∙ by d.section open_still)
    where
      by : (p : Section) → (p ≡ Ended → ⊥) → at_end p d.so_far n ≡ Err (fault_at n NoEnd)
      by Start h = refl
      by Size h = refl
      by Plain h = refl
      by Named h = refl
      by Ended h = absurd (h refl)

  pub read_done : lines ≡ [] → d.section ≡ Ended → reading text ≡ Ok d.so_far
  unfolding read_from
  read_done e ended = sym (sym (ap (λ (p : Section). at_end p d.so_far n) ended) ∙ sym (ap (read_from d n) e) ∙ same)

-- a draft that was made is what the step makes
pub gives_step : (result : Result (Unit {0}) Stop) (reader : Reader) (draft : Option Draft) (step : Result Draft Reason)
    → ((next : Draft) → draft ≡ Some next → step ≡ Ok next) → GivesDraft result reader draft → GivesStep result reader step
gives_step (Ok done) reader draft step right gives = (right (draft_of reader) gives.0, gives.1)
gives_step (Err (Faulty reason)) reader draft step right gives = absurd gives
gives_step (Err NoMemory) reader draft step right gives = tt

-- what is wrong with a line is the fault of the text
pub tells_fault : (stop : Stop) (reader : Reader) (step : Result Draft Reason) (n : ℕ) (found : Option Fault)
    → ((reason : Reason) → step ≡ Err reason → found ≡ Some (fault_at n reason)) → GivesStep (Err stop) reader step
    → TellsFault (error_at n stop) found
tells_fault (Faulty reason) reader step n found faulty gives = faulty reason gives
tells_fault NoMemory reader step n found faulty gives = tt
