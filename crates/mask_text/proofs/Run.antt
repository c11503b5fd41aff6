-- Reading without the numbers of the lines: over the words of the lines that count.
use Rattle.std.proofs.Common.{◌≡◌, ℕ, ◌+◌, Bool, true, false, cond, List, [], ◌∷◌, Option, Some, None, Result, Ok, Err, refl, ap, ◌∙◌}
use Rattle.mask_circuit.specs.Labels.{LabelledNetlist}
use Rattle.mask_circuit.specs.Text.{Line}
use Rattle.mask_text.specs.declared.section.Section.{Section}
use Rattle.mask_text.specs.declared.section.Section.TheVariants.{Start, Size, Plain, Named, Ended}
use Rattle.mask_text.specs.declared.errors.Reason.{Reason}
use Rattle.mask_text.specs.Lines.{words, is_passed_over, kept}
use Rattle.mask_text.specs.Sayings.{said}
use Rattle.mask_text.specs.Faults.{Draft, Fault, at_end, going_on, step, unless_unsaid, unless_misplaced, unless_wrong, goes_on, wrong, read_from}

abbrev pub right_part : Result LabelledNetlist Fault → Option LabelledNetlist
right_part (Ok l) = Some l
right_part (Err fault) = None

abbrev pub ended : Section → LabelledNetlist → Option LabelledNetlist
ended Ended l = Some l
ended section l = None

abbrev pub run_on : (Draft → Option LabelledNetlist) → Result Draft Reason → Option LabelledNetlist
run_on go (Ok d) = go d
run_on go (Err reason) = None

unfoldable pub run : Draft → List (List (List ℕ)) → Option LabelledNetlist
run d [] = ended d.section d.so_far
run d (ws ∷ rest) = run_on (λ next. run next rest) (unless_unsaid d (said ws))

ended-at_end : (p : Section) (l : LabelledNetlist) (n : ℕ) → right_part (at_end p l n) ≡ ended p l
ended-at_end Start l n = refl
ended-at_end Size l n = refl
ended-at_end Plain l n = refl
ended-at_end Named l n = refl
ended-at_end Ended l n = refl

-- a line that is passed over changes nothing
run-step : (d : Draft) (ws : List (List ℕ)) (rest : List (List (List ℕ)))
    → run_on (λ next. run next rest) (step d ws) ≡ run d (cond (is_passed_over ws) rest (ws ∷ rest))
unfolding step run
run-step d ws rest = by (is_passed_over ws)
  where
    by : (b : Bool) → run_on (λ next. run next rest) (cond b (Ok d) (unless_unsaid d (said ws))) ≡ run d (cond b rest (ws ∷ rest))
    by true = refl
    by false = refl

-- two ways to go on that agree
run_on-same : (n : ℕ) (go : Draft → Result LabelledNetlist Fault) (go' : Draft → Option LabelledNetlist)
    → ((next : Draft) → right_part (go next) ≡ go' next) → (r : Result Draft Reason) → right_part (going_on n go r) ≡ run_on go' r
run_on-same n go go' same (Ok next) = same next
run_on-same n go go' same (Err reason) = refl

pub run-kept : (lines : List (List ℕ)) (d : Draft) (n : ℕ) → right_part (read_from d n lines) ≡ run d (kept lines)
unfolding read_from run
run-kept [] d n = ended-at_end d.section d.so_far n
run-kept (line ∷ lines) d n =
    run_on-same n (λ next. read_from next (n + 1) lines) (λ next. run next (kept lines)) (λ next. run-kept lines next (n + 1)) (step d (words line))
    ∙ run-step d (words line) (kept lines)

-- a step that is taken: the words say a line that may stand there and is right
pub record Takes (d : Draft) (ws : List (List ℕ)) (next : Draft) : Type 0 where
  pub line : Line
  pub says : said ws ≡ Some line
  pub goes : goes_on d.section d.so_far line ≡ Some next
  pub right : wrong d.so_far line ≡ None

wrong-takes : (next next' : Draft) (o : Option Reason) → unless_wrong next o ≡ Ok next' → (o ≡ None) × (next ≡ next')
wrong-takes next next' None e = (refl, cc)
wrong-takes next next' (Some reason) e = cc

pub step-takes : (d : Draft) (ws : List (List ℕ)) (next : Draft) → unless_unsaid d (said ws) ≡ Ok next → Takes d ws next
step-takes d ws next e = by (said ws) refl e
  where
    goes : (line : Line) (o : Option Draft) → said ws ≡ Some line → goes_on d.section d.so_far line ≡ o → unless_misplaced d line o ≡ Ok next
        → Takes d ws next
    goes line None says g f = cc
    goes line (Some found) says g f =
        let right = wrong-takes found next (wrong d.so_far line) f in
        record { line = line; says = says; goes = g ∙ ap Some right.1; right = right.0 }

    by : (o : Option Line) → said ws ≡ o → unless_unsaid d o ≡ Ok next → Takes d ws next
    by None s f = cc
    by (Some line) s f = goes line (goes_on d.section d.so_far line) s refl f
