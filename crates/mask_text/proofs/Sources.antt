-- What an answer says of a source that tells its bytes decides which answer comes.
use Rattle.std.proofs.Common.{◌≡◌, ℕ, ◌^◌, ◌≤◌, List, ◌++◌, length, Option, Some, None, Result, Ok, Err, IfSome, inl, inr, refl, sym, ap, ◌∙◌, subst, append-nil, arith, length-append}
use Rattle.std.specs.Io.KnownBytes.{Consumes, IsAtEnd}
use Rattle.mask_circuit.specs.Labels.{LabelledNetlist}
use Rattle.mask_text.specs.declared.errors.TextError.{TextError}
use Rattle.mask_text.specs.declared.errors.TextError.TheVariants.{Bad, TooLong, ReadFault, NoMemory}
use Rattle.mask_text.specs.Text.{IsText}
use Rattle.mask_text.specs.Faults.{Fault, fault, fault_at, error_of}
use Rattle.mask_text.specs.Answers.{Answers, IsAnswerTo, IsUnlessFailed, TakesAll, TakesTooMany}
use Rattle.mask_text.proofs.Complete.{complete}

-- a source that tells its bytes gave all of them
pub gave_all : (bytes : List ℕ) (now : Option (List ℕ)) (taken : List ℕ) → Consumes (Some bytes) now taken → IsAtEnd now → taken ≡ bytes
gave_all bytes None taken consumed end = absurd consumed
gave_all bytes (Some rest) taken consumed end = sym (consumed ∙ ap (λ xs. taken ++ xs) end ∙ append-nil taken)

-- it gave no more than it had
pub gave_some : (bytes : List ℕ) (now : Option (List ℕ)) (taken : List ℕ) → Consumes (Some bytes) now taken → length taken ≤ length bytes
gave_some bytes None taken consumed = absurd consumed
gave_some bytes (Some rest) taken consumed = let e = ap length consumed in omega (arith, length-append taken rest)

fault_none : (bytes : List ℕ) (l : LabelledNetlist) (first : Fault) → IsText bytes l → fault bytes ≡ Some first → ⊥
unfolding fault
fault_none bytes l first text e = let f = ap error_of (complete bytes l text) in cc

text_once : (bytes : List ℕ) (l m : LabelledNetlist) → IsText bytes l → IsText bytes m → l ≡ m
text_once bytes l m a b = let e = complete bytes l a in let f = complete bytes m b in cc

module _ {A : Type 0} (view : LabelledNetlist → A) (P : A → List ℕ → Type 0)
    (shows : (value : A) (bytes : List ℕ) → P value bytes → (l : LabelledNetlist) × IsText bytes l × (view l ≡ value)) where
  found_decides : (value : A) (bytes : List ℕ) (now : Option (List ℕ)) → TakesAll (Some bytes) now (P value) → IsAnswerTo view bytes (Ok value)
  found_decides value bytes now took =
      let same = gave_all bytes now took.0 took.1 took.2 in
      let shown = shows value took.0 took.4 in
      let text : IsText bytes shown.0 = subst (λ (xs : List ℕ). IsText xs shown.0) same shown.1 in
      let few : length bytes ≤ 2 ^ 25 = subst (λ (xs : List ℕ). length xs ≤ 2 ^ 25) same took.3 in
      record {
        text = λ l other limit. inl (ap Ok (sym shown.2 ∙ ap view (text_once bytes shown.0 l text other)));
        bad = λ first e limit. absurd (fault_none bytes shown.0 first text e);
        long = λ many. absurd (omega arith);
      }

  bad_decides : (line : ℕ) (reason : _) (bytes : List ℕ) (now : Option (List ℕ))
      → TakesAll (Some bytes) now (λ xs. fault xs ≡ Some (fault_at line reason))
      → IsAnswerTo view bytes (Err (Bad line reason))
  bad_decides line reason bytes now took =
      let same = gave_all bytes now took.0 took.1 took.2 in
      let told : fault bytes ≡ Some (fault_at line reason) = subst (λ (xs : List ℕ). fault xs ≡ Some (fault_at line reason)) same took.4 in
      let few : length bytes ≤ 2 ^ 25 = subst (λ (xs : List ℕ). length xs ≤ 2 ^ 25) same took.3 in
      record {
        text = λ l text limit. absurd (fault_none bytes l (fault_at line reason) text told);
        bad = λ first e limit. inl (fault_same first (sym told ∙ e));
        long = λ many. absurd (omega arith);
      }
    where
      fault_same : (first : Fault) → ◌≡◌ {A = Option Fault} (Some (fault_at line reason)) (Some first)
          → ◌≡◌ {A = Result A TextError} (Err (Bad line reason)) (Err (Bad first.line first.reason))
      fault_same first e = let f : fault_at line reason ≡ first = cc in ap (λ (x : Fault). Err (Bad x.line x.reason)) f

  long_decides : (limit : ℕ) (bytes : List ℕ) (now : Option (List ℕ)) → limit ≡ 2 ^ 25 → TakesTooMany (Some bytes) now
      → IsAnswerTo view bytes (Err (TooLong limit))
  long_decides limit bytes now is took =
      let some = gave_some bytes now took.0 took.1 in
      let many = took.2 in
      record {
        text = λ l text few. absurd (omega arith);
        bad = λ first e few. absurd (omega arith);
        long = λ more. inl (ap (λ n. Err (TooLong n)) is);
      }

  failed_decides : (error : TextError) (bytes : List ℕ) → ((answer : Result A TextError) → IsUnlessFailed (Err error) answer)
      → IsAnswerTo view bytes (Err error)
  failed_decides error bytes any = record {
    text = λ l text few. any (Ok (view l));
    bad = λ first e few. any (Err (Bad first.line first.reason));
    long = λ many. any (Err (TooLong (2 ^ 25)));
  }

  pub decides : (result : Result A TextError) (before now : Option (List ℕ)) → Answers P result before now
      → IfSome before (λ bytes. IsAnswerTo view bytes result)
  decides result None now answers = tt
  decides (Ok value) (Some bytes) now answers = found_decides value bytes now answers
  decides (Err (Bad line reason)) (Some bytes) now answers = bad_decides line reason bytes now answers
  decides (Err (TooLong limit)) (Some bytes) now answers = long_decides limit bytes now answers.0 answers.1
  decides (Err ReadFault) (Some bytes) now answers = failed_decides ReadFault bytes (λ answer. inr (inl refl))
  decides (Err NoMemory) (Some bytes) now answers = failed_decides NoMemory bytes (λ answer. inr (inr refl))
