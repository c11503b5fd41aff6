-- What an answer says of a source that tells its bytes decides which answer comes.
use Rattle.std.proofs.Common.{◌≡◌, ℕ, ◌≤◌, ◌==◌, Bool, true, false, cond, inl, inr, List, length, Option, Some, None, Result, Ok, Err, IfSome, IfOk, IfErr, refl, sym, ap, ◌∙◌, subst, arith}
use Rattle.std.specs.Io.KnownBytes.{Consumes}
use Rattle.mask_text.specs.Lines.{text_lines}
use Rattle.mask_text.proofs.Sources.{gave_all, gave_some}
use Rattle.mask_keys.specs.declared.files.KeyLength.{KeyLength}
use Rattle.mask_keys.specs.declared.files.KeyError.{KeyError}
use Rattle.mask_keys.specs.declared.files.KeyError.TheVariants.{KeyFault, Long, Line, Count}
use Rattle.mask_keys.specs.Files.{IsKeyFile, fault, fault_of, first_bad}
use Rattle.mask_keys.specs.Answers.{Answers, Came, Whole, TooMany, Broken, Reads, IsAnswerTo, failed_to_read}
use Rattle.mask_keys.proofs.Deciding.{stands_once, no_fault}

module _ (count : ℕ) (asked : KeyLength) (bytes : List ℕ) where
  answers_decide : (result : Result (List (List ℕ)) KeyError) → length bytes ≤ 4096 → Answers count asked bytes result → IsAnswerTo count asked bytes result
  answers_decide (Ok lines) few file = record {
    file = λ other is within. inl (ap Ok (stands_once count asked bytes lines other file is));
    bad = λ error is within. let none = no_fault count asked bytes lines file in absurd (cc);
    long = λ many. absurd (omega arith);
  }
  answers_decide (Err error) few is = record {
    file = λ lines file within. let none = no_fault count asked bytes lines file in absurd (cc);
    bad = λ other also within. let same : Some error ≡ Some other = sym is ∙ also in inl (same_error error other same);
    long = λ many. absurd (omega arith);
  }
    where
      same_error : (a b : KeyError) → Some a ≡ Some b → ◌≡◌ {A = Result (List (List ℕ)) KeyError} (Err a) (Err b)
      same_error a b e = let f : a ≡ b = cc in ap Err f

pub decides : (count : ℕ) (asked : KeyLength) (before now : Option (List ℕ)) (result : Result (List (List ℕ)) KeyError) → Reads count asked before now result →
    IfSome before (λ bytes. IsAnswerTo count asked bytes result)
decides count asked None now result reads = tt
decides count asked (Some bytes) now result reads = by reads.0 reads.1 reads.2
  where
    by : (taken : List ℕ) → Consumes (Some bytes) now taken → Came count asked taken now result → IsAnswerTo count asked bytes result
    by taken consumed (Whole end few answers) =
        let same = gave_all bytes now taken consumed end in
        answers_decide count asked bytes result (subst (λ (xs : List ℕ). length xs ≤ 4096) same few) (subst (λ (xs : List ℕ). Answers count asked xs result) same answers)
    by taken consumed (TooMany is many) =
        let some = gave_some bytes now taken consumed in record {
          file = λ lines file within. absurd (omega arith);
          bad = λ error is within. absurd (omega arith);
          long = λ more. inl is;
        }
    by taken consumed (Broken is few) = record {
      file = λ lines file within. inr is;
      bad = λ error also within. inr is;
      long = λ more. inr is;
    }

-- what both outcomes say together
pub answers_both : (count : ℕ) (asked : KeyLength) (bytes : List ℕ) (result : Result (List (List ℕ)) KeyError) →
    IfOk result (λ lines. IsKeyFile count asked bytes lines) → IfErr result (λ error. fault count asked bytes ≡ Some error) → Answers count asked bytes result
answers_both count asked bytes (Ok lines) found bad = found
answers_both count asked bytes (Err error) found bad = bad

-- bytes that came are no fault of the source
fault-no_key_fault : (count : ℕ) (asked : KeyLength) (bytes : List ℕ) → fault count asked bytes ≡ Some KeyFault → ⊥
unfolding fault
fault-no_key_fault count asked bytes e = by (first_bad asked (text_lines bytes)) e
  where
    by : (o : Option ℕ) → fault_of count (length (text_lines bytes)) o ≡ Some KeyFault → ⊥
    by (Some place) e = cc
    by None e = either (length (text_lines bytes) == count) e
      where
        either : (t : Bool) → cond t None (Some (Count (length (text_lines bytes)))) ≡ Some KeyFault → ⊥
        either true e = cc
        either false e = cc

pub answers-unfailed : (count : ℕ) (asked : KeyLength) (bytes : List ℕ) (result : Result (List (List ℕ)) KeyError) →
    IfErr result (λ error. fault count asked bytes ≡ Some error) → failed_to_read result ≡ false
answers-unfailed count asked bytes (Ok lines) bad = refl
answers-unfailed count asked bytes (Err KeyFault) bad = absurd (fault-no_key_fault count asked bytes bad)
answers-unfailed count asked bytes (Err Long) bad = refl
answers-unfailed count asked bytes (Err (Line line)) bad = refl
answers-unfailed count asked bytes (Err (Count found)) bad = refl
