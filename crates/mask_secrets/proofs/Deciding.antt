-- What a key file that tells its bytes decides.
use Rattle.std.proofs.Common.{◌≡◌, ◌⊎◌, ℕ, suc, ◌≤◌, Option, Some, None, List, length, refl, sym, ap, subst, ◌∙◌, inl, inr, arith, length-append}
use Rattle.std.specs.Io.KnownBytes.{Consumes, IsAtEnd}
use Rattle.std.proofs.KnownBytes.{Consumes-whole}
use Rattle.mask_keys.specs.declared.files.KeyLength.{KeyLength}
use Rattle.mask_keys.specs.declared.files.KeyLength.TheVariants.{Any}
use Rattle.mask_keys.specs.declared.files.KeyError.{KeyError}
use Rattle.mask_keys.specs.Files.{IsKeyFile, fault}
use Rattle.mask_keys.specs.Laws.{KeyFileOrFault}
use Rattle.mask_status.specs.declared.status.Status.{Status}
use Rattle.mask_status.specs.declared.status.Status.TheVariants.{KeyFault}
use Rattle.mask_secrets.specs.KeyEnds.{KeyEnds, Breaks, Long, Bad, Does, IsKeysDue, IsInForm, status_of}
use Rattle.mask_secrets.specs.Laws.{KeysDecide, SplitDecides, JoinDecides}
use Rattle.mask_secrets.specs.Splitting.{SplitsLine}
use Rattle.mask_secrets.specs.Joining.{Joins}

-- the bytes that were taken up to the end are all
taken_all : (keys bytes : List ℕ) (rest : Option (List ℕ)) → Consumes (Some keys) rest bytes → IsAtEnd rest → bytes ≡ keys
taken_all keys bytes rest taken end = sym (Consumes-whole (Some keys) rest bytes (λ (xs : List ℕ). xs ≡ bytes) taken end refl)

-- and they are never more than there were
no_longer : (keys bytes : List ℕ) (rest : Option (List ℕ)) → Consumes (Some keys) rest bytes → length bytes ≤ length keys
no_longer keys bytes None taken = absurd taken
no_longer keys bytes (Some xs) taken = let long = ap length taken in omega (arith, long, length-append bytes xs)

module _ (decides : KeyFileOrFault) (count : ℕ) (asked : KeyLength) (some : 1 ≤ count) (few : count ≤ 8) where
  -- key lines have no fault
  no_fault : (bytes : List ℕ) (error : KeyError) (lines : List (List ℕ)) → fault count asked bytes ≡ Some error → IsKeyFile count asked bytes lines → ⊥
  no_fault bytes error lines bad file =
      elim (decides count asked bytes some few) [
        | inl one ↦ (let none : None ≡ Some error = sym one.no_fault ∙ bad in cc)
        | inr faulty ↦ faulty.stands_for_none lines file
      ]

  module _ (Did : List (List ℕ) → Status → Type 0) (keys bytes : List ℕ) (rest : Option (List ℕ)) (status : Status) (taken : Consumes (Some keys) rest bytes) where
    due-comes : (due : Status) → KeyEnds count asked Did bytes rest status → IsKeysDue count asked keys due → (status ≡ due) ⊎ (status ≡ KeyFault)
    due-comes due (Breaks e short) is = inr e
    due-comes due (Long e many) (inl long) = inl (e ∙ sym long.1)
    due-comes due (Long e many) (inr bad) = let within = bad.0 in absurd (omega (arith, no_longer keys bytes rest taken))
    due-comes due (Bad error end within bad e) (inl long) =
        let over = long.0 in absurd (omega (arith, ap length (taken_all keys bytes rest taken end)))
    due-comes due (Bad error end within bad e) (inr other) =
        let same : error ≡ other.1 = faults bad (ap (fault count asked) (taken_all keys bytes rest taken end) ∙ other.2) in
        inl (e ∙ ap status_of same ∙ sym other.3)
      where
        faults : {f : Option KeyError} {a b : KeyError} → f ≡ Some a → f ≡ Some b → a ≡ b
        faults p q = cc
    due-comes due (Does lines end within file did) (inl long) =
        let over = long.0 in absurd (omega (arith, ap length (taken_all keys bytes rest taken end)))
    due-comes due (Does lines end within file did) (inr bad) =
        absurd (no_fault bytes bad.1 lines (ap (fault count asked) (taken_all keys bytes rest taken end) ∙ bad.2) file)

    lines-done : KeyEnds count asked Did bytes rest status → IsInForm count asked keys →
        ((lines : List (List ℕ)) × IsKeyFile count asked keys lines × Did lines status) ⊎ (status ≡ KeyFault)
    lines-done (Breaks e short) form = inr e
    lines-done (Long e many) form = let within = form.0 in absurd (omega (arith, no_longer keys bytes rest taken))
    lines-done (Bad error end within bad e) form =
        absurd (no_fault keys error form.1 (sym (ap (fault count asked) (taken_all keys bytes rest taken end)) ∙ bad) form.2)
    lines-done (Does lines end within file did) form =
        inl (lines, subst (λ (xs : List ℕ). IsKeyFile count asked xs lines) (taken_all keys bytes rest taken end) file, did)

-- whatever is done with key lines, it is done with these
pub keys-decide : KeyFileOrFault → (count : ℕ) (asked : KeyLength) → 1 ≤ count → count ≤ 8 → (Did : List (List ℕ) → Status → Type 0) → KeysDecide count asked Did
keys-decide decides count asked some few Did = record {
  due = λ keys bytes rest status due taken ends is. due-comes decides count asked some few Did keys bytes rest status taken due ends is;
  done = λ keys bytes rest status taken ends form. lines-done decides count asked some few Did keys bytes rest status taken ends form;
}

pub split-decides : KeyFileOrFault → SplitDecides
split-decides decides d o = keys-decide decides 1 Any (omega arith) (omega arith) (SplitsLine d o)

pub join-decides : KeyFileOrFault → JoinDecides
join-decides decides d before now few = keys-decide decides (suc d) Any (omega arith) (omega arith) (Joins before now)
