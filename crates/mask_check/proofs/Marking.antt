-- Marks that are given, passed on and taken.
use Rattle.std.proofs.Common.{◌≡◌, ◌≢◌, ℕ, ◌<◌, ◌⊎◌, inl, inr, List, length, get_or, bit_or, Some, None, refl, sym, ◌∙◌, subst, get_or-set_same, get_or-set_other}
use Rattle.std.specs.declared.option.Option.{Option}
use Rattle.std.proofs.Math.ListN.{length-set}
use Rattle.std.proofs.lemmas.Bool.{cases_eq}
use Rattle.mask_circuit.specs.declared.gates.Gate.{Gate}
use Rattle.mask_circuit.specs.declared.gates.Gate.TheVariants.{Zero, One, Xor, Not, And, Ref}
use Rattle.mask_check.specs.Marks.{HasBit, IsMarked, HasOperandsBelow, with_marks, passed_on}
use Rattle.mask_check.proofs.Words.{HasBit-or, HasBit-or_left, HasBit-or_right}

-- GIVEN MARKS

pub length-with_marks : (words : List ℕ) (u word : ℕ) → length (with_marks words u word) ≡ length words
length-with_marks words u word = length-set words u _

-- the word of another value stays
pub with_marks-other : (words : List ℕ) (u word w : ℕ) → w ≢ u → get_or (with_marks words u word) w 0 ≡ get_or words w 0
with_marks-other words u word w ne = get_or-set_other words u w _ 0 ne

with_marks-same : (words : List ℕ) (u word : ℕ) → u < length words → get_or (with_marks words u word) u 0 ≡ bit_or (get_or words u 0) word
with_marks-same words u word lt = get_or-set_same words u _ 0 lt

-- no mark is lost ..
pub with_marks-kept : (words : List ℕ) (u word w j : ℕ) → u < length words → IsMarked words w j → IsMarked (with_marks words u word) w j
with_marks-kept words u word w j lt h = elim (cases_eq w u) [
  | inl e ↦ record {
    bit = rw (e, with_marks-same words u word lt) (HasBit-or_left (get_or words u 0) word j (subst (λ (x : ℕ). HasBit (get_or words x 0) j) e h.bit));
  }
  | inr ne ↦ record { bit = rw (with_marks-other words u word w ne) h.bit }
]

-- .. those of the word are there ..
pub with_marks-new : (words : List ℕ) (u word j : ℕ) → u < length words → HasBit word j → IsMarked (with_marks words u word) u j
with_marks-new words u word j lt h = record { bit = rw (with_marks-same words u word lt) (HasBit-or_right (get_or words u 0) word j h) }

-- .. and there are no others
pub with_marks-only : (words : List ℕ) (u word w j : ℕ) → u < length words → IsMarked (with_marks words u word) w j → IsMarked words w j ⊎ ((w ≡ u) × HasBit word j)
with_marks-only words u word w j lt h = elim (cases_eq w u) [
  | inl e ↦ elim (HasBit-or (get_or words u 0) word j (rw (e, with_marks-same words u word lt) at h.bit)) [
    | inl old ↦ inl (record { bit = rw e old })
    | inr new ↦ inr (e, new)
  ]
  | inr ne ↦ inl (record { bit = rw (with_marks-other words u word w ne) at h.bit })
]

-- PASSED MARKS

-- value u is an operand of an xor or a not
abbrev pub IsPassedTo : ℕ → Option Gate → Type 0
IsPassedTo u None = ⊥
IsPassedTo u (Some Zero) = ⊥
IsPassedTo u (Some One) = ⊥
IsPassedTo u (Some (Xor v w)) = (u ≡ v) ⊎ (u ≡ w)
IsPassedTo u (Some (Not v)) = u ≡ v
IsPassedTo u (Some (And v w)) = ⊥
IsPassedTo u (Some (Ref v)) = ⊥

pub length-passed_on : (g : Option Gate) (word : ℕ) (words : List ℕ) → length (passed_on g word words) ≡ length words
length-passed_on None word words = refl
length-passed_on (Some Zero) word words = refl
length-passed_on (Some One) word words = refl
length-passed_on (Some (Xor u v)) word words = length-with_marks (with_marks words u word) v word ∙ length-with_marks words u word
length-passed_on (Some (Not u)) word words = length-with_marks words u word
length-passed_on (Some (And u v)) word words = refl
length-passed_on (Some (Ref u)) word words = refl

-- the second operand of an xor is a place too
second_within : (words : List ℕ) (u v word : ℕ) → v < length words → v < length (with_marks words u word)
second_within words u v word lt = rw (length-with_marks words u word) lt

-- the word of a value that nothing is passed to stays
pub passed_on-other : (g : Option Gate) (word : ℕ) (words : List ℕ) (w : ℕ) → (IsPassedTo w g → ⊥) → get_or (passed_on g word words) w 0 ≡ get_or words w 0
passed_on-other None word words w ne = refl
passed_on-other (Some Zero) word words w ne = refl
passed_on-other (Some One) word words w ne = refl
passed_on-other (Some (Xor u v)) word words w ne =
    with_marks-other (with_marks words u word) v word w (λ e. ne (inr e)) ∙ with_marks-other words u word w (λ e. ne (inl e))
passed_on-other (Some (Not u)) word words w ne = with_marks-other words u word w ne
passed_on-other (Some (And u v)) word words w ne = refl
passed_on-other (Some (Ref u)) word words w ne = refl

-- no mark is lost ..
pub passed_on-kept : (g : Option Gate) (word : ℕ) (words : List ℕ) (w j : ℕ) → HasOperandsBelow (length words) g → IsMarked words w j → IsMarked (passed_on g word words) w j
passed_on-kept None word words w j below h = h
passed_on-kept (Some Zero) word words w j below h = h
passed_on-kept (Some One) word words w j below h = h
passed_on-kept (Some (Xor u v)) word words w j below h =
    with_marks-kept (with_marks words u word) v word w j (second_within words u v word below.1) (with_marks-kept words u word w j below.0 h)
passed_on-kept (Some (Not u)) word words w j below h = with_marks-kept words u word w j below h
passed_on-kept (Some (And u v)) word words w j below h = h
passed_on-kept (Some (Ref u)) word words w j below h = h

-- .. those of the word come to each operand ..
pub passed_on-new : (g : Option Gate) (word : ℕ) (words : List ℕ) (w j : ℕ) → HasOperandsBelow (length words) g → IsPassedTo w g → HasBit word j → IsMarked (passed_on g word words) w j
passed_on-new None word words w j below to h = absurd to
passed_on-new (Some Zero) word words w j below to h = absurd to
passed_on-new (Some One) word words w j below to h = absurd to
passed_on-new (Some (Xor u v)) word words w j below (inl e) h =
    with_marks-kept (with_marks words u word) v word w j (second_within words u v word below.1)
    (subst (λ (x : ℕ). IsMarked (with_marks words u word) x j) (sym e) (with_marks-new words u word j below.0 h))
passed_on-new (Some (Xor u v)) word words w j below (inr e) h =
    subst (λ (x : ℕ). IsMarked (with_marks (with_marks words u word) v word) x j) (sym e)
    (with_marks-new (with_marks words u word) v word j (second_within words u v word below.1) h)
passed_on-new (Some (Not u)) word words w j below e h =
    subst (λ (x : ℕ). IsMarked (with_marks words u word) x j) (sym e) (with_marks-new words u word j below h)
passed_on-new (Some (And u v)) word words w j below to h = absurd to
passed_on-new (Some (Ref u)) word words w j below to h = absurd to

-- .. and there are no others
pub passed_on-only : (g : Option Gate) (word : ℕ) (words : List ℕ) (w j : ℕ) → HasOperandsBelow (length words) g → IsMarked (passed_on g word words) w j →
    IsMarked words w j ⊎ (IsPassedTo w g × HasBit word j)
passed_on-only None word words w j below h = inl h
passed_on-only (Some Zero) word words w j below h = inl h
passed_on-only (Some One) word words w j below h = inl h
passed_on-only (Some (Xor u v)) word words w j below h =
    elim (with_marks-only (with_marks words u word) v word w j (second_within words u v word below.1) h) [
      | inl one ↦ elim (with_marks-only words u word w j below.0 one) [ inl old ↦ inl old | inr new ↦ inr (inl new.0, new.1) ]
      | inr new ↦ inr (inr new.0, new.1)
    ]
passed_on-only (Some (Not u)) word words w j below h = with_marks-only words u word w j below h
passed_on-only (Some (And u v)) word words w j below h = inl h
passed_on-only (Some (Ref u)) word words w j below h = inl h
