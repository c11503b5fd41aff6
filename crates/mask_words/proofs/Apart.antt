-- Words are one job at most, since the rows of the table are apart from one another, which is computed.
use Rattle.std.proofs.Common.{◌≡◌, ℕ, zero, suc, ◌<◌, Bool, true, false, ◌&&◌, ◌||◌, not, ◌==◌, eq-eqb, Option, None, Some, List, [], ◌∷◌, length, get_or, refl, sym, ap, ◌∙◌, subst, inl, inr, arith}
use Rattle.std.specs.List.{list_all}
use Rattle.std.specs.Str.{bytes_eq}
use Rattle.std.proofs.lemmas.Bool.{and_parts, cases_order, eqb-true}
use Rattle.std.proofs.lemmas.List.Sums.{AllPass-from_list_all}
use Rattle.std.proofs.lemmas.Slice.Eq.{bytes_eq-Decides}
use Rattle.mask_words.specs.declared.word_tests.Test.{Test}
use Rattle.mask_words.specs.declared.word_tests.Test.TheVariants.{Named, Digits}
use Rattle.mask_words.specs.declared.table.Form.{Form}
use Rattle.mask_words.specs.declared.table.Form.TheVariants as forms
use Rattle.mask_words.specs.declared.table.Job.{Job}
use Rattle.mask_words.specs.declared.table.TheConstants.{FORMS}
use Rattle.mask_words.specs.WordTests.{Word, command_text, passes}
use Rattle.mask_words.specs.Jobs.{Match, tests_of, tail_of, job_of, IsJob}
use Rattle.mask_words.proofs.Trying.{form_at, row_of}

-- no word passes both tests
abbrev pub disjoint : Test → Test → Bool
disjoint (Named c) (Named d) = not (bytes_eq (command_text c) (command_text d))
disjoint (Digits m) (Digits n) = not (m == n)
disjoint t u = false

-- some word passes disjoint tests, or one row has more words than the other may have
abbrev pub apart : List Test → Option Test → List Test → Option Test → Bool
apart [] None [] tail' = false
apart [] None (u ∷ us) tail' = true
apart [] (Some t) us tail' = false
apart (t ∷ ts) tail [] None = true
apart (t ∷ ts) tail [] (Some u) = false
apart (t ∷ ts) tail (u ∷ us) tail' = disjoint t u || apart ts tail us tail'

disjoint-sound : (t u : Test) (w : Word) → disjoint t u ≡ true → passes t w ≡ true → passes u w ≡ true → ⊥
disjoint-sound (Named c) (Named d) w h p q =
    let first = (bytes_eq-Decides w (command_text c)).0 p in
    let second = (bytes_eq-Decides w (command_text d)).0 q in
    let same : bytes_eq (command_text c) (command_text d) ≡ true = (bytes_eq-Decides (command_text c) (command_text d)).1 (sym first ∙ second) in
    let contrary : not (bytes_eq (command_text c) (command_text d)) ≡ false = ap not same in cc
disjoint-sound (Digits m) (Digits n) w h p q =
    let first : length w ≡ m = eqb-true _ _ (and_parts _ _ p).0 in
    let second : length w ≡ n = eqb-true _ _ (and_parts _ _ q).0 in
    let contrary : not (m == n) ≡ false = ap not (eq-eqb m n (sym first ∙ second)) in cc
disjoint-sound t u w h p q = cc

either : (a b : Bool) → a || b ≡ true → (a ≡ true → ⊥) → (b ≡ true → ⊥) → ⊥
either true b h f g = f refl
either false b h f g = g h

pub apart-sound : (ts us : List Test) (tail tail' : Option Test) (ws : List Word) → apart ts tail us tail' ≡ true → Match ts tail ws →
    Match us tail' ws → ⊥
apart-sound [] [] None tail' ws h m n = cc
apart-sound [] (u ∷ us) None tail' [] h m n = n
apart-sound [] (u ∷ us) None tail' (w ∷ ws) h m n = m
apart-sound [] us (Some t) tail' ws h m n = cc
apart-sound (t ∷ ts) [] tail None [] h m n = m
apart-sound (t ∷ ts) [] tail None (w ∷ ws) h m n = n
apart-sound (t ∷ ts) [] tail (Some u) ws h m n = cc
apart-sound (t ∷ ts) (u ∷ us) tail tail' [] h m n = m
apart-sound (t ∷ ts) (u ∷ us) tail tail' (w ∷ ws) h m n =
    either (disjoint t u) (apart ts tail us tail') h (λ e. disjoint-sound t u w e m.0 n.0) (λ e. apart-sound ts us tail tail' ws e m.1 n.1)

-- the rows of two forms are apart
abbrev pub are_apart : Form → Form → Bool
are_apart f g = apart (tests_of f) (tail_of f) (tests_of g) (tail_of g)

-- each row of a list is apart from all later ones
abbrev pub all_apart : List Form → Bool
all_apart [] = true
all_apart (f ∷ fs) = list_all (λ g. are_apart f g) fs && all_apart fs

apart_at : (fs : List Form) (k l : ℕ) → all_apart fs ≡ true → k < l → l < length fs →
    are_apart (get_or fs k forms.EncPresent) (get_or fs l forms.EncPresent) ≡ true
apart_at [] k l h lt within = absurd (omega arith)
apart_at (f ∷ fs) k zero h lt within = absurd (omega arith)
apart_at (f ∷ fs) zero (suc l) h lt within =
    AllPass-from_list_all (λ g. are_apart f g) fs (and_parts _ _ h).0 l forms.EncPresent (omega arith)
apart_at (f ∷ fs) (suc k) (suc l) h lt within = apart_at fs k l (and_parts _ _ h).1 (omega arith) (omega arith)

-- the table's own rows
rows_are_apart : all_apart FORMS ≡ true
rows_are_apart = refl

-- words are of one form at most
one_row : (ws : List Word) (k l : ℕ) → k < l → l < length FORMS → Match (tests_of (form_at k)) (tail_of (form_at k)) ws →
    Match (tests_of (form_at l)) (tail_of (form_at l)) ws → ⊥
one_row ws k l lt within m n = apart-sound _ _ _ _ ws (apart_at FORMS k l rows_are_apart lt within) m n

same_form : (ws : List Word) (f g : Form) → Match (tests_of f) (tail_of f) ws → Match (tests_of g) (tail_of g) ws → f ≡ g
same_form ws f g m n =
    let k = row_of f in
    let l = row_of g in
    let here = subst (λ (e : Form). Match (tests_of e) (tail_of e) ws) (sym k.2) m in
    let there = subst (λ (e : Form). Match (tests_of e) (tail_of e) ws) (sym l.2) n in
    elim (cases_order k.0 l.0) [
      | inl same ↦ sym k.2 ∙ ap form_at same ∙ l.2
      | inr differ ↦ elim differ [ inl below ↦ absurd (one_row ws k.0 l.0 below l.1 here there) | inr above ↦ absurd (one_row ws l.0 k.0 above k.1 there here) ]
    ]

pub IsJob-one : (ws : List Word) (a b : Job) → IsJob ws a → IsJob ws b → a ≡ b
IsJob-one ws a b is_a is_b = is_a.2 ∙ ap (λ (f : Form). job_of f ws) (same_form ws is_a.0 is_b.0 is_a.1 is_b.1) ∙ sym is_b.2
