-- What a machine was told, one value and one list after another; and lists that are made while it is told them.
use Rattle.std.proofs.Common.{◌≡◌, ℕ, ◌+◌, ◌<◌, Option, Some, None, List, [], ◌∷◌, ◌++◌, length, map, get_or, set, refl, sym, ap, ◌∙◌, arith, append_assoc}
use Rattle.std.proofs.lemmas.List.{append-nil, map-append, map-set, get_or-map, length-map, length-set, map-id}
use Rattle.std.proofs.lemmas.List.Edits.{fill_by_more}
use Rattle.mask_circuit.specs.Wires.{each, joined}
use Rattle.mask_circuit.proofs.Places.{length-each}
use Rattle.mask_shares.proofs.Lists.{is_each}
use Rattle.mask_gadget.specs.Wiring.{told_more}
use Rattle.mask_gadget.proofs.Made.{each-more, joined-more}

pub told_more-none : {A : Type 0} (told : Option (List A)) → told ≡ told_more told []
told_more-none None = refl
told_more-none (Some told) = ap Some (sym (append-nil told))

pub told_more-more : {A : Type 0} (told : Option (List A)) (xs ys : List A) → told_more (told_more told xs) ys ≡ told_more told (xs ++ ys)
told_more-more None xs ys = refl
told_more-more (Some told) xs ys = ap Some (append_assoc told xs ys)

-- these, and then those
pub told_then : {A : Type 0} (told told' told'' : Option (List A)) (xs ys : List A) → told' ≡ told_more told xs → told'' ≡ told_more told' ys →
    told'' ≡ told_more told (xs ++ ys)
told_then {A = A} told told' told'' xs ys first second = second ∙ ap (λ (t : Option (List A)). told_more t ys) first ∙ told_more-more told xs ys

-- three values one after another
pub told_three : (told one two three : Option (List ℕ)) (x y z : ℕ) → one ≡ told_more told (x ∷ []) → two ≡ told_more one (y ∷ []) → three ≡ told_more two (z ∷ []) →
    three ≡ told_more told (x ∷ y ∷ z ∷ [])
told_three told one two three x y z first second third =
    told_then told two three (x ∷ y ∷ []) (z ∷ []) (told_then told one two (x ∷ []) (y ∷ []) first second) third

-- an element of a list that is made by number ..
pub told_each : (told told' told'' : Option (List ℕ)) (f : ℕ → ℕ) (n x : ℕ) → told' ≡ told_more told (each f n) → told'' ≡ told_more told' (x ∷ []) → x ≡ f n →
    told'' ≡ told_more told (each f (n + 1))
told_each told told' told'' f n x before now is =
    told_then told told' told'' (each f n) (x ∷ []) before now ∙ rw (each-more f n, is) refl

-- .. a piece of one that is made piece by piece ..
pub told_piece : (told told' told'' : Option (List ℕ)) (f : ℕ → List ℕ) (n : ℕ) →
    told' ≡ told_more told (joined f n) → told'' ≡ told_more told' (f n) → told'' ≡ told_more told (joined f (n + 1))
told_piece told told' told'' f n before now = told_then told told' told'' (joined f n) (f n) before now ∙ rw (joined-more f n) refl

-- .. and a piece of one that is made piece by piece
pub told_joined : {A : Type 0} (h : A → ℕ) (f : ℕ → List A) (told told' told'' : Option (List ℕ)) (n : ℕ) →
    told' ≡ told_more told (map h (joined f n)) → told'' ≡ told_more told' (map h (f n)) → told'' ≡ told_more told (map h (joined f (n + 1)))
told_joined h f told told' told'' n before now =
    told_then told told' told'' (map h (joined f n)) (map h (f n)) before now ∙ rw (joined-more f n, map-append h (joined f n) (f n)) refl

-- The words of an array are those of f up to place i, and the machine was told these from place `start` on.
pub record MadeTo {A : Type 0} (carried : A → ℕ) (n : ℕ) (f : ℕ → ℕ) (i : ℕ) (words : List A) (before told : Option (List ℕ)) : Type 0 where
  pub count : length words ≡ n
  pub made : (k : ℕ) → k < i → get_or (map carried words) k 0 ≡ f k
  pub heard : told ≡ told_more before (each f i)

module _ {A : Type 0} (carried : A → ℕ) (n : ℕ) (f : ℕ → ℕ) where
  pub none_made : (words : List A) (told : Option (List ℕ)) → length words ≡ n → MadeTo carried n f 0 words told told
  none_made words told count = record { count = count; made = λ k lt. absurd (omega arith); heard = told_more-none told }

  pub one_made : (i : ℕ) (x : A) (words : List A) (before told told' : Option (List ℕ)) → i < n → carried x ≡ f i →
      told' ≡ told_more told (carried x ∷ []) → MadeTo carried n f i words before told → MadeTo carried n f (i + 1) (set words i x) before told'
  one_made i x words before told told' lt is now so_far = record {
    count = length-set words i x ∙ so_far.count;
    made = rw (map-set carried words i x, is)
        (fill_by_more f (map carried words) i 0 (rw (length-map words carried, so_far.count) lt) so_far.made);
    heard = told_each before told told' f i (carried x) so_far.heard now is;
  }

  pub all_made : (i : ℕ) (words : List A) (before told : Option (List ℕ)) → i ≡ n → MadeTo carried n f i words before told →
      (map carried words ≡ each f n) × (told ≡ told_more before (each f n))
  all_made i words before told end so_far =
      (is_each f n (map carried words) (length-map words carried ∙ so_far.count) (λ k lt. so_far.made k (omega arith)), rw end at so_far.heard)

-- a list of all that was told since it was empty
pub told_all : {A : Type 0} (before now all : List A) → before ≡ [] → Some now ≡ told_more (Some before) all → now ≡ all
told_all {A = A} before now all none told =
    let told' : Some now ≡ Some (before ++ all) = told in
    let same : now ≡ before ++ all = cc in
    same ∙ ap (λ (xs : List A). xs ++ all) none

-- words that carry themselves
pub plain_words : (xs ws : List ℕ) → xs ≡ ws → map (λ x. x) xs ≡ ws
plain_words xs ws is = map-id xs ∙ is

-- how many words there are
pub made_count : {A : Type 0} (carried : A → ℕ) (n : ℕ) (f : ℕ → ℕ) (words : List A) → map carried words ≡ each f n → length words ≡ n
made_count carried n f words made = sym (length-map words carried) ∙ ap length made ∙ length-each f n

-- a word of an array
pub word_read : {A : Type 0} (carried : A → ℕ) (words : List A) (i : ℕ) (d : A) → i < length words → carried (get_or words i d) ≡ get_or (map carried words) i 0
word_read carried words i d lt = sym (get_or-map carried words i d 0 lt)
