-- Words in decimal: the spellings of the numbers of a range.
use Rattle.std.proofs.Common.{◌≡◌, ℕ, ◌^◌, ◌<◌, ◌≤◌, Bool, true, false, ◌&&◌, Result, Ok, Err, refl, sym, ◌∙◌, ap, arith, leb, leb-true, le-leb}
use Rattle.std.specs.Bool.{Decides}
use Rattle.std.specs.Fmt.{decimal}
use Rattle.std.specs.Str.{bytes_eq}
use Rattle.std.specs.Str.Parse.{ParsesUnsigned}
use Rattle.std.proofs.lemmas.Bool.{false_from_ne_true}
use Rattle.std.proofs.lemmas.Bool.Decides.{same_from_decides, Decides-and}
use Rattle.std.proofs.lemmas.Fmt.{decimal_is_IsNumeral, parse-decimal}
use Rattle.std.proofs.lemmas.Slice.Eq.{bytes_eq-Decides}
use Rattle.mask_words.specs.WordTests.{Word, is_number_between, number_of}

Decides-leb : (a b : ℕ) → Decides (leb a b) (a ≤ b)
Decides-leb a b = (leb-true a b, le-leb a b)

number_of-decimal : (n : ℕ) → n < 2 ^ 64 → number_of (decimal n) ≡ n
number_of-decimal n h = (decimal_is_IsNumeral n h).1

module _ (low high : ℕ) where
  Decides-between : {P : Type 0} (n : ℕ) (b : Bool) → Decides b P → Decides (leb low n && leb n high && b) (((low ≤ n) × (n ≤ high)) × P)
  Decides-between n b d = Decides-and _ _ (Decides-and _ _ (Decides-leb low n) (Decides-leb n high)) d

  -- the word spells its number, which is in the range
  abbrev pub IsSpelled : Word → Type 0
  IsSpelled w = ((low ≤ number_of w) × (number_of w ≤ high)) × (w ≡ decimal (number_of w))

  -- the test tells just that
  pub is_number_between-Decides : (w : Word) → Decides (is_number_between low high w) (IsSpelled w)
  is_number_between-Decides w = Decides-between (number_of w) _ (bytes_eq-Decides w (decimal (number_of w)))

  -- the spelling of a number of the range spells it
  IsSpelled-decimal : (n : ℕ) (w : Word) → n < 2 ^ 64 → low ≤ n → n ≤ high → w ≡ decimal n → IsSpelled w
  IsSpelled-decimal n w fits above below e =
      let same : number_of w ≡ n = ap (λ (v : Word). number_of v) e ∙ number_of-decimal n fits in
      ((omega arith, omega arith), e ∙ ap decimal (sym same))

  -- and passes
  pub is_number_between-decimal : (n : ℕ) → n < 2 ^ 64 → low ≤ n → n ≤ high → is_number_between low high (decimal n) ≡ true
  is_number_between-decimal n fits above below =
      (is_number_between-Decides (decimal n)).1 (IsSpelled-decimal n (decimal n) fits above below refl)

  -- a word that passes parses to its number, if k bits hold the range
  pub parse-is_number : {E : Type 0} (k : ℕ) (w : Word) (r : Result ℕ E) → ParsesUnsigned k 10 w r → high < 2 ^ k → high < 2 ^ 64 →
      is_number_between low high w ≡ true → r ≡ Ok (number_of w)
  parse-is_number k w r parsed fits small is =
      let spelled = (is_number_between-Decides w).0 is in
      parse-decimal k (number_of w) w r (omega (arith, spelled.0.1)) (omega (arith, spelled.0.1)) spelled.1 parsed

  -- which is then the number that was read
  parsed-number : {E : Type 0} (w : Word) (n : ℕ) (r : Result ℕ E) → ParsesUnsigned 64 10 w r → high < 2 ^ 64 → r ≡ Ok n → IsSpelled w →
      n ≡ number_of w
  parsed-number w n r parsed fits read spelled =
      let e = parse-is_number 64 w r parsed fits fits ((is_number_between-Decides w).1 spelled) in cc

  -- a word that parses passes where the number that was read is in the range, and is written as that word
  pub is_number-parsed : {E : Type 0} (w : Word) (n : ℕ) (r : Result ℕ E) → ParsesUnsigned 64 10 w r → high < 2 ^ 64 → r ≡ Ok n →
      (leb low n && leb n high && bytes_eq (decimal n) w) ≡ is_number_between low high w
  is_number-parsed w n r parsed fits read =
      let value = rw read at parsed in
      let small : n < 2 ^ 64 = omega (arith, value.0.1, value.1) in
      let read_so = Decides-between n _ (bytes_eq-Decides (decimal n) w) in
      same_from_decides _ _ (
        λ passes. let h = read_so.0 passes in IsSpelled-decimal n w small h.0.0 h.0.1 (sym h.1),
        λ spelled.
            let same = parsed-number w n r parsed fits read spelled in
            read_so.1 ((omega (arith, spelled.0.0), omega (arith, spelled.0.1)), ap decimal same ∙ sym spelled.1),
      )
      (is_number_between-Decides w)

  -- and one that doesn't parse doesn't pass
  pub is_number-unparsed : {E : Type 0} (w : Word) (e : E) (r : Result ℕ E) → ParsesUnsigned 64 10 w r → high < 2 ^ 64 → r ≡ Err e →
      is_number_between low high w ≡ false
  is_number-unparsed w e r parsed fits failed =
      false_from_ne_true _ (λ is. let read = parse-is_number 64 w r parsed fits fits is in absurd (cc))
