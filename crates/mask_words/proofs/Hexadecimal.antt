-- Hexadecimal digits as std tests them, as they are decoded, and as they are read as a number.
use Rattle.std.proofs.Common.{◌≡◌, ◌≢◌, ℕ, ◌-◌, ◌*◌, ◌^◌, ◌<◌, ◌≤◌, Bool, true, false, ◌||◌, List, [], ◌∷◌, length, get_or, if◌then◌else◌, Some, None, Result, Ok, Err, codes, refl, sym, ◌∙◌, ap, arith}
use Rattle.std.proofs.lemmas.Bool.{and_parts, eqb-true, false_from_ne_true}
use Rattle.std.proofs.lemmas.Bool.Decides.{nat_tests}
use Rattle.std.proofs.lemmas.Int.Digits.{digits_value-lt}
use Rattle.std.proofs.lemmas.List.Sums.{AllPass-from_list_all}
use Rattle.std.specs.Prelude.{is_some}
use Rattle.std.specs.List.{AllPass}
use Rattle.std.specs.Char.{is_ascii_hexdigit, digit_value}
use Rattle.std.specs.Str.Parse.{AllDigits, IsNumeral, digits_value, ParsesUnsigned}
use Rattle.std.specs.Result.{OkIff}
use Rattle.std.specs.Str.{bytes_eq}
use Rattle.std.proofs.lemmas.Str.Parse.{without_leading_plus_none}
use Rattle.std.proofs.lemmas.Slice.Eq.{bytes_eq-Decides}
use Rattle.hex.specs.Hex.{is_hex_digit, decode_of, decode_sized}
use Rattle.hex.proofs.HexLemmas.{decode_of-digits, decode_sized-twice}
use Rattle.mask_words.specs.Naming.{decoded, hex_bytes}
use Rattle.mask_words.specs.WordTests.{Word, are_hex_digits, are_digits}

-- three ranges of digits, in one order and another
any_range : (upper lower number : Bool) (x y z : ℕ) → (number || upper) || lower ≡ true →
    is_some (if upper then Some x else if lower then Some y else if number then Some z else None) ≡ true
any_range true lower number x y z h = refl
any_range false true number x y z h = refl
any_range false false true x y z h = refl
any_range false false false x y z h = absurd (cc)

is_digit : (c : ℕ) → is_ascii_hexdigit c ≡ true → is_hex_digit c ≡ true
is_digit c h = any_range _ _ _ (c - 55) (c - 87) (c - 48) h

pub digits_decode : (w : Word) → are_hex_digits w ≡ true → AllPass is_hex_digit w
digits_decode w h k d at = is_digit (get_or w k d) (AllPass-from_list_all is_ascii_hexdigit w h k d at)

digit_value-hex : (c : ℕ) → is_ascii_hexdigit c ≡ true → digit_value c < 16
digit_value-hex c h = grind (arith, nat_tests)

AllDigits-hex : (w : Word) → are_hex_digits w ≡ true → AllDigits 16 w
AllDigits-hex [] h = tt
AllDigits-hex (c ∷ cs) h = let two = and_parts _ _ h in (digit_value-hex c two.0, AllDigits-hex cs two.1)

no_plus : (w : Word) → AllDigits 16 w → get_or w 0 0 ≢ 43
no_plus [] all e = cc
no_plus (c ∷ cs) all e = let first = rw e at all.0 in absurd (omega (arith, first))

-- n digits parse to the number that they spell, if k bits hold n digits
parse-digits : {E : Type 0} (n k : ℕ) (w : Word) (r : Result ℕ E) → ParsesUnsigned k 16 w r → are_digits n w ≡ true → 0 < n → 16 ^ n ≤ 2 ^ k →
    r ≡ Ok (digits_value 16 w)
parse-digits {E = E} n k w r parsed is some fits =
    let two = and_parts _ _ is in
    let long : length w ≡ n = eqb-true _ _ two.0 in
    let all = AllDigits-hex w two.1 in
    let below : digits_value 16 w < 16 ^ n = rw long at (digits_value-lt 16 w all) in
    let plain = rw (without_leading_plus_none w (no_plus w all)) at parsed in
    given r plain ((omega arith, all), omega arith)
  where
    given : (s : Result ℕ E) → OkIff s (IsNumeral 16 w × (digits_value 16 w < 2 ^ k)) (digits_value 16 w) → IsNumeral 16 w × (digits_value 16 w < 2 ^ k) →
        s ≡ Ok (digits_value 16 w)
    given (Ok x) h holds = ap Ok h.1
    given (Err e) h holds = absurd (h holds)

-- a digit is 4 bits
pub parse-64_bits : {E : Type 0} (w : Word) (r : Result ℕ E) → ParsesUnsigned 64 16 w r → are_digits 16 w ≡ true → r ≡ Ok (digits_value 16 w)
parse-64_bits w r parsed is = parse-digits 16 64 w r parsed is (omega arith) (omega arith)

pub parse-128_bits : {E : Type 0} (w : Word) (r : Result ℕ E) → ParsesUnsigned 128 16 w r → are_digits 32 w ≡ true → r ≡ Ok (digits_value 16 w)
parse-128_bits w r parsed is = parse-digits 32 128 w r parsed is (omega arith) (omega arith)

-- what is decoded of more than one digit are the bytes of the word
hex_bytes-decoded : (w : Word) (bytes : List ℕ) → 1 < length w → decode_of w ≡ Ok bytes → hex_bytes w ≡ bytes
hex_bytes-decoded w bytes long read =
    let other : bytes_eq w (codes "-") ≡ false =
    false_from_ne_true _ (λ dash. let alone = ap length ((bytes_eq-Decides w (codes "-")).0 dash) in absurd (omega arith)) in
    rw other (ap decoded read)

-- two digits for each of n bytes are decoded as them
pub decode_sized-digits : (n : ℕ) (w : Word) → are_digits (2 * n) w ≡ true → 0 < n → decode_sized w n ≡ Ok (hex_bytes w)
decode_sized-digits n w is some =
    let two = and_parts _ _ is in
    let long : length w ≡ 2 * n = eqb-true _ _ two.0 in
    let read = decode_of-digits w (omega arith) (digits_decode w two.1) in
    decode_sized-twice w n long ∙ read.1 ∙ ap Ok (sym (hex_bytes-decoded w read.0 (omega arith) read.1))
