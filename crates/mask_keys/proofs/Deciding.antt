-- A key file stands for one list of lines, or has a first fault.
use Rattle.std.proofs.Common.{◌≡◌, ℕ, zero, suc, ◌*◌, ◌<◌, ◌≤◌, ◌⊎◌, inl, inr, ◌==◌, Bool, true, false, not, ◌&&◌, nat_le, nat_lt, cond, Result, Ok, Err, Some, None, Option, List, [], ◌∷◌, map, length, get_or, refl, sym, ap, ap₂, ◌∙◌, subst, arith, eq-eqb, eqb-true}
use Rattle.std.specs.Result.{is_ok, result_unwrap_or}
use Rattle.std.specs.List.{All, position, position_or_len}
use Rattle.std.proofs.lemmas.Bool.{and_parts, le-leb, ltb-false, not-false}
use Rattle.std.proofs.lemmas.List.{length-map}
use Rattle.std.proofs.lemmas.List.Sums.{fails_before_first}
use Rattle.hex.specs.declared.error.FromHexError.{FromHexError}
use Rattle.hex.proofs.HexLemmas.{decode_sized-ok, decode_sized-twice, decode_of-ok}
use Rattle.mask_text.specs.Lines.{text_lines, bare}
use Rattle.mask_keys.specs.declared.files.KeyLength.{KeyLength}
use Rattle.mask_keys.specs.declared.files.KeyLength.TheVariants.{Exactly, Any}
use Rattle.mask_keys.specs.declared.files.KeyError.{KeyError}
use Rattle.mask_keys.specs.declared.files.KeyError.TheVariants.{Count}
use Rattle.mask_keys.specs.Lines.{line_length}
use Rattle.mask_keys.specs.Files.{spelled, is_in_form, wanted, first_bad, fault, fault_of, IsAsked, IsKeyFile}
use Rattle.mask_keys.specs.Laws.{StandsForOne, IsFaulty, KeyFileOrFault}
use Rattle.mask_keys.proofs.Finding.{position-none, form_bounds, is_asked}

-- SPELLING

-- a line has two digits for each byte that it spells
digits : (n : ℕ) (line key : List ℕ) → spelled n line ≡ Ok key → length (bare line) ≡ 2 * n
digits n line key e = decode_sized-ok (bare line) n key e

-- it spells as many bytes as it has to
pub spelled-long : (n : ℕ) (line key : List ℕ) → spelled n line ≡ Ok key → length key ≡ n
spelled-long n line key e =
    let two = digits n line key e in
    let ok = decode_of-ok (bare line) key (sym (decode_sized-twice (bare line) n two) ∙ e) in
    omega (arith, ok.2)

-- the lines that are spelled
abbrev pub keys_on : ℕ → List (List ℕ) → List (List ℕ)
keys_on n lines = map (λ (line : List ℕ). result_unwrap_or (spelled n line) []) lines

unwrapped : (r : Result (List ℕ) FromHexError) → is_ok r ≡ true → r ≡ Ok (result_unwrap_or r [])
unwrapped (Ok x) is = refl
unwrapped (Err e) is = absurd (cc)

map-Ok : (as' bs : List (List ℕ)) → ◌≡◌ {A = List (Result (List ℕ) FromHexError)} (map Ok as') (map Ok bs) → as' ≡ bs
map-Ok [] [] e = refl
map-Ok [] (b ∷ bs) e = absurd (cc)
map-Ok (a ∷ as') [] e = absurd (cc)
map-Ok (a ∷ as') (b ∷ bs) e =
    let both = heads a b (map Ok as') (map Ok bs) e in
    ap₂ (λ (x : List ℕ) (xs : List (List ℕ)). x ∷ xs) both.0 (map-Ok as' bs both.1)
  where
    heads : (a b : List ℕ) (xs ys : List (Result (List ℕ) FromHexError)) → ◌≡◌ {A = List (Result (List ℕ) FromHexError)} (Ok a ∷ xs) (Ok b ∷ ys) → (a ≡ b) × (xs ≡ ys)
    heads a b xs ys e = (cc, cc)

-- what is spelled by some line is spelled by the line at its place
spells-at : (n : ℕ) (lines ks : List (List ℕ)) → map (spelled n) lines ≡ map Ok ks → (k : ℕ) (d : List ℕ) → k < length lines →
    spelled n (get_or lines k d) ≡ Ok (get_or ks k d)
spells-at n [] ks e k d lt = absurd (omega arith)
spells-at n (line ∷ lines) [] e k d lt = absurd (cc)
spells-at n (line ∷ lines) (key ∷ ks) e zero d lt = cc
spells-at n (line ∷ lines) (key ∷ ks) e (suc k) d lt =
    let rest : map (spelled n) lines ≡ map Ok ks = cc in spells-at n lines ks rest k d (omega arith)

-- KEY FILES

-- as many lines as keys
many : (count : ℕ) (asked : KeyLength) (bytes : List ℕ) (lines : List (List ℕ)) → IsKeyFile count asked bytes lines → length (text_lines bytes) ≡ length lines
many count asked bytes lines file =
    sym (length-map (text_lines bytes) (spelled (line_length lines))) ∙ ap length file.spells ∙ length-map lines Ok

-- the lines have the length that is wanted
wanted-is : (count : ℕ) (asked : KeyLength) (bytes : List ℕ) (lines : List (List ℕ)) → IsKeyFile count asked bytes lines → wanted asked (text_lines bytes) ≡ line_length lines
wanted-is count (Exactly n) bytes lines file = sym file.long
wanted-is count Any bytes lines file = by (text_lines bytes) file.spells (omega (arith, many count Any bytes lines file, file.shape.some))
  where
    by : (found : List (List ℕ)) → map (spelled (line_length lines)) found ≡ map Ok lines → 1 ≤ length found → wanted Any found ≡ line_length lines
    by [] e some = absurd (omega arith)
    by (line ∷ found) e some =
        let two = digits (line_length lines) line (get_or lines 0 []) (spells-at (line_length lines) (line ∷ found) lines e 0 [] (omega arith)) in
        omega arith

pub stands_once : (count : ℕ) (asked : KeyLength) (bytes : List ℕ) (a b : List (List ℕ)) → IsKeyFile count asked bytes a → IsKeyFile count asked bytes b → a ≡ b
stands_once count asked bytes a b f g =
    let same : line_length b ≡ line_length a = sym (wanted-is count asked bytes b g) ∙ wanted-is count asked bytes a f in
    map-Ok a b (sym f.spells ∙ ap (λ (n : ℕ). map (spelled n) (text_lines bytes)) (sym same) ∙ g.spells)

-- a key file has no fault
pub no_fault : (count : ℕ) (asked : KeyLength) (bytes : List ℕ) (lines : List (List ℕ)) → IsKeyFile count asked bytes lines → fault count asked bytes ≡ None
unfolding fault
no_fault count asked bytes lines file =
    let n = line_length lines in
    let same = wanted-is count asked bytes lines file in
    let form : (k : ℕ) (d : List ℕ) → k < length (text_lines bytes) → not (is_in_form (line_length lines) (get_or (text_lines bytes) k d)) ≡ false
    = λ k d lt.
    let low = le-leb 1 (line_length lines) file.shape.filled in
    let high = le-leb (line_length lines) 64 file.shape.short in
    let ok = ap is_ok (spells-at (line_length lines) (text_lines bytes) lines file.spells k d lt) in
    rw (low, high, ok) refl
    in
    let none : first_bad asked (text_lines bytes) ≡ None =
    ap (λ (m : ℕ). position (λ (l : List ℕ). not (is_in_form m l)) (text_lines bytes)) same
    ∙ position-none (λ (l : List ℕ). not (is_in_form (line_length lines) l)) (text_lines bytes) form in
    ap₂ (fault_of count) (many count asked bytes lines file ∙ file.many) none ∙ ap (λ (t : Bool). cond t None (Some (Count count))) (eq-eqb count count refl)

-- where no line is found bad, all are in form
position-None : {X : Type 0} (p : X → Bool) (xs : List X) → position p xs ≡ None → All (λ x. p x ≡ false) xs
position-None p xs none k d lt = fails_before_first p xs k d (omega (arith, past (nat_lt (position_or_len p xs) (length xs)) refl none))
  where
    past : (t : Bool) → nat_lt (position_or_len p xs) (length xs) ≡ t → cond t (Some (position_or_len p xs)) None ≡ None → length xs ≤ position_or_len p xs
    past true at e = absurd (cc)
    past false at e = ltb-false _ _ at

-- no line is bad, and there are as many as asked
no_fault_of : (count found : ℕ) (o : Option ℕ) → fault_of count found o ≡ None → (o ≡ None) × (found ≡ count)
no_fault_of count found (Some place) e = absurd (cc)
no_fault_of count found None e = (refl, by (found == count) refl e)
  where
    by : (t : Bool) → (found == count) ≡ t → cond t None (Some (Count found)) ≡ None → found ≡ count
    by true at e = eqb-true found count at
    by false at e = absurd (cc)

-- lines in form are spelled
all_spelled : (n : ℕ) (lines : List (List ℕ)) → All (λ (line : List ℕ). is_in_form n line ≡ true) lines → map (spelled n) lines ≡ map Ok (keys_on n lines)
all_spelled n [] all = refl
all_spelled n (line ∷ lines) all =
    let here = and_parts (nat_le 1 n && nat_le n 64) (is_ok (spelled n line)) (all 0 [] (omega arith)) in
    ap₂ (λ (r : Result (List ℕ) FromHexError) (rs : List (Result (List ℕ) FromHexError)). r ∷ rs) (unwrapped (spelled n line) here.1)
    (all_spelled n lines (λ k d lt. all (suc k) d (omega arith)))

-- what has no fault is a key file
pub stands : (count : ℕ) (asked : KeyLength) (bytes : List ℕ) → 1 ≤ count → count ≤ 8 → fault count asked bytes ≡ None →
    IsKeyFile count asked bytes (keys_on (wanted asked (text_lines bytes)) (text_lines bytes))
unfolding fault
stands count asked bytes some few none = record {
  shape = record {
    some = omega (arith, length-map found key, parts.1);
    few = omega (arith, length-map found key, parts.1);
    filled = omega (arith, bounds.0, first);
    short = omega (arith, bounds.1, first);
    equal = λ k d lt. long k d lt ∙ sym first;
  };
  spells = ap (λ (m : ℕ). map (spelled m) found) first ∙ all_spelled n found in_form;
  long = subst (IsAsked asked) (sym first) (is_asked asked found n refl);
  many = length-map found key ∙ parts.1;
}
  where
    found : List (List ℕ)
    found = text_lines bytes

    n : ℕ
    n = wanted asked (text_lines bytes)

    key : List ℕ → List ℕ
    key line = result_unwrap_or (spelled (wanted asked (text_lines bytes)) line) []

    parts : (first_bad asked (text_lines bytes) ≡ None) × (length (text_lines bytes) ≡ count)
    parts = no_fault_of count (length (text_lines bytes)) (first_bad asked (text_lines bytes)) none

    in_form : All (λ (line : List ℕ). is_in_form (wanted asked (text_lines bytes)) line ≡ true) (text_lines bytes)
    in_form k d lt = not-false _ (position-None (λ (l : List ℕ). not (is_in_form (wanted asked (text_lines bytes)) l)) (text_lines bytes) parts.0 k d lt)

    bounds : (1 ≤ wanted asked (text_lines bytes)) × (wanted asked (text_lines bytes) ≤ 64)
    bounds = form_bounds (wanted asked (text_lines bytes)) (get_or (text_lines bytes) 0 []) (in_form 0 [] (omega (arith, parts.1)))

    long : (k : ℕ) (d : List ℕ) → k < length (keys_on (wanted asked (text_lines bytes)) (text_lines bytes)) → length (get_or (keys_on (wanted asked (text_lines bytes)) (text_lines bytes)) k d) ≡ wanted asked (text_lines bytes)
    long k d lt =
        let within : k < length (text_lines bytes) = omega (arith, length-map (text_lines bytes) key) in
        spelled-long (wanted asked (text_lines bytes)) (get_or (text_lines bytes) k d) _
        (spells-at (wanted asked (text_lines bytes)) (text_lines bytes) (keys_on (wanted asked (text_lines bytes)) (text_lines bytes))
        (all_spelled (wanted asked (text_lines bytes)) (text_lines bytes) in_form) k d within)

    first : line_length (keys_on (wanted asked (text_lines bytes)) (text_lines bytes)) ≡ wanted asked (text_lines bytes)
    first = long 0 [] (omega (arith, length-map (text_lines bytes) key, parts.1))

-- either there is no fault, or a first one
pub file_or_fault : KeyFileOrFault
file_or_fault count asked bytes some few = by (fault count asked bytes) refl
  where
    by : (o : Option KeyError) → fault count asked bytes ≡ o → StandsForOne count asked bytes ⊎ IsFaulty count asked bytes
    by None none =
        let file = stands count asked bytes some few none in
        inl (record {
          lines = keys_on (wanted asked (text_lines bytes)) (text_lines bytes);
          stands = file;
          no_other = λ other is. stands_once count asked bytes other (keys_on (wanted asked (text_lines bytes)) (text_lines bytes)) is file;
          no_fault = none;
        })
    by (Some first) is = inr (record {
      first = first;
      is_first = is;
      stands_for_none = λ lines file. let none = no_fault count asked bytes lines file in absurd (cc);
    })
