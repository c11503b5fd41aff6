-- What is written of key lines reads back as these lines.
use Rattle.std.proofs.Common.{◌≡◌, ℕ, suc, ◌+◌, ◌-◌, ◌*◌, ◌/◌, ◌%◌, ◌<◌, ◌≤◌, inl, inr, eqb, Bool, true, false, not, cond, Result, Ok, List, [], ◌∷◌, map, flat_map, length, get_or, take, refl, sym, ap, ap₂, ◌∙◌, subst, arith, length-append, append_assoc, lit<}
use Rattle.std.specs.List.{All, list_all}
use Rattle.std.proofs.lemmas.Bool.{cases_lt, not-true}
use Rattle.std.proofs.lemmas.List.{get_or_past}
use Rattle.std.proofs.lemmas.List.Elements.{All-cons, All-nil}
use Rattle.std.proofs.lemmas.List.Sums.{AllPass-from_list_all}
use Rattle.std.proofs.Math.Nat.{mul-le-mul_right}
use Rattle.hex.specs.Hex.{IsBytes, decode_sized, encode_with, encode_lower, lower_digits}
use Rattle.hex.specs.declared.error.FromHexError.{FromHexError}
use Rattle.hex.proofs.HexLemmas.{length-encode_with, decode_of-encode_lower, decode_sized-twice}
use Rattle.mask_text.specs.Lines.{text_lines, bare}
use Rattle.mask_text.proofs.Pieces.{lines_at, no_lines}
use Rattle.mask_keys.specs.Lines.{line_length}
use Rattle.mask_keys.specs.Files.{spelled, line_text, key_file}
use Rattle.mask_bits.specs.Reading.{AreBytes}
use Rattle.mask_keys.specs.Laws.{KeyFileReadsBack}

-- a byte that is no lower-case digit: the line feed and the carriage return are two
record IsNoDigit (b : ℕ) : Type 0 where
  none : (k : ℕ) → eqb (get_or lower_digits k 0) b ≡ false

-- no such byte is in what is encoded
encoded-lacks : (b : ℕ) (bytes : List ℕ) → IsNoDigit b → All (λ (x : ℕ). eqb x b ≡ false) (encode_lower bytes)
unfolding encode_with
encoded-lacks b [] lacks = All-nil (λ (x : ℕ). eqb x b ≡ false)
encoded-lacks b (x ∷ bytes) lacks =
    let low = get_or lower_digits (x % 16) 0 in
    All-cons (λ (c : ℕ). eqb c b ≡ false) (get_or lower_digits (x / 16) 0) (low ∷ encode_lower bytes) (lacks.none (x / 16))
    (All-cons (λ (c : ℕ). eqb c b ≡ false) low (encode_lower bytes) (lacks.none (x % 16)) (encoded-lacks b bytes lacks))

-- each digit and the default of none
table_lacks : (b : ℕ) (digits : List ℕ) → eqb 0 b ≡ false → list_all (λ (x : ℕ). not (eqb x b)) digits ≡ true → (k : ℕ) → eqb (get_or digits k 0) b ≡ false
table_lacks b digits none all k = elim (cases_lt k (length digits)) [
  | inl within ↦ not-true _ (AllPass-from_list_all (λ (x : ℕ). not (eqb x b)) digits all k 0 within)
  | inr past ↦ ap (λ (x : ℕ). eqb x b) (get_or_past digits k 0 past) ∙ none
]

line_feed : IsNoDigit 10
line_feed = record { none = table_lacks 10 lower_digits refl refl }

carriage_return : IsNoDigit 13
carriage_return = record { none = table_lacks 13 lower_digits refl refl }

-- what is encoded ends with no carriage return
bare-encoded : (bytes : List ℕ) → 1 ≤ length bytes → bare (encode_lower bytes) ≡ encode_lower bytes
unfolding bare
bare-encoded bytes some =
    let long = length-encode_with lower_digits bytes in
    let last = encoded-lacks 13 bytes carriage_return (length (encode_lower bytes) - 1) 0 (omega arith) in
    ap (λ (t : Bool). cond t (take (length (encode_lower bytes) - 1) (encode_lower bytes)) (encode_lower bytes)) last

-- the line of a key spells it
spelled-encoded : (n : ℕ) (key : List ℕ) → 1 ≤ n → length key ≡ n → AreBytes key → spelled n (encode_lower key) ≡ Ok key
spelled-encoded n key some long are_bytes =
    let two = length-encode_with lower_digits key in
    ap (λ (text : List ℕ). decode_sized text n) (bare-encoded key (omega arith))
    ∙ decode_sized-twice (encode_lower key) n (omega arith)
    ∙ decode_of-encode_lower key bytes
  where
    bytes : IsBytes key
    bytes i = elim (cases_lt i (length key)) [
      | inl within ↦ are_bytes i 0 within
      | inr past ↦ subst (λ (x : ℕ). x < 256) (sym (get_or_past key i 0 past)) (lit< tt)
    ]

-- the lines of a key file that was written
lines-of_file : (lines : List (List ℕ)) → text_lines (key_file lines) ≡ map encode_lower lines
unfolding key_file
lines-of_file [] = no_lines
lines-of_file (line ∷ lines) =
    ap text_lines (append_assoc (encode_lower line) (10 ∷ []) (flat_map line_text lines))
    ∙ lines_at (encode_lower line) (flat_map line_text lines) (encoded-lacks 10 line line_feed)
    ∙ ap (λ (l : List (List ℕ)). encode_lower line ∷ l) (lines-of_file lines)

spells : (n : ℕ) (lines : List (List ℕ)) → 1 ≤ n → All (λ (line : List ℕ). length line ≡ n) lines → All AreBytes lines →
    map (spelled n) (map encode_lower lines) ≡ map Ok lines
spells n [] some long are_bytes = refl
spells n (line ∷ lines) some long are_bytes =
    ap₂ (λ (r : Result (List ℕ) FromHexError) (rs : List (Result (List ℕ) FromHexError)). r ∷ rs)
    (spelled-encoded n line some (long 0 [] (omega arith)) (are_bytes 0 [] (omega arith)))
    (spells n lines some (λ k d lt. long (suc k) d (omega arith)) (λ k d lt. are_bytes (suc k) d (omega arith)))

-- how long it is
length-key_file : (n : ℕ) (lines : List (List ℕ)) → All (λ (line : List ℕ). length line ≡ n) lines → length (key_file lines) ≡ length lines * (2 * n + 1)
unfolding key_file
length-key_file n [] long = omega arith
length-key_file n (line ∷ lines) long =
    let here : length line ≡ n = long 0 [] (omega arith) in
    let rest = length-key_file n lines (λ k d lt. long (suc k) d (omega arith)) in
    let two = length-encode_with lower_digits line in
    omega (arith, length-append (line_text line) (flat_map line_text lines), length-append (encode_lower line) (10 ∷ []))

pub reads_back : KeyFileReadsBack
reads_back lines are are_bytes =
    let n = line_length lines in
    let filled = are.filled in
    let short = are.short in
    let few = are.few in
    let spelled_all : map (spelled (line_length lines)) (text_lines (key_file lines)) ≡ map Ok lines =
    ap (map (spelled (line_length lines))) (lines-of_file lines) ∙ spells (line_length lines) lines filled are.equal are_bytes in
    let most : length lines * (2 * line_length lines + 1) ≤ 8 * (2 * line_length lines + 1) = mul-le-mul_right (2 * line_length lines + 1) few in
    record {
      exactly = record { shape = are; spells = spelled_all; long = refl; many = refl };
      any = record { shape = are; spells = spelled_all; long = tt; many = refl };
      short = omega (arith, length-key_file (line_length lines) lines are.equal);
    }
