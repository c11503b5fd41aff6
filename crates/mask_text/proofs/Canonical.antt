-- What is written is read as the words of its lines.
use Rattle.std.proofs.Common.{◌≡◌, ℕ, suc, ◌-◌, ◌^◌, ◌<◌, ◌≤◌, Bool, true, false, leb, eqb, cond, List, [], ◌∷◌, ◌++◌, length, get_or, map, refl, ap, ◌∙◌, append_assoc, arith, leb-true, le-leb, ne_eqb}
use Rattle.std.specs.List.{All, list_all}
use Rattle.std.specs.Fmt.{decimal}
use Rattle.std.proofs.lemmas.Bool.{and_parts, and_from, cond-false}
use Rattle.std.proofs.lemmas.Fmt.{digits_decimal, decimal_nonempty}
use Rattle.std.proofs.lemmas.List.Folds.{list_all-append}
use Rattle.std.proofs.lemmas.List.Elements.{All-from_get_or}
use Rattle.std.proofs.lemmas.List.Splits.{slice_split_at, slice_split_none}
use Rattle.mask_circuit.specs.declared.gates.Gate.{Gate}
use Rattle.mask_circuit.specs.declared.gates.Gate.TheVariants.{Zero, One, Xor, Not, And, Ref}
use Rattle.mask_circuit.specs.Labels.{is_name}
use Rattle.mask_circuit.specs.Text.{Line, First, Second, Inputs, Input, Makes, Output, Out, End, line_words, spaced, spelling}
use Rattle.mask_text.specs.Lines.{split_at, text_lines, bare, solid, words_of, words, is_passed_over, kept, spoken}
use Rattle.mask_text.specs.Sayings.{is_digit}
use Rattle.mask_text.proofs.Complete.{AllSmall}
use Rattle.mask_text.proofs.Meanings.{IsSmall, IsSmallGate}
use Rattle.mask_text.proofs.Numbers.{own}
use Rattle.mask_text.proofs.Pieces.{lines_at, no_lines}
use Rattle.mask_text.proofs.Spellings.{name_means, all_at}

-- no byte is below n
abbrev are_from : ℕ → List ℕ → Bool
are_from n bytes = list_all (λ b. leb n b) bytes

-- a word as it is written: it has a byte, and no space, control character or #
record IsWord (word : List ℕ) : Type 0 where
  some : 0 < length word
  bytes : are_from 45 word ≡ true

abbrev AreWords : List (List ℕ) → Type 0
AreWords [] = Unit {0}
AreWords (word ∷ more) = IsWord word × AreWords more

from_weaker : (m n : ℕ) (bytes : List ℕ) → m ≤ n → are_from n bytes ≡ true → are_from m bytes ≡ true
from_weaker m n [] less all = refl
from_weaker m n (b ∷ bs) less all =
    let parts = and_parts (leb n b) (are_from n bs) all in
    let here = leb-true n b parts.0 in
    and_from _ _ (le-leb m b (omega arith)) (from_weaker m n bs less parts.1)

-- what is below n isn't among the bytes
from_apart : (n separator : ℕ) (bytes : List ℕ) → separator < n → are_from n bytes ≡ true → All (λ b. eqb b separator ≡ false) bytes
from_apart n separator bytes below all = All-from_get_or (λ b. eqb b separator ≡ false) bytes 0
    (λ i within. let here = leb-true n (get_or bytes i 0) (all_at (λ b. leb n b) bytes i all within) in ne_eqb _ _ (λ e. omega arith))

-- the words of a line
digits_from : (bytes : List ℕ) → list_all is_digit bytes ≡ true → are_from 45 bytes ≡ true
digits_from [] all = refl
digits_from (b ∷ bs) all =
    let parts = and_parts (is_digit b) (list_all is_digit bs) all in
    let low = leb-true 48 b (and_parts (leb 48 b) (leb b 57) parts.0).0 in
    and_from _ _ (le-leb 45 b (omega arith)) (digits_from bs parts.1)

number_word : (n : ℕ) → n < 10 ^ 9 → IsWord (decimal n)
number_word n small =
    let fits : n < 2 ^ 64 = omega arith in
    record { some = decimal_nonempty n fits; bytes = digits_from (decimal n) (digits_decimal own n fits) }

name_from : (bytes : List ℕ) → ((k : ℕ) → k < length bytes → (45 ≤ get_or bytes k 0) × (get_or bytes k 0 ≤ 122)) → are_from 45 bytes ≡ true
name_from [] each = refl
name_from (b ∷ bs) each = and_from _ _ (le-leb 45 b (each 0 (omega arith)).0) (name_from bs (λ k below. each (suc k) (omega arith)))

name_word : (name : List ℕ) → is_name name ≡ true → IsWord name
name_word name named = let is = name_means name named in record { some = is.some; bytes = name_from name is.bytes }

-- a word that is written out
word : (bytes : List ℕ) → leb 1 (length bytes) ≡ true → are_from 45 bytes ≡ true → IsWord bytes
word bytes some all = record { some = leb-true 1 (length bytes) some; bytes = all }

gate_words_are : (gate : Gate) → IsSmallGate gate → AreWords (line_words (Makes gate))
gate_words_are Zero small = (word _ refl refl, tt)
gate_words_are One small = (word _ refl refl, tt)
gate_words_are (Xor u v) small = (word _ refl refl, (number_word u small.0, (number_word v small.1, tt)))
gate_words_are (Not u) small = (word _ refl refl, (number_word u small, tt))
gate_words_are (And u v) small = (word _ refl refl, (number_word u small.0, (number_word v small.1, tt)))
gate_words_are (Ref u) small = (word _ refl refl, (number_word u small, tt))

line_words_are : (line : Line) → IsSmall line → AreWords (line_words line)
line_words_are First small = (word _ refl refl, (word _ refl refl, tt))
line_words_are Second small = (word _ refl refl, (word _ refl refl, tt))
line_words_are (Inputs n) small = (word _ refl refl, (number_word n small, tt))
line_words_are (Input name n) small = (word _ refl refl, (name_word name small.0, (number_word n small.2, tt)))
line_words_are (Makes gate) small = gate_words_are gate small
line_words_are (Output name n) small = (word _ refl refl, (name_word name small.0, (number_word n small.2, tt)))
line_words_are (Out u) small = (word _ refl refl, (number_word u small, tt))
line_words_are End small = (word _ refl refl, tt)

-- joined words have no control characters
spaced_from : (ws : List (List ℕ)) → AreWords ws → are_from 32 (spaced ws) ≡ true
spaced_from [] are = refl
spaced_from (w ∷ []) are = let is = are.0 in from_weaker 32 45 w (omega arith) is.bytes
spaced_from (w ∷ (v ∷ ws)) are =
    let is = are.0 in
    list_all-append (λ b. leb 32 b) w (32 ∷ spaced (v ∷ ws)) ∙ and_from _ _ (from_weaker 32 45 w (omega arith) is.bytes) (spaced_from (v ∷ ws) are.1)

solid-first : (w : List ℕ) (pieces : List (List ℕ)) → 0 < length w → solid (w ∷ pieces) ≡ w ∷ solid pieces
solid-first [] pieces some = absurd (omega arith)
solid-first (b ∷ bs) pieces some = refl

-- splitting at spaces undoes joining by spaces
words_of-spaced : (ws : List (List ℕ)) → AreWords ws → words_of (spaced ws) ≡ ws
unfolding words_of split_at
words_of-spaced [] are = refl
words_of-spaced (w ∷ []) are =
    let is = are.0 in
    ap solid (slice_split_none (λ b. eqb b 32) w (from_apart 45 32 w (omega arith) is.bytes)) ∙ solid-first w [] is.some
words_of-spaced (w ∷ (v ∷ ws)) are =
    let is = are.0 in
    ap solid (slice_split_at (λ b. eqb b 32) w 32 (spaced (v ∷ ws)) (from_apart 45 32 w (omega arith) is.bytes) refl)
    ∙ solid-first w _ is.some ∙ ap (λ xs. w ∷ xs) (words_of-spaced (v ∷ ws) are.1)

-- no carriage return ends the line
bare-from : (line : List ℕ) → are_from 32 line ≡ true → bare line ≡ line
unfolding bare
bare-from [] all = refl
bare-from (b ∷ bs) all =
    let last = leb-true 32 (get_or (b ∷ bs) (length (b ∷ bs) - 1) 0) (all_at (λ c. leb 32 c) (b ∷ bs) (length (b ∷ bs) - 1) all (omega arith)) in
    cond-false _ _ _ (ne_eqb (get_or (b ∷ bs) (length (b ∷ bs) - 1) 0) 13 (λ e. omega arith))

words-spaced : (ws : List (List ℕ)) → AreWords ws → words (spaced ws) ≡ ws
words-spaced ws are = ap words_of (bare-from (spaced ws) (spaced_from ws are)) ∙ words_of-spaced ws are

-- a line of words, of which the first doesn't begin with #, counts
counts : (w : List ℕ) (ws : List (List ℕ)) → IsWord w → is_passed_over (w ∷ ws) ≡ false
counts w ws is =
    let some = is.some in
    let first = leb-true 45 (get_or w 0 0) (all_at (λ b. leb 45 b) w 0 is.bytes some) in
    ne_eqb (get_or w 0 0) 35 (λ e. omega arith)

kept-one : (line : List ℕ) (ws : List (List ℕ)) (lines : List (List ℕ)) → words line ≡ ws → is_passed_over ws ≡ false → kept (line ∷ lines)
    ≡ ws ∷ kept lines
kept-one line ws lines e count = ap (λ xs. cond (is_passed_over xs) (kept lines) (xs ∷ kept lines)) e ∙ cond-false _ _ _ count

line_counts : (line : Line) → IsSmall line → is_passed_over (line_words line) ≡ false
line_counts First small = refl
line_counts Second small = refl
line_counts (Inputs n) small = refl
line_counts (Input name n) small = refl
line_counts (Makes Zero) small = refl
line_counts (Makes One) small = refl
line_counts (Makes (Xor u v)) small = refl
line_counts (Makes (Not u)) small = refl
line_counts (Makes (And u v)) small = refl
line_counts (Makes (Ref u)) small = refl
line_counts (Output name n) small = refl
line_counts (Out u) small = refl
line_counts End small = refl

-- what is written says its lines
pub spoken-spelling : (lines : List Line) → AllSmall lines → spoken (spelling lines) ≡ map line_words lines
spoken-spelling [] small = ap kept no_lines
spoken-spelling (line ∷ lines) small =
    let text = spaced (line_words line) in
    let are = line_words_are line small.0 in
    let first : text_lines ((text ++ 10 ∷ []) ++ spelling lines) ≡ text ∷ text_lines (spelling lines) =
    ap text_lines (append_assoc text (10 ∷ []) (spelling lines))
    ∙ lines_at text (spelling lines) (from_apart 32 10 text (omega arith) (spaced_from (line_words line) are)) in
    ap kept first ∙ kept-one text (line_words line) (text_lines (spelling lines)) (words-spaced (line_words line) are) (line_counts line small.0)
    ∙ ap (λ xs. line_words line ∷ xs) (spoken-spelling lines small.1)
