-- Blocks as four words and as 128 values, and the number that they stand for.
use Rattle.std.proofs.Common.{◌≡◌, ℕ, ◌+◌, ◌*◌, ◌^◌, ◌<◌, ◌≤◌, Bool, List, [], ◌∷◌, ◌++◌, length, map, take, drop, All, refl, sym, ap, ap₂, ◌∙◌, arith, length-append, bit_xor, lit<, slice_index, slice_set}
use Rattle.std.specs.List.{range_with_len, concat}
use Rattle.std.proofs.lemmas.List.{length-map, length-take-le, length-drop, map-append, take-append-drop, drop-drop, drop_all}
use Rattle.std.proofs.lemmas.List.Elements.{All-nil, All-head, All-tail, All-append, All-take, All-drop, All-from_recursion}
use Rattle.mask_bits.specs.Reading.{number}
use Rattle.mask_bits.proofs.Numbers.{number-append}
use Rattle.mask_circuit.specs.Netlist.{Netlist}
use Rattle.mask_circuit.specs.Value.{value_at}
use Rattle.mask_parts.specs.Turns.{in_turn}
use Rattle.mask_parts.specs.Words32.{joined}
use Rattle.mask_parts.proofs.Joining.{xor-joined}
use Rattle.mask_parts.proofs.Passing.{IsReady}
use Rattle.mask_parts.proofs.Ranges.{elements}
use Rattle.mask_parts.proofs.WordPassing.{IsWord}
use Rattle.mask_parts.proofs.WordShowing.{shown}
use Rattle.mask_chaskey.specs.NamedChaskey.{four_words}

-- FOUR WORDS

-- a part of 32 values and what comes after it
part : (n : ℕ) (us : List ℕ) → take 32 (drop n us) ++ drop (n + 32) us ≡ drop n us
part n us = ap (λ (vs : List ℕ). take 32 (drop n us) ++ vs) (sym (drop-drop 32 n us)) ∙ take-append-drop 32 (drop n us)

last_part : (us : List ℕ) → length us ≡ 128 → take 32 (drop 96 us) ++ [] ≡ drop 96 us
last_part us long = ap (λ (vs : List ℕ). take 32 (drop 96 us) ++ vs) (sym (drop_all (96 + 32) us (omega arith))) ∙ part 96 us

pub concat-four_words : (us : List ℕ) → length us ≡ 128 → concat (four_words us) ≡ us
unfolding four_words
concat-four_words us long = rw (last_part us long, part 64 us, part 32 us) (take-append-drop 32 us)

module _ (T : Type 0) (c : Netlist) where
  part-word : (n : ℕ) (us : List ℕ) → n + 32 ≤ length us → All (IsReady T c) us → IsWord T c (take 32 (drop n us))
  part-word n us within ready = record {
    long = length-take-le 32 (drop n us) (rw (length-drop n us) (omega arith));
    ready = All-take (IsReady T c) 32 (drop n us) (All-drop (IsReady T c) n us ready);
  }

  pub All-four_words : (us : List ℕ) → length us ≡ 128 → All (IsReady T c) us → All (IsWord T c) (four_words us)
  unfolding four_words
  All-four_words us long ready =
      All-from_recursion (IsWord T c) (four_words us)
      (part-word 0 us (omega arith) ready, (part-word 32 us (omega arith) ready, (part-word 64 us (omega arith) ready, (part-word 96 us (omega arith) ready, tt))))

  pub length-concat : (ws : List (List ℕ)) → All (IsWord T c) ws → length (concat ws) ≡ length ws * 32
  length-concat [] all = refl
  length-concat (w ∷ ws) all =
      let here = (All-head (IsWord T c) w ws all).long in
      let rest = length-concat ws (All-tail (IsWord T c) w ws all) in
      length-append w (concat ws) ∙ omega arith

  pub All-concat : (ws : List (List ℕ)) → All (IsWord T c) ws → All (IsReady T c) (concat ws)
  All-concat [] all = All-nil (IsReady T c)
  All-concat (w ∷ ws) all =
      All-append (IsReady T c) w (concat ws) (All-head (IsWord T c) w ws all).ready (All-concat ws (All-tail (IsWord T c) w ws all))

pub length-four_words : (us : List ℕ) → length (four_words us) ≡ 4
unfolding four_words
length-four_words us = refl

-- NUMBERS

module _ (T : Type 0) (vs : List Bool) (c : Netlist) where
  pub shown-concat : (ws : List (List ℕ)) → All (IsWord T c) ws → shown vs (concat ws) ≡ joined (map (shown vs) ws)
  unfolding joined
  shown-concat [] all = refl
  shown-concat (w ∷ ws) all =
      let is : IsWord T c w = All-head (IsWord T c) w ws all in
      let long : length (map (value_at vs) w) ≡ 32 = length-map w (value_at vs) ∙ is.long in
      ap number (map-append (value_at vs) w (concat ws))
      ∙ number-append (map (value_at vs) w) (map (value_at vs) (concat ws))
      ∙ rw (long, shown-concat ws (All-tail (IsWord T c) w ws all)) refl

-- THE XOR OF BLOCKS

-- word k of these xored with that of others
abbrev pub word_xored : List ℕ → ℕ → List ℕ → List ℕ
word_xored zs k xs = slice_set xs k (bit_xor (slice_index xs k) (slice_index zs k))

four : (xs : List ℕ) → length xs ≡ 4 → xs ≡ slice_index xs 0 ∷ slice_index xs 1 ∷ slice_index xs 2 ∷ slice_index xs 3 ∷ []
four xs long = elements 0 xs 0 4 (omega arith) ∙ ap (λ (ys : List ℕ). map (slice_index xs) (range_with_len 0 4) ++ ys) (drop_all 4 xs (omega arith))

xored-four : (a b c d e f g h : ℕ) → a < 2 ^ 32 → b < 2 ^ 32 → c < 2 ^ 32 → d < 2 ^ 32 → e < 2 ^ 32 → f < 2 ^ 32 → g < 2 ^ 32 → h < 2 ^ 32
    → joined (in_turn (word_xored (e ∷ f ∷ g ∷ h ∷ [])) 4 (a ∷ b ∷ c ∷ d ∷ [])) ≡ bit_xor (joined (a ∷ b ∷ c ∷ d ∷ [])) (joined (e ∷ f ∷ g ∷ h ∷ []))
unfolding in_turn joined
xored-four a b c d e f g h a_low b_low c_low d_low e_low f_low g_low h_low =
    let last = xor-joined d h 0 0 d_low h_low in
    let third = xor-joined c g (d + 2 ^ 32 * 0) (h + 2 ^ 32 * 0) c_low g_low in
    let second = xor-joined b f _ _ b_low f_low in
    let first = xor-joined a e _ _ a_low e_low in
    sym (first
    ∙ ap (λ (n : ℕ). bit_xor a e + 2 ^ 32 * n) (second ∙ ap (λ (n : ℕ). bit_xor b f + 2 ^ 32 * n) (third ∙ ap (λ (n : ℕ). bit_xor c g + 2 ^ 32 * n) last)))

-- four words xored with four others, one after another
pub joined-xored : (xs zs : List ℕ) → length xs ≡ 4 → length zs ≡ 4 → All (λ x. x < 2 ^ 32) xs → All (λ z. z < 2 ^ 32) zs
    → joined (in_turn (word_xored zs) 4 xs) ≡ bit_xor (joined xs) (joined zs)
joined-xored xs zs x_long z_long small small' =
    let low : (k : ℕ) → k < 4 → slice_index xs k < 2 ^ 32 = λ k inside. small k 0 (rw x_long inside) in
    let low' : (k : ℕ) → k < 4 → slice_index zs k < 2 ^ 32 = λ k inside. small' k 0 (rw z_long inside) in
    let x_is = four xs x_long in
    let z_is = four zs z_long in
    ap₂ (λ (us vs : List ℕ). joined (in_turn (word_xored vs) 4 us)) x_is z_is
    ∙ xored-four _ _ _ _ _ _ _ _ (low 0 (lit< tt)) (low 1 (lit< tt)) (low 2 (lit< tt)) (low 3 (lit< tt))
    (low' 0 (lit< tt)) (low' 1 (lit< tt)) (low' 2 (lit< tt)) (low' 3 (lit< tt))
    ∙ sym (ap₂ (λ (us vs : List ℕ). bit_xor (joined us) (joined vs)) x_is z_is)
