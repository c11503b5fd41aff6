-- Two blocks xored word by word: what it keeps, and what it computes.
use Rattle.std.proofs.Common.{◌≡◌, ℕ, suc, ◌+◌, ◌*◌, Bool, List, [], ◌∷◌, length, map, All, refl, sym, ap, ◌∙◌, arith, bit_xor}
use Rattle.std.specs.List.{range_with_len}
use Rattle.std.proofs.lemmas.List.{length-map, map-append}
use Rattle.std.proofs.lemmas.List.FromFn.{length-range_with_len}
use Rattle.std.proofs.lemmas.List.Elements.{All-head, All-tail}
use Rattle.mask_bits.specs.Reading.{number}
use Rattle.mask_bits.proofs.Numbers.{number-append}
use Rattle.mask_circuit.specs.Netlist.{Netlist, value_count}
use Rattle.mask_circuit.specs.Value.{value_at}
use Rattle.mask_parts.specs.Drafts.{Grows}
use Rattle.mask_parts.specs.Words32.{with_xor32, xor32_results, joined}
use Rattle.mask_parts.proofs.Growing.{Grows-refl, Grows-trans}
use Rattle.mask_parts.proofs.Joining.{xor-joined}
use Rattle.mask_parts.proofs.Passing.{IsSound, Passes, Passes-refl, Passes-trans, Passes-as}
use Rattle.mask_parts.proofs.Ranges.{range-split}
use Rattle.mask_parts.proofs.Solving.{Solved, Solved-Grows}
use Rattle.mask_parts.proofs.WordPassing.{Grows-xor32, Passes-xor32, IsWord, words-later}
use Rattle.mask_parts.proofs.WordShowing.{shown, shown-xor32, shown-lt}
use Rattle.mask_lea.specs.NamedLea.{with_blocks_xored}

pub Grows-blocks_xored : (c : Netlist) (xs ys : List (List ℕ)) → Grows c (with_blocks_xored c xs ys)
unfolding with_blocks_xored
Grows-blocks_xored c [] ys = Grows-refl c
Grows-blocks_xored c (x ∷ xs) [] = Grows-refl c
Grows-blocks_xored c (x ∷ xs) (y ∷ ys) = Grows-trans _ _ _ (Grows-xor32 c x y) (Grows-blocks_xored (with_xor32 c x y) xs ys)

pub Passes-blocks_xored : (T : Type 0) (c : Netlist) (xs ys : List (List ℕ)) → length xs ≡ length ys → IsSound T c → All (IsWord T c) xs → All (IsWord T c) ys
    → Passes T c (with_blocks_xored c xs ys) (length xs * 32) 0
unfolding with_blocks_xored
Passes-blocks_xored T c [] ys same sound one two = Passes-refl T c sound
Passes-blocks_xored T c (x ∷ xs) [] same sound one two = absurd (omega arith)
Passes-blocks_xored T c (x ∷ xs) (y ∷ ys) same sound one two =
    let d : Netlist = with_xor32 c x y in
    let here : Passes T c d 32 0 = Passes-xor32 T c x y sound (All-head (IsWord T c) x xs one) (All-head (IsWord T c) y ys two) in
    let rest = Passes-blocks_xored T d xs ys (omega arith) here.sound
    (words-later T c d 32 0 xs here (All-tail (IsWord T c) x xs one)) (words-later T c d 32 0 ys here (All-tail (IsWord T c) y ys two)) in
    Passes-as T c _ _ _ _ _ (omega arith) refl (Passes-trans T c d _ 32 0 _ 0 here rest)

-- the values made are the XOR of what the blocks stand for
pub shown-blocks_xored : (T : Type 0) (vs : List Bool) (c : Netlist) (xs ys : List (List ℕ)) → length xs ≡ length ys → IsSound T c → All (IsWord T c) xs → All (IsWord T c) ys
    → Solved vs (with_blocks_xored c xs ys)
    → shown vs (range_with_len (value_count c) (length xs * 32)) ≡ bit_xor (joined (map (shown vs) xs)) (joined (map (shown vs) ys))
unfolding with_blocks_xored joined
shown-blocks_xored T vs c [] [] same sound one two solved = refl
shown-blocks_xored T vs c [] (y ∷ ys) same sound one two solved = absurd (omega arith)
shown-blocks_xored T vs c (x ∷ xs) [] same sound one two solved = absurd (omega arith)
shown-blocks_xored T vs c (x ∷ xs) (y ∷ ys) same sound one two solved =
    let n : ℕ = value_count c in
    let d : Netlist = with_xor32 c x y in
    let x_is : IsWord T c x = All-head (IsWord T c) x xs one in
    let y_is : IsWord T c y = All-head (IsWord T c) y ys two in
    let here : Passes T c d 32 0 = Passes-xor32 T c x y sound x_is y_is in
    let first : shown vs (range_with_len n 32) ≡ bit_xor (shown vs x) (shown vs y) =
    unfold xor32_results in shown-xor32 vs c x y x_is.long y_is.long (Solved-Grows vs d _ (Grows-blocks_xored d xs ys) solved) in
    let rest = rw here.adds.values at
    (shown-blocks_xored T vs d xs ys (omega arith) here.sound
    (words-later T c d 32 0 xs here (All-tail (IsWord T c) x xs one)) (words-later T c d 32 0 ys here (All-tail (IsWord T c) y ys two)) solved) in
    let more : suc (length xs) * 32 ≡ 32 + length xs * 32 = omega arith in
    let long : length (map (value_at vs) (range_with_len n 32)) ≡ 32 = length-map (range_with_len n 32) (value_at vs) ∙ length-range_with_len n 32 in
    ap (λ (k : ℕ). shown vs (range_with_len n k)) more
    ∙ ap (shown vs) (range-split n 32 (length xs * 32))
    ∙ ap number (map-append (value_at vs) (range_with_len n 32) (range_with_len (n + 32) (length xs * 32)))
    ∙ number-append (map (value_at vs) (range_with_len n 32)) (map (value_at vs) (range_with_len (n + 32) (length xs * 32)))
    ∙ rw (long, first, rest) (sym (xor-joined _ _ _ _ (shown-lt T vs c x x_is) (shown-lt T vs c y y_is)))
