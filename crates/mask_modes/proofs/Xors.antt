-- The XOR of bytes place by place.
use Rattle.std.proofs.Common.{◌≡◌, ℕ, zero, suc, ◌≤◌, List, [], ◌∷◌, ◌++◌, length, take, reverse, bit_xor, refl, ap, ap₂, sym, ◌∙◌, arith}
use Rattle.std.proofs.lemmas.List.{length-reverse, reverse-append}
use Rattle.std.specs.Int.Bits.{xor_assoc, xor_self, xor_zero_r}
use Rattle.mask_modes.specs.CounterMode.{xor_bytes}

pub length-xor_bytes : (xs ys : List ℕ) → length xs ≤ length ys → length (xor_bytes xs ys) ≡ length xs
length-xor_bytes [] ys le = refl
length-xor_bytes (x ∷ xs) [] le = absurd (omega arith)
length-xor_bytes (x ∷ xs) (y ∷ ys) le = ap suc (length-xor_bytes xs ys (omega arith))

pub xor_bytes-append : (xs more ys others : List ℕ) → length xs ≡ length ys → xor_bytes (xs ++ more) (ys ++ others) ≡ xor_bytes xs ys ++ xor_bytes more others
xor_bytes-append [] more [] others e = refl
xor_bytes-append [] more (y ∷ ys) others e = absurd (omega arith)
xor_bytes-append (x ∷ xs) more [] others e = absurd (omega arith)
xor_bytes-append (x ∷ xs) more (y ∷ ys) others e = ap (λ l. bit_xor x y ∷ l) (xor_bytes-append xs more ys others (omega arith))

-- what stands behind a longer list doesn't matter
pub xor_bytes-append_right : (xs ys others : List ℕ) → length xs ≤ length ys → xor_bytes xs (ys ++ others) ≡ xor_bytes xs ys
xor_bytes-append_right [] ys others le = refl
xor_bytes-append_right (x ∷ xs) [] others le = absurd (omega arith)
xor_bytes-append_right (x ∷ xs) (y ∷ ys) others le = ap (λ l. bit_xor x y ∷ l) (xor_bytes-append_right xs ys others (omega arith))

pub xor_bytes-take : (n : ℕ) (xs ys : List ℕ) → xor_bytes (take n xs) ys ≡ take n (xor_bytes xs ys)
xor_bytes-take zero xs ys = refl
xor_bytes-take (suc n) [] ys = refl
xor_bytes-take (suc n) (x ∷ xs) [] = refl
xor_bytes-take (suc n) (x ∷ xs) (y ∷ ys) = ap (λ l. bit_xor x y ∷ l) (xor_bytes-take n xs ys)

-- what is added twice is gone
pub xor_bytes_twice : (xs ys : List ℕ) → length xs ≤ length ys → xor_bytes (xor_bytes xs ys) ys ≡ xs
xor_bytes_twice [] ys le = refl
xor_bytes_twice (x ∷ xs) [] le = absurd (omega arith)
xor_bytes_twice (x ∷ xs) (y ∷ ys) le =
    ap₂ (λ b l. b ∷ l) (xor_assoc x y y ∙ ap (bit_xor x) (xor_self y) ∙ xor_zero_r x) (xor_bytes_twice xs ys (omega arith))

-- from the last byte on
pub xor_bytes-reverse : (xs ys : List ℕ) → length xs ≡ length ys → xor_bytes (reverse xs) (reverse ys) ≡ reverse (xor_bytes xs ys)
xor_bytes-reverse [] [] e = refl
xor_bytes-reverse [] (y ∷ ys) e = absurd (omega arith)
xor_bytes-reverse (x ∷ xs) [] e = absurd (omega arith)
xor_bytes-reverse (x ∷ xs) (y ∷ ys) e =
    let same : length (reverse xs) ≡ length (reverse ys) = omega (arith, length-reverse xs, length-reverse ys) in
    ap₂ xor_bytes (reverse-append (x ∷ []) xs) (reverse-append (y ∷ []) ys)
    ∙ xor_bytes-append (reverse xs) (x ∷ []) (reverse ys) (y ∷ []) same
    ∙ ap (λ l. l ++ bit_xor x y ∷ []) (xor_bytes-reverse xs ys (omega arith))
    ∙ sym (reverse-append (bit_xor x y ∷ []) (xor_bytes xs ys))
