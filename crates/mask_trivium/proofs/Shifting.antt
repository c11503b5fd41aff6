-- What shifting and loading a state keep, whatever its places hold; and clocks after clocks.
use Rattle.std.proofs.Common.{◌≡◌, ℕ, zero, suc, ◌+◌, Bool, List, ◌∷◌, length, map, take, replicate, set, All, refl, ap, ◌∙◌, arith}
use Rattle.std.proofs.lemmas.List.{length-set, length-take-le, map-set, map-append, take-map}
use Rattle.std.proofs.lemmas.List.Elements.{All-append, All-cons, All-replicate, All-set, All-take}
use Rattle.mask_trivium.specs.Trivium.{shifted, clocked, clocks, loaded}

-- SHIFTING

pub length-shifted : {A : Type 0} (a b c : A) (xs : List A) → length xs ≡ 288 → length (shifted a b c xs) ≡ 288
length-shifted a b c xs long =
    length-set (set (a ∷ take 287 xs) 93 b) 177 c ∙ length-set (a ∷ take 287 xs) 93 b
    ∙ (let few : length (take 287 xs) ≡ 287 = length-take-le 287 xs (omega arith) in omega arith)

pub All-shifted : {A : Type 0} (P : A → Type 0) (a b c : A) (xs : List A) → P a → P b → P c → All P xs → All P (shifted a b c xs)
All-shifted P a b c xs first second third all =
    All-set P (set (a ∷ take 287 xs) 93 b) 177 c third
    (All-set P (a ∷ take 287 xs) 93 b second (All-cons P a (take 287 xs) first (All-take P 287 xs all)))

-- so at any places, and for a state of any length
map-at : {A B : Type 0} (f : A → B) (a b c : A) (n p q : ℕ) (xs : List A)
    → map f (set (set (a ∷ take n xs) p b) q c) ≡ set (set (f a ∷ take n (map f xs)) p (f b)) q (f c)
map-at f a b c n p q xs = map-set f (set (a ∷ take n xs) p b) q c ∙ rw (map-set f (a ∷ take n xs) p b, take-map f n xs) refl

pub map-shifted : {A B : Type 0} (f : A → B) (a b c : A) (xs : List A) → map f (shifted a b c xs) ≡ shifted (f a) (f b) (f c) (map f xs)
map-shifted f a b c xs = map-at f a b c 287 93 177 xs

pub shifted-same : {A : Type 0} (a b c d e f : A) (xs : List A) → a ≡ d → b ≡ e → c ≡ f → shifted a b c xs ≡ shifted d e f xs
shifted-same a b c d e f xs first second third = rw (first, second, third) refl

-- clocks after others
pub clocks-add : (m n : ℕ) (state : List Bool) → clocks (m + n) state ≡ clocks n (clocks m state)
unfolding clocks
clocks-add zero n state = let e : 0 + n ≡ n = omega arith in rw e refl
clocks-add (suc m) n state = let e : suc m + n ≡ suc (m + n) = omega arith in rw e (clocks-add m n (clocked state))

-- LOADING

map-replicate : {A B : Type 0} (f : A → B) (n : ℕ) (a : A) → map f (replicate n a) ≡ replicate n (f a)
map-replicate f zero a = refl
map-replicate f (suc n) a = ap (λ bs. f a ∷ bs) (map-replicate f n a)

pub All-loaded : {A : Type 0} (P : A → Type 0) (nought one : A) (key iv : List A) → P nought → P one → All P key → All P iv → All P (loaded nought one key iv)
All-loaded P nought one key iv no_bit yes_bit key_all iv_all =
    All-append P _ (replicate 3 one)
    (All-append P _ (replicate 108 nought)
    (All-append P _ (replicate 4 nought)
    (All-append P _ iv (All-append P key (replicate 13 nought) key_all (All-replicate P 13 nought no_bit)) iv_all)
    (All-replicate P 4 nought no_bit))
    (All-replicate P 108 nought no_bit))
    (All-replicate P 3 one yes_bit)

pub map-loaded : {A B : Type 0} (f : A → B) (nought one : A) (key iv : List A) → map f (loaded nought one key iv) ≡ loaded (f nought) (f one) (map f key) (map f iv)
map-loaded f nought one key iv = simp (map-append, map-replicate)
