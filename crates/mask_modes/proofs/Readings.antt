-- The low-first and the high-first reading are readings, and counters are numbers.
use Rattle.std.proofs.Common.{◌≡◌, ℕ, zero, suc, ◌+◌, ◌-◌, ◌*◌, ◌/◌, ◌%◌, ◌^◌, ◌<◌, Bool, false, nat_eq, List, [], ◌∷◌, ◌++◌, length, take, drop, reverse, get_or, inl, inr, refl, ap, ap₂, sym, subst, ◌∙◌, arith, add-zero, add-suc, append_assoc}
use Rattle.std.proofs.Math.Nat.{mod-eq_of_lt, mod-mod}
use Rattle.std.proofs.lemmas.List.{append-nil, take_at, drop_at, length-reverse, reverse-append, reverse-reverse, get_or-reverse, get_or_past}
use Rattle.std.proofs.lemmas.Bool.{cases_lt}
use Rattle.std.proofs.lemmas.Nat.{shr-shr}
use Rattle.std.proofs.lemmas.List.Elements.{All-tail}
use Rattle.mask_bits.specs.Reading.{bit, lowest, low, high, number, big_endian, AreBytes}
use Rattle.mask_bits.proofs.Bytes.{length-low, low-place, low-push, number-high}
use Rattle.mask_bits.proofs.Numbers.{length-lowest, number-lowest, lowest-of}
use Rattle.mask_circuit.specs.Wires.{each}
use Rattle.mask_shares.proofs.Lists.{each-same, each-first}
use Rattle.mask_modes.specs.CounterMode.{counter, bytes_of}
use Rattle.mask_modes.specs.Laws.{BytesAreRead}
use Rattle.mask_modes.proofs.Keystreams.{bytes_of_are_bytes}

-- a byte is known by its bits
byte_is : (x y : ℕ) → x < 2 ^ 8 → y < 2 ^ 8 → lowest 8 x ≡ lowest 8 y → x ≡ y
byte_is x y small low_y same =
    sym (number-lowest 8 x ∙ mod-eq_of_lt small) ∙ ap number same ∙ (number-lowest 8 y ∙ mod-eq_of_lt low_y)

low_one_to_one : (xs ys : List ℕ) → AreBytes xs → AreBytes ys → low xs ≡ low ys → xs ≡ ys
low_one_to_one [] [] small small' same = refl
low_one_to_one [] (y ∷ ys) small small' same = absurd (omega (arith, ap length same, length-low (y ∷ ys)))
low_one_to_one (x ∷ xs) [] small small' same = absurd (omega (arith, ap length same, length-low (x ∷ xs)))
low_one_to_one (x ∷ xs) (y ∷ ys) small small' same =
    let front : lowest 8 x ≡ lowest 8 y
    = sym (take_at (lowest 8 x) (low xs) 8 (length-lowest 8 x)) ∙ ap (take 8) same ∙ take_at (lowest 8 y) (low ys) 8 (length-lowest 8 y) in
    let back : low xs ≡ low ys
    = sym (drop_at (lowest 8 x) (low xs) 8 (length-lowest 8 x)) ∙ ap (drop 8) same ∙ drop_at (lowest 8 y) (low ys) 8 (length-lowest 8 y) in
    ap₂ (λ (z : ℕ) (zs : List ℕ). z ∷ zs) (byte_is x y (small 0 0 (omega arith)) (small' 0 0 (omega arith)) front)
    (low_one_to_one xs ys (All-tail (λ byte. byte < 2 ^ 8) x xs small) (All-tail (λ byte. byte < 2 ^ 8) y ys small') back)

pub AreBytes-reverse : (xs : List ℕ) → AreBytes xs → AreBytes (reverse xs)
AreBytes-reverse xs small k d lt =
    let within : k < length xs = omega (arith, length-reverse xs) in
    subst (λ (byte : ℕ). byte < 2 ^ 8) (sym (get_or-reverse xs k d within)) (small (length xs - 1 - k) d (omega arith))

-- bit p of byte k, read high first
high-place : (xs : List ℕ) (k p : ℕ) → k < length xs → p < 8 → get_or (high xs) (8 * (length xs - 1 - k) + p) false ≡ bit p (get_or xs k 0)
high-place xs k p lt few =
    let turned : length xs - 1 - k < length xs = omega arith in
    let back : length xs - 1 - (length xs - 1 - k) ≡ k = omega arith in
    low-place (reverse xs) (length xs - 1 - k) p (omega (arith, length-reverse xs)) few
    ∙ ap (bit p) (get_or-reverse xs (length xs - 1 - k) 0 turned ∙ ap (λ (j : ℕ). get_or xs j 0) back)

-- COUNTERS

-- the lower bits of a number, and then the others
lowest-add : (m n x : ℕ) → lowest (m + n) x ≡ lowest m x ++ lowest n (x / 2 ^ m)
lowest-add m zero x = ap (λ (k : ℕ). lowest k x) (add-zero m) ∙ sym (append-nil (lowest m x))
lowest-add m (suc n) x =
    let place : x / 2 ^ (m + n) ≡ x / 2 ^ m / 2 ^ n = sym (shr-shr x m n) in
    ap (λ (k : ℕ). lowest k x) (add-suc m n)
    ∙ ap₂ (λ (l : List Bool) (y : ℕ). l ++ nat_eq (y % 2) 1 ∷ []) (lowest-add m n x) place
    ∙ append_assoc (lowest m x) (lowest n (x / 2 ^ m)) (bit n (x / 2 ^ m) ∷ [])

-- what is left of a number has its last bits
pub lowest-mod : (n x : ℕ) → lowest n (x % 2 ^ n) ≡ lowest n x
lowest-mod n x = lowest-of (lowest n x) (x % 2 ^ n) n (sym (number-lowest n x)) (length-lowest n x)

-- the bytes of a number from the last one on are its bits
low_bytes : (x n : ℕ) → low (each (λ j. x / 2 ^ (8 * j) % 2 ^ 8) n) ≡ lowest (8 * n) x
low_bytes x zero = let none : 0 ≡ 8 * 0 = omega arith in ap (λ (k : ℕ). lowest k x) none
low_bytes x (suc n) =
    let e : 8 * n + 8 ≡ 8 * suc n = omega arith in
    low-push (each (λ j. x / 2 ^ (8 * j) % 2 ^ 8) n) (x / 2 ^ (8 * n) % 2 ^ 8)
    ∙ ap₂ (λ (l k : List Bool). l ++ k) (low_bytes x n) (lowest-mod 8 (x / 2 ^ (8 * n)))
    ∙ sym (lowest-add (8 * n) 8 x)
    ∙ ap (λ (k : ℕ). lowest k x) e

-- made by number from the last one on
reverse-each : {A : Type 0} (f : ℕ → A) (n : ℕ) → reverse (each f n) ≡ each (λ j. f (n - suc j)) n
reverse-each f zero = refl
reverse-each f (suc n) =
    let first : n ≡ suc n - 1 = omega arith in
    reverse-append (each f n) (f n ∷ [])
    ∙ ap₂ (λ x l. x ∷ l) (ap f first)
    (reverse-each f n ∙ each-same _ _ n (λ j lt. let e : n - suc j ≡ suc n - suc (suc j) = omega arith in ap f e))
    ∙ sym (each-first (λ j. f (suc n - suc j)) n)

-- the bytes of a number, read high first
high-bytes_of : (n x : ℕ) → high (bytes_of n x) ≡ lowest (8 * n) x
high-bytes_of n x =
    let byte : ℕ → ℕ = λ j. x / 2 ^ (8 * j) % 2 ^ 8 in
    ap low
    (reverse-each (λ j. byte (n - suc j)) n
    ∙ each-same _ _ n (λ j lt. let e : n - suc (n - suc j) ≡ j = omega arith in ap byte e))
    ∙ low_bytes x n

-- past the end there are zeros
byte_at : (xs : List ℕ) → AreBytes xs → (k : ℕ) → get_or xs k 0 < 256
byte_at xs are k = elim (cases_lt k (length xs)) [
  | inl within ↦ are k 0 within
  | inr past ↦ omega (arith, get_or_past xs k 0 past)
]

-- bytes that are read high first are the bits of their big-endian number
pub number_of_high : (xs : List ℕ) → AreBytes xs → number (high xs) ≡ big_endian xs
number_of_high xs are = number-high xs (byte_at xs are)

pub length-high : (xs : List ℕ) → length (high xs) ≡ 8 * length xs
length-high xs = length-low (reverse xs) ∙ ap (λ (n : ℕ). 8 * n) (length-reverse xs)

pub high_is : (xs : List ℕ) → AreBytes xs → high xs ≡ lowest (8 * length xs) (big_endian xs)
high_is xs are = sym (lowest-of (high xs) (big_endian xs) (8 * length xs) (sym (number_of_high xs are)) (length-high xs))

pub big_endian-bytes_of : (n x : ℕ) → big_endian (bytes_of n x) ≡ x % 2 ^ (8 * n)
big_endian-bytes_of n x =
    sym (number_of_high (bytes_of n x) (bytes_of_are_bytes n x)) ∙ ap number (high-bytes_of n x) ∙ number-lowest (8 * n) x

high-counter : (b iv i : ℕ) → high (counter b iv i) ≡ lowest (8 * b) (iv + i)
high-counter b iv i = high-bytes_of b ((iv + i) % 2 ^ (8 * b)) ∙ lowest-mod (8 * b) (iv + i)

pub bytes_are_read : BytesAreRead
bytes_are_read = record {
  low_first = record { count = length-low; one_to_one = low_one_to_one };
  high_first = record {
    count = length-high;
    one_to_one = λ xs ys small small' same.
        sym (reverse-reverse xs)
        ∙ ap reverse (low_one_to_one (reverse xs) (reverse ys) (AreBytes-reverse xs small) (AreBytes-reverse ys small') same)
        ∙ reverse-reverse ys;
  };
  low_place = low-place;
  high_place = high-place;
  number = λ b iv i. big_endian-bytes_of b ((iv + i) % 2 ^ (8 * b)) ∙ mod-mod (iv + i) (2 ^ (8 * b));
  bits = high-counter;
}
