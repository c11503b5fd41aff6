-- The reading of bytes as they come one by one.
use Rattle.std.proofs.Common.{◌≡◌, ℕ, zero, suc, ◌+◌, ◌-◌, ◌*◌, ◌%◌, ◌^◌, ◌<◌, Bool, false, List, [], ◌∷◌, ◌++◌, length, take, drop, get_or, replicate, reverse, fold, zero-add, min, length-drop, lit<, take-append-drop, refl, sym, ap, ◌∙◌, arith, append_assoc, append-nil, length-append}
use Rattle.mask_bits.specs.Reading.{bit, lowest, low, high, number, big_endian, IsPadded}
use Rattle.mask_bits.proofs.Numbers.{length-lowest, get_or-lowest, number-append, number-lowest}
use Rattle.std.proofs.lemmas.List.{take_more, get_or-append-add, length-take-le, reverse-append, length-reverse}
use Rattle.std.proofs.lemmas.Nat.{pow-add}
use Rattle.std.proofs.Math.Nat.{mod-eq_of_lt}

-- the reading of bytes end to end
pub low-append : (xs ys : List ℕ) → low (xs ++ ys) ≡ low xs ++ low ys
low-append [] ys = refl
low-append (x ∷ xs) ys = rw (low-append xs ys) (sym (append_assoc (lowest 8 x) (low xs) (low ys)))

-- one byte more
pub low-push : (xs : List ℕ) (x : ℕ) → low (xs ++ x ∷ []) ≡ low xs ++ lowest 8 x
low-push xs x = low-append xs (x ∷ [])

-- how many bits bytes have
pub length-low : (xs : List ℕ) → length (low xs) ≡ 8 * length xs
length-low [] = refl
length-low (x ∷ xs) = rw (length-append, length-lowest 8 x, length-low xs) (omega arith)

-- one byte more of a list
pub low-more : (xs : List ℕ) (i : ℕ) → i < length xs → low (take (i + 1) xs) ≡ low (take i xs) ++ lowest 8 (get_or xs i 0)
low-more xs i h = rw (take_more xs i 0 h) (low-push (take i xs) (get_or xs i 0))

-- element 8b + i is bit i of byte b
pub low-place : (xs : List ℕ) (b i : ℕ) → b < length xs → i < 8 → get_or (low xs) (8 * b + i) false ≡ bit i (get_or xs b 0)
low-place [] b i h k = absurd (omega arith)
low-place (x ∷ xs) zero i h k = rw (zero-add i) (get_or-lowest 8 i x (low xs) k)
low-place (x ∷ xs) (suc b) i h k =
    let place : 8 * suc b + i ≡ 8 + (8 * b + i) = omega arith in
    rw place (get_or-append-add (lowest 8 x) (low xs) (8 * b + i) false ∙ low-place xs b i (omega arith) k)

-- the high-first reading is the bits of the big-endian number, which goes on from an earlier one
big_endian_from : (xs : List ℕ) (n : ℕ) → ((k : ℕ) → get_or xs k 0 < 256)
    → fold (λ (n byte : ℕ). 256 * n + byte) n xs ≡ 2 ^ (8 * length xs) * n + number (high xs)
big_endian_from [] n bytes = omega arith
big_endian_from (x ∷ xs) n bytes =
    let weight : 2 ^ (8 * suc (length xs)) ≡ 2 ^ (8 * length xs) * 256 =
    let more : 8 * suc (length xs) ≡ 8 * length xs + 8 = omega arith in rw (more, pow-add 2 (8 * length xs) 8) refl in
    let turned : high (x ∷ xs) ≡ high xs ++ lowest 8 x = ap low (reverse-append (x ∷ []) xs) ∙ low-push (reverse xs) x in
    let front : length (high xs) ≡ 8 * length xs = length-low (reverse xs) ∙ ap (λ (n : ℕ). 8 * n) (length-reverse xs) in
    let first : x % 2 ^ 8 ≡ x = mod-eq_of_lt (bytes 0) in
    big_endian_from xs (256 * n + x) (λ k. bytes (suc k))
    ∙ rw (weight, turned, number-append (high xs) (lowest 8 x), front, number-lowest 8 x, first) (omega arith)

pub number-high : (xs : List ℕ) → ((k : ℕ) → get_or xs k 0 < 256) → number (high xs) ≡ big_endian xs
number-high xs bytes = sym (big_endian_from xs 0 bytes ∙ omega arith)

-- bytes hold the bits that stand before the rest, with zeros after them only where there is no rest
pub record Packed (bits rest : List Bool) (bytes : List ℕ) : Type 0 where
  pub done : List Bool
  pub zeros : ℕ
  pub few : zeros < 8
  pub whole : 0 < length rest → zeros ≡ 0
  pub split : bits ≡ done ++ rest
  pub reads : low bytes ≡ done ++ replicate zeros false

-- no byte yet
pub packed_none : (bits : List Bool) → Packed bits bits []
packed_none bits = record { done = []; zeros = 0; few = lit< tt; whole = λ _. refl; split = refl; reads = refl }

-- a byte holds the front of the rest
pub packed_more : (bits rest front back : List Bool) (bytes : List ℕ) (byte n : ℕ) → Packed bits rest bytes → 0 < length rest
    → n ≡ min (length rest) 8 → front ≡ take n rest → back ≡ drop n rest
    → lowest 8 byte ≡ front ++ replicate (8 - length front) false → Packed bits back (bytes ++ byte ∷ [])
packed_more bits rest front back bytes byte n packed some n_is front_is back_is byte_is =
    let front_len : length front ≡ n = rw front_is (length-take-le n rest (omega arith)) in
    let back_len : length back ≡ length rest - n = rw back_is (length-drop n rest) in
    let joined : rest ≡ front ++ back = rw (front_is, back_is) (sym (take-append-drop n rest)) in
    let none : packed.zeros ≡ 0 = packed.whole some in
    let read : low bytes ≡ packed.done = packed.reads ∙ rw none (append-nil packed.done) in
    record {
      done = packed.done ++ front;
      zeros = 8 - length front;
      few = omega arith;
      whole = λ more. omega arith;
      split = packed.split ∙ ap (λ (l : List Bool). packed.done ++ l) joined ∙ sym (append_assoc packed.done front back);
      reads = low-push bytes byte ∙ rw (read, byte_is) (sym (append_assoc packed.done front (replicate (8 - length front) false)));
    }

-- bytes with no rest
pub packed_all : (bits rest : List Bool) (bytes : List ℕ) → Packed bits rest bytes → length rest ≡ 0 → IsPadded bits (low bytes)
packed_all bits [] bytes packed none =
    (packed.zeros, packed.few, packed.reads ∙ ap (λ (l : List Bool). l ++ replicate packed.zeros false) (sym (packed.split ∙ append-nil packed.done)))
packed_all bits (b ∷ rest) bytes packed some = absurd (omega arith)
