-- The bytes of a seed, piece by piece.
use Rattle.std.proofs.Common.{◌≡◌, ℕ, zero, suc, ◌+◌, ◌-◌, ◌≤◌, List, [], ◌∷◌, ◌++◌, Some, length, take, drop, refl, ap, ap₂, sym, ◌∙◌, arith}
use Rattle.std.specs.Prelude.{min}
use Rattle.std.proofs.Math.Nat.{min-le_left, min-le_right}
use Rattle.std.proofs.Math.Seq.{take-append_seam}
use Rattle.std.proofs.lemmas.List.{append-nil, append_assoc, length-take-le}
use Rattle.std.proofs.lemmas.Slice.{drop-append-drop}
use Rattle.mask_io.specs.Outside.{Gives}
use Rattle.mask_circuit.proofs.Places.{length-each}
use Rattle.mask_self.specs.Generator.{next, number_at, top_byte, byte_at, bytes_from}

-- a sequence goes on from any of its numbers
pub number_at-behind : (seed m k : ℕ) → number_at (number_at seed m) k ≡ number_at seed (m + k)
number_at-behind seed m zero = let e : m ≡ m + 0 = omega arith in ap (number_at seed) e
number_at-behind seed m (suc k) =
    let e : suc (m + k) ≡ m + suc k = omega arith in ap next (number_at-behind seed m k) ∙ ap (number_at seed) e

-- so do its bytes
pub bytes_from-behind : (seed m place n : ℕ) → bytes_from (number_at seed m) place n ≡ bytes_from seed (m + place) n
unfolding bytes_from
bytes_from-behind seed m place zero = refl
bytes_from-behind seed m place (suc n) =
    let e : m + suc (place + n) ≡ suc (m + place + n) = omega arith in
    ap₂ (λ (front : List ℕ) (x : ℕ). front ++ top_byte x ∷ []) (bytes_from-behind seed m place n) (number_at-behind seed m (suc (place + n)) ∙ ap (number_at seed) e)

pub length-bytes_from : (seed place n : ℕ) → length (bytes_from seed place n) ≡ n
unfolding bytes_from
length-bytes_from seed place n = length-each (λ k. byte_at seed (place + k)) n

none-from : (seed place : ℕ) → bytes_from seed place 0 ≡ []
unfolding bytes_from
none-from seed place = refl

pub bytes_from-add : (seed place m n : ℕ) → bytes_from seed place (m + n) ≡ bytes_from seed place m ++ bytes_from seed (place + m) n
unfolding bytes_from
bytes_from-add seed place m zero = let e : m + 0 ≡ m = omega arith in ap (bytes_from seed place) e ∙ sym (append-nil _)
bytes_from-add seed place m (suc n) =
    let e : m + suc n ≡ suc (m + n) = omega arith in
    let same : place + (m + n) ≡ place + m + n = omega arith in
    ap (bytes_from seed place) e
    ∙ ap₂ (λ (front : List ℕ) (k : ℕ). front ++ byte_at seed k ∷ []) (bytes_from-add seed place m n) same
    ∙ append_assoc (bytes_from seed place m) (bytes_from seed (place + m) n) (byte_at seed (place + m + n) ∷ [])

-- a read of the next bytes gives them
pub gives-next : (x x' left n : ℕ) (buf room : List ℕ) → n ≡ min (length buf) left → room ≡ bytes_from x 0 (length (take n buf)) → x' ≡ number_at x (length (take n buf)) →
    Gives (Some (bytes_from x 0 left)) (Some (bytes_from x' 0 (left - n))) buf (room ++ drop n buf) n
gives-next x x' left n buf room is filled stands =
    let few : n ≤ length buf = omega (arith, is, min-le_left (length buf) left) in
    let there : n ≤ left = omega (arith, is, min-le_right (length buf) left) in
    let size : length (take n buf) ≡ n = length-take-le n buf few in
    let room_size : length room ≡ n = ap length filled ∙ length-bytes_from x 0 (length (take n buf)) ∙ size in
    let front : take n (room ++ drop n buf) ≡ bytes_from x 0 n
    = ap (λ (k : ℕ). take k (room ++ drop n buf)) (sym room_size) ∙ take-append_seam room (drop n buf) ∙ filled ∙ ap (bytes_from x 0) size in
    let behind : bytes_from x' 0 (left - n) ≡ bytes_from x (n + 0) (left - n)
    = ap (λ (k : ℕ). bytes_from k 0 (left - n)) (stands ∙ ap (number_at x) size) ∙ bytes_from-behind x n 0 (left - n) in
    record {
      bound = few;
      taken = split there ∙ ap₂ (λ (l r : List ℕ). l ++ r) (sym front) (sym behind);
      rest_stays = drop-append-drop n buf room n (omega arith) room_size;
      none_at_end = λ none some. let e : left - n ≡ 0 = omega (arith, is) in ap (bytes_from x' 0) e ∙ none-from x' 0;
    }
  where
    split : n ≤ left → bytes_from x 0 left ≡ bytes_from x 0 n ++ bytes_from x (n + 0) (left - n)
    split there =
        let all : left ≡ n + (left - n) = omega arith in
        let place : 0 + n ≡ n + 0 = omega arith in
        ap (bytes_from x 0) all ∙ bytes_from-add x 0 n (left - n) ∙ ap (λ (k : ℕ). bytes_from x 0 n ++ bytes_from x k (left - n)) place
