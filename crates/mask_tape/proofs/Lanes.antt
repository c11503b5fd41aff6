-- Rows of bits that are set one by one, and words that are spread when all their bits are in place.
use Rattle.std.proofs.Common.{◌≡◌, ℕ, zero, suc, ◌+◌, ◌*◌, ◌<◌, ◌≤◌, inl, inr, Bool, false, List, length, take, drop, get_or, set, replicate, refl, sym, ap, ◌∙◌, arith, length-drop}
use Rattle.std.proofs.lemmas.Bool.{cases_lt}
use Rattle.std.proofs.Math.Nat.{mul-le-mul_right}
use Rattle.std.proofs.lemmas.Nat.Bits.{bit_at-zero}
use Rattle.std.proofs.lemmas.List.{get_or-set_same, get_or-set_other, get_or-map, get_or-take, get_or-drop, get_or-replicate, length-map, length-take-le, length-replicate, ext_get_or}
use Rattle.mask_bits.specs.Reading.{bit, low}
use Rattle.mask_bits.specs.Lanes.{lane}
use Rattle.mask_bits.proofs.Bytes.{length-low}
use Rattle.mask_tape.specs.Tape.{IsSpread}

-- a word of zeros has no bit
pub bit-nought : (j : ℕ) → bit j 0 ≡ false
bit-nought j = rw (bit_at-zero j) refl

pub zeros_at : (n m : ℕ) → get_or (replicate {A = ℕ} n 0) m 0 ≡ 0
zeros_at zero m = refl
zeros_at (suc n) zero = refl
zeros_at (suc n) (suc m) = zeros_at n m

-- one row more has its bits, and the rows after it still have none
pub row_set : (f : ℕ → ℕ → Bool) (rows : List ℕ) (i value count : ℕ) → i < length rows →
    ((m j : ℕ) → m < i → j < count → bit j (get_or rows m 0) ≡ f m j) → ((j : ℕ) → j < count → bit j value ≡ f i j) →
    (m j : ℕ) → m < i + 1 → j < count → bit j (get_or (set rows i value) m 0) ≡ f m j
row_set f rows i value count within before here m j lt hj = elim (cases_lt m i) [
  | inl below ↦ ap (bit j) (get_or-set_other rows i m value 0 (omega arith)) ∙ before m j below hj
  | inr up ↦ let e : m ≡ i = omega arith in rw e (ap (bit j) (get_or-set_same rows i value 0 within) ∙ here j hj)
]

pub row_clear : (rows : List ℕ) (i value : ℕ) → ((m j : ℕ) → i ≤ m → bit j (get_or rows m 0) ≡ false) →
    (m j : ℕ) → i + 1 ≤ m → bit j (get_or (set rows i value) m 0) ≡ false
row_clear rows i value before m j le = ap (bit j) (get_or-set_other rows i m value 0 (omega arith)) ∙ before m j (omega arith)

-- a stretch that ends within the bits, lane by lane
lane_within : (l lanes bits : ℕ) → l < lanes → l * bits + bits ≤ lanes * bits
lane_within l lanes bits lt = let h : suc l * bits ≤ lanes * bits = mul-le-mul_right bits lt in omega arith

-- words are spread where each of their bits is in place
pub spread_by_bits : (bytes words : List ℕ) (at lanes bits : ℕ) → length words ≡ bits → at + lanes * bits ≤ 8 * length bytes →
    ((k m : ℕ) → k < bits → m < lanes → bit m (get_or words k 0) ≡ get_or (low bytes) (at + m * bits + k) false) →
    ((k m : ℕ) → k < bits → lanes ≤ m → m < 64 → bit m (get_or words k 0) ≡ false) →
    IsSpread (drop at (low bytes)) lanes bits words
spread_by_bits bytes words at lanes bits count within used unused = record {
  count = count;
  used = λ l lt.
      let all = lane_within l lanes bits lt in
      let long : bits ≤ length (drop (l * bits) (drop at (low bytes))) = simp (length-drop, length-drop, length-low) (omega arith) in
      let same : length (lane l words) ≡ length (take bits (drop (l * bits) (drop at (low bytes)))) =
      length-map words (bit l) ∙ count ∙ sym (length-take-le bits (drop (l * bits) (drop at (low bytes))) long) in
      ext_get_or false (lane l words) (take bits (drop (l * bits) (drop at (low bytes)))) same (λ k hk.
      let here : k < bits = rw (length-map words (bit l), count) at hk in
      let place : at + (l * bits + k) ≡ at + l * bits + k = omega arith in
      get_or-map (bit l) words k 0 false (omega arith) ∙ used k l here lt
      ∙ sym (get_or-take bits (drop (l * bits) (drop at (low bytes))) k false here ∙ get_or-drop (l * bits) (drop at (low bytes)) k false
      ∙ get_or-drop at (low bytes) (l * bits + k) false ∙ ap (λ p. get_or (low bytes) p false) place));
  unused = λ l le lt.
      ext_get_or false (lane l words) (replicate bits false) (length-map words (bit l) ∙ count ∙ sym (length-replicate bits false)) (λ k hk.
      let here : k < bits = rw (length-map words (bit l), count) at hk in
      get_or-map (bit l) words k 0 false (omega arith) ∙ unused k l here le lt ∙ sym (get_or-replicate bits k false false here));
}
