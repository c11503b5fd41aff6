-- The bits of bytes, read as a number.
use Rattle.std.proofs.Common.{◌≡◌, ℕ, zero, suc, ◌+◌, ◌-◌, ◌*◌, ◌/◌, ◌%◌, ◌^◌, ◌<◌, ◌≤◌, inl, inr, Bool, false, nat_eq, List, [], ◌∷◌, ◌++◌, length, take, drop, get_or, replicate, length-append, length-drop, refl, sym, ap, ◌∙◌, arith}
use Rattle.std.specs.Prelude.{bit_or}
use Rattle.std.specs.Int.{w64, byte_worth, sum_through, from_le_bytes}
use Rattle.std.proofs.lemmas.Bool.{cases_lt}
use Rattle.std.proofs.lemmas.Nat.{pow-add}
use Rattle.std.proofs.Math.Nat.{mod-eq_of_lt, mul_comm, pow-suc, zero-add}
use Rattle.std.proofs.lemmas.Nat.Bits.{bit_at_or, bit_at_above, bit_at-lt}
use Rattle.std.proofs.Math.Seq.{drop-append-add, take-append-add}
use Rattle.std.proofs.lemmas.List.{drop_all, take_all, length-take-le, get_or-take, get_or-drop, get_or_past, get_or_append_left, get_or-append_right}
use Rattle.mask_bits.specs.Reading.{bit, low, lowest, number}
use Rattle.mask_bits.proofs.Numbers.{bit-number, number-append, number-lowest}
use Rattle.mask_bits.proofs.Bytes.{low-append, low-more, low-place, length-low}
use Rattle.mask_bits.proofs.Exchange.{bit_at-shr, bit_at-shl_low, bit_at-shl_high}
use Rattle.mask_tape.proofs.Lanes.{bit-nought, zeros_at}

-- the reading without the first bytes
pub low-drop : (bytes : List ℕ) (k : ℕ) → low (drop k bytes) ≡ drop (8 * k) (low bytes)
low-drop [] k = rw (drop_all {X = ℕ} k [] (omega arith), drop_all {X = Bool} (8 * k) [] (omega arith)) refl
low-drop (x ∷ bytes) zero = refl
low-drop (x ∷ bytes) (suc k) =
    let e : 8 * suc k ≡ 8 + 8 * k = omega arith in rw e (low-drop bytes k ∙ sym (drop-append-add (lowest 8 x) (low bytes) (8 * k)))

-- the reading of the first bytes
low-take : (bytes : List ℕ) (k : ℕ) → low (take k bytes) ≡ take (8 * k) (low bytes)
low-take [] k = rw (take_all {A = ℕ} k [] (omega arith), take_all {A = Bool} (8 * k) [] (omega arith)) refl
low-take (x ∷ bytes) zero = refl
low-take (x ∷ bytes) (suc k) =
    let e : 8 * suc k ≡ 8 + 8 * k = omega arith in
    rw e (ap (λ (l : List Bool). lowest 8 x ++ l) (low-take bytes k) ∙ sym (take-append-add (lowest 8 x) (low bytes) (8 * k)))

-- a bit of the bytes from byte k on
bit_from : (bytes : List ℕ) (k j : ℕ) → get_or (low (drop k bytes)) j false ≡ get_or (low bytes) (8 * k + j) false
bit_from bytes k j = ap (λ (bits : List Bool). get_or bits j false) (low-drop bytes k) ∙ get_or-drop (8 * k) (low bytes) j false

-- the bits of the number of the eight bytes from byte k on
pub bit-eight : (bytes : List ℕ) (k j : ℕ) → j < 64 → bit j (number (low (take 8 (drop k bytes)))) ≡ get_or (low bytes) (8 * k + j) false
bit-eight bytes k j lt =
    bit-number (low (take 8 (drop k bytes))) j ∙ ap (λ (bits : List Bool). get_or bits j false) (low-take (drop k bytes) 8)
    ∙ get_or-take 64 (low (drop k bytes)) j false lt ∙ bit_from bytes k j

-- the bits of the ninth
pub bit-ninth : (bytes : List ℕ) (k j : ℕ) → j < 8 → bit j (get_or (drop k bytes) 8 0) ≡ get_or (low bytes) (8 * k + (64 + j)) false
bit-ninth bytes k j lt =
    let all = length-low (drop k bytes) in
    elim (cases_lt 8 (length (drop k bytes))) [
      | inl more ↦ sym (low-place (drop k bytes) 8 j more lt) ∙ bit_from bytes k (64 + j)
      | inr end ↦
          rw (get_or_past (drop k bytes) 8 0 end)
          (bit-nought j ∙ sym (get_or_past (low (drop k bytes)) (64 + j) false (omega arith)) ∙ bit_from bytes k (64 + j))
    ]

-- the bits from place s on of one number, and then those of another one
pub bit-joined_low : (n next s j : ℕ) → s < 64 → j < 64 - s → bit j (bit_or (n / 2 ^ s) (next * 2 ^ (64 - s) % 2 ^ 64)) ≡ bit (s + j) n
bit-joined_low n next s j lt low =
    let small = bit_at-lt n (s + j) in
    ap (λ b. nat_eq b 1) (rw (bit_at_or (n / 2 ^ s) (next * 2 ^ (64 - s) % 2 ^ 64) j, bit_at-shr n s j, bit_at-shl_low next (64 - s) j low (omega arith)) (omega arith))

pub bit-joined_high : (n next s j : ℕ) → n < 2 ^ 64 → s < 64 → 64 - s ≤ j → j < 64 →
    bit j (bit_or (n / 2 ^ s) (next * 2 ^ (64 - s) % 2 ^ 64)) ≡ bit (j - (64 - s)) next
bit-joined_high n next s j small lt high below =
    let few = bit_at-lt next (j - (64 - s)) in
    ap (λ b. nat_eq b 1) (rw (bit_at_or (n / 2 ^ s) (next * 2 ^ (64 - s) % 2 ^ 64) j, bit_at-shr n s j, bit_at_above n 64 (s + j) small (omega arith), bit_at-shl_high next (64 - s) j high below) (omega arith))

-- what a byte is worth among others
weight : (i : ℕ) → 2 ^ (8 * i) ≡ 256 ^ i
weight zero = refl
weight (suc i) =
    let more : 8 * suc i ≡ 8 * i + 8 = omega arith in rw (more, pow-add 2 (8 * i) 8, weight i, pow-suc 256 i) refl

worth : (i byte : ℕ) → byte_worth i byte ≡ 2 ^ (8 * i) * byte
worth zero byte = omega arith
worth (suc i) byte = rw (weight (suc i)) (mul_comm byte (256 ^ suc i))

-- one byte more at the high end
number-more_bytes : (bytes : List ℕ) (i : ℕ) → i < length bytes → get_or bytes i 0 < 256 →
    number (low (take (i + 1) bytes)) ≡ number (low (take i bytes)) + byte_worth i (get_or bytes i 0)
number-more_bytes bytes i within small =
    let byte = get_or bytes i 0 in
    let here : byte % 2 ^ 8 ≡ byte = mod-eq_of_lt small in
    let before : length (low (take i bytes)) ≡ 8 * i = length-low (take i bytes) ∙ ap (λ (n : ℕ). 8 * n) (length-take-le i bytes (omega arith)) in
    rw (low-more bytes i within, number-append (low (take i bytes)) (lowest 8 byte), number-lowest 8 byte, here, before, worth i byte) refl

-- the number of bytes is the sum of what they are worth
pub number-through : (bytes : List ℕ) (last : ℕ) → last < length bytes → ((i : ℕ) → i < length bytes → get_or bytes i 0 < 256) →
    sum_through (λ i. byte_worth i (get_or bytes i 0)) last ≡ number (low (take (last + 1) bytes))
number-through bytes zero within small = sym (number-more_bytes bytes 0 within (small 0 within) ∙ zero-add (get_or bytes 0 0))
number-through bytes (suc last) within small =
    let before : last + 1 ≡ suc last = omega arith in
    let so_far : sum_through (λ i. byte_worth i (get_or bytes i 0)) last ≡ number (low (take (suc last) bytes)) =
    rw before at (number-through bytes last (omega arith) small) in
    ap (λ (n : ℕ). n + byte_worth (suc last) (get_or bytes (suc last) 0)) so_far ∙ sym (number-more_bytes bytes (suc last) within (small (suc last) within))

-- the number of eight bytes
pub number-eight : (bytes : List ℕ) → length bytes ≡ 8 → ((i : ℕ) → i < length bytes → get_or bytes i 0 < 256) →
    from_le_bytes w64 bytes ≡ number (low bytes)
number-eight bytes long small =
    let all : take 8 bytes ≡ bytes = take_all 8 bytes (omega arith) in rw all at (number-through bytes 7 (omega arith) small)

-- zeros are worth nothing
nothing : (zeros : List ℕ) → ((i : ℕ) → get_or zeros i 0 ≡ 0) → number (low zeros) ≡ 0
nothing [] none = refl
nothing (x ∷ zeros) none =
    let first : x ≡ 0 = none 0 in
    rw (first, number-append (lowest 8 0) (low zeros), number-lowest 8 0, nothing zeros (λ i. none (suc i))) (omega arith)

-- the number of fewer bytes, with zeros behind them
pub number-few : (bytes : List ℕ) → length bytes < 8 → ((i : ℕ) → i < length bytes → get_or bytes i 0 < 256) →
    from_le_bytes w64 (bytes ++ drop (length bytes) (replicate 8 0)) ≡ number (low bytes)
number-few bytes few small =
    let zeros : List ℕ = drop (length bytes) (replicate 8 0) in
    let long : length (bytes ++ zeros) ≡ 8 = simp (length-append, length-drop) (omega arith) in
    let none : (i : ℕ) → get_or zeros i 0 ≡ 0 = λ i. get_or-drop (length bytes) (replicate 8 0) i 0 ∙ zeros_at 8 (length bytes + i) in
    let each : (i : ℕ) → i < length (bytes ++ zeros) → get_or (bytes ++ zeros) i 0 < 256 =
    λ i lt. elim (cases_lt i (length bytes)) [
      | inl within ↦ rw (get_or_append_left bytes zeros 0 i within) (small i within)
      | inr past ↦ rw (get_or-append_right bytes zeros (length bytes) i 0 refl past, none (i - length bytes)) (omega arith)
    ] in
    number-eight (bytes ++ zeros) long each
    ∙ rw (low-append bytes zeros, number-append (low bytes) (low zeros), nothing zeros none) (omega arith)
