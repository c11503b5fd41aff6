-- Doubling on bits and on numbers: the bits moved up by one place, with the top bit xored into places 0, 1, 2 and 7.
use Rattle.std.proofs.Common.{◌≡◌, ℕ, ◌+◌, ◌*◌, ◌/◌, ◌%◌, ◌^◌, ◌<◌, Bool, true, false, List, [], ◌∷◌, ◌++◌, length, take, drop, refl, sym, ap, ap₂, ◌∙◌, arith, lit<, bit_xor, slice_set, if◌then◌else◌}
use Rattle.std.specs.List.{range_with_len}
use Rattle.std.specs.Int.Bits.{xor_zero_r}
use Rattle.std.proofs.lemmas.List.{length-take-le, take-append-drop, drop_more, drop_all}
use Rattle.std.proofs.lemmas.Nat.{div-mul-add, mod-mul-add, xor_block}
use Rattle.mask_bits.specs.Reading.{number}
use Rattle.mask_bits.proofs.Numbers.{number-append, number-lt}
use Rattle.mask_circuit.specs.Value.{xor, value_at}
use Rattle.mask_laws.proofs.Bits.{xor-false}
use Rattle.mask_parts.proofs.Ranges.{elements}
use Rattle.mask_parts.proofs.WordNumbers.{number-xor}
use Rattle.mask_chaskey.specs.Chaskey.{doubled}

-- what falls out is the top bit
doubled-parts : (low : ℕ) (top : Bool) → low < 2 ^ 127 → doubled (low + 2 ^ 127 * (if top then 1 else 0)) ≡ bit_xor (2 * low) (if top then 0x87 else 0)
unfolding doubled
doubled-parts low true small =
    let whole : low + 2 ^ 127 * 1 ≡ 1 * 2 ^ 127 + low = omega arith in
    let twice : 2 * (low + 2 ^ 127 * 1) ≡ 1 * 2 ^ 128 + 2 * low = omega arith in
    let quotient : (low + 2 ^ 127 * 1) / 2 ^ 127 ≡ 1 = rw whole (div-mul-add 1 (2 ^ 127) low small) in
    let rest : 2 * (low + 2 ^ 127 * 1) % 2 ^ 128 ≡ 2 * low = rw twice (mod-mul-add 1 (2 ^ 128) (2 * low) (omega arith)) in
    rw (quotient, rest) refl
doubled-parts low false small =
    let whole : low + 2 ^ 127 * 0 ≡ 0 * 2 ^ 127 + low = omega arith in
    let twice : 2 * (low + 2 ^ 127 * 0) ≡ 0 * 2 ^ 128 + 2 * low = omega arith in
    let quotient : (low + 2 ^ 127 * 0) / 2 ^ 127 ≡ 0 = rw whole (div-mul-add 0 (2 ^ 127) low small) in
    let rest : 2 * (low + 2 ^ 127 * 0) % 2 ^ 128 ≡ 2 * low = rw twice (mod-mul-add 0 (2 ^ 128) (2 * low) (omega arith)) in
    rw (quotient, rest) refl

-- the top bit at places 0, 1, 2 and 7
abbrev spread : Bool → List Bool
spread t = t ∷ t ∷ t ∷ false ∷ false ∷ false ∷ false ∷ t ∷ []

number-spread : (t : Bool) → number (spread t) ≡ (if t then 0x87 else 0)
number-spread true = refl
number-spread false = refl

spread-lt : (t : Bool) → (if t then 0x87 else 0) < 2 ^ 8
spread-lt true = lit< tt
spread-lt false = lit< tt

-- a byte xored with them
xored-byte : (a b c d e f g t : Bool) → number (t ∷ xor a t ∷ xor b t ∷ c ∷ d ∷ e ∷ f ∷ xor g t ∷ []) ≡ bit_xor (number (false ∷ a ∷ b ∷ c ∷ d ∷ e ∷ f ∷ g ∷ [])) (if t then 0x87 else 0)
xored-byte a b c d e f g t =
    let first : List Bool = false ∷ a ∷ b ∷ c ∷ d ∷ e ∷ f ∷ g ∷ [] in
    let both = number-xor (value_at first) (value_at (spread t)) (range_with_len 0 8) in
    rw (xor-false c, xor-false d, xor-false e, xor-false f, number-spread t) at both

-- the bits behind them stay
xored-bits : (a b c d e f g t : Bool) (more : List Bool)
    → number (t ∷ xor a t ∷ xor b t ∷ c ∷ d ∷ e ∷ f ∷ xor g t ∷ more) ≡ bit_xor (2 * number (a ∷ b ∷ c ∷ d ∷ e ∷ f ∷ g ∷ more)) (if t then 0x87 else 0)
xored-bits a b c d e f g t more =
    let mask : ℕ = if t then 0x87 else 0 in
    let low : List Bool = t ∷ xor a t ∷ xor b t ∷ c ∷ d ∷ e ∷ f ∷ xor g t ∷ [] in
    let shifted : List Bool = false ∷ a ∷ b ∷ c ∷ d ∷ e ∷ f ∷ g ∷ [] in
    let twice : 2 * number (a ∷ b ∷ c ∷ d ∷ e ∷ f ∷ g ∷ more) ≡ number more * 2 ^ 8 + number shifted = rest (number-append shifted more) in
    let block : bit_xor (number more * 2 ^ 8 + number shifted) (0 * 2 ^ 8 + mask) ≡ bit_xor (number more) 0 * 2 ^ 8 + bit_xor (number shifted) mask =
    xor_block 8 (number more) 0 (number shifted) mask (number-lt shifted) (spread-lt t) in
    let none : 0 * 2 ^ 8 + mask ≡ mask = omega arith in
    number-append low more ∙ rw xored-byte (rw twice (sym (rw (none, xor_zero_r (number more)) at block ∙ omega arith)))
  where
    rest : number (false ∷ a ∷ b ∷ c ∷ d ∷ e ∷ f ∷ g ∷ more) ≡ number (false ∷ a ∷ b ∷ c ∷ d ∷ e ∷ f ∷ g ∷ []) + 2 ^ 8 * number more
        → 2 * number (a ∷ b ∷ c ∷ d ∷ e ∷ f ∷ g ∷ more) ≡ number more * 2 ^ 8 + number (false ∷ a ∷ b ∷ c ∷ d ∷ e ∷ f ∷ g ∷ [])
    rest is = omega arith

-- 128 bits moved up, with the XORs in their places
pub number-doubled : (bits : List Bool) → length bits ≡ 128
    → number (slice_set (slice_set (slice_set (drop 127 bits ++ take 127 bits) 1 (xor (value_at bits 0) (value_at bits 127))) 2 (xor (value_at bits 1) (value_at bits 127))) 7 (xor (value_at bits 6) (value_at bits 127)))
    ≡ doubled (number bits)
number-doubled bits long =
    let b : ℕ → Bool = value_at bits in
    let more : List Bool = take 120 (drop 7 bits) in
    let low : List Bool = take 127 bits in
    let low_long : length low ≡ 127 = length-take-le 127 bits (omega arith) in
    let low_is : low ≡ b 0 ∷ b 1 ∷ b 2 ∷ b 3 ∷ b 4 ∷ b 5 ∷ b 6 ∷ more = ap (take 127) (elements false bits 0 7 (omega arith)) in
    let top_is : drop 127 bits ≡ b 127 ∷ [] =
    drop_more bits 127 false (omega arith) ∙ ap (λ (rest : List Bool). b 127 ∷ rest) (drop_all 128 bits (omega arith)) in
    let whole : number bits ≡ number low + 2 ^ 127 * (if b 127 then 1 else 0) =
    ap number (sym (take-append-drop 127 bits)) ∙ number-append low (drop 127 bits) ∙ rw (low_long, top_is) (top_bit (number low) (b 127)) in
    let small : number low < 2 ^ 127 = rw low_long at (number-lt low) in
    ap₂ (λ (top rest : List Bool). number (slice_set (slice_set (slice_set (top ++ rest) 1 (xor (b 0) (b 127))) 2 (xor (b 1) (b 127))) 7 (xor (b 6) (b 127)))) top_is low_is
    ∙ xored-bits (b 0) (b 1) (b 2) (b 3) (b 4) (b 5) (b 6) (b 127) more
    ∙ ap (λ (bs : List Bool). bit_xor (2 * number bs) (if b 127 then 0x87 else 0)) (sym low_is)
    ∙ sym (doubled-parts (number low) (b 127) small)
    ∙ ap doubled (sym whole)
  where
    top_bit : (n : ℕ) (t : Bool) → n + 2 ^ 127 * number (t ∷ []) ≡ n + 2 ^ 127 * (if t then 1 else 0)
    top_bit n true = refl
    top_bit n false = refl
