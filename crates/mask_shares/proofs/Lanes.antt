-- Shares in all lanes.
use Rattle.std.proofs.Common.{◌≡◌, ℕ, zero, suc, ◌*◌, ◌%◌, ◌<◌, nat_eq, false, List, length, get_or, sym, ap, ◌∙◌, arith, bit_and}
use Rattle.std.proofs.lemmas.Nat.{and_mask}
use Rattle.std.proofs.lemmas.Nat.Bits.{bit_at_lowest, bit_at_ones, bit_at-zero}
use Rattle.std.proofs.lemmas.List.{ext_get_or, get_or-map, length-map}
use Rattle.mask_bits.specs.Reading.{bit}
use Rattle.mask_bits.specs.Lanes.{lane}

-- bit 0 of a word in all places
pub lowest_in_all : (word l : ℕ) → l < 64 → bit l (bit_and word 1 * 18446744073709551615) ≡ bit 0 word
lowest_in_all word l lt =
    let low : bit_and word 1 ≡ word % 2 = and_mask word 1 in
    ap (λ (n : ℕ). bit l (n * 18446744073709551615)) low ∙ go (word % 2) (omega arith) ∙ ap (λ (n : ℕ). nat_eq n 1) (sym (bit_at_lowest word))
  where
    go : (n : ℕ) → n < 2 → bit l (n * 18446744073709551615) ≡ nat_eq n 1
    go zero small = ap (λ (n : ℕ). nat_eq n 1) (bit_at-zero l)
    go (suc zero) small = ap (λ (n : ℕ). nat_eq n 1) (bit_at_ones 64 l lt)
    go (suc (suc n)) small = absurd (omega arith)

-- words with the same bit as others have in lane 0
pub lane_by_bits : (l : ℕ) (parts shares : List ℕ) → length parts ≡ length shares → ((k : ℕ) → k < length shares → bit l (get_or parts k 0) ≡ bit 0 (get_or shares k 0)) →
    lane l parts ≡ lane 0 shares
lane_by_bits l parts shares many all =
    ext_get_or false (lane l parts) (lane 0 shares) (length-map parts (bit l) ∙ many ∙ sym (length-map shares (bit 0))) (λ k hk.
    let here : k < length shares = omega (arith, length-map parts (bit l)) in
    get_or-map (bit l) parts k 0 false (omega arith) ∙ all k here ∙ sym (get_or-map (bit 0) shares k 0 false here))
