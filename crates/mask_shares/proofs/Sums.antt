-- Shares of a public word, and the complement.
use Rattle.std.proofs.Common.{◌≡◌, ℕ, zero, suc, ◌<◌, ◌^◌, ◌-◌, ◌==◌, cond, List, get_or, replicate, set, bit_xor, refl, ◌∙◌, arith, ne_eqb}
use Rattle.std.specs.Int.Bits.{xor_zero_r}
use Rattle.std.proofs.lemmas.List.{get_or-set_same, get_or-set_other, length-replicate, get_or-replicate, length-set}
use Rattle.mask_circuit.specs.Ring.{words}
use Rattle.mask_circuit.specs.Wires.{each, on_first}
use Rattle.mask_shares.proofs.Lists.{is_each, get_or-each, each-same}

-- zeros, of which the first was set
pub first_set : (n word : ℕ) → 0 < n → set (replicate {A = ℕ} n 0) 0 word ≡ each (on_first words word) n
first_set n word some = is_each (on_first words word) n (set (replicate {A = ℕ} n 0) 0 word) (simp (length-set, length-replicate)) go
  where
    go : (k : ℕ) → k < n → get_or (set (replicate {A = ℕ} n 0) 0 word) k 0 ≡ on_first words word k
    go zero lt = get_or-set_same (replicate {A = ℕ} n 0) 0 word 0 (rw length-replicate some)
    go (suc k) lt =
        rw (ne_eqb (suc k) 0 (omega arith))
        (get_or-set_other (replicate {A = ℕ} n 0) 0 (suc k) word 0 (omega arith) ∙ get_or-replicate n (suc k) 0 0 lt)

-- adding ones on share 0 flips its bits, and leaves the other shares
pub complement : (n : ℕ) (xs : List ℕ) →
    each (λ i. bit_xor (get_or xs i 0) (get_or (each (on_first words (2 ^ 64 - 1)) n) i 0)) n
    ≡ each (λ i. cond (i == 0) (bit_xor (get_or xs i 0) (2 ^ 64 - 1)) (get_or xs i 0)) n
complement n xs = each-same _ _ n go
  where
    go : (k : ℕ) → k < n → bit_xor (get_or xs k 0) (get_or (each (on_first words (2 ^ 64 - 1)) n) k 0)
        ≡ cond (k == 0) (bit_xor (get_or xs k 0) (2 ^ 64 - 1)) (get_or xs k 0)
    go zero lt = rw (get_or-each (on_first words (2 ^ 64 - 1)) n 0 0 lt) refl
    go (suc k) lt = rw (get_or-each (on_first words (2 ^ 64 - 1)) n (suc k) 0 lt, ne_eqb (suc k) 0 (omega arith)) (xor_zero_r (get_or xs (suc k) 0))
