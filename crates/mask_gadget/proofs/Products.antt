-- The wires of a product: its parts, and the sums of its rows.
use Rattle.std.proofs.Common.{◌≡◌, ℕ, suc, pred, ◌+◌, ◌-◌, ◌*◌, ◌<◌, Option, List, ◌++◌, length, map, bit_xor, bit_and, flat_map, refl, sym, ap, ◌∙◌, arith}
use Rattle.std.proofs.lemmas.List.{map-append}
use Rattle.mask_circuit.specs.Ring.{words}
use Rattle.mask_circuit.specs.declared.gates.Wire.{Wire}
use Rattle.mask_circuit.specs.declared.gates.Wire.TheVariants.{Share, Product}
use Rattle.mask_circuit.specs.Wires.{Pair, Shares, each, joined, pairs, other, row_wire, row_sum, cross, product_wire, product_names}
use Rattle.mask_circuit.proofs.PairNumbers.{length-pairs}
use Rattle.mask_gadget.specs.Wiring.{told_more}
use Rattle.mask_gadget.specs.Gadgets.{Mixed, pair_names, pair_row, row_names}
use Rattle.mask_shares.proofs.Lists.{map-each, each-same}
use Rattle.mask_gadget.proofs.Made.{map-joined, joined-same}
use Rattle.mask_gadget.proofs.Mixing.{all_mixed}
use Rattle.mask_gadget.proofs.Pairs.{by_rows}
use Rattle.mask_laws.proofs.Names.{other-below}
use Rattle.mask_laws.proofs.Sums.{row_sum-same}
use Rattle.mask_laws.proofs.LocalNumbers.{length-product_names}
use Rattle.mask_gadget.proofs.Rows.{partial, partial-more, row_wire-sum}
use Rattle.mask_gadget.proofs.Telling.{told_then}

-- how many wires there are: all a_i · b_j, three for each pair, and the partial sums of each row
pub product_count : (n : ℕ) → length (product_names n) ≡ n * n + 3 * length (pairs n) + n * (n - 1)
product_count n = length-product_names n ∙ ap (λ (k : ℕ). n * n + 3 * k + n * (n - 1)) (sym (length-pairs n))

-- one partner more in a row
pub partner_more : (first : ℕ) (term : ℕ → ℕ) (i m sum sum' : ℕ) → sum ≡ partial words first term i m → sum' ≡ bit_xor sum (term (other i m)) →
    sum' ≡ row_sum words first term i (other i m)
partner_more first term i m sum sum' sum_is more = more ∙ rw sum_is (sym (partial-more words first term i m))

module _ (n : ℕ) (a b : Shares ℕ) (r : ℕ → ℕ → ℕ) where
  -- the three parts of what is told are all wires
  pub all_told : (told products mixed sums : Option (List ℕ)) →
      products ≡ told_more told (joined (λ i. each (λ j. bit_and (a i) (b j)) n) n) →
      mixed ≡ told_more products (map (product_wire words n a b r) (joined (λ i. pair_row i (n - suc i)) n)) →
      sums ≡ told_more mixed (map (product_wire words n a b r) (joined (row_names n) n)) →
      sums ≡ told_more told (map (product_wire words n a b r) (product_names n))
  all_told told products mixed sums first second third =
      let W : Wire → ℕ = product_wire words n a b r in
      let names : List Wire = joined (λ i. each (Product i) n) n in
      let threes : List Wire = flat_map (λ (p : Pair). pair_names p.0 p.1) (pairs n) in
      let products_are : map W names ≡ joined (λ i. each (λ j. bit_and (a i) (b j)) n) n =
      map-joined W (λ i. each (Product i) n) n ∙ joined-same _ _ n (λ i lt. map-each W (Product i) n) in
      told_then told mixed sums (map W (names ++ threes)) (map W (joined (row_names n) n))
      (told_then told products mixed (map W names) (map W threes) (rw products_are first) (rw (by_rows pair_names n) second)
      ∙ ap (told_more told) (sym (map-append W names threes)))
      third
      ∙ ap (told_more told) (sym (map-append W (names ++ threes) (joined (row_names n) n)))

  module _ (term : ℕ → ℕ → ℕ) (i : ℕ) (lt : i < n) (mixed : Mixed n a b r n (suc n) term) where
    row_is : (k : ℕ) → k < n → row_sum words (term i i) (term i) i k ≡ row_sum words (bit_and (a i) (b i)) (cross words a b r i) i k
    row_is k hk = row_sum-same words (term i i) (bit_and (a i) (b i)) (term i) (cross words a b r i) i k (mixed.own i lt)
        (λ j le ne. all_mixed n a b r n (suc n) i j term (omega arith) mixed lt (omega arith) ne)

    -- row i has its wires ..
    pub row_made : each (λ m. row_sum words (term i i) (term i) i (other i m)) (n - 1) ≡ map (product_wire words n a b r) (row_names n i)
    row_made =
        let count : n - 1 ≡ pred n = omega arith in
        rw count
        (each-same _ _ (pred n) (λ m hm.
        row_is (other i m) (other-below n i m lt (omega arith))
        ∙ sym (row_wire-sum words (product_wire words n a b r) (bit_and (a i) (b i)) (cross words a b r i) n i (other i m) refl refl))
        ∙ sym (map-each (product_wire words n a b r) (λ m. row_wire n i (other i m)) (pred n)))

    -- .. and ends with its output share
    pub row_ends : row_sum words (term i i) (term i) i (n - 1) ≡ product_wire words n a b r (Share i)
    row_ends =
        let count : n - 1 ≡ pred n = omega arith in
        rw count (row_is (pred n) (omega arith))
