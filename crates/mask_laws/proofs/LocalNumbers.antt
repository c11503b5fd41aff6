-- The local numbers of a gate's wires.
use Rattle.std.proofs.Common.{◌≡◌, ℕ, pred, ◌+◌, ◌-◌, ◌*◌, ◌<◌, ◌++◌, length, flat_map, slice_get, Some, refl, ◌∙◌, arith, add-zero, length-append}
use Rattle.mask_circuit.specs.declared.gates.Wire.{Wire}
use Rattle.mask_circuit.specs.declared.gates.Wire.TheVariants.{Share, Product, Fresh, Left, Right}
use Rattle.mask_circuit.specs.Wires.{each, pairs, other, row_wire, product_names, refresh_names}
use Rattle.mask_laws.specs.Names.{IsPair, pair_number, pair_count, PairsInOrder, ProductInOrder, RefreshInOrder, SharesInOrder, NamesInOrder}
use Rattle.mask_circuit.proofs.PairNumbers.{length-pairs, slice_get-pairs}
use Rattle.mask_laws.proofs.Names.{products, of_pair, rows, updates}
use Rattle.mask_circuit.proofs.Places.{slice_get-append_front, back_at, length-each, slice_get-each, slice_get-joined, length-joined, slice_get-threes, length-threes}

pub pairs_in_order : (n : ℕ) → PairsInOrder n
pairs_in_order n = record { pair = slice_get-pairs n; count = length-pairs n }

-- SHARES

pub shares_in_order : (n : ℕ) → SharesInOrder n
shares_in_order n = record { share = slice_get-each Share n; count = length-each Share n }

-- PRODUCTS

-- the first part of the list: its length, and the name of a_i · b_j in it
length-products : (n : ℕ) → length (products n) ≡ n * n
unfolding products
length-products n = length-joined (λ i. each (Product i) n) n n (λ i. length-each (Product i) n)

product_at : (n i j : ℕ) → i < n → j < n → slice_get (products n) (i * n + j) ≡ Some (Product i j)
unfolding products
product_at n i j hi hj =
    rw (← (length-joined (λ k. each (Product k) n) n i (λ k. length-each (Product k) n)))
    (slice_get-joined (λ k. each (Product k) n) n i j (Product i j) hi (slice_get-each (Product i) n j hj))

-- the second part: the wires of each pair
length-pair_wires : (n : ℕ) → length (flat_map of_pair (pairs n)) ≡ 3 * pair_count n
unfolding of_pair
length-pair_wires n = rw (length-threes of_pair (pairs n) (λ q. refl), length-pairs n) refl

pair_wire_at : (n i j t : ℕ) (w : Wire) → IsPair n i j → slice_get (of_pair (i, j)) t ≡ Some w →
    slice_get (flat_map of_pair (pairs n)) (3 * pair_number n i j + t) ≡ Some w
unfolding of_pair
pair_wire_at n i j t w is h = slice_get-threes of_pair (pairs n) (pair_number n i j) t (i, j) w (λ q. refl) (slice_get-pairs n i j is) h

-- the last part: the rows
length-row : (n i : ℕ) → length (each (λ m. row_wire n i (other i m)) (pred n)) ≡ n - 1
length-row n i = length-each (λ m. row_wire n i (other i m)) (pred n) ∙ omega arith

length-rows : (n : ℕ) → length (rows n) ≡ n * (n - 1)
unfolding rows
length-rows n = length-joined (λ i. each (λ m. row_wire n i (other i m)) (pred n)) (n - 1) n (length-row n)

row_at : (n i m : ℕ) → i < n → m < n - 1 → slice_get (rows n) (i * (n - 1) + m) ≡ Some (row_wire n i (other i m))
unfolding rows
row_at n i m hi hm =
    rw (← (length-joined (λ k. each (λ c. row_wire n k (other k c)) (pred n)) (n - 1) i (length-row n)))
    (slice_get-joined (λ k. each (λ c. row_wire n k (other k c)) (pred n)) n i m (row_wire n i (other i m)) hi
    (slice_get-each (λ c. row_wire n i (other i c)) (pred n) m (omega arith)))

-- a wire of the pair (i, j) in the whole list, and one of row i
product_pair_at : (n i j t k : ℕ) (w : Wire) → k ≡ n * n + (3 * pair_number n i j + t) → IsPair n i j → slice_get (of_pair (i, j)) t ≡ Some w →
    slice_get (product_names n) k ≡ Some w
unfolding products of_pair rows
product_pair_at n i j t k w e is h =
    slice_get-append_front (products n ++ flat_map of_pair (pairs n)) (rows n) k w
    (back_at (products n) (flat_map of_pair (pairs n)) (3 * pair_number n i j + t) k w (rw (length-products n) e)
    (pair_wire_at n i j t w is h))

length-front : (n : ℕ) → length (products n ++ flat_map of_pair (pairs n)) ≡ n * n + 3 * pair_count n
length-front n = rw (length-append (products n) (flat_map of_pair (pairs n)), length-products n, length-pair_wires n) refl

product_row_at : (n i m : ℕ) → i < n → m < n - 1 →
    slice_get (product_names n) (n * n + 3 * pair_count n + i * (n - 1) + m) ≡ Some (row_wire n i (other i m))
unfolding products of_pair rows
product_row_at n i m hi hm =
    back_at (products n ++ flat_map of_pair (pairs n)) (rows n) (i * (n - 1) + m) _ _ (rw (length-front n) (omega arith)) (row_at n i m hi hm)

pub length-product_names : (n : ℕ) → length (product_names n) ≡ n * n + 3 * pair_count n + n * (n - 1)
unfolding products of_pair rows
length-product_names n =
    rw (length-append (products n ++ flat_map of_pair (pairs n)) (rows n), length-front n, length-rows n) refl

pub product_in_order : (n : ℕ) → ProductInOrder n
unfolding products of_pair rows
product_in_order n = record {
  product = λ i j hi hj. slice_get-append_front (products n ++ flat_map of_pair (pairs n)) (rows n) (i * n + j) (Product i j)
      (slice_get-append_front (products n) (flat_map of_pair (pairs n)) (i * n + j) (Product i j) (product_at n i j hi hj));
  fresh = λ i j is. product_pair_at n i j 0 _ (Fresh i j) (omega arith) is refl;
  left = λ i j is. product_pair_at n i j 1 _ (Left i j) (omega arith) is refl;
  right = λ i j is. product_pair_at n i j 2 _ (Right i j) (omega arith) is refl;
  row = product_row_at n;
  count = length-product_names n;
}

-- REFRESHES

update_at : (n i j t : ℕ) (w : Wire) → IsPair n i j → slice_get (updates n (i, j)) t ≡ Some w →
    slice_get (refresh_names n) (3 * pair_number n i j + t) ≡ Some w
unfolding updates
update_at n i j t w is h = slice_get-threes (updates n) (pairs n) (pair_number n i j) t (i, j) w (λ q. refl) (slice_get-pairs n i j is) h

pub refresh_in_order : (n : ℕ) → RefreshInOrder n
unfolding updates
refresh_in_order n = record {
  fresh = λ i j is. rw add-zero at (update_at n i j 0 (Fresh i j) is refl);
  lower = λ i j is. update_at n i j 1 (row_wire n i j) is refl;
  higher = λ i j is. update_at n i j 2 (row_wire n j i) is refl;
  count = rw (length-threes (updates n) (pairs n) (λ q. refl), length-pairs n) refl;
}

pub names_in_order : (n : ℕ) → NamesInOrder n
names_in_order n = record { pairs = pairs_in_order n; shares = shares_in_order n; product = product_in_order n; refresh = refresh_in_order n }
