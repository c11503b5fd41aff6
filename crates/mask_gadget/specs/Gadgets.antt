-- The coins of a gadget; and, for the steps of its body, the parts of its wires and how far it has come.
use Rattle.std.specs.Prelude.{◌≡◌, ◌⊎◌, ℕ, zero, suc, pred, ◌+◌, ◌<◌, ◌≤◌, List, [], ◌∷◌, length, slice_index, bit_and}
use Rattle.mask_circuit.specs.Ring.{Ring, words}
use Rattle.mask_circuit.specs.declared.gates.Wire.{Wire}
use Rattle.mask_circuit.specs.declared.gates.Wire.TheVariants.{Fresh, Left, Right}
use Rattle.mask_circuit.specs.Wires.{Shares, each, joined, pairs, other, row_wire, row_sum, cross, fresh_of, fresh_between}
use Rattle.mask_laws.specs.Names.{pairs_before}
use Rattle.mask_tape.specs.Drawn.{Drawn, ahead}

-- the next coins, one for each pair of n shares, and the coin of the pair (i, j)
abbrev pub coins_of : ℕ → Drawn → List ℕ
coins_of n coins = ahead (length (pairs n)) coins

abbrev pub pair_coin : ℕ → Drawn → ℕ → ℕ → ℕ
pair_coin n coins = fresh_of words (pairs n) (coins_of n coins)

-- of the coins that were `first`, those of the pairs of the rows before row i are used
pub record IsAtRow (n i : ℕ) (first coins : Drawn) : Type 0 where
  pub same : coins.words ≡ first.words
  pub used : coins.used ≡ first.used + pairs_before n i

-- the three names of a pair in a product, and those of the pairs (i, i + 1), .., (i, i + c)
abbrev pub pair_names : ℕ → ℕ → List Wire
pair_names i j = Fresh i j ∷ Left i j ∷ Right i j ∷ []

abbrev pub pair_row : ℕ → ℕ → List Wire
pair_row i c = joined (λ m. pair_names i (suc i + m)) c

-- the partial sums of row i
abbrev pub row_names : ℕ → ℕ → List Wire
row_names n i = each (λ m. row_wire n i (other i m)) (pred n)

-- the pair (k, l) stands before the pair (i, j)
abbrev pub Before : ℕ → ℕ → ℕ → ℕ → Type 0
Before k l i j = (k < i) ⊎ ((k ≡ i) × (l < j))

-- Of the terms of a product of a and b, those of the pairs before (i, j) are mixed: above the diagonal stands the fresh bit
-- of the pair, and below it the last wire of the pair. The other terms are products.
pub record Mixed (n : ℕ) (a b : Shares ℕ) (r : ℕ → ℕ → ℕ) (i j : ℕ) (term : ℕ → ℕ → ℕ) : Type 0 where
  pub own : (k : ℕ) → k < n → term k k ≡ bit_and (a k) (b k)
  pub upper : (k l : ℕ) → k < l → l < n → Before k l i j → term k l ≡ cross words a b r k l
  pub lower : (k l : ℕ) → k < l → l < n → Before k l i j → term l k ≡ cross words a b r l k
  pub upper_left : (k l : ℕ) → k < l → l < n → (Before k l i j → ⊥) → term k l ≡ bit_and (a k) (b l)
  pub lower_left : (k l : ℕ) → k < l → l < n → (Before k l i j → ⊥) → term l k ≡ bit_and (a l) (b k)

-- likewise the three names of a pair in a refresh, and those of a row of pairs
abbrev pub update_names : ℕ → ℕ → ℕ → List Wire
update_names n i j = Fresh i j ∷ row_wire n i j ∷ row_wire n j i ∷ []

abbrev pub update_row : ℕ → ℕ → ℕ → List Wire
update_row n i c = joined (λ m. update_names n i (suc i + m)) c

-- first plus the terms of the columns below c, but for column i
abbrev pub row_before : {X : Type 0} → Ring X → X → (ℕ → X) → ℕ → ℕ → X
row_before R first term i zero = first
row_before R first term i (suc c) = row_sum R first term i c

-- share k with the fresh bits of its pairs with the shares below c
abbrev pub refreshed : Shares ℕ → (ℕ → ℕ → ℕ) → ℕ → ℕ → ℕ
refreshed a r k c = row_before words (a k) (fresh_between r k) k c

-- A refresh of a on n shares has done the pairs of the rows before row i: these rows are complete, and the other shares
-- have the fresh bits of their pairs with them.
pub record RowsDone (n : ℕ) (a : Shares ℕ) (r : ℕ → ℕ → ℕ) (i : ℕ) (parts : List ℕ) : Type 0 where
  pub count : length parts ≡ n
  pub complete : (k : ℕ) → k < i → slice_index parts k ≡ refreshed a r k n
  pub begun : (k : ℕ) → i ≤ k → k < n → slice_index parts k ≡ refreshed a r k i
