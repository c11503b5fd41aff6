-- The pairs of shares by number: a pair's number is its place in the list of all pairs.
use Rattle.std.specs.Prelude.{ℕ, zero, suc, ◌+◌, ◌-◌, ◌*◌, ◌/◌, ◌<◌}

-- i and j are two shares of n, the lower one first
abbrev pub IsPair : ℕ → ℕ → ℕ → Type 0
IsPair n i j = (i < j) × (j < n)

-- how many pairs of n shares stand before those of row i
abbrev pub pairs_before : ℕ → ℕ → ℕ
pairs_before n zero = 0
pairs_before n (suc i) = pairs_before n i + (n - suc i)

-- the number of the pair (i, j) among the pairs of n shares
abbrev pub pair_number : ℕ → ℕ → ℕ → ℕ
pair_number n i j = pairs_before n i + (j - suc i)

-- how many pairs n shares have
abbrev pub pair_count : ℕ → ℕ
pair_count n = n * (n - 1) / 2
