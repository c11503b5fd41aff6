-- Shares as lists: a value is shared by n elements whose sum it is (Ishai, Sahai and Wagner 2003).
use Rattle.std.specs.Prelude.{ℕ, List, [], ◌∷◌, fold, take, drop, slice_index_or}
use Rattle.mask_circuit.specs.Ring.{Ring}
use Rattle.mask_circuit.specs.Wires.{Shares}

-- the shares of one value by number, from their list
abbrev pub listed : {X : Type 0} → Ring X → List X → Shares X
listed R shares i = slice_index_or shares i R.nought

-- the shares of each value by number, from the list of those lists
abbrev pub all_listed : {X : Type 0} → Ring X → List (List X) → ℕ → Shares X
all_listed R values u = listed R (slice_index_or values u [])

-- the value that is shared: the sum of the shares
abbrev pub unmasked : {X : Type 0} → Ring X → List X → X
unmasked R shares = fold R.add R.nought shares

-- the shares of a value: a coin for each share but the first, which is the value plus all coins
abbrev pub shared : {X : Type 0} → Ring X → X → List X → List X
shared R value coins = fold R.add value coins ∷ coins

-- the shares of each value, each made with the next d coins
abbrev pub all_shared : {X : Type 0} → Ring X → ℕ → List X → List X → List (List X)
all_shared R d [] coins = []
all_shared R d (value ∷ values) coins = shared R value (take d coins) ∷ all_shared R d values (drop d coins)
