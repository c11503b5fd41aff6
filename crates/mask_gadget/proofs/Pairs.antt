-- Pairs of shares one after another: their coins, and what a machine is told of them.
use Rattle.std.proofs.Common.{◌≡◌, ℕ, suc, ◌+◌, ◌-◌, ◌<◌, ◌≤◌, inl, inr, Option, List, length, map, drop, get_or, refl, sym, ◌∙◌, arith, flat_map}
use Rattle.std.proofs.lemmas.List.{get_or-take, get_or-drop}
use Rattle.mask_circuit.specs.Ring.{words}
use Rattle.mask_circuit.specs.declared.gates.Wire.{Wire}
use Rattle.mask_circuit.specs.Wires.{Pair, joined, row_pairs, pairs}
use Rattle.mask_laws.specs.Names.{pairs_before, pair_number}
use Rattle.mask_tape.specs.Drawn.{Drawn}
use Rattle.mask_circuit.proofs.Places.{below_cases}
use Rattle.mask_gadget.specs.Gadgets.{IsAtRow, coins_of, pair_coin}
use Rattle.mask_gadget.specs.Wiring.{told_more}
use Rattle.mask_gadget.proofs.Telling.{told_joined}
use Rattle.mask_laws.proofs.Lookup.{fresh_of-at}
use Rattle.mask_gadget.proofs.Made.{flat_map-each, flat_map-joined, joined-same}
use Rattle.mask_circuit.proofs.PairNumbers.{length-pairs, pair_number-lt, pairs_before-all, pairs_before-more}

-- the coin of a pair
pub coin_at : (coins : Drawn) (n i j : ℕ) → i < j → j < n →
    pair_coin n coins i j ≡ get_or coins.words (coins.used + pair_number n i j) 0
coin_at coins n i j low high =
    let within : pair_number n i j < length (pairs n) = rw (length-pairs n) (pair_number-lt n i j low high) in
    fresh_of-at words (coins_of n coins) n i j (low, high)
    ∙ get_or-take (length (pairs n)) (drop coins.used coins.words) (pair_number n i j) 0 within
    ∙ get_or-drop coins.used coins.words (pair_number n i j) 0

-- the coin of a pair of row i, where those of the row's pairs before it are used
pub coin_next : (n i j : ℕ) (first row coins : Drawn) → i < j → j < n → IsAtRow n i first row → coins.words ≡ row.words →
    coins.used ≡ row.used + (j - suc i) → get_or coins.words coins.used 0 ≡ pair_coin n first i j
coin_next n i j first row coins low high at same used =
    let place : coins.used ≡ first.used + pair_number n i j = omega (arith, at.used) in
    rw (same, at.same, place) (sym (coin_at first n i j low high))

-- the coins of a row are among all of them
pub row_within : (n i : ℕ) → i < n → pairs_before n i + (n - suc i) ≤ length (pairs n)
row_within n i lt = elim (below_cases i (n - 1) (omega arith)) [
  | inl below ↦ let last = pair_number-lt n i (n - 1) below (omega arith) in omega (arith, length-pairs n)
  | inr here ↦ let all = pairs_before-all n (suc i) (omega arith) in omega arith
]

-- after a row of pairs comes the next
pub next_row : (n i : ℕ) (first coins coins' : Drawn) → IsAtRow n i first coins → coins'.words ≡ coins.words → coins'.used ≡ coins.used + (n - suc i) →
    IsAtRow n (i + 1) first coins'
next_row n i first coins coins' at same used =
    record { same = same ∙ at.same; used = let more = pairs_before-more n i in omega (arith, at.used) }

-- what is made pair by pair is made row by row
pub by_rows : {A : Type 0} (f : ℕ → ℕ → List A) (n : ℕ) →
    flat_map (λ (p : Pair). f p.0 p.1) (pairs n) ≡ joined (λ i. joined (λ m. f i (suc i + m)) (n - suc i)) n
by_rows f n =
    flat_map-joined (λ (p : Pair). f p.0 p.1) (row_pairs n) n
    ∙ joined-same _ _ n (λ i lt. flat_map-each (λ (p : Pair). f p.0 p.1) (λ m. (i, suc i + m)) (n - suc i))

-- one pair more of a row
pub column_more : (W : Wire → ℕ) (f : ℕ → ℕ → List Wire) (told told' told'' : Option (List ℕ)) (i j : ℕ) (new : List ℕ) → i < j →
    told' ≡ told_more told (map W (joined (λ m. f i (suc i + m)) (j - suc i))) → told'' ≡ told_more told' new → new ≡ map W (f i j) →
    told'' ≡ told_more told (map W (joined (λ m. f i (suc i + m)) (j + 1 - suc i)))
column_more W f told told' told'' i j new low before now is =
    let next : j + 1 - suc i ≡ (j - suc i) + 1 = omega arith in
    let column : suc i + (j - suc i) ≡ j = omega arith in
    rw next (told_joined W (λ m. f i (suc i + m)) told told' told'' (j - suc i) before (now ∙ rw (column, is) refl))
