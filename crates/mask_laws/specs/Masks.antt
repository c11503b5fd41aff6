-- The mask of a gate row by row, as its rule is told, and at once.
use Rattle.std.specs.Prelude.{◌≡◌, ℕ, zero, suc, Bool, false, not, ◌&&◌, ◌||◌, ◌==◌, List, Some, None}
use Rattle.std.specs.declared.option.Option.{Option}
use Rattle.mask_circuit.specs.Value.{xor}
use Rattle.mask_circuit.specs.declared.gates.Wire.{Wire}
use Rattle.mask_circuit.specs.declared.gates.Wire.TheVariants.{Fresh, Left}
use Rattle.mask_circuit.specs.Need.{ShareSet, product_rows, refresh_need}
use Rattle.mask_circuit.specs.Shift.{Sides, partner, product_base, product_mask, refresh_mask, share_change}
use Rattle.mask_laws.specs.Names.{IsPair}

-- A mask by pairs.
abbrev pub Mask : Type 0
Mask = ℕ → ℕ → Bool

-- whether (i, j) is the pair of row k and of its partner
abbrev pub is_pair_of : ℕ → Option ℕ → ℕ → ℕ → Bool
is_pair_of k None i j = false
is_pair_of k (Some p) i j = (k == i && p == j) || (p == i && k == j)

-- The rows below n are taken in rising order: where row k moves under the mask so far, the bit of its pair with its partner
-- is flipped.
abbrev pub row_by_row : Mask → (Mask → ℕ → Bool) → (ℕ → Option ℕ) → ℕ → Mask
row_by_row base moves partner_of zero i j = base i j
row_by_row base moves partner_of (suc k) i j =
    let before = row_by_row base moves partner_of k in
    xor (before i j) (moves before k && is_pair_of k (partner_of k) i j)

-- The mask of a product: the demanded rows that no inner probe touches move where their output share would change under the
-- mask so far.
abbrev pub product_by_rows : ℕ → List Wire → ShareSet → Sides → Sides → Mask
product_by_rows n Q O a b =
    row_by_row (product_base Q a b) (λ mask i. O i && not (product_rows Q i) && share_change n a b mask i)
    (partner n Left Q (product_rows Q) O) n

-- The mask of a refresh: the demanded rows that no probed update touches move where their operand share changed.
abbrev pub refresh_by_rows : ℕ → List Wire → ShareSet → Sides → Mask
refresh_by_rows n Q O a =
    row_by_row (λ i j. false) (λ mask i. O i && not (refresh_need Q i) && xor (a.one i) (a.two i))
    (partner n Fresh Q (refresh_need Q) O) n

-- The masks at once are these, for each pair of shares.
abbrev pub MasksAtOnce : Type 0
MasksAtOnce = (n : ℕ) (Q : List Wire) (O : ShareSet) (a b : Sides) (i j : ℕ) → IsPair n i j →
    (product_mask n Q O a b i j ≡ product_by_rows n Q O a b i j) × (refresh_mask n Q O a i j ≡ refresh_by_rows n Q O a i j)
