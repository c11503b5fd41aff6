-- The sum of a row, column by column.
use Rattle.std.proofs.Common.{◌≡◌, ℕ, zero, suc, pred, ◌+◌, ◌≤◌, Bool, true, false, not, cond, ◌&&◌, ◌==◌, refl, arith, add-one}
use mathlib.Core.Bool.{beq}
use Rattle.mask_circuit.specs.Value.{xor}
use Rattle.mask_circuit.specs.Ring.{bits}
use Rattle.mask_circuit.specs.Wires.{row_sum}

-- first plus the terms of the columns before k, but for column i
abbrev pub sum_before : Bool → (ℕ → Bool) → ℕ → ℕ → Bool
sum_before first term i zero = first
sum_before first term i (suc k) = xor (sum_before first term i k) (not (i == k) && term k)

pub column_more : (first : Bool) (term : ℕ → Bool) (i k : ℕ) → xor (sum_before first term i k) (not (i == k) && term k) ≡ sum_before first term i (k + 1)
column_more first term i k = rw (add-one k) refl

added : (x : Bool) (here : Bool) (t : Bool) → xor x (not here && t) ≡ cond here x (xor x t)
added true true t = refl
added false true t = refl
added x false t = refl

sums : (first : Bool) (term : ℕ → Bool) (i k : ℕ) → sum_before first term i (suc k) ≡ row_sum bits first term i k
sums first term i zero = added first (i == 0) (term 0)
sums first term i (suc k) = rw (sums first term i k) (added (row_sum bits first term i k) (i == suc k) (term (suc k)))

-- all columns make the row
pub all_columns : (first : Bool) (term : ℕ → Bool) (i n k : ℕ) → 2 ≤ n → k ≡ n → sum_before first term i k ≡ row_sum bits first term i (pred n)
all_columns first term i zero k two e = absurd (omega arith)
all_columns first term i (suc n) k two e = rw e (sums first term i n)

-- the code's xor of two bits
pub xor_code : (x y : Bool) → not (beq x y) ≡ xor x y
xor_code true true = refl
xor_code true false = refl
xor_code false true = refl
xor_code false false = refl
