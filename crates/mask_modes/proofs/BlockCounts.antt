-- How many blocks there are.
use Rattle.std.proofs.Common.{◌≡◌, ℕ, ◌+◌, ◌-◌, ◌*◌, ◌/◌, ◌<◌, ◌≤◌, ap, ◌∙◌, arith}
use Rattle.std.proofs.lemmas.Nat.{div-mul-add, le-div}
use Rattle.std.proofs.Math.Nat.{mul-add-div_right, lt-div-mul-add, div-mul-le_self}
use Rattle.mask_modes.specs.CounterMode.{block_count}

-- those of whole blocks and more
pub block_count-add : (b n k : ℕ) → 0 < b → block_count b (n * b + k) ≡ n + block_count b k
block_count-add b n k some =
    let e : n * b + k + (b - 1) ≡ n * b + (k + (b - 1)) = omega arith in
    ap (λ (x : ℕ). x / b) e ∙ mul-add-div_right some n (k + (b - 1))

pub block_count-whole : (b n : ℕ) → 0 < b → block_count b (n * b) ≡ n
block_count-whole b n some = div-mul-add n b (b - 1) (omega arith)

-- the blocks hold the bytes
pub le-block_count : (b n : ℕ) → 0 < b → n ≤ block_count b n * b
le-block_count b n some = let h : n + (b - 1) < (n + (b - 1)) / b * b + b = lt-div-mul-add some in omega arith

-- fewer bytes fill no more blocks
pub block_count_grows : (b m n : ℕ) → 0 < b → m ≤ n → block_count b m ≤ block_count b n
block_count_grows b m n some le = le-div _ _ b some (omega (arith, div-mul-le_self (m + (b - 1)) b))
