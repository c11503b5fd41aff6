-- Arrays of words are small enough for memory.
use Rattle.std.proofs.Common.{ℕ, ◌*◌, ◌<◌, ◌≤◌, arith}
use Rattle.std.proofs.Math.Nat.{mul-le-mul}

pub row_fits : (n size : ℕ) → n ≤ 8 → size ≤ 8 → n * size < 9223372036854775808
row_fits n size few small = let most : n * size ≤ 8 * 8 = mul-le-mul few small in omega arith

pub square_fits : (n size : ℕ) → n ≤ 8 → size ≤ 8 → n * (n * size) < 9223372036854775808
square_fits n size few small =
    let row : n * size ≤ 8 * 8 = mul-le-mul few small in
    let most : n * (n * size) ≤ 8 * 64 = mul-le-mul few row in
    omega arith
