-- How many bits an evaluation draws at most.
use Rattle.std.proofs.Common.{ℕ, zero, suc, ◌+◌, ◌*◌, ◌/◌, ◌≤◌, cond, List, [], ◌∷◌, length, arith, lit≤}
use Rattle.std.specs.List.{count_by}
use Rattle.std.proofs.lemmas.List.Sums.{sum_by-cons}
use Rattle.std.proofs.Math.Nat.{mul-le-mul_right}
use Rattle.mask_circuit.specs.declared.gates.Gate.{Gate}
use Rattle.mask_circuit.specs.declared.gates.Gate.TheVariants.{Zero, One, Xor, Not, And, Ref}
use Rattle.mask_circuit.specs.Netlist.{is_product, is_refresh}

-- a gate is a product, a refresh, or neither
one_kind : (g : Gate) → cond (is_product g) 1 0 + cond (is_refresh g) 1 0 ≤ 1
one_kind Zero = lit≤ tt
one_kind One = lit≤ tt
one_kind (Xor u v) = lit≤ tt
one_kind (Not u) = lit≤ tt
one_kind (And u v) = lit≤ tt
one_kind (Ref u) = lit≤ tt

-- so there are no more of them than gates
pub few_draw : (gs : List Gate) → count_by is_product gs + count_by is_refresh gs ≤ length gs
few_draw [] = lit≤ tt
few_draw (g ∷ gs) =
    omega (arith, one_kind g, few_draw gs, sum_by-cons (λ x. cond (is_product x) 1 0) g gs, sum_by-cons (λ x. cond (is_refresh x) 1 0) g gs)

-- 8 shares have 28 pairs
few_pairs : (d : ℕ) → d ≤ 7 → (d + 1) * d / 2 ≤ 28
few_pairs zero h = lit≤ tt
few_pairs (suc zero) h = lit≤ tt
few_pairs (suc (suc zero)) h = lit≤ tt
few_pairs (suc (suc (suc zero))) h = lit≤ tt
few_pairs (suc (suc (suc (suc zero)))) h = lit≤ tt
few_pairs (suc (suc (suc (suc (suc zero))))) h = lit≤ tt
few_pairs (suc (suc (suc (suc (suc (suc zero)))))) h = lit≤ tt
few_pairs (suc (suc (suc (suc (suc (suc (suc zero))))))) h = lit≤ tt
few_pairs (suc (suc (suc (suc (suc (suc (suc (suc d)))))))) h = absurd (omega arith)

-- and an evaluation draws few coins in each lane
pub few_coins : (d n m : ℕ) → d ≤ 7 → n ≤ 1000000 → m ≤ 1000000 → d * n + (d + 1) * d / 2 * m ≤ 35000000
few_coins d n m few inputs gates =
    let shares : d * n ≤ 7 * n = mul-le-mul_right n few in
    let draws : (d + 1) * d / 2 * m ≤ 28 * m = mul-le-mul_right m (few_pairs d few) in
    omega arith
