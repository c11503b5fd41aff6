-- How many bits of the tape a circuit of known size draws.
use Rattle.std.proofs.Common.{◌≡◌, ℕ, suc, ◌+◌, ◌-◌, ◌*◌, ◌/◌, length, sym, ap, ◌∙◌, arith}
use Rattle.std.proofs.Math.Nat.{mul_comm}
use Rattle.mask_circuit.specs.Netlist.{Netlist, product_count, refresh_count}
use Rattle.mask_circuit.specs.Wires.{pairs}
use Rattle.mask_circuit.specs.Expansion.{draws}
use Rattle.mask_circuit.proofs.Draws.{draws-product}
use Rattle.mask_circuit.proofs.PairNumbers.{length-pairs}
use Rattle.mask_parts.specs.CipherCircuits.{Size, size_of, gate_bits}

-- d + 1 shares have so many pairs
pairs_of_shares : (d : ℕ) → gate_bits d ≡ length (pairs (suc d))
pairs_of_shares d =
    let one_less : suc d - 1 ≡ d = omega arith in
    let twice : d * suc d ≡ suc d * (suc d - 1) = rw one_less (omega arith) in
    ap (λ (n : ℕ). n / 2) twice ∙ sym (length-pairs (suc d))

-- the products and refreshes of a circuit of this size draw a bit for each pair
pub draws-gates : (c : Netlist) (size : Size) (d gates : ℕ) → size_of c ≡ size → size.products + size.refreshes ≡ gates → draws c (suc d) ≡ gates * gate_bits d
unfolding size_of
draws-gates c size d gates is all =
    let count : product_count c + refresh_count c ≡ gates = ap (λ (s : Size). s.products + s.refreshes) is ∙ all in
    draws-product c (suc d) (gate_bits d) (pairs_of_shares d) ∙ ap (λ (n : ℕ). gate_bits d * n) count ∙ mul_comm (gate_bits d) gates
