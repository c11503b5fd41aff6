-- What the output shares of a gate share: the gate's value.
use Rattle.std.proofs.Common.{◌≡◌, ℕ, zero, suc, ◌<◌, ◌≤◌, Bool, not, ◌&&◌, List, [], ◌∷◌, length, sym, ap, ◌∙◌, arith}
use Rattle.std.proofs.lemmas.List.{ext_get_or}
use Rattle.mask_circuit.specs.declared.gates.Gate.TheVariants.{Xor, Not, And, Ref}
use Rattle.mask_circuit.specs.Value.{xor}
use Rattle.mask_circuit.specs.Ring.{bits}
use Rattle.mask_circuit.specs.declared.gates.Wire.TheVariants.{Share}
use Rattle.mask_circuit.specs.Wires.{each, gate_out}
use Rattle.mask_circuit.specs.Expansion.{start}
use Rattle.mask_circuit.proofs.Places.{length-each}
use Rattle.mask_laws.proofs.BitSums.{total, total-xor, unmasked-each}
use Rattle.mask_laws.proofs.Unmasking.{Stand, gate_total}
use Rattle.mask_shares.specs.Sharing.{listed, all_listed, unmasked}
use Rattle.mask_shares.proofs.Lists.{get_or-each, map-each}

-- a list is made by its own elements
each-listed : (xs : List Bool) (n : ℕ) → length xs ≡ n → xs ≡ each (listed bits xs) n
each-listed xs n e =
    ext_get_or bits.nought xs (each (listed bits xs) n) (e ∙ sym (length-each (listed bits xs) n))
    (λ k lt. let l : k < n = omega arith in sym (get_or-each (listed bits xs) n k bits.nought l))

-- the value that n bits share
unmasked-total : (xs : List Bool) (n : ℕ) → length xs ≡ n → unmasked bits xs ≡ total (listed bits xs) n
unmasked-total xs n e = ap (unmasked bits) (each-listed xs n e) ∙ unmasked-each (listed bits xs) n

-- the value that the output shares of a gate share
out-total : (f : ℕ → Bool) (n : ℕ) (xs : List Bool) → xs ≡ each f n → unmasked bits xs ≡ total f n
out-total f n xs e = ap (unmasked bits) e ∙ unmasked-each f n

-- one operand stands for what it shares, and so do two
one_stands : (n : ℕ) (x : List Bool) → length x ≡ n → Stand n 1 (start bits (all_listed bits (x ∷ []))) (unmasked bits x ∷ [])
one_stands n x ex zero lt = sym (unmasked-total x n ex)
one_stands n x ex (suc u) lt = absurd (omega arith)

two_stand : (n : ℕ) (x y : List Bool) → length x ≡ n → length y ≡ n →
    Stand n 2 (start bits (all_listed bits (x ∷ y ∷ []))) (unmasked bits x ∷ unmasked bits y ∷ [])
two_stand n x y ex ey zero lt = sym (unmasked-total x n ex)
two_stand n x y ex ey (suc zero) lt = sym (unmasked-total y n ey)
two_stand n x y ex ey (suc (suc u)) lt = absurd (omega arith)

pub unmasked-xor : (n : ℕ) (x y : List Bool) → length x ≡ n → length y ≡ n →
    unmasked bits (gate_out bits n (Xor 0 1) (all_listed bits (x ∷ y ∷ [])) []) ≡ xor (unmasked bits x) (unmasked bits y)
unmasked-xor n x y ex ey =
    rw (unmasked-total x n ex, unmasked-total y n ey)
    (out-total (λ i. xor (listed bits x i) (listed bits y i)) n _ (map-each _ Share n) ∙ total-xor (listed bits x) (listed bits y) n)

pub unmasked-not : (n : ℕ) (x : List Bool) → length x ≡ n → 0 < n →
    unmasked bits (gate_out bits n (Not 0) (all_listed bits (x ∷ [])) []) ≡ not (unmasked bits x)
unmasked-not n x ex some =
    out-total _ n _ (map-each _ Share n)
    ∙ gate_total n (Not 0) 1 (start bits (all_listed bits (x ∷ []))) (unmasked bits x ∷ []) [] some (omega arith) (one_stands n x ex)

pub unmasked-and : (n : ℕ) (x y r : List Bool) → length x ≡ n → length y ≡ n → 2 ≤ n →
    unmasked bits (gate_out bits n (And 0 1) (all_listed bits (x ∷ y ∷ [])) r) ≡ (unmasked bits x && unmasked bits y)
unmasked-and n x y r ex ey some =
    out-total _ n _ (map-each _ Share n)
    ∙ gate_total n (And 0 1) 2 (start bits (all_listed bits (x ∷ y ∷ []))) (unmasked bits x ∷ unmasked bits y ∷ []) r (omega arith)
    (omega arith, omega arith) (two_stand n x y ex ey)

pub unmasked-ref : (n : ℕ) (x r : List Bool) → length x ≡ n → 2 ≤ n →
    unmasked bits (gate_out bits n (Ref 0) (all_listed bits (x ∷ [])) r) ≡ unmasked bits x
unmasked-ref n x r ex some =
    out-total _ n _ (map-each _ Share n)
    ∙ gate_total n (Ref 0) 1 (start bits (all_listed bits (x ∷ []))) (unmasked bits x ∷ []) r (omega arith) (omega arith) (one_stands n x ex)
