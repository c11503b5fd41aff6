-- The mask of a product or a refresh is the one that the shift takes.
use Rattle.std.proofs.Common.{◌≡◌, ℕ, suc, ◌+◌, List, get_or, Some, refl, ap, ap₂, ◌∙◌, arith}
use Rattle.mask_circuit.specs.declared.gates.Gate.{Gate}
use Rattle.mask_circuit.specs.declared.gates.Gate.TheVariants.{And, Ref}
use Rattle.mask_circuit.specs.Netlist.{Netlist}
use Rattle.mask_circuit.specs.declared.gates.Wire.{Wire}
use Rattle.mask_circuit.specs.Wires.{gate_names}
use Rattle.mask_circuit.specs.Expansion.{names_by, names_of}
use Rattle.mask_circuit.specs.Need.{ShareSet}
use Rattle.mask_circuit.specs.Acceptance.{gate_at}
use Rattle.mask_circuit.specs.Shift.{gate_mask}
use Rattle.mask_laws.proofs.Operands.{gate_mask-same}
use Rattle.mask_bits.specs.Reading.{number}
use Rattle.mask_sni.specs.Asked.{bit_shares, in_places, members, operand_shares}
use Rattle.mask_probe.specs.Sides.{byte_shares}
use Rattle.mask_probe.proofs.ShareSets.{in_places-members}

-- the names of a value with this gate
pub names_of-gate : (c : Netlist) (N v : ℕ) (g : Gate) → gate_at c v ≡ Some g → names_of c N v ≡ gate_names N g
names_of-gate c N v g is = ap (names_by N) is

-- the mask of a product, and of a refresh, on the shares of all values
pub product_mask_of : (N u v : ℕ) (Q Q' : List Wire) (O : List ℕ) (set : ShareSet) (first second : List ℕ) → Q ≡ Q' → O ≡ members N set →
    number (gate_mask N (And 0 1) Q (in_places O) (operand_shares (get_or first u 0) (get_or first v 0)) (operand_shares (get_or second u 0) (get_or second v 0)))
    ≡ number (gate_mask N (And u v) Q' set (byte_shares first) (byte_shares second))
product_mask_of N u v Q Q' O set first second inner places =
    ap number
    (ap₂ (λ (q : List Wire) (o : List ℕ). gate_mask N (And u v) q (in_places o) (byte_shares first) (byte_shares second)) inner places
    ∙ gate_mask-same N (suc (u + v)) (And u v) Q' (in_places (members N set)) set (byte_shares first) (byte_shares first) (byte_shares second) (byte_shares second)
    (omega arith, omega arith) (λ i lt. in_places-members N set i lt) (λ k i lt hi. refl) (λ k i lt hi. refl))

pub refresh_mask_of : (N u : ℕ) (Q Q' : List Wire) (O : List ℕ) (set : ShareSet) (first second : List ℕ) → Q ≡ Q' → O ≡ members N set →
    number (gate_mask N (Ref 0) Q (in_places O) (λ k. bit_shares (get_or first u 0)) (λ k. bit_shares (get_or second u 0)))
    ≡ number (gate_mask N (Ref u) Q' set (byte_shares first) (byte_shares second))
refresh_mask_of N u Q Q' O set first second inner places =
    ap number
    (ap₂ (λ (q : List Wire) (o : List ℕ). gate_mask N (Ref u) q (in_places o) (byte_shares first) (byte_shares second)) inner places
    ∙ gate_mask-same N (suc u) (Ref u) Q' (in_places (members N set)) set (byte_shares first) (byte_shares first) (byte_shares second) (byte_shares second)
    (omega arith) (λ i lt. in_places-members N set i lt) (λ k i lt hi. refl) (λ k i lt hi. refl))
