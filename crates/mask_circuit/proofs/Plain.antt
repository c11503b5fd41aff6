-- A circuit with its plain groups is a labelled circuit.
use Rattle.std.proofs.Common.{◌≡◌, ℕ, zero, suc, ◌≤◌, true, List, [], length, codes, refl, arith}
use Rattle.mask_circuit.specs.Netlist.{Netlist, IsCircuit}
use Rattle.mask_circuit.specs.Labels.{NamedGroup, IsLabelled, AreGroups, sizes, is_name, is_taken, one_group}

sizes-one_group : (name : List ℕ) (n : ℕ) → sizes (one_group name n) ≡ n
sizes-one_group name zero = refl
sizes-one_group name (suc n) = omega arith

length-one_group : (name : List ℕ) (n : ℕ) → length (one_group name n) ≤ 1000
length-one_group name zero = omega arith
length-one_group name (suc n) = omega arith

-- nothing is taken where there is no group
AreGroups-one_group : (name : List ℕ) (n : ℕ) → is_name name ≡ true → AreGroups [] (one_group name n)
unfolding is_taken
AreGroups-one_group name zero named = tt
AreGroups-one_group name (suc n) named = (named, (let some : 1 ≤ suc n = omega arith in some), refl, tt)

pub IsLabelled-plain : (c : Netlist) (xs ys : List NamedGroup) → IsCircuit c → xs ≡ one_group (codes "x") c.inputs → ys ≡ one_group (codes "y") (length c.outputs)
    → IsLabelled (record { circuit = c; inputs = xs; outputs = ys })
unfolding is_name
IsLabelled-plain c xs ys is ex ey = rw (ex, ey) (record {
  circuit = is;
  inputs = AreGroups-one_group _ c.inputs refl;
  few_inputs = length-one_group _ c.inputs;
  all_inputs = sizes-one_group _ c.inputs;
  outputs = AreGroups-one_group _ (length c.outputs) refl;
  few_outputs = length-one_group _ (length c.outputs);
  all_outputs = sizes-one_group _ (length c.outputs);
})
