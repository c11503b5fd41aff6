-- Circuits whose inputs and outputs stand in named groups, as plain data, which contracts see in place of a `Labelled`.
use Rattle.std.specs.Prelude.{◌≡◌, ℕ, zero, suc, ◌+◌, ◌≤◌, Bool, true, false, ◌&&◌, ◌||◌, ◌==◌, nat_le, List, [], ◌∷◌, ◌++◌, length, codes}
use Rattle.std.specs.List.{list_any, list_all}
use Rattle.std.specs.Str.{bytes_eq}
use Rattle.mask_circuit.specs.Netlist.{Netlist, IsCircuit}

-- a name, and how many inputs or outputs it stands for
pub record NamedGroup : Type 0 where
  pub name : List ℕ
  pub size : ℕ

-- a circuit, the groups of its inputs in order, and those of its outputs
pub record LabelledNetlist : Type 0 where
  pub circuit : Netlist
  pub inputs : List NamedGroup
  pub outputs : List NamedGroup

-- a letter from a to z
abbrev pub is_letter : ℕ → Bool
is_letter b = nat_le 97 b && nat_le b 122

-- a letter, a digit or a hyphen
abbrev pub is_in_name : ℕ → Bool
is_in_name b = is_letter b || ((nat_le 48 b && nat_le b 57) || b == 45)

-- 1 to 16 letters, digits and hyphens, of which the first is a letter
unfoldable pub is_name : List ℕ → Bool
is_name [] = false
is_name (b ∷ bs) = is_letter b && (nat_le (length bs) 15 && list_all is_in_name bs)

-- some group has this name
unfoldable pub is_taken : List ℕ → List NamedGroup → Bool
is_taken name groups = list_any (λ g. bytes_eq g.name name) groups

-- how many inputs or outputs the groups stand for together
abbrev pub sizes : List NamedGroup → ℕ
sizes [] = 0
sizes (g ∷ gs) = g.size + sizes gs

-- the groups that follow those before have names in form, each once, and no group is empty
abbrev pub AreGroups : List NamedGroup → List NamedGroup → Type 0
AreGroups before [] = Unit {0}
AreGroups before (g ∷ gs) =
    (is_name g.name ≡ true) × (1 ≤ g.size) × (is_taken g.name before ≡ false) × AreGroups (before ++ g ∷ []) gs

-- the groups are in form, at most 1,000 on either side, and stand for all inputs and all outputs
pub record IsLabelled (l : LabelledNetlist) : Type 0 where
  pub circuit : IsCircuit l.circuit
  pub inputs : AreGroups [] l.inputs
  pub few_inputs : length l.inputs ≤ 1000
  pub all_inputs : sizes l.inputs ≡ l.circuit.inputs
  pub outputs : AreGroups [] l.outputs
  pub few_outputs : length l.outputs ≤ 1000
  pub all_outputs : sizes l.outputs ≡ length l.circuit.outputs

-- all of so many in one group, and no group where there are none
abbrev pub one_group : List ℕ → ℕ → List NamedGroup
one_group name zero = []
one_group name (suc n) = record { name = name; size = suc n } ∷ []

-- the groups of a circuit that has none of its own: x of all inputs and y of all outputs
abbrev pub with_plain_groups : Netlist → LabelledNetlist
with_plain_groups c = record {
  circuit = c;
  inputs = one_group (codes "x") c.inputs;
  outputs = one_group (codes "y") (length c.outputs);
}
