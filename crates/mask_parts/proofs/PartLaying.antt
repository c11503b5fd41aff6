-- Laying a part step by step: what is left of the table, laid on what is there, gives the whole part.
use Rattle.std.proofs.Common.{◌≡◌, ℕ, ◌+◌, ◌-◌, Bool, true, List, [], ◌∷◌, ◌++◌, length, ap, sym, ◌∙◌, subst, arith, add-zero, length-append}
use Rattle.std.proofs.lemmas.Bool.{and_parts}
use Rattle.mask_circuit.specs.declared.gates.Gate.{Gate}
use Rattle.mask_circuit.specs.Netlist.{Netlist, value_count}
use Rattle.mask_parts.specs.declared.tables.Step.{Step}
use Rattle.mask_parts.specs.Drafts.{with_gates, Grows, IsWithinLimits}
use Rattle.mask_parts.specs.Tables.{step_gates, step_usable, gates_from, ArePlaces, are_steps, is_part, with_part}
use Rattle.mask_parts.proofs.Growing.{value_count-with_gates, with_gates-nil, with_gates-with_gates, Grows-with_gates, Grows-first_gates}
use Rattle.mask_parts.proofs.Laying.{IsUnderWay, IsUnderWay-first, IsUnderWay-more, IsUnderWay-done}
use Rattle.mask_parts.proofs.PartGates.{ArePlaces-from_test, length-step_gates}

-- the part that began at value first has made the flagged values, and these steps are left
pub record IsPartUnderWay (before now : Netlist) (first : ℕ) (xs : List ℕ) (rest : List Step) (whole : Netlist) : Type 0 where
  pub made : List Bool
  pub count : value_count now ≡ first + length made
  pub sound : are_steps (length xs) made rest ≡ true
  pub way : IsUnderWay before now (with_gates now (gates_from first xs (length made) rest)) whole

pub IsPartUnderWay-first : (b : Netlist) (first : ℕ) (xs : List ℕ) (ss : List Step) → first ≡ value_count b → is_part (length xs) ss ≡ true → IsWithinLimits b →
    IsPartUnderWay b b first xs ss (with_part b xs ss)
unfolding with_part
IsPartUnderWay-first b first xs ss same sound within = rw same (record {
  made = [];
  count = sym (add-zero (value_count b));
  sound = sound;
  way = IsUnderWay-first b (with_part b xs ss) within;
})

module _ (before now whole : Netlist) (first : ℕ) (xs : List ℕ) (s : Step) (ss : List Step) (way : IsPartUnderWay before now first xs (s ∷ ss) whole) where
  -- the next step, as the function that lays it says it
  abbrev next : List Gate
  next = step_gates first xs (value_count now - first) s

  made_by_now : value_count now - first ≡ length way.made
  made_by_now = omega (arith, way.count)

  pub next_places : ArePlaces (length xs) (value_count now - first) s
  next_places = rw made_by_now (ArePlaces-from_test (length xs) way.made s (and_parts _ _ way.sound).0)

  pub next_part : Grows (with_gates now next) (with_gates now (gates_from first xs (length way.made) (s ∷ ss)))
  next_part = rw made_by_now (Grows-first_gates now (step_gates first xs (length way.made) s) (gates_from first xs (length way.made + length (step_usable s)) ss))

  pub next_more : (after : Netlist) → after ≡ with_gates now next → IsWithinLimits after → IsPartUnderWay before after first xs ss whole
  next_more after is within =
      let m = length way.made in
      let here = step_gates first xs m s in
      let laid : after ≡ with_gates now here = is ∙ ap (λ (k : ℕ). with_gates now (step_gates first xs k s)) made_by_now in
      let grown : length (way.made ++ step_usable s) ≡ m + length (step_usable s) = length-append way.made (step_usable s) in
      let left : with_gates after (gates_from first xs (length (way.made ++ step_usable s)) ss) ≡ with_gates now (gates_from first xs m (s ∷ ss)) =
      ap (λ (k : ℕ). with_gates after (gates_from first xs k ss)) grown
      ∙ ap (λ (d : Netlist). with_gates d (gates_from first xs (m + length (step_usable s)) ss)) laid
      ∙ with_gates-with_gates now here (gates_from first xs (m + length (step_usable s)) ss) in
      record {
        made = way.made ++ step_usable s;
        count = ap value_count laid ∙ omega (arith, way.count, value_count-with_gates now here, length-step_gates first m xs s);
        sound = (and_parts _ _ way.sound).1;
        way = IsUnderWay-more before now after _ _ whole way.way (subst (Grows now) (sym is) (Grows-with_gates now next)) left within;
      }

pub IsPartUnderWay-done : (before now whole : Netlist) (first : ℕ) (xs : List ℕ) → IsPartUnderWay before now first xs [] whole → (now ≡ whole) × IsWithinLimits whole
IsPartUnderWay-done before now whole first xs way = IsUnderWay-done before now (with_gates now []) whole way.way (with_gates-nil now)
