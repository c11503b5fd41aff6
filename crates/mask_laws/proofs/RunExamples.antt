-- The definitions of a run at a worked example, computed.
use Rattle.std.proofs.Common.{◌≡◌, ℕ, zero, suc, ◌<◌, ◌≤◌, inl, inr, true, false, List, [], ◌∷◌, Some, None, refl, map, arith}
use Rattle.std.specs.declared.option.Option.{Option}
use Rattle.std.proofs.lemmas.List.Elements.{All-nil, All-cons}
use Rattle.mask_circuit.specs.declared.gates.Gate.{Gate}
use Rattle.mask_circuit.specs.declared.gates.Gate.TheVariants.{Ref}
use Rattle.mask_circuit.specs.Netlist.{Netlist, IsWellFormed, value_count}
use Rattle.mask_circuit.specs.Wires.{each}
use Rattle.mask_circuit.specs.Acceptance.{gate_at, Uses, IsAccepted, IsFenced}
use Rattle.mask_laws.specs.Clashes.{reach, clash}
use Rattle.mask_laws.specs.Refutations.{refreshed_product}
use Rattle.mask_laws.specs.Runs.{Call, Variable, Output, origin_at, IsPublic, IsThere, IsStrongRun, run_draws, run_seen, run_hits, private_run_hits, run_need}
use Rattle.mask_laws.proofs.Clashing.{clash_decides}
use Rattle.mask_circuit.proofs.GateAt.{gate_at_within}
use Rattle.mask_circuit.specs.Sharing.{all_listed}
use Rattle.mask_circuit.specs.Ring.{bits}

-- no gate past the last one uses a value
pub past_gates : (c : Netlist) (v u : ℕ) → value_count c ≤ v → Uses u (gate_at c v) → ⊥
past_gates c v u past h = go (gate_at c v) refl h
  where
    go : (o : Option Gate) → gate_at c v ≡ o → Uses u o → ⊥
    go None e used = used
    go (Some g) e used = let within = gate_at_within c v g e in absurd (omega arith)

-- The first call refreshes variable 0; the second one multiplies that by variable 1 and refreshes the product.
refreshed : Call
refreshed = record { circuit = record { inputs = 1; gates = Ref 0 ∷ []; outputs = 1 ∷ [] }; origins = Variable 0 ∷ [] }

multiplied : Call
multiplied = record { circuit = refreshed_product; origins = Output 0 0 ∷ Variable 1 ∷ [] }

example : List Call
example = refreshed ∷ multiplied ∷ []

-- On two shares the refresh has the wires 0 to 4 and draws one bit; the other call's 16 wires begin with its inputs.
example_draws : run_draws example 2 ≡ 3
unfolding example refreshed multiplied
example_draws = refl

-- From (1, 0) and (1, 1) with the tape 1, 0, 0: the input shares of both calls, and the product's last shares.
example_seen : run_seen example 2 (all_listed bits ((true ∷ false ∷ []) ∷ (true ∷ true ∷ []) ∷ [])) (true ∷ false ∷ false ∷ []) (0 ∷ 1 ∷ 5 ∷ 6 ∷ 7 ∷ 8 ∷ 19 ∷ 20 ∷ [])
    ≡ true ∷ false ∷ false ∷ true ∷ true ∷ true ∷ false ∷ false ∷ []
unfolding example refreshed multiplied
example_seen = refl

-- The product a_0 · b_1 of the second call needs share 1 of variable 1, and of variable 0 nothing, for its refresh hides it ..
example_need : map (λ v. each (run_need example 2 (10 ∷ []) v) 2) (0 ∷ 1 ∷ []) ≡ (false ∷ false ∷ []) ∷ (false ∷ true ∷ []) ∷ []
unfolding example refreshed multiplied
example_need = refl

-- .. so all tapes show it equally often where that share is the same.
example_hits : map (λ bss. run_hits example 2 (all_listed bits bss) (10 ∷ []) (true ∷ []))
    (((true ∷ false ∷ []) ∷ (true ∷ true ∷ []) ∷ []) ∷ ((true ∷ true ∷ []) ∷ (false ∷ true ∷ []) ∷ []) ∷ ((true ∷ false ∷ []) ∷ (true ∷ false ∷ []) ∷ []) ∷ [])
    ≡ 4 ∷ 4 ∷ 0 ∷ []
unfolding example refreshed multiplied
example_hits = refl

-- Over all sharings of the variables as many show it, whatever their bits are: of 4 sharings with 8 tapes each.
example_private_hits : map (λ x. private_run_hits example 2 x (10 ∷ []) (true ∷ []))
    ((false ∷ false ∷ []) ∷ (false ∷ true ∷ []) ∷ (true ∷ false ∷ []) ∷ (true ∷ true ∷ []) ∷ []) ≡ 8 ∷ 8 ∷ 8 ∷ 8 ∷ []
unfolding example refreshed multiplied
example_private_hits = refl

-- The run is a strong one: its circuits are strong, and no call takes an origin twice.
refreshed_formed : IsWellFormed refreshed.circuit
unfolding refreshed
refreshed_formed = record {
  gates = (omega arith, tt);
  outputs = All-cons (λ u. u < 2) 1 [] (omega arith) (All-nil (λ u. u < 2));
}

refreshed_unused : (v : ℕ) → Uses 1 (gate_at refreshed.circuit v) → ⊥
unfolding refreshed
refreshed_unused zero h = h
refreshed_unused (suc zero) h = absurd (omega arith)
refreshed_unused (suc (suc v)) h = past_gates refreshed.circuit (suc (suc v)) 1 (omega arith) h

refreshed_fenced : IsFenced refreshed.circuit
unfolding refreshed
refreshed_fenced zero lt = record { is_refresh = (0, refl); is_unused = refreshed_unused; is_first = λ i l. absurd (omega arith) }
refreshed_fenced (suc k) lt = absurd (omega arith)

pub product_formed : IsWellFormed refreshed_product
product_formed = record {
  gates = ((omega arith, omega arith), (omega arith, tt));
  outputs = All-cons (λ u. u < 4) 3 [] (omega arith) (All-nil (λ u. u < 4));
}

product_unused : (v : ℕ) → Uses 3 (gate_at refreshed_product v) → ⊥
product_unused zero h = h
product_unused (suc zero) h = h
product_unused (suc (suc zero)) h = elim h [ inl e ↦ absurd (omega arith) | inr e ↦ absurd (omega arith) ]
product_unused (suc (suc (suc zero))) h = absurd (omega arith)
product_unused (suc (suc (suc (suc v)))) h = past_gates refreshed_product (suc (suc (suc (suc v)))) 3 (omega arith) h

pub product_fenced : IsFenced refreshed_product
product_fenced zero lt = record { is_refresh = (2, refl); is_unused = product_unused; is_first = λ i l. absurd (omega arith) }
product_fenced (suc k) lt = absurd (omega arith)

refreshed_accepted : IsAccepted refreshed.circuit
unfolding refreshed reach clash
refreshed_accepted = (clash_decides refreshed.circuit refreshed_formed).0.0 refl

pub product_accepted : IsAccepted refreshed_product
unfolding reach clash
product_accepted = (clash_decides refreshed_product product_formed).0.0 refl

multiplied_once : (u v : ℕ) → u < v → v < 2 → origin_at multiplied u ≡ origin_at multiplied v → IsPublic (origin_at multiplied u)
unfolding multiplied
multiplied_once zero zero lt two e = absurd (omega arith)
multiplied_once zero (suc zero) lt two e = cc
multiplied_once zero (suc (suc v)) lt two e = absurd (omega arith)
multiplied_once (suc u) v lt two e = absurd (omega arith)

example_strong : IsStrongRun example
unfolding example refreshed multiplied
example_strong = (
  record {
    formed = refreshed_formed;
    strong = (refreshed_accepted, refreshed_fenced);
    origins = refl;
    there = All-cons (IsThere []) (Variable 0) [] tt (All-nil (IsThere []));
    once = λ u v lt one e. absurd (omega arith);
  },
  (
    record {
      formed = product_formed;
      strong = (product_accepted, product_fenced);
      origins = refl;
      there = All-cons (IsThere (1 ∷ [])) (Output 0 0) (Variable 1 ∷ []) (omega arith, omega arith)
          (All-cons (IsThere (1 ∷ [])) (Variable 1) [] tt (All-nil (IsThere (1 ∷ []))));
      once = multiplied_once;
    },
    tt,
  ),
)
