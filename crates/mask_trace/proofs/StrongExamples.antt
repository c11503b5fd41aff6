-- A strong plan, and a plan that isn't one and leaks its key, computed.
use Rattle.std.proofs.Common.{◌≡◌, ℕ, zero, suc, ◌<◌, inl, inr, true, false, List, [], ◌∷◌, map, refl, arith}
use Rattle.std.proofs.lemmas.List.Elements.{All-nil, All-cons}
use Rattle.mask_circuit.specs.Netlist.{IsWellFormed}
use Rattle.mask_circuit.specs.Acceptance.{gate_at, Uses, IsAccepted, IsFenced}
use Rattle.mask_laws.specs.Clashes.{reach, clash}
use Rattle.mask_laws.specs.Refutations.{refreshed_product}
use Rattle.mask_laws.proofs.Clashing.{clash_decides}
use Rattle.mask_laws.proofs.RunExamples.{past_gates}
use Rattle.mask_trace.specs.Steps.{Public, Plain, Key, State, Nothing, Step, IsThere, IsNotHeld, input_at, IsStrongStep, IsStrongPlan}
use Rattle.mask_trace.specs.Privacy.{trace_wires, trace_hits}
use Rattle.mask_trace.proofs.TraceExamples.{mixed, refresh, first, second, third, plan}

-- THE CIRCUITS

mixed_formed : IsWellFormed mixed
mixed_formed = record {
  gates = ((omega arith, omega arith), ((omega arith, omega arith), (omega arith, tt)));
  outputs = All-cons (λ u. u < 6) 5 [] (omega arith) (All-nil (λ u. u < 6));
}

mixed_unused : (v : ℕ) → Uses 5 (gate_at mixed v) → ⊥
mixed_unused zero h = h
mixed_unused (suc zero) h = h
mixed_unused (suc (suc zero)) h = h
mixed_unused (suc (suc (suc zero))) h = elim h [ inl e ↦ absurd (omega arith) | inr e ↦ absurd (omega arith) ]
mixed_unused (suc (suc (suc (suc zero)))) h = elim h [ inl e ↦ absurd (omega arith) | inr e ↦ absurd (omega arith) ]
mixed_unused (suc (suc (suc (suc (suc zero))))) h = absurd (omega arith)
mixed_unused (suc (suc (suc (suc (suc (suc v)))))) h = past_gates mixed (suc (suc (suc (suc (suc (suc v)))))) 5 (omega arith) h

mixed_fenced : IsFenced mixed
mixed_fenced zero lt = record { is_refresh = (4, refl); is_unused = mixed_unused; is_first = λ i l. absurd (omega arith) }
mixed_fenced (suc k) lt = absurd (omega arith)

mixed_accepted : IsAccepted mixed
unfolding reach clash
mixed_accepted = (clash_decides mixed mixed_formed).0.0 refl

refresh_formed : IsWellFormed refresh
refresh_formed = record {
  gates = (omega arith, tt);
  outputs = All-cons (λ u. u < 2) 1 [] (omega arith) (All-nil (λ u. u < 2));
}

refresh_unused : (v : ℕ) → Uses 1 (gate_at refresh v) → ⊥
refresh_unused zero h = h
refresh_unused (suc zero) h = absurd (omega arith)
refresh_unused (suc (suc v)) h = past_gates refresh (suc (suc v)) 1 (omega arith) h

refresh_fenced : IsFenced refresh
refresh_fenced zero lt = record { is_refresh = (0, refl); is_unused = refresh_unused; is_first = λ i l. absurd (omega arith) }
refresh_fenced (suc k) lt = absurd (omega arith)

refresh_accepted : IsAccepted refresh
unfolding reach clash
refresh_accepted = (clash_decides refresh refresh_formed).0.0 refl

-- THE PLAN

first_strong : IsStrongStep 1 0 first
first_strong = record {
  formed = mixed_formed;
  strong = (mixed_accepted, mixed_fenced);
  count = refl;
  there = All-cons (IsThere 1 0) (Public false) (Plain true ∷ Key 0 ∷ []) tt (All-cons (IsThere 1 0) (Plain true) (Key 0 ∷ []) tt
      (All-cons (IsThere 1 0) (Key 0) [] (omega arith) (All-nil (IsThere 1 0))));
  once = once;
  fit = tt;
}
  where
    once : (u v : ℕ) → u < v → v < 3 → input_at first u ≡ input_at first v → IsNotHeld (input_at first u)
    once zero v lt three e = tt
    once (suc zero) v lt three e = tt
    once (suc (suc u)) v lt three e = absurd (omega arith)

second_strong : IsStrongStep 1 1 second
second_strong = record {
  formed = refresh_formed;
  strong = (refresh_accepted, refresh_fenced);
  count = refl;
  there = All-cons (IsThere 1 1) (Key 0) [] (omega arith) (All-nil (IsThere 1 1));
  once = λ u v lt one e. absurd (omega arith);
  fit = omega arith;
}

third_strong : IsStrongStep 1 1 third
third_strong = record {
  formed = mixed_formed;
  strong = (mixed_accepted, mixed_fenced);
  count = refl;
  there = All-cons (IsThere 1 1) (Public true) (State 0 ∷ Key 0 ∷ []) tt (All-cons (IsThere 1 1) (State 0) (Key 0 ∷ []) (omega arith)
      (All-cons (IsThere 1 1) (Key 0) [] (omega arith) (All-nil (IsThere 1 1))));
  once = once;
  fit = tt;
}
  where
    once : (u v : ℕ) → u < v → v < 3 → input_at third u ≡ input_at third v → IsNotHeld (input_at third u)
    once zero v lt three e = tt
    once (suc zero) zero lt three e = absurd (omega arith)
    once (suc zero) (suc zero) lt three e = absurd (omega arith)
    once (suc zero) (suc (suc zero)) lt three e = cc
    once (suc zero) (suc (suc (suc v))) lt three e = absurd (omega arith)
    once (suc (suc u)) v lt three e = absurd (omega arith)

-- The worked example is a strong plan.
plan_strong : IsStrongPlan 1 0 plan
plan_strong = (first_strong, (second_strong, (third_strong, tt)))

-- A LEAK

-- A step that takes the key bit twice: of two sharings and four tapes 4 show 1 on a_0 · b_1 where the key is 0, and none
-- where it is 1.
abbrev taken_twice : List Step
taken_twice = record { circuit = refreshed_product; inputs = Key 0 ∷ Key 0 ∷ []; keeps = Nothing } ∷ []

taken_twice_leaks : map (λ key. trace_hits 2 (key ∷ []) taken_twice (5 ∷ []) (true ∷ [])) (false ∷ true ∷ []) ≡ 4 ∷ 0 ∷ []
unfolding trace_wires
taken_twice_leaks = refl
