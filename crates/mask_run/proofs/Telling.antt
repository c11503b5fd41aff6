-- What a watch was told in between: nothing, one secure evaluation, or evaluations of strong circuits.
use Rattle.std.proofs.Common.{◌≡◌, ℕ, zero, suc, ◌*◌, ◌≤◌, Bool, List, [], ◌∷◌, length, drop, refl, ap, ◌∙◌, arith, All, length-drop}
use Rattle.std.proofs.lemmas.List.{length-take-le}
use Rattle.std.specs.declared.option.Option.{Option}
use Rattle.mask_circuit.specs.Netlist.{Netlist, IsCircuit}
use Rattle.mask_circuit.specs.Ring.{bits}
use Rattle.mask_circuit.specs.Expansion.{draws}
use Rattle.mask_circuit.specs.Acceptance.{IsAccepted}
use Rattle.mask_laws.proofs.Hiding.{accepted_is_private}
use Rattle.mask_laws.proofs.Strengthening.{strong_is_sni}
use Rattle.mask_laws.proofs.Gates.{gate_keeps}
use Rattle.mask_laws.proofs.Simulation.{accepted_is_ni}
use Rattle.mask_laws.proofs.Sharings.{length-all_shared}
use Rattle.mask_check.specs.Security.{IsNIAtEachOrder}
use Rattle.mask_bits.specs.Reading.{low}
use Rattle.mask_bits.proofs.Bytes.{length-low}
use Rattle.mask_shares.specs.Sharing.{all_shared}
use Rattle.mask_gadget.proofs.Telling.{told_more-none}
use Rattle.mask_eval.specs.Watching.{Told, told_more, IsEvaluation}
use Rattle.mask_trace.specs.Values.{IsStrongEvaluation}
use Rattle.mask_run.specs.Calls.{eval_bits, eval_call, Evaluates, IsSecure, TellsSecureCalls}

pub TellsSecureCalls-none : (before now : Option (List Told)) → now ≡ before → TellsSecureCalls before now
TellsSecureCalls-none before now same = ([], same ∙ told_more-none before, λ k d lt. absurd (omega arith))

-- THE CALL IS AN EVALUATION

-- each value has d shares more than one, where there are coins enough
all_shared-sizes : (d : ℕ) (bs r : List Bool) → d * length bs ≤ length r → All (λ value. length value ≡ suc d) (all_shared bits d bs r)
all_shared-sizes d [] r enough k e lt = absurd (omega arith)
all_shared-sizes d (b ∷ bs) r enough zero e lt = ap suc (length-take-le d r (omega arith))
all_shared-sizes d (b ∷ bs) r enough (suc k) e lt =
    all_shared-sizes d bs (drop d r) (omega (arith, length-drop d r)) k e (omega arith)

IsEvaluation-eval_call : (c : Netlist) (d : ℕ) (inputs r : List Bool) → length inputs ≡ c.inputs → eval_bits c d ≤ length r → IsEvaluation (eval_call c d inputs r)
IsEvaluation-eval_call c d inputs r count enough =
    let coins : d * length inputs ≡ d * c.inputs = ap (λ (n : ℕ). d * n) count in
    record {
      shares = all_shared bits d inputs r;
      count = length-all_shared bits d inputs r ∙ count;
      sizes = all_shared-sizes d inputs r (omega arith);
      inputs = refl;
      tape = length-take-le (draws c (suc d)) (drop (d * length inputs) r) (omega (arith, length-drop (d * length inputs) r));
      outputs = refl;
    }

-- AND SECURE

-- the one call of an accepted circuit
pub TellsSecureCalls-evaluated : (c : Netlist) (d : ℕ) (inputs : List Bool) (tape tape' : Option (List ℕ)) (told told' : Option (List Told)) →
    Evaluates c d inputs tape tape' told told' → length inputs ≡ c.inputs → 1 ≤ d → d ≤ 7 → IsCircuit c → IsAccepted c → IsNIAtEachOrder c →
    TellsSecureCalls told told'
TellsSecureCalls-evaluated c d inputs tape tape' told told' evaluates count some few circuit accepted secure =
    (eval_call c d inputs (low evaluates.fresh) ∷ [], evaluates.tells, one)
  where
    enough : eval_bits c d ≤ length (low evaluates.fresh)
    enough = omega (arith, length-low evaluates.fresh, evaluates.count)

    call : IsSecure (eval_call c d inputs (low evaluates.fresh))
    call = record {
      some = some;
      few = few;
      evaluation = IsEvaluation-eval_call c d inputs (low evaluates.fresh) count enough;
      accepted = accepted;
      non_interfering = secure (suc d) (omega arith);
      strongly = strong_is_sni c (suc d) (omega arith) circuit.formed;
      private = accepted_is_private c (suc d) (omega arith) circuit.formed accepted;
    }

    one : All IsSecure (eval_call c d inputs (low evaluates.fresh) ∷ [])
    one zero e lt = call
    one (suc k) e lt = absurd (omega arith)

-- EVALUATIONS OF STRONG CIRCUITS ARE SECURE

IsSecure-strong : (d : ℕ) (t : Told) → 1 ≤ d → d ≤ 7 → IsStrongEvaluation (suc d) t → IsSecure t
IsSecure-strong d t some few e =
    let order : t.order ≡ d = e.order in
    record {
      some = omega arith;
      few = omega arith;
      evaluation = e.evaluation;
      accepted = e.strong.0;
      non_interfering = accepted_is_ni gate_keeps t.circuit (suc t.order) (omega arith) e.formed.gates e.strong.0;
      strongly = strong_is_sni t.circuit (suc t.order) (omega arith) e.formed;
      private = accepted_is_private t.circuit (suc t.order) (omega arith) e.formed e.strong.0;
    }

pub TellsSecureCalls-strong : (d : ℕ) (before now : Option (List Told)) → 1 ≤ d → d ≤ 7 →
    (calls : List Told) → now ≡ told_more before calls → All (IsStrongEvaluation (suc d)) calls → TellsSecureCalls before now
TellsSecureCalls-strong d before now some few calls tells strong = (calls, tells, λ k e lt. IsSecure-strong d _ some few (strong k e lt))
