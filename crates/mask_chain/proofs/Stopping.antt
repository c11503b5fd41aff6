-- Where the tape fails.
use Rattle.std.proofs.Common.{◌≡◌, ℕ, ◌+◌, ◌<◌, ◌≤◌, List, [], ◌∷◌, ◌++◌, length, refl, sym, ap, subst, ◌∙◌, arith}
use Rattle.std.proofs.lemmas.List.Sums.{sum_by-cons}
use Rattle.mask_tape.specs.Tape.{new_bytes}
use Rattle.mask_trace.specs.Steps.{Registers, Step, bits_of, stretch}
use Rattle.mask_trace.specs.Traces.{BitShares}
use Rattle.mask_trace.specs.Drawing.{Stand, Ran}
use Rattle.mask_trace.proofs.Traces.{bits_of-cons}
use Rattle.mask_trace.proofs.Drawing.{runs_join}
use Rattle.mask_chain.specs.Chains.{Stopped}

bits_of-one : (N : ℕ) (step : Step) → bits_of N (step ∷ []) ≡ stretch N step
bits_of-one N step = let one = bits_of-cons N step [] in omega arith

module _ (N : ℕ) (have : Registers BitShares) (own : Step) (wanted counted counted' : ℕ) where
  -- ahead of all steps
  pub stopped_first : (now : Registers BitShares) (ahead : List Step) (next : Step) (later : List Step) (a b : Stand) →
      ahead ++ own ∷ [] ≡ next ∷ later → now ≡ have → a ≡ b → length a.kept < 8 → counted' ≡ counted →
      wanted ≡ new_bytes a.kept (stretch N next) → 1 ≤ wanted → Stopped N have now ahead own wanted counted counted' a b
  stopped_first now ahead next later a b all stays stands small same wants some =
      subst (Stopped N have now ahead own wanted counted counted' a) stands (record {
        count = 0;
        ran = record { within = omega arith; now = have; ran = runs_join.none N have a small };
        holds = stays;
        few = omega arith;
        counts = omega arith;
        next = next ∷ [];
        later = later;
        follow = all;
        wants = wants ∙ ap (new_bytes a.kept) (sym (bits_of-one N next));
        some = some;
      })

  -- behind the one that comes ahead
  pub stopped_behind : (now now' : Registers BitShares) (first : Step) (a b c : Stand) → Ran N have (first ∷ []) now a b →
      now' ≡ now → b ≡ c → counted' ≡ counted + length first.circuit.gates →
      wanted ≡ new_bytes b.kept (stretch N own) → 1 ≤ wanted → Stopped N have now' (first ∷ []) own wanted counted counted' a c
  stopped_behind now now' first a b c ran stays stands same wants some =
      let gates = sum_by-cons (λ (step : Step). length step.circuit.gates) first [] in
      subst (Stopped N have now' (first ∷ []) own wanted counted counted' a) stands (record {
        count = 1;
        ran = record { within = omega arith; now = now; ran = ran };
        holds = stays;
        few = omega arith;
        counts = omega arith;
        next = own ∷ [];
        later = [];
        follow = refl;
        wants = wants ∙ ap (new_bytes b.kept) (sym (bits_of-one N own));
        some = some;
      })
