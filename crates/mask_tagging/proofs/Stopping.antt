-- Where the tape fails in the next piece of a code.
use Rattle.std.proofs.Common.{◌≡◌, ℕ, Bool, List, [], ◌∷◌, ◌++◌, subst}
use Rattle.mask_trace.specs.Steps.{Registers, Step}
use Rattle.mask_trace.specs.Traces.{BitShares}
use Rattle.mask_trace.specs.Drawing.{Stand}
use Rattle.mask_macs.specs.Codes.{Code}
use Rattle.mask_chain.specs.Chains.{Stopped}
use Rattle.mask_tagging.specs.Tagging.{Interrupted}

-- behind one of these steps, which go ahead of the own one
pub interrupted : {N : ℕ} {code : Code} {fed : ℕ} {piece : List ℕ} {last : Bool} {had now : Registers BitShares} {wanted counted counted' : ℕ} {a b : Stand}
    {before : List Step} {step : Step} (own : Step) → before ≡ code.ahead fed last → step ≡ own → code.next fed piece last ≡ code.ahead fed last ++ own ∷ [] →
    Stopped N had now before step wanted counted counted' a b → Interrupted N code fed piece last had now wanted counted counted' a b
interrupted {N = N} {had = had} {now = now} {wanted = wanted} {counted = counted} {counted' = counted'} {a = a} {b = b} {before = before} own front is begins stopped = record {
  own = own;
  begins = begins;
  stopped = subst (λ (steps : List Step). Stopped N had now steps own wanted counted counted' a b) front
      (subst (λ (s : Step). Stopped N had now before s wanted counted counted' a b) is stopped);
}
