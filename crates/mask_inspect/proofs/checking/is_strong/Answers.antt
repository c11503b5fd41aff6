use Rattle.std.proofs.Common.{◌≡◌, ℕ, true, false, refl, subst}
use Rattle.mask_circuit.specs.Netlist.{Netlist}
use Rattle.mask_circuit.specs.Acceptance.{IsStrong, IsGap}
use Rattle.mask_check.specs.Security.{IsSNIAtEachOrder}
use Rattle.mask_inspect.specs.Checking.{TellsStrong}
use Rattle.mask_inspect.proofs.checking.is_strong.Goals as goal

-- a circuit with a gap isn't strong
TellsStrong-gap : (c : Netlist) (k : ℕ) → IsGap c k → TellsStrong c false
TellsStrong-gap c k gap = record {
  only = λ (e : false ≡ true). cc;
  always = λ strong. absurd (gap.gap (strong.1 k gap.within));
  secure = λ strong. absurd (gap.gap (strong.1 k gap.within));
}

pub returns-in-Ok : goal.returns-in-Ok
returns-in-Ok c = record {
  only = λ e. subst (λ (n : Netlist). IsStrong n) c.in-Ok.ensures.strengthened c.in-Ok.ensures.strong;
  always = λ s. refl;
  secure = λ s. subst (λ (n : Netlist). IsSNIAtEachOrder n) c.in-Ok.ensures.strengthened c.in-Ok.ensures.secure;
}

pub returns-in-NotFenced : goal.returns-in-NotFenced
returns-in-NotFenced c = TellsStrong-gap _ _ (rw c.in-NotFenced.is at c.in-Err.ensures.refused)
