use Rattle.std.proofs.Common.{sym, subst}
use Rattle.mask_circuit.specs.Acceptance.{IsStrong}
use Rattle.mask_parts.proofs.Concluding.{IfOk-named}
use Rattle.mask_lightmac.proofs.Concluding.{IsCipherCircuit-named_end}
use Rattle.mask_lightmac.proofs.circuits.lightmac_end.Goals as goal

pub strong_circuit-requires : goal.strong_circuit-requires
strong_circuit-requires g c = subst IsStrong (sym c.in_ok-circuit.ensures) (IsCipherCircuit-named_end c.args.size).strong

pub returns-clause-circuit : goal.returns-clause-circuit
returns-clause-circuit g c = IfOk-named c.in_ok-circuit.circuit c.strong_circuit.result c.in_ok-circuit.ensures c.strong_circuit.ensures.same (IsCipherCircuit-named_end c.args.size)
