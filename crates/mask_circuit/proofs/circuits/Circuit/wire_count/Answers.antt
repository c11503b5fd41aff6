use Rattle.std.proofs.Common.{◌≡◌, ◌+◌, ap, sym, ◌∙◌, arith}
use Rattle.mask_circuit.specs.Netlist.{value_count}
use Rattle.mask_circuit.specs.Expansion.{wires_before}
use Rattle.mask_circuit.proofs.Numbering.{wire_count-before}
use Rattle.mask_circuit.proofs.circuits.Circuit.wire_count.Goals as goal

pub returns : goal.returns
returns c =
    let all : c.loop-value.value ≡ value_count c.args.self.now = omega arith in
    c.loop-value.invariant.so_far ∙ ap (wires_before c.args.self.now (c.args.d + 1)) all ∙ sym (wire_count-before c.args.self.now (c.args.d + 1))
