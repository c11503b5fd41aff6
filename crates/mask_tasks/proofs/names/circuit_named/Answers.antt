use Rattle.std.proofs.Common.{◌<◌, ap, sym, ◌∙◌, arith}
use Rattle.mask_tasks.specs.Names.{name_text}
use Rattle.mask_tasks.proofs.Distinct.{row_of}
use Rattle.mask_tasks.proofs.names.circuit_named.Goals as goal

pub returns : goal.returns
returns c name is =
    let row = row_of name in
    let within : row.0 < 19 = row.1 in
    c.loop-name.invariant row.0 (omega arith) (is ∙ sym (ap name_text row.2))
