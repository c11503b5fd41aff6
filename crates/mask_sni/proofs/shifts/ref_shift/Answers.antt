use Rattle.std.proofs.Common.{rules}
use Rattle.mask_sni.proofs.Keeping.{refresh_mask_keeps}
use Rattle.mask_sni.proofs.shifts.ref_shift.Goals as goal

pub returns-clause-mask : goal.returns-clause-mask
returns-clause-mask g c = search rules

pub returns-clause-keeps : goal.returns-clause-keeps
returns-clause-keeps g c agree =
    refresh_mask_keeps g.row.N c.args.a c.args.a2 c.args.probes.now.items c.args.outputs.now.items _ c.requires.some c.requires.asked (returns-clause-mask g c) agree
