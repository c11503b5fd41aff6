use Rattle.std.proofs.Common.{Bool, ap, ◌∙◌}
use Rattle.mask_io.specs.Outside.{faults_after}
use Rattle.mask_secrets.proofs.Stopping.{Reads-stopped, Reads-lines, IsOfKeys-read, fault-read}
use Rattle.mask_secrets.proofs.reading.read_lines.Goals as goal

pub returns-in-Ok-clause-ok : goal.returns-in-Ok-clause-ok
returns-in-Ok-clause-ok g c = Reads-lines c.args.lines c.args.length c.in-Ok.found _ _ c.in-Ok.ensures.only

pub returns-in-Err-clause-err : goal.returns-in-Err-clause-err
returns-in-Err-clause-err g c = rw c.status_of.ensures (Reads-stopped c.args.lines c.args.length c.in-Err.error _ _ c.in-Err.ensures.only)

pub returns-in-Err-clause-early : goal.returns-in-Err-clause-early
returns-in-Err-clause-early g c = rw c.status_of.ensures (IsOfKeys-read c.in-Err.error)

pub returns-in-Err-clause-key_faults : goal.returns-in-Err-clause-key_faults
returns-in-Err-clause-key_faults g c =
    rw c.status_of.ensures (c.in-Err.ensures.counts ∙ ap (λ (t : Bool). faults_after t (g.K.Source.faults c.args.keys.now)) (fault-read c.in-Err.error))
