use Rattle.mask_inspect.proofs.Stopping.{Stops-read, IsEarly-read}
use Rattle.mask_inspect.proofs.reading.read.Goals as goal

pub returns-in-Ok-clause-ok : goal.returns-in-Ok-clause-ok
returns-in-Ok-clause-ok g c = let h = c.in-Ok.ensures.only in (h.0, h.1, record { at_end = h.2; within = h.3; is_text = h.4 })

pub returns-in-Err-clause-err : goal.returns-in-Err-clause-err
returns-in-Err-clause-err g c = rw c.status_of.ensures (Stops-read c.in-Err.error _ _ c.in-Err.ensures.only c.read_circuit.ensures.front)

pub returns-in-Err-clause-early : goal.returns-in-Err-clause-early
returns-in-Err-clause-early g c = rw c.status_of.ensures (IsEarly-read c.in-Err.error)
