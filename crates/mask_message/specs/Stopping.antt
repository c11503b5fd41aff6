-- What a refusal of the session makes of a run.
use Rattle.std.specs.Prelude.{Bool, true, false}
use Rattle.mask_plan.specs.declared.session.Stop.{Stop}
use Rattle.mask_plan.specs.declared.session.Stop.TheVariants as stops
use Rattle.mask_status.specs.declared.status.Status.{Status}
use Rattle.mask_status.specs.declared.status.Status.TheVariants.{TooLong, TapeFault, NoMemory}

-- its status
abbrev pub status_of : Stop → Status
status_of (stops.TooLong limit) = TooLong limit
status_of stops.TapeFault = TapeFault
status_of stops.NoMemory = NoMemory

-- the tape failed
abbrev pub is_of_tape : Stop → Bool
is_of_tape stops.TapeFault = true
is_of_tape stop = false
