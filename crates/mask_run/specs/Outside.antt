-- What jobs leave as it was, by their statuses.
use Rattle.std.specs.Prelude.{◌≡◌}
use Rattle.mask_words.specs.declared.table.Job.{Job}
use Rattle.mask_words.specs.declared.table.Job.TheVariants as jobs
use Rattle.mask_status.specs.declared.status.Status.{Status}
use Rattle.mask_status.specs.declared.status.Status.TheVariants.{Done, TooLong, ReadFault, TapeFault, WriteFault, NoMemory}
use Rattle.mask_secrets.specs.KeyEnds.{IsOfKeys}
use Rattle.mask_secrets.specs.Splitting.{Sides}
use Rattle.mask_message.specs.Outside.{Outside}

-- nothing was drawn from the tape, and nothing was told to the watch
abbrev pub IsIdle : Outside → Type 0
IsIdle o = (o.tape_after ≡ o.tape_before) × (o.told_after ≡ o.told_before)

-- tape and output
abbrev pub sides : Outside → Sides
sides o = record { tape_before = o.tape_before; tape_after = o.tape_after; wanted = o.wanted; out_before = o.out_before; out_after = o.out_after }

-- the job reads no key file
abbrev pub LeavesKeys : Job → Type 0
LeavesKeys (jobs.Enc task order) = ⊥
LeavesKeys (jobs.Mac task order) = ⊥
LeavesKeys (jobs.Split order) = ⊥
LeavesKeys (jobs.Join order) = ⊥
LeavesKeys job = Unit {0}

-- the job reads no input, or ended before it read any
abbrev pub LeavesInput : Job → Status → Type 0
LeavesInput (jobs.Enc task order) status = IsOfKeys status
LeavesInput (jobs.Mac task order) status = IsOfKeys status
LeavesInput (jobs.Split order) status = Unit {0}
LeavesInput (jobs.Join order) status = Unit {0}
LeavesInput (jobs.Emit circuit) status = Unit {0}
LeavesInput (jobs.SelfRun seed count order) status = Unit {0}
LeavesInput job status = ⊥

-- the job left the tape as it was: it has nothing to do with it, or ended before it was asked for anything
abbrev pub LeavesTape : Job → Status → Type 0
LeavesTape (jobs.Enc task order) status = IsOfKeys status
LeavesTape (jobs.Mac task order) status = IsOfKeys status
LeavesTape (jobs.Eval order) Done = ⊥
LeavesTape (jobs.Eval order) TapeFault = ⊥
LeavesTape (jobs.Eval order) WriteFault = ⊥
LeavesTape (jobs.Split order) Done = ⊥
LeavesTape (jobs.Split order) TapeFault = ⊥
LeavesTape (jobs.Split order) WriteFault = ⊥
LeavesTape (jobs.SelfRun seed count order) status = ⊥
LeavesTape job status = Unit {0}

-- the job left the watch as it was: it wasn't even made ready
abbrev pub LeavesWatch : Job → Status → Type 0
LeavesWatch (jobs.Enc task order) status = IsOfKeys status
LeavesWatch (jobs.Mac task order) status = IsOfKeys status
LeavesWatch (jobs.Eval order) Done = ⊥
LeavesWatch (jobs.Eval order) TapeFault = ⊥
LeavesWatch (jobs.Eval order) WriteFault = ⊥
LeavesWatch (jobs.Eval order) NoMemory = ⊥
LeavesWatch (jobs.SelfRun seed count order) status = ⊥
LeavesWatch job status = Unit {0}

-- the job told the watch nothing
abbrev pub TellsNothing : Job → Status → Type 0
TellsNothing (jobs.Enc task order) status = IsOfKeys status
TellsNothing (jobs.Mac task order) status = IsOfKeys status
TellsNothing (jobs.Eval order) Done = ⊥
TellsNothing (jobs.Eval order) WriteFault = ⊥
TellsNothing (jobs.SelfRun seed count order) status = ⊥
TellsNothing job status = Unit {0}

-- the job wrote nothing
abbrev pub WritesNothing : Job → Status → Type 0
WritesNothing (jobs.Enc task order) status = IsOfKeys status
WritesNothing (jobs.Mac task order) status = IsOfKeys status
WritesNothing job Done = ⊥
WritesNothing job WriteFault = ⊥
WritesNothing job status = Unit {0}
