use Rattle.mask_secrets.proofs.Drawing.{drawn-written}
use Rattle.mask_secrets.proofs.splitting.split_alone.Goals as goal

pub returns-in-Ok-clause-splits : goal.returns-in-Ok-clause-splits
returns-in-Ok-clause-splits g c =
    let done = c.in-Ok.ensures.splits in
    drawn-written c.args.order c.args.key.now done.0 _ _ (rw c.new-fresh.ensures at done.1) _ done.2

pub returns-in-Err-WriteFault-clause-splits : goal.returns-in-Err-WriteFault-clause-splits
returns-in-Err-WriteFault-clause-splits g c =
    let done = rw c.in-Err-WriteFault.field-0-is at c.in-Err-WriteFault.ensures.splits in
    drawn-written c.args.order c.args.key.now done.0 _ _ (rw c.new-fresh.ensures at done.1) _ done.2
