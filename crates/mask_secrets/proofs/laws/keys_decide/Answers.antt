use Rattle.mask_secrets.proofs.Deciding.{split-decides, join-decides}
use Rattle.mask_secrets.proofs.laws.keys_decide.Goals as goal

pub returns-clause-split : goal.returns-clause-split
returns-clause-split c = split-decides c.key_file_or_fault.ensures

pub returns-clause-join : goal.returns-clause-join
returns-clause-join c = join-decides c.key_file_or_fault.ensures
