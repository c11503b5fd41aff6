-- Each probe passes the test of one share at most.
use Rattle.mask_laws.proofs.Needs.{needs_are_small}
use Rattle.mask_laws.proofs.gadgets.probes_demand_few_shares.Goals as goal

pub returns : goal.returns
returns c = needs_are_small
