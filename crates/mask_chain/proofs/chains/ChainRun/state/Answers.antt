use Rattle.std.proofs.Common.{length, subst}
use Rattle.mask_trace.specs.Values.{HasShares}
use Rattle.mask_chain.specs.Chains.{Chain, have}
use Rattle.mask_chain.proofs.Registers.{has_shares}
use Rattle.mask_chain.proofs.chains.ChainRun.state.Goals as goal

pub returns-clause-shares : goal.returns-clause-shares
returns-clause-shares g c =
    subst (λ (run : Chain). HasShares g.row.N (length run.key) (length run.state) (have run)) c.self.view_is
    (has_shares g.row.N c.self.inside.key.items c.self.inside.state.items c.self.invariant.0 c.self.invariant.1)
