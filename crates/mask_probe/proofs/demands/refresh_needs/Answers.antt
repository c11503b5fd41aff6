use Rattle.mask_circuit.specs.Wires.{refresh_names}
use Rattle.mask_circuit.specs.Need.{refresh_need}
use Rattle.mask_probe.proofs.Demanding.{AreAsked-inner, needs_set}
use Rattle.mask_probe.proofs.ShareSets.{All-small, IsWithin-members}
use Rattle.mask_probe.proofs.demands.refresh_needs.Goals as goal

pub ref_needs-requires-clause-asked : goal.ref_needs-requires-clause-asked
ref_needs-requires-clause-asked g c =
    AreAsked-inner g.row.N (refresh_names g.row.N) _ _ _ _ _ c.requires.refresh c.inner_probes-inner.ensures.wires c.inner_probes-inner.ensures.local
    c.inner_probes-inner.ensures.inner c.requires.fits c.places.ensures

pub of-requires : goal.of-requires
of-requires g c = All-small g.row.N _ _ c.requires.most c.ref_needs.ensures.shares

pub returns-clause-shares : goal.returns-clause-shares
returns-clause-shares g c i lt =
    needs_set g.row.N refresh_need (refresh_names g.row.N) _ _ _ _ c.of.result c.requires.refresh c.inner_probes-inner.ensures.wires c.ref_needs.ensures.shares
    c.of.ensures i lt

pub returns-clause-within : goal.returns-clause-within
returns-clause-within g c = IsWithin-members g.row.N _ _ _ c.ref_needs.ensures.shares c.of.ensures
