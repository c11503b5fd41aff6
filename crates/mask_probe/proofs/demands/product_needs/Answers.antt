use Rattle.mask_circuit.specs.Wires.{product_names}
use Rattle.mask_circuit.specs.Need.{left_need, right_need}
use Rattle.mask_probe.proofs.Demanding.{AreAsked-inner, needs_set}
use Rattle.mask_probe.proofs.ShareSets.{All-small, IsWithin-members}
use Rattle.mask_probe.proofs.demands.product_needs.Goals as goal

pub and_needs-left-requires-clause-asked : goal.and_needs-left-requires-clause-asked
and_needs-left-requires-clause-asked g c =
    AreAsked-inner g.row.N (product_names g.row.N) _ _ _ _ _ c.requires.product c.inner_probes-inner.ensures.wires c.inner_probes-inner.ensures.local
    c.inner_probes-inner.ensures.inner c.requires.fits c.places.ensures

pub of-requires : goal.of-requires
of-requires g c = All-small g.row.N _ _ c.requires.most c.and_needs-left.ensures.left

pub of-requires-2 : goal.of-requires-2
of-requires-2 g c = All-small g.row.N _ _ c.requires.most c.and_needs-left.ensures.right

pub returns-clause-left : goal.returns-clause-left
returns-clause-left g c i lt =
    needs_set g.row.N left_need (product_names g.row.N) _ _ _ _ c.of.result c.requires.product c.inner_probes-inner.ensures.wires c.and_needs-left.ensures.left
    c.of.ensures i lt

pub returns-clause-right : goal.returns-clause-right
returns-clause-right g c i lt =
    needs_set g.row.N right_need (product_names g.row.N) _ _ _ _ c.of-2.result c.requires.product c.inner_probes-inner.ensures.wires c.and_needs-left.ensures.right
    c.of-2.ensures i lt

pub returns-clause-left_within : goal.returns-clause-left_within
returns-clause-left_within g c = IsWithin-members g.row.N _ _ _ c.and_needs-left.ensures.left c.of.ensures

pub returns-clause-right_within : goal.returns-clause-right_within
returns-clause-right_within g c = IsWithin-members g.row.N _ _ _ c.and_needs-left.ensures.right c.of-2.ensures
