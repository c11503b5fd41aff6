use Rattle.std.proofs.Common.{◌≡◌, ◌+◌, ◌-◌, slice_index, arith}
use Rattle.mask_circuit.proofs.Numbering.{length-names_of}
use Rattle.mask_probe.proofs.Locating.{IsWireAt, located_more}
use Rattle.mask_probe.proofs.places.locate.Goals as goal

pub overflow_cast-found : goal.overflow_cast-found
overflow_cast-found g c =
    let most = length-names_of c.args.circuit.now (g.row.N - 1 + 1) c.wire_place-found.result.value (omega arith) (omega arith) in omega arith

pub loop-place-preserved : goal.loop-place-preserved
loop-place-preserved g c =
    let all : g.row.N - 1 + 1 ≡ g.row.N = omega arith in
    let is : IsWireAt c.args.circuit.now (g.row.N - 1 + 1) (slice_index c.args.probes.now c.loop-place.place) _ = record {
      wire = omega arith;
      value = c.wire_place-found.ensures.value;
      part = c.wire_place-found.ensures.part;
      name = c.wire_place-found.ensures.name;
    } in
    record {
      count = omega (arith, c.push.ensures.len);
      located = rw c.push.ensures.items (located_more c.args.circuit.now g.row.N c.args.probes.now c.loop-place.place c.loop-place.placed.items _ (omega arith)
          c.loop-place.invariant.located (rw all at is));
    }
