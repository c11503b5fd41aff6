use Rattle.std.proofs.Common.{◌-◌, length, sym, subst, ◌∙◌}
use Rattle.std.specs.Io.KnownBytes.{Consumes}
use Rattle.std.proofs.KnownBytes.{Consumes-trans}
use Rattle.mask_io.proofs.Filling.{came_more, came_room}
use Rattle.mask_io.proofs.read_full.Goals as goal

pub loop-came-preserved : goal.loop-came-preserved
loop-came-preserved g c =
    let gave = c.in-Ok.ensures.ok in
    let room = came_room c.loop-came.came c.in-Ok.count c.loop-came.buf c.read.new.buf c.loop-came.invariant.bound c.read.auto.buf gave.bound in
    record {
      bound = room.1;
      taken = subst (Consumes (g.S.Source.left c.args.source.now) (g.S.Source.left c.read.new.self))
          (sym (came_more c.loop-came.came c.in-Ok.count (length c.loop-came.buf - c.loop-came.came) c.loop-came.buf c.read.new.buf
          c.loop-came.invariant.bound room.0))
          (Consumes-trans _ _ _ _ _ c.loop-came.invariant.taken gave.taken);
      counts = c.in-Ok.ensures.counts ∙ c.loop-came.invariant.counts;
    }
