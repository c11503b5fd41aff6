use Rattle.std.proofs.Common.{◌≡◌, length, sym, ap, ◌∙◌, arith}
use Rattle.std.proofs.lemmas.List.{take_all}
use Rattle.mask_self.specs.Generator.{bytes_from}
use Rattle.mask_self.proofs.generator.Generator.fill.Goals as goal

pub returns-clause-bytes : goal.returns-clause-bytes
unfolding bytes_from
returns-clause-bytes c =
    let all : c.loop-k.k ≡ length c.args.room.now = omega (arith, c.loop-k.invariant.room) in
    sym (take_all c.loop-k.k c.loop-k.room (omega (arith, c.loop-k.invariant.room))) ∙ c.loop-k.invariant.done ∙ ap (bytes_from c.args.self.now 0) all
