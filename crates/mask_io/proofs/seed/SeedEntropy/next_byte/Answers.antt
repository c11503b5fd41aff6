use Rattle.std.proofs.Common.{arith, lit≤}
use Rattle.mask_io.proofs.Seeds.{drawn}
use Rattle.mask_io.proofs.seed.SeedEntropy.next_byte.Goals as goal
use Rattle.mask_io.proofs.seed.SeedEntropy.next_byte.Goals.{then-self-eq4, else-self-eq4}

pub invariant_of-self : goal.invariant_of-self
invariant_of-self c =
    elim c.if-self-eq4.branch [
      | then-self-eq4 w ↦
          let stands = drawn c.self.inside.rng w.next_word.new.self w.next_word.result w.next_word.ensures c.self.invariant.1 c.self.invariant.2 in
          rw (w.self-inside-is, w.to_le_bytes-self-inside.ensures)
          (lit≤ tt, stands.first_stream, stands.below, λ i past short. stands.bytes i (omega arith) short)
      | else-self-eq4 w ↦
          rw w.self-inside-is
          (omega (arith, w.if-self-eq4, c.self.invariant.0), c.self.invariant.1, c.self.invariant.2, λ i past short. c.self.invariant.3 i (omega arith) short)
    ]
