use Rattle.std.proofs.Common.{◌^◌, ◌<◌, subst, refl, arith}
use Rattle.mask_io.specs.Seeded.{Seeded}
use Rattle.mask_io.proofs.seed.SeedEntropyEntropy.fill.Goals as goal

pub loop-byte-init : goal.loop-byte-init
loop-byte-init c =
    let below : c.args.self.now.place < 2 ^ 70 = subst (λ (s : Seeded). s.place < 2 ^ 70) c.self.view_is (omega arith) in
    record { place = omega arith; key = refl; bytes = λ k none. absurd (omega arith) }
