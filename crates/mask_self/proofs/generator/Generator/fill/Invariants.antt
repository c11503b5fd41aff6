use Rattle.std.proofs.Common.{◌≡◌, ◌+◌, length, take}
use Rattle.mask_circuit.specs.Wires.{each}
use Rattle.mask_self.specs.Generator.{number_at, byte_at}
use Rattle.mask_self.proofs.generator.Generator.fill.Given as goal

abbrev pub invariant-loop-k : goal.invariant-loop-k
invariant-loop-k l = record {
  room : length l.room ≡ length l.initial.room;
  number : l.self ≡ number_at l.initial.self l.k;
  done : take l.k l.room ≡ each (λ k. byte_at l.initial.self (0 + k)) l.k;
}
