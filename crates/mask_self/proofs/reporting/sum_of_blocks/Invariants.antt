use Rattle.std.proofs.Common.{◌≡◌, fold, replicate}
use Rattle.mask_circuit.specs.Wires.{each}
use Rattle.mask_modes.specs.CounterMode.{xor_bytes}
use Rattle.mask_modes.specs.Steps.{block_at}
use Rattle.mask_self.proofs.reporting.sum_of_blocks.Given as goal

abbrev pub invariant-loop-i : goal.invariant-loop-i
invariant-loop-i l = l.sum ≡ fold xor_bytes (replicate 16 0) (each (block_at 16 l.bytes) l.i)
