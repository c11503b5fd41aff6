use Rattle.std.proofs.Common.{◌≡◌, ℕ, ◌<◌, length, map, take, drop}
use Rattle.mask_bits.specs.Lanes.{lane}
use Rattle.mask_counter.proofs.shares.put_in_all_lanes.Given as goal

abbrev pub invariant-loop-k : goal.invariant-loop-k
invariant-loop-k g l = record {
  lanes : (m : ℕ) → m < 64 → map (lane m) (take l.k l.inputs) ≡ map (lane 0) (take l.k l.shares);
  rest : drop (length l.shares) l.inputs ≡ drop (length l.shares) l.fn.inputs;
}
