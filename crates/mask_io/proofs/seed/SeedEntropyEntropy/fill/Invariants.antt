use Rattle.std.proofs.Common.{◌≡◌, ℕ, ◌+◌, ◌%◌, ◌^◌, ◌<◌, get_or}
use Rattle.mask_io.specs.Seeded.{stream_byte}
use Rattle.mask_io.proofs.seed.SeedEntropyEntropy.fill.Given as goal

-- the bytes so far are the stream's, and the entropy stands behind them
abbrev pub invariant-loop-byte : goal.invariant-loop-byte
invariant-loop-byte l = record {
  place : l.self.place ≡ (l.initial.self.place + l.byte-index) % 2 ^ 70;
  key : l.self.key ≡ l.initial.self.key;
  bytes : (k : ℕ) → k < l.byte-index → get_or l.buf k 0 ≡ stream_byte l.initial.self.key (l.initial.self.place + k);
}
