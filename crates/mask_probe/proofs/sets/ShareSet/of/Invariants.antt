use Rattle.std.proofs.Common.{◌≡◌, ℕ, take}
use Rattle.mask_sni.specs.Asked.{bit_shares, in_places}
use Rattle.mask_probe.proofs.sets.ShareSet.of.Given as goal

abbrev pub invariant-loop-share : goal.invariant-loop-share
invariant-loop-share l = (i : ℕ) → bit_shares l.set i ≡ in_places (take l.share-index l.shares) i
