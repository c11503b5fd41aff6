use Rattle.std.proofs.Common.{◌≡◌, take}
use Rattle.mask_text.proofs.names.name_of.Given as goal

abbrev pub invariant-loop-byte : goal.invariant-loop-byte
invariant-loop-byte l = l.name.bytes ≡ take l.byte-index l.word
