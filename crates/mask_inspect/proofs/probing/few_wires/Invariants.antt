use Rattle.std.proofs.Common.{◌≡◌, ◌-◌, map, take, drop}
use Rattle.mask_words.specs.WordTests.{number_of}
use Rattle.mask_inspect.proofs.probing.few_wires.Given as goal

abbrev pub invariant-loop-k : goal.invariant-loop-k
invariant-loop-k l = l.wires.items ≡ map number_of (take (l.k - 4) (drop 4 l.words))
