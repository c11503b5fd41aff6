use Rattle.std.proofs.Common.{ap, ◌∙◌}
use Rattle.std.specs.Prelude.{is_some}
use Rattle.mask_words.proofs.Circuits.{circuit_named-found}
use Rattle.mask_words.proofs.word_tests.Test.passes.Goals as goal

pub returns-in-Circuit : goal.returns-in-Circuit
returns-in-Circuit c = rw c.in-Circuit.is (c.is_some-in-Circuit.ensures ∙ ap is_some (circuit_named-found c.args.word.now c.circuit_named.result c.circuit_named.ensures))
