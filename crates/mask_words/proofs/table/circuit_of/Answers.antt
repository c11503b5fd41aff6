use Rattle.mask_words.proofs.Circuits.{circuit_named-found}
use Rattle.mask_words.proofs.table.circuit_of.Goals as goal

pub unwrap-requires : goal.unwrap-requires
unwrap-requires c = rw (circuit_named-found c.args.word.now c.circuit_named.result c.circuit_named.ensures) c.requires
