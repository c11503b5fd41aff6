use Rattle.mask_words.proofs.Trying.{Tried}
use Rattle.mask_words.proofs.table.read_words.Given as goal

abbrev pub invariant-loop-form : goal.invariant-loop-form
invariant-loop-form l = Tried l.words l.form-index l.farthest
