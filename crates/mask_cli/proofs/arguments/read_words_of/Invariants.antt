use Rattle.std.proofs.Common.{◌≤◌, length}
use Rattle.mask_cli.proofs.arguments.read_words_of.Given as goal

-- no more words than were read
abbrev pub invariant-loop-read : goal.invariant-loop-read
invariant-loop-read g l = length l.words ≤ l.read
