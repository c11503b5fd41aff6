use Rattle.std.proofs.Common.{◌≡◌, ℕ, ◌+◌, ◌*◌, List, length, sym, ap, ◌∙◌, rules}
use Rattle.mask_lea.specs.Lea.{schedule}
use Rattle.mask_lea.specs.NamedLea.{words_from}
use Rattle.mask_lea.proofs.Starting.{length-words_from}
use Rattle.mask_lea.proofs.circuits.lay_circuit.Goals as goal

words_of_length : (ws : List (List ℕ)) (a n m : ℕ) → ws ≡ words_from a n → length ws ≡ m → ws ≡ words_from a m
words_of_length ws a n m is long = is ∙ ap (words_from a) (sym (ap length is ∙ length-words_from a n) ∙ long)

pub lay_on-requires-clause-first : goal.lay_on-requires-clause-first
lay_on-requires-clause-first c = words_of_length c.number_words.new.words 0 _ (schedule c.args.size).words c.number_words.ensures (search rules)

pub lay_on-requires-clause-second : goal.lay_on-requires-clause-second
lay_on-requires-clause-second c = c.number_words-2.ensures ∙ ap (λ w. words_from (32 * w) 4) c.words-count.ensures

pub lay_on-requires-clause-third : goal.lay_on-requires-clause-third
lay_on-requires-clause-third c = c.number_words-3.ensures ∙ ap (λ w. words_from (32 * w + 128) 4) c.words-count.ensures
