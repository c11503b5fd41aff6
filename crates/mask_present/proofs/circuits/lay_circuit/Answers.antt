use Rattle.std.proofs.Common.{◌≡◌, ℕ, ◌+◌, List, length, sym, ap, ◌∙◌, rules}
use Rattle.std.specs.List.{range_with_len}
use Rattle.std.proofs.lemmas.List.FromFn.{length-range_with_len}
use Rattle.mask_present.specs.Present.{register}
use Rattle.mask_present.proofs.circuits.lay_circuit.Goals as goal

range_of_length : (us : List ℕ) (a n m : ℕ) → us ≡ range_with_len a n → length us ≡ m → us ≡ range_with_len a m
range_of_length us a n m is long = is ∙ ap (range_with_len a) (sym (ap length is ∙ length-range_with_len a n) ∙ long)

pub lay_on-requires-clause-first : goal.lay_on-requires-clause-first
lay_on-requires-clause-first c = range_of_length c.number_from.new.places 0 _ (register c.args.size).width c.number_from.ensures (search rules)

pub lay_on-requires-clause-second : goal.lay_on-requires-clause-second
lay_on-requires-clause-second c = c.number_from-2.ensures ∙ ap (λ w. range_with_len w 64) c.width-width.ensures

pub lay_on-requires-clause-third : goal.lay_on-requires-clause-third
lay_on-requires-clause-third c = c.number_from-3.ensures ∙ ap (λ w. range_with_len (w + 64) 64) c.width-width.ensures
