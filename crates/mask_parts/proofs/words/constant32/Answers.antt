use Rattle.std.proofs.Common.{rules, ◌∙◌, if◌then◌else◌}
use Rattle.std.proofs.lemmas.List.FromFn.{fill_by_all}
use Rattle.mask_bits.specs.Reading.{bit}
use Rattle.mask_parts.proofs.WordNumbers.{constant32-bits, number-constant32}
use Rattle.mask_parts.proofs.words.constant32.Goals as goal

pub returns-clause-bits : goal.returns-clause-bits
returns-clause-bits c =
    fill_by_all (λ k. if bit k c.args.word then c.args.one else c.args.zero) c.loop-i.bits 32 0 c.loop-i.invariant.0 (search rules)
    ∙ constant32-bits c.args.zero c.args.one c.args.word

pub returns-clause-number : goal.returns-clause-number
returns-clause-number c reading is_nought is_one =
    rw (returns-clause-bits c) (number-constant32 reading c.args.zero c.args.one c.args.word (search rules) is_nought is_one)
