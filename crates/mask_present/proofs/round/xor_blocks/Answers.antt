use Rattle.std.proofs.Common.{ℕ, ap, ◌∙◌, arith}
use Rattle.std.specs.List.{range_with_len}
use Rattle.mask_parts.proofs.Growing.{Grows-refl}
use Rattle.mask_parts.proofs.Laying.{Lays-exit}
use Rattle.mask_present.specs.Rounds.{xored}
use Rattle.mask_present.proofs.round.xor_blocks.Goals as goal

pub returns-in_err-xor_all : goal.returns-in_err-xor_all
unfolding xored
returns-in_err-xor_all c =
    let b = c.args.b.now in
    Lays-exit b b _ _ _ _ _ _ c.from_residual.ensures.1 (Grows-refl b) (Grows-refl _) c.in_err-xor_all.ensures

pub number_from-requires : goal.number_from-requires
number_from-requires c = let few = c.values-first.ensures.circuit.few_values in let count = c.values-first.ensures.count in omega arith

pub returns : goal.returns
unfolding xored
returns c =
    let laid = c.in_ok-xor_all.ensures in
    (c.number_from.ensures ∙ ap (λ (n : ℕ). range_with_len n 64) c.values-first.ensures.count, laid.1, laid.2)
