-- What the parts do to any draft: it grows, by so many values.
use Rattle.std.proofs.Common.{ℕ, List}
use Rattle.std.specs.List.{concat}
use Rattle.mask_circuit.specs.Netlist.{value_count}
use Rattle.mask_parts.specs.Drafts.{Grows}
use Rattle.mask_parts.specs.Tables.{part_gates, with_part}
use Rattle.mask_parts.proofs.Growing.{Grows-refl, Grows-trans, Grows-with_gates}
use Rattle.mask_parts.proofs.Turns.{Grows-all}
use Rattle.mask_parts.proofs.WordPassing.{Grows-xor32, Grows-sum32}
use Rattle.mask_chaskey.specs.declared.doubling.End.{End}
use Rattle.mask_chaskey.specs.declared.doubling.End.TheVariants.{Whole, Short}
use Rattle.mask_chaskey.specs.NamedChaskey.{doubling_steps, with_doubled, with_last_mask}
use Rattle.mask_chaskey.specs.Rounds.{Stage, with_word_xored, with_block_xored, with_mixed, with_turned, with_round, with_permutation}

-- STAGES

-- one stage's draft grows into another's
abbrev pub Lengthens : Stage → Stage → Type 0
Lengthens s t = Grows s.draft t.draft

pub Lengthens-trans : (s t u : Stage) → Lengthens s t → Lengthens t u → Lengthens s u
Lengthens-trans s t u one two = Grows-trans s.draft t.draft u.draft one two

-- THE STEPS

pub Lengthens-word_xored : (ys : List (List ℕ)) (k : ℕ) (s : Stage) → Lengthens s (with_word_xored ys k s)
unfolding with_word_xored
Lengthens-word_xored ys k s = Grows-xor32 s.draft _ _

pub Lengthens-block_xored : (ys : List (List ℕ)) (s : Stage) → Lengthens s (with_block_xored ys s)
unfolding with_block_xored
Lengthens-block_xored ys s = Grows-all (λ (t : Stage). t.draft) (with_word_xored ys) (Lengthens-word_xored ys) 4 s

pub Lengthens-mixed : (i j k : ℕ) (s : Stage) → Lengthens s (with_mixed i j k s)
unfolding with_mixed
Lengthens-mixed i j k s = Grows-trans _ _ _ (Grows-sum32 s.draft _ _) (Grows-xor32 _ _ _)

pub Lengthens-turned : (i : ℕ) (s : Stage) → Lengthens s (with_turned i s)
unfolding with_turned
Lengthens-turned i s = Grows-refl s.draft

pub Lengthens-doubled : (s : Stage) → Lengthens s (with_doubled s)
unfolding with_doubled with_part
Lengthens-doubled s = Grows-with_gates s.draft (part_gates (value_count s.draft) (concat s.block) doubling_steps)

pub Lengthens-last_mask : (end : End) (s : Stage) → Lengthens s (with_last_mask end s)
unfolding with_last_mask
Lengthens-last_mask Whole s = Lengthens-doubled s
Lengthens-last_mask Short s = Lengthens-trans s (with_doubled s) (with_doubled (with_doubled s)) (Lengthens-doubled s) (Lengthens-doubled (with_doubled s))

-- A ROUND

-- the stages in a round
abbrev pub first_mixed : Stage → Stage
first_mixed s = with_turned 0 (with_mixed 0 1 5 s)

abbrev pub second_mixed : Stage → Stage
second_mixed s = with_mixed 2 3 8 (first_mixed s)

abbrev pub third_mixed : Stage → Stage
third_mixed s = with_mixed 0 3 13 (second_mixed s)

abbrev pub last_mixed : Stage → Stage
last_mixed s = with_mixed 2 1 7 (third_mixed s)

pub Lengthens-first : (s : Stage) → Lengthens s (first_mixed s)
Lengthens-first s = Lengthens-trans s (with_mixed 0 1 5 s) (first_mixed s) (Lengthens-mixed 0 1 5 s) (Lengthens-turned 0 (with_mixed 0 1 5 s))

pub Lengthens-second : (s : Stage) → Lengthens s (second_mixed s)
Lengthens-second s = Lengthens-trans s (first_mixed s) (second_mixed s) (Lengthens-first s) (Lengthens-mixed 2 3 8 (first_mixed s))

pub Lengthens-third : (s : Stage) → Lengthens s (third_mixed s)
Lengthens-third s = Lengthens-trans s (second_mixed s) (third_mixed s) (Lengthens-second s) (Lengthens-mixed 0 3 13 (second_mixed s))

pub Lengthens-last : (s : Stage) → Lengthens (last_mixed s) (with_round s)
unfolding with_round
Lengthens-last s = Lengthens-turned 2 (last_mixed s)

pub Lengthens-after_third : (s : Stage) → Lengthens (third_mixed s) (with_round s)
Lengthens-after_third s = Lengthens-trans (third_mixed s) (last_mixed s) (with_round s) (Lengthens-mixed 2 1 7 (third_mixed s)) (Lengthens-last s)

pub Lengthens-after_second : (s : Stage) → Lengthens (second_mixed s) (with_round s)
Lengthens-after_second s = Lengthens-trans (second_mixed s) (third_mixed s) (with_round s) (Lengthens-mixed 0 3 13 (second_mixed s)) (Lengthens-after_third s)

pub Lengthens-after_first : (s : Stage) → Lengthens (first_mixed s) (with_round s)
Lengthens-after_first s = Lengthens-trans (first_mixed s) (second_mixed s) (with_round s) (Lengthens-mixed 2 3 8 (first_mixed s)) (Lengthens-after_second s)

pub Lengthens-round : (s : Stage) → Lengthens s (with_round s)
Lengthens-round s = Lengthens-trans s (first_mixed s) (with_round s) (Lengthens-first s) (Lengthens-after_first s)

pub Lengthens-permutation : (s : Stage) → Lengthens s (with_permutation s)
unfolding with_permutation
Lengthens-permutation s = Grows-all (λ (t : Stage). t.draft) (λ i. with_round) (λ i. Lengthens-round) 12 s
