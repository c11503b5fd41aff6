-- What the parts do to any draft: it grows, by so many values.
use Rattle.std.proofs.Common.{◌≡◌, ℕ, ◌+◌, ◌≤◌, List, length, ◌∙◌, arith}
use Rattle.mask_circuit.specs.Netlist.{Netlist, value_count}
use Rattle.mask_parts.specs.Drafts.{Grows}
use Rattle.mask_parts.specs.Turns.{in_turn}
use Rattle.mask_parts.specs.Words32.{with_xor32}
use Rattle.mask_parts.proofs.Growing.{Grows-trans}
use Rattle.mask_parts.proofs.Turns.{Grows-in_turn, Grows-all}
use Rattle.mask_parts.proofs.WordFitting.{value_count-with_xor32, value_count-with_sum32}
use Rattle.mask_parts.proofs.WordPassing.{Grows-xor32, Grows-sum32}
use Rattle.mask_lea.specs.Lea.{Schedule}
use Rattle.mask_lea.specs.Rounds.{Stage, with_word_updated, with_key_updated, with_mixed, with_block_mixed, with_round, with_rounds}

-- MIXED WORDS

pub Grows-mixed : (c : Netlist) (x k y l : List ℕ) → Grows c (with_mixed c x k y l)
unfolding with_mixed
Grows-mixed c x k y l = Grows-trans _ _ _ (Grows-xor32 c x k) (Grows-trans _ _ _ (Grows-xor32 (with_xor32 c x k) y l) (Grows-sum32 _ _ _))

pub count-with_mixed : (c : Netlist) (x k y l : List ℕ) → value_count (with_mixed c x k y l) ≡ value_count c + 249
unfolding with_mixed
count-with_mixed c x k y l =
    let one = value_count-with_xor32 c x k in
    let two = value_count-with_xor32 (with_xor32 c x k) y l in
    value_count-with_sum32 (with_xor32 (with_xor32 c x k) y l) _ _ ∙ omega arith

-- STAGES

-- one stage's draft grows into another's
abbrev pub Lengthens : Stage → Stage → Type 0
Lengthens s t = Grows s.draft t.draft

pub Lengthens-word_updated : (r : Schedule) (i j : ℕ) (s : Stage) → Lengthens s (with_word_updated r i j s)
unfolding with_word_updated
Lengthens-word_updated r i j s = Grows-sum32 s.draft _ _

pub Lengthens-key_updated : (r : Schedule) (i : ℕ) (s : Stage) → Lengthens s (with_key_updated r i s)
unfolding with_key_updated in_turn
Lengthens-key_updated r i s = Grows-all (λ (t : Stage). t.draft) (with_word_updated r i) (Lengthens-word_updated r i) (length r.turns) s

pub Lengthens-block_mixed : (ks : List (List ℕ)) (s : Stage) → Lengthens s (with_block_mixed ks s)
unfolding with_block_mixed
Lengthens-block_mixed ks s = Grows-trans _ _ _ (Grows-mixed s.draft _ _ _ _) (Grows-trans _ _ _ (Grows-mixed _ _ _ _ _) (Grows-mixed _ _ _ _ _))

pub Lengthens-round : (r : Schedule) (i : ℕ) (s : Stage) → Lengthens s (with_round r i s)
unfolding with_round
Lengthens-round r i s = Grows-trans _ _ _ (Lengthens-key_updated r i s) (Lengthens-block_mixed _ (with_key_updated r i s))

pub Lengthens-rounds : (r : Schedule) (i : ℕ) (s : Stage) → i ≤ r.rounds → Lengthens (in_turn (with_round r) i s) (with_rounds r s)
unfolding with_rounds
Lengthens-rounds r i s few = Grows-in_turn (λ (t : Stage). t.draft) (with_round r) (Lengthens-round r) i r.rounds s few

pub Lengthens-whole : (r : Schedule) (s : Stage) → Lengthens s (with_rounds r s)
unfolding in_turn
Lengthens-whole r s = Lengthens-rounds r 0 s (omega arith)
