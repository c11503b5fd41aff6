-- The draft of a stage only grows.
use Rattle.std.proofs.Common.{◌≡◌, ℕ, zero, suc, ◌+◌, List, [], ◌∷◌, arith, fold}
use Rattle.mask_parts.specs.Drafts.{Grows}
use Rattle.mask_parts.specs.PresentSbox.{with_sbox}
use Rattle.mask_parts.proofs.Growing.{Grows-refl, Grows-trans, Grows-with_gates}
use Rattle.mask_present.specs.Present.{Register}
use Rattle.mask_present.specs.Rounds.{Stage, xored, key_added, block_substituted, block_moved, key_rotated, key_replaced, key_counted, key_updated, block_round, stage_after, rounds}

-- one stage's draft grows into another's
abbrev pub Lengthens : Stage → Stage → Type 0
Lengthens s t = Grows s.draft t.draft

pub Lengthens-key_added : (r : Register) (s : Stage) → Lengthens s (key_added r s)
unfolding key_added xored
Lengthens-key_added r s = Grows-with_gates s.draft _

pub Lengthens-block_substituted : (s : Stage) → Lengthens s (block_substituted s)
unfolding block_substituted
Lengthens-block_substituted s = Grows-with_gates s.draft _

pub Lengthens-block_round : (r : Register) (s : Stage) → Lengthens s (block_round r s)
unfolding block_round block_moved
Lengthens-block_round r s = Grows-trans _ _ _ (Lengthens-key_added r s) (Lengthens-block_substituted (key_added r s))

pub Lengthens-key_replaced : (s : Stage) (at : ℕ) → Lengthens s (key_replaced s at)
unfolding key_replaced with_sbox
Lengthens-key_replaced s at = Grows-with_gates s.draft _

pub Lengthens-nibbles : (ats : List ℕ) (s : Stage) → Lengthens s (fold key_replaced s ats)
Lengthens-nibbles [] s = Grows-refl s.draft
Lengthens-nibbles (at ∷ ats) s = Grows-trans _ _ _ (Lengthens-key_replaced s at) (Lengthens-nibbles ats (key_replaced s at))

pub Lengthens-key_counted : (r : Register) (i : ℕ) (s : Stage) → Lengthens s (key_counted r i s)
unfolding key_counted
Lengthens-key_counted r i s = Grows-with_gates s.draft _

pub Lengthens-key_updated : (r : Register) (i : ℕ) (s : Stage) → Lengthens s (key_updated r i s)
unfolding key_updated key_rotated
Lengthens-key_updated r i s = Grows-trans _ _ _ (Lengthens-nibbles r.nibbles (key_rotated r s)) (Lengthens-key_counted r i (fold key_replaced (key_rotated r s) r.nibbles))

-- one round more
pub Lengthens-round : (r : Register) (i : ℕ) (s : Stage) → Lengthens (stage_after r i s) (stage_after r (suc i) s)
unfolding stage_after
Lengthens-round r i s = Grows-trans _ _ _ (Lengthens-block_round r (stage_after r i s)) (Lengthens-key_updated r (suc i) (block_round r (stage_after r i s)))

-- k rounds more
pub Lengthens-more : (r : Register) (i k : ℕ) (s : Stage) → Lengthens (stage_after r i s) (stage_after r (k + i) s)
Lengthens-more r i zero s = let e : 0 + i ≡ i = omega arith in rw e (Grows-refl _)
Lengthens-more r i (suc k) s =
    let e : suc k + i ≡ suc (k + i) = omega arith in
    rw e (Grows-trans _ _ _ (Lengthens-more r i k s) (Lengthens-round r (k + i) s))

pub Lengthens-rounds : (r : Register) (s : Stage) → Lengthens (stage_after r 31 s) (rounds r s)
unfolding rounds
Lengthens-rounds r s = Lengthens-key_added r (stage_after r 31 s)
