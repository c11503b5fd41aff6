-- The values of a stage are values of its draft.
use Rattle.std.proofs.Common.{◌≡◌, ℕ, zero, suc, ◌+◌, ◌*◌, ◌<◌, ◌≤◌, List, [], ◌∷◌, length, All, arith, fold}
use Rattle.mask_circuit.specs.Netlist.{Netlist, value_count}
use Rattle.mask_parts.specs.Drafts.{Grows}
use Rattle.mask_parts.specs.PresentSbox.{sbox_results}
use Rattle.mask_parts.proofs.Growing.{value_count-Grows, value_count-with_gates}
use Rattle.mask_parts.proofs.Ranges.{All-range}
use Rattle.mask_bits.specs.Reading.{lowest}
use Rattle.mask_present.specs.Present.{Register}
use Rattle.mask_present.specs.NamedPresent.{start}
use Rattle.mask_present.specs.Rounds.{Stage, not_gates, counter_values, key_added, block_substituted, block_moved, key_rotated, key_replaced, key_counted, key_updated, block_round, stage_after, rounds}
use Rattle.mask_present.proofs.Counting.{Adds-key_added, Adds-block_substituted, Adds-key_replaced}
use Rattle.mask_present.proofs.Fitting.{IsShape, Fits, Fits-key_added, Fits-block_substituted, Fits-stage_after}
use Rattle.mask_present.proofs.Holding.{Holds, All-sbox_results, All-sboxes_results, Holds-key_added, Holds-block_substituted, Holds-block_moved, Holds-key_rotated, Holds-key_replaced, Holds-key_counted}
use Rattle.mask_present.proofs.Lengthening.{Lengthens-key_added, Lengthens-block_substituted, Lengthens-key_replaced, Lengthens-key_counted}

-- a value of the draft
abbrev pub Below : Netlist → ℕ → Type 0
Below c u = u < value_count c

pub record Known (s : Stage) : Type 0 where
  pub values : Holds (Below s.draft) s

-- a value of a draft is one of a longer draft
pub Below-Grows : (c d : Netlist) → Grows c d → (u : ℕ) → Below c u → Below d u
Below-Grows c d grows u below = let more = value_count-Grows c d grows in omega arith

pub All-Below-sbox : (c : Netlist) (n : ℕ) → n + 26 ≤ value_count c → All (Below c) (sbox_results n)
All-Below-sbox c n room = All-sbox_results (Below c) n (omega arith) (omega arith) (omega arith) (omega arith)

pub Known-key_added : (r : Register) (s : Stage) → IsShape r → Fits r s → Known s → Known (key_added r s)
Known-key_added r s shape fits known =
    let count = (Adds-key_added r s shape fits).values in
    record {
      values = Holds-key_added (Below s.draft) (Below (key_added r s).draft) s (Below-Grows _ _ (Lengthens-key_added r s)) known.values r (λ u low high. omega arith);
    }

pub Known-block_substituted : (s : Stage) → Known s → Known (block_substituted s)
Known-block_substituted s known =
    let count = (Adds-block_substituted s).values in
    record {
      values = Holds-block_substituted (Below s.draft) (Below (block_substituted s).draft) s (Below-Grows _ _ (Lengthens-block_substituted s)) known.values
          (All-sboxes_results (Below (block_substituted s).draft) 16 (value_count s.draft)
          (λ j low. All-Below-sbox (block_substituted s).draft (value_count s.draft + 26 * j) (omega arith)));
    }

pub Known-block_moved : (r : Register) (s : Stage) → Fits r s → Known s → Known (block_moved s)
Known-block_moved r s fits known = record { values = unfold block_moved in Holds-block_moved (Below s.draft) r s fits known.values }

pub Known-block_round : (r : Register) (s : Stage) → IsShape r → Fits r s → Known s → Known (block_round r s)
unfolding block_round
Known-block_round r s shape fits known =
    let added = Fits-key_added r s fits in
    Known-block_moved r (block_substituted (key_added r s)) (Fits-block_substituted r (key_added r s) added)
    (Known-block_substituted (key_added r s) (Known-key_added r s shape fits known))

pub Known-key_rotated : (r : Register) (s : Stage) → Known s → Known (key_rotated r s)
Known-key_rotated r s known = record { values = unfold key_rotated in Holds-key_rotated (Below s.draft) r s known.values }

pub Known-key_replaced : (s : Stage) (at : ℕ) → Known s → Known (key_replaced s at)
Known-key_replaced s at known =
    let count = (Adds-key_replaced s at).values in
    record {
      values = Holds-key_replaced (Below s.draft) (Below (key_replaced s at).draft) s (Below-Grows _ _ (Lengthens-key_replaced s at)) known.values at
          (All-Below-sbox (key_replaced s at).draft (value_count s.draft) (omega arith));
    }

pub Known-nibbles : (ats : List ℕ) (s : Stage) → Known s → Known (fold key_replaced s ats)
Known-nibbles [] s known = known
Known-nibbles (at ∷ ats) s known = Known-nibbles ats (key_replaced s at) (Known-key_replaced s at known)

-- the draft with the NOTs has a value for each
count-key_counted : (r : Register) (i : ℕ) (s : Stage) → value_count (key_counted r i s).draft ≡ value_count s.draft + length (not_gates (lowest 5 i) (counter_values r s))
unfolding key_counted
count-key_counted r i s = value_count-with_gates s.draft (not_gates (lowest 5 i) (counter_values r s))

pub Known-key_counted : (r : Register) (i : ℕ) (s : Stage) → Known s → Known (key_counted r i s)
Known-key_counted r i s known =
    let count = count-key_counted r i s in
    record {
      values = Holds-key_counted (Below s.draft) (Below (key_counted r i s).draft) s (Below-Grows _ _ (Lengthens-key_counted r i s)) known.values r i (λ u low high. omega arith);
    }

pub Known-key_updated : (r : Register) (i : ℕ) (s : Stage) → Known s → Known (key_updated r i s)
unfolding key_updated
Known-key_updated r i s known = Known-key_counted r i _ (Known-nibbles r.nibbles (key_rotated r s) (Known-key_rotated r s known))

pub Known-stage_after : (r : Register) (i : ℕ) (s : Stage) → IsShape r → Fits r s → Known s → Known (stage_after r i s)
unfolding stage_after
Known-stage_after r zero s shape fits known = known
Known-stage_after r (suc i) s shape fits known =
    Known-key_updated r (suc i) _ (Known-block_round r _ shape (Fits-stage_after r i s shape fits) (Known-stage_after r i s shape fits known))

pub Known-rounds : (r : Register) (s : Stage) → IsShape r → Fits r s → Known s → Known (rounds r s)
unfolding rounds
Known-rounds r s shape fits known = Known-key_added r _ shape (Fits-stage_after r 31 s shape fits) (Known-stage_after r 31 s shape fits known)

pub Known-start : (r : Register) → IsShape r → Known (start r)
unfolding start
Known-start r shape = record {
  values = record {
    key = All-range (λ u. u < r.width + 128 + 0) 0 r.width (λ u low high. omega arith);
    block = All-range (λ u. u < r.width + 128 + 0) r.width 64 (λ u low high. omega arith);
  };
}
