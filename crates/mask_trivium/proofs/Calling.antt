-- Stages as calls know them: of values of the draft, and what a loop of clocks has made of one.
use Rattle.std.proofs.Common.{◌≡◌, ℕ, suc, ◌+◌, ◌-◌, ◌<◌, Bool, List, [], ◌++◌, length, map, refl, sym, arith}
use Rattle.std.proofs.lemmas.List.Elements.{All-nil}
use Rattle.mask_circuit.specs.Netlist.{Netlist, value_count}
use Rattle.mask_parts.specs.Drafts.{Grows, IsWithinLimits}
use Rattle.mask_parts.proofs.Growing.{Grows-refl, Grows-trans}
use Rattle.mask_parts.proofs.Passing.{Formed, AreOf, ready-known}
use Rattle.mask_trivium.specs.Clocks.{Clock, Stage, stage, with_clock, with_clocks}
use Rattle.mask_trivium.proofs.Clocking.{IsClock}
use Rattle.mask_trivium.proofs.Running.{Grows-clock, Grows-clocks, IsFine, Runs-clock}

-- a stage of values of a draft
pub IsFine-stage : (c : Netlist) (xs : List ℕ) → Formed c → length xs ≡ 288 → AreOf c xs → IsFine ⊥ (stage c xs [])
unfolding stage
IsFine-stage c xs formed long known = record {
  sound = record { formed = formed; tidy = λ none. absurd none };
  long = long;
  state = ready-known c xs known;
  outputs = All-nil _;
}

-- a clock on a stage, whatever was output before
pub with_clock-parts : (k : Clock) (c : Netlist) (xs us : List ℕ)
    → with_clock k (stage c xs us)
    ≡ stage (with_clock k (stage c xs [])).draft (with_clock k (stage c xs [])).state (us ++ map (λ i. value_count c + i) k.output)
unfolding with_clock stage
with_clock-parts k c xs us = refl

-- so it is that clock whose parts a call has made
pub stage-clock : (k : Clock) (c d : Netlist) (xs ys us vs : List ℕ) → d ≡ (with_clock k (stage c xs [])).draft → ys ≡ (with_clock k (stage c xs [])).state
    → vs ≡ us ++ map (λ i. value_count c + i) k.output → stage d ys vs ≡ with_clock k (stage c xs us)
stage-clock k c d xs ys us vs draft_is state_is outputs_are = rw (draft_is, state_is, outputs_are) (sym (with_clock-parts k c xs us))

-- Of n clocks the first i have made the stage now out of the one before.
pub record HasRun (k : Clock) (n : ℕ) (before now : Stage) (i : ℕ) : Type 0 where
  pub within : IsWithinLimits now.draft
  pub begun : Grows before.draft now.draft
  pub fine : IsFine ⊥ now
  pub left : with_clocks k (n - i) now ≡ with_clocks k n before

pub HasRun-none : (k : Clock) (n : ℕ) (before : Stage) → IsWithinLimits before.draft → IsFine ⊥ before → HasRun k n before before 0
HasRun-none k n before within fine = record {
  within = within;
  begun = Grows-refl before.draft;
  fine = fine;
  left = let e : n - 0 ≡ n = omega arith in rw e refl;
}

module _ (k : Clock) (v : ℕ) (out : List Bool → List Bool) (is : IsClock k v out) (n : ℕ) (before now : Stage) (i : ℕ) (has : HasRun k n before now i) where
  next : i < n → with_clocks k (n - (i + 1)) (with_clock k now) ≡ with_clocks k n before
  unfolding with_clocks
  next low = let e : n - i ≡ suc (n - (i + 1)) = omega arith in rw e at has.left

  -- what is left behind the next clock
  pub left-behind : i < n → Grows (with_clock k now).draft (with_clocks k n before).draft
  left-behind low = rw (← next low) (Grows-clocks k (n - (i + 1)) (with_clock k now))

  pub HasRun-more : (later : Stage) → i < n → later ≡ with_clock k now → IsWithinLimits later.draft → HasRun k n before later (i + 1)
  HasRun-more later low made within = record {
    within = within;
    begun = rw made (Grows-trans _ _ _ has.begun (Grows-clock k now));
    fine = rw made (Runs-clock ⊥ k v out is now has.fine).fine;
    left = rw made (next low);
  }

pub HasRun-all : (k : Clock) (n : ℕ) (before now : Stage) (i : ℕ) → HasRun k n before now i → i ≡ n → now ≡ with_clocks k n before
unfolding with_clocks
HasRun-all k n before now i has end = let e : n - i ≡ 0 = omega arith in rw e at has.left
