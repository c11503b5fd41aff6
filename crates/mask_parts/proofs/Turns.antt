-- Steps in turn on stages: a stage is a draft with the values that stand for something, and each cipher has its own.
use Rattle.std.proofs.Common.{◌≡◌, ℕ, zero, suc, ◌+◌, ◌*◌, ◌-◌, ◌<◌, ◌≤◌, refl, ap, ◌∙◌, arith, add-one}
use Rattle.mask_circuit.specs.Netlist.{Netlist}
use Rattle.mask_parts.specs.Drafts.{Grows, IsWithinLimits}
use Rattle.mask_parts.specs.Turns.{in_turn}
use Rattle.mask_parts.proofs.Growing.{Grows-refl, Grows-trans}
use Rattle.mask_parts.proofs.Passing.{IsSound, Passes, Passes-refl, Passes-trans, Passes-as}

-- WHAT GROWS

module _ {S : Type 0} (draft : S → Netlist) (f : ℕ → S → S) (step : (i : ℕ) (s : S) → Grows (draft s) (draft (f i s))) where
  -- k steps behind i others
  Grows-more : (i k : ℕ) (s : S) → Grows (draft (in_turn f i s)) (draft (in_turn f (k + i) s))
  unfolding in_turn
  Grows-more i zero s = let e : 0 + i ≡ i = omega arith in rw e (Grows-refl _)
  Grows-more i (suc k) s =
      let e : suc k + i ≡ suc (k + i) = omega arith in
      rw e (Grows-trans _ _ _ (Grows-more i k s) (step (k + i) (in_turn f (k + i) s)))

  pub Grows-in_turn : (i n : ℕ) (s : S) → i ≤ n → Grows (draft (in_turn f i s)) (draft (in_turn f n s))
  Grows-in_turn i n s few = let e : n - i + i ≡ n = omega arith in rw e at (Grows-more i (n - i) s)

  pub Grows-all : (n : ℕ) (s : S) → Grows (draft s) (draft (in_turn f n s))
  unfolding in_turn
  Grows-all n s = Grows-in_turn 0 n s (omega arith)

-- LOOPS

-- the stage now is what i steps make of the one before
pub record HasRun {S : Type 0} (draft : S → Netlist) (f : ℕ → S → S) (before now : S) (i : ℕ) : Type 0 where
  pub within : IsWithinLimits (draft now)
  pub is : now ≡ in_turn f i before

module _ {S : Type 0} {draft : S → Netlist} (f : ℕ → S → S) where
  pub HasRun-none : (before : S) → IsWithinLimits (draft before) → HasRun draft f before before 0
  unfolding in_turn
  HasRun-none before within = record { within = within; is = refl }

  pub HasRun-more : (before now later : S) (i : ℕ) → HasRun draft f before now i → later ≡ f i now → IsWithinLimits (draft later) → HasRun draft f before later (i + 1)
  unfolding in_turn
  HasRun-more before now later i has is within = record { within = within; is = rw (add-one i) (is ∙ ap (f i) has.is) }

  module _ (step : (i : ℕ) (s : S) → Grows (draft s) (draft (f i s))) (before now : S) (i n : ℕ) (has : HasRun draft f before now i) where
    -- what was made
    pub begun-run : Grows (draft before) (draft now)
    begun-run = rw has.is (Grows-all draft f step i before)

    -- and what is left behind the next step
    pub left-run : i < n → Grows (draft (f i now)) (draft (in_turn f n before))
    unfolding in_turn
    left-run few = rw has.is (Grows-in_turn draft f step (suc i) n before (omega arith))

-- WHAT IS KEPT

-- the stage t is fine, and its draft has v values more than that of s, of which p are products and p refreshes
pub record RunsTo {S : Type 0} (T : Type 0) (draft : S → Netlist) (Fine : S → Type 0) (s t : S) (v p : ℕ) : Type 0 where
  pub passes : Passes T (draft s) (draft t) v p
  pub fine : Fine t

module _ {S : Type 0} {T : Type 0} {draft : S → Netlist} {Fine : S → Type 0} where
  pub Runs-trans : (s t u : S) (v p w q : ℕ) → RunsTo T draft Fine s t v p → RunsTo T draft Fine t u w q → RunsTo T draft Fine s u (v + w) (p + q)
  Runs-trans s t u v p w q one two = record { passes = Passes-trans T (draft s) (draft t) (draft u) v p w q one.passes two.passes; fine = two.fine }

  pub Runs-as : (s t : S) (v p w q : ℕ) → v ≡ w → p ≡ q → RunsTo T draft Fine s t v p → RunsTo T draft Fine s t w q
  Runs-as s t v p w q same same' runs = record { passes = Passes-as T (draft s) (draft t) v p w q same same' runs.passes; fine = runs.fine }

module _ {S : Type 0} (T : Type 0) (draft : S → Netlist) (Fine : S → Type 0) (sound : (s : S) → Fine s → IsSound T (draft s)) where
  pub Runs-refl : (s : S) → Fine s → RunsTo T draft Fine s s 0 0
  Runs-refl s fine = record { passes = Passes-refl T (draft s) (sound s fine); fine = fine }

  -- n steps, each of which adds so much to a stage that came out of the first one
  pub Runs-in_turn : (f : ℕ → S → S) (v p n : ℕ) (s : S)
      → ((i : ℕ) (t : S) (w q : ℕ) → i < n → RunsTo T draft Fine s t w q → RunsTo T draft Fine t (f i t) v p)
      → (m : ℕ) → m ≤ n → Fine s → RunsTo T draft Fine s (in_turn f m s) (m * v) (m * p)
  unfolding in_turn
  Runs-in_turn f v p n s step zero few fine = Runs-as s s 0 0 _ _ (omega arith) (omega arith) (Runs-refl s fine)
  Runs-in_turn f v p n s step (suc m) few fine =
      let before = Runs-in_turn f v p n s step m (omega arith) fine in
      Runs-as _ _ _ _ _ _ (omega arith) (omega arith)
      (Runs-trans s (in_turn f m s) (f m (in_turn f m s)) (m * v) (m * p) v p before (step m (in_turn f m s) (m * v) (m * p) (omega arith) before))
