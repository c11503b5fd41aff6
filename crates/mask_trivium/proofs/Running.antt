-- From stage to stage: a clock keeps a stage whole, and adds so many values.
use Rattle.std.proofs.Common.{◌≡◌, ℕ, zero, suc, ◌+◌, ◌*◌, Bool, true, List, length, map, All, refl, ◌∙◌, arith, length-append}
use Rattle.std.proofs.lemmas.List.{length-map}
use Rattle.std.proofs.lemmas.List.Elements.{All-append}
use Rattle.mask_circuit.specs.Netlist.{Netlist, value_count}
use Rattle.mask_parts.specs.Drafts.{Grows}
use Rattle.mask_parts.specs.Tables.{is_part, with_part}
use Rattle.mask_parts.proofs.Growing.{Grows-refl, Grows-trans, Grows-with_gates}
use Rattle.mask_parts.proofs.Passing.{IsSound, IsReady, Passes, All-later, Passes-part, IsReady-part, All-ready-part}
use Rattle.mask_parts.proofs.Turns.{RunsTo, Runs-trans, Runs-as, Runs-refl}
use Rattle.mask_trivium.specs.Clocks.{Clock, Stage, with_clock, with_clocks}
use Rattle.mask_trivium.proofs.Clocking.{IsClock}
use Rattle.mask_trivium.proofs.Shifting.{length-shifted, All-shifted}

-- LENGTHS

pub Grows-clock : (k : Clock) (t : Stage) → Grows t.draft (with_clock k t).draft
unfolding with_clock with_part
Grows-clock k t = Grows-with_gates t.draft _

pub Grows-clocks : (k : Clock) (n : ℕ) (t : Stage) → Grows t.draft (with_clocks k n t).draft
unfolding with_clocks
Grows-clocks k zero t = Grows-refl t.draft
Grows-clocks k (suc n) t = Grows-trans _ _ _ (Grows-clock k t) (Grows-clocks k n (with_clock k t))

pub length-state : (k : Clock) (t : Stage) → length t.state ≡ 288 → length (with_clock k t).state ≡ 288
unfolding with_clock
length-state k t long =
    let n = value_count t.draft in
    length-shifted (n + k.first) (n + k.second) (n + k.third) t.state long

pub length-outputs : (k : Clock) (n : ℕ) (t : Stage) → length (with_clocks k n t).outputs ≡ length t.outputs + n * length k.output
unfolding with_clocks with_clock
length-outputs k zero t = omega arith
length-outputs k (suc n) t =
    let one : length (with_clock k t).outputs ≡ length t.outputs + length k.output =
    length-append t.outputs (map (λ i. value_count t.draft + i) k.output) ∙ rw (length-map k.output (λ i. value_count t.draft + i)) refl in
    let more = length-outputs k n (with_clock k t) in
    omega arith

-- WHAT A CLOCK KEEPS

-- the stage is sound, and the values of its state and its outputs may be taken
pub record IsFine (T : Type 0) (t : Stage) : Type 0 where
  pub sound : IsSound T t.draft
  pub long : length t.state ≡ 288
  pub state : All (IsReady T t.draft) t.state
  pub outputs : All (IsReady T t.draft) t.outputs

-- the stage u is fine too, and its draft has v values more, of which p are products and p refreshes
abbrev pub Runs : (T : Type 0) (t u : Stage) (v p : ℕ) → Type 0
Runs T t u v p = RunsTo T (λ (s : Stage). s.draft) (IsFine T) t u v p

module _ (T : Type 0) (k : Clock) (v : ℕ) (out : List Bool → List Bool) (is : IsClock k v out) where
  pub Runs-clock : (t : Stage) → IsFine T t → Runs T t (with_clock k t) v 3
  unfolding with_clock
  Runs-clock t fine =
      let c : Netlist = t.draft in
      let n : ℕ = value_count c in
      let d : Netlist = with_part c t.state k.steps in
      let part : is_part (length t.state) k.steps ≡ true = rw fine.long is.part in
      let passes : Passes T c d v 3 = Passes-part T c t.state k.steps fine.sound fine.state part v 3 (is.counts n t.state) in
      let ready = IsReady-part T c t.state k.steps fine.sound fine.state part in
      record {
        passes = passes;
        fine = record {
          sound = passes.sound;
          long = length-shifted (n + k.first) (n + k.second) (n + k.third) t.state fine.long;
          state = All-shifted (IsReady T d) (n + k.first) (n + k.second) (n + k.third) t.state
              (ready k.first is.first_free) (ready k.second is.second_free) (ready k.third is.third_free) (All-later T c d v 3 t.state passes fine.state);
          outputs = All-append (IsReady T d) t.outputs _ (All-later T c d v 3 t.outputs passes fine.outputs)
              (All-ready-part T c t.state k.steps fine.sound fine.state part k.output is.output_free);
        };
      }

  pub Runs-clocks : (n : ℕ) (t : Stage) → IsFine T t → Runs T t (with_clocks k n t) (n * v) (n * 3)
  unfolding with_clocks
  Runs-clocks zero t fine =
      Runs-as t t 0 0 _ _ (omega arith) (omega arith) (Runs-refl T (λ (s : Stage). s.draft) (IsFine T) (λ s is_fine. is_fine.sound) t fine)
  Runs-clocks (suc n) t fine =
      let one = Runs-clock t fine in
      Runs-as _ _ _ _ _ _ (omega arith) (omega arith)
      (Runs-trans t (with_clock k t) (with_clocks k n (with_clock k t)) v 3 (n * v) (n * 3) one (Runs-clocks n (with_clock k t) one.fine))
