-- The rounds on values, as calls lay them one after another, and what they compute and keep.
use Rattle.std.proofs.Common.{◌≡◌, ℕ, suc, ◌+◌, ◌-◌, ◌<◌, ◌≤◌, Bool, List, [], ◌∷◌, length, All, refl, sym, ap, ◌∙◌, subst, arith, add-one, fold}
use Rattle.mask_bits.specs.Reading.{number}
use Rattle.mask_circuit.specs.Netlist.{Netlist}
use Rattle.mask_circuit.specs.Value.{plain_values}
use Rattle.mask_circuit.specs.Acceptance.{IsTidy}
use Rattle.mask_tasks.specs.declared.sizes.KeySize.{KeySize}
use Rattle.mask_parts.specs.Drafts.{with_gates, with_outputs, bits_of, Grows, IsWithinLimits}
use Rattle.mask_parts.specs.Tidiness.{IsFree, KeepsTidy}
use Rattle.mask_parts.proofs.Growing.{Grows-trans}
use Rattle.mask_parts.proofs.Passing.{Formed}
use Rattle.mask_parts.proofs.Solving.{Solves-all, bits_of-with_gates, bits_of-with_outputs, Solved}
use Rattle.mask_present.specs.Present.{Register, register, present}
use Rattle.mask_present.specs.Rounds.{Stage, stage, key_added, block_substituted, block_moved, key_rotated, key_replaced, key_counted, key_updated, block_round, stage_after, rounds}
use Rattle.mask_present.proofs.Fitting.{IsShape-register, Fits, Fits-stage_after}
use Rattle.mask_present.proofs.Knowing.{Below, Known, Known-block_round, Known-stage_after}
use Rattle.mask_present.proofs.Lengthening.{Lengthens-block_round, Lengthens-key_updated, Lengthens-more, Lengthens-rounds}
use Rattle.mask_present.proofs.Showing.{Shows, Shows-rounds}
use Rattle.mask_present.proofs.Tidying.{Steady, Steadies-rounds}

-- STAGES

pub Fits-stage : (r : Register) (c : Netlist) (key block : List ℕ) → length key ≡ r.width → length block ≡ 64 → Fits r (stage c key block)
unfolding stage
Fits-stage r c key block long long' = record { key = long; block = long' }

pub Known-stage : (c : Netlist) (key block : List ℕ) → All (Below c) key → All (Below c) block → Known (stage c key block)
unfolding stage
Known-stage c key block one two = record { values = record { key = one; block = two } }

-- the nibbles of the register are replaced whatever the block is
nibbles-block : (ats : List ℕ) (c : Netlist) (key us : List ℕ)
    → fold key_replaced (stage c key us) ats ≡ stage (fold key_replaced (stage c key []) ats).draft (fold key_replaced (stage c key []) ats).key us
unfolding stage key_replaced
nibbles-block [] c key us = refl
nibbles-block (at ∷ ats) c key us = nibbles-block ats (key_replaced (stage c key []) at).draft (key_replaced (stage c key []) at).key us

-- so is the register updated
pub key_updated-block : (r : Register) (i : ℕ) (c : Netlist) (key us : List ℕ)
    → key_updated r i (stage c key us) ≡ stage (key_updated r i (stage c key [])).draft (key_updated r i (stage c key [])).key us
unfolding stage key_updated key_rotated key_counted
key_updated-block r i c key us =
    ap (key_counted r i) (nibbles-block r.nibbles c (key_rotated r (stage c key [])).key us)

-- THE LOOP

-- the draft c, the register and the block are what i rounds make of the stage before
pub record HasRun (r : Register) (before : Stage) (c : Netlist) (key block : List ℕ) (i : ℕ) : Type 0 where
  pub within : IsWithinLimits c
  pub is : stage c key block ≡ stage_after r i before

pub HasRun-none : (r : Register) (c : Netlist) (key block : List ℕ) → IsWithinLimits c → HasRun r (stage c key block) c key block 0
unfolding stage_after
HasRun-none r c key block within = record { within = within; is = refl }

-- what is made and what is left, at the start of a round, after its block and after its update
pub begun-round : (r : Register) (i : ℕ) (before : Stage) → Grows before.draft (stage_after r i before).draft
unfolding stage_after
begun-round r i before = let e : i + 0 ≡ i = omega arith in rw e at (Lengthens-more r 0 i before)

pub left-round : (r : Register) (i : ℕ) (before : Stage) → i ≤ 31 → Grows (stage_after r i before).draft (rounds r before).draft
left-round r i before few =
    let e : 31 - i + i ≡ 31 = omega arith in
    Grows-trans _ _ _ (rw e at (Lengthens-more r i (31 - i) before)) (Lengthens-rounds r before)

pub left-update : (r : Register) (i : ℕ) (before : Stage) → i < 31 → Grows (key_updated r (i + 1) (block_round r (stage_after r i before))).draft (rounds r before).draft
unfolding stage_after
left-update r i before few = rw (add-one i) (left-round r (suc i) before (omega arith))

pub left-block : (r : Register) (i : ℕ) (before : Stage) → i < 31 → Grows (block_round r (stage_after r i before)).draft (rounds r before).draft
left-block r i before few = Grows-trans _ _ _ (Lengthens-key_updated r (i + 1) (block_round r (stage_after r i before))) (left-update r i before few)

-- a stage is its parts
stage-parts : (s : Stage) → stage s.draft s.key s.block ≡ s
unfolding stage
stage-parts s = refl

key-block_round : (r : Register) (s : Stage) → (block_round r s).key ≡ s.key
unfolding block_round block_moved block_substituted key_added
key-block_round r s = refl

key-stage : (c : Netlist) (key block : List ℕ) → (stage c key block).key ≡ key
unfolding stage
key-stage c key block = refl

-- after its block round, a stage is this draft, this register and this block
pub after-block : (r : Register) (c d : Netlist) (key block now : List ℕ) (s : Stage) → stage c key block ≡ s
    → d ≡ (block_round r (stage c key block)).draft → now ≡ (block_round r (stage c key block)).block → stage d key now ≡ block_round r s
unfolding stage
after-block r c d key block now s is draft block_is =
    rw (draft, block_is) (ap (λ (ks : List ℕ). stage (block_round r (stage c key block)).draft ks (block_round r (stage c key block)).block) (sym (key-block_round r (stage c key block)))
    ∙ ap (block_round r) is)

pub HasRun-more : (r : Register) (before : Stage) (c d e : Netlist) (key block now later : List ℕ) (i : ℕ) → HasRun r before c key block i
    → d ≡ (block_round r (stage c key block)).draft → now ≡ (block_round r (stage c key block)).block
    → e ≡ (key_updated r (i + 1) (stage d key [])).draft → later ≡ (key_updated r (i + 1) (stage d key [])).key
    → IsWithinLimits (key_updated r (i + 1) (stage d key [])).draft → HasRun r before e later now (i + 1)
unfolding stage_after
HasRun-more r before c d e key block now later i has draft block_is draft_is key_is within =
    let round : stage d key now ≡ block_round r (stage_after r i before) = after-block r c d key block now (stage_after r i before) has.is draft block_is in
    record {
      within = rw draft_is within;
      is = rw (draft_is, key_is, add-one i)
          (sym (key_updated-block r (suc i) d key now) ∙ ap (key_updated r (suc i)) round);
    }

-- THE WHOLE

-- what values stand for in a longer draft
bits_of-Grows : (c d : Netlist) (x : List Bool) (us : List ℕ) → Grows c d → length x ≡ c.inputs → All (Below c) us → bits_of d x us ≡ bits_of c x us
bits_of-Grows c d x us grows long below =
    rw grows.grown (bits_of-with_outputs (with_gates c grows.gates) grows.outputs x us ∙ bits_of-with_gates c grows.gates x us long below)

pub inputs-Grows : (c d : Netlist) → Grows c d → d.inputs ≡ c.inputs
unfolding with_gates with_outputs
inputs-Grows c d grows = ap (λ (n : Netlist). n.inputs) grows.grown

module _ (size : KeySize) (b after : Netlist) (key block result : List ℕ) (long : length key ≡ (register size).width) (block_long : length block ≡ 64) (key_known : All (Below b) key) (block_known : All (Below b) block) (formed : Formed after) (made : after ≡ (rounds (register size) (stage b key block)).draft) (result_is : result ≡ (rounds (register size) (stage b key block)).block) where
  abbrev r : Register
  r = register size

  abbrev s : Stage
  s = stage b key block

  grows : Grows b after
  unfolding stage
  grows = rw made (Grows-trans _ _ _ (begun-round r 31 s) (Lengthens-rounds r s))

  pub number-rounds : (x : List Bool) → length x ≡ b.inputs → number (bits_of after x result) ≡ present size (number (bits_of b x key)) (number (bits_of b x block))
  unfolding present bits_of stage
  number-rounds x inputs =
      let vs = plain_values after x in
      let solved : Solved vs after = Solves-all after x (inputs ∙ sym (inputs-Grows b after grows)) formed in
      let shows : Shows r vs (number (bits_of b x key)) (number (bits_of b x block)) s = record {
        fits = Fits-stage r b key block long block_long;
        key = ap number (bits_of-Grows b after x key grows inputs key_known);
        block = ap number (bits_of-Grows b after x block grows inputs block_known);
      } in
      rw result_is (Shows-rounds r vs _ _ s (IsShape-register size) (subst (λ (d : Netlist). Solved vs d) made solved) shows)

  pub KeepsTidy-rounds : IsTidy b → All (IsFree b) key → All (IsFree b) block → KeepsTidy b after result
  unfolding stage
  KeepsTidy-rounds tidy key_free block_free =
      let steady : Steady s = record {
        tidy = tidy;
        ready = record {
          key = λ k z inside. record { below = key_known k z inside; free = λ t. key_free k z inside };
          block = λ k z inside. record { below = block_known k z inside; free = λ t. block_free k z inside };
        };
      } in
      let keeps = Steadies-rounds r s (IsShape-register size) (Fits-stage r b key block long block_long) (rw made at formed) steady in
      rw (made, result_is) (record {
        tidy = keeps.kept.tidy;
        results_free = λ k z inside. (keeps.ready.block k z inside).free tt;
        still_free = keeps.kept.still_free;
      })

-- THE VALUES IN THE LOOP

module _ (size : KeySize) (before : Stage) (c : Netlist) (key block : List ℕ) (i : ℕ) (fits : Fits (register size) before) (known : Known before) (has : HasRun (register size) before c key block i) where
  pub Fits-run : Fits (register size) (stage c key block)
  Fits-run = rw has.is (Fits-stage_after (register size) i before (IsShape-register size) fits)

  pub Known-run : Known (stage c key block)
  Known-run = rw has.is (Known-stage_after (register size) i before (IsShape-register size) fits known)

  pub key-run : All (Below c) key
  unfolding stage
  key-run = Known-run.values.key

  pub block-run : All (Below c) block
  unfolding stage
  block-run = Known-run.values.block

  -- the register is known behind a round on the block too
  pub key-block_run : All (Below (block_round (register size) (stage c key block)).draft) key
  key-block_run =
      let known_then = (Known-block_round (register size) (stage c key block) (IsShape-register size) Fits-run Known-run).values.key in
      rw (key-block_round (register size) (stage c key block) ∙ key-stage c key block) at known_then

  pub begun-run : Grows before.draft c
  unfolding stage
  begun-run = subst (λ (s : Stage). Grows before.draft s.draft) (sym has.is) (begun-round (register size) i before)

  pub left-block_run : i < 31 → Grows (block_round (register size) (stage c key block)).draft (rounds (register size) before).draft
  left-block_run few = rw has.is (left-block (register size) i before few)

  pub begun-block_run : Grows before.draft (block_round (register size) (stage c key block)).draft
  unfolding stage
  begun-block_run = Grows-trans before.draft c _ begun-run (Lengthens-block_round (register size) (stage c key block))

  pub left-update_run : i < 31 → (d : Netlist) (now : List ℕ) → d ≡ (block_round (register size) (stage c key block)).draft
      → now ≡ (block_round (register size) (stage c key block)).block
      → Grows (key_updated (register size) (i + 1) (stage d key [])).draft (rounds (register size) before).draft
  unfolding stage
  left-update_run few d now draft block_is =
      let round : stage d key now ≡ block_round (register size) (stage_after (register size) i before) =
      after-block (register size) c d key block now (stage_after (register size) i before) has.is draft block_is in
      subst (λ (s : Stage). Grows s.draft (rounds (register size) before).draft)
      (sym (sym (key_updated-block (register size) (i + 1) d key now) ∙ ap (key_updated (register size) (i + 1)) round))
      (left-update (register size) i before few)

  -- the last round key makes the whole
  pub whole-run : i ≡ 31 → key_added (register size) (stage c key block) ≡ rounds (register size) before
  unfolding rounds
  whole-run last = ap (key_added (register size)) (has.is ∙ ap (λ n. stage_after (register size) n before) last)
