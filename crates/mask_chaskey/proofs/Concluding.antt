-- The named circuits are strong, of their size, and compute a step and the ends of the code.
use Rattle.std.proofs.Common.{◌≡◌, ℕ, ◌+◌, ◌^◌, ◌<◌, ◌≤◌, Bool, List, length, map, take, drop, All, sym, ap, ap₂, ◌∙◌, arith, lit≤, bit_xor}
use Rattle.std.specs.List.{concat}
use Rattle.std.proofs.Math.Nat.{mod-eq_of_lt}
use Rattle.std.proofs.lemmas.List.{length-map, length-drop, take_all}
use Rattle.mask_bits.specs.Reading.{number, lowest}
use Rattle.mask_bits.proofs.Numbers.{number-lowest, number-lt}
use Rattle.mask_circuit.specs.Netlist.{Netlist, only_inputs}
use Rattle.mask_circuit.specs.Value.{value_at, plain_values}
use Rattle.mask_parts.specs.CipherCircuits.{Size, size_of, IsCipherCircuit}
use Rattle.mask_parts.specs.Drafts.{bits_of, Grows, IsWithinLimits}
use Rattle.mask_parts.specs.Words32.{joined}
use Rattle.mask_parts.proofs.Concluding.{Grows-fence, IsDone, IsCipherCircuit-done, bits_of-lowest}
use Rattle.mask_parts.proofs.Counting.{same_size, size-with_fence, IsWithinLimits-sized}
use Rattle.mask_parts.proofs.Growing.{Grows-trans}
use Rattle.mask_parts.proofs.Passing.{Passes, Passes-trans, AreOf, AreOf-ready}
use Rattle.mask_parts.proofs.Solving.{Solves-all, Solved, Solved-Grows}
use Rattle.mask_parts.proofs.Turns.{Runs-trans}
use Rattle.mask_parts.proofs.WordPassing.{IsWord, words-later}
use Rattle.mask_parts.proofs.WordShowing.{shown}
use Rattle.mask_chaskey.specs.declared.doubling.End.{End}
use Rattle.mask_chaskey.specs.declared.doubling.End.TheVariants.{Whole, Short}
use Rattle.mask_chaskey.specs.Chaskey.{permutation, last_mask, absorbed, finished}
use Rattle.mask_chaskey.specs.NamedChaskey.{block_from, with_last_mask, fenced, step_stage, end_stage, named_step, named_end, size_step, size_end, step_of_bits, end_of_bits}
use Rattle.mask_chaskey.specs.Rounds.{Stage, stage, with_block_xored, with_permutation}
use Rattle.mask_chaskey.proofs.BlockNumbers.{length-concat, All-concat, shown-concat}
use Rattle.mask_chaskey.proofs.Lengthening.{Lengthens, Lengthens-trans, Lengthens-block_xored, Lengthens-permutation}
use Rattle.mask_chaskey.proofs.Running.{IsFine, Runs, Runs-block_xored, Runs-permutation, mask_values, Runs-last_mask}
use Rattle.mask_chaskey.proofs.Showing.{block_shown, shown-block_xored, shown-permutation, shown-last_mask}
use Rattle.mask_chaskey.proofs.Starting.{length-block_from, words-block_from, IsFine-inputs, shown-block_from}

-- FENCED STAGES

-- the stage came out of n inputs by v gates, of which p are products and p refreshes
pub record CameOut (n : ℕ) (s : Stage) (v p : ℕ) : Type 1 where
  pub passes : (T : Type 0) → Passes T (only_inputs n) s.draft v p
  pub fine : (T : Type 0) → IsFine T s

pub Grows-fenced : (s : Stage) → Grows s.draft (fenced s)
unfolding fenced
Grows-fenced s = Grows-fence s.draft (concat s.block)

module _ (n : ℕ) (s : Stage) (v p : ℕ) (out : CameOut n s v p) where
  abbrev us : List ℕ
  us = concat s.block

  us-long : length us ≡ 128
  us-long = length-concat ⊥ s.draft s.block (out.fine ⊥).words ∙ (let four = (out.fine ⊥).long in omega arith)

  pub known-us : AreOf s.draft us
  known-us = AreOf-ready ⊥ s.draft us (All-concat ⊥ s.draft s.block (out.fine ⊥).words)

  ins : s.draft.inputs ≡ n
  ins = (out.passes ⊥).adds.inputs

  done : IsDone Unit s.draft us
  done = record { sound = (out.fine Unit).sound; none = (out.passes ⊥).adds.outputs; known = known-us }

  pub size-fenced : size_of (fenced s) ≡ record { inputs = n; outputs = 128; products = p; refreshes = p + 128; values = n + v + 128 }
  unfolding fenced
  size-fenced =
      let adds = (out.passes ⊥).adds in
      let values = adds.values in let products = adds.products in let refreshes = adds.refreshes in let long = us-long in
      size-with_fence s.draft us done.none ∙ same_size _ _ ins us-long (omega arith) (omega arith) (omega arith)

  -- its plain values solve the stage's gates, and its outputs are the bits of the block's number
  pub solved-plain : (x : List Bool) → length x ≡ n → Solved (plain_values s.draft x) s.draft
  solved-plain x long = Solves-all s.draft x (long ∙ sym ins) (out.fine ⊥).sound.formed

  bits-fenced : (x : List Bool) → bits_of s.draft x us ≡ lowest 128 (block_shown (plain_values s.draft x) s)
  bits-fenced x = bits_of-lowest s.draft x us 128 _ us-long (unfold bits_of in shown-concat ⊥ (plain_values s.draft x) s.draft s.block (out.fine ⊥).words)

  -- so it meets the contract of a cipher's circuit, where its size is known
  pub IsCipherCircuit-fenced : (size : Size) (f : List Bool → List Bool) → size_of (fenced s) ≡ size → IsWithinLimits (fenced s)
      → ((x : List Bool) → length x ≡ n → lowest 128 (block_shown (plain_values s.draft x) s) ≡ f x) → IsCipherCircuit (fenced s) size f (fenced s)
  unfolding fenced
  IsCipherCircuit-fenced size f sized limits computes =
      IsCipherCircuit-done s.draft us done size f sized limits (λ x long. bits-fenced x ∙ computes x (long ∙ ins))

  -- which is the number of 128 bits
  number-fenced : (vs : List Bool) → number (lowest 128 (block_shown vs s)) ≡ block_shown vs s
  number-fenced vs =
      let read : block_shown vs s ≡ shown vs us = sym (shown-concat ⊥ vs s.draft s.block (out.fine ⊥).words) in
      let long : length (map (value_at vs) us) ≡ 128 = length-map us (value_at vs) ∙ us-long in
      let small : block_shown vs s < 2 ^ 128 = rw read (rw long at (number-lt (map (value_at vs) us))) in
      number-lowest 128 (block_shown vs s) ∙ mod-eq_of_lt small

-- bits up to the end
rest_of : (x : List Bool) (a : ℕ) → length x ≡ a + 128 → take 128 (drop a x) ≡ drop a x
rest_of x a long = take_all 128 (drop a x) (rw (length-drop a x) (omega arith))

-- A STEP

abbrev pub step_start : Stage
step_start = stage (only_inputs 256) (block_from 0)

abbrev pub step_xored : Stage
step_xored = with_block_xored (block_from 128) step_start

module _ (T : Type 0) where
  pub step_start-fine : IsFine T step_start
  step_start-fine = IsFine-inputs T 256 0 (lit≤ tt)

  pub step_block : All (IsWord T step_start.draft) (block_from 128)
  unfolding stage
  step_block = words-block_from T 256 128 (lit≤ tt)

  pub Runs-step_xored : Runs T step_start step_xored 128 0
  Runs-step_xored = Runs-block_xored T (block_from 128) step_start (length-block_from 128) step_block step_start-fine

  Runs-step : Runs T step_start step_stage (128 + 10_416) (0 + 1488)
  unfolding step_stage
  Runs-step = Runs-trans step_start step_xored (with_permutation step_xored) 128 0 10_416 1488 Runs-step_xored (Runs-permutation T step_xored Runs-step_xored.fine)

pub CameOut-step : CameOut 256 step_stage (128 + 10_416) (0 + 1488)
CameOut-step = record { passes = λ T. (unfold stage in (Runs-step T).passes); fine = λ T. (Runs-step T).fine }

step_permuted : (vs : List Bool) → Solved vs step_stage.draft → block_shown vs step_stage ≡ permutation (block_shown vs step_xored)
unfolding step_stage
step_permuted vs solved = shown-permutation ⊥ vs step_xored (Runs-step_xored ⊥).fine solved

step_computes : (x : List Bool) → length x ≡ 256 → block_shown (plain_values step_stage.draft x) step_stage ≡ absorbed (number (take 128 x)) (number (drop 128 x))
unfolding absorbed
step_computes x long =
    let vs : List Bool = plain_values step_stage.draft x in
    let solved : Solved vs step_stage.draft = solved-plain 256 step_stage _ _ CameOut-step x long in
    let solved_xored : Solved vs step_xored.draft = Solved-Grows vs step_xored.draft step_stage.draft (unfold step_stage in Lengthens-permutation step_xored) solved in
    let state : block_shown vs step_start ≡ number (take 128 x) = unfold stage in shown-block_from step_stage.draft x 0 (omega arith) in
    let block : joined (map (shown vs) (block_from 128)) ≡ number (drop 128 x) = shown-block_from step_stage.draft x 128 (omega arith) ∙ ap number (rest_of x 128 long) in
    let xored = shown-block_xored ⊥ vs (block_from 128) step_start (length-block_from 128) (step_block ⊥) (step_start-fine ⊥) solved_xored in
    step_permuted vs solved ∙ ap permutation (xored ∙ ap₂ bit_xor state block)

-- the number of the outputs
pub number-step_of_bits : (x : List Bool) → length x ≡ 256 → number (step_of_bits x) ≡ absorbed (number (take 128 x)) (number (drop 128 x))
unfolding step_of_bits
number-step_of_bits x long = rw (sym (step_computes x long)) (number-fenced 256 step_stage _ _ CameOut-step (plain_values step_stage.draft x))

pub size-named_step : size_of named_step ≡ size_step
unfolding named_step
size-named_step = size-fenced 256 step_stage _ _ CameOut-step

pub IsWithinLimits-named_step : IsWithinLimits named_step
IsWithinLimits-named_step = IsWithinLimits-sized named_step size_step size-named_step (lit≤ tt) (lit≤ tt)

-- so the circuit of a step meets the contract of a cipher's circuit
pub IsCipherCircuit-named_step : IsCipherCircuit named_step size_step step_of_bits named_step
unfolding named_step step_of_bits
IsCipherCircuit-named_step =
    IsCipherCircuit-fenced 256 step_stage _ _ CameOut-step size_step step_of_bits size-named_step IsWithinLimits-named_step
    (λ x long. ap (lowest 128) (step_computes x long))

-- AN END

-- the stages in an end
abbrev pub end_key : Stage
end_key = stage (only_inputs 384) (block_from 128)

abbrev pub end_mask : End → Stage
end_mask end = with_last_mask end end_key

abbrev pub end_start : End → Stage
end_start end = stage (end_mask end).draft (block_from 0)

abbrev pub end_xored : End → Stage
end_xored end = with_block_xored (block_from 256) (end_start end)

abbrev pub end_masked : End → Stage
end_masked end = with_block_xored (end_mask end).block (end_xored end)

abbrev pub end_permuted : End → Stage
end_permuted end = with_permutation (end_masked end)

module _ (T : Type 0) (end : End) where
  pub Runs-mask : Runs T end_key (end_mask end) (mask_values end) 0
  Runs-mask = Runs-last_mask T end end_key (IsFine-inputs T 384 128 (lit≤ tt))

  -- the inputs behind the mask's gates
  pub inputs_later : (a : ℕ) → a + 128 ≤ 384 → All (IsWord T (end_mask end).draft) (block_from a)
  inputs_later a within = words-later T end_key.draft (end_mask end).draft (mask_values end) 0 (block_from a) Runs-mask.passes (unfold stage in words-block_from T 384 a within)

  pub end_start-fine : IsFine T (end_start end)
  unfolding stage
  end_start-fine = record { sound = Runs-mask.fine.sound; long = length-block_from 0; words = inputs_later 0 (lit≤ tt) }

  pub end_block : All (IsWord T (end_start end).draft) (block_from 256)
  unfolding stage
  end_block = inputs_later 256 (lit≤ tt)

  pub Runs-end_xored : Runs T (end_start end) (end_xored end) 128 0
  Runs-end_xored = Runs-block_xored T (block_from 256) (end_start end) (length-block_from 256) end_block end_start-fine

  -- the mask is of words at each stage
  pub mask-long : length (end_mask end).block ≡ 4
  mask-long = Runs-mask.fine.long

  pub mask_later : (s : Stage) (v p : ℕ) → Runs T (end_start end) s v p → All (IsWord T s.draft) (end_mask end).block
  unfolding stage
  mask_later s v p runs = words-later T (end_mask end).draft s.draft v p (end_mask end).block runs.passes Runs-mask.fine.words

  pub Runs-end_masked : Runs T (end_start end) (end_masked end) 256 0
  Runs-end_masked =
      Runs-trans (end_start end) (end_xored end) (end_masked end) 128 0 128 0 Runs-end_xored
      (Runs-block_xored T (end_mask end).block (end_xored end) mask-long (mask_later (end_xored end) 128 0 Runs-end_xored) Runs-end_xored.fine)

  pub Runs-end_permuted : Runs T (end_start end) (end_permuted end) 10_672 1488
  Runs-end_permuted =
      Runs-trans (end_start end) (end_masked end) (end_permuted end) 256 0 10_416 1488 Runs-end_masked (Runs-permutation T (end_masked end) Runs-end_masked.fine)

  Runs-end : Runs T (end_start end) (end_stage end) 10_800 1488
  unfolding end_stage
  Runs-end =
      Runs-trans (end_start end) (end_permuted end) _ 10_672 1488 128 0 Runs-end_permuted
      (Runs-block_xored T (end_mask end).block (end_permuted end) mask-long (mask_later (end_permuted end) 10_672 1488 Runs-end_permuted) Runs-end_permuted.fine)

  end_passes : Passes T (only_inputs 384) (end_stage end).draft (mask_values end + 10_800) (0 + 1488)
  unfolding stage
  end_passes = Passes-trans T (only_inputs 384) (end_mask end).draft (end_stage end).draft (mask_values end) 0 10_800 1488 Runs-mask.passes Runs-end.passes

pub CameOut-end : (end : End) → CameOut 384 (end_stage end) (mask_values end + 10_800) (0 + 1488)
CameOut-end end = record { passes = λ T. end_passes T end; fine = λ T. (Runs-end T end).fine }

-- what is left behind each stage
pub left-permuted : (end : End) → Lengthens (end_permuted end) (end_stage end)
unfolding end_stage
left-permuted end = Lengthens-block_xored (end_mask end).block (end_permuted end)

pub left-masked : (end : End) → Lengthens (end_masked end) (end_stage end)
left-masked end = Lengthens-trans (end_masked end) (end_permuted end) (end_stage end) (Lengthens-permutation (end_masked end)) (left-permuted end)

pub left-xored : (end : End) → Lengthens (end_xored end) (end_stage end)
left-xored end = Lengthens-trans (end_xored end) (end_masked end) (end_stage end) (Lengthens-block_xored (end_mask end).block (end_xored end)) (left-masked end)

pub left-mask : (end : End) → Lengthens (end_mask end) (end_stage end)
left-mask end =
    Grows-trans (end_mask end).draft (end_xored end).draft (end_stage end).draft (unfold stage in Lengthens-block_xored (block_from 256) (end_start end)) (left-xored end)

end_xored_last : (end : End) (vs : List Bool) → Solved vs (end_stage end).draft
    → block_shown vs (end_stage end) ≡ bit_xor (block_shown vs (end_permuted end)) (block_shown vs (end_mask end))
unfolding end_stage
end_xored_last end vs solved =
    let mask = mask_later ⊥ end (end_permuted end) 10_672 1488 (Runs-end_permuted ⊥ end) in
    shown-block_xored ⊥ vs (end_mask end).block (end_permuted end) (mask-long ⊥ end) mask (Runs-end_permuted ⊥ end).fine solved

end_computes : (end : End) (x : List Bool) → length x ≡ 384
    → block_shown (plain_values (end_stage end).draft x) (end_stage end) ≡ finished end (number (take 128 (drop 128 x))) (number (take 128 x)) (number (drop 256 x))
unfolding finished
end_computes end x long =
    let whole : Netlist = (end_stage end).draft in
    let vs : List Bool = plain_values whole x in
    let solved : Solved vs whole = solved-plain 384 (end_stage end) _ _ (CameOut-end end) x long in
    let key : block_shown vs end_key ≡ number (take 128 (drop 128 x)) = unfold stage in shown-block_from whole x 128 (omega arith) in
    let state : block_shown vs (end_start end) ≡ number (take 128 x) = unfold stage in shown-block_from whole x 0 (omega arith) in
    let block : joined (map (shown vs) (block_from 256)) ≡ number (drop 256 x) = shown-block_from whole x 256 (omega arith) ∙ ap number (rest_of x 256 long) in
    let mask : block_shown vs (end_mask end) ≡ last_mask end (number (take 128 (drop 128 x))) =
    shown-last_mask ⊥ vs end end_key (IsFine-inputs ⊥ 384 128 (lit≤ tt)) (Solved-Grows vs _ whole (left-mask end) solved) ∙ ap (last_mask end) key in
    let xored = shown-block_xored ⊥ vs (block_from 256) (end_start end) (length-block_from 256) (end_block ⊥ end) (end_start-fine ⊥ end) (Solved-Grows vs _ whole (left-xored end) solved)
    ∙ ap₂ bit_xor state block in
    let masked = shown-block_xored ⊥ vs (end_mask end).block (end_xored end) (mask-long ⊥ end) (mask_later ⊥ end (end_xored end) 128 0 (Runs-end_xored ⊥ end)) (Runs-end_xored ⊥ end).fine
    (Solved-Grows vs _ whole (left-masked end) solved) ∙ ap₂ bit_xor xored mask in
    let permuted = shown-permutation ⊥ vs (end_masked end) (Runs-end_masked ⊥ end).fine (Solved-Grows vs _ whole (left-permuted end) solved) ∙ ap permutation masked in
    end_xored_last end vs solved ∙ ap₂ bit_xor permuted mask

-- the number of the outputs
pub number-end_of_bits : (end : End) (x : List Bool) → length x ≡ 384
    → number (end_of_bits end x) ≡ finished end (number (take 128 (drop 128 x))) (number (take 128 x)) (number (drop 256 x))
unfolding end_of_bits
number-end_of_bits end x long =
    rw (sym (end_computes end x long)) (number-fenced 384 (end_stage end) _ _ (CameOut-end end) (plain_values (end_stage end).draft x))

pub size-named_end : (end : End) → size_of (named_end end) ≡ size_end end
unfolding named_end
size-named_end Whole = size-fenced 384 (end_stage Whole) _ _ (CameOut-end Whole)
size-named_end Short = size-fenced 384 (end_stage Short) _ _ (CameOut-end Short)

pub IsWithinLimits-named_end : (end : End) → IsWithinLimits (named_end end)
IsWithinLimits-named_end Whole = IsWithinLimits-sized (named_end Whole) (size_end Whole) (size-named_end Whole) (lit≤ tt) (lit≤ tt)
IsWithinLimits-named_end Short = IsWithinLimits-sized (named_end Short) (size_end Short) (size-named_end Short) (lit≤ tt) (lit≤ tt)

-- so do the circuits of the ends
pub IsCipherCircuit-named_end : (end : End) → IsCipherCircuit (named_end end) (size_end end) (end_of_bits end) (named_end end)
unfolding named_end end_of_bits
IsCipherCircuit-named_end end =
    IsCipherCircuit-fenced 384 (end_stage end) _ _ (CameOut-end end) (size_end end) (end_of_bits end) (size-named_end end) (IsWithinLimits-named_end end)
    (λ x long. ap (lowest 128) (end_computes end x long))
