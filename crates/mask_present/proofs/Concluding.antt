-- The draft before the fence: it is tidy where its gates are formed, and computes PRESENT in counter mode.
use Rattle.std.proofs.Common.{◌≡◌, ℕ, ◌+◌, ◌<◌, ◌≤◌, Bool, List, [], length, take, drop, All, refl, sym, ap, ◌∙◌, arith, lit≤, bit_xor}
use Rattle.std.specs.List.{range_with_len}
use Rattle.std.proofs.lemmas.List.FromFn.{length-range_with_len}
use Rattle.mask_bits.specs.Reading.{number}
use Rattle.mask_circuit.specs.Netlist.{Netlist, value_count, only_inputs}
use Rattle.mask_circuit.specs.Value.{plain_values}
use Rattle.mask_circuit.specs.Acceptance.{IsTidy}
use Rattle.mask_tasks.specs.declared.sizes.KeySize.{KeySize}
use Rattle.mask_tasks.specs.declared.sizes.KeySize.TheVariants.{K80, K128}
use Rattle.mask_parts.specs.Drafts.{with_gates, bits_of, Grows, IsWithinLimits}
use Rattle.mask_parts.specs.Rows.{xor_gates}
use Rattle.mask_parts.proofs.Concluding.{Grows-fence}
use Rattle.mask_parts.proofs.Counting.{IsWithinLimits-sized}
use Rattle.mask_parts.proofs.Growing.{Grows-trans, Grows-with_gates, value_count-with_gates, value_count-Grows}
use Rattle.mask_parts.proofs.Inputs.{bits-inputs, IsTidy-inputs, IsReady-alone, All-inputs, AreOf-inputs}
use Rattle.mask_parts.proofs.Passing.{Formed, Formed-Grows, IsReady}
use Rattle.mask_parts.proofs.Ranges.{All-range}
use Rattle.mask_parts.proofs.Solving.{Solves-all, Solved, Solved-with_gates, Solved-Grows}
use Rattle.mask_parts.proofs.WordShowing.{shown}
use Rattle.mask_parts.proofs.XorRows.{Counts-xors, AllTake-xors}
use Rattle.mask_present.specs.Present.{Register, encrypted}
use Rattle.mask_present.specs.NamedPresent.{start, encrypted_message, named_of, named_present, size_present}
use Rattle.mask_present.specs.Rounds.{Stage, stage, xored, rounds}
use Rattle.mask_present.proofs.Counting.{Adds-message, size-named_present}
use Rattle.mask_present.proofs.Encrypting.{begun-round}
use Rattle.mask_present.proofs.Knowing.{Known-rounds, Known-start}
use Rattle.mask_present.proofs.Fitting.{IsShape, Fits-rounds, Fits-start}
use Rattle.mask_present.proofs.Lengthening.{Lengthens-rounds}
use Rattle.mask_present.proofs.Showing.{Shows, Shows-rounds, shown-xor_gates}
use Rattle.mask_present.proofs.Tidying.{IsReady-later, Steady, Steadies-rounds, KeepsWith-layer}

-- THE START

Steady-start : (r : Register) → Steady (start r)
unfolding start
Steady-start r =
    let n : ℕ = r.width + 128 in
    record {
      tidy = IsTidy-inputs n;
      ready = record { key = All-inputs n Unit 0 r.width (omega arith); block = All-inputs n Unit r.width 64 (omega arith) };
    }

ready-start : (r : Register) (u : ℕ) → u < r.width + 128 → IsReady Unit (start r).draft u
unfolding start
ready-start r u low = IsReady-alone (r.width + 128) Unit u low

-- a stage of the inputs is the start
pub stage-start : (r : Register) (b : Netlist) (key counter : List ℕ) → b ≡ only_inputs (r.width + 128) → key ≡ range_with_len 0 r.width → counter ≡ range_with_len r.width 64
    → stage b key counter ≡ start r
unfolding stage start
stage-start r b key counter draft key_is counter_is = rw (draft, key_is, counter_is) refl

-- inputs in a row are values
pub known-inputs : (r : Register) (b : Netlist) (us : List ℕ) (a k : ℕ) → b ≡ only_inputs (r.width + 128) → us ≡ range_with_len a k → a + k ≤ r.width + 128
    → All (λ u. u < value_count b) us
known-inputs r b us a k draft is within = rw (draft, is) (AreOf-inputs (r.width + 128) a k within)

-- the values before the fence
module _ (r : Register) (shape : IsShape r) where
  abbrev end : Stage
  end = rounds r (start r)

  abbrev messages : List ℕ
  messages = range_with_len (r.width + 64) 64

  abbrev pub sums : List ℕ
  sums = range_with_len (value_count end.draft) 64

  pub Grows-end : Grows end.draft (encrypted_message r)
  unfolding encrypted_message xored
  Grows-end = Grows-with_gates end.draft (xor_gates end.block messages)

  pub Grows-named : Grows (encrypted_message r) (named_of r)
  unfolding named_of
  Grows-named = Grows-fence (encrypted_message r) sums

  end_block : length end.block ≡ 64
  end_block = (Fits-rounds r (start r) shape (Fits-start r)).block

  count-message : value_count (encrypted_message r) ≡ value_count end.draft + 64
  unfolding encrypted_message xored
  count-message =
      value_count-with_gates end.draft (xor_gates end.block messages)
      ∙ ap (λ n. value_count end.draft + n) ((Counts-xors end.block messages (end_block ∙ sym (length-range_with_len (r.width + 64) 64))).gates ∙ end_block)

  pub begun-end : Grows (start r).draft end.draft
  begun-end = Grows-trans _ _ _ (begun-round r 31 (start r)) (Lengthens-rounds r (start r))

  pub known-end : All (λ u. u < value_count end.draft) end.block
  known-end = (Known-rounds r (start r) shape (Fits-start r) (Known-start r shape)).values.block

  pub known-messages : All (λ u. u < value_count end.draft) messages
  known-messages =
      let more = value_count-Grows (start r).draft end.draft begun-end in
      let first : value_count (start r).draft ≡ r.width + 128 = unfold start in omega arith in
      All-range (λ u. u < value_count end.draft) (r.width + 64) 64 (λ u low high. omega arith)

  pub known-sums : All (λ u. u < value_count (encrypted_message r)) sums
  known-sums = All-range (λ u. u < value_count (encrypted_message r)) (value_count end.draft) 64 (λ u low high. let count = count-message in omega arith)

  pub no_outputs : (encrypted_message r).outputs ≡ []
  no_outputs = (Adds-message r shape).outputs ∙ (unfold start in refl)

  pub tidy-message : Formed (encrypted_message r) → IsTidy (encrypted_message r)
  unfolding encrypted_message xored
  tidy-message formed =
      let before : Formed end.draft = Formed-Grows end.draft (with_gates end.draft (xor_gates end.block messages)) Grows-end formed in
      let keeps = Steadies-rounds r (start r) shape (Fits-start r) before (Steady-start r) in
      let inputs : All (IsReady Unit end.draft) messages =
      All-range (IsReady Unit end.draft) (r.width + 64) 64 (λ u low high. IsReady-later (start r).draft end.draft [] keeps.more keeps.kept u (ready-start r u (omega arith))) in
      (KeepsWith-layer end.draft (xor_gates end.block messages) formed (AllTake-xors Unit end.draft tt end.block messages keeps.ready.block inputs) keeps.kept.tidy).tidy.tidy

  pub inputs-message : (encrypted_message r).inputs ≡ r.width + 128
  inputs-message = (Adds-message r shape).inputs ∙ (unfold start in refl)

  pub bits_of_sums : (x : List Bool) → length x ≡ r.width + 128 → Formed (encrypted_message r)
      → number (bits_of (encrypted_message r) x sums)
      ≡ bit_xor (encrypted r (number (take r.width x)) (number (take 64 (drop r.width x)))) (number (take 64 (drop (r.width + 64) x)))
  unfolding encrypted_message xored bits_of
  bits_of_sums x long formed =
      let m : Netlist = encrypted_message r in
      let vs : List Bool = plain_values m x in
      let solved : Solved vs m = Solves-all m x (long ∙ sym inputs-message) formed in
      let shows : Shows r vs (number (take r.width x)) (number (take 64 (drop r.width x))) (start r) = unfold start in record {
        fits = Fits-start r;
        key = ap number (bits-inputs m x 0 r.width (omega arith));
        block = ap number (bits-inputs m x r.width 64 (omega arith));
      } in
      let block : shown vs end.block ≡ encrypted r (number (take r.width x)) (number (take 64 (drop r.width x))) =
      Shows-rounds r vs _ _ (start r) shape (Solved-Grows vs end.draft m Grows-end solved) shows in
      let message : shown vs messages ≡ number (take 64 (drop (r.width + 64) x)) = ap number (bits-inputs m x (r.width + 64) 64 (omega arith)) in
      shown-xor_gates vs (value_count end.draft) 64 end.block messages end_block (length-range_with_len (r.width + 64) 64)
      (Solved-with_gates vs end.draft (xor_gates end.block messages) solved).1
      ∙ rw (block, message) refl

-- BOTH SIZES

-- it's within the limits of a circuit
pub IsWithinLimits-named : (size : KeySize) → IsWithinLimits (named_present size)
IsWithinLimits-named K80 = IsWithinLimits-sized (named_present K80) (size_present K80) (size-named_present K80) (lit≤ tt) (lit≤ tt)
IsWithinLimits-named K128 = IsWithinLimits-sized (named_present K128) (size_present K128) (size-named_present K128) (lit≤ tt) (lit≤ tt)
