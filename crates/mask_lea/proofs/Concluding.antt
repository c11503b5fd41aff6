-- The named circuits are strong, of their size, and compute LEA in counter mode.
use Rattle.std.proofs.Common.{◌≡◌, ℕ, ◌+◌, ◌*◌, ◌<◌, Bool, List, [], ◌∷◌, length, map, take, drop, All, refl, sym, ap, ◌∙◌, arith, add-one, lit≤, bit_xor}
use Rattle.std.specs.List.{range_with_len}
use Rattle.std.proofs.lemmas.List.{length-take-le, length-drop}
use Rattle.std.proofs.lemmas.List.FromFn.{length-range_with_len}
use Rattle.mask_bits.specs.Reading.{number, lowest}
use Rattle.mask_circuit.specs.declared.gates.Gate.TheVariants.{Zero, One}
use Rattle.mask_circuit.specs.Netlist.{Netlist, only_inputs, value_count, product_count, refresh_count}
use Rattle.mask_circuit.specs.Value.{plain_values}
use Rattle.mask_tasks.specs.declared.sizes.LeaSize.{LeaSize}
use Rattle.mask_tasks.specs.declared.sizes.LeaSize.TheVariants.{K128, K192, K256}
use Rattle.mask_parts.specs.CipherCircuits.{Size, size_of, IsCipherCircuit}
use Rattle.mask_parts.specs.Drafts.{with_gates, bits_of, Grows, IsWithinLimits}
use Rattle.mask_parts.specs.Words32.{words_of, joined}
use Rattle.mask_parts.proofs.Concluding.{Grows-fence, IsDone, bits_of-lowest, IsCipherCircuit-done}
use Rattle.mask_parts.proofs.Counting.{same_size, IsWithinLimits-sized, size-with_fence}
use Rattle.mask_parts.proofs.Growing.{Grows-trans, Grows-with_gates}
use Rattle.mask_parts.proofs.Inputs.{IsReady-input}
use Rattle.mask_parts.proofs.Joining.{joined-bits}
use Rattle.mask_parts.proofs.Passing.{IsReady, Passes, Passes-trans, Passes-as, AreOf}
use Rattle.mask_parts.proofs.Ranges.{All-range}
use Rattle.mask_parts.proofs.Solving.{Solves-all, Solved, Solved-Grows}
use Rattle.mask_parts.proofs.WordPassing.{IsWord}
use Rattle.mask_parts.proofs.WordShowing.{shown}
use Rattle.mask_lea.specs.Lea.{Schedule, schedule, lea_words, lea}
use Rattle.mask_lea.specs.NamedLea.{width, words_from, start, with_blocks_xored, encrypted_message, named_of, named_lea, size_lea, lea_of_bits}
use Rattle.mask_lea.specs.Rounds.{Stage, with_rounds}
use Rattle.mask_lea.proofs.Blocks.{Grows-blocks_xored, Passes-blocks_xored, shown-blocks_xored}
use Rattle.mask_lea.proofs.Lengthening.{Lengthens-whole}
use Rattle.mask_lea.proofs.Running.{IsShape, IsShape-schedule, Runs, round_values, round_products, Runs-rounds}
use Rattle.mask_lea.proofs.Showing.{Shows, shown-rounds}
use Rattle.mask_lea.proofs.Starting.{All-words_from, length-words_from, IsFine-start, words-inputs}

-- THE CIRCUITS

module _ (r : Schedule) (shape : IsShape r) where
  abbrev end : Stage
  end = with_rounds r (start r)

  abbrev messages : List (List ℕ)
  messages = words_from (width r + 128) 4

  abbrev sums : List ℕ
  sums = range_with_len (value_count end.draft) 128

  pub runs : (T : Type 0) → Runs T r 4 (start r) end (r.rounds * round_values r) (r.rounds * round_products r)
  runs T = Runs-rounds T r shape (start r) (IsFine-start T r)

  -- each input may be taken at the end of the rounds too
  ready_input : (T : Type 0) (u : ℕ) → u < width r + 256 → IsReady T end.draft u
  ready_input T u low = (runs T).passes.kept u (unfold start in IsReady-input (width r + 256) T u low)

  pub All-messages : (T : Type 0) → All (IsWord T end.draft) messages
  All-messages T = All-words_from T end.draft (width r + 128) 4 (λ u low high. ready_input T u (omega arith))

  same_long : length end.block ≡ length messages
  same_long = (runs ⊥).fine.block_long ∙ sym (length-words_from (width r + 128) 4)

  passes-message : (T : Type 0) → Passes T end.draft (encrypted_message r) 128 0
  unfolding encrypted_message
  passes-message T =
      let fine = (runs T).fine in
      Passes-as T end.draft _ _ _ _ _ (ap (λ (n : ℕ). n * 32) fine.block_long) refl
      (Passes-blocks_xored T end.draft end.block messages same_long fine.sound fine.block (All-messages T))

  whole : (T : Type 0) → Passes T (start r).draft (encrypted_message r) (r.rounds * round_values r + 128) (r.rounds * round_products r + 0)
  whole T = Passes-trans T (start r).draft end.draft (encrypted_message r) _ _ 128 0 (runs T).passes (passes-message T)

  pub inputs-message : (encrypted_message r).inputs ≡ width r + 256
  inputs-message = (whole ⊥).adds.inputs ∙ (unfold start with_gates in refl)

  pub no_outputs : (encrypted_message r).outputs ≡ []
  no_outputs = (whole ⊥).adds.outputs ∙ (unfold start with_gates in refl)

  pub known-sums : AreOf (encrypted_message r) sums
  known-sums = All-range (λ u. u < value_count (encrypted_message r)) (value_count end.draft) 128 (λ u low high. let count = (passes-message ⊥).adds.values in omega arith)

  done : (T : Type 0) → IsDone T (encrypted_message r) sums
  done T = record { sound = (whole T).sound; none = no_outputs; known = known-sums }

  -- what was made and what is left, at the end of the rounds
  pub begun-end : (b : Netlist) → b ≡ only_inputs (width r + 256) → Grows b end.draft
  unfolding start
  begun-end b is = Grows-trans b (start r).draft end.draft (rw is (Grows-with_gates (only_inputs (width r + 256)) (Zero ∷ (One ∷ [])))) (Lengthens-whole r (start r))

  pub left : Grows end.draft (encrypted_message r)
  unfolding encrypted_message
  left = Grows-blocks_xored end.draft end.block messages

  pub Grows-named : Grows (encrypted_message r) (named_of r)
  unfolding named_of
  Grows-named = Grows-fence (encrypted_message r) sums

  size-named_of : size_of (named_of r)
      ≡ record {
        inputs = width r + 256;
        outputs = 128;
        products = r.rounds * round_products r;
        refreshes = r.rounds * round_products r + 128;
        values = width r + 256 + 2 + r.rounds * round_values r + 256;
      }
  unfolding named_of
  size-named_of =
      let long = length-range_with_len (value_count end.draft) 128 in
      let first : value_count (start r).draft ≡ width r + 256 + 2 = unfold start with_gates in refl in
      let products : product_count (start r).draft ≡ 0 = unfold start with_gates in refl in
      let refreshes : refresh_count (start r).draft ≡ 0 = unfold start with_gates in refl in
      let adds = (whole ⊥).adds in
      let v = adds.values in let p = adds.products in let f = adds.refreshes in
      size-with_fence (encrypted_message r) sums no_outputs
      ∙ same_size _ _ inputs-message long (omega arith) (omega arith) (omega arith)

  -- WHAT THEY COMPUTE

  solved-blocks : (vs : List Bool) → Solved vs (encrypted_message r) → Solved vs (with_blocks_xored end.draft end.block messages)
  unfolding encrypted_message
  solved-blocks vs solved = solved

  -- at the start, values that solve all gates stand for the input bits
  Shows-start : (x : List Bool) → length x ≡ width r + 256 → Solved (plain_values (encrypted_message r) x) (start r).draft
      → Shows (plain_values (encrypted_message r) x) (start r)
      (record { key = words_of r.words (number (take (width r) x)); block = words_of 4 (number (take 128 (drop (width r) x))) })
  unfolding start with_gates
  Shows-start x long solved = record {
    nought = solved.0;
    one = rw (add-one (width r + 256)) solved.1.0;
    key = words-inputs (encrypted_message r) x 0 r.words (omega arith);
    block = words-inputs (encrypted_message r) x (width r) 4 (omega arith);
  }

  number-sums : (x : List Bool) → length x ≡ width r + 256
      → number (bits_of (encrypted_message r) x sums)
      ≡ bit_xor (joined (lea_words r (words_of r.words (number (take (width r) x))) (words_of 4 (number (take 128 (drop (width r) x))))))
      (number (take 128 (drop (width r + 128) x)))
  unfolding bits_of
  number-sums x long =
      let m : Netlist = encrypted_message r in
      let vs : List Bool = plain_values m x in
      let solved : Solved vs m = Solves-all m x (long ∙ sym inputs-message) (whole ⊥).sound.formed in
      let solved_end : Solved vs end.draft = Solved-Grows vs end.draft m left solved in
      let fine = (runs ⊥).fine in
      let blocks = shown-rounds ⊥ r vs shape (start r) _ _ (IsFine-start ⊥ r) solved_end
      (Shows-start x long (Solved-Grows vs (start r).draft end.draft (Lengthens-whole r (start r)) solved_end)) in
      let bits : List Bool = take 128 (drop (width r + 128) x) in
      let bits_long : length bits ≡ 128 = length-take-le 128 (drop (width r + 128) x) (rw (length-drop (width r + 128) x) (omega arith)) in
      let message : joined (map (shown vs) messages) ≡ number bits = ap joined (words-inputs m x (width r + 128) 4 (omega arith)) ∙ joined-bits 4 bits bits_long in
      ap (λ (k : ℕ). shown vs (range_with_len (value_count end.draft) (k * 32))) (sym fine.block_long)
      ∙ shown-blocks_xored ⊥ vs end.draft end.block messages same_long fine.sound fine.block (All-messages ⊥) (solved-blocks vs solved)
      ∙ rw (blocks, message) refl

  bits-sums : (x : List Bool) → length x ≡ (encrypted_message r).inputs
      → bits_of (encrypted_message r) x sums
      ≡ lowest 128 (bit_xor (joined (lea_words r (words_of r.words (number (take (width r) x))) (words_of 4 (number (take 128 (drop (width r) x))))))
      (number (take 128 (drop (width r + 128) x))))
  bits-sums x long = bits_of-lowest (encrypted_message r) x sums 128 _ (length-range_with_len (value_count end.draft) 128) (number-sums x (long ∙ inputs-message))

  -- so they meet the contract of a cipher's circuit, where their size is known
  pub IsCipherCircuit-named_of : (size : Size) (f : List Bool → List Bool) → size_of (named_of r) ≡ size → IsWithinLimits (named_of r)
      → ((x : List Bool) → lowest 128 (bit_xor (joined (lea_words r (words_of r.words (number (take (width r) x))) (words_of 4 (number (take 128 (drop (width r) x))))))
      (number (take 128 (drop (width r + 128) x)))) ≡ f x) → IsCipherCircuit (named_of r) size f (named_of r)
  unfolding named_of
  IsCipherCircuit-named_of size f sized limits computes =
      IsCipherCircuit-done (encrypted_message r) sums (done Unit) size f sized limits (λ x long. bits-sums x long ∙ computes x)

-- ALL SIZES

pub size-named_lea : (size : LeaSize) → size_of (named_lea size) ≡ size_lea size
unfolding named_lea
size-named_lea K128 = size-named_of (schedule K128) (IsShape-schedule K128)
size-named_lea K192 = size-named_of (schedule K192) (IsShape-schedule K192)
size-named_lea K256 = size-named_of (schedule K256) (IsShape-schedule K256)

-- they're within the limits of a circuit
pub IsWithinLimits-named : (size : LeaSize) → IsWithinLimits (named_lea size)
IsWithinLimits-named K128 = IsWithinLimits-sized (named_lea K128) (size_lea K128) (size-named_lea K128) (lit≤ tt) (lit≤ tt)
IsWithinLimits-named K192 = IsWithinLimits-sized (named_lea K192) (size_lea K192) (size-named_lea K192) (lit≤ tt) (lit≤ tt)
IsWithinLimits-named K256 = IsWithinLimits-sized (named_lea K256) (size_lea K256) (size-named_lea K256) (lit≤ tt) (lit≤ tt)

-- so the named circuits meet the contract of a cipher's circuit
pub IsCipherCircuit-named_lea : (size : LeaSize) → IsCipherCircuit (named_lea size) (size_lea size) (lea_of_bits size) (named_lea size)
unfolding named_lea lea_of_bits lea
IsCipherCircuit-named_lea size =
    IsCipherCircuit-named_of (schedule size) (IsShape-schedule size) (size_lea size) (lea_of_bits size) (size-named_lea size) (IsWithinLimits-named size) (λ x. refl)
