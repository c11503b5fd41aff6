-- The end is laid on a sound draft of its size, and computes the encryption of V xored with the last piece.
use Rattle.std.proofs.Common.{◌≡◌, ℕ, ◌+◌, ◌≤◌, Bool, List, length, take, drop, All, refl, sym, ap, ◌∙◌, subst, arith, bit_xor}
use Rattle.std.specs.List.{range_with_len}
use Rattle.std.proofs.lemmas.List.FromFn.{length-range_with_len}
use Rattle.mask_bits.specs.Reading.{lowest, number}
use Rattle.mask_circuit.specs.Netlist.{Netlist, only_inputs, value_count}
use Rattle.mask_circuit.specs.Value.{plain_values}
use Rattle.mask_parts.specs.CipherCircuits.{size_of}
use Rattle.mask_parts.specs.Drafts.{bits_of, Grows}
use Rattle.mask_parts.proofs.Concluding.{Grows-fence, IsDone, bits_of-lowest}
use Rattle.mask_parts.proofs.Counting.{Adds, Adds-trans, same_size, size-with_fence}
use Rattle.mask_parts.proofs.Growing.{Grows-trans}
use Rattle.mask_parts.proofs.Inputs.{bits-inputs, IsSound-inputs, All-inputs}
use Rattle.mask_parts.proofs.Passing.{Formed, IsReady, Passes, All-later, AreOf, AreOf-ready}
use Rattle.mask_parts.proofs.Solving.{Solves-all, Solved, Solved-with_gates, Solved-Grows}
use Rattle.mask_parts.proofs.WordShowing.{shown}
use Rattle.mask_parts.proofs.XorRows.{Passes-xors, All-xors}
use Rattle.mask_present.specs.Present.{Register, encrypted}
use Rattle.mask_present.specs.Rounds.{Stage, xored, rounds}
use Rattle.mask_present.proofs.Counting.{Adds-rounds, values_of_rounds, products_of_rounds}
use Rattle.mask_present.proofs.Encrypting.{begun-round}
use Rattle.mask_present.proofs.Fitting.{IsShape, Fits, Fits-rounds}
use Rattle.mask_present.proofs.Forming.{Sound, Formed-rounds}
use Rattle.mask_present.proofs.Knowing.{Known, Known-rounds}
use Rattle.mask_present.proofs.Lengthening.{Lengthens-rounds}
use Rattle.mask_present.proofs.Showing.{Shows-rounds, shown-xor_gates}
use Rattle.mask_present.proofs.Tidying.{Steady, Steadies-rounds}
use Rattle.mask_lightmac.specs.NamedLightMac.{end_start, end_of}

-- THE START

module _ (r : Register) where
  abbrev pub inputs : Netlist
  inputs = only_inputs (r.width + 128)

  pub count-inputs : value_count inputs ≡ r.width + 128
  count-inputs = omega arith

  -- the inputs V and the last piece
  abbrev pub values : List ℕ
  values = range_with_len r.width 64

  abbrev pub pieces : List ℕ
  pieces = range_with_len (r.width + 64) 64

  values_long : length values ≡ 64
  values_long = length-range_with_len r.width 64

  pieces_long : length pieces ≡ 64
  pieces_long = length-range_with_len (r.width + 64) 64

  ready : (a k : ℕ) → a + k ≤ r.width + 128 → All (IsReady Unit inputs) (range_with_len a k)
  ready a k within = All-inputs (r.width + 128) Unit a k within

  pub passes-start : Passes Unit inputs (end_start r).draft 64 0
  unfolding end_start xored
  passes-start =
      rw values_long at
      (Passes-xors Unit inputs values pieces (values_long ∙ sym pieces_long) (IsSound-inputs (r.width + 128) Unit) (ready r.width 64 (omega arith)) (ready (r.width + 64) 64 (omega arith)))

  Steady-end_start : Steady (end_start r)
  unfolding end_start xored
  Steady-end_start =
      let sums = All-xors Unit inputs values pieces (values_long ∙ sym pieces_long) (IsSound-inputs (r.width + 128) Unit) (ready r.width 64 (omega arith)) (ready (r.width + 64) 64 (omega arith)) in
      record {
        tidy = passes-start.sound.tidy tt;
        ready = record {
          key = All-later Unit inputs (end_start r).draft 64 0 (range_with_len 0 r.width) passes-start (ready 0 r.width (omega arith));
          block = subst (λ n. All (IsReady Unit (end_start r).draft) (range_with_len n 64)) count-inputs (rw values_long at sums);
        };
      }

  pub Fits-end_start : Fits r (end_start r)
  unfolding end_start
  Fits-end_start = record { key = length-range_with_len 0 r.width; block = length-range_with_len (r.width + 128) 64 }

  Known-end_start : Known (end_start r)
  Known-end_start =
      let holds = Steady-end_start.ready in
      record { values = record { key = AreOf-ready Unit _ _ holds.key; block = AreOf-ready Unit _ _ holds.block } }

  Sound-end_start : Sound (end_start r)
  Sound-end_start = record { formed = passes-start.sound.formed; known = Known-end_start }

-- THE ROUNDS

module _ (r : Register) (shape : IsShape r) where
  abbrev pub end : Stage
  end = rounds r (end_start r)

  fits-end : Fits r end
  fits-end = Fits-rounds r (end_start r) shape (Fits-end_start r)

  pub known-end : AreOf end.draft end.block
  known-end = (Known-rounds r (end_start r) shape (Fits-end_start r) (Known-end_start r)).values.block

  formed-end : Formed end.draft
  formed-end = Formed-rounds r (end_start r) shape (Fits-end_start r) (Sound-end_start r)

  pub begun-end : Grows (end_start r).draft end.draft
  begun-end = Grows-trans _ _ _ (begun-round r 31 (end_start r)) (Lengthens-rounds r (end_start r))

  pub Grows-end_of : Grows end.draft (end_of r)
  unfolding end_of
  Grows-end_of = Grows-fence end.draft end.block

  adds : Adds (inputs r) end.draft (64 + (values_of_rounds (length r.nibbles) 31 + 64)) (0 + products_of_rounds (length r.nibbles) 31)
  adds = Adds-trans (inputs r) (end_start r).draft end.draft _ _ _ _ (passes-start r).adds (Adds-rounds r (end_start r) shape (Fits-end_start r))

  pub inputs-end : end.draft.inputs ≡ r.width + 128
  inputs-end = adds.inputs

  -- behind a fence it's the circuit
  pub done : IsDone Unit end.draft end.block
  done =
      let keeps = Steadies-rounds r (end_start r) shape (Fits-end_start r) formed-end (Steady-end_start r) in
      record { sound = record { formed = formed-end; tidy = λ t. keeps.kept.tidy }; none = adds.outputs; known = known-end }

  pub size-end_of : size_of (end_of r) ≡ record {
    inputs = r.width + 128;
    outputs = 64;
    products = products_of_rounds (length r.nibbles) 31;
    refreshes = products_of_rounds (length r.nibbles) 31 + 64;
    values = r.width + (values_of_rounds (length r.nibbles) 31 + 320);
  }
  unfolding end_of
  size-end_of =
      let v = adds.values in let p = adds.products in let f = adds.refreshes in let block = fits-end.block in
      size-with_fence end.draft end.block adds.outputs ∙ same_size _ _ inputs-end fits-end.block (omega arith) (omega arith) (omega arith)

  -- WHAT IT COMPUTES

  module _ (x : List Bool) (long : length x ≡ r.width + 128) where
    -- its values, and the numbers of its inputs
    abbrev vs : List Bool
    vs = plain_values end.draft x

    abbrev k2 : ℕ
    k2 = number (take r.width x)

    abbrev v : ℕ
    v = number (take 64 (drop r.width x))

    abbrev piece : ℕ
    piece = number (take 64 (drop (r.width + 64) x))

    shown-end : shown vs end.block ≡ encrypted r k2 (bit_xor v piece)
    unfolding end_start xored
    shown-end =
        let solved : Solved vs end.draft = Solves-all end.draft x (long ∙ sym inputs-end) formed-end in
        let first : Solved vs (end_start r).draft = Solved-Grows vs (end_start r).draft end.draft begun-end solved in
        let sums : shown vs (end_start r).block ≡ bit_xor v piece =
        ap (λ n. shown vs (range_with_len n 64)) (omega arith)
        ∙ shown-xor_gates vs (value_count (inputs r)) 64 (values r) (pieces r) (values_long r) (pieces_long r) (Solved-with_gates vs (inputs r) _ first).1
        ∙ rw (ap number (bits-inputs end.draft x r.width 64 (omega arith)), ap number (bits-inputs end.draft x (r.width + 64) 64 (omega arith))) refl in
        Shows-rounds r vs _ _ (end_start r) shape solved (record {
          fits = Fits-end_start r;
          key = ap number (bits-inputs end.draft x 0 r.width (omega arith));
          block = sums;
        })

    -- the number of the values that are handed out
    number-end : number (bits_of end.draft x end.block) ≡ encrypted r k2 (bit_xor v piece)
    unfolding bits_of
    number-end = shown-end

    pub bits-end : bits_of end.draft x end.block ≡ lowest 64 (encrypted r k2 (bit_xor v piece))
    bits-end = bits_of-lowest end.draft x end.block 64 _ fits-end.block number-end

    -- 64 bits make the number whole
    pub number-end_of : number (lowest 64 (encrypted r k2 (bit_xor v piece))) ≡ encrypted r k2 (bit_xor v piece)
    number-end_of = ap number (sym bits-end) ∙ number-end
