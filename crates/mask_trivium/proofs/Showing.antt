-- What the values of a stage stand for: where bits solve all gates, the clocks on values compute the clocks on bits.
use Rattle.std.proofs.Common.{◌≡◌, ℕ, zero, suc, ◌+◌, Bool, false, true, List, [], ◌∷◌, ◌++◌, length, map, refl, sym, ap, ap₂, ◌∙◌}
use Rattle.std.proofs.lemmas.Bool.{and_parts}
use Rattle.std.proofs.lemmas.List.{append_assoc, append-nil, map-append}
use Rattle.std.proofs.lemmas.List.FromFn.{get_or-map-range_with_len}
use Rattle.mask_circuit.specs.Netlist.{value_count}
use Rattle.mask_circuit.specs.Value.{value_at}
use Rattle.mask_parts.specs.Tables.{part_usable, part_bits, is_part, with_part}
use Rattle.mask_parts.proofs.PartGates.{usable-within, part_bits-solved}
use Rattle.mask_parts.proofs.PartTidiness.{are_usable}
use Rattle.mask_parts.proofs.Solving.{Solved, Solved-with_gates, Solved-Grows}
use Rattle.mask_trivium.specs.Clocks.{Clock, Stage, stream, with_clock, with_clocks}
use Rattle.mask_trivium.specs.Trivium.{clocked, clocks, outputs, output, next_first, next_second, next_third}
use Rattle.mask_trivium.proofs.Clocking.{IsClock, IsClock-stream}
use Rattle.mask_trivium.proofs.Running.{Grows-clocks, length-state}
use Rattle.mask_trivium.proofs.Shifting.{map-shifted, shifted-same}

-- the bits that values stand for
abbrev pub shown : List Bool → List ℕ → List Bool
shown vs us = map (value_at vs) us

-- A CLOCK

module _ (k : Clock) (v : ℕ) (out : List Bool → List Bool) (is : IsClock k v out) (vs : List Bool) (t : Stage) (long : length t.state ≡ 288) (solved : Solved vs (with_clock k t).draft) where
  -- a value that the table lets be taken is the bit that the table computes
  made : (i : ℕ) → value_at (part_usable k.steps) i ≡ true → value_at vs (value_count t.draft + i) ≡ value_at (part_bits (shown vs t.state) k.steps) i
  unfolding with_clock with_part
  made i usable =
      let part : is_part (length t.state) k.steps ≡ true = rw long is.part in
      let bits = part_bits-solved vs (value_count t.draft) t.state k.steps part (Solved-with_gates vs t.draft _ solved).1 in
      sym (
      ap (λ (bs : List Bool). value_at bs i) bits
      ∙ get_or-map-range_with_len (value_at vs) (value_count t.draft) (length (part_usable k.steps)) i _ false (usable-within (part_usable k.steps) i usable) refl
      )

  -- so are several
  all_made : (is : List ℕ) → are_usable (part_usable k.steps) is ≡ true
      → shown vs (map (λ i. value_count t.draft + i) is) ≡ map (value_at (part_bits (shown vs t.state) k.steps)) is
  all_made [] usable = refl
  all_made (i ∷ is) usable =
      ap₂ ◌∷◌ (made i (and_parts _ _ usable).0) (all_made is (and_parts _ _ usable).1)

  pub shown-clock : shown vs (with_clock k t).state ≡ clocked (shown vs t.state)
  unfolding with_clock clocked
  shown-clock =
      let n = value_count t.draft in
      let bits : List Bool = shown vs t.state in
      map-shifted (value_at vs) (n + k.first) (n + k.second) (n + k.third) t.state
      ∙ shifted-same _ _ _ (next_first bits) (next_second bits) (next_third bits) bits
      (made k.first is.first_free ∙ is.first_made bits)
      (made k.second is.second_free ∙ is.second_made bits)
      (made k.third is.third_free ∙ is.third_made bits)

  pub shown-output : shown vs (with_clock k t).outputs ≡ shown vs t.outputs ++ out (shown vs t.state)
  unfolding with_clock
  shown-output =
      map-append (value_at vs) t.outputs _ ∙ ap (λ (bs : List Bool). shown vs t.outputs ++ bs) (all_made k.output is.output_free ∙ is.output_made (shown vs t.state))

-- CLOCKS IN A ROW

pub shown-clocks : (k : Clock) (v : ℕ) (out : List Bool → List Bool) → IsClock k v out → (vs : List Bool) (n : ℕ) (t : Stage) → length t.state ≡ 288 → Solved vs (with_clocks k n t).draft
    → shown vs (with_clocks k n t).state ≡ clocks n (shown vs t.state)
unfolding with_clocks clocks
shown-clocks k v out is vs zero t long solved = refl
shown-clocks k v out is vs (suc n) t long solved =
    let once : Solved vs (with_clock k t).draft = Solved-Grows vs _ _ (Grows-clocks k n (with_clock k t)) solved in
    shown-clocks k v out is vs n (with_clock k t) (length-state k t long) solved ∙ ap (clocks n) (shown-clock k v out is vs t long once)

pub shown-outputs : (vs : List Bool) (n : ℕ) (t : Stage) → length t.state ≡ 288 → Solved vs (with_clocks stream n t).draft
    → shown vs (with_clocks stream n t).outputs ≡ shown vs t.outputs ++ outputs n (shown vs t.state)
unfolding with_clocks outputs
shown-outputs vs zero t long solved = sym (append-nil (shown vs t.outputs))
shown-outputs vs (suc n) t long solved =
    let once : Solved vs (with_clock stream t).draft = Solved-Grows vs _ _ (Grows-clocks stream n (with_clock stream t)) solved in
    let bits : List Bool = shown vs t.state in
    shown-outputs vs n (with_clock stream t) (length-state stream t long) solved
    ∙ ap₂ (λ (bs : List Bool) (more : List Bool). bs ++ outputs n more) (shown-output stream 17 _ IsClock-stream vs t long once) (shown-clock stream 17 _ IsClock-stream vs t long once)
    ∙ append_assoc (shown vs t.outputs) (output bits ∷ []) (outputs n (clocked bits))
