-- The register and the block keep their lengths through the rounds.
use Rattle.std.proofs.Common.{◌≡◌, ℕ, zero, suc, ◌+◌, ◌-◌, ◌*◌, ◌≤◌, Bool, true, false, List, [], ◌∷◌, ◌++◌, length, take, drop, refl, ◌∙◌, arith, lit≤, length-append, length-drop, fold, slice_index}
use Rattle.std.proofs.lemmas.List.{length-take, length-take-le}
use Rattle.std.proofs.lemmas.List.FromFn.{length-range_with_len, length-map-range_with_len}
use Rattle.mask_bits.specs.Reading.{lowest}
use Rattle.mask_tasks.specs.declared.sizes.KeySize.{KeySize}
use Rattle.mask_tasks.specs.declared.sizes.KeySize.TheVariants.{K80, K128}
use Rattle.mask_circuit.specs.Netlist.{value_count}
use Rattle.mask_parts.specs.PresentSbox.{sbox_results}
use Rattle.mask_present.specs.Present.{Register, register}
use Rattle.mask_present.specs.NamedPresent.{start}
use Rattle.mask_present.specs.Rounds.{Stage, source, with_stretch, sboxes_results, moved, not_results, counter_values, key_added, block_substituted, block_moved, key_rotated, key_replaced, key_counted, key_updated, block_round, stage_after, rounds}

-- each of the nibbles from these places on does
abbrev pub AllWithin : ℕ → List ℕ → Type 0
AllWithin w [] = Unit {0}
AllWithin w (at ∷ ats) = (at + 4 ≤ w) × AllWithin w ats

-- the round key, the rotation, the nibbles and the counter lie within the register
pub record IsShape (r : Register) : Type 0 where
  pub wide : 64 ≤ r.width
  pub nibbles : AllWithin r.width r.nibbles
  pub counter : r.counter + 5 ≤ r.width

pub IsShape-register : (size : KeySize) → IsShape (register size)
IsShape-register K80 = record { wide = lit≤ tt; nibbles = (lit≤ tt, tt); counter = lit≤ tt }
IsShape-register K128 = record { wide = lit≤ tt; nibbles = (lit≤ tt, (lit≤ tt, tt)); counter = lit≤ tt }

-- a stage has as many values for the register and the block as these have bits
pub record Fits (r : Register) (s : Stage) : Type 0 where
  pub key : length s.key ≡ r.width
  pub block : length s.block ≡ 64

pub length-with_stretch : {A : Type 0} (at : ℕ) (us xs : List A) → at + length us ≤ length xs → length (with_stretch at us xs) ≡ length xs
unfolding with_stretch
length-with_stretch at us xs within =
    rw (
      length-append (take at xs) (us ++ drop (at + length us) xs),
      length-append us (drop (at + length us) xs),
      length-drop (at + length us) xs,
      length-take-le at xs (omega arith),
    ) (omega arith)

pub length-sbox_results : (n : ℕ) → length (sbox_results n) ≡ 4
unfolding sbox_results
length-sbox_results n = refl

pub length-sboxes_results : (m n : ℕ) → length (sboxes_results m n) ≡ 4 * m
unfolding sboxes_results
length-sboxes_results zero n = refl
length-sboxes_results (suc m) n =
    rw (length-append (sbox_results n) (sboxes_results m (n + 26)), length-sbox_results n, length-sboxes_results m (n + 26)) (omega arith)

pub length-not_results : (n : ℕ) (bs : List Bool) (us : List ℕ) → length (not_results n bs us) ≡ length us
unfolding not_results
length-not_results n [] us = refl
length-not_results n (b ∷ bs) [] = refl
length-not_results n (true ∷ bs) (u ∷ us) = rw (length-not_results (n + 1) bs us) refl
length-not_results n (false ∷ bs) (u ∷ us) = rw (length-not_results n bs us) refl

pub length-counter_values : (r : Register) (s : Stage) → IsShape r → Fits r s → length (counter_values r s) ≡ 5
length-counter_values r s shape fits =
    let long = fits.key in let room = shape.counter in
    length-take-le 5 (drop r.counter s.key) (rw (length-drop r.counter s.key) (omega arith))

pub Fits-key_added : (r : Register) (s : Stage) → Fits r s → Fits r (key_added r s)
unfolding key_added
Fits-key_added r s fits = record { key = fits.key; block = length-range_with_len (value_count s.draft) 64 }

pub Fits-block_substituted : (r : Register) (s : Stage) → Fits r s → Fits r (block_substituted s)
unfolding block_substituted
Fits-block_substituted r s fits = record { key = fits.key; block = length-sboxes_results 16 _ }

pub Fits-block_moved : (r : Register) (s : Stage) → Fits r s → Fits r (block_moved s)
unfolding block_moved moved
Fits-block_moved r s fits = record { key = fits.key; block = length-map-range_with_len (λ i. slice_index s.block (source i)) 0 64 }

pub Fits-key_rotated : (r : Register) (s : Stage) → IsShape r → Fits r s → Fits r (key_rotated r s)
unfolding key_rotated
Fits-key_rotated r s shape fits =
    let long = fits.key in
    record {
      key = rw (length-append (drop (r.width - 61) s.key) (take (r.width - 61) s.key), length-drop (r.width - 61) s.key, length-take (r.width - 61) s.key)
          (let wide = shape.wide in omega arith);
      block = fits.block;
    }

pub Fits-key_replaced : (r : Register) (s : Stage) (at : ℕ) → at + 4 ≤ r.width → Fits r s → Fits r (key_replaced s at)
unfolding key_replaced
Fits-key_replaced r s at within fits =
    let long = fits.key in
    record {
      key = length-with_stretch at (sbox_results _) s.key (rw (length-sbox_results) (omega arith)) ∙ long;
      block = fits.block;
    }

pub Fits-nibbles : (r : Register) (ats : List ℕ) (s : Stage) → AllWithin r.width ats → Fits r s → Fits r (fold key_replaced s ats)
Fits-nibbles r [] s within fits = fits
Fits-nibbles r (at ∷ ats) s within fits = Fits-nibbles r ats (key_replaced s at) within.1 (Fits-key_replaced r s at within.0 fits)

pub Fits-key_counted : (r : Register) (i : ℕ) (s : Stage) → IsShape r → Fits r s → Fits r (key_counted r i s)
unfolding key_counted
Fits-key_counted r i s shape fits =
    let long = fits.key in let room = shape.counter in
    let us = not_results (value_count s.draft) (lowest 5 i) (counter_values r s) in
    let count : length us ≡ 5 = length-not_results (value_count s.draft) (lowest 5 i) (counter_values r s) ∙ length-counter_values r s shape fits in
    record { key = length-with_stretch r.counter us s.key (rw count (omega arith)) ∙ long; block = fits.block }

pub Fits-key_updated : (r : Register) (i : ℕ) (s : Stage) → IsShape r → Fits r s → Fits r (key_updated r i s)
unfolding key_updated
Fits-key_updated r i s shape fits =
    Fits-key_counted r i _ shape (Fits-nibbles r r.nibbles _ shape.nibbles (Fits-key_rotated r s shape fits))

pub Fits-block_round : (r : Register) (s : Stage) → Fits r s → Fits r (block_round r s)
unfolding block_round
Fits-block_round r s fits = Fits-block_moved r _ (Fits-block_substituted r _ (Fits-key_added r s fits))

pub Fits-stage_after : (r : Register) (i : ℕ) (s : Stage) → IsShape r → Fits r s → Fits r (stage_after r i s)
unfolding stage_after
Fits-stage_after r zero s shape fits = fits
Fits-stage_after r (suc i) s shape fits =
    Fits-key_updated r (suc i) _ shape (Fits-block_round r _ (Fits-stage_after r i s shape fits))

pub Fits-rounds : (r : Register) (s : Stage) → IsShape r → Fits r s → Fits r (rounds r s)
unfolding rounds
Fits-rounds r s shape fits = Fits-key_added r _ (Fits-stage_after r 31 s shape fits)

pub Fits-start : (r : Register) → Fits r (start r)
unfolding start
Fits-start r = record { key = length-range_with_len 0 r.width; block = length-range_with_len r.width 64 }
