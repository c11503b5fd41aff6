-- How many values, products and refreshes the circuits have.
use Rattle.std.proofs.Common.{◌≡◌, ℕ, zero, suc, ◌+◌, ◌-◌, ◌*◌, Bool, true, false, cond, List, [], ◌∷◌, ◌++◌, length, take, drop, refl, sym, ap, ◌∙◌, arith, length-append, length-drop, fold}
use Rattle.std.proofs.lemmas.List.Sums.{sum_by-append}
use Rattle.std.proofs.lemmas.List.FromFn.{length-range_with_len}
use Rattle.std.specs.List.{range_with_len}
use Rattle.mask_bits.specs.Reading.{lowest}
use Rattle.mask_bits.proofs.Numbers.{length-lowest}
use Rattle.mask_circuit.specs.declared.gates.Gate.{Gate}
use Rattle.mask_circuit.specs.Netlist.{Netlist, value_count, product_count, refresh_count, is_product, is_refresh}
use Rattle.mask_tasks.specs.declared.sizes.KeySize.{KeySize}
use Rattle.mask_tasks.specs.declared.sizes.KeySize.TheVariants.{K80, K128}
use Rattle.mask_parts.specs.CipherCircuits.{size_of}
use Rattle.mask_parts.specs.PresentSbox.{sbox_gates, with_sbox}
use Rattle.mask_parts.proofs.Counting.{Counts, Adds, Adds-refl, Adds-trans, Adds-with_gates, same_size, size-with_fence}
use Rattle.mask_parts.proofs.Substituting.{length-sbox_gates, products-sbox_gates, refreshes-sbox_gates}
use Rattle.mask_parts.proofs.XorRows.{Counts-xors}
use Rattle.mask_present.specs.Present.{Register, register}
use Rattle.mask_present.specs.NamedPresent.{start, encrypted_message, named_of, named_present, size_present}
use Rattle.mask_present.specs.Rounds.{Stage, xored, sboxes, not_gates, counter_values, key_added, block_substituted, block_moved, key_rotated, key_replaced, key_counted, key_updated, block_round, stage_after, rounds}
use Rattle.mask_present.proofs.Fitting.{IsShape, IsShape-register, Fits, length-counter_values, Fits-block_round, Fits-key_rotated, Fits-nibbles, Fits-stage_after, Fits-rounds, Fits-start}

Counts-append : (gs hs : List Gate) (v p w q : ℕ) → Counts gs v p → Counts hs w q → Counts (gs ++ hs) (v + w) (p + q)
Counts-append gs hs v p w q one two = record {
  gates = rw (length-append gs hs, one.gates, two.gates) refl;
  products = rw (sum_by-append (λ (g : Gate). cond (is_product g) 1 0) gs hs, one.products, two.products) refl;
  refreshes = rw (sum_by-append (λ (g : Gate). cond (is_refresh g) 1 0) gs hs, one.refreshes, two.refreshes) refl;
}

Counts-none : Counts [] 0 0
Counts-none = record { gates = refl; products = refl; refreshes = refl }

Counts-sbox : (n : ℕ) (us : List ℕ) → Counts (sbox_gates n us) 26 5
Counts-sbox n us = record { gates = length-sbox_gates n us; products = products-sbox_gates n us; refreshes = refreshes-sbox_gates n us }

Counts-sboxes : (m n : ℕ) (us : List ℕ) → Counts (sboxes m n us) (26 * m) (5 * m)
unfolding sboxes
Counts-sboxes zero n us = Counts-none
Counts-sboxes (suc m) n us =
    let both = Counts-append (sbox_gates n (take 4 us)) (sboxes m (n + 26) (drop 4 us)) _ _ _ _ (Counts-sbox n (take 4 us)) (Counts-sboxes m (n + 26) (drop 4 us)) in
    record { gates = both.gates ∙ omega arith; products = both.products ∙ omega arith; refreshes = both.refreshes ∙ omega arith }

-- how many flags are set
pub ones : List Bool → ℕ
ones [] = 0
ones (true ∷ bs) = suc (ones bs)
ones (false ∷ bs) = ones bs

pub Counts-not_gates : (bs : List Bool) (us : List ℕ) → length bs ≡ length us → Counts (not_gates bs us) (ones bs) 0
unfolding not_gates ones
Counts-not_gates [] us same = Counts-none
Counts-not_gates (b ∷ bs) [] same = absurd (omega arith)
Counts-not_gates (true ∷ bs) (u ∷ us) same =
    let rest = Counts-not_gates bs us (omega arith) in
    record { gates = ap suc rest.gates; products = rest.products; refreshes = rest.refreshes }
Counts-not_gates (false ∷ bs) (u ∷ us) same = Counts-not_gates bs us (omega arith)

pub Adds-key_added : (r : Register) (s : Stage) → IsShape r → Fits r s → Adds s.draft (key_added r s).draft 64 0
unfolding key_added xored
Adds-key_added r s shape fits =
    let long = fits.key in let block = fits.block in let wide = shape.wide in
    let same : length s.block ≡ length (drop (r.width - 64) s.key) = rw (length-drop (r.width - 64) s.key) (omega arith) in
    Adds-with_gates s.draft _ 64 0 (rw block at (Counts-xors s.block (drop (r.width - 64) s.key) same))

pub Adds-block_substituted : (s : Stage) → Adds s.draft (block_substituted s).draft 416 80
unfolding block_substituted
Adds-block_substituted s = Adds-with_gates s.draft _ 416 80 (Counts-sboxes 16 (value_count s.draft) s.block)

pub Adds-key_replaced : (s : Stage) (at : ℕ) → Adds s.draft (key_replaced s at).draft 26 5
unfolding key_replaced with_sbox
Adds-key_replaced s at = Adds-with_gates s.draft _ 26 5 (Counts-sbox (value_count s.draft) (take 4 (drop at s.key)))

-- the same numbers in another form
Adds-as : (d e : Netlist) (v p w q : ℕ) → v ≡ w → p ≡ q → Adds d e v p → Adds d e w q
Adds-as d e v p w q same same' adds = rw (sym same, sym same') adds

-- one S-box for each of these places
Adds-nibbles : (ats : List ℕ) (s : Stage) → Adds s.draft (fold key_replaced s ats).draft (26 * length ats) (5 * length ats)
Adds-nibbles [] s = Adds-refl s.draft
Adds-nibbles (at ∷ ats) s =
    Adds-as _ _ _ _ _ _ (omega arith) (omega arith)
    (Adds-trans s.draft (key_replaced s at).draft (fold key_replaced (key_replaced s at) ats).draft _ _ _ _ (Adds-key_replaced s at) (Adds-nibbles ats (key_replaced s at)))

Adds-key_counted : (r : Register) (i : ℕ) (s : Stage) → IsShape r → Fits r s → Adds s.draft (key_counted r i s).draft (ones (lowest 5 i)) 0
unfolding key_counted
Adds-key_counted r i s shape fits =
    Adds-with_gates s.draft _ _ 0 (Counts-not_gates (lowest 5 i) (counter_values r s) (length-lowest 5 i ∙ sym (length-counter_values r s shape fits)))

-- what the update of the register in round i adds, where n nibbles pass the S-box
Adds-key_updated : (r : Register) (i : ℕ) (s : Stage) → IsShape r → Fits r s
    → Adds s.draft (key_updated r i s).draft (26 * length r.nibbles + ones (lowest 5 i)) (5 * length r.nibbles)
unfolding key_updated key_rotated
Adds-key_updated r i s shape fits =
    let turned = key_rotated r s in
    let replaced : Fits r (fold key_replaced turned r.nibbles) = Fits-nibbles r r.nibbles turned shape.nibbles (Fits-key_rotated r s shape fits) in
    Adds-as _ _ _ _ _ _ refl (omega arith)
    (Adds-trans s.draft (fold key_replaced turned r.nibbles).draft _ _ _ _ _ (Adds-nibbles r.nibbles turned) (Adds-key_counted r i _ shape replaced))

Adds-block_round : (r : Register) (s : Stage) → IsShape r → Fits r s → Adds s.draft (block_round r s).draft 480 80
unfolding block_round block_moved
Adds-block_round r s shape fits =
    Adds-trans s.draft (key_added r s).draft _ _ _ _ _ (Adds-key_added r s shape fits) (Adds-block_substituted (key_added r s))

-- what i rounds add, where n nibbles of the register pass the S-box
pub values_of_rounds : ℕ → ℕ → ℕ
values_of_rounds n zero = 0
values_of_rounds n (suc i) = values_of_rounds n i + (480 + (26 * n + ones (lowest 5 (suc i))))

pub products_of_rounds : ℕ → ℕ → ℕ
products_of_rounds n zero = 0
products_of_rounds n (suc i) = products_of_rounds n i + (80 + 5 * n)

Adds-stage_after : (r : Register) (i : ℕ) (s : Stage) → IsShape r → Fits r s
    → Adds s.draft (stage_after r i s).draft (values_of_rounds (length r.nibbles) i) (products_of_rounds (length r.nibbles) i)
unfolding stage_after values_of_rounds products_of_rounds
Adds-stage_after r zero s shape fits = Adds-refl s.draft
Adds-stage_after r (suc i) s shape fits =
    let before = stage_after r i s in
    let fits_before : Fits r before = Fits-stage_after r i s shape fits in
    let round = Adds-trans before.draft (block_round r before).draft _ _ _ _ _ (Adds-block_round r before shape fits_before)
    (Adds-key_updated r (suc i) (block_round r before) shape (Fits-block_round r before fits_before)) in
    Adds-trans s.draft before.draft _ _ _ _ _ (Adds-stage_after r i s shape fits) round

pub Adds-rounds : (r : Register) (s : Stage) → IsShape r → Fits r s
    → Adds s.draft (rounds r s).draft (values_of_rounds (length r.nibbles) 31 + 64) (products_of_rounds (length r.nibbles) 31)
unfolding rounds
Adds-rounds r s shape fits =
    let before = stage_after r 31 s in
    Adds-as _ _ _ _ _ _ refl (omega arith)
    (Adds-trans s.draft before.draft _ _ _ _ _ (Adds-stage_after r 31 s shape fits) (Adds-key_added r before shape (Fits-stage_after r 31 s shape fits)))

-- 31 rounds of both sizes
pub values_80 : values_of_rounds 1 31 ≡ 15766
unfolding values_of_rounds ones
values_80 = refl

pub values_128 : values_of_rounds 2 31 ≡ 16572
unfolding values_of_rounds ones
values_128 = refl

pub products_80 : products_of_rounds 1 31 ≡ 2635
unfolding products_of_rounds
products_80 = refl

pub products_128 : products_of_rounds 2 31 ≡ 2790
unfolding products_of_rounds
products_128 = refl

-- the draft before the fence
pub Adds-message : (r : Register) → IsShape r → Adds (start r).draft (encrypted_message r) (values_of_rounds (length r.nibbles) 31 + 64 + 64)
    (products_of_rounds (length r.nibbles) 31)
unfolding encrypted_message xored
Adds-message r shape =
    let end = rounds r (start r) in
    let block = (Fits-rounds r (start r) shape (Fits-start r)).block in
    let same : length end.block ≡ length (range_with_len (r.width + 64) 64) = block ∙ sym (length-range_with_len (r.width + 64) 64) in
    Adds-as _ _ _ _ _ _ refl (omega arith)
    (Adds-trans (start r).draft end.draft (encrypted_message r) _ _ _ _ (Adds-rounds r (start r) shape (Fits-start r))
    (Adds-with_gates end.draft _ 64 0 (rw block at (Counts-xors end.block (range_with_len (r.width + 64) 64) same))))

-- the whole circuit
size-named_of : (r : Register) → IsShape r
    → size_of (named_of r) ≡ record {
      inputs = r.width + 128;
      outputs = 64;
      products = products_of_rounds (length r.nibbles) 31;
      refreshes = products_of_rounds (length r.nibbles) 31 + 64;
      values = r.width + (values_of_rounds (length r.nibbles) 31 + 320);
    }
unfolding named_of
size-named_of r shape =
    let first : value_count (start r).draft ≡ r.width + 128 = unfold start in omega arith in
    let inputs : (start r).draft.inputs ≡ r.width + 128 = unfold start in refl in
    let outputs : (start r).draft.outputs ≡ [] = unfold start in refl in
    let products : product_count (start r).draft ≡ 0 = unfold start in refl in
    let refreshes : refresh_count (start r).draft ≡ 0 = unfold start in refl in
    let adds = Adds-message r shape in
    let v = adds.values in let p = adds.products in let f = adds.refreshes in
    let sums : List ℕ = range_with_len (value_count (rounds r (start r)).draft) 64 in
    let long : length sums ≡ 64 = length-range_with_len (value_count (rounds r (start r)).draft) 64 in
    size-with_fence (encrypted_message r) sums (adds.outputs ∙ outputs)
    ∙ same_size _ _ (adds.inputs ∙ inputs) long (omega arith) (omega arith) (omega arith)

pub size-named_present : (size : KeySize) → size_of (named_present size) ≡ size_present size
unfolding named_present
size-named_present K80 = size-named_of (register K80) (IsShape-register K80) ∙ rw (values_80, products_80) refl
size-named_present K128 = size-named_of (register K128) (IsShape-register K128) ∙ rw (values_128, products_128) refl
