-- A block passed through the S-boxes, one after another: what is made and what is left.
use Rattle.std.proofs.Common.{◌≡◌, ℕ, zero, suc, ◌+◌, ◌-◌, ◌*◌, ◌<◌, ◌≤◌, List, ◌++◌, length, take, drop, refl, sym, ap, ◌∙◌, subst, arith}
use Rattle.std.proofs.lemmas.List.{length-append, length-take-le, append_assoc, drop-drop, take_all, take_at, append-nil}
use Rattle.mask_circuit.specs.declared.gates.Gate.{Gate}
use Rattle.mask_circuit.specs.Netlist.{Netlist, value_count}
use Rattle.mask_parts.specs.Drafts.{with_gates, Grows, IsWithinLimits}
use Rattle.mask_parts.specs.PresentSbox.{sbox_gates, sbox_results, with_sbox}
use Rattle.mask_parts.proofs.Growing.{with_gates-nil, with_gates-with_gates, Grows-refl, Grows-trans, Grows-with_gates}
use Rattle.mask_present.proofs.Fitting.{length-with_stretch, length-sbox_results}
use Rattle.mask_present.proofs.Tidying.{count-with_sbox}
use Rattle.mask_present.specs.Rounds.{sboxes, sboxes_results, with_stretch}

-- g of the S-boxes are made: the draft is c, and `results` begins with their results
pub record HasSubstituted (before c : Netlist) (us results : List ℕ) (g : ℕ) : Type 0 where
  pub begun : Grows before c
  pub count : value_count c ≡ value_count before + 26 * g
  pub left : with_gates c (sboxes (16 - g) (value_count c) (drop (4 * g) us)) ≡ with_gates before (sboxes 16 (value_count before) us)
  pub long : length results ≡ 64
  pub within : IsWithinLimits c
  pub made : take (4 * g) results ≡ sboxes_results g (value_count before)

pub HasSubstituted-none : (before : Netlist) (us results : List ℕ) → length results ≡ 64 → IsWithinLimits before → HasSubstituted before before us results 0
unfolding sboxes_results
HasSubstituted-none before us results long within =
    record { within = within; begun = Grows-refl before; count = omega arith; left = refl; long = long; made = refl }

sboxes_results-more : (m n : ℕ) → sboxes_results (m + 1) n ≡ sboxes_results m n ++ sbox_results (n + 26 * m)
unfolding sboxes_results
sboxes_results-more zero n = let e : n + 26 * 0 ≡ n = omega arith in rw e (append-nil (sbox_results n))
sboxes_results-more (suc m) n =
    let e : suc m + 1 ≡ suc (m + 1) = omega arith in
    let f : n + 26 + 26 * m ≡ n + 26 * suc m = omega arith in
    rw (e, sboxes_results-more m (n + 26), f) (sym (append_assoc (sbox_results n) (sboxes_results m (n + 26)) (sbox_results (n + 26 * suc m))))

take-with_stretch : (at : ℕ) (us xs : List ℕ) → at ≤ length xs → take (at + length us) (with_stretch at us xs) ≡ take at xs ++ us
unfolding with_stretch
take-with_stretch at us xs within =
    let long : length (take at xs ++ us) ≡ at + length us = length-append (take at xs) us ∙ rw (length-take-le at xs within) refl in
    rw (← append_assoc) (take_at (take at xs ++ us) (drop (at + length us) xs) (at + length us) long)

module _ (before c : Netlist) (us results : List ℕ) (g : ℕ) (long_us : length us ≡ 64) (below : g < 16) (has : HasSubstituted before c us results g) where
  abbrev nibble_of : List ℕ
  nibble_of = take 4 (drop (4 * g) us)

  abbrev rest : List Gate
  rest = sboxes (16 - (g + 1)) (value_count c + 26) (drop (4 * (g + 1)) us)

  -- the next S-box is part of the whole
  left-sbox : with_gates (with_sbox c nibble_of) rest ≡ with_gates before (sboxes 16 (value_count before) us)
  unfolding sboxes with_sbox
  left-sbox =
      let more : 16 - g ≡ suc (16 - (g + 1)) = omega arith in
      let next : drop 4 (drop (4 * g) us) ≡ drop (4 * (g + 1)) us = drop-drop 4 (4 * g) us ∙ ap (λ n. drop n us) (omega arith) in
      with_gates-with_gates c (sbox_gates (value_count c) nibble_of) rest
      ∙ ap (λ (zs : List ℕ). with_gates c (sbox_gates (value_count c) nibble_of ++ sboxes (16 - (g + 1)) (value_count c + 26) zs)) (sym next)
      ∙ ap (λ m. with_gates c (sboxes m (value_count c) (drop (4 * g) us))) (sym more) ∙ has.left

  pub rest-sbox : Grows (with_sbox c nibble_of) (with_gates before (sboxes 16 (value_count before) us))
  rest-sbox = subst (Grows (with_sbox c nibble_of)) left-sbox (Grows-with_gates (with_sbox c nibble_of) rest)

  pub HasSubstituted-more : (d : Netlist) → d ≡ with_sbox c nibble_of → IsWithinLimits (with_sbox c nibble_of) → HasSubstituted before d us (with_stretch (4 * g) (sbox_results (value_count c)) results) (g + 1)
  HasSubstituted-more d made within =
      let long = has.long in
      let count : value_count (with_sbox c nibble_of) ≡ value_count c + 26 = count-with_sbox c nibble_of in
      let four : length (sbox_results (value_count c)) ≡ 4 = length-sbox_results (value_count c) in
      let places : 4 * (g + 1) ≡ 4 * g + length (sbox_results (value_count c)) = omega arith in
      rw made (record {
        begun = Grows-trans before c (with_sbox c nibble_of) has.begun (unfold with_sbox in Grows-with_gates c _);
        count = count ∙ (let counted = has.count in omega arith);
        left = rw count left-sbox;
        within = within;
        long = length-with_stretch (4 * g) (sbox_results (value_count c)) results (omega arith) ∙ has.long;
        made = rw (places, take-with_stretch (4 * g) (sbox_results (value_count c)) results (omega arith), has.made, has.count)
            (sym (sboxes_results-more g (value_count before)));
      })

pub HasSubstituted-all : (before c : Netlist) (us results : List ℕ) (g : ℕ) → g ≡ 16 → HasSubstituted before c us results g
    → (results ≡ sboxes_results 16 (value_count before)) × (c ≡ with_gates before (sboxes 16 (value_count before) us))
    × IsWithinLimits (with_gates before (sboxes 16 (value_count before) us))
HasSubstituted-all before c us results g end has =
    let no_more : 16 - g ≡ 0 = omega arith in
    let none : with_gates c (sboxes (16 - g) (value_count c) (drop (4 * g) us)) ≡ c = rw no_more (unfold sboxes in with_gates-nil c) in
    let whole : c ≡ with_gates before (sboxes 16 (value_count before) us) = sym none ∙ has.left in
    (sym (take_all (4 * g) results (let long = has.long in omega arith)) ∙ has.made ∙ ap (λ m. sboxes_results m (value_count before)) end, whole, subst IsWithinLimits whole has.within)
