-- The rounds keep a draft tidy, and leave free values.
use Rattle.std.proofs.Common.{◌≡◌, ℕ, zero, suc, ◌+◌, ◌-◌, ◌*◌, ◌<◌, ◌≤◌, Bool, true, false, List, [], ◌∷◌, ◌++◌, length, take, drop, All, refl, sym, ap, ◌∙◌, subst, arith, fold}
use Rattle.std.proofs.lemmas.List.{length-take-le, length-drop}
use Rattle.std.proofs.lemmas.List.Elements.{All-nil, All-cons, All-head, All-tail, All-append, All-take, All-drop, All-weaker, All-get_or}
use Rattle.std.specs.List.{range_with_len}
use Rattle.std.proofs.lemmas.List.FromFn.{length-range_with_len, get_or-range_with_len}
use Rattle.mask_bits.specs.Reading.{lowest}
use Rattle.mask_circuit.specs.declared.gates.Gate.{Gate}
use Rattle.mask_circuit.specs.declared.gates.Gate.TheVariants.{Not}
use Rattle.mask_circuit.specs.Netlist.{Netlist, value_count}
use Rattle.mask_circuit.specs.Acceptance.{IsTidy}
use Rattle.mask_parts.specs.Drafts.{with_gates}
use Rattle.mask_parts.specs.PresentSbox.{sbox_gates, sbox_results, with_sbox}
use Rattle.mask_parts.specs.Rows.{xor_gates}
use Rattle.mask_parts.specs.Tidiness.{IsFree, KeepsTidy}
use Rattle.mask_parts.proofs.Growing.{value_count-with_gates, with_gates-nil, with_gates-with_gates, Grows-with_gates}
use Rattle.mask_parts.proofs.Keeping.{KeepsTidy-refl, KeepsTidy-then}
use Rattle.mask_present.specs.Present.{Register}
use Rattle.mask_present.specs.Rounds.{Stage, xored, sboxes, sboxes_results, not_gates, counter_values, key_added, block_substituted, block_moved, key_rotated, key_replaced, key_counted, key_updated, block_round, stage_after, rounds}
use Rattle.mask_present.proofs.Fitting.{IsShape, AllWithin, Fits, Fits-key_added, Fits-block_substituted, Fits-block_round, Fits-key_rotated, Fits-key_replaced, Fits-stage_after}
use Rattle.mask_present.proofs.Lengthening.{Lengthens-key_added, Lengthens-block_substituted, Lengthens-block_round, Lengthens-key_replaced, Lengthens-nibbles, Lengthens-key_counted, Lengthens-key_updated}
use Rattle.mask_parts.proofs.Layering.{TakesFree, TakesFree-not, KeepsTidy-layer}
use Rattle.mask_parts.proofs.Passing.{Formed, Formed-Grows, IsReady}
use Rattle.mask_parts.proofs.Ranges.{All-range}
use Rattle.mask_parts.proofs.Substituting.{length-sbox_gates, KeepsTidy-sbox}
use Rattle.mask_parts.proofs.XorRows.{Counts-xors, AllTake-xors}
use Rattle.mask_present.proofs.Holding.{Holds, All-sbox_results, Holds-key_added, Holds-block_substituted, Holds-block_moved, Holds-key_rotated, Holds-key_replaced, Holds-key_counted}

pub IsReady-later : (c d : Netlist) (us : List ℕ) → value_count c ≤ value_count d → KeepsTidy c d us → (u : ℕ) → IsReady Unit c u → IsReady Unit d u
IsReady-later c d us more keeps u ready = record { below = (let low = ready.below in omega arith); free = λ t. keeps.still_free u ready.below (ready.free t) }

-- what is kept, where these values are handed back
pub record KeepsWith (c d : Netlist) (us : List ℕ) : Type 0 where
  pub tidy : KeepsTidy c d []
  pub more : value_count c ≤ value_count d
  pub ready : All (IsReady Unit d) us

KeepsWith-tidy : (c d : Netlist) (us : List ℕ) → value_count c ≤ value_count d → All (λ u. u < value_count d) us → KeepsTidy c d us → KeepsWith c d us
KeepsWith-tidy c d us more below keeps = record {
  tidy = record { tidy = keeps.tidy; results_free = All-nil (IsFree d); still_free = keeps.still_free };
  more = more;
  ready = λ k z inside. record { below = below k z inside; free = λ t. keeps.results_free k z inside };
}

-- LAYERS

AllTake-not_gates : (c : Netlist) (bs : List Bool) (us : List ℕ) → All (IsReady Unit c) us → All (TakesFree c) (not_gates bs us)
unfolding not_gates
AllTake-not_gates c [] us one = All-nil (TakesFree c)
AllTake-not_gates c (b ∷ bs) [] one = All-nil (TakesFree c)
AllTake-not_gates c (true ∷ bs) (u ∷ us) one =
    let first = All-head (IsReady Unit c) u us one in
    All-cons (TakesFree c) (Not u) (not_gates bs us) (TakesFree-not c u first.below (first.free tt)) (AllTake-not_gates c bs us (All-tail (IsReady Unit c) u us one))
AllTake-not_gates c (false ∷ bs) (u ∷ us) one = AllTake-not_gates c bs us (All-tail (IsReady Unit c) u us one)

pub KeepsWith-layer : (c : Netlist) (gs : List Gate) → Formed (with_gates c gs) → All (TakesFree c) gs → IsTidy c → KeepsWith c (with_gates c gs) (range_with_len (value_count c) (length gs))
KeepsWith-layer c gs formed takes tidy =
    let count = value_count-with_gates c gs in
    KeepsWith-tidy c (with_gates c gs) (range_with_len (value_count c) (length gs)) (omega arith)
    (All-range (λ u. u < value_count (with_gates c gs)) (value_count c) (length gs) (λ u low high. omega arith))
    (KeepsTidy-layer c gs (Formed-Grows c (with_gates c gs) (Grows-with_gates c gs) formed) tidy takes)

-- each of so many values in a row
ready_in : (d : Netlist) (n k m : ℕ) → k ≡ m → All (IsReady Unit d) (range_with_len n k) → (u : ℕ) → n ≤ u → u < n + m → IsReady Unit d u
ready_in d n k m same ready u low high =
    let i = u - n in
    let at : n + i ≡ u = omega arith in
    let inside : i < length (range_with_len n k) = rw (length-range_with_len n k) (omega arith) in
    subst (IsReady Unit d) (get_or-range_with_len n k i 0 (omega arith) ∙ at) (All-get_or (IsReady Unit d) (range_with_len n k) i 0 inside ready)

-- THE S-BOXES

pub count-with_sbox : (c : Netlist) (us : List ℕ) → value_count (with_sbox c us) ≡ value_count c + 26
unfolding with_sbox
count-with_sbox c us = value_count-with_gates c (sbox_gates (value_count c) us) ∙ ap (λ k. value_count c + k) (length-sbox_gates (value_count c) us)

pub KeepsWith-sbox : (c : Netlist) (us : List ℕ) → Formed c → length us ≡ 4 → All (IsReady Unit c) us → IsTidy c → KeepsWith c (with_sbox c us) (sbox_results (value_count c))
KeepsWith-sbox c us formed long ready tidy =
    let count : value_count (with_sbox c us) ≡ value_count c + 26 = count-with_sbox c us in
    KeepsWith-tidy c (with_sbox c us) (sbox_results (value_count c)) (omega arith)
    (All-sbox_results (λ u. u < value_count (with_sbox c us)) (value_count c) (omega arith) (omega arith) (omega arith) (omega arith))
    (KeepsTidy-sbox c us formed long (All-weaker (IsReady Unit c) (λ u. u < value_count c) (λ u r. r.below) us ready) tidy
    (All-weaker (IsReady Unit c) (IsFree c) (λ u r. r.free tt) us ready))

KeepsWith-sboxes : (m n : ℕ) (c : Netlist) (us : List ℕ) → n ≡ value_count c → Formed (with_gates c (sboxes m n us)) → length us ≡ 4 * m → All (IsReady Unit c) us → IsTidy c
    → KeepsWith c (with_gates c (sboxes m n us)) (sboxes_results m n)
unfolding sboxes sboxes_results with_sbox
KeepsWith-sboxes zero n c us at formed long ready tidy =
    rw (with_gates-nil c) (record { tidy = KeepsTidy-refl c tidy; more = omega arith; ready = All-nil (IsReady Unit c) })
KeepsWith-sboxes (suc m) n c us at formed long ready tidy =
    let first : List Gate = sbox_gates n (take 4 us) in
    let rest : List Gate = sboxes m (n + 26) (drop 4 us) in
    let d : Netlist = with_gates c first in
    let e : Netlist = with_gates d rest in
    let whole : e ≡ with_gates c (first ++ rest) = with_gates-with_gates c first rest in
    let formed_before : Formed c = Formed-Grows c (with_gates c (first ++ rest)) (Grows-with_gates c (first ++ rest)) formed in
    let four : length (take 4 us) ≡ 4 = length-take-le 4 us (omega arith) in
    let one : KeepsWith c d (sbox_results n) =
    rw at (KeepsWith-sbox c (take 4 us) formed_before four (All-take (IsReady Unit c) 4 us ready) tidy) in
    let count : value_count d ≡ value_count c + 26 = value_count-with_gates c first ∙ ap (λ k. value_count c + k) (length-sbox_gates n (take 4 us)) in
    let others : All (IsReady Unit d) (drop 4 us) = All-weaker (IsReady Unit c) (IsReady Unit d) (IsReady-later c d [] one.more one.tidy) (drop 4 us) (All-drop (IsReady Unit c) 4 us ready) in
    let later : KeepsWith d e (sboxes_results m (n + 26)) =
    KeepsWith-sboxes m (n + 26) d (drop 4 us) (omega arith) (subst Formed (sym whole) formed) (length-drop 4 us ∙ omega arith) others one.tidy.tidy in
    let more = one.more in let later_more = later.more in
    subst (λ (f : Netlist). KeepsWith c f (sbox_results n ++ sboxes_results m (n + 26))) whole (record {
      tidy = KeepsTidy-then c d e [] [] one.more one.tidy later.tidy;
      more = omega arith;
      ready = All-append (IsReady Unit e) (sbox_results n) (sboxes_results m (n + 26))
          (All-weaker (IsReady Unit d) (IsReady Unit e) (IsReady-later d e [] later.more later.tidy) (sbox_results n) one.ready) later.ready;
    })

-- THE STAGES

-- the draft is tidy, and further gates may take the values of the stage
pub record Steady (s : Stage) : Type 0 where
  pub tidy : IsTidy s.draft
  pub ready : Holds (IsReady Unit s.draft) s

-- so it stays from stage s to stage t, where each value that was free is free
pub record Steadies (s t : Stage) : Type 0 where
  pub kept : KeepsTidy s.draft t.draft []
  pub more : value_count s.draft ≤ value_count t.draft
  pub ready : Holds (IsReady Unit t.draft) t

pub steady_after : (s t : Stage) → Steadies s t → Steady t
steady_after s t keeps = record { tidy = keeps.kept.tidy; ready = keeps.ready }

pub Steadies-trans : (s t u : Stage) → Steadies s t → Steadies t u → Steadies s u
Steadies-trans s t u one two =
    let more = one.more in let more' = two.more in
    record {
      kept = KeepsTidy-then s.draft t.draft u.draft [] [] one.more one.kept two.kept;
      more = omega arith;
      ready = two.ready;
    }

pub Steadies-key_added : (r : Register) (s : Stage) → IsShape r → Fits r s → Formed (key_added r s).draft → Steady s → Steadies s (key_added r s)
unfolding key_added xored
Steadies-key_added r s shape fits formed steady =
    let high : List ℕ = drop (r.width - 64) s.key in
    let gs : List Gate = xor_gates s.block high in
    let long = fits.key in let block = fits.block in let wide = shape.wide in
    let count : length gs ≡ 64 = (Counts-xors s.block high (block ∙ sym (length-drop (r.width - 64) s.key ∙ omega arith))).gates ∙ block in
    let keeps = KeepsWith-layer s.draft gs formed
    (AllTake-xors Unit s.draft tt s.block high steady.ready.block (All-drop (IsReady Unit s.draft) (r.width - 64) s.key steady.ready.key)) steady.tidy in
    record {
      kept = keeps.tidy;
      more = keeps.more;
      ready = Holds-key_added (IsReady Unit s.draft) (IsReady Unit (with_gates s.draft gs)) s (IsReady-later s.draft _ [] keeps.more keeps.tidy) steady.ready r
          (ready_in (with_gates s.draft gs) (value_count s.draft) (length gs) 64 count keeps.ready);
    }

pub Steadies-block_substituted : (r : Register) (s : Stage) → Fits r s → Formed (block_substituted s).draft → Steady s → Steadies s (block_substituted s)
unfolding block_substituted
Steadies-block_substituted r s fits formed steady =
    let keeps = KeepsWith-sboxes 16 (value_count s.draft) s.draft s.block refl formed fits.block steady.ready.block steady.tidy in
    record {
      kept = keeps.tidy;
      more = keeps.more;
      ready = Holds-block_substituted (IsReady Unit s.draft) (IsReady Unit (block_substituted s).draft) s (IsReady-later s.draft _ [] keeps.more keeps.tidy) steady.ready keeps.ready;
    }

pub Steadies-block_moved : (r : Register) (s : Stage) → Fits r s → Steady s → Steadies s (block_moved s)
unfolding block_moved
Steadies-block_moved r s fits steady =
    record { kept = KeepsTidy-refl s.draft steady.tidy; more = omega arith; ready = Holds-block_moved (IsReady Unit s.draft) r s fits steady.ready }

pub Steadies-key_rotated : (r : Register) (s : Stage) → Steady s → Steadies s (key_rotated r s)
unfolding key_rotated
Steadies-key_rotated r s steady =
    record { kept = KeepsTidy-refl s.draft steady.tidy; more = omega arith; ready = Holds-key_rotated (IsReady Unit s.draft) r s steady.ready }

pub Steadies-key_replaced : (r : Register) (s : Stage) (at : ℕ) → at + 4 ≤ r.width → Fits r s → Formed (key_replaced s at).draft → Steady s → Steadies s (key_replaced s at)
unfolding key_replaced
Steadies-key_replaced r s at within fits formed steady =
    let long = fits.key in
    let nibble : List ℕ = take 4 (drop at s.key) in
    let four : length nibble ≡ 4 = length-take-le 4 (drop at s.key) (rw (length-drop at s.key) (omega arith)) in
    let before : Formed s.draft = Formed-Grows s.draft (key_replaced s at).draft (Lengthens-key_replaced s at) formed in
    let keeps = KeepsWith-sbox s.draft nibble before four (All-take (IsReady Unit s.draft) 4 (drop at s.key) (All-drop (IsReady Unit s.draft) at s.key steady.ready.key)) steady.tidy in
    record {
      kept = keeps.tidy;
      more = keeps.more;
      ready = Holds-key_replaced (IsReady Unit s.draft) (IsReady Unit (key_replaced s at).draft) s (IsReady-later s.draft _ [] keeps.more keeps.tidy) steady.ready at keeps.ready;
    }

pub Steadies-key_counted : (r : Register) (i : ℕ) (s : Stage) → Formed (key_counted r i s).draft → Steady s → Steadies s (key_counted r i s)
unfolding key_counted
Steadies-key_counted r i s formed steady =
    let us : List ℕ = counter_values r s in
    let ready_us : All (IsReady Unit s.draft) us = All-take (IsReady Unit s.draft) 5 (drop r.counter s.key) (All-drop (IsReady Unit s.draft) r.counter s.key steady.ready.key) in
    let keeps = KeepsWith-layer s.draft (not_gates (lowest 5 i) us) formed (AllTake-not_gates s.draft (lowest 5 i) us ready_us) steady.tidy in
    record {
      kept = keeps.tidy;
      more = keeps.more;
      ready = Holds-key_counted (IsReady Unit s.draft) (IsReady Unit (key_counted r i s).draft) s (IsReady-later s.draft _ [] keeps.more keeps.tidy) steady.ready r i
          (ready_in (key_counted r i s).draft (value_count s.draft) _ _ refl keeps.ready);
    }

pub Steadies-nibbles : (r : Register) (ats : List ℕ) (s : Stage) → AllWithin r.width ats → Fits r s → Formed (fold key_replaced s ats).draft → Steady s
    → Steadies s (fold key_replaced s ats)
Steadies-nibbles r [] s within fits formed steady = record { kept = KeepsTidy-refl s.draft steady.tidy; more = omega arith; ready = steady.ready }
Steadies-nibbles r (at ∷ ats) s within fits formed steady =
    let t = key_replaced s at in
    let before = Formed-Grows t.draft (fold key_replaced t ats).draft (Lengthens-nibbles ats t) formed in
    let one = Steadies-key_replaced r s at within.0 fits before steady in
    Steadies-trans s t (fold key_replaced t ats) one
    (Steadies-nibbles r ats t within.1 (Fits-key_replaced r s at within.0 fits) formed (steady_after s t one))

pub Steadies-key_updated : (r : Register) (i : ℕ) (s : Stage) → IsShape r → Fits r s → Formed (key_updated r i s).draft → Steady s → Steadies s (key_updated r i s)
unfolding key_updated
Steadies-key_updated r i s shape fits formed steady =
    let t = key_rotated r s in
    let u = fold key_replaced t r.nibbles in
    let before = Formed-Grows u.draft (key_counted r i u).draft (Lengthens-key_counted r i u) formed in
    let one = Steadies-key_rotated r s steady in
    let two = Steadies-nibbles r r.nibbles t shape.nibbles (Fits-key_rotated r s shape fits) before (steady_after s t one) in
    Steadies-trans s t (key_counted r i u) one (Steadies-trans t u (key_counted r i u) two (Steadies-key_counted r i u formed (steady_after t u two)))

pub Steadies-block_round : (r : Register) (s : Stage) → IsShape r → Fits r s → Formed (block_round r s).draft → Steady s → Steadies s (block_round r s)
unfolding block_round
Steadies-block_round r s shape fits formed steady =
    let t = key_added r s in
    let u = block_substituted t in
    let formed_u : Formed u.draft = unfold block_moved in formed in
    let before = Formed-Grows t.draft u.draft (Lengthens-block_substituted t) formed_u in
    let fits_t = Fits-key_added r s fits in
    let one = Steadies-key_added r s shape fits before steady in
    let two = Steadies-block_substituted r t fits_t formed_u (steady_after s t one) in
    let three = Steadies-block_moved r u (Fits-block_substituted r t fits_t) (steady_after t u two) in
    Steadies-trans s t (block_moved u) one (Steadies-trans t u (block_moved u) two three)

pub Steadies-stage_after : (r : Register) (i : ℕ) (s : Stage) → IsShape r → Fits r s → Formed (stage_after r i s).draft → Steady s → Steadies s (stage_after r i s)
unfolding stage_after
Steadies-stage_after r zero s shape fits formed steady = record { kept = KeepsTidy-refl s.draft steady.tidy; more = omega arith; ready = steady.ready }
Steadies-stage_after r (suc i) s shape fits formed steady =
    let t = stage_after r i s in
    let u = block_round r t in
    let v = key_updated r (suc i) u in
    let formed_u = Formed-Grows u.draft v.draft (Lengthens-key_updated r (suc i) u) formed in
    let formed_t = Formed-Grows t.draft u.draft (Lengthens-block_round r t) formed_u in
    let fits_t = Fits-stage_after r i s shape fits in
    let one = Steadies-stage_after r i s shape fits formed_t steady in
    let two = Steadies-block_round r t shape fits_t formed_u (steady_after s t one) in
    let three = Steadies-key_updated r (suc i) u shape (Fits-block_round r t fits_t) formed (steady_after t u two) in
    Steadies-trans s t v one (Steadies-trans t u v two three)

pub Steadies-rounds : (r : Register) (s : Stage) → IsShape r → Fits r s → Formed (rounds r s).draft → Steady s → Steadies s (rounds r s)
unfolding rounds
Steadies-rounds r s shape fits formed steady =
    let t = stage_after r 31 s in
    let before = Formed-Grows t.draft (key_added r t).draft (Lengthens-key_added r t) formed in
    let one = Steadies-stage_after r 31 s shape fits before steady in
    Steadies-trans s t (key_added r t) one (Steadies-key_added r t shape (Fits-stage_after r 31 s shape fits) formed (steady_after s t one))
