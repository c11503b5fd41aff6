-- The updates of the register, nibble by nibble and bit by bit: what is made and what is left.
use Rattle.std.proofs.Common.{◌≡◌, ℕ, ◌+◌, ◌-◌, ◌<◌, ◌≤◌, Bool, true, false, List, [], ◌∷◌, ◌++◌, length, take, drop, get_or, set, All, refl, sym, ap, ap₂, ◌∙◌, subst, arith, add-zero, fold, Result, if◌then◌else◌}
use Rattle.std.proofs.lemmas.List.{length-set, drop_more, drop_all, take_all, take_more_set, append-nil, append_assoc}
use Rattle.std.proofs.lemmas.List.Elements.{All-nil}
use Rattle.mask_circuit.specs.declared.gates.Gate.{Gate}
use Rattle.mask_circuit.specs.declared.builders.CircuitError.{CircuitError}
use Rattle.mask_bits.specs.Reading.{lowest}
use Rattle.mask_circuit.specs.Netlist.{Netlist, value_count}
use Rattle.mask_parts.specs.Drafts.{with_gates, Grows, IsWithinLimits, Lays}
use Rattle.mask_parts.proofs.Growing.{value_count-with_gates, with_gates-nil, with_gates-with_gates, Grows-refl, Grows-trans, Grows-with_gates}
use Rattle.mask_present.specs.Present.{Register}
use Rattle.mask_present.specs.Rounds.{Stage, stage, with_stretch, not_gates, not_results, key_rotated, key_replaced, key_counted}
use Rattle.mask_present.proofs.Knowing.{Below, Known, Known-key_replaced}
use Rattle.mask_present.proofs.Lengthening.{Lengthens-key_replaced, Lengthens-nibbles}

-- NIBBLES

-- i of the nibbles are replaced: the draft is c and the register is `key`
pub record HasReplaced (before c : Netlist) (first key ats : List ℕ) (i : ℕ) : Type 0 where
  pub begun : Grows before c
  pub within : IsWithinLimits c
  pub left : fold key_replaced (stage c key []) (drop i ats) ≡ fold key_replaced (stage before first []) ats
  pub long : length key ≡ length first
  pub known : All (Below c) key

pub HasReplaced-none : (before : Netlist) (first ats : List ℕ) → IsWithinLimits before → All (Below before) first → HasReplaced before before first first ats 0
HasReplaced-none before first ats within known =
    record { begun = Grows-refl before; within = within; left = refl; long = refl; known = known }

-- a stage of a register alone
pub known-stage : (c : Netlist) (key : List ℕ) → All (Below c) key → Known (stage c key [])
unfolding stage
known-stage c key known = record { values = record { key = known; block = All-nil (Below c) } }

module _ (before c : Netlist) (first key ats : List ℕ) (i : ℕ) (inside : i < length ats) (has : HasReplaced before c first key ats i) where
  abbrev next : Stage
  next = key_replaced (stage c key []) (get_or ats i 0)

  left-replaced : fold key_replaced next (drop (i + 1) ats) ≡ fold key_replaced (stage before first []) ats
  left-replaced = ap (fold key_replaced (stage c key [])) (sym (drop_more ats i 0 inside)) ∙ has.left

  -- the next nibble is part of the whole
  pub rest-replaced : Grows next.draft (fold key_replaced (stage before first []) ats).draft
  rest-replaced = subst (λ (s : Stage). Grows next.draft s.draft) left-replaced (Lengthens-nibbles (drop (i + 1) ats) next)

  again : stage next.draft next.key [] ≡ next
  unfolding stage key_replaced
  again = refl

  pub HasReplaced-more : (d : Netlist) (now : List ℕ) → d ≡ next.draft → now ≡ next.key → length now ≡ length key → IsWithinLimits next.draft
      → HasReplaced before d first now ats (i + 1)
  HasReplaced-more d now made key_is same within =
      let begun : Grows before next.draft = Grows-trans before c next.draft has.begun (unfold stage in Lengthens-key_replaced (stage c key []) (get_or ats i 0)) in
      let long : length next.key ≡ length first = ap length (sym key_is) ∙ same ∙ has.long in
      rw (made, key_is) (record {
        begun = begun;
        within = within;
        left = rw again left-replaced;
        long = long;
        known = (Known-key_replaced (stage c key []) (get_or ats i 0) (known-stage c key has.known)).values.key;
      })

pub HasReplaced-all : (before c : Netlist) (first key ats : List ℕ) (i : ℕ) → length ats ≤ i → HasReplaced before c first key ats i
    → (c ≡ (fold key_replaced (stage before first []) ats).draft) × (key ≡ (fold key_replaced (stage before first []) ats).key)
unfolding stage
HasReplaced-all before c first key ats i end has =
    let whole : stage c key [] ≡ fold key_replaced (stage before first []) ats = ap (fold key_replaced (stage c key [])) (sym (drop_all i ats end)) ∙ has.left in
    (ap (λ (s : Stage). s.draft) whole, ap (λ (s : Stage). s.key) whole)

-- BITS

-- k of the bits are counted: the draft is c, and `results` begins with their values
pub record HasCounted (before c : Netlist) (flags : List Bool) (us results : List ℕ) (k : ℕ) : Type 0 where
  pub begun : Grows before c
  pub within : IsWithinLimits c
  pub left : with_gates c (not_gates (drop k flags) (drop k us)) ≡ with_gates before (not_gates flags us)
  pub long : length results ≡ 5
  pub made : take k results ++ not_results (value_count c) (drop k flags) (drop k us) ≡ not_results (value_count before) flags us

pub HasCounted-none : (before : Netlist) (flags : List Bool) (us results : List ℕ) → length results ≡ 5 → IsWithinLimits before → HasCounted before before flags us results 0
HasCounted-none before flags us results long within =
    record { begun = Grows-refl before; within = within; left = refl; long = long; made = refl }

-- a NOT where the flag is set
abbrev pub one_gate : Bool → ℕ → List Gate
one_gate f u = not_gates (f ∷ []) (u ∷ [])

abbrev pub one_result : ℕ → Bool → ℕ → ℕ
one_result n f u = if f then n else u

not_gates-cons : (f : Bool) (bs : List Bool) (u : ℕ) (us : List ℕ) → not_gates (f ∷ bs) (u ∷ us) ≡ one_gate f u ++ not_gates bs us
unfolding not_gates
not_gates-cons true bs u us = refl
not_gates-cons false bs u us = refl

not_results-cons : (n : ℕ) (f : Bool) (bs : List Bool) (u : ℕ) (us : List ℕ) → not_results n (f ∷ bs) (u ∷ us) ≡ one_result n f u ∷ not_results (n + length (one_gate f u)) bs us
unfolding not_gates not_results
not_results-cons n true bs u us = refl
not_results-cons n false bs u us = rw (add-zero n) refl

module _ (before c : Netlist) (flags : List Bool) (us results : List ℕ) (k : ℕ) (one : k < length flags) (two : k < length us) (has : HasCounted before c flags us results k) where
  abbrev flag : Bool
  flag = get_or flags k false

  abbrev value : ℕ
  value = get_or us k 0

  abbrev after_bit : Netlist
  after_bit = with_gates c (one_gate flag value)

  left-counted : with_gates after_bit (not_gates (drop (k + 1) flags) (drop (k + 1) us)) ≡ with_gates before (not_gates flags us)
  left-counted =
      with_gates-with_gates c (one_gate flag value) (not_gates (drop (k + 1) flags) (drop (k + 1) us))
      ∙ ap (with_gates c) (sym (not_gates-cons flag (drop (k + 1) flags) value (drop (k + 1) us)) ∙ sym (ap₂ not_gates (drop_more flags k false one) (drop_more us k 0 two)))
      ∙ has.left

  -- the next bit is part of the whole
  pub rest-counted : Grows after_bit (with_gates before (not_gates flags us))
  rest-counted = subst (Grows after_bit) left-counted (Grows-with_gates after_bit _)

  pub HasCounted-more : k < 5 → (d : Netlist) → d ≡ after_bit → IsWithinLimits after_bit
      → HasCounted before d flags us (set results k (one_result (value_count c) flag value)) (k + 1)
  HasCounted-more below d made within =
      let long = has.long in
      let w = one_result (value_count c) flag value in
      let count : value_count after_bit ≡ value_count c + length (one_gate flag value) = value_count-with_gates c (one_gate flag value) in
      let results_now : take (k + 1) (set results k w) ≡ take k results ++ w ∷ [] = take_more_set results k w (omega arith) in
      let others : List ℕ = not_results (value_count c + length (one_gate flag value)) (drop (k + 1) flags) (drop (k + 1) us) in
      let joined : w ∷ others ≡ not_results (value_count c) (drop k flags) (drop k us) =
      sym (not_results-cons (value_count c) flag (drop (k + 1) flags) value (drop (k + 1) us))
      ∙ sym (ap₂ (not_results (value_count c)) (drop_more flags k false one) (drop_more us k 0 two)) in
      rw made (record {
        begun = Grows-trans before c after_bit has.begun (Grows-with_gates c (one_gate flag value));
        within = within;
        left = left-counted;
        long = length-set results k w ∙ has.long;
        made = rw (count, results_now) (append_assoc (take k results) (w ∷ []) others ∙ ap (λ (zs : List ℕ). take k results ++ zs) joined ∙ has.made);
      })

pub HasCounted-all : (before c : Netlist) (flags : List Bool) (us results : List ℕ) (k : ℕ) → length flags ≡ 5 → length us ≡ 5 → k ≡ 5 → HasCounted before c flags us results k
    → (results ≡ not_results (value_count before) flags us) × (c ≡ with_gates before (not_gates flags us)) × IsWithinLimits (with_gates before (not_gates flags us))
unfolding not_gates not_results
HasCounted-all before c flags us results k one two end has =
    let no_flags : drop k flags ≡ [] = drop_all k flags (omega arith) in
    let no_values : drop k us ≡ [] = drop_all k us (omega arith) in
    let whole : c ≡ with_gates before (not_gates flags us) = sym (rw no_flags (with_gates-nil c)) ∙ has.left in (
      sym (rw (no_flags, no_values, append-nil (take k results)) (take_all k results (let long = has.long in omega arith))) ∙ has.made,
      whole,
      subst IsWithinLimits whole has.within,
    )

-- THE WHOLE UPDATE

-- a stage of a register alone, rotated
pub rotated-stage : (r : Register) (c : Netlist) (key now : List ℕ) (mid : ℕ) → mid ≡ r.width - 61 → now ≡ drop mid key ++ take mid key → stage c now [] ≡ key_rotated r (stage c key [])
unfolding stage key_rotated
rotated-stage r c key now mid at is = rw (is, at) refl

-- the number of a round xored into the register of stage u, which the draft c and the register `key` are
pub Lays-key_counted : (r : Register) (i : ℕ) (u : Stage) (c : Netlist) (key : List ℕ) (at : ℕ) (after : Netlist) (result : Result (Unit {0}) CircuitError)
    → c ≡ u.draft → key ≡ u.key → at ≡ r.counter → Lays c (with_gates c (not_gates (lowest 5 i) (take 5 (drop at key)))) tt after result
    → Lays u.draft (key_counted r i u).draft tt after result
unfolding key_counted
Lays-key_counted r i u c key at after result draft register place laid = rw (draft, register, place) at laid

pub key-key_counted : (r : Register) (i : ℕ) (u : Stage) (c : Netlist) (key : List ℕ) (at : ℕ) → c ≡ u.draft → key ≡ u.key → at ≡ r.counter
    → with_stretch at (not_results (value_count c) (lowest 5 i) (take 5 (drop at key))) key ≡ (key_counted r i u).key
unfolding key_counted
key-key_counted r i u c key at draft register place = rw (draft, register, place) refl
