-- Each check fails with one status, and not where it passes; so the first check that fails decides one status.
use Rattle.std.proofs.Common.{◌≡◌, ℕ, suc, ◌+◌, ◌<◌, ◌≤◌, List, [], ◌∷◌, length, take, slice_index, None, Some, sym, ◌∙◌, ap, subst, inl, inr, unwrap_or, arith}
use Rattle.std.proofs.lemmas.Bool.{cases_order}
use Rattle.std.proofs.lemmas.List.{length-take-le, get_or-take}
use Rattle.std.specs.declared.option.Option.{Option}
use Rattle.mask_circuit.specs.Netlist.{Netlist}
use Rattle.mask_circuit.specs.Labels.{LabelledNetlist}
use Rattle.mask_circuit.specs.Expansion.{wire_count}
use Rattle.mask_circuit.specs.Acceptance.{IsAccepted, IsClash}
use Rattle.mask_laws.specs.Circuits.{AreWireNumbers}
use Rattle.mask_laws.specs.Clashes.{ClashIsUnique, ClashRefutes}
use Rattle.mask_text.specs.Text.{IsText, IsTextOf}
use Rattle.mask_text.specs.Faults.{Fault, fault, fault_at}
use Rattle.mask_text.specs.Laws.{TextOrFault}
use Rattle.mask_probe.specs.Asking.{AreProbes}
use Rattle.mask_words.specs.Naming.{hex_bytes}
use Rattle.mask_status.specs.declared.status.Status.{Status}
use Rattle.mask_status.specs.declared.status.Status.TheVariants.{Refused, BadText, BadProbe}
use Rattle.mask_inspect.specs.Checks.{Check, Grammar, Inputs, Acceptance, Probes, FitInputs, IsBadProbe, Passes, FailsWith, FirstFailure, AllPass}

-- THE PLACE OF A BAD PROBE

-- a place that fails stands no earlier than one up to which all pass
not_before : (c : Netlist) (N : ℕ) (W : List ℕ) (k l : ℕ) → AreWireNumbers c N (take l W) → l < length W → wire_count c N ≤ slice_index W k → k < l → ⊥
not_before c N W k l pass within fail lt =
    let count : length (take l W) ≡ l = length-take-le l W (omega arith) in
    let good = pass k 0 (omega arith) in
    let same = get_or-take l W k 0 lt in
    omega (arith, good, same, fail)

-- one place is bad at most
one_place : (c : Netlist) (N : ℕ) (W : List ℕ) (p q : ℕ) → IsBadProbe c N W p → IsBadProbe c N W q → p ≡ q
one_place c N W p q (inl many) (inl also) = many.1 ∙ sym also.1
one_place c N W p q (inl many) (inr missing) = let some = many.0 in let few = missing.1 in absurd (omega arith)
one_place c N W p q (inr missing) (inl many) = let some = many.0 in let few = missing.1 in absurd (omega arith)
one_place c N W p q (inr one) (inr two) = elim (cases_order one.0 two.0) [
  | inl same ↦ one.5 ∙ ap (λ (k : ℕ). k + 5) same ∙ sym two.5
  | inr differ ↦ elim differ [
    | inl below ↦ absurd (not_before c N W one.0 two.0 two.4 two.2 one.3 below)
    | inr above ↦ absurd (not_before c N W two.0 one.0 one.4 one.2 two.3 above)
  ]
]

-- probes in form have no bad place
no_bad_place : (c : Netlist) (N : ℕ) (W : List ℕ) (p : ℕ) → AreProbes c N W → IsBadProbe c N W p → ⊥
no_bad_place c N W p are (inl many) = let some = many.0 in let few = are.few in omega arith
no_bad_place c N W p are (inr missing) = let good = are.wires missing.0 0 missing.2 in let fail = missing.3 in omega (arith, good, fail)

module _ (texts : TextOrFault) where
  -- WHAT A TEXT STANDS FOR

  -- a text stands for one labelled circuit at most, and then has no fault
  labelled_is_one : (text : List ℕ) (l m : LabelledNetlist) → IsText text l → IsText text m → l ≡ m
  labelled_is_one text l m h k =
      elim (texts text) [
        | inl one ↦ one.no_other l h ∙ sym (one.no_other m k)
        | inr faulty ↦ absurd (faulty.stands_for_none l h)
      ]

  has_no_fault : (text : List ℕ) (l : LabelledNetlist) (f : Fault) → IsText text l → fault text ≡ Some f → ⊥
  has_no_fault text l f h k =
      elim (texts text) [
        | inl one ↦ (let none : None ≡ Some f = sym one.no_fault ∙ k in cc)
        | inr faulty ↦ faulty.stands_for_none l h
      ]

  -- so it stands for one circuit at most
  pub text_is_one : (text : List ℕ) (c d : Netlist) → IsTextOf text c → IsTextOf text d → c ≡ d
  text_is_one text c d h k = sym h.2 ∙ ap (λ (l : LabelledNetlist). l.circuit) (labelled_is_one text h.0 k.0 h.1 k.1) ∙ k.2

  -- what holds of one holds of the other
  along : (P : Netlist → Type 0) (text : List ℕ) (c d : Netlist) → IsTextOf text c → IsTextOf text d → P c → P d
  along P text c d h k holds = subst P (text_is_one text c d h k) holds

  -- EACH CHECK

  module _ (unique : ClashIsUnique) (refutes : ClashRefutes) where
    fails_with_one : (check : Check) (text : List ℕ) (a b : Status) → FailsWith check text a → FailsWith check text b → a ≡ b
    fails_with_one Grammar text a b h k =
        let same = ap (λ (found : Option Fault). unwrap_or found (fault_at h.0 h.1)) (sym h.3 ∙ k.3) in
        h.2 ∙ ap (λ (f : Fault). BadText f.line f.reason) same ∙ sym k.2
    fails_with_one (Inputs hex) text a b h k = h.0 ∙ sym k.0
    fails_with_one Acceptance text a b h k =
        let there = along (λ (c : Netlist). IsClash c k.0 k.1) text k.3.0 h.3.0 k.3.1 h.3.1 k.3.2 in
        let same = unique h.3.0 h.0 h.1 k.0 k.1 h.3.2 there in
        h.2 ∙ ap (λ (s : ℕ). Refused h.0 s) same.1 ∙ ap (λ (p : ℕ). Refused p k.1) same.0 ∙ sym k.2
    fails_with_one (Probes order wires) text a b h k =
        let there = along (λ (c : Netlist). IsBadProbe c (suc order) wires k.0) text k.2.0 h.2.0 k.2.1 h.2.1 k.2.2 in
        h.1 ∙ ap BadProbe (one_place h.2.0 (suc order) wires h.0 k.0 h.2.2 there) ∙ sym k.1

    passing_fails_not : (check : Check) (text : List ℕ) (status : Status) → Passes check text → FailsWith check text status → ⊥
    passing_fails_not Grammar text status p h = has_no_fault text p.1.0 (fault_at h.0 h.1) p.1.1 h.3
    passing_fails_not (Inputs hex) text status p h = h.1.2 (along (λ (c : Netlist). FitInputs (hex_bytes hex) c.inputs) text p.0 h.1.0 p.1 h.1.1 p.2)
    passing_fails_not Acceptance text status p h = refutes h.3.0 h.0 h.1 h.3.2 (along IsAccepted text p.0 h.3.0 p.1 h.3.1 p.2)
    passing_fails_not (Probes order wires) text status p h =
        no_bad_place h.2.0 (suc order) wires h.0 (along (λ (c : Netlist). AreProbes c (suc order) wires) text p.0 h.2.0 p.1 h.2.1 p.2) h.2.2

    -- ALL CHECKS

    pub first_failure_is_one : (checks : List Check) (text : List ℕ) (a b : Status) → FirstFailure checks text a → FirstFailure checks text b → a ≡ b
    first_failure_is_one [] text a b h k = absurd h
    first_failure_is_one (check ∷ checks) text a b (inl h) (inl k) = fails_with_one check text a b h k
    first_failure_is_one (check ∷ checks) text a b (inl h) (inr k) = absurd (passing_fails_not check text a k.0 h)
    first_failure_is_one (check ∷ checks) text a b (inr h) (inl k) = absurd (passing_fails_not check text b h.0 k)
    first_failure_is_one (check ∷ checks) text a b (inr h) (inr k) = first_failure_is_one checks text a b h.1 k.1

    pub none_fails : (checks : List Check) (text : List ℕ) (status : Status) → AllPass checks text → FirstFailure checks text status → ⊥
    none_fails [] text status p h = h
    none_fails (check ∷ checks) text status p (inl h) = passing_fails_not check text status p.0 h
    none_fails (check ∷ checks) text status p (inr h) = none_fails checks text status p.1 h.1
