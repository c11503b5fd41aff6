-- From a draft to a longer one: what is laid stays sound, and what a gate may take stays so.
--
-- What is said of tidiness is said under a premise T. The calls know nothing of it, so there T is ⊥; the named circuits begin
-- tidy, so there it is the unit. One induction serves both.
use Rattle.std.proofs.Common.{◌≡◌, ℕ, ◌+◌, ◌<◌, true, List, [], ◌∷◌, length, map, All, ap, sym, ◌∙◌, arith}
use Rattle.std.proofs.lemmas.Bool.{and_parts}
use Rattle.std.proofs.lemmas.List.Elements.{All-nil, All-cons, All-weaker}
use Rattle.mask_circuit.specs.Netlist.{Netlist, AreGates, value_count}
use Rattle.mask_circuit.specs.Value.{value_at}
use Rattle.mask_circuit.specs.Acceptance.{IsTidy}
use Rattle.mask_parts.specs.declared.tables.Step.{Step}
use Rattle.mask_parts.specs.Drafts.{with_gates, with_outputs, Grows}
use Rattle.mask_parts.specs.Tables.{part_gates, part_usable, is_part, with_part}
use Rattle.mask_parts.specs.Tidiness.{IsFree, KeepsTidy}
use Rattle.mask_parts.proofs.Counting.{Counts, Adds, Adds-refl, Adds-trans, Adds-with_gates}
use Rattle.mask_parts.proofs.Growing.{value_count-with_gates, value_count-Grows, Grows-refl, Grows-trans, Grows-with_gates, AreGates-left, AreGates-with_gates}
use Rattle.mask_parts.proofs.PartGates.{usable-within, AreGates-part, length-part_gates}
use Rattle.mask_parts.proofs.PartTidiness.{KeepsTidy-part, are_usable}

-- the gates of the draft take earlier values
abbrev pub Formed : Netlist → Type 0
Formed c = AreGates c.inputs c.gates

pub Formed-Grows : (c d : Netlist) → Grows c d → Formed d → Formed c
unfolding with_gates with_outputs
Formed-Grows c d grows formed = AreGates-left c.inputs c.gates grows.gates (rw grows.grown at formed)

pub record IsSound (T : Type 0) (c : Netlist) : Type 0 where
  pub formed : Formed c
  pub tidy : T → IsTidy c

-- a further gate may take the value
pub record IsReady (T : Type 0) (c : Netlist) (u : ℕ) : Type 0 where
  pub below : u < value_count c
  pub free : T → IsFree c u

-- the draft d is sound and has v values more than c, of which p are products and p refreshes
pub record Passes (T : Type 0) (c d : Netlist) (v p : ℕ) : Type 0 where
  pub grows : Grows c d
  pub sound : IsSound T d
  pub adds : Adds c d v p
  pub kept : (u : ℕ) → IsReady T c u → IsReady T d u

pub Passes-refl : (T : Type 0) (c : Netlist) → IsSound T c → Passes T c c 0 0
Passes-refl T c sound = record { grows = Grows-refl c; sound = sound; adds = Adds-refl c; kept = λ u ready. ready }

pub Passes-trans : (T : Type 0) (c d e : Netlist) (v p w q : ℕ) → Passes T c d v p → Passes T d e w q → Passes T c e (v + w) (p + q)
Passes-trans T c d e v p w q one two = record {
  grows = Grows-trans c d e one.grows two.grows;
  sound = two.sound;
  adds = Adds-trans c d e v p w q one.adds two.adds;
  kept = λ u ready. two.kept u (one.kept u ready);
}

-- the same numbers in another form
pub Passes-as : (T : Type 0) (c d : Netlist) (v p w q : ℕ) → v ≡ w → p ≡ q → Passes T c d v p → Passes T c d w q
Passes-as T c d v p w q same same' passes = rw (sym same, sym same') passes

pub All-later : (T : Type 0) (c d : Netlist) (v p : ℕ) (us : List ℕ) → Passes T c d v p → All (IsReady T c) us → All (IsReady T d) us
All-later T c d v p us passes all = All-weaker (IsReady T c) (IsReady T d) passes.kept us all

-- VALUES OF A DRAFT

-- these are values of the draft
abbrev pub AreOf : Netlist → List ℕ → Type 0
AreOf c us = All (λ u. u < value_count c) us

pub AreOf-ready : (T : Type 0) (c : Netlist) (us : List ℕ) → All (IsReady T c) us → AreOf c us
AreOf-ready T c us ready = All-weaker (IsReady T c) (λ u. u < value_count c) (λ u r. r.below) us ready

pub ready-known : (c : Netlist) (us : List ℕ) → AreOf c us → All (IsReady ⊥ c) us
ready-known c us known = All-weaker (λ u. u < value_count c) (IsReady ⊥ c) (λ u low. record { below = low; free = λ none. absurd none }) us known

pub AreOf-Grows : (c d : Netlist) (us : List ℕ) → Grows c d → AreOf c us → AreOf d us
AreOf-Grows c d us grows known =
    let more = value_count-Grows c d grows in
    All-weaker (λ u. u < value_count c) (λ u. u < value_count d) (λ u low. omega arith) us known

-- PARTS

module _ (T : Type 0) (c : Netlist) (xs : List ℕ) (ss : List Step) (sound : IsSound T c) (ready : All (IsReady T c) xs) (part : is_part (length xs) ss ≡ true) where
  tidied : T → KeepsTidy c (with_part c xs ss) [] × ((k : ℕ) → value_at (part_usable ss) k ≡ true → IsFree (with_part c xs ss) (value_count c + k))
  tidied t = KeepsTidy-part c xs ss sound.formed (AreOf-ready T c xs ready) part (sound.tidy t) (All-weaker (IsReady T c) (IsFree c) (λ u r. r.free t) xs ready)

  pub Passes-part : (v p : ℕ) → Counts (part_gates (value_count c) xs ss) v p → Passes T c (with_part c xs ss) v p
  Passes-part v p counts =
      let adds : Adds c (with_part c xs ss) v p = unfold with_part in Adds-with_gates c _ v p counts in
      let more = adds.values in
      record {
        grows = unfold with_part in Grows-with_gates c _;
        sound = record {
          formed = unfold with_part in AreGates-with_gates c _ sound.formed (AreGates-part (value_count c) xs ss (AreOf-ready T c xs ready) part);
          tidy = λ t. (tidied t).0.tidy;
        };
        adds = adds;
        kept = λ u r. record { below = (let low = r.below in omega arith); free = λ t. (tidied t).0.still_free u r.below (r.free t) };
      }

  -- a value of the part that its table lets be taken
  pub IsReady-part : (k : ℕ) → value_at (part_usable ss) k ≡ true → IsReady T (with_part c xs ss) (value_count c + k)
  IsReady-part k usable = record {
    below = (
        let within = usable-within (part_usable ss) k usable in
        let adds : value_count (with_part c xs ss) ≡ value_count c + length (part_usable ss) =
        unfold with_part in value_count-with_gates c (part_gates (value_count c) xs ss) ∙ ap (λ (m : ℕ). value_count c + m) (length-part_gates (value_count c) xs ss) in
        omega arith
        );
    free = λ t. (tidied t).1 k usable;
  }

  -- several of them
  pub All-ready-part : (ks : List ℕ) → are_usable (part_usable ss) ks ≡ true → All (IsReady T (with_part c xs ss)) (map (λ k. value_count c + k) ks)
  All-ready-part [] usable = All-nil (IsReady T (with_part c xs ss))
  All-ready-part (k ∷ ks) usable =
      All-cons (IsReady T (with_part c xs ss)) (value_count c + k) (map (λ i. value_count c + i) ks)
      (IsReady-part k (and_parts _ _ usable).0) (All-ready-part ks (and_parts _ _ usable).1)
