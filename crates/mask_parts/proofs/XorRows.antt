-- The XOR of each two of two rows of values: what it keeps, and what it computes.
use Rattle.std.proofs.Common.{◌≡◌, ℕ, suc, ◌+◌, ◌<◌, ◌≤◌, Bool, List, [], ◌∷◌, ◌++◌, length, map, drop, get_or, All, refl, ap, ap₂, arith, add-one}
use Rattle.std.specs.List.{range_with_len}
use Rattle.std.proofs.lemmas.List.{drop_more, drop_all}
use Rattle.std.proofs.lemmas.List.Elements.{All-nil, All-cons, All-head, All-tail}
use Rattle.mask_circuit.specs.declared.gates.Gate.TheVariants.{Xor}
use Rattle.mask_circuit.specs.Netlist.{Netlist, AreGates, value_count}
use Rattle.mask_circuit.specs.Value.{value_at}
use Rattle.mask_parts.specs.Drafts.{with_gates}
use Rattle.mask_parts.specs.Rows.{xor_gates, xor_bits}
use Rattle.mask_parts.specs.Tidiness.{KeepsTidy}
use Rattle.mask_parts.proofs.Counting.{Counts, Adds, Adds-with_gates}
use Rattle.mask_parts.proofs.Growing.{with_gates-nil, Grows-with_gates, AreGates-with_gates}
use Rattle.mask_parts.proofs.Layering.{TakesFree, TakesFree-xor, KeepsTidy-layer}
use Rattle.mask_parts.proofs.Passing.{AreOf-ready, IsSound, IsReady, Passes}
use Rattle.mask_parts.proofs.Ranges.{All-range}
use Rattle.mask_parts.proofs.Solving.{Solves}

-- ONE AFTER ANOTHER

-- the XOR of the next two comes first of those that are left
pub xor_gates-next : (us vs : List ℕ) (k : ℕ) → k < length us → k < length vs
    → xor_gates (drop k us) (drop k vs) ≡ (Xor (get_or us k 0) (get_or vs k 0) ∷ []) ++ xor_gates (drop (k + 1) us) (drop (k + 1) vs)
xor_gates-next us vs k one two = rw (drop_more us k 0 one, drop_more vs k 0 two) (unfold xor_gates in refl)

-- behind the last one there is none
pub xor_gates-none : (c : Netlist) (us vs : List ℕ) (k : ℕ) → k ≡ length us → with_gates c (xor_gates (drop k us) (drop k vs)) ≡ c
xor_gates-none c us vs k end = rw (drop_all k us (omega arith)) (unfold xor_gates in with_gates-nil c)

-- GATES

pub Counts-xors : (us vs : List ℕ) → length us ≡ length vs → Counts (xor_gates us vs) (length us) 0
unfolding xor_gates
Counts-xors [] vs same = record { gates = refl; products = refl; refreshes = refl }
Counts-xors (u ∷ us) [] same = absurd (omega arith)
Counts-xors (u ∷ us) (v ∷ vs) same =
    let rest = Counts-xors us vs (omega arith) in
    record { gates = ap suc rest.gates; products = rest.products; refreshes = rest.refreshes }

-- on values below n, where the first makes value m
pub AreGates-xors : (n m : ℕ) (us vs : List ℕ) → n ≤ m → All (λ u. u < n) us → All (λ u. u < n) vs → AreGates m (xor_gates us vs)
unfolding xor_gates
AreGates-xors n m [] vs more one two = tt
AreGates-xors n m (u ∷ us) [] more one two = tt
AreGates-xors n m (u ∷ us) (v ∷ vs) more one two =
    let low = All-head (λ w. w < n) u us one in let low' = All-head (λ w. w < n) v vs two in
    ((omega arith, omega arith), AreGates-xors n (suc m) us vs (omega arith) (All-tail (λ w. w < n) u us one) (All-tail (λ w. w < n) v vs two))

-- WHAT THEY KEEP

module _ (T : Type 0) (c : Netlist) where
  pub AllTake-xors : T → (us vs : List ℕ) → All (IsReady T c) us → All (IsReady T c) vs → All (TakesFree c) (xor_gates us vs)
  unfolding xor_gates
  AllTake-xors t [] vs one two = All-nil (TakesFree c)
  AllTake-xors t (u ∷ us) [] one two = All-nil (TakesFree c)
  AllTake-xors t (u ∷ us) (v ∷ vs) one two =
      let left = All-head (IsReady T c) u us one in
      let right = All-head (IsReady T c) v vs two in
      All-cons (TakesFree c) (Xor u v) (xor_gates us vs) (TakesFree-xor c u v left.below right.below (left.free t) (right.free t))
      (AllTake-xors t us vs (All-tail (IsReady T c) u us one) (All-tail (IsReady T c) v vs two))

  module _ (us vs : List ℕ) (same : length us ≡ length vs) (sound : IsSound T c) (one : All (IsReady T c) us) (two : All (IsReady T c) vs) where
    abbrev d : Netlist
    d = with_gates c (xor_gates us vs)

    gates : AreGates (value_count c) (xor_gates us vs)
    gates = AreGates-xors (value_count c) (value_count c) us vs (omega arith) (AreOf-ready T c us one) (AreOf-ready T c vs two)

    tidied : T → KeepsTidy c d (range_with_len (value_count c) (length (xor_gates us vs)))
    tidied t = KeepsTidy-layer c (xor_gates us vs) sound.formed (sound.tidy t) (AllTake-xors t us vs one two)

    adds : Adds c d (length us) 0
    adds = Adds-with_gates c (xor_gates us vs) (length us) 0 (Counts-xors us vs same)

    pub Passes-xors : Passes T c d (length us) 0
    Passes-xors = record {
      grows = Grows-with_gates c (xor_gates us vs);
      sound = record { formed = AreGates-with_gates c (xor_gates us vs) sound.formed gates; tidy = λ t. (tidied t).tidy };
      adds = adds;
      kept = λ u ready. record {
        below = (let low = ready.below in let more = adds.values in omega arith);
        free = λ t. (tidied t).still_free u ready.below (ready.free t);
      };
    }

    -- the values made
    pub All-xors : All (IsReady T d) (range_with_len (value_count c) (length us))
    All-xors k e inside = record {
      below = All-range (λ u. u < value_count d) (value_count c) (length us) (λ u low high. let more = adds.values in omega arith) k e inside;
      free = λ t. (rw (Counts-xors us vs same).gates at (tidied t).results_free) k e inside;
    }

-- WHAT THEY COMPUTE

-- values that solve the gates are the XORs of the bits
pub bits-xors : (bits : List Bool) (n : ℕ) (us vs : List ℕ) → length us ≡ length vs → Solves bits n (xor_gates us vs)
    → map (value_at bits) (range_with_len n (length us)) ≡ xor_bits (map (value_at bits) us) (map (value_at bits) vs)
unfolding xor_gates xor_bits
bits-xors bits n [] vs same solved = refl
bits-xors bits n (u ∷ us) [] same solved = absurd (omega arith)
bits-xors bits n (u ∷ us) (v ∷ vs) same solved = ap₂ ◌∷◌ solved.0 (rw add-one (bits-xors bits (suc n) us vs (omega arith) solved.1))
