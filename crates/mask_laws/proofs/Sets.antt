-- How many shares are in a set, where each probe puts in one share at most.
use Rattle.std.proofs.Common.{◌≡◌, ℕ, zero, suc, ◌+◌, ◌<◌, ◌≤◌, Bool, true, false, cond, ◌||◌, List, [], ◌∷◌, length, Contains, refl, arith}
use Rattle.std.specs.List.{list_any}
use Rattle.std.proofs.lemmas.Bool.{false_from_ne_true}
use Rattle.std.proofs.lemmas.List.Folds.{list_any_at}
use Rattle.mask_circuit.specs.declared.gates.Wire.{Wire}
use Rattle.mask_circuit.specs.Probing.{size}
use Rattle.mask_circuit.specs.Need.{ShareSet}

-- a set within another is no larger
pub size-mono : (n : ℕ) (a b : ShareSet) → ((i : ℕ) → i < n → a i ≡ true → b i ≡ true) → size n a ≤ size n b
size-mono zero a b sub = omega arith
size-mono (suc n) a b sub =
    let up = size-mono n a b (λ i lt. sub i (omega arith)) in
    let here : cond (a n) 1 0 ≤ cond (b n) 1 0 = one_step (a n) (b n) (sub n (omega arith)) in omega arith
  where
    one_step : (x y : Bool) → (x ≡ true → y ≡ true) → cond x 1 0 ≤ cond y 1 0
    one_step false y h = omega arith
    one_step true y h = rw (h refl) (omega arith)

-- two sets together have at most as many as each by itself
pub size-or : (n : ℕ) (a b : ShareSet) → size n (λ i. a i || b i) ≤ size n a + size n b
size-or zero a b = omega arith
size-or (suc n) a b =
    let up = size-or n a b in
    let here : cond (a n || b n) 1 0 ≤ cond (a n) 1 0 + cond (b n) 1 0 = one_step (a n) (b n) in omega arith
  where
    one_step : (x y : Bool) → cond (x || y) 1 0 ≤ cond x 1 0 + cond y 1 0
    one_step true y = omega arith
    one_step false y = omega arith

-- a set of none, and one of all
pub size-none : (n : ℕ) (a : ShareSet) → ((i : ℕ) → i < n → a i ≡ false) → size n a ≡ 0
size-none zero a none = refl
size-none (suc n) a none = rw (size-none n a (λ i lt. none i (omega arith)), none n (omega arith)) refl

pub size-all : (n : ℕ) (a : ShareSet) → ((i : ℕ) → i < n → a i ≡ true) → size n a ≡ n
size-all zero a all = refl
size-all (suc n) a all = let up = size-all n a (λ i lt. all i (omega arith)) in rw (up, all n (omega arith)) (omega arith)

-- a set in which all that is in it is one number
size-one : (n o : ℕ) (a : ShareSet) → ((i : ℕ) → a i ≡ true → i ≡ o) → size n a ≤ 1
size-one zero o a only = omega arith
size-one (suc n) o a only = go (size-one n o a only) (a n) refl
  where
    none_below : a n ≡ true → (i : ℕ) → i < n → a i ≡ false
    none_below at i lt = false_from_ne_true (a i) (λ h. let here = only i h in let there = only n at in omega arith)

    go : size n a ≤ 1 → (b : Bool) → a n ≡ b → size n a + cond (a n) 1 0 ≤ 1
    go up true at = let none = size-none n a (none_below at) in rw at (omega arith)
    go up false at = rw at (omega arith)

-- Where each probe passes for one number at most, its owner, the probes together pass for no more numbers than there are probes.
pub size-owned : {A : Type 0} (n : ℕ) (test : ℕ → A → Bool) (owner : A → ℕ) (Q : List A) → ((i : ℕ) (w : A) → test i w ≡ true → i ≡ owner w) →
    size n (λ i. list_any (test i) Q) ≤ length Q
size-owned n test owner [] own = let none = size-none n (λ i. false) (λ i lt. refl) in omega arith
size-owned n test owner (w ∷ Q) own =
    let up = size-owned n test owner Q own in
    let here = size-one n (owner w) (λ i. test i w) (λ i h. own i w h) in
    let both = size-or n (λ i. test i w) (λ i. list_any (test i) Q) in omega arith

-- either of two tests
pub list_any-or : (f g : Wire → Bool) (Q : List Wire) → (list_any f Q || list_any g Q) ≡ list_any (λ w. f w || g w) Q
list_any-or f g [] = refl
list_any-or f g (w ∷ Q) = rw (← (list_any-or f g Q)) (regroup (f w) (g w) (list_any f Q) (list_any g Q))
  where
    regroup : (a b c d : Bool) → ((a || c) || (b || d)) ≡ ((a || b) || (c || d))
    regroup true b c d = refl
    regroup false true true d = refl
    regroup false true false d = refl
    regroup false false c d = refl

-- an element that passes
pub list_any-passes : (f : Wire → Bool) (Q : List Wire) (w : Wire) → Contains Q w → f w ≡ true → list_any f Q ≡ true
list_any-passes f Q w h passes = list_any_at f Q h.0 w h.1 (rw h.2 passes)
