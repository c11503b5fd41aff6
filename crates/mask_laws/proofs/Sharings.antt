-- Sums over all sharings of bits.
use Rattle.std.proofs.Common.{◌≡◌, ℕ, zero, suc, pred, ◌+◌, ◌*◌, ◌<◌, ◌≤◌, Bool, true, false, cond, List, [], ◌∷◌, ◌++◌, length, take, drop, fold, slice_index_or, refl, ap, ap₂, sym, ◌∙◌, arith}
use Rattle.std.proofs.lemmas.Bool.{true≢false}
use Rattle.std.proofs.lemmas.List.{take-take, drop-take}
use Rattle.mask_circuit.specs.Value.{xor}
use Rattle.mask_circuit.specs.Ring.{Ring, bits}
use Rattle.mask_circuit.specs.Wires.{Shares}
use Rattle.mask_circuit.specs.Probing.{ShareSets, size, sum_over_tapes}
use Rattle.mask_circuit.specs.Need.{ShareSet}
use Rattle.mask_circuit.specs.Shift.{add_bits}
use Rattle.mask_circuit.specs.Sharing.{listed, all_listed, shared, all_shared}
use Rattle.mask_circuit.specs.Privacy.{sharing, sum_over_sharings}
use Rattle.mask_laws.proofs.Bits.{xor-false, xor_comm}
use Rattle.mask_laws.proofs.BitSums.{xor_left_comm, xor_cancel}
use Rattle.mask_laws.proofs.Shifts.{take_front, drop_front}
use Rattle.mask_laws.proofs.Tapes.{sum_over_tapes-same, sum_over_tapes-add, sum_over_tapes-masked}

-- ONE BIT

-- a set of fewer than n of the numbers below n leaves one out
pub left_out : (n : ℕ) (set : ShareSet) → size n set < n → (i : ℕ) × (i < n) × (set i ≡ false)
left_out zero set few = absurd (omega arith)
left_out (suc n) set few = go (set n) refl (left_out n set)
  where
    go : (b : Bool) → set n ≡ b → (size n set < n → (i : ℕ) × (i < n) × (set i ≡ false)) → (i : ℕ) × (i < suc n) × (set i ≡ false)
    go true is up =
        let here : size n set + cond (set n) 1 0 ≡ size n set + 1 = ap (λ b. size n set + cond b 1 0) is in
        let r = up (omega arith) in
        (r.0, omega (arith, r.1), r.2)
    go false is up = (n, omega arith, is)

-- no mask changes nothing
add_bits-nil : (r : List Bool) → add_bits r [] ≡ r
add_bits-nil [] = refl
add_bits-nil (b ∷ r) = refl

-- the mask that adds e to coin k
at_coin : ℕ → Bool → List Bool
at_coin zero e = e ∷ []
at_coin (suc k) e = false ∷ at_coin k e

-- it adds e to the sum of all coins ..
fold-at_coin : (coins : List Bool) (k : ℕ) (b e : Bool) → k < length coins → fold xor b (add_bits coins (at_coin k e)) ≡ fold xor (xor b e) coins
unfolding at_coin
fold-at_coin [] k b e lt = absurd (omega arith)
fold-at_coin (c ∷ coins) zero b e lt =
    let first : xor b (xor c e) ≡ xor (xor b e) c = simp (xor_comm, xor_left_comm) in
    ap₂ (λ z r. fold xor z r) first (add_bits-nil coins)
fold-at_coin (c ∷ coins) (suc k) b e lt =
    let first : xor (xor b (xor c false)) e ≡ xor (xor b e) c = rw (xor-false c) (simp (xor_comm, xor_left_comm)) in
    fold-at_coin coins k (xor b (xor c false)) e (omega arith) ∙ ap (λ z. fold xor z coins) first

-- .. and leaves the other coins
other-at_coin : (coins : List Bool) (k j : ℕ) (e : Bool) → (j ≡ k → ⊥) → slice_index_or (add_bits coins (at_coin k e)) j false ≡ slice_index_or coins j false
unfolding at_coin
other-at_coin [] k j e ne = refl
other-at_coin (c ∷ coins) zero zero e ne = absurd (ne refl)
other-at_coin (c ∷ coins) zero (suc j) e ne = ap (λ r. slice_index_or r j false) (add_bits-nil coins)
other-at_coin (c ∷ coins) (suc k) zero e ne = xor-false c
other-at_coin (c ∷ coins) (suc k) (suc j) e ne = other-at_coin coins k j e (λ same. ne (ap suc same))

-- the mask under which the shares of a and b are the same but for share i: for share 0 there is nothing to add
mask_for : ℕ → Bool → Bool → List Bool
mask_for zero a b = []
mask_for (suc k) a b = at_coin k (xor a b)

shared-masked : (i j : ℕ) (a b : Bool) (coins : List Bool) → i < suc (length coins) → (j ≡ i → ⊥) →
    listed bits (shared bits a coins) j ≡ listed bits (shared bits b (add_bits coins (mask_for i a b))) j
unfolding mask_for
shared-masked zero zero a b coins lt ne = absurd (ne refl)
shared-masked zero (suc j) a b coins lt ne = ap (λ r. slice_index_or r j false) (sym (add_bits-nil coins))
shared-masked (suc k) zero a b coins lt ne =
    let back : xor b (xor a b) ≡ a = ap (xor b) (xor_comm a b) ∙ xor_cancel b a in
    sym (fold-at_coin coins k b (xor a b) (omega arith) ∙ ap (λ z. fold xor z coins) back)
shared-masked (suc k) (suc j) a b coins lt ne = sym (other-at_coin coins k j (xor a b) (λ same. ne (ap suc same)))

-- ALL BITS

-- the sum of f over all sharings, with d coins for each bit, as lists
sum_over_lists : ℕ → List Bool → (List (List Bool) → ℕ) → ℕ
sum_over_lists d x f = sum_over_tapes (d * length x) (λ coins. f (all_shared bits d x coins))

-- of one bit more
sum_over_lists-cons : (d : ℕ) (b : Bool) (x : List Bool) (f : List (List Bool) → ℕ) →
    sum_over_lists d (b ∷ x) f ≡ sum_over_tapes d (λ own. sum_over_lists d x (λ rest. f (shared bits b own ∷ rest)))
unfolding sum_over_lists
sum_over_lists-cons d b x f =
    let n = d * length x in
    let all : d * suc (length x) ≡ d + n = omega arith in
    ap (λ (k : ℕ). sum_over_tapes k (λ coins. f (all_shared bits d (b ∷ x) coins))) all
    ∙ sum_over_tapes-add d n (λ coins. f (all_shared bits d (b ∷ x) coins))
    ∙ sum_over_tapes-same d _ _ (λ own long. sum_over_tapes-same n _ _ (λ rest _.
    ap₂ (λ s t. f (shared bits b s ∷ all_shared bits d x t)) (take_front d own rest long) (drop_front d own rest long)))

-- of two functions that agree
sum_over_lists-agree : (d : ℕ) (x : List Bool) (f g : List (List Bool) → ℕ) → ((shares : List (List Bool)) → f shares ≡ g shares) →
    sum_over_lists d x f ≡ sum_over_lists d x g
unfolding sum_over_lists
sum_over_lists-agree d x f g agree = sum_over_tapes-same (d * length x) _ _ (λ coins _. agree (all_shared bits d x coins))

-- the lists have the same shares where the sets name them
AgreeOnLists : ℕ → ShareSets → List (List Bool) → List (List Bool) → Type 0
AgreeOnLists N I s t = (v i : ℕ) → i < N → I v i ≡ true → all_listed bits s v i ≡ all_listed bits t v i

-- f depends on these shares alone
DependsOnLists : ℕ → ShareSets → (List (List Bool) → ℕ) → Type 0
DependsOnLists N I f = (s t : List (List Bool)) → AgreeOnLists N I s t → f s ≡ f t

-- where only the first list of shares differs, and there only in a share that isn't named
agree_on_lists : (N i : ℕ) (I : ShareSets) (h h' : List Bool) (rest : List (List Bool)) → I 0 i ≡ false →
    ((j : ℕ) → (j ≡ i → ⊥) → listed bits h j ≡ listed bits h' j) → AgreeOnLists N I (h ∷ rest) (h' ∷ rest)
unfolding AgreeOnLists
agree_on_lists N i I h h' rest out same zero j lt named = same j (λ e. true≢false (sym named ∙ ap (I 0) e ∙ out))
agree_on_lists N i I h h' rest out same (suc v) j lt named = refl

-- behind a first list of shares f depends on the sets of the others
depends_behind : (N : ℕ) (I : ShareSets) (f : List (List Bool) → ℕ) (h : List Bool) → DependsOnLists N I f →
    DependsOnLists N (λ v. I (suc v)) (λ rest. f (h ∷ rest))
unfolding DependsOnLists AgreeOnLists
depends_behind N I f h depends s t agree = depends (h ∷ s) (h ∷ t) both
  where
    both : AgreeOnLists N I (h ∷ s) (h ∷ t)
    both zero i lt named = refl
    both (suc v) i lt named = agree v i lt named

-- Where the sets leave out a share of each bit, what depends on them alone has the same sum for any two lists of bits.
sum_over_lists-same : (d : ℕ) (x y : List Bool) (I : ShareSets) (f : List (List Bool) → ℕ) → length x ≡ length y →
    ((v : ℕ) → v < length x → size (suc d) (I v) < suc d) → DependsOnLists (suc d) I f → sum_over_lists d x f ≡ sum_over_lists d y f
unfolding DependsOnLists sum_over_lists
sum_over_lists-same d [] [] I f same few depends = refl
sum_over_lists-same d [] (b ∷ y) I f same few depends = absurd (omega arith)
sum_over_lists-same d (a ∷ x) [] I f same few depends = absurd (omega arith)
sum_over_lists-same d (a ∷ x) (b ∷ y) I f same few depends =
    let out = left_out (suc d) (I 0) (few 0 (omega arith)) in
    let m = mask_for out.0 a b in
    let of_b = λ (own : List Bool). sum_over_lists d y (λ rest. f (shared bits b own ∷ rest)) in
    let others : (own : List Bool) → sum_over_lists d x (λ rest. f (shared bits a own ∷ rest)) ≡ sum_over_lists d y (λ rest. f (shared bits a own ∷ rest))
    = λ own. sum_over_lists-same d x y (λ v. I (suc v)) (λ rest. f (shared bits a own ∷ rest)) (omega arith) (λ v lt. few (suc v) (omega arith))
    (depends_behind (suc d) I f (shared bits a own) depends) in
    let first : (own : List Bool) → length own ≡ d → sum_over_lists d y (λ rest. f (shared bits a own ∷ rest)) ≡ of_b (add_bits own m)
    = λ own long. sum_over_lists-agree d y _ _ (λ rest. depends (shared bits a own ∷ rest) (shared bits b (add_bits own m) ∷ rest)
    (agree_on_lists (suc d) out.0 I _ _ rest out.2 (λ j ne. shared-masked out.0 j a b own (omega (arith, out.1)) ne))) in
    sum_over_lists-cons d a x f
    ∙ sum_over_tapes-same d _ _ (λ own long. others own ∙ first own long)
    ∙ sum_over_tapes-masked d m of_b
    ∙ sym (sum_over_lists-cons d b y f)

-- So it is with shares by number.
pub sum_over_sharings-same : (N : ℕ) (x y : List Bool) (I : ShareSets) (f : (ℕ → Shares Bool) → ℕ) → 1 ≤ N → length x ≡ length y →
    ((v : ℕ) → v < length x → size N (I v) < N) →
    ((s t : ℕ → Shares Bool) → ((v i : ℕ) → i < N → I v i ≡ true → s v i ≡ t v i) → f s ≡ f t) →
    sum_over_sharings N x f ≡ sum_over_sharings N y f
unfolding sum_over_lists DependsOnLists AgreeOnLists
sum_over_sharings-same zero x y I f some same few depends = absurd (omega arith)
sum_over_sharings-same (suc d) x y I f some same few depends =
    sum_over_lists-same d x y I (λ ss. f (all_listed bits ss)) same few (λ s t agree. depends (all_listed bits s) (all_listed bits t) agree)

-- ONE TAPE

-- just d coins are used for each value
-- as many lists of shares as values
pub length-all_shared : {X : Type 0} (R : Ring X) (d : ℕ) (xs coins : List X) → length (all_shared R d xs coins) ≡ length xs
length-all_shared R d [] coins = refl
length-all_shared R d (x ∷ xs) coins = ap suc (length-all_shared R d xs (drop d coins))

pub all_shared-take : {X : Type 0} (R : Ring X) (d : ℕ) (xs coins : List X) → all_shared R d xs (take (d * length xs) coins) ≡ all_shared R d xs coins
all_shared-take R d [] coins = refl
all_shared-take {X} R d (x ∷ xs) coins =
    let more : d * suc (length xs) ≡ d + d * length xs = omega arith in
    let first : take d (take (d + d * length xs) coins) ≡ take d coins = take-take d (d + d * length xs) coins (omega arith) in
    let rest : drop d (take (d + d * length xs) coins) ≡ take (d * length xs) (drop d coins) = drop-take d (d * length xs) coins in
    ap (λ (n : ℕ). all_shared R d (x ∷ xs) (take n coins)) more
    ∙ ap₂ (λ (s t : List X). shared R x s ∷ all_shared R d xs t) first rest
    ∙ ap (λ (ss : List (List X)). shared R x (take d coins) ∷ ss) (all_shared-take R d xs (drop d coins))

-- so the coins behind these don't matter
pub sharing-front : (N : ℕ) (x own rest : List Bool) → length own ≡ pred N * length x → sharing N x (own ++ rest) ≡ sharing N x own
sharing-front N x own rest long =
    ap (all_listed bits) (sym (all_shared-take bits (pred N) x (own ++ rest)) ∙ ap (all_shared bits (pred N) x) (take_front (pred N * length x) own rest long))
