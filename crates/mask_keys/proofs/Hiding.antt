-- Fewer lines of a split than there are show nothing of the key.
use Rattle.std.proofs.Common.{◌≡◌, ℕ, suc, ◌*◌, ◌<◌, ◌==◌, nat_lt, Bool, true, false, cond, List, [], map, length, get_or, Contains, refl, sym, ap, ◌∙◌, arith, eq-eqb, eqb-true}
use Rattle.std.specs.List.{list_any}
use Rattle.std.proofs.lemmas.Bool.{ltb-true, ltb-false}
use Rattle.std.proofs.lemmas.List.{ext_get_or, get_or-map, get_or_past, length-map}
use Rattle.std.proofs.lemmas.List.Folds.{list_any_at}
use Rattle.mask_bits.specs.Reading.{low}
use Rattle.mask_bits.proofs.Bytes.{length-low}
use Rattle.mask_circuit.specs.Ring.{bits}
use Rattle.mask_circuit.specs.Sharing.{listed, all_shared}
use Rattle.mask_circuit.specs.Wires.{Shares, each}
use Rattle.mask_circuit.specs.Probing.{sum_over_tapes}
use Rattle.mask_circuit.specs.Privacy.{sharing, sum_over_sharings}
use Rattle.mask_circuit.proofs.Places.{length-each}
use Rattle.mask_shares.proofs.Lists.{get_or-each, each-same}
use Rattle.mask_laws.proofs.Sets.{size-owned}
use Rattle.mask_laws.proofs.Sharings.{sum_over_sharings-same, length-all_shared}
use Rattle.mask_laws.proofs.Tapes.{sum_over_tapes-same}
use Rattle.mask_laws.proofs.Members.{map-same_in}
use Rattle.mask_keys.specs.Splitting.{packed, shares_at, split_line, split_lines, split_bits}
use Rattle.mask_keys.specs.Laws.{shown, are_same, split_hits, SplitHides}
use Rattle.mask_keys.proofs.Sharing.{length-split_lines, get_or-split_lines}

-- LINES BY NUMBER

map-by_number : (f : List Bool → Bool) (xs : List (List Bool)) → map f xs ≡ each (λ v. f (get_or xs v [])) (length xs)
map-by_number f xs =
    let long = length-map xs f in
    let made = length-each (λ v. f (get_or xs v [])) (length xs) in
    ext_get_or false (map f xs) (each (λ v. f (get_or xs v [])) (length xs)) (long ∙ sym made)
    (λ k lt. get_or-map f xs k [] false (omega arith) ∙ sym (get_or-each (λ v. f (get_or xs v [])) (length xs) k false (omega arith)))

-- line k of n bytes, of the shares s of all bits; none past the last one
line_of : ℕ → ℕ → (ℕ → Shares Bool) → ℕ → List ℕ
line_of d n s k = cond (nat_lt k (suc d)) (packed n (each (λ v. s v k) (8 * n))) []

by_number : (d k : ℕ) (key : List ℕ) (coins : List Bool) →
    split_line d key coins k ≡ packed (length key) (each (λ v. sharing (suc d) (low key) coins v k) (8 * length key))
unfolding split_line shares_at
by_number d k key coins =
    ap (packed (length key)) (map-by_number (λ s. listed bits s k) (all_shared bits d (low key) coins)
    ∙ ap (each (λ v. sharing (suc d) (low key) coins v k)) (length-all_shared bits d (low key) coins ∙ length-low key))

-- the lines of a split are those of the shares
line_of-split : (d : ℕ) (key : List ℕ) (coins : List Bool) (k : ℕ) → get_or (split_lines d key coins) k [] ≡ line_of d (length key) (sharing (suc d) (low key) coins) k
unfolding line_of
line_of-split d key coins k = go (nat_lt k (suc d)) refl
  where
    go : (t : Bool) → nat_lt k (suc d) ≡ t → get_or (split_lines d key coins) k []
        ≡ cond t (packed (length key) (each (λ v. sharing (suc d) (low key) coins v k) (8 * length key))) []
    go true at = let below = ltb-true k (suc d) at in get_or-split_lines d key coins k (omega arith) ∙ by_number d k key coins
    go false at = let past = ltb-false k (suc d) at in get_or_past (split_lines d key coins) k [] (omega (arith, length-split_lines d key coins))

-- what is counted of the shares
hit : ℕ → ℕ → List ℕ → List (List ℕ) → (ℕ → Shares Bool) → ℕ
hit d n P v s = cond (are_same (map (line_of d n s) P) v) 1 0

split_hits-sharings : (d : ℕ) (P key : List ℕ) (v : List (List ℕ)) → split_hits d key P v ≡ sum_over_sharings (suc d) (low key) (hit d (length key) P v)
unfolding hit
split_hits-sharings d P key v =
    let long = length-low key in
    let count : split_bits d key ≡ d * length (low key) = rw long (omega arith) in
    ap (λ (m : ℕ). sum_over_tapes m (λ coins. cond (are_same (shown P (split_lines d key coins)) v) 1 0)) count
    ∙ sum_over_tapes-same (d * length (low key)) _ _ (λ coins long. ap (λ (lines : List (List ℕ)). cond (are_same lines v) 1 0)
    (map-same_in (λ k. get_or (split_lines d key coins) k []) (line_of d (length key) (sharing (suc d) (low key) coins)) P (λ k in_P. line_of-split d key coins k)))

-- THE LINES THAT ARE SHOWN

-- whether a line is shown
abbrev is_shown : List ℕ → ℕ → Bool
is_shown P k = list_any (λ (p : ℕ). p == k) P

shown-Contains : (P : List ℕ) (k : ℕ) → Contains P k → is_shown P k ≡ true
shown-Contains P k h = list_any_at (λ (p : ℕ). p == k) P h.0 k h.1 (eq-eqb _ _ h.2)

-- what is counted depends on the shares of these lines alone
hit-depends : (d n : ℕ) (P : List ℕ) (v : List (List ℕ)) (s t : ℕ → Shares Bool) → ((u i : ℕ) → i < suc d → is_shown P i ≡ true → s u i ≡ t u i) → hit d n P v s ≡ hit d n P v t
unfolding hit line_of
hit-depends d n P v s t agree =
    ap (λ (lines : List (List ℕ)). cond (are_same lines v) 1 0) (map-same_in (line_of d n s) (line_of d n t) P (λ k in_P. same k in_P (nat_lt k (suc d)) refl))
  where
    same : (k : ℕ) → Contains P k → (b : Bool) → nat_lt k (suc d) ≡ b → cond b (packed n (each (λ u. s u k) (8 * n))) [] ≡ cond b (packed n (each (λ u. t u k) (8 * n))) []
    same k in_P false at = refl
    same k in_P true at = ap (packed n) (each-same (λ u. s u k) (λ u. t u k) (8 * n) (λ u lt. agree u k (ltb-true k (suc d) at) (shown-Contains P k in_P)))

pub split_hides : SplitHides
split_hides d P few x y same v =
    let long_x = length-low x in
    let long_y = length-low y in
    let at_most = size-owned (suc d) (λ i p. p == i) (λ p. p) P (λ i p h. sym (eqb-true p i h)) in
    split_hits-sharings d P x v
    ∙ sum_over_sharings-same (suc d) (low x) (low y) (λ u i. is_shown P i) (hit d (length x) P v) (omega arith) (omega arith) (λ u lt. omega arith)
    (hit-depends d (length x) P v)
    ∙ ap (λ (n : ℕ). sum_over_sharings (suc d) (low y) (hit d n P v)) same
    ∙ sym (split_hits-sharings d P y v)
