-- Flips: each demanded row that would change has a partner, and the flip of their bit touches nothing that is watched.
use Rattle.std.proofs.Common.{◌≡◌, ◌≢◌, ℕ, zero, suc, ◌+◌, ◌<◌, inl, inr, Bool, true, false, cond, not, ◌&&◌, ◌||◌, ◌==◌, nat_lt, List, length, Some, None, Option, refl, sym, ap, ◌∙◌, true≢false, arith, eq-eqb, eqb-true}
use Rattle.std.specs.List.{list_any}
use Rattle.std.proofs.lemmas.Bool.{false_from_ne_true, and_parts, not-true, eqb-false}
use Rattle.mask_circuit.specs.declared.gates.Wire.{Wire}
use Rattle.mask_circuit.specs.Probing.{size, same_wire}
use Rattle.mask_circuit.specs.Need.{ShareSet}
use Rattle.mask_circuit.specs.Shift.{is_probed, wire_between, least, partner, is_some_of}
use Rattle.mask_circuit.proofs.Places.{below_cases}
use Rattle.mask_laws.proofs.Sets.{size-or, size-all, size-owned, list_any-or}

-- THE LEAST NUMBER THAT PASSES

-- what is found is below n and passes
least-Some : (test : ℕ → Bool) (n k : ℕ) → least test n ≡ Some k → (k < n) × (test k ≡ true)
least-Some test zero k h = absurd (cc)
least-Some test (suc n) k h = go (least-Some test n k) (least test n) refl (test n) refl
  where
    go : (least test n ≡ Some k → (k < n) × (test k ≡ true)) → (o : Option ℕ) → least test n ≡ o → (b : Bool) → test n ≡ b →
        (k < suc n) × (test k ≡ true)
    go up (Some j) found b at =
        let same : Some j ≡ Some k = rw found at h in
        let below = up (found ∙ same) in (omega (arith, below.0), below.1)
    go up None none true at =
        let same : Some n ≡ Some k = rw (none, at) at h in
        let here : n ≡ k = cc in (omega arith, cc)
    go up None none false at = let never : None ≡ Some k = rw (none, at) at h in absurd (cc)

-- where nothing is found, none passes
least-None : (test : ℕ → Bool) (n : ℕ) → least test n ≡ None → (k : ℕ) → k < n → test k ≡ false
least-None test zero h k lt = absurd (omega arith)
least-None test (suc n) h k lt = go (least-None test n) (least test n) refl (test n) refl
  where
    go : (least test n ≡ None → (i : ℕ) → i < n → test i ≡ false) → (o : Option ℕ) → least test n ≡ o → (b : Bool) → test n ≡ b →
        test k ≡ false
    go up (Some j) found b at = let never : Some j ≡ None = rw found at h in absurd (cc)
    go up None none true at = let never : Some n ≡ None = rw (none, at) at h in absurd (cc)
    go up None none false at = elim (below_cases k n lt) [ inl l ↦ up none k l | inr e ↦ rw e at ]

-- PARTNERS

-- k can serve as the partner of row i: it is another row, neither touched nor demanded, and its wire with i isn't probed
pub record IsPartner (n : ℕ) (wire : ℕ → ℕ → Wire) (Q : List Wire) (T O : ShareSet) (i k : ℕ) : Type 0 where
  pub below : k < n
  pub apart : k ≢ i
  pub untouched : T k ≡ false
  pub free : O k ≡ false
  pub unprobed : is_probed Q (wire_between wire i k) ≡ false

-- the partner of a row, if there is one, can serve
pub partner-Some : (n : ℕ) (wire : ℕ → ℕ → Wire) (Q : List Wire) (T O : ShareSet) (i k : ℕ) → partner n wire Q T O i ≡ Some k →
    IsPartner n wire Q T O i k
partner-Some n wire Q T O i k found =
    let test : ℕ → Bool = λ j. not (j == i) && not (T j) && not (O j) && not (is_probed Q (wire_between wire i j)) in
    let h = least-Some test n k found in
    let last = and_parts (not (k == i) && not (T k) && not (O k)) (not (is_probed Q (wire_between wire i k))) h.1 in
    let third = and_parts (not (k == i) && not (T k)) (not (O k)) last.0 in
    let two = and_parts (not (k == i)) (not (T k)) third.0 in
    record {
      below = h.0;
      apart = eqb-false k i (not-true (k == i) two.0);
      untouched = not-true (T k) two.1;
      free = not-true (O k) third.1;
      unprobed = not-true (is_probed Q (wire_between wire i k)) last.1;
    }

-- A demanded row has a partner where the probes and the demanded rows together are fewer than the rows: each probe keeps
-- one row at most from serving, its owner.
pub has_partner : (n : ℕ) (wire : ℕ → ℕ → Wire) (Q : List Wire) (test : ℕ → Wire → Bool) (O : ShareSet) (i : ℕ) (owner : Wire → ℕ) →
    ((k : ℕ) (w : Wire) → (test k w || same_wire (wire_between wire i k) w) ≡ true → k ≡ owner w) →
    length Q + size n O < n → O i ≡ true → (k : ℕ) × (partner n wire Q (λ j. list_any (test j) Q) O i ≡ Some k)
has_partner n wire Q test O i owner own fits demanded = go (partner n wire Q (λ j. list_any (test j) Q) O i) refl
  where
    kept : ℕ → Bool
    kept k = list_any (λ w. test k w || same_wire (wire_between wire i k) w) Q

    one_reason : (same touched demanded' probed : Bool) → (same ≡ true → demanded' ≡ true) →
        (not same && not touched && not demanded' && not probed) ≡ false → (demanded' || (touched || probed)) ≡ true
    one_reason same touched true probed h e = refl
    one_reason same true false probed h e = refl
    one_reason same false false true h e = refl
    one_reason true false false false h e = h refl
    one_reason false false false false h e = cc

    all_kept : partner n wire Q (λ j. list_any (test j) Q) O i ≡ None → (k : ℕ) → k < n → (O k || kept k) ≡ true
    all_kept none k lt =
        rw (← (list_any-or (test k) (same_wire (wire_between wire i k)) Q))
        (one_reason (k == i) (list_any (test k) Q) (O k) (is_probed Q (wire_between wire i k)) (λ e. rw (eqb-true k i e) demanded)
        (least-None (λ j. not (j == i) && not (list_any (test j) Q) && not (O j) && not (is_probed Q (wire_between wire i j))) n none k lt))

    go : (o : Option ℕ) → partner n wire Q (λ j. list_any (test j) Q) O i ≡ o →
        (k : ℕ) × (partner n wire Q (λ j. list_any (test j) Q) O i ≡ Some k)
    go (Some k) found = (k, found)
    go None none =
        let all = size-all n (λ k. O k || kept k) (all_kept none) in
        let both = size-or n O kept in
        let few = size-owned n (λ k w. test k w || same_wire (wire_between wire i k) w) owner Q own in
        absurd (omega arith)

-- FLIPS

-- whether the bit of rows i and j is flipped for row i
abbrev pub flip : ℕ → (ℕ → ℕ → Wire) → List Wire → ShareSet → ShareSet → (ℕ → Bool) → ℕ → ℕ → Bool
flip n wire Q T O changed i j = (O i && not (T i) && changed i) && is_some_of (partner n wire Q T O i) j

-- what an option is, by its test
is_some_of-true : (o : Option ℕ) (j : ℕ) → is_some_of o j ≡ true → o ≡ Some j
is_some_of-true None j h = cc
is_some_of-true (Some k) j h = ap (λ m. Some m) (eqb-true k j h)

module _ (n : ℕ) (wire : ℕ → ℕ → Wire) (Q : List Wire) (T O : ShareSet) (changed : ℕ → Bool) where
  -- a flip for row i is one with its partner, and i is demanded and not touched
  flip-true : (i j : ℕ) → flip n wire Q T O changed i j ≡ true → (O i ≡ true) × (T i ≡ false) × IsPartner n wire Q T O i j
  flip-true i j h =
      let with_partner = and_parts (O i && not (T i) && changed i) (is_some_of (partner n wire Q T O i) j) h in
      let moved = and_parts (O i && not (T i)) (changed i) with_partner.0 in
      let row = and_parts (O i) (not (T i)) moved.0 in
      (row.0, not-true (T i) row.1, partner-Some n wire Q T O i j (is_some_of-true _ j with_partner.1))

  -- no flip touches a row of T ..
  pub flip-from_touched : (i j : ℕ) → T i ≡ true → flip n wire Q T O changed i j ≡ false
  flip-from_touched i j touched = false_from_ne_true _ (λ h. let f = flip-true i j h in true≢false (sym touched ∙ f.1))

  pub flip-to_touched : (i j : ℕ) → T i ≡ true → flip n wire Q T O changed j i ≡ false
  flip-to_touched i j touched = false_from_ne_true _ (λ h. let f = flip-true j i h in true≢false (sym touched ∙ f.2.untouched))

  -- .. or a probed wire ..
  pub flip-probed : (i j : ℕ) → is_probed Q (wire_between wire i j) ≡ true → flip n wire Q T O changed i j ≡ false
  flip-probed i j probed = false_from_ne_true _ (λ h. let f = flip-true i j h in true≢false (sym probed ∙ f.2.unprobed))

  -- .. and the flip for one row touches no other demanded row
  pub flip-to_demanded : (i j : ℕ) → O i ≡ true → flip n wire Q T O changed j i ≡ false
  flip-to_demanded i j demanded = false_from_ne_true _ (λ h. let f = flip-true j i h in true≢false (sym demanded ∙ f.2.free))

  -- a demanded row that isn't touched has its flips at its partner, if it changed
  pub flip-at_partner : (i j p : ℕ) → O i ≡ true → T i ≡ false → partner n wire Q T O i ≡ Some p →
      flip n wire Q T O changed i j ≡ (changed i && p == j)
  flip-at_partner i j p demanded untouched found = rw (demanded, untouched, found) refl

-- THE WIRE BETWEEN TWO ROWS

-- what holds of the wire either way holds of it
pub wire_between-is : (P : Wire → Type 0) (wire : ℕ → ℕ → Wire) (i k : ℕ) → P (wire i k) → P (wire k i) → P (wire_between wire i k)
wire_between-is P wire i k forth back = go (nat_lt i k)
  where
    go : (b : Bool) → P (cond b (wire i k) (wire k i))
    go true = forth
    go false = back

-- the row at the other end of the wire between a and b, seen from row i
pub other_end : ℕ → ℕ → ℕ → ℕ
other_end i a b = cond (a == i) b a

-- if the wire from i to k is the one from a to b, k is at its other end ..
pub other_end-forth : (i k a b : ℕ) → (i == a && k == b) ≡ true → k ≡ other_end i a b
unfolding other_end
other_end-forth i k a b h =
    let e = and_parts (i == a) (k == b) h in
    let at = eq-eqb a i (sym (eqb-true i a e.0)) in
    rw at (eqb-true k b e.1)

-- .. and so it is if the wire from k to i is
pub other_end-back : (i k a b : ℕ) → (k == a && i == b) ≡ true → k ≡ other_end i a b
unfolding other_end
other_end-back i k a b h =
    let e = and_parts (k == a) (i == b) h in
    let first = eqb-true k a e.0 in
    let second = eqb-true i b e.1 in
    go (a == i) refl first second
  where
    go : (here : Bool) → (a == i) ≡ here → k ≡ a → i ≡ b → k ≡ cond here b a
    go true at first second = first ∙ eqb-true a i at ∙ second
    go false at first second = first
