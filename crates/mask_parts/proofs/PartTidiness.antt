-- A sound table keeps a draft tidy, and later steps may take what its flags say.
use Rattle.std.proofs.Common.{◌≡◌, ℕ, zero, suc, ◌+◌, ◌-◌, ◌<◌, ◌≤◌, ◌⊎◌, inl, inr, Bool, true, false, ◌&&◌, Some, List, [], ◌∷◌, ◌++◌, length, map, All, refl, ap, sym, ◌∙◌, subst, arith, add-zero, length-append}
use Rattle.std.proofs.lemmas.Bool.{cases_lt, false≢true, ltb-true, and_parts}
use Rattle.std.proofs.lemmas.List.{get_or_append_left, get_or-append-add}
use Rattle.std.proofs.lemmas.List.Elements.{All-nil, All-cons, All-head}
use Rattle.mask_circuit.specs.declared.gates.Gate.{Gate}
use Rattle.mask_circuit.specs.declared.gates.Gate.TheVariants.{Xor as XorGate, Not as NotGate}
use Rattle.mask_circuit.specs.Netlist.{Netlist, AreGates, value_count, is_product}
use Rattle.mask_circuit.specs.Value.{value_at}
use Rattle.mask_circuit.specs.Acceptance.{Uses, IsTidy}
use Rattle.mask_parts.specs.declared.tables.Place.{Place}
use Rattle.mask_parts.specs.declared.tables.Place.TheVariants.{Given, Made}
use Rattle.mask_parts.specs.declared.tables.Step.{Step}
use Rattle.mask_parts.specs.declared.tables.Step.TheVariants.{Xor, Not, Product}
use Rattle.mask_parts.specs.Drafts.{with_gates}
use Rattle.mask_parts.specs.Tables.{place_value, product_gates, step_gates, step_usable, gates_from, usable_from, part_usable, is_place, is_step, are_steps, is_part, with_part}
use Rattle.mask_parts.specs.Tidiness.{IsFree, KeepsTidy}
use Rattle.mask_parts.proofs.Growing.{value_count-with_gates, with_gates-nil, with_gates-with_gates, AreGates-with_gates}
use Rattle.mask_parts.proofs.Keeping.{KeepsTidy-gate, KeepsTidy-product, KeepsTidy-refl, KeepsTidy-then, IsFree-All}
use Rattle.mask_parts.proofs.PartGates.{IsPlace-from_test, ArePlaces-from_test, AreGates-step, place_value-below, length-step_gates, usable-within}

-- the values from n on that are flagged are free
abbrev pub AreFree : Netlist → ℕ → List Bool → Type 0
AreFree c n made = (k : ℕ) → value_at made k ≡ true → IsFree c (n + k)

-- a flag among more flags is one of the first, or one of the others
flag_cases : (made more : List Bool) (k : ℕ) → value_at (made ++ more) k ≡ true →
    (value_at made k ≡ true) ⊎ ((i : ℕ) × (k ≡ length made + i) × (value_at more i ≡ true))
flag_cases made more k e = elim (cases_lt k (length made)) [
  | inl lt ↦ inl (sym (get_or_append_left made more false k lt) ∙ e)
  | inr le ↦
      let i = k - length made in
      let at : k ≡ length made + i = omega arith in
      inr (i, at, sym (get_or-append-add made more i false) ∙ ap (value_at (made ++ more)) (sym at) ∙ e)
]

-- what one more draft leaves free, and one more value
AreFree-one : (c d : Netlist) (n : ℕ) (made : List Bool) (us : List ℕ) → value_count c ≡ n + length made → AreFree c n made → KeepsTidy c d us →
    IsFree d (n + length made) → AreFree d n (made ++ true ∷ [])
AreFree-one c d n made us count free keeps new k e = elim (flag_cases made (true ∷ []) k e) [
  | inl old ↦ (let within = usable-within made k old in keeps.still_free (n + k) (omega arith) (free k old))
  | inr later ↦ go later.0 later.1 later.2
]
  where
    go : (i : ℕ) → k ≡ length made + i → value_at (true ∷ []) i ≡ true → IsFree d (n + k)
    go zero at flag = let same : n + length made ≡ n + k = omega arith in subst (IsFree d) same new
    go (suc i) at flag = absurd (false≢true flag)

-- so for a product, whose refresh isn't flagged
AreFree-product : (c d : Netlist) (n : ℕ) (made : List Bool) (us : List ℕ) → value_count c ≡ n + length made → AreFree c n made → KeepsTidy c d us →
    IsFree d (n + length made + 1) → AreFree d n (made ++ false ∷ true ∷ [])
AreFree-product c d n made us count free keeps new k e = elim (flag_cases made (false ∷ true ∷ []) k e) [
  | inl old ↦ (let within = usable-within made k old in keeps.still_free (n + k) (omega arith) (free k old))
  | inr later ↦ go later.0 later.1 later.2
]
  where
    go : (i : ℕ) → k ≡ length made + i → value_at (false ∷ true ∷ []) i ≡ true → IsFree d (n + k)
    go zero at flag = absurd (false≢true flag)
    go (suc zero) at flag = let same : n + length made + 1 ≡ n + k = omega arith in subst (IsFree d) same new
    go (suc (suc i)) at flag = absurd (false≢true flag)

-- WHAT A STEP KEEPS

-- a draft on which a part is laid: it has made the flagged values
record IsBegun (c : Netlist) (n : ℕ) (xs : List ℕ) (made : List Bool) : Type 0 where
  gates : AreGates c.inputs c.gates
  tidy : IsTidy c
  count : value_count c ≡ n + length made
  below : All (λ u. u < n) xs
  given_free : All (IsFree c) xs
  made_free : AreFree c n made

place_free : (c : Netlist) (n : ℕ) (xs : List ℕ) (made : List Bool) (p : Place) → IsBegun c n xs made → is_place (length xs) made p ≡ true →
    IsFree c (place_value n xs p)
place_free c n xs made (Given i) b e = b.given_free i 0 (ltb-true i (length xs) e)
place_free c n xs made (Made i) b e = b.made_free i e

place_below : (c : Netlist) (n : ℕ) (xs : List ℕ) (made : List Bool) (p : Place) → IsBegun c n xs made → is_place (length xs) made p ≡ true →
    place_value n xs p < value_count c
place_below c n xs made p b e = rw b.count (place_value-below n (length made) xs p b.below (IsPlace-from_test (length xs) made p e))

-- what is begun goes on behind a step
begun_on : (c d : Netlist) (n : ℕ) (xs : List ℕ) (made : List Bool) (s : Step) → d ≡ with_gates c (step_gates n xs (length made) s) →
    is_step (length xs) made s ≡ true → IsBegun c n xs made → (us : List ℕ) → KeepsTidy c d us → AreFree d n (made ++ step_usable s) → IsBegun d n xs (made ++ step_usable s)
begun_on c d n xs made s is sound b us keeps free =
    let m = length made in
    let operands : AreGates (value_count c) (step_gates n xs m s) =
    rw b.count (AreGates-step n m xs s b.below (ArePlaces-from_test (length xs) made s sound)) in
    record {
      gates = rw is (AreGates-with_gates c (step_gates n xs m s) b.gates operands);
      tidy = keeps.tidy;
      count = ap value_count is ∙ omega (arith, b.count, value_count-with_gates c (step_gates n xs m s), length-step_gates n m xs s, length-append made (step_usable s));
      below = b.below;
      given_free = IsFree-All c d xs us keeps (λ k z lt. let x = b.below k z lt in omega (arith, b.count)) b.given_free;
      made_free = free;
    }

-- what a step keeps, where it makes these values
record IsKept (c d : Netlist) (n : ℕ) (made : List Bool) : Type 0 where
  results : List ℕ
  keeps : KeepsTidy c d results
  free : AreFree d n made

-- a step of one gate
gate_kept : (c : Netlist) (n : ℕ) (xs : List ℕ) (made : List Bool) (g : Gate) → IsBegun c n xs made → is_product g ≡ false → ((u : ℕ) → Uses u (Some g) → IsFree c u) →
    IsKept c (with_gates c (g ∷ [])) n (made ++ true ∷ [])
gate_kept c n xs made g b other free =
    let d = with_gates c (g ∷ []) in
    let keeps = KeepsTidy-gate c g b.gates other free b.tidy in
    record {
      results = value_count c ∷ [];
      keeps = keeps;
      free = AreFree-one c d n made (value_count c ∷ []) b.count b.made_free keeps (subst (IsFree d) b.count (All-head (IsFree d) (value_count c) [] keeps.results_free));
    }

step_kept : (c : Netlist) (n : ℕ) (xs : List ℕ) (made : List Bool) (s : Step) → IsBegun c n xs made → is_step (length xs) made s ≡ true →
    IsKept c (with_gates c (step_gates n xs (length made) s)) n (made ++ step_usable s)
step_kept c n xs made (Xor p q) b sound =
    gate_kept c n xs made (XorGate (place_value n xs p) (place_value n xs q)) b refl
    (λ u uses. elim uses [
      | inl e ↦ subst (IsFree c) (sym e) (place_free c n xs made p b (and_parts _ _ sound).0)
      | inr e ↦ subst (IsFree c) (sym e) (place_free c n xs made q b (and_parts _ _ sound).1)
    ])
step_kept c n xs made (Not p) b sound =
    gate_kept c n xs made (NotGate (place_value n xs p)) b refl (λ u e. subst (IsFree c) (sym e) (place_free c n xs made p b sound))
step_kept c n xs made (Product p q) b sound =
    let u = place_value n xs p in
    let v = place_value n xs q in
    let left = (and_parts _ _ sound).0 in
    let right = (and_parts _ _ sound).1 in
    let keeps = KeepsTidy-product c u v b.gates (place_below c n xs made p b left) (place_below c n xs made q b right)
    (place_free c n xs made p b left) (place_free c n xs made q b right) b.tidy in
    subst (λ (k : ℕ). IsKept c (with_gates c (product_gates k u v)) n (made ++ false ∷ true ∷ [])) b.count
    (let d = with_gates c (product_gates (value_count c) u v) in
    record {
      results = (value_count c + 1) ∷ [];
      keeps = keeps;
      free = AreFree-product c d n made ((value_count c + 1) ∷ []) b.count b.made_free keeps
          (subst (λ (k : ℕ). IsFree d (k + 1)) b.count (All-head (IsFree d) (value_count c + 1) [] keeps.results_free));
    })

-- WHAT A PART KEEPS

gates_kept : (c : Netlist) (n : ℕ) (xs : List ℕ) (made : List Bool) (ss : List Step) → IsBegun c n xs made → are_steps (length xs) made ss ≡ true →
    KeepsTidy c (with_gates c (gates_from n xs (length made) ss)) [] × AreFree (with_gates c (gates_from n xs (length made) ss)) n (usable_from made ss)
gates_kept c n xs made [] b sound = rw (with_gates-nil c) (KeepsTidy-refl c b.tidy, b.made_free)
gates_kept c n xs made (s ∷ ss) b sound =
    let m = length made in
    let here = step_gates n xs m s in
    let d = with_gates c here in
    let k = step_kept c n xs made s b (and_parts _ _ sound).0 in
    let rest : ℕ → List Gate = λ j. gates_from n xs j ss in
    let grown : length (made ++ step_usable s) ≡ m + length (step_usable s) = length-append made (step_usable s) in
    let whole : with_gates d (rest (length (made ++ step_usable s))) ≡ with_gates c (here ++ rest (m + length (step_usable s))) =
    ap (λ (j : ℕ). with_gates d (rest j)) grown ∙ with_gates-with_gates c here (rest (m + length (step_usable s))) in
    subst (λ (e : Netlist). KeepsTidy c e [] × AreFree e n (usable_from (made ++ step_usable s) ss)) whole
    (let more : value_count c ≤ value_count d = omega (arith, value_count-with_gates c here) in
    let on = begun_on c d n xs made s refl (and_parts _ _ sound).0 b k.results k.keeps k.free in
    let up = gates_kept d n xs (made ++ step_usable s) ss on (and_parts _ _ sound).1 in
    (KeepsTidy-then c d _ k.results [] more k.keeps up.0, up.1))

-- a part on a tidy draft keeps it tidy, and the values that its table flags are free
pub KeepsTidy-part : (c : Netlist) (xs : List ℕ) (ss : List Step) → AreGates c.inputs c.gates → All (λ u. u < value_count c) xs → is_part (length xs) ss ≡ true →
    IsTidy c → All (IsFree c) xs → KeepsTidy c (with_part c xs ss) [] × AreFree (with_part c xs ss) (value_count c) (part_usable ss)
unfolding with_part
KeepsTidy-part c xs ss are below sound t free = gates_kept c (value_count c) xs [] ss (record {
  gates = are;
  tidy = t;
  count = sym (add-zero (value_count c));
  below = below;
  given_free = free;
  made_free = λ k e. absurd (false≢true e);
}) sound

-- RESULTS

-- these values of a part may all be taken
abbrev pub are_usable : List Bool → List ℕ → Bool
are_usable made [] = true
are_usable made (k ∷ ks) = value_at made k && are_usable made ks

pub IsFree-usable : (d : Netlist) (n : ℕ) (made : List Bool) (ks : List ℕ) → AreFree d n made → are_usable made ks ≡ true → All (IsFree d) (map (λ k. n + k) ks)
IsFree-usable d n made [] free usable = All-nil (IsFree d)
IsFree-usable d n made (k ∷ ks) free usable =
    All-cons (IsFree d) (n + k) (map (λ k. n + k) ks) (free k (and_parts _ _ usable).0) (IsFree-usable d n made ks free (and_parts _ _ usable).1)

-- so a part keeps a draft tidy, whose results are such values
pub KeepsTidy-usable : (c d : Netlist) (n : ℕ) (made : List Bool) (ks us : List ℕ) → are_usable made ks ≡ true → map (λ k. n + k) ks ≡ us → KeepsTidy c d [] → AreFree d n made
    → KeepsTidy c d us
KeepsTidy-usable c d n made ks us usable are kept free =
    record { tidy = kept.tidy; results_free = subst (All (IsFree d)) are (IsFree-usable d n made ks free usable); still_free = kept.still_free }
