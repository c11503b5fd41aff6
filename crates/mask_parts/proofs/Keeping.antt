-- What keeps a draft tidy: gates that take free values, and products whose second operand is refreshed first.
use Rattle.std.proofs.Common.{◌≡◌, ℕ, zero, suc, ◌+◌, ◌-◌, ◌<◌, ◌≤◌, ◌⊎◌, inl, inr, false, Option, Some, None, List, [], ◌∷◌, ◌++◌, length, slice_get, All, refl, ap, sym, ◌∙◌, subst, arith}
use Rattle.std.proofs.lemmas.Bool.{cases_lt, cases_order, lt-ltb, le-ltb, false≢true}
use Rattle.std.proofs.lemmas.List.Elements.{All-nil, All-cons, All-head}
use Rattle.std.proofs.lemmas.Option.{same_Some, slice_get_past}
use Rattle.mask_circuit.specs.declared.gates.Gate.{Gate}
use Rattle.mask_circuit.specs.declared.gates.Gate.TheVariants.{Zero, One, Xor, Not, And, Ref}
use Rattle.mask_circuit.specs.Netlist.{Netlist, AreGates, OperandsBelow, value_count, is_product}
use Rattle.mask_circuit.specs.Acceptance.{gate_at, Uses, IsTidy}
use Rattle.mask_circuit.proofs.GateAt.{gate_at_within, gate_at_operands}
use Rattle.mask_parts.specs.Drafts.{with_gates}
use Rattle.mask_parts.specs.Tables.{product_gates}
use Rattle.mask_parts.specs.Tidiness.{IsFree, KeepsTidy}
use Rattle.mask_parts.proofs.Growing.{value_count-with_gates, with_gates-with_gates, AreGates-with_gates}

-- GATES BY NUMBER

slice_get-append_left : {A : Type 0} (xs ys : List A) (k : ℕ) → k < length xs → slice_get (xs ++ ys) k ≡ slice_get xs k
slice_get-append_left [] ys k lt = absurd (omega arith)
slice_get-append_left (x ∷ xs) ys zero lt = refl
slice_get-append_left (x ∷ xs) ys (suc k) lt = slice_get-append_left xs ys k (omega arith)

slice_get-append_next : {A : Type 0} (xs ys : List A) (y : A) → slice_get (xs ++ y ∷ ys) (length xs) ≡ Some y
slice_get-append_next [] ys y = refl
slice_get-append_next (x ∷ xs) ys y = slice_get-append_next xs ys y

-- more gates leave those before
pub gate_at-old : (c : Netlist) (gs : List Gate) (v : ℕ) → v < value_count c → gate_at (with_gates c gs) v ≡ gate_at c v
unfolding with_gates
gate_at-old c gs v lt = elim (cases_lt v c.inputs) [
  | inl input ↦ rw (lt-ltb v c.inputs input) refl
  | inr le ↦ rw (le-ltb v c.inputs le) (slice_get-append_left c.gates gs (v - c.inputs) (omega arith))
]

-- the first of them makes the next value
pub gate_at-next : (c : Netlist) (gs : List Gate) (g : Gate) → gate_at (with_gates c (g ∷ gs)) (value_count c) ≡ Some g
unfolding with_gates
gate_at-next c gs g =
    let e : (c.inputs + length c.gates) - c.inputs ≡ length c.gates = omega arith in
    rw (le-ltb (value_count c) c.inputs (omega arith), e) (slice_get-append_next c.gates gs g)

pub gate_at-past : (c : Netlist) (v : ℕ) → value_count c ≤ v → gate_at c v ≡ None
gate_at-past c v le = rw (le-ltb v c.inputs (omega arith)) (slice_get_past c.gates (v - c.inputs) (omega arith))

-- what gates take are values
pub Uses-below : (c : Netlist) (u q : ℕ) → AreGates c.inputs c.gates → Uses u (gate_at c q) → u < value_count c
Uses-below c u q are = go (gate_at c q) refl
  where
    taken : (g : Gate) → OperandsBelow q g → Uses u (Some g) → u < q
    taken Zero below uses = absurd uses
    taken One below uses = absurd uses
    taken (Xor v w) below (inl e) = rw e below.0
    taken (Xor v w) below (inr e) = rw e below.1
    taken (Not v) below e = rw e below
    taken (And v w) below (inl e) = rw e below.0
    taken (And v w) below (inr e) = rw e below.1
    taken (Ref v) below e = rw e below

    go : (o : Option Gate) → gate_at c q ≡ o → Uses u o → u < value_count c
    go None is uses = absurd uses
    go (Some g) is uses =
        let lower = taken g (gate_at_operands c q g are is) uses in
        let within = gate_at_within c q g is in omega (arith, within.1)

-- ONE GATE MORE

module _ (c : Netlist) (g : Gate) where
  -- a gate is one of those before, or the new one
  gate_at-cases : (p : ℕ) (h : Gate) → gate_at (with_gates c (g ∷ [])) p ≡ Some h → (gate_at c p ≡ Some h) ⊎ ((p ≡ value_count c) × (h ≡ g))
  gate_at-cases p h is = elim (cases_lt p (value_count c)) [
    | inl lt ↦ inl (sym (gate_at-old c (g ∷ []) p lt) ∙ is)
    | inr le ↦
        let within = gate_at_within (with_gates c (g ∷ [])) p h is in
        let here : p ≡ value_count c = omega (arith, within.1, value_count-with_gates c (g ∷ [])) in
        inr (here, same_Some h g (sym is ∙ ap (gate_at (with_gates c (g ∷ []))) here ∙ gate_at-next c [] g))
  ]

  -- and what is taken is taken by one of those before, or by the new one
  Uses-cases : (u q : ℕ) → Uses u (gate_at (with_gates c (g ∷ [])) q) → Uses u (gate_at c q) ⊎ ((q ≡ value_count c) × Uses u (Some g))
  Uses-cases u q uses = elim (cases_order q (value_count c)) [
    | inl here ↦ inr (here, subst (Uses u) (ap (gate_at (with_gates c (g ∷ []))) here ∙ gate_at-next c [] g) uses)
    | inr (inl lt) ↦ inl (subst (Uses u) (gate_at-old c (g ∷ []) q lt) uses)
    | inr (inr past) ↦ absurd (subst (Uses u) (gate_at-past (with_gates c (g ∷ [])) q (omega (arith, value_count-with_gates c (g ∷ [])))) uses)
  ]

And≢other : (g : Gate) (u v : ℕ) → is_product g ≡ false → And u v ≡ g → ⊥
And≢other g u v other e = false≢true (sym other ∙ ap is_product (sym e))

second-And : (a b u v : ℕ) → And a b ≡ And u v → b ≡ v
second-And a b u v e = cc

first-And : (a b u v : ℕ) → And a b ≡ And u v → a ≡ u
first-And a b u v e = cc

-- a gate that is no product and takes free values
pub KeepsTidy-gate : (c : Netlist) (g : Gate) → AreGates c.inputs c.gates → is_product g ≡ false → ((u : ℕ) → Uses u (Some g) → IsFree c u) → IsTidy c →
    KeepsTidy c (with_gates c (g ∷ [])) (value_count c ∷ [])
KeepsTidy-gate c g are other free t = record {
  tidy = record {
    refreshed = λ p u v is.
        let r = t.refreshed p u v (before p u v is) in
        (r.0, gate_at-old c (g ∷ []) v (gate_at_within c v _ r.1).1 ∙ r.1);
    apart = λ p u v is. t.apart p u v (before p u v is);
    alone = λ p u v q is uses. elim (Uses-cases c g v q uses) [
      | inl old ↦ t.alone p u v q (before p u v is) old
      | inr new ↦ absurd (free v new.1 p u (before p u v is))
    ];
  };
  results_free = All-cons (IsFree (with_gates c (g ∷ []))) (value_count c) [] new_free (All-nil (IsFree (with_gates c (g ∷ []))));
  still_free = λ v below f p u is. f p u (before p u v is);
}
  where
    before : (p u v : ℕ) → gate_at (with_gates c (g ∷ [])) p ≡ Some (And u v) → gate_at c p ≡ Some (And u v)
    before p u v is = elim (gate_at-cases c g p (And u v) is) [ inl old ↦ old | inr new ↦ absurd (And≢other g u v other new.1) ]

    new_free : IsFree (with_gates c (g ∷ [])) (value_count c)
    new_free p u is =
        let old = before p u (value_count c) is in
        let operands = gate_at_operands c p (And u (value_count c)) are old in
        let within = gate_at_within c p (And u (value_count c)) old in omega (arith, operands.1, within.1)

-- A PRODUCT MORE

module _ (c : Netlist) (u v : ℕ) (are : AreGates c.inputs c.gates) (u_below : u < value_count c) (v_below : v < value_count c)
    (u_free : IsFree c u) (v_free : IsFree c v) (t : IsTidy c) where
  -- the refresh is value n, and the product comes behind it
  abbrev n : ℕ
  n = value_count c

  abbrev d : Netlist
  d = with_gates c (Ref v ∷ [])

  abbrev e : Netlist
  e = with_gates d (And u n ∷ [])

  refresh_keeps : KeepsTidy c d (n ∷ [])
  refresh_keeps = KeepsTidy-gate c (Ref v) are refl (λ w same. subst (IsFree c) (sym same) v_free) t

  counted : value_count d ≡ n + 1
  counted = value_count-with_gates c (Ref v ∷ [])

  refresh_unused : (q : ℕ) → Uses n (gate_at d q) → ⊥
  refresh_unused q uses = elim (Uses-cases c (Ref v) n q uses) [
    | inl old ↦ (let below = Uses-below c n q are old in omega arith)
    | inr new ↦ (let same : n ≡ v = new.1 in omega arith)
  ]

  product_tidy : IsTidy e
  product_tidy = record {
    refreshed = λ p a b is. elim (gate_at-cases d (And u n) p (And a b) is) [
      | inl old ↦
          let r = refresh_keeps.tidy.refreshed p a b old in
          (r.0, gate_at-old d (And u n ∷ []) b (gate_at_within d b _ r.1).1 ∙ r.1)
      | inr new ↦
          let same : b ≡ n = second-And a b u n new.1 in
          (v, ap (gate_at e) same ∙ gate_at-old d (And u n ∷ []) n (omega (arith, counted)) ∙ gate_at-next c [] (Ref v))
    ];
    apart = λ p a b is same. elim (gate_at-cases d (And u n) p (And a b) is) [
      | inl old ↦ refresh_keeps.tidy.apart p a b old same
      | inr new ↦ (let left : a ≡ u = first-And a b u n new.1 in let right : b ≡ n = second-And a b u n new.1 in omega arith)
    ];
    alone = λ p a b q is uses. elim (gate_at-cases d (And u n) p (And a b) is) [
      | inl old ↦ elim (Uses-cases d (And u n) b q uses) [
        | inl before ↦ refresh_keeps.tidy.alone p a b q old before
        | inr here ↦ absurd (old_only p a b old here.1)
      ]
      | inr new ↦ elim (Uses-cases d (And u n) b q uses) [
        | inl before ↦ absurd (refresh_unused q (subst (λ (w : ℕ). Uses w (gate_at d q)) (second-And a b u n new.1) before))
        | inr here ↦ here.0 ∙ sym new.0
      ]
    ];
  }
    where
      -- the new product takes no second operand of an earlier one
      old_only : (p a b : ℕ) → gate_at d p ≡ Some (And a b) → (b ≡ u) ⊎ (b ≡ n) → ⊥
      old_only p a b old (inl same) = refresh_keeps.still_free u u_below u_free p a (old ∙ ap (λ w. Some (And a w)) same)
      old_only p a b old (inr same) = All-head (IsFree d) n [] refresh_keeps.results_free p a (old ∙ ap (λ w. Some (And a w)) same)

  product_free : IsFree e (n + 1)
  product_free p a is = elim (gate_at-cases d (And u n) p (And a (n + 1)) is) [
    | inl old ↦
        let operands = gate_at_operands d p (And a (n + 1)) (AreGates-with_gates c (Ref v ∷ []) are (v_below, tt)) old in
        let within = gate_at_within d p (And a (n + 1)) old in omega (arith, operands.1, within.1, counted)
    | inr new ↦ (let same : n + 1 ≡ n = second-And a (n + 1) u n new.1 in omega arith)
  ]

  -- a product whose second operand is refreshed first
  pub KeepsTidy-product : KeepsTidy c (with_gates c (product_gates (value_count c) u v)) ((value_count c + 1) ∷ [])
  KeepsTidy-product = subst (λ (f : Netlist). KeepsTidy c f ((n + 1) ∷ [])) (with_gates-with_gates c (Ref v ∷ []) (And u n ∷ [])) (record {
    tidy = product_tidy;
    results_free = All-cons (IsFree e) (n + 1) [] product_free (All-nil (IsFree e));
    still_free = λ w below f p a is. elim (gate_at-cases d (And u n) p (And a w) is) [
      | inl old ↦ refresh_keeps.still_free w below f p a old
      | inr new ↦ (let same : w ≡ n = second-And a w u n new.1 in absurd (omega arith))
    ];
  })

-- ONE AFTER ANOTHER

-- nothing more keeps all
pub KeepsTidy-refl : (c : Netlist) → IsTidy c → KeepsTidy c c []
KeepsTidy-refl c t = record { tidy = t; results_free = All-nil (IsFree c); still_free = λ v below free. free }

pub KeepsTidy-then : (c d e : Netlist) (us vs : List ℕ) → value_count c ≤ value_count d → KeepsTidy c d us → KeepsTidy d e vs → KeepsTidy c e vs
KeepsTidy-then c d e us vs le h k = record {
  tidy = k.tidy;
  results_free = k.results_free;
  still_free = λ v below free. k.still_free v (omega arith) (h.still_free v below free);
}

-- what was free is free afterwards
pub IsFree-All : (c d : Netlist) (us vs : List ℕ) → KeepsTidy c d vs → All (λ u. u < value_count c) us → All (IsFree c) us → All (IsFree d) us
IsFree-All c d us vs h below free = λ k z lt. h.still_free _ (below k z lt) (free k z lt)
