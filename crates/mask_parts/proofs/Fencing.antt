-- The fence: a circuit that is accepted and hands out nothing yet is strong once its values are fenced.
use Rattle.std.proofs.Common.{◌≡◌, ℕ, zero, suc, ◌+◌, ◌-◌, ◌<◌, ◌≤◌, ◌⊎◌, inl, inr, Bool, Some, List, [], ◌∷◌, ◌++◌, length, map, get_or, slice_get, All, refl, ap, ap₂, sym, ◌∙◌, subst, arith, zero-add, add-one}
use Rattle.std.specs.List.{range_with_len}
use Rattle.std.proofs.lemmas.Bool.{cases_lt}
use Rattle.std.proofs.lemmas.List.{length-map, map-append}
use Rattle.std.proofs.lemmas.List.Elements.{All-head, All-tail}
use Rattle.std.proofs.lemmas.List.FromFn.{length-range_with_len, get_or-range_with_len}
use Rattle.std.proofs.lemmas.Option.{same_Some}
use Rattle.mask_circuit.specs.declared.gates.Gate.{Gate}
use Rattle.mask_circuit.specs.declared.gates.Gate.TheVariants.{And, Ref}
use Rattle.mask_circuit.specs.Netlist.{Netlist, AreGates, IsWellFormed, value_count}
use Rattle.mask_circuit.specs.Value.{value_at, plain_values, plain}
use Rattle.mask_circuit.specs.Acceptance.{output_at, gate_at, IsTidy, Reaches, Input, ProductHere, RefreshHere, FromLeft, FromRight, FromNegated, IsAccepted, Uses, IsFenced, IsStrong}
use Rattle.mask_circuit.proofs.GateAt.{gate_at_within, gate_at_operands, gate_at_gate}
use Rattle.mask_parts.specs.Drafts.{with_gates, with_outputs, bits_of}
use Rattle.mask_parts.specs.Fences.{with_fence}
use Rattle.mask_parts.specs.Tidiness.{IsFree, KeepsTidy}
use Rattle.mask_parts.proofs.Growing.{value_count-with_gates, AreGates-with_gates, with_gates-nil, with_gates-with_gates}
use Rattle.mask_parts.proofs.Keeping.{gate_at-old, gate_at-past, Uses-below, KeepsTidy-gate, KeepsTidy-refl, KeepsTidy-then, IsFree-All}
use Rattle.mask_parts.proofs.Solving.{Solves, Solves-with_gates, bits_of-with_gates}

-- WHAT LATER GATES LEAVE

-- among the first k values, what reaches a source in d reaches it in c, where both have the same gates there
Reaches-before : (c d : Netlist) (k u s : ℕ) → d.inputs ≡ c.inputs → AreGates d.inputs d.gates → ((v : ℕ) → v < k → gate_at d v ≡ gate_at c v) → u < k → Reaches d u s → Reaches c u s
Reaches-before c d k u s ins are same lt (Input i) = Input (rw (sym ins) i)
Reaches-before c d k u s ins are same lt (ProductHere is) = ProductHere (sym (same u lt) ∙ is)
Reaches-before c d k u s ins are same lt (RefreshHere is) = RefreshHere (sym (same u lt) ∙ is)
Reaches-before c d k u s ins are same lt (FromLeft is r) =
    FromLeft (sym (same u lt) ∙ is) (Reaches-before c d k _ s ins are same (omega (arith, (gate_at_operands d u _ are is).0)) r)
Reaches-before c d k u s ins are same lt (FromRight is r) =
    FromRight (sym (same u lt) ∙ is) (Reaches-before c d k _ s ins are same (omega (arith, (gate_at_operands d u _ are is).1)) r)
Reaches-before c d k u s ins are same lt (FromNegated is r) =
    FromNegated (sym (same u lt) ∙ is) (Reaches-before c d k _ s ins are same (omega (arith, gate_at_operands d u _ are is)) r)

-- so a draft whose products stand among them is accepted as the one before
pub IsAccepted-before : (c d : Netlist) (k : ℕ) → d.inputs ≡ c.inputs → AreGates d.inputs d.gates → ((v : ℕ) → v < k → gate_at d v ≡ gate_at c v) →
    ((p a b : ℕ) → gate_at d p ≡ Some (And a b) → p < k) → IsAccepted c → IsAccepted d
IsAccepted-before c d k ins are same low accepted p s shared =
    let lt = low p shared.left shared.right shared.is_product in
    let operands = gate_at_operands d p _ are shared.is_product in
    accepted p s (record {
      left = shared.left;
      right = shared.right;
      is_product = sym (same p lt) ∙ shared.is_product;
      left_reaches = Reaches-before c d k shared.left s ins are same (omega (arith, operands.0)) shared.left_reaches;
      right_reaches = Reaches-before c d k shared.right s ins are same (omega (arith, operands.1)) shared.right_reaches;
    })

-- REFRESHES

slice_get-append_right : {A : Type 0} (xs ys : List A) (k : ℕ) → slice_get (xs ++ ys) (length xs + k) ≡ slice_get ys k
slice_get-append_right [] ys k = ap (slice_get ys) (zero-add k)
slice_get-append_right (x ∷ xs) ys k =
    let e : suc (length xs) + k ≡ suc (length xs + k) = omega arith in
    ap (slice_get (x ∷ (xs ++ ys))) e ∙ slice_get-append_right xs ys k

slice_get-refs : (us : List ℕ) (k : ℕ) → k < length us → slice_get (map Ref us) k ≡ Some (Ref (get_or us k 0))
slice_get-refs [] k lt = absurd (omega arith)
slice_get-refs (u ∷ us) zero lt = refl
slice_get-refs (u ∷ us) (suc k) lt = slice_get-refs us k (omega arith)

-- gate k of these refreshes
gate_at-refs : (c : Netlist) (us : List ℕ) (k : ℕ) → k < length us → gate_at (with_gates c (map Ref us)) (value_count c + k) ≡ Some (Ref (get_or us k 0))
unfolding with_gates
gate_at-refs c us k lt =
    let d = with_gates c (map Ref us) in
    let e : value_count c + k ≡ c.inputs + (length c.gates + k) = omega arith in
    ap (gate_at d) e ∙ gate_at_gate d (length c.gates + k) ∙ slice_get-append_right c.gates (map Ref us) k ∙ slice_get-refs us k lt

-- each value is one before, or a refresh of these
refs_cases : (c : Netlist) (us : List ℕ) (v : ℕ) (g : Gate) → gate_at (with_gates c (map Ref us)) v ≡ Some g →
    (v < value_count c) ⊎ ((k : ℕ) × (k < length us) × (v ≡ value_count c + k) × (g ≡ Ref (get_or us k 0)))
refs_cases c us v g is = elim (cases_lt v (value_count c)) [
  | inl lt ↦ inl lt
  | inr le ↦
      let d = with_gates c (map Ref us) in
      let k = v - value_count c in
      let within = gate_at_within d v g is in
      let at : v ≡ value_count c + k = omega arith in
      let lt : k < length us = omega (arith, within.1, value_count-with_gates c (map Ref us), length-map us Ref) in
      inr (k, lt, at, same_Some g (Ref (get_or us k 0)) (sym is ∙ ap (gate_at d) at ∙ gate_at-refs c us k lt))
]

And≢Ref : (a b u : ℕ) → And a b ≡ Ref u → ⊥
And≢Ref a b u e = cc

pub AreGates-refs : (n m : ℕ) (us : List ℕ) → n ≤ m → All (λ u. u < n) us → AreGates m (map Ref us)
AreGates-refs n m [] le below = tt
AreGates-refs n m (u ∷ us) le below =
    let head = All-head (λ (w : ℕ). w < n) u us below in
    ((let up : u < m = omega arith in up), AreGates-refs n (suc m) us (omega arith) (All-tail (λ (w : ℕ). w < n) u us below))

-- refreshes that are values of a solution have the values of their operands
refs_solved : (vs : List Bool) (n : ℕ) (us : List ℕ) → Solves vs n (map Ref us) → map (value_at vs) (range_with_len n (length us)) ≡ map (value_at vs) us
refs_solved vs n [] s = refl
refs_solved vs n (u ∷ us) s = ap₂ ◌∷◌ s.0 (refs_solved vs (n + 1) us (rw (add-one n) s.1))

-- THE FENCE

module _ (c : Netlist) (us : List ℕ) (are : AreGates c.inputs c.gates) (below : All (λ u. u < value_count c) us) where
  fence_old : (v : ℕ) → v < value_count c → gate_at (with_fence c us) v ≡ gate_at c v
  unfolding with_fence with_outputs
  fence_old v lt = gate_at-old c (map Ref us) v lt

  AreGates-fence : AreGates (with_fence c us).inputs (with_fence c us).gates
  unfolding with_fence with_outputs
  AreGates-fence = AreGates-with_gates c (map Ref us) are (AreGates-refs (value_count c) (value_count c) us (omega arith) below)

  products_before : (p a b : ℕ) → gate_at (with_fence c us) p ≡ Some (And a b) → p < value_count c
  unfolding with_fence with_outputs
  products_before p a b is = elim (refs_cases c us p (And a b) is) [ inl lt ↦ lt | inr ref ↦ absurd (And≢Ref a b _ ref.3) ]

  -- the fence of an accepted circuit is accepted
  pub IsAccepted-fence : IsAccepted c → IsAccepted (with_fence c us)
  unfolding with_fence with_gates with_outputs
  IsAccepted-fence accepted = IsAccepted-before c (with_fence c us) (value_count c) refl AreGates-fence fence_old products_before accepted

  fence_gate : (k : ℕ) → k < length us → gate_at (with_fence c us) (value_count c + k) ≡ Some (Ref (get_or us k 0))
  unfolding with_fence with_outputs
  fence_gate k lt = gate_at-refs c us k lt

  value_count-with_fence : value_count (with_fence c us) ≡ value_count c + length us
  unfolding with_fence with_outputs
  value_count-with_fence = value_count-with_gates c (map Ref us) ∙ ap (λ (m : ℕ). value_count c + m) (length-map us Ref)

  -- no gate takes a refresh of the fence
  fence_unused : (k v : ℕ) → Uses (value_count c + k) (gate_at (with_fence c us) v) → ⊥
  fence_unused k v uses = elim (cases_lt v (value_count c)) [
    | inl lt ↦ (let low = Uses-below c (value_count c + k) v are (subst (Uses (value_count c + k)) (fence_old v lt) uses) in omega arith)
    | inr le ↦ elim (cases_lt (v - value_count c) (length us)) [
      | inl lt ↦
          let at : v ≡ value_count c + (v - value_count c) = omega arith in
          let operand : value_count c + k ≡ get_or us (v - value_count c) 0 =
          subst (Uses (value_count c + k)) (ap (gate_at (with_fence c us)) at ∙ fence_gate (v - value_count c) lt) uses in
          let low = below (v - value_count c) 0 lt in omega arith
      | inr past ↦ absurd (subst (Uses (value_count c + k)) (gate_at-past (with_fence c us) v (omega (arith, value_count-with_fence))) uses)
    ]
  ]

  outputs-with_fence : c.outputs ≡ [] → (with_fence c us).outputs ≡ range_with_len (value_count c) (length us)
  unfolding with_fence with_outputs with_gates
  outputs-with_fence none = ap (λ (os : List ℕ). os ++ range_with_len (value_count c) (length us)) none

  -- it's well formed, where nothing was handed out before
  pub IsWellFormed-fence : c.outputs ≡ [] → IsWellFormed (with_fence c us)
  IsWellFormed-fence none = record {
    gates = AreGates-fence;
    outputs = λ k d lt.
        let outs = outputs-with_fence none in
        let less : k < length us = omega (arith, lt, ap length outs, length-range_with_len (value_count c) (length us)) in
        let at : get_or (with_fence c us).outputs k d ≡ value_count c + k
        = ap (λ (os : List ℕ). get_or os k d) outs ∙ get_or-range_with_len (value_count c) (length us) k d less in
        omega (arith, at, value_count-with_fence);
  }

  -- its outputs are fenced then
  pub IsFenced-fence : c.outputs ≡ [] → IsFenced (with_fence c us)
  IsFenced-fence none k lt = record {
    is_refresh = (get_or us k 0, ap (gate_at (with_fence c us)) (place k within) ∙ fence_gate k within);
    is_unused = λ v uses. fence_unused k v (subst (λ (w : ℕ). Uses w (gate_at (with_fence c us) v)) (place k within) uses);
    is_first = λ i less same. (let e : value_count c + i ≡ value_count c + k = sym (place i (omega (arith, within))) ∙ same ∙ place k within in omega arith);
  }
    where
      within : k < length us
      within = omega (arith, ap length (outputs-with_fence none), length-range_with_len (value_count c) (length us))

      place : (i : ℕ) → i < length us → output_at (with_fence c us) i ≡ value_count c + i
      place i less = ap (λ (os : List ℕ). get_or os i 0) (outputs-with_fence none) ∙ get_or-range_with_len (value_count c) (length us) i 0 less

  -- so the fence of an accepted circuit is strong
  pub IsStrong-fence : c.outputs ≡ [] → IsAccepted c → IsStrong (with_fence c us)
  IsStrong-fence none accepted = (IsAccepted-fence accepted, IsFenced-fence none)

  -- what is handed out has the bits of the values that were fenced
  pub plain-with_fence : (x : List Bool) → length x ≡ c.inputs → All (λ u. u < value_count c) c.outputs →
      plain (with_fence c us) x ≡ plain c x ++ bits_of c x us
  unfolding with_fence bits_of with_gates with_outputs
  plain-with_fence x long outs =
      let d = with_gates c (map Ref us) in
      let n = value_count c in
      let solved = Solves-with_gates c (map Ref us) x long (AreGates-refs n n us (omega arith) below) in
      map-append (value_at (plain_values d x)) c.outputs (range_with_len n (length us))
      ∙ ap₂ ◌++◌ (bits_of-with_gates c (map Ref us) x c.outputs long outs)
      (refs_solved (plain_values d x) n us solved ∙ bits_of-with_gates c (map Ref us) x us long below)

-- REFRESHES OF FREE VALUES

KeepsTidy-refs : (c : Netlist) (us : List ℕ) → AreGates c.inputs c.gates → All (λ u. u < value_count c) us → IsTidy c → All (IsFree c) us →
    KeepsTidy c (with_gates c (map Ref us)) []
KeepsTidy-refs c [] are below t free = rw (with_gates-nil c) (KeepsTidy-refl c t)
KeepsTidy-refs c (u ∷ us) are below t free =
    let d = with_gates c (Ref u ∷ []) in
    let u_free : IsFree c u = All-head (IsFree c) u us free in
    let u_below : u < value_count c = All-head (λ (w : ℕ). w < value_count c) u us below in
    let more : value_count d ≡ value_count c + 1 = value_count-with_gates c (Ref u ∷ []) in
    let keeps = KeepsTidy-gate c (Ref u) are refl (λ w same. subst (IsFree c) (sym same) u_free) t in
    let rest_below : All (λ w. w < value_count c) us = All-tail (λ (w : ℕ). w < value_count c) u us below in
    let up = KeepsTidy-refs d us (AreGates-with_gates c (Ref u ∷ []) are (u_below, tt)) (λ k z lt. let x = rest_below k z lt in omega arith) keeps.tidy
    (IsFree-All c d us _ keeps rest_below (All-tail (IsFree c) u us free)) in
    subst (λ (e : Netlist). KeepsTidy c e []) (with_gates-with_gates c (Ref u ∷ []) (map Ref us)) (KeepsTidy-then c d _ _ [] (omega (arith, more)) keeps up)

-- outputs change nothing of it
KeepsTidy-outputs : (c d : Netlist) (us os : List ℕ) → KeepsTidy c d us → KeepsTidy c (with_outputs d os) us
unfolding with_outputs
KeepsTidy-outputs c d us os keeps = record {
  tidy = record { refreshed = keeps.tidy.refreshed; apart = keeps.tidy.apart; alone = keeps.tidy.alone };
  results_free = keeps.results_free;
  still_free = keeps.still_free;
}

-- a fence round free values keeps a draft tidy
pub KeepsTidy-fence : (c : Netlist) (us : List ℕ) → AreGates c.inputs c.gates → All (λ u. u < value_count c) us → IsTidy c → All (IsFree c) us →
    KeepsTidy c (with_fence c us) []
unfolding with_fence
KeepsTidy-fence c us are below t free = KeepsTidy-outputs c (with_gates c (map Ref us)) [] (range_with_len (value_count c) (length us)) (KeepsTidy-refs c us are below t free)
