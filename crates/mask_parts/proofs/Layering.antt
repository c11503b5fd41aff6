-- A layer: gates that are no products and take free values of the draft before them.
use Rattle.std.proofs.Common.{◌≡◌, ℕ, suc, ◌+◌, ◌<◌, ◌≤◌, inl, inr, false, Some, List, [], ◌∷◌, length, All, refl, sym, subst, arith}
use Rattle.std.specs.List.{range_with_len}
use Rattle.std.proofs.lemmas.List.Elements.{All-cons, All-head, All-tail, All-weaker}
use Rattle.mask_circuit.specs.declared.gates.Gate.{Gate}
use Rattle.mask_circuit.specs.declared.gates.Gate.TheVariants.{Zero, One, Xor, Not, And, Ref}
use Rattle.mask_circuit.specs.Netlist.{Netlist, AreGates, OperandsBelow, value_count, is_product}
use Rattle.mask_circuit.specs.Acceptance.{Uses, IsTidy}
use Rattle.mask_parts.specs.Drafts.{with_gates}
use Rattle.mask_parts.specs.Tidiness.{IsFree, KeepsTidy}
use Rattle.mask_parts.proofs.Growing.{value_count-with_gates, with_gates-nil, with_gates-with_gates, AreGates-with_gates}
use Rattle.mask_parts.proofs.Keeping.{KeepsTidy-gate, KeepsTidy-refl}

-- the gate is no product, and takes free values of the draft
pub record TakesFree (c : Netlist) (g : Gate) : Type 0 where
  pub other : is_product g ≡ false
  pub taken : (u : ℕ) → Uses u (Some g) → (u < value_count c) × IsFree c u

pub TakesFree-xor : (c : Netlist) (u v : ℕ) → u < value_count c → v < value_count c → IsFree c u → IsFree c v → TakesFree c (Xor u v)
TakesFree-xor c u v u_below v_below u_free v_free = record {
  other = refl;
  taken = λ w uses. elim uses [
    | inl e ↦ (rw e u_below, subst (IsFree c) (sym e) u_free)
    | inr e ↦ (rw e v_below, subst (IsFree c) (sym e) v_free)
  ];
}

pub TakesFree-not : (c : Netlist) (u : ℕ) → u < value_count c → IsFree c u → TakesFree c (Not u)
TakesFree-not c u below free = record { other = refl; taken = λ w e. (rw e below, subst (IsFree c) (sym e) free) }

pub TakesFree-ref : (c : Netlist) (u : ℕ) → u < value_count c → IsFree c u → TakesFree c (Ref u)
TakesFree-ref c u below free = record { other = refl; taken = λ w e. (rw e below, subst (IsFree c) (sym e) free) }

-- it takes earlier values alone
OperandsBelow-free : (c : Netlist) (m : ℕ) (g : Gate) → value_count c ≤ m → TakesFree c g → OperandsBelow m g
OperandsBelow-free c m Zero le takes = tt
OperandsBelow-free c m One le takes = tt
OperandsBelow-free c m (Xor u v) le takes =
    let left = (takes.taken u (inl refl)).0 in
    let right = (takes.taken v (inr refl)).0 in (omega arith, omega arith)
OperandsBelow-free c m (Not u) le takes = let low = (takes.taken u refl).0 in omega arith
OperandsBelow-free c m (And u v) le takes =
    let left = (takes.taken u (inl refl)).0 in
    let right = (takes.taken v (inr refl)).0 in (omega arith, omega arith)
OperandsBelow-free c m (Ref u) le takes = let low = (takes.taken u refl).0 in omega arith

AreGates-free : (c : Netlist) (m : ℕ) (gs : List Gate) → value_count c ≤ m → All (TakesFree c) gs → AreGates m gs
AreGates-free c m [] le takes = tt
AreGates-free c m (g ∷ gs) le takes =
    (OperandsBelow-free c m g le (All-head (TakesFree c) g gs takes), AreGates-free c (suc m) gs (omega arith) (All-tail (TakesFree c) g gs takes))

pub AreGates-layer : (c : Netlist) (gs : List Gate) → All (TakesFree c) gs → AreGates (value_count c) gs
AreGates-layer c gs takes = AreGates-free c (value_count c) gs (omega arith) takes

-- a layer keeps a draft tidy, and all its values are free
pub KeepsTidy-layer : (c : Netlist) (gs : List Gate) → AreGates c.inputs c.gates → IsTidy c → All (TakesFree c) gs →
    KeepsTidy c (with_gates c gs) (range_with_len (value_count c) (length gs))
KeepsTidy-layer c [] are tidy takes = rw (with_gates-nil c) (KeepsTidy-refl c tidy)
KeepsTidy-layer c (g ∷ gs) are tidy takes =
    let n = value_count c in
    let d = with_gates c (g ∷ []) in
    let e = with_gates d gs in
    let here : TakesFree c g = All-head (TakesFree c) g gs takes in
    let first : KeepsTidy c d (n ∷ []) = KeepsTidy-gate c g are here.other (λ u uses. (here.taken u uses).1) tidy in
    let more : value_count d ≡ n + 1 = value_count-with_gates c (g ∷ []) in
    let later : (h : Gate) → TakesFree c h → TakesFree d h = λ h takes_free. record {
      other = takes_free.other;
      taken = λ u uses. (let t = takes_free.taken u uses in (omega (arith, t.0, more), first.still_free u t.0 t.1));
    } in
    let up : KeepsTidy d e (range_with_len (value_count d) (length gs)) =
    KeepsTidy-layer d gs (AreGates-with_gates c (g ∷ []) are (OperandsBelow-free c n g (omega arith) here, tt)) first.tidy
    (All-weaker (TakesFree c) (TakesFree d) later gs (All-tail (TakesFree c) g gs takes)) in
    subst (λ (x : Netlist). KeepsTidy c x (range_with_len n (suc (length gs)))) (with_gates-with_gates c (g ∷ []) gs) (record {
      tidy = up.tidy;
      results_free = All-cons (IsFree e) n (range_with_len (n + 1) (length gs))
          (up.still_free n (omega (arith, more)) (All-head (IsFree d) n [] first.results_free))
          (subst (λ (k : ℕ). All (IsFree e) (range_with_len k (length gs))) more up.results_free);
      still_free = λ v below free. up.still_free v (omega (arith, more)) (first.still_free v below free);
    })
