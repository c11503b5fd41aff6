-- What a draft is with more gates and more outputs at its end.
use Rattle.std.proofs.Common.{◌≡◌, ℕ, suc, ◌+◌, ◌≤◌, cond, List, [], ◌∷◌, ◌++◌, length, refl, ap, sym, ◌∙◌, subst, arith, length-append, add-zero}
use Rattle.std.proofs.lemmas.List.{append_assoc, append-nil}
use Rattle.std.specs.List.{count_by}
use Rattle.std.proofs.lemmas.List.Sums.{sum_by-append}
use Rattle.mask_circuit.specs.declared.gates.Gate.{Gate}
use Rattle.mask_circuit.specs.Netlist.{Netlist, value_count, product_count, refresh_count, is_product, is_refresh, AreGates}
use Rattle.mask_parts.specs.Drafts.{with_gates, with_outputs, Grows, IsWithinLimits}

-- FIELDS

pub inputs-with_gates : (c : Netlist) (gs : List Gate) → (with_gates c gs).inputs ≡ c.inputs
unfolding with_gates
inputs-with_gates c gs = refl

pub gates-with_gates : (c : Netlist) (gs : List Gate) → (with_gates c gs).gates ≡ c.gates ++ gs
unfolding with_gates
gates-with_gates c gs = refl

pub outputs-with_gates : (c : Netlist) (gs : List Gate) → (with_gates c gs).outputs ≡ c.outputs
unfolding with_gates
outputs-with_gates c gs = refl

pub inputs-with_outputs : (c : Netlist) (us : List ℕ) → (with_outputs c us).inputs ≡ c.inputs
unfolding with_outputs
inputs-with_outputs c us = refl

pub gates-with_outputs : (c : Netlist) (us : List ℕ) → (with_outputs c us).gates ≡ c.gates
unfolding with_outputs
gates-with_outputs c us = refl

pub outputs-with_outputs : (c : Netlist) (us : List ℕ) → (with_outputs c us).outputs ≡ c.outputs ++ us
unfolding with_outputs
outputs-with_outputs c us = refl

-- COUNTS

pub value_count-with_gates : (c : Netlist) (gs : List Gate) → value_count (with_gates c gs) ≡ value_count c + length gs
unfolding with_gates
value_count-with_gates c gs = omega (arith, length-append c.gates gs)

pub value_count-with_outputs : (c : Netlist) (us : List ℕ) → value_count (with_outputs c us) ≡ value_count c
unfolding with_outputs
value_count-with_outputs c us = refl

-- NOTHING MORE, AND MORE TWICE

pub with_gates-nil : (c : Netlist) → with_gates c [] ≡ c
unfolding with_gates
with_gates-nil c = ap (λ (gs : List Gate). record c { gates = gs }) (append-nil c.gates)

pub with_outputs-nil : (c : Netlist) → with_outputs c [] ≡ c
unfolding with_outputs
with_outputs-nil c = ap (λ (us : List ℕ). record c { outputs = us }) (append-nil c.outputs)

pub with_gates-with_gates : (c : Netlist) (gs hs : List Gate) → with_gates (with_gates c gs) hs ≡ with_gates c (gs ++ hs)
unfolding with_gates
with_gates-with_gates c gs hs = ap (λ (fs : List Gate). record c { gates = fs }) (append_assoc c.gates gs hs)

pub with_outputs-with_outputs : (c : Netlist) (us vs : List ℕ) → with_outputs (with_outputs c us) vs ≡ with_outputs c (us ++ vs)
unfolding with_outputs
with_outputs-with_outputs c us vs = ap (λ (ws : List ℕ). record c { outputs = ws }) (append_assoc c.outputs us vs)

pub with_gates-with_outputs : (c : Netlist) (us : List ℕ) (gs : List Gate) → with_gates (with_outputs c us) gs ≡ with_outputs (with_gates c gs) us
unfolding with_gates with_outputs
with_gates-with_outputs c us gs = refl

-- GROWING

pub Grows-with_gates : (c : Netlist) (gs : List Gate) → Grows c (with_gates c gs)
Grows-with_gates c gs = record { gates = gs; outputs = []; grown = sym (with_outputs-nil (with_gates c gs)) }

-- a first part of the gates grows to all of them
pub Grows-first_gates : (c : Netlist) (gs hs : List Gate) → Grows (with_gates c gs) (with_gates c (gs ++ hs))
Grows-first_gates c gs hs = subst (Grows (with_gates c gs)) (with_gates-with_gates c gs hs) (Grows-with_gates (with_gates c gs) hs)

pub Grows-with_outputs : (c : Netlist) (us : List ℕ) → Grows c (with_outputs c us)
Grows-with_outputs c us = record { gates = []; outputs = us; grown = ap (λ (d : Netlist). with_outputs d us) (sym (with_gates-nil c)) }

-- a first part of the outputs grows to all of them
pub Grows-first_outputs : (c : Netlist) (us vs : List ℕ) → Grows (with_outputs c us) (with_outputs c (us ++ vs))
Grows-first_outputs c us vs = subst (Grows (with_outputs c us)) (with_outputs-with_outputs c us vs) (Grows-with_outputs (with_outputs c us) vs)

pub Grows-refl : (c : Netlist) → Grows c c
Grows-refl c = subst (λ (d : Netlist). Grows c d) (with_gates-nil c) (Grows-with_gates c [])

pub Grows-trans : (c d e : Netlist) → Grows c d → Grows d e → Grows c e
Grows-trans c d e h k = record {
  gates = h.gates ++ k.gates;
  outputs = h.outputs ++ k.outputs;
  grown = k.grown
      ∙ ap (λ (x : Netlist). with_outputs (with_gates x k.gates) k.outputs) h.grown
      ∙ ap (λ (x : Netlist). with_outputs x k.outputs) (with_gates-with_outputs (with_gates c h.gates) h.outputs k.gates)
      ∙ with_outputs-with_outputs _ h.outputs k.outputs
      ∙ ap (λ (x : Netlist). with_outputs x (h.outputs ++ k.outputs)) (with_gates-with_gates c h.gates k.gates);
}

-- a draft that grows gets no smaller
pub value_count-Grows : (c d : Netlist) → Grows c d → value_count c ≤ value_count d
value_count-Grows c d h =
    rw h.grown (omega (arith, value_count-with_outputs (with_gates c h.gates) h.outputs, value_count-with_gates c h.gates))

-- so what it grew from was within the limits too
pub IsWithinLimits-before : (c d : Netlist) → Grows c d → IsWithinLimits d → IsWithinLimits c
unfolding with_gates with_outputs
IsWithinLimits-before c d h within =
    let outs : length d.outputs ≡ length c.outputs + length h.outputs = ap (λ (x : Netlist). length x.outputs) h.grown ∙ length-append c.outputs h.outputs in
    record { values = omega (arith, value_count-Grows c d h, within.values); outputs = omega (arith, within.outputs) }

-- LISTS OF GATES

pub AreGates-append : (n : ℕ) (gs hs : List Gate) → AreGates n gs → AreGates (n + length gs) hs → AreGates n (gs ++ hs)
AreGates-append n [] hs left right = rw (sym (add-zero n)) right
AreGates-append n (g ∷ gs) hs left right =
    let e : n + suc (length gs) ≡ suc n + length gs = omega arith in
    (left.0, AreGates-append (suc n) gs hs left.1 (subst (λ (m : ℕ). AreGates m hs) e right))

pub AreGates-left : (n : ℕ) (gs hs : List Gate) → AreGates n (gs ++ hs) → AreGates n gs
AreGates-left n [] hs are = tt
AreGates-left n (g ∷ gs) hs are = (are.0, AreGates-left (suc n) gs hs are.1)

-- a draft with well-formed gates behind its own has well-formed gates
pub AreGates-with_gates : (c : Netlist) (gs : List Gate) → AreGates c.inputs c.gates → AreGates (value_count c) gs → AreGates (with_gates c gs).inputs (with_gates c gs).gates
unfolding with_gates
AreGates-with_gates c gs are more = AreGates-append c.inputs c.gates gs are more

pub product_count-with_gates : (c : Netlist) (gs : List Gate) → product_count (with_gates c gs) ≡ product_count c + count_by is_product gs
unfolding with_gates
product_count-with_gates c gs = sum_by-append (λ g. cond (is_product g) 1 0) c.gates gs

pub refresh_count-with_gates : (c : Netlist) (gs : List Gate) → refresh_count (with_gates c gs) ≡ refresh_count c + count_by is_refresh gs
unfolding with_gates
refresh_count-with_gates c gs = sum_by-append (λ g. cond (is_refresh g) 1 0) c.gates gs
