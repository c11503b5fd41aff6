-- The plain values of a draft solve its gates: each is what its gate makes of them. So what a part computes is read off
-- the values of the final draft, whatever was laid before and behind it.
use Rattle.std.proofs.Common.{◌≡◌, ℕ, suc, ◌+◌, ◌<◌, Bool, false, not, ◌&&◌, List, [], ◌∷◌, ◌++◌, length, All, refl, ap, ap₂, sym, ◌∙◌, subst, arith, add-one, add-zero}
use Rattle.std.proofs.lemmas.List.{get_or_append_left, get_or_at, length_push}
use Rattle.mask_circuit.specs.declared.gates.Gate.{Gate}
use Rattle.mask_circuit.specs.declared.gates.Gate.TheVariants.{Zero, One, Xor, Not, And, Ref}
use Rattle.mask_circuit.specs.Netlist.{Netlist, OperandsBelow, AreGates, value_count}
use Rattle.mask_circuit.specs.Value.{xor, value_at, gate_value, values_from, plain_values}
use Rattle.mask_parts.specs.Drafts.{with_gates, with_outputs, bits_of, Grows}

-- each value is what its gate makes of the values, where the first of these gates makes value n
abbrev pub Solves : List Bool → ℕ → List Gate → Type 0
Solves vs n [] = Unit {0}
Solves vs n (g ∷ gs) = (value_at vs n ≡ gate_value g vs) × Solves vs (suc n) gs

-- PARTS OF A LIST OF GATES

pub Solves-left : (vs : List Bool) (n : ℕ) (gs hs : List Gate) → Solves vs n (gs ++ hs) → Solves vs n gs
Solves-left vs n [] hs s = tt
Solves-left vs n (g ∷ gs) hs s = (s.0, Solves-left vs (suc n) gs hs s.1)

pub Solves-right : (vs : List Bool) (n : ℕ) (gs hs : List Gate) → Solves vs n (gs ++ hs) → Solves vs (n + length gs) hs
Solves-right vs n [] hs s = rw (add-zero n) s
Solves-right vs n (g ∷ gs) hs s =
    let e : suc n + length gs ≡ n + suc (length gs) = omega arith in
    subst (λ (m : ℕ). Solves vs m hs) e (Solves-right vs (suc n) gs hs s.1)

-- WHAT LATER GATES LEAVE

pub length-values_from : (gs : List Gate) (vs : List Bool) → length (values_from gs vs) ≡ length vs + length gs
length-values_from [] vs = sym (add-zero (length vs))
length-values_from (g ∷ gs) vs = omega (arith, length-values_from gs (vs ++ gate_value g vs ∷ []), length_push vs (gate_value g vs))

pub values_from-append : (gs hs : List Gate) (vs : List Bool) → values_from (gs ++ hs) vs ≡ values_from hs (values_from gs vs)
values_from-append [] hs vs = refl
values_from-append (g ∷ gs) hs vs = values_from-append gs hs (vs ++ gate_value g vs ∷ [])

-- gates keep the values before them
pub values_from-keeps : (gs : List Gate) (vs : List Bool) (u : ℕ) → u < length vs → value_at (values_from gs vs) u ≡ value_at vs u
values_from-keeps [] vs u below = refl
values_from-keeps (g ∷ gs) vs u below =
    values_from-keeps gs (vs ++ gate_value g vs ∷ []) u (omega (arith, length_push vs (gate_value g vs)))
    ∙ get_or_append_left vs (gate_value g vs ∷ []) false u below

-- a gate makes the same of values that are the same below it
gate_value-same : (g : Gate) (n : ℕ) (vs ws : List Bool) → OperandsBelow n g → ((u : ℕ) → u < n → value_at vs u ≡ value_at ws u) → gate_value g vs ≡ gate_value g ws
gate_value-same Zero n vs ws below same = refl
gate_value-same One n vs ws below same = refl
gate_value-same (Xor u v) n vs ws below same = ap₂ xor (same u below.0) (same v below.1)
gate_value-same (Not u) n vs ws below same = ap not (same u below)
gate_value-same (And u v) n vs ws below same = ap₂ ◌&&◌ (same u below.0) (same v below.1)
gate_value-same (Ref u) n vs ws below same = same u below

-- the values that gates make solve them
pub Solves-values_from : (gs : List Gate) (vs : List Bool) → AreGates (length vs) gs → Solves (values_from gs vs) (length vs) gs
Solves-values_from [] vs are = tt
Solves-values_from (g ∷ gs) vs are =
    let ws = vs ++ gate_value g vs ∷ [] in
    let one : length ws ≡ suc (length vs) = length_push vs (gate_value g vs) ∙ add-one (length vs) in
    let here : value_at (values_from gs ws) (length vs) ≡ gate_value g vs =
    values_from-keeps gs ws (length vs) (omega arith) ∙ get_or_at vs (gate_value g vs) [] false (length vs) refl in
    let same : (u : ℕ) → u < length vs → value_at vs u ≡ value_at (values_from gs ws) u =
    λ u below. sym (values_from-keeps (g ∷ gs) vs u below) in (
      here ∙ gate_value-same g (length vs) vs (values_from gs ws) are.0 same,
      subst (λ (m : ℕ). Solves (values_from gs ws) m gs) one
          (Solves-values_from gs ws (subst (λ (m : ℕ). AreGates m gs) (sym one) are.1)),
    )

-- DRAFTS

pub length-plain_values : (c : Netlist) (x : List Bool) → length x ≡ c.inputs → length (plain_values c x) ≡ value_count c
length-plain_values c x long = length-values_from c.gates x ∙ ap (λ (n : ℕ). n + length c.gates) long

-- the plain values solve all gates of a draft
pub Solves-all : (c : Netlist) (x : List Bool) → length x ≡ c.inputs → AreGates c.inputs c.gates → Solves (plain_values c x) c.inputs c.gates
Solves-all c x long are =
    subst (λ (m : ℕ). Solves (plain_values c x) m c.gates) long
    (Solves-values_from c.gates x (subst (λ (m : ℕ). AreGates m c.gates) (sym long) are))

pub plain_values-with_gates : (c : Netlist) (gs : List Gate) (x : List Bool) → plain_values (with_gates c gs) x ≡ values_from gs (plain_values c x)
unfolding with_gates
plain_values-with_gates c gs x = values_from-append c.gates gs x

pub plain_values-with_outputs : (c : Netlist) (us : List ℕ) (x : List Bool) → plain_values (with_outputs c us) x ≡ plain_values c x
unfolding with_outputs
plain_values-with_outputs c us x = refl

-- those of a longer draft solve the gates that were added
pub Solves-with_gates : (c : Netlist) (gs : List Gate) (x : List Bool) → length x ≡ c.inputs → AreGates (value_count c) gs →
    Solves (plain_values (with_gates c gs) x) (value_count c) gs
Solves-with_gates c gs x long are =
    let count = length-plain_values c x long in
    rw (plain_values-with_gates c gs x)
    (subst (λ (m : ℕ). Solves (values_from gs (plain_values c x)) m gs) count
    (Solves-values_from gs (plain_values c x) (subst (λ (m : ℕ). AreGates m gs) (sym count) are)))

-- the bits of earlier values stay
pub value_at-with_gates : (c : Netlist) (gs : List Gate) (x : List Bool) (u : ℕ) → length x ≡ c.inputs → u < value_count c →
    value_at (plain_values (with_gates c gs) x) u ≡ value_at (plain_values c x) u
value_at-with_gates c gs x u long below =
    rw (plain_values-with_gates c gs x) (values_from-keeps gs (plain_values c x) u (omega (arith, length-plain_values c x long)))

pub bits_of-with_gates : (c : Netlist) (gs : List Gate) (x : List Bool) (us : List ℕ) → length x ≡ c.inputs → All (λ u. u < value_count c) us →
    bits_of (with_gates c gs) x us ≡ bits_of c x us
unfolding bits_of
bits_of-with_gates c gs x [] long below = refl
bits_of-with_gates c gs x (u ∷ us) long below =
    ap₂ ◌∷◌ (value_at-with_gates c gs x u long (below 0 0 (omega arith)))
    (bits_of-with_gates c gs x us long (λ k d lt. below (suc k) d (omega arith)))

pub bits_of-with_outputs : (c : Netlist) (vs : List ℕ) (x : List Bool) (us : List ℕ) → bits_of (with_outputs c vs) x us ≡ bits_of c x us
unfolding bits_of with_outputs
bits_of-with_outputs c vs x us = refl

-- WHOLE DRAFTS

-- the bits vs solve all gates of the draft
abbrev pub Solved : List Bool → Netlist → Type 0
Solved vs c = Solves vs c.inputs c.gates

pub Solved-with_gates : (vs : List Bool) (c : Netlist) (gs : List Gate) → Solved vs (with_gates c gs) → Solved vs c × Solves vs (value_count c) gs
unfolding with_gates
Solved-with_gates vs c gs solved = (Solves-left vs c.inputs c.gates gs solved, Solves-right vs c.inputs c.gates gs solved)

-- so they solve those of a draft that it grew from
pub Solved-Grows : (vs : List Bool) (c d : Netlist) → Grows c d → Solved vs d → Solved vs c
unfolding with_outputs
Solved-Grows vs c d grows solved = (Solved-with_gates vs c grows.gates (rw grows.grown at solved)).0
