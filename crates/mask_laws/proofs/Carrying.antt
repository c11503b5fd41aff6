-- What the gates of a circuit add to what its wires carry, and what it holds in the end.
use Rattle.std.proofs.Common.{◌≡◌, ℕ, zero, suc, ◌+◌, ◌<◌, Bool, true, false, cond, ◌==◌, List, [], ◌∷◌, take, drop, sum_by, slice_get, Some, refl, ap, ap₂, sym, ◌∙◌, arith, ne_eqb, eq-eqb, eqb-true}
use Rattle.std.proofs.Math.Path.{fun_ext}
use Rattle.std.proofs.lemmas.Bool.{eqb-false}
use Rattle.std.proofs.lemmas.List.{drop-drop}
use Rattle.std.proofs.lemmas.List.Sums.{sum_by-cons}
use Rattle.std.proofs.lemmas.Option.{none-some, same_Some}
use Rattle.mask_circuit.specs.declared.gates.Gate.{Gate}
use Rattle.mask_circuit.specs.declared.gates.Gate.TheVariants.{Zero, One, Xor, Not, And, Ref}
use Rattle.mask_circuit.specs.Netlist.{Netlist, AreGates, OperandsBelow}
use Rattle.mask_circuit.specs.Ring.{Ring, bits, words}
use Rattle.mask_circuit.specs.declared.gates.Wire.{Wire}
use Rattle.mask_circuit.specs.declared.gates.Wire.TheVariants.{Share}
use Rattle.mask_circuit.specs.Wires.{Shares, pairs, fresh_of, gate_draws, gate_wire, share_wire, product_wire, refresh_wire}
use Rattle.mask_circuit.specs.Expansion.{Carried, shares_of, put, run, start}
use Rattle.mask_laws.specs.Numbering.{HasGateWires, WiresAreGates}

-- with new wires for value n two sides agree on a wire where the new wires do, or else the sides before
pub put-same : {X : Type 0} (n v : ℕ) (w : Wire) (wires wires' : Wire → X) (t t' : Carried X) →
    (v ≡ n → wires w ≡ wires' w) → ((v ≡ n → ⊥) → t v w ≡ t' v w) → put n wires t v w ≡ put n wires' t' v w
put-same {X} n v w wires wires' t t' new old = go (v == n) refl
  where
    go : (b : Bool) → (v == n) ≡ b → cond b (wires w) (t v w) ≡ cond b (wires' w) (t' v w)
    go true e = new (eqb-true v n e)
    go false e = old (eqb-false v n e)

-- the wires of other values stay
pub put-other : {X : Type 0} (n v : ℕ) (w : Wire) (wires : Wire → X) (t : Carried X) → (v ≡ n → ⊥) → put n wires t v w ≡ t v w
put-other n v w wires t ne = ap (λ (b : Bool). cond b (wires w) (t v w)) (ne_eqb v n ne)

-- and value n gets its own
pub put-own : {X : Type 0} (n v : ℕ) (w : Wire) (wires : Wire → X) (t : Carried X) → v ≡ n → put n wires t v w ≡ wires w
put-own n v w wires t e = ap (λ (b : Bool). cond b (wires w) (t v w)) (eq-eqb v n e)

-- later gates leave the wires of earlier values
pub run-earlier : {X : Type 0} (R : Ring X) (N : ℕ) (gs : List Gate) (n : ℕ) (t : Carried X) (r : List X) (v : ℕ) (w : Wire) → v < n → run R N gs n t r v w ≡ t v w
run-earlier R N [] n t r v w below = refl
run-earlier R N (g ∷ gs) n t r v w below =
    run-earlier R N gs (suc n) _ (drop (gate_draws N g) r) v w (omega arith)
    ∙ put-other n v w (gate_wire R N g (shares_of t) (take (gate_draws N g) r)) t (λ e. omega arith)

-- THE WIRES OF GATES

-- a gate takes the shares of its operands alone
gate_wire-same : {X : Type 0} (R : Ring X) (N : ℕ) (g : Gate) (n : ℕ) (s s' : ℕ → Shares X) (r : List X) (w : Wire) → OperandsBelow n g →
    ((u : ℕ) → u < n → s u ≡ s' u) → gate_wire R N g s r w ≡ gate_wire R N g s' r w
gate_wire-same R N Zero n s s' r w below same = refl
gate_wire-same R N One n s s' r w below same = refl
gate_wire-same R N (Xor u v) n s s' r w below same = ap₂ (λ a b. share_wire R (λ i. R.add (a i) (b i)) w) (same u below.0) (same v below.1)
gate_wire-same R N (Not u) n s s' r w below same = ap (λ a. share_wire R (λ i. cond (i == 0) (R.add (a i) R.unit) (a i)) w) (same u below)
gate_wire-same R N (And u v) n s s' r w below same = ap₂ (λ a b. product_wire R N a b (fresh_of R (pairs N) r) w) (same u below.0) (same v below.1)
gate_wire-same R N (Ref u) n s s' r w below same = ap (λ a. refresh_wire R N a (fresh_of R (pairs N) r) w) (same u below)

-- the wires of gate k of these, the first of which makes value n
run-gate : {X : Type 0} (R : Ring X) (N : ℕ) (gs : List Gate) (n : ℕ) (t : Carried X) (r : List X) (k : ℕ) (g : Gate) (w : Wire) → AreGates n gs →
    slice_get gs k ≡ Some g →
    run R N gs n t r (n + k) w ≡ gate_wire R N g (shares_of (run R N gs n t r)) (take (gate_draws N g) (drop (sum_by (gate_draws N) (take k gs)) r)) w
run-gate R N [] n t r k g w are at = absurd (none-some g at)
run-gate {X} R N (h ∷ gs) n t r zero g w are at =
    let own = take (gate_draws N h) r in
    let t' : Carried X = put n (gate_wire R N h (shares_of t) own) t in
    let none : n + 0 ≡ n = omega arith in
    ap (λ m. run R N (h ∷ gs) n t r m w) none
    ∙ run-earlier R N gs (suc n) t' (drop (gate_draws N h) r) n w (omega arith)
    ∙ put-own n n w (gate_wire R N h (shares_of t) own) t refl
    ∙ gate_wire-same R N h n (shares_of t) (shares_of (run R N (h ∷ gs) n t r)) own w are.0
    (λ u lt. fun_ext (λ i. sym (run-earlier R N (h ∷ gs) n t r u (Share i) lt)))
    ∙ ap (λ f. gate_wire R N f (shares_of (run R N (h ∷ gs) n t r)) (take (gate_draws N f) r) w) (same_Some h g at)
run-gate {X} R N (h ∷ gs) n t r (suc k) g w are at =
    let d = gate_draws N h in
    let t' : Carried X = put n (gate_wire R N h (shares_of t) (take d r)) t in
    let next : n + suc k ≡ suc n + k = omega arith in
    let before : sum_by (gate_draws N) (h ∷ take k gs) ≡ d + sum_by (gate_draws N) (take k gs) = sum_by-cons (gate_draws N) h (take k gs) in
    ap (λ m. run R N (h ∷ gs) n t r m w) next
    ∙ run-gate R N gs (suc n) t' (drop d r) k g w are.1 at
    ∙ ap (λ z. gate_wire R N g (shares_of (run R N (h ∷ gs) n t r)) (take (gate_draws N g) z) w)
    (drop-drop (sum_by (gate_draws N) (take k gs)) d r ∙ ap (λ m. drop m r) (sym before))

-- The wires of a circuit, over any ring.
has_gate_wires : {X : Type 0} (R : Ring X) (c : Netlist) (N : ℕ) (x : ℕ → Shares X) (r : List X) → AreGates c.inputs c.gates → HasGateWires R c N x r
has_gate_wires R c N x r are = record {
  of_input = λ v w lt. run-earlier R N c.gates c.inputs (start R x) r v w lt;
  of_gate = λ k g w at. run-gate R N c.gates c.inputs (start R x) r k g w are at;
}

pub wires_are_gates : WiresAreGates
wires_are_gates c N are = (λ x r. has_gate_wires bits c N x r are, λ x r. has_gate_wires words c N x r are)
