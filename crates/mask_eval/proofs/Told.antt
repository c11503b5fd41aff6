-- The wires of a circuit gate by gate: what a machine is told of it.
use Rattle.std.proofs.Common.{◌≡◌, ℕ, zero, suc, ◌+◌, ◌*◌, ◌<◌, ◌≤◌, Option, List, [], ◌∷◌, ◌++◌, length, map, take, drop, set, sum_by, refl, ap, ap₂, sym, ◌∙◌, arith, length-append, eq-eqb}
use Rattle.std.proofs.lemmas.Simd.{map-map}
use Rattle.std.proofs.lemmas.List.{map-append, length-map, take-take, drop-take}
use Rattle.std.proofs.Math.Seq.{drop-append_seam}
use Rattle.std.proofs.lemmas.List.Sums.{sum_by-cons}
use Rattle.mask_circuit.specs.declared.gates.Gate.{Gate}
use Rattle.mask_circuit.specs.declared.gates.Gate.TheVariants.{Zero, One, Xor, Not, And, Ref}
use Rattle.mask_circuit.specs.Netlist.{Netlist, OperandsBelow, AreGates, value_count}
use Rattle.mask_circuit.specs.Ring.{Ring}
use Rattle.mask_circuit.specs.declared.gates.Wire.{Wire}
use Rattle.mask_circuit.specs.declared.gates.Wire.TheVariants.{Share}
use Rattle.mask_circuit.specs.Wires.{Shares, each, joined, pairs, fresh_of, gate_names, gate_draws, gate_wire, gate_wires, gate_out}
use Rattle.mask_circuit.specs.Expansion.{Carried, CircuitWire, shares_of, put, start, run, expand, names_from, wires, wire_count, wires_before}
use Rattle.mask_circuit.proofs.Numbering.{wire_count-before, length-names_of}
use Rattle.mask_circuit.proofs.Places.{length-each, length-joined}
use Rattle.mask_laws.proofs.Carrying.{put-same, run-earlier}
use Rattle.mask_laws.proofs.Operands.{share-same}
use Rattle.mask_laws.specs.Sharing.{SameShares}
use Rattle.mask_laws.proofs.Members.{map-same_in}
use Rattle.mask_shares.specs.Sharing.{all_listed}
use Rattle.mask_shares.proofs.Lists.{each-same, map-each}
use Rattle.mask_gadget.specs.Wiring.{told_more}
use Rattle.mask_gadget.proofs.Agreeing.{product_wires-agree, refresh_wires-agree}
use Rattle.mask_gadget.proofs.Telling.{told_more-more}
use Rattle.mask_eval.specs.Telling.{wires_from}
use Rattle.mask_eval.proofs.Runs.{earlier-same, set-same}

module _ {X : Type 0} (R : Ring X) (N : ℕ) (two : 2 ≤ N) where
  -- the output shares of a gate depend on the operands' shares alone ..
  out-same : (n : ℕ) (g : Gate) (s s' : ℕ → Shares X) (r : List X) → OperandsBelow n g → SameShares N n s s' →
      gate_out R N g s r ≡ gate_out R N g s' r
  out-same n g s s' r below same =
      map-each (gate_wire R N g s r) Share N
      ∙ each-same _ _ N (λ i lt. share-same R N n g s s' r i below same lt)
      ∙ sym (map-each (gate_wire R N g s' r) Share N)

  -- .. and so do its wires
  gate-same : (n : ℕ) (g : Gate) (s s' : ℕ → Shares X) (r : List X) → OperandsBelow n g → SameShares N n s s' →
      gate_wires R N g s r ≡ gate_wires R N g s' r
  gate-same n Zero s s' r below same = refl
  gate-same n One s s' r below same = refl
  gate-same n (Xor u v) s s' r below same = out-same n (Xor u v) s s' r below same
  gate-same n (Not u) s s' r below same = out-same n (Not u) s s' r below same
  gate-same n (And u v) s s' r below same =
      product_wires-agree R N (fresh_of R (pairs N) r) (s u) (s' u) (s v) (s' v) (λ i lt. same u i below.0 lt) (λ i lt. same v i below.1 lt) two
  gate-same n (Ref u) s s' r below same = refresh_wires-agree R N (fresh_of R (pairs N) r) (s u) (s' u) (λ i lt. same u i below lt) two

  -- so the values before it are enough
  pub out-earlier : (n : ℕ) (g : Gate) (values before : List (List X)) (r : List X) → OperandsBelow n g → before ≡ take n values →
      gate_out R N g (all_listed R before) r ≡ gate_out R N g (all_listed R values) r
  out-earlier n g values before r below is =
      ap (λ (vs : List (List X)). gate_out R N g (all_listed R vs) r) is
      ∙ out-same n g (all_listed R (take n values)) (all_listed R values) r below (earlier-same R N n values)

  pub wires-earlier : (n : ℕ) (g : Gate) (values before : List (List X)) (r : List X) → OperandsBelow n g → before ≡ take n values →
      gate_wires R N g (all_listed R before) r ≡ gate_wires R N g (all_listed R values) r
  wires-earlier n g values before r below is =
      ap (λ (vs : List (List X)). gate_wires R N g (all_listed R vs) r) is
      ∙ gate-same n g (all_listed R (take n values)) (all_listed R values) r below (earlier-same R N n values)

  -- the wires of gates one after another depend on the shares of the values before them
  pub wires_from-same : (gs : List Gate) (n : ℕ) (t t' : Carried X) (r : List X) → AreGates n gs → SameShares N n (shares_of t) (shares_of t') →
      wires_from R N gs n t r ≡ wires_from R N gs n t' r
  wires_from-same [] n t t' r are same = refl
  wires_from-same (g ∷ gs) n t t' r are same =
      ap₂ (λ (xs ys : List X). xs ++ ys) (gate-same n g (shares_of t) (shares_of t') (take (gate_draws N g) r) are.0 same)
      (wires_from-same gs (suc n) _ _ (drop (gate_draws N g) r) are.1
      (λ v j lv lj. put-same n v (Share j) (gate_wire R N g (shares_of t) (take (gate_draws N g) r)) (gate_wire R N g (shares_of t') (take (gate_draws N g) r)) t t'
      (λ e. share-same R N n g (shares_of t) (shares_of t') (take (gate_draws N g) r) j are.0 same lj)
      (λ ne. same v j (omega arith) lj)))

  -- they read as many fresh bits as they draw
  pub wires_from-take : (gs : List Gate) (n : ℕ) (t : Carried X) (r : List X) →
      wires_from R N gs n t (take (sum_by (gate_draws N) gs) r) ≡ wires_from R N gs n t r
  wires_from-take [] n t r = refl
  wires_from-take (g ∷ gs) n t r =
      let d = gate_draws N g in
      let all = sum_by (gate_draws N) gs in
      let first : take d (take (d + all) r) ≡ take d r = take-take d (d + all) r (omega arith) in
      let rest : drop d (take (d + all) r) ≡ take all (drop d r) = drop-take d all r in
      ap (λ (m : ℕ). wires_from R N (g ∷ gs) n t (take m r)) (sum_by-cons (gate_draws N) g gs)
      ∙ ap₂ (λ (x y : List X). gate_wires R N g (shares_of t) x ++ wires_from R N gs (suc n) (put n (gate_wire R N g (shares_of t) x) t) y) first rest
      ∙ ap (λ (ys : List X). gate_wires R N g (shares_of t) (take d r) ++ ys)
      (wires_from-take gs (suc n) (put n (gate_wire R N g (shares_of t) (take d r)) t) (drop d r))

  -- where the gates that are left tell what all gates tell, those after the next one do so too
  pub next_told : (n : ℕ) (g : Gate) (gs : List Gate) (values : List (List X)) (out r r' : List X) (told told' all : Option (List X)) →
      AreGates n (g ∷ gs) → n < length values → out ≡ gate_out R N g (all_listed R values) (take (gate_draws N g) r) →
      told' ≡ told_more told (gate_wires R N g (all_listed R values) (take (gate_draws N g) r)) → r' ≡ drop (gate_draws N g) r →
      told_more told (wires_from R N (g ∷ gs) n (start R (all_listed R values)) r) ≡ all →
      told_more told' (wires_from R N gs (suc n) (start R (all_listed R (set values n out))) r') ≡ all
  next_told n g gs values out r r' told told' all are room is now rest before =
      let d = gate_draws N g in
      let here : List X = gate_wires R N g (all_listed R values) (take d r) in
      let t : Carried X = put n (gate_wire R N g (all_listed R values) (take d r)) (start R (all_listed R values)) in
      ap₂ told_more now
      (ap (λ (q : List X). wires_from R N gs (suc n) (start R (all_listed R (set values n out))) q) rest
      ∙ wires_from-same gs (suc n) _ t (drop d r) are.1 (set-same R N n g values out (take d r) room is))
      ∙ told_more-more told here (wires_from R N gs (suc n) t (drop d r))
      ∙ before

-- share i of value v
abbrev share_of : ℕ → ℕ → CircuitWire
share_of v i = (v, Share i)

-- the wires of gates one after another are those of the values that they make
module _ {X : Type 0} (R : Ring X) (N : ℕ) where
  pub named_from : (gs : List Gate) (n : ℕ) (t : Carried X) (r : List X) →
      map (λ (p : CircuitWire). run R N gs n t r p.0 p.1) (names_from N gs n) ≡ wires_from R N gs n t r
  named_from [] n t r = refl
  named_from (g ∷ gs) n t r =
      let W : Wire → X = gate_wire R N g (shares_of t) (take (gate_draws N g) r) in
      let t' : Carried X = put n W t in
      let r' : List X = drop (gate_draws N g) r in
      map-append (λ (p : CircuitWire). run R N gs (suc n) t' r' p.0 p.1) (map (λ w. (n, w)) (gate_names N g)) (names_from N gs (suc n))
      ∙ ap₂ (λ (xs ys : List X). xs ++ ys)
      (map-map (λ (p : CircuitWire). run R N gs (suc n) t' r' p.0 p.1) (λ w. (n, w)) (gate_names N g)
      ∙ map-same_in _ _ (gate_names N g) (λ w h. run-earlier R N gs (suc n) t' r' n w (omega arith) ∙ put-here n w W t))
      (named_from gs (suc n) t' r')
    where
      put-here : (n : ℕ) (w : Wire) (W : Wire → X) (t : Carried X) → put n W t n w ≡ W w
      put-here n w W t = rw (eq-eqb n n refl) refl

  -- all wires of a circuit but its inputs
  pub all_told : (c : Netlist) (x : ℕ → Shares X) (r : List X) → drop (N * c.inputs) (wires R c N x r) ≡ wires_from R N c.gates c.inputs (start R x) r
  all_told c x r =
      let F : CircuitWire → X = λ p. expand R c N x r p.0 p.1 in
      let inputs : List CircuitWire = joined (λ v. each (share_of v) N) c.inputs in
      let all : length inputs ≡ c.inputs * N = length-joined (λ v. each (share_of v) N) N c.inputs (λ v. length-each (share_of v) N) in
      let count : length (map F inputs) ≡ N * c.inputs = omega (arith, length-map inputs F) in
      ap (drop (N * c.inputs)) (map-append F inputs (names_from N c.gates c.inputs))
      ∙ ap (λ (m : ℕ). drop m (map F inputs ++ map F (names_from N c.gates c.inputs))) (sym count)
      ∙ drop-append_seam (map F inputs) (map F (names_from N c.gates c.inputs))
      ∙ named_from c.gates c.inputs (start R x) r

-- how many wires gates have
names-count : (N : ℕ) (gs : List Gate) (n : ℕ) → length (names_from N gs n) ≡ sum_by (λ g. length (gate_names N g)) gs
names-count N [] n = refl
names-count N (g ∷ gs) n =
    length-append (map (λ w. (n, w)) (gate_names N g)) (names_from N gs (suc n))
    ∙ ap₂ (λ (a b : ℕ). a + b) (length-map (gate_names N g) (λ w. (n, w))) (names-count N gs (suc n))
    ∙ sym (sum_by-cons (λ g. length (gate_names N g)) g gs)

pub wires_within : (c : Netlist) (N : ℕ) → sum_by (λ g. length (gate_names N g)) c.gates ≤ wire_count c N
wires_within c N =
    let gates = names-count N c.gates c.inputs in
    omega (arith, length-append (joined (λ v. each (share_of v) N) c.inputs) (names_from N c.gates c.inputs))

-- and values
pub few_wires : (c : Netlist) (N : ℕ) → 2 ≤ N → N ≤ 8 → wire_count c N ≤ 204 * value_count c
few_wires c N some few = rw (wire_count-before c N) (go (value_count c))
  where
    go : (v : ℕ) → wires_before c N v ≤ 204 * v
    go zero = omega arith
    go (suc v) = let more = length-names_of c N v some few in let before = go v in omega arith
