-- A run gate by gate: it depends on the shares of earlier values alone, and a frame that holds these goes on with it.
use Rattle.std.proofs.Common.{◌≡◌, ℕ, suc, ◌+◌, ◌-◌, ◌<◌, ◌⊎◌, inl, inr, List, [], ◌∷◌, ◌++◌, length, take, drop, set, sum_by, refl, ap, ap₂, sym, ◌∙◌, arith}
use Rattle.std.proofs.lemmas.Bool.{eq-eqb, cases_order}
use Rattle.std.proofs.lemmas.List.{take-take, drop-take, get_or-take, get_or-set_other, set-append_right}
use Rattle.std.proofs.lemmas.List.Sums.{sum_by-cons}
use Rattle.std.proofs.lemmas.Grind.{get_or-set_at}
use Rattle.mask_circuit.specs.declared.gates.Gate.{Gate}
use Rattle.mask_circuit.specs.Netlist.{AreGates}
use Rattle.mask_circuit.specs.Ring.{Ring}
use Rattle.mask_circuit.specs.declared.gates.Wire.{Wire}
use Rattle.mask_circuit.specs.declared.gates.Wire.TheVariants.{Share}
use Rattle.mask_circuit.specs.Wires.{Shares, gate_draws, gate_wire, gate_out}
use Rattle.mask_circuit.specs.Expansion.{Carried, shares_of, put, start, run}
use Rattle.mask_laws.proofs.Carrying.{put-same, put-other}
use Rattle.mask_laws.specs.Sharing.{SameShares}
use Rattle.mask_laws.proofs.Operands.{share-same}
use Rattle.mask_shares.specs.Sharing.{listed, all_listed}
use Rattle.mask_shares.proofs.Lists.{get_or-each, map-each}

-- the element behind the front of a list is written
pub written_behind : {A : Type 0} (xs front back : List A) (n : ℕ) (x : A) → xs ≡ front ++ back → length front ≡ n → front ++ set back 0 x ≡ set xs n x
written_behind {A = A} xs front back n x parts count =
    let none : n - n ≡ 0 = omega arith in
    sym (ap (λ (ys : List A). set ys n x) parts ∙ set-append_right front back n n x count (omega arith) ∙ rw none refl)

module _ {X : Type 0} (R : Ring X) where
  -- the values before a gate are enough
  pub earlier-same : (N n : ℕ) (values : List (List X)) → SameShares N n (all_listed R (take n values)) (all_listed R values)
  earlier-same N n values u i lu li = ap (λ (v : List X). listed R v i) (get_or-take n values u [] lu)

  -- the same shares before gates give the same ones behind them
  pub run-same : (N : ℕ) (gs : List Gate) (n : ℕ) (t t' : Carried X) (r : List X) → AreGates n gs → SameShares N n (shares_of t) (shares_of t') →
      SameShares N (n + length gs) (shares_of (run R N gs n t r)) (shares_of (run R N gs n t' r))
  run-same N [] n t t' r are same u i lu li = same u i (omega arith) li
  run-same N (g ∷ gs) n t t' r are same u i lu li =
      run-same N gs (suc n) _ _ (drop (gate_draws N g) r) are.1
      (λ v j lv lj. put-same n v (Share j) (gate_wire R N g (shares_of t) (take (gate_draws N g) r)) (gate_wire R N g (shares_of t') (take (gate_draws N g) r)) t t'
      (λ e. share-same R N n g (shares_of t) (shares_of t') (take (gate_draws N g) r) j are.0 same lj)
      (λ ne. same v j (omega arith) lj))
      u i (omega arith) li

  -- a run reads as many fresh bits as it draws
  pub run-take : (N : ℕ) (gs : List Gate) (n : ℕ) (t : Carried X) (r : List X) →
      run R N gs n t (take (sum_by (gate_draws N) gs) r) ≡ run R N gs n t r
  run-take N [] n t r = refl
  run-take N (g ∷ gs) n t r =
      let d = gate_draws N g in
      let all = sum_by (gate_draws N) gs in
      let first : take d (take (d + all) r) ≡ take d r = take-take d (d + all) r (omega arith) in
      let rest : drop d (take (d + all) r) ≡ take all (drop d r) = drop-take d all r in
      ap (λ (m : ℕ). run R N (g ∷ gs) n t (take m r)) (sum_by-cons (gate_draws N) g gs)
      ∙ ap₂ (λ (x y : List X). run R N gs (suc n) (put n (gate_wire R N g (shares_of t) x) t) y) first rest
      ∙ run-take N gs (suc n) _ (drop d r)

  -- the shares of a list of values, one of which is new
  pub set-same : (N n : ℕ) (g : Gate) (values : List (List X)) (out r : List X) → n < length values → out ≡ gate_out R N g (all_listed R values) r →
      SameShares N (suc n) (all_listed R (set values n out)) (shares_of (put n (gate_wire R N g (all_listed R values) r) (start R (all_listed R values))))
  set-same N n g values out r room is u i lu li = go (cases_order u n)
    where
      W : Wire → X
      W = gate_wire R N g (all_listed R values) r

      go : (u ≡ n) ⊎ ((u < n) ⊎ (n < u)) → all_listed R (set values n out) u i ≡ put n W (start R (all_listed R values)) u (Share i)
      go (inl e) =
          ap (λ (v : List X). listed R v i) (get_or-set_at values n u out [] e room)
          ∙ ap (λ (v : List X). listed R v i) (is ∙ map-each W Share N)
          ∙ get_or-each (λ j. W (Share j)) N i R.nought li
          ∙ rw (eq-eqb u n e) refl
      go (inr (inl l)) =
          ap (λ (v : List X). listed R v i) (get_or-set_other values n u out [] (λ e. omega arith))
          ∙ sym (put-other n u (Share i) W (start R (all_listed R values)) (λ e. omega arith))
      go (inr (inr g)) = absurd (omega arith)

  -- where the run from a frame gives the shares T, the run from the frame with one more value gives them too
  pub next_value : (N total n : ℕ) (g : Gate) (gs : List Gate) (values : List (List X)) (out r r' : List X) (T : ℕ → Shares X) →
      AreGates n (g ∷ gs) → n < length values → out ≡ gate_out R N g (all_listed R values) (take (gate_draws N g) r) →
      r' ≡ drop (gate_draws N g) r → total ≡ n + length (g ∷ gs) →
      SameShares N total (shares_of (run R N (g ∷ gs) n (start R (all_listed R values)) r)) T →
      SameShares N total (shares_of (run R N gs (suc n) (start R (all_listed R (set values n out))) r')) T
  next_value N total n g gs values out r r' T are room is rest all same u i lu li =
      ap (λ (q : List X). run R N gs (suc n) (start R (all_listed R (set values n out))) q u (Share i)) rest
      ∙ run-same N gs (suc n) _ _ (drop (gate_draws N g) r) are.1 (set-same N n g values out (take (gate_draws N g) r) room is) u i (omega arith) li
      ∙ same u i lu li
