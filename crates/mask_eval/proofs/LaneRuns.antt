-- A run on words is, in each lane, the run on the lane's bits; and what a frame holds after a run are its outputs.
use Rattle.std.proofs.Common.{◌≡◌, ℕ, suc, ◌<◌, ◌≤◌, Bool, true, false, cond, ◌==◌, List, [], ◌∷◌, length, map, take, drop, get_or, All, refl, ap, ap₂, sym, subst, ◌∙◌, arith}
use Rattle.std.proofs.Math.Path.{fun_ext}
use Rattle.std.proofs.lemmas.Simd.{map-map}
use Rattle.std.proofs.lemmas.List.{take-map, drop-map, get_or-map, get_or-take, map-id}
use Rattle.mask_bits.specs.Reading.{bit}
use Rattle.mask_bits.specs.Lanes.{lane}
use Rattle.mask_circuit.specs.declared.gates.Gate.{Gate}
use Rattle.mask_circuit.specs.declared.gates.Gate.TheVariants.{Zero, One, Xor, Not, And, Ref}
use Rattle.mask_circuit.specs.Netlist.{Netlist, IsCircuit, value_count}
use Rattle.mask_circuit.specs.Value.{plain}
use Rattle.mask_circuit.specs.Ring.{Ring, bits, words}
use Rattle.mask_circuit.specs.declared.gates.Wire.{Wire}
use Rattle.mask_circuit.specs.declared.gates.Wire.TheVariants.{Share, Product, Fresh, Left, Right, Partial}
use Rattle.mask_circuit.specs.Wires.{Shares, each, gate_draws, gate_wire}
use Rattle.mask_circuit.specs.Expansion.{Carried, shares_of, put, start, run, expand, draws, outs}
use Rattle.mask_laws.specs.Sharing.{unshared, SameShares}
use Rattle.mask_laws.proofs.Unmasking.{outputs_unmask}
use Rattle.mask_shares.specs.Sharing.{listed, all_listed, unmasked}
use Rattle.mask_shares.proofs.Lists.{is_each, each-same, map-each, each-get_or}
use Rattle.mask_gadget.proofs.Lanes.{Keeps, KeepsUnit, keeps_lane, keeps_unit, gate_wire-keeps, all_listed-keeps, length-lane}
use Rattle.mask_tape.specs.Drawn.{Drawn, ahead}
use Rattle.mask_eval.specs.Frames.{Held, IsFrameOf, input_values}
use Rattle.mask_eval.proofs.Runs.{run-same}

-- LANES

module _ {X Y : Type 0} (R : Ring X) (S : Ring Y) (h : X → Y) (keeps : Keeps R S h) (unit : h R.unit ≡ S.unit) where
  each_unit : (g : Gate) → KeepsUnit R S h keeps g
  each_unit Zero = tt
  each_unit One = unit
  each_unit (Xor u v) = tt
  each_unit (Not u) = unit
  each_unit (And u v) = tt
  each_unit (Ref u) = tt

  start-keeps : (x : ℕ → Shares X) (v : ℕ) (w : Wire) → h (start R x v w) ≡ start S (λ v i. h (x v i)) v w
  start-keeps x v (Share i) = refl
  start-keeps x v (Product i j) = keeps.nought
  start-keeps x v (Fresh i j) = keeps.nought
  start-keeps x v (Left i j) = keeps.nought
  start-keeps x v (Right i j) = keeps.nought
  start-keeps x v (Partial i j) = keeps.nought

  put-keeps : (N n : ℕ) (g : Gate) (t : Carried X) (r : List X) (v : ℕ) (w : Wire) →
      h (put n (gate_wire R N g (shares_of t) (take (gate_draws N g) r)) t v w)
      ≡ put n (gate_wire S N g (shares_of (λ v w. h (t v w))) (take (gate_draws N g) (map h r))) (λ v w. h (t v w)) v w
  put-keeps N n g t r v w = go (v == n)
    where
      go : (here : Bool) → h (cond here (gate_wire R N g (shares_of t) (take (gate_draws N g) r) w) (t v w))
          ≡ cond here (gate_wire S N g (shares_of (λ v w. h (t v w))) (take (gate_draws N g) (map h r)) w) (h (t v w))
      go true =
          gate_wire-keeps R S h keeps N g (shares_of t) (take (gate_draws N g) r) (each_unit g) w
          ∙ ap (λ (q : List Y). gate_wire S N g (λ u i. h (t u (Share i))) q w) (sym (take-map h (gate_draws N g) r))
      go false = refl

  run-keeps : (N : ℕ) (gs : List Gate) (n : ℕ) (t : Carried X) (r : List X) →
      (λ v w. h (run R N gs n t r v w)) ≡ run S N gs n (λ v w. h (t v w)) (map h r)
  run-keeps N [] n t r = refl
  run-keeps N (g ∷ gs) n t r =
      run-keeps N gs (suc n) _ (drop (gate_draws N g) r)
      ∙ ap₂ (λ (T : Carried Y) (q : List Y). run S N gs (suc n) T q) (fun_ext (λ v. fun_ext (λ w. put-keeps N n g t r v w)))
      (sym (drop-map h (gate_draws N g) r))

  outs-keeps : (c : Netlist) (N : ℕ) (x : ℕ → Shares X) (r : List X) → map (map h) (outs R c N x r) ≡ outs S c N (λ v i. h (x v i)) (map h r)
  outs-keeps c N x r =
      map-map (map h) (λ u. each (shares_of (expand R c N x r) u) N) c.outputs
      ∙ ap (λ (f : ℕ → List Y). map f c.outputs) (fun_ext (λ u. map-each h (shares_of (expand R c N x r) u) N))
      ∙ ap (λ (T : Carried Y). map (λ u. each (shares_of T u) N) c.outputs)
      (run-keeps N c.gates c.inputs (start R x) r
      ∙ ap (λ (T : Carried Y). run S N c.gates c.inputs T (map h r)) (fun_ext (λ v. fun_ext (λ w. start-keeps x v w))))

-- lane by lane the outputs are those of the circuit on the lane's bits
pub outs_in_lane : (l N : ℕ) (c : Netlist) (values : List (List ℕ)) (r : List ℕ) → l < 64 →
    map (lane l) (outs words c N (all_listed words values) r) ≡ outs bits c N (all_listed bits (map (lane l) values)) (lane l r)
outs_in_lane l N c values r lt =
    outs-keeps words bits (bit l) (keeps_lane l) (keeps_unit l lt) c N (all_listed words values) r
    ∙ ap (λ (x : ℕ → Shares Bool). outs bits c N x (lane l r)) (all_listed-keeps words bits (bit l) (keeps_lane l) values)

-- FRAMES

-- values that are copied from those after a run are its outputs
pub outs_held : (c : Netlist) (N : ℕ) (old new outputs : List (List ℕ)) (r : List ℕ) → IsCircuit c →
    outputs ≡ map (λ u. get_or new u []) c.outputs → All (λ v. length v ≡ N) outputs →
    SameShares N (value_count c) (all_listed words new) (shares_of (run words N c.gates c.inputs (start words (all_listed words old)) r)) →
    outputs ≡ outs words c N (all_listed words (take c.inputs old)) r
outs_held c N old new outputs r is copied counts same = copied ∙ go c.outputs is.formed.outputs (subst (λ (vs : List (List ℕ)). All (λ v. length v ≡ N) vs) copied counts)
  where
    inputs : SameShares N c.inputs (all_listed words old) (all_listed words (take c.inputs old))
    inputs u i lu li = ap (λ (v : List ℕ). listed words v i) (sym (get_or-take c.inputs old u [] lu))

    value : (u : ℕ) → u < value_count c → length (get_or new u []) ≡ N → get_or new u [] ≡ each (shares_of (expand words c N (all_listed words (take c.inputs old)) r) u) N
    value u lu count =
        is_each _ N (get_or new u []) count
        (λ i li. same u i lu li
        ∙ run-same words N c.gates c.inputs (start words (all_listed words old)) (start words (all_listed words (take c.inputs old))) r is.formed.gates inputs u i lu li)

    go : (us : List ℕ) → All (λ u. u < value_count c) us → All (λ v. length v ≡ N) (map (λ u. get_or new u []) us) →
        map (λ u. get_or new u []) us ≡ map (λ u. each (shares_of (expand words c N (all_listed words (take c.inputs old)) r) u) N) us
    go [] below counts = refl
    go (u ∷ us) below counts =
        ap₂ (λ (y : List ℕ) (z : List (List ℕ)). y ∷ z) (value u (below 0 0 (omega arith)) (counts 0 [] (omega arith)))
        (go us (λ k d l. below (suc k) d (omega arith)) (λ k d l. counts (suc k) d (omega arith)))

-- values whose words carry themselves
same_values : (values : List (List ℕ)) → map (map (λ w. w)) values ≡ values
same_values values = ap (λ (f : List ℕ → List ℕ). map f values) (fun_ext (λ v. map-id v)) ∙ map-id values

-- the same of a frame, where the parts are given otherwise
pub outputs_of_frame : (c : Netlist) (N : ℕ) (frame : Held) (numbers : List ℕ) (old new seen copies : List (List ℕ)) (coins : Drawn) →
    IsCircuit c → IsFrameOf frame c → numbers ≡ c.outputs → old ≡ frame.values → seen ≡ new →
    copies ≡ map (λ u. get_or seen u []) numbers → All (λ v. length v ≡ N) copies →
    SameShares N (value_count c) (all_listed words (map (map (λ w. w)) new))
    (shares_of (expand words c N (all_listed words (map (map (λ w. w)) old)) (ahead (draws c N) coins))) →
    copies ≡ outs words c N (all_listed words (input_values frame)) (ahead (draws c N) coins)
outputs_of_frame c N frame numbers old new seen copies coins is fits numbers_are old_is seen_is copied counts same =
    outs_held c N frame.values new copies (ahead (draws c N) coins) is
    (copied ∙ ap₂ (λ (vs : List (List ℕ)) (us : List ℕ). map (λ u. get_or vs u []) us) seen_is numbers_are) counts all
    ∙ ap (λ (n : ℕ). outs words c N (all_listed words (take n frame.values)) (ahead (draws c N) coins)) (sym fits.inputs)
  where
    all : SameShares N (value_count c) (all_listed words new)
        (shares_of (run words N c.gates c.inputs (start words (all_listed words frame.values)) (ahead (draws c N) coins)))
    all u i lu li =
        ap (λ (vs : List (List ℕ)). all_listed words vs u i) (sym (same_values new))
        ∙ same u i lu li
        ∙ ap (λ (vs : List (List ℕ)). run words N c.gates c.inputs (start words (all_listed words vs)) (ahead (draws c N) coins) u (Share i)) (same_values old ∙ old_is)

-- PLAIN VALUES

each_map : {A B : Type 0} (f : A → B) (xs : List A) (d : A) → each (λ i. f (get_or xs i d)) (length xs) ≡ map f xs
each_map f xs d = sym (map-each f (λ i. get_or xs i d) (length xs)) ∙ ap (map f) (each-get_or xs d)

-- the bits that the inputs share in a lane
unshared_in_lane : (l N : ℕ) (values : List (List ℕ)) → All (λ v. length v ≡ N) values →
    each (λ v. unshared N (all_listed bits (map (lane l) values) v)) (length values) ≡ map (λ v. unmasked bits (lane l v)) values
unshared_in_lane l N values counts = each-same _ _ (length values) at ∙ each_map (λ v. unmasked bits (lane l v)) values []
  where
    of_list : (xs : List Bool) → length xs ≡ N → unmasked bits (each (listed bits xs) N) ≡ unmasked bits xs
    of_list xs e = ap (unmasked bits) (ap (λ (n : ℕ). each (listed bits xs) n) (sym e) ∙ each-get_or xs false)

    at : (k : ℕ) → k < length values → unshared N (all_listed bits (map (lane l) values) k) ≡ unmasked bits (lane l (get_or values k []))
    at k lt =
        ap (λ (xs : List Bool). unmasked bits (each (listed bits xs) N)) (get_or-map (lane l) values k [] [] lt)
        ∙ of_list (lane l (get_or values k [])) (length-lane l N (get_or values k []) (counts k [] lt))

-- the outputs share the plain outputs
pub plain_in_lane : (l N : ℕ) (c : Netlist) (inputs outputs : List (List ℕ)) (r : List Bool) → IsCircuit c → 1 ≤ N → length inputs ≡ c.inputs →
    All (λ v. length v ≡ N) inputs → map (lane l) outputs ≡ outs bits c N (all_listed bits (map (lane l) inputs)) r →
    map (λ v. unmasked bits (lane l v)) outputs ≡ plain c (map (λ v. unmasked bits (lane l v)) inputs)
plain_in_lane l N c inputs outputs r is one count counts e =
    sym (map-map (unmasked bits) (lane l) outputs)
    ∙ ap (map (unmasked bits)) e
    ∙ outputs_unmask c N (all_listed bits (map (lane l) inputs)) r is.formed one
    ∙ ap (plain c) (ap (λ (n : ℕ). each (λ v. unshared N (all_listed bits (map (lane l) inputs) v)) n) (sym count) ∙ unshared_in_lane l N inputs counts)
