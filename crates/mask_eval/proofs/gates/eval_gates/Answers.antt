use Rattle.std.proofs.Common.{◌≡◌, ℕ, suc, ◌+◌, ◌<◌, ◌≤◌, List, [], ◌∷◌, ◌++◌, length, map, take, drop, set, get_or, sym, ap, ap₂, subst, ◌∙◌, arith, length-drop}
use Rattle.std.proofs.lemmas.List.{drop_all, drop_more, drop-drop, take-map, take-set-le, length-map, map-set}
use Rattle.std.proofs.lemmas.List.Sums.{sum_by-drop_more}
use Rattle.mask_circuit.specs.declared.gates.Gate.{Gate}
use Rattle.mask_circuit.specs.declared.gates.Gate.TheVariants.{Zero}
use Rattle.mask_circuit.specs.Ring.{words}
use Rattle.mask_circuit.specs.declared.gates.Wire.TheVariants.{Share}
use Rattle.mask_circuit.specs.Wires.{gate_draws, gate_names, gate_out, gate_wires}
use Rattle.mask_circuit.specs.Netlist.{AreGates, OperandsBelow}
use Rattle.mask_circuit.specs.Expansion.{Carried, shares_of, start, run}
use Rattle.mask_shares.specs.Sharing.{all_listed}
use Rattle.mask_tape.specs.Drawn.{Drawn, left as left_of}
use Rattle.mask_gadget.specs.Wiring.{told_more}
use Rattle.mask_gadget.proofs.Sizes.{row_fits}
use Rattle.mask_gadget.proofs.Telling.{told_more-none}
use Rattle.mask_laws.specs.Sharing.{SameShares}
use Rattle.mask_eval.specs.Telling.{wires_from}
use Rattle.mask_eval.proofs.Runs.{written_behind, run-take, next_value}
use Rattle.mask_eval.proofs.Told.{out-earlier, wires-earlier, wires_from-take, next_told}
use Rattle.mask_eval.proofs.gates.eval_gates.Goals as goal

-- the coins that were reserved for the next gate are left ..
coins_left : (first now : Drawn) (here rest now_rest all : ℕ) → all ≤ left_of first → now.words ≡ first.words → first.used ≤ now.used → now.used + now_rest ≡ first.used + all →
    now_rest ≡ here + rest → here ≤ left_of now
coins_left first now here rest now_rest all enough same forward spent next = let count = ap length same in omega arith

-- .. and so is the room for its wires
room_left : (first now here rest now_rest all : ℕ) → all ≤ first → first + now_rest ≤ now + all → now_rest ≡ here + rest → here ≤ now
room_left first now here rest now_rest all enough told next = omega arith

pub gate_on-requires : goal.gate_on-requires
gate_on-requires g c =
    let N = g.row.N in
    let gate : Gate = get_or c.args.gates.now c.loop-k.k Zero in
    let more = drop_more c.args.gates.now c.loop-k.k Zero c.loop-k-test.true in
    let are : AreGates (c.args.inputs + c.loop-k.k) (gate ∷ drop (c.loop-k.k + 1) c.args.gates.now) =
    subst (λ (gs : List Gate). AreGates (c.args.inputs + c.loop-k.k) gs) more c.loop-k.invariant.gates in
    let left = sum_by-drop_more (gate_draws N) c.args.gates.now c.loop-k.k Zero c.loop-k-test.true in
    let room = sum_by-drop_more (λ g'. length (gate_names g.row.N g')) c.args.gates.now c.loop-k.k Zero c.loop-k-test.true in
    let below : OperandsBelow (length c.split_at_mut-before.result.0.now) gate =
    subst (λ (m : ℕ). OperandsBelow m gate) (sym c.split_at_mut-before.ensures.front_len) are.0 in
    let coins : gate_draws g.row.N gate ≤ left_of (g.W.Wiring.drawn c.loop-k.coins) =
    coins_left (g.W.Wiring.drawn c.args.coins.now) (g.W.Wiring.drawn c.loop-k.coins) _ _ _ _ c.requires.coins c.loop-k.invariant.same c.loop-k.invariant.forward c.loop-k.invariant.spent left in
    let wires : length (gate_names g.row.N gate) ≤ g.W.Wiring.room c.loop-k.wires =
    room_left (g.W.Wiring.room c.args.wires.now) (g.W.Wiring.room c.loop-k.wires) _ _ _ _ c.requires.room c.loop-k.invariant.room room in (
      row_fits N _ c.requires.few g.met.W.Wiring.small,
      (
        c.requires.some,
        (
          c.requires.few,
          (below, (coins, wires)),
        ),
      ),
    )

pub loop-k-preserved : goal.loop-k-preserved
loop-k-preserved g c =
    let W = g.W.Wiring in
    let N = g.row.N in
    let k = c.loop-k.k in
    let n = c.args.inputs + c.loop-k.k in
    let gate : Gate = get_or c.args.gates.now c.loop-k.k Zero in
    let rest : List Gate = drop (c.loop-k.k + 1) c.args.gates.now in
    let values : List (List ℕ) = map (map g.W.Wiring.carried) c.loop-k.values in
    let out : List ℕ = map g.W.Wiring.carried c.gate_on.new.out in
    let coins = g.W.Wiring.drawn c.loop-k.coins in
    let after = g.W.Wiring.drawn c.gate_on.new.coins in
    let first = g.W.Wiring.drawn c.args.coins.now in
    let all : Carried ℕ = run words N c.args.gates.now c.args.inputs (start words (all_listed words (map (map g.W.Wiring.carried) c.args.values.now))) (drop first.used first.words) in
    let more = drop_more c.args.gates.now c.loop-k.k Zero c.loop-k-test.true in
    let next : c.args.inputs + (c.loop-k.k + 1) ≡ suc (c.args.inputs + c.loop-k.k) = omega arith in
    let are : AreGates n (gate ∷ rest) = subst (λ (gs : List Gate). AreGates n gs) more c.loop-k.invariant.gates in
    let d : ℕ = gate_draws N gate in
    let before : List (List ℕ) = map (map g.W.Wiring.carried) c.split_at_mut-before.result.0.now in
    let front : before ≡ take n values =
    ap (map (map g.W.Wiring.carried)) c.split_at_mut-before.ensures.front ∙ sym (take-map (map g.W.Wiring.carried) n c.loop-k.values) in
    let is : out ≡ gate_out words N gate (all_listed words values) (take d (drop coins.used coins.words)) =
    c.gate_on.ensures.shares ∙ out-earlier words N c.requires.some n gate values before (take d (drop coins.used coins.words)) are.0 front in
    let now : W.told c.gate_on.new.wires
    ≡ told_more (W.told c.loop-k.wires) (gate_wires words N gate (all_listed words values) (take d (drop coins.used coins.words))) =
    c.gate_on.ensures.told
    ∙ ap (told_more (W.told c.loop-k.wires)) (wires-earlier words N c.requires.some n gate values before (take d (drop coins.used coins.words)) are.0 front) in
    let written : c.split_at_mut-before.result.0.now ++ set c.split_at_mut-before.result.1.now 0 c.gate_on.new.out ≡ set c.loop-k.values n c.gate_on.new.out =
    written_behind c.loop-k.values c.split_at_mut-before.result.0.now c.split_at_mut-before.result.1.now n c.gate_on.new.out
    c.split_at_mut-before.ensures.value c.split_at_mut-before.ensures.front_len in
    let room : n < length values = rw (length-map c.loop-k.values (map g.W.Wiring.carried)) (omega arith) in
    let total : length c.args.values.now ≡ n + length (gate ∷ rest) = omega (arith, length-drop (c.loop-k.k + 1) c.args.gates.now) in
    let left = sum_by-drop_more (gate_draws N) c.args.gates.now c.loop-k.k Zero c.loop-k-test.true in
    let names = sum_by-drop_more (λ g'. length (gate_names g.row.N g')) c.args.gates.now c.loop-k.k Zero c.loop-k-test.true in
    let put : map (map g.W.Wiring.carried) (c.split_at_mut-before.result.0.now ++ set c.split_at_mut-before.result.1.now 0 c.gate_on.new.out) ≡ set values n out =
    ap (map (map g.W.Wiring.carried)) written ∙ map-set (map g.W.Wiring.carried) c.loop-k.values n c.gate_on.new.out in
    let drawn : drop after.used after.words ≡ drop (gate_draws N gate) (drop coins.used coins.words) =
    ap₂ (λ (m : ℕ) (ws : List ℕ). drop m ws) c.gate_on.ensures.spent c.gate_on.ensures.same ∙ sym (drop-drop (gate_draws N gate) coins.used coins.words) in
    record {
      shares = λ u i lu li.
          ap₂ (λ (m : ℕ) (vs : List (List ℕ)). run words N rest m (start words (all_listed words vs)) (drop after.used after.words) u (Share i)) next put
          ∙ next_value words N (length c.args.values.now) n gate rest values out (drop coins.used coins.words) (drop after.used after.words) (shares_of all)
          are room is drawn total
          (subst (λ (gs : List Gate). SameShares N (length c.args.values.now)
          (shares_of (run words N gs n (start words (all_listed words values)) (drop coins.used coins.words))) (shares_of all)) more c.loop-k.invariant.shares)
          u i lu li;
      told =
          ap₂ (λ (m : ℕ) (vs : List (List ℕ)). told_more (W.told c.gate_on.new.wires)
          (wires_from words N rest m (start words (all_listed words vs)) (drop after.used after.words))) next put
          ∙ next_told words N c.requires.some n gate rest values out (drop coins.used coins.words) (drop after.used after.words)
          (W.told c.loop-k.wires) (W.told c.gate_on.new.wires) _
          are room is now drawn
          (ap (λ (gs : List Gate). told_more (W.told c.loop-k.wires) (wires_from words N gs n (start words (all_listed words values)) (drop coins.used coins.words))) (sym more)
          ∙ c.loop-k.invariant.told);
      gates = subst (λ (m : ℕ). AreGates m rest) (sym next) are.1;
      inputs = ap (take c.args.inputs) written ∙ take-set-le c.args.inputs c.loop-k.values n c.gate_on.new.out (omega arith) ∙ c.loop-k.invariant.inputs;
      room = omega arith;
      forward = omega arith;
      spent = omega arith;
      same = c.gate_on.ensures.same ∙ c.loop-k.invariant.same;
      steps = omega arith;
    }

pub returns-clause-shares : goal.returns-clause-shares
returns-clause-shares g c u i lu li =
    let W = g.W.Wiring in
    let N = g.row.N in
    let coins = g.W.Wiring.drawn c.loop-k.coins in
    let first = g.W.Wiring.drawn c.args.coins.now in
    let none : drop c.loop-k.k c.args.gates.now ≡ [] = drop_all c.loop-k.k c.args.gates.now (omega arith) in
    ap (λ (gs : List Gate). run words N gs (c.args.inputs + c.loop-k.k) (start words (all_listed words (map (map g.W.Wiring.carried) c.loop-k.values)))
    (drop coins.used coins.words) u (Share i)) (sym none)
    ∙ c.loop-k.invariant.shares u i lu li
    ∙ ap (λ (T : Carried ℕ). T u (Share i))
    (sym (run-take words N c.args.gates.now c.args.inputs (start words (all_listed words (map (map g.W.Wiring.carried) c.args.values.now))) (drop first.used first.words)))

pub returns-clause-told : goal.returns-clause-told
returns-clause-told g c =
    let W = g.W.Wiring in
    let N = g.row.N in
    let coins = g.W.Wiring.drawn c.loop-k.coins in
    let first = g.W.Wiring.drawn c.args.coins.now in
    let none : drop c.loop-k.k c.args.gates.now ≡ [] = drop_all c.loop-k.k c.args.gates.now (omega arith) in
    told_more-none (W.told c.loop-k.wires)
    ∙ ap (λ (gs : List Gate). told_more (W.told c.loop-k.wires) (wires_from words N gs (c.args.inputs + c.loop-k.k)
    (start words (all_listed words (map (map g.W.Wiring.carried) c.loop-k.values))) (drop coins.used coins.words))) (sym none)
    ∙ c.loop-k.invariant.told
    ∙ ap (told_more (W.told c.args.wires.now))
    (sym (wires_from-take words N c.requires.some c.args.gates.now c.args.inputs (start words (all_listed words (map (map g.W.Wiring.carried) c.args.values.now)))
    (drop first.used first.words)))
