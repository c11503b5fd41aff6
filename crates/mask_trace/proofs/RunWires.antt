-- The wires of a plan are those of its calls.
use Rattle.std.proofs.Common.{◌≡◌, ℕ, zero, suc, pred, ◌+◌, ◌*◌, ◌<◌, ◌≤◌, inl, inr, Bool, false, List, [], ◌∷◌, ◌++◌, length, take, drop, get_or, All, refl, ap, ap₂, sym, subst, ◌∙◌, ◌==◌, arith, length-append, length-drop, eq-eqb, ne_eqb}
use Rattle.std.specs.List.{flat_map}
use Rattle.std.proofs.lemmas.Bool.{cases_lt, cond-true, cond-false}
use Rattle.std.proofs.lemmas.List.{length-map, length-take-le, get_or-map, get_or_append_left, get_or-append-add, length_push, take-append-le, drop-append-le}
use Rattle.mask_circuit.specs.Netlist.{Netlist}
use Rattle.mask_circuit.specs.Ring.{bits}
use Rattle.mask_circuit.specs.Wires.{Shares, each, on_first}
use Rattle.mask_circuit.specs.Expansion.{shares_of, expand, draws, outs, wires}
use Rattle.mask_circuit.specs.Sharing.{listed, all_listed, shared, all_shared}
use Rattle.mask_circuit.specs.Acceptance.{output_at}
use Rattle.mask_circuit.proofs.Places.{length-each}
use Rattle.mask_shares.proofs.Lists.{get_or-each}
use Rattle.mask_laws.specs.Runs.{Origin, Public, Variable, Output, Call, Outputs, Evaluation, no_outputs, origin_shares, call_inputs, call_draws, evaluation, evaluation_wires, with_outputs, evaluations_from, run_wires}
use Rattle.mask_laws.proofs.Sharings.{all_shared-take, length-all_shared}
use Rattle.mask_laws.proofs.Shifts.{take_front, drop_front}
use Rattle.mask_laws.specs.Sharing.{SameShares}
use Rattle.mask_trace.specs.Steps as steps
use Rattle.mask_trace.specs.Traces.{BitShares, input_shares, gate_tape, output_shares, after_step}
use Rattle.mask_trace.specs.Calls.{origins, outputs_of, calls_from, calls_of, with_key, message_bits, message_coins, gate_coins, variables}
use Rattle.mask_trace.specs.Privacy.{trace_wires}
use Rattle.mask_trace.proofs.Traces.{bits_of-cons}
use Rattle.mask_trace.proofs.StrongRuns.{IsKnown, IsHeld, held, origin_held, AreApart, get_or-kept, apart-later, key_apart}
use Rattle.mask_trace.proofs.SameWires.{wires-same, values-same}

-- SHARES OF TWO PARTS

pub all_shared-append : (d : ℕ) (xs ys a b : List Bool) → length a ≡ d * length xs → all_shared bits d (xs ++ ys) (a ++ b) ≡ all_shared bits d xs a ++ all_shared bits d ys b
all_shared-append d [] ys [] b long = refl
all_shared-append d [] ys (x ∷ a) b long = absurd (omega arith)
all_shared-append d (x ∷ xs) ys a b long =
    let rest = length-drop d a in
    ap₂ (λ (own coins : List Bool). shared bits x own ∷ all_shared bits d (xs ++ ys) coins) (take-append-le d a b (omega arith)) (drop-append-le d a b (omega arith))
    ∙ ap (λ (ss : List BitShares). shared bits x (take d a) ∷ ss) (all_shared-append d xs ys (drop d a) b (omega arith))

-- ONE STEP

module _ (N k s : ℕ) (x : ℕ → Shares Bool) (outputs : Outputs) (named : steps.Registers Origin) (have : steps.Registers BitShares) where
  -- what the registers hold are the shares of the origins that they name
  abbrev pub Agree : Type 0
  Agree = (b : steps.InputBit) → IsHeld b → steps.IsThere k s b → (i : ℕ) → i < N →
      listed bits (held [] have b) i ≡ origin_shares x outputs (origin_held named b) i

  -- the variables from v on have the shares of message bits
  abbrev pub AreShared : ℕ → List Bool → List Bool → Type 0
  AreShared v bs coins = (p i : ℕ) → p < length bs → i < N → x (v + p) i ≡ all_listed bits (all_shared bits (pred N) bs coins) p i

  -- then inputs have the shares of their origins
  inputs-agree : Agree → (v : ℕ) (is : List steps.InputBit) (r : List Bool) → All (steps.IsThere k s) is → AreShared v (steps.plain_bits is) r →
      (u i : ℕ) → u < length is → i < N → all_listed bits (input_shares N have is r) u i ≡ origin_shares x outputs (get_or (origins named v is) u (Public false)) i
  inputs-agree agree v [] r there are u i lt small = absurd (omega arith)
  inputs-agree agree v (steps.Public b ∷ is) r there are zero i lt small = get_or-each (on_first bits b) N i false small
  inputs-agree agree v (steps.Plain b ∷ is) r there are zero i lt small =
      let first : v + 0 ≡ v = omega arith in sym (are 0 i (omega arith) small) ∙ ap (λ (w : ℕ). x w i) first
  inputs-agree agree v (steps.Key n ∷ is) r there are zero i lt small = agree (steps.Key n) (λ e. e) (there 0 (steps.Key n) (omega arith)) i small
  inputs-agree agree v (steps.State n ∷ is) r there are zero i lt small = agree (steps.State n) (λ e. e) (there 0 (steps.State n) (omega arith)) i small
  inputs-agree agree v (steps.Public b ∷ is) r there are (suc u) i lt small =
      inputs-agree agree v is r (λ n d l. there (suc n) d (omega arith)) are u i (omega arith) small
  inputs-agree agree v (steps.Plain b ∷ is) r there are (suc u) i lt small =
      inputs-agree agree (suc v) is (drop (pred N) r) (λ n d l. there (suc n) d (omega arith))
      (λ p e l m. let next : suc v + p ≡ v + suc p = omega arith in ap (λ (w : ℕ). x w e) next ∙ are (suc p) e (omega arith) m) u i (omega arith) small
  inputs-agree agree v (steps.Key n ∷ is) r there are (suc u) i lt small =
      inputs-agree agree v is r (λ n d l. there (suc n) d (omega arith)) are u i (omega arith) small
  inputs-agree agree v (steps.State n ∷ is) r there are (suc u) i lt small =
      inputs-agree agree v is r (λ n d l. there (suc n) d (omega arith)) are u i (omega arith) small

-- THE NEXT STEP

-- what holds of what is held, and of new outputs, holds behind a step
kept-same : (Q : BitShares → Origin → Type 0) (keeps : steps.Keeps) (c : Netlist) (new : List BitShares) (names : List Origin) (have : steps.Registers BitShares)
    (named : steps.Registers Origin) (k s : ℕ) → length new ≡ length c.outputs → length names ≡ length c.outputs →
    ((b : steps.InputBit) → IsHeld b → steps.IsThere k s b → Q (held [] have b) (origin_held named b)) →
    ((l : ℕ) → l < length c.outputs → Q (get_or new l []) (get_or names l (Public false))) →
    (b : steps.InputBit) → IsHeld b → steps.IsThere k (steps.state_after keeps c s) b → Q (held [] (steps.kept keeps new have) b) (origin_held (steps.kept keeps names named) b)
kept-same Q keeps c new names have named k s size size' old now (steps.Public y) is there = absurd (is tt)
kept-same Q keeps c new names have named k s size size' old now (steps.Plain y) is there = absurd (is tt)
kept-same Q steps.Nothing c new names have named k s size size' old now (steps.Key i) is there = old (steps.Key i) is there
kept-same Q steps.Nothing c new names have named k s size size' old now (steps.State i) is there = old (steps.State i) is there
kept-same Q steps.AsKey c new names have named k s size size' old now (steps.State i) is there = old (steps.State i) is there
kept-same Q steps.AsState c new names have named k s size size' old now (steps.Key i) is there = old (steps.Key i) is there
kept-same Q steps.AsState c new names have named k s size size' old now (steps.State i) is there = now i there
kept-same Q steps.AsKey c new names have named k s size size' old now (steps.Key i) is there = elim (cases_lt i (length c.outputs)) [
  | inl lt ↦
      let one = get_or_append_left new (drop (length new) have.key) [] i (omega arith) in
      let two = get_or_append_left names (drop (length names) named.key) (Public false) i (omega arith) in
      subst (λ (o : Origin). Q (get_or (new ++ drop (length new) have.key) i []) o) (sym two)
      (subst (λ (y : BitShares). Q y (get_or names i (Public false))) (sym one) (now i lt))
  | inr le ↦
      let one = get_or-kept new have.key i [] (omega arith) in
      let two = get_or-kept names named.key i (Public false) (omega arith) in
      subst (λ (o : Origin). Q (get_or (new ++ drop (length new) have.key) i []) o) (sym two)
      (subst (λ (y : BitShares). Q y (get_or named.key i (Public false))) (sym one) (old (steps.Key i) is there))
]

-- other calls leave the shares of known origins
origin-stays : (counts : List ℕ) (N j v : ℕ) (x : ℕ → Shares Bool) (outputs : Outputs) (own : Evaluation) (o : Origin) → length counts ≡ j → IsKnown counts v o →
    origin_shares x (with_outputs N j own outputs) o ≡ origin_shares x outputs o
origin-stays counts N j v x outputs own (Public b) number known = absurd known
origin-stays counts N j v x outputs own (Variable u) number known = refl
origin-stays counts N j v x outputs own (Output l k) number known =
    cond-false (l == j) (shares_of (expand bits own.circuit N own.inputs own.tape) (output_at own.circuit k)) (outputs l k) (ne_eqb l j (omega (arith, known.0)))

-- a new output has its shares
output-own : (N j k : ℕ) (x : ℕ → Shares Bool) (outputs : Outputs) (own : Evaluation) →
    origin_shares x (with_outputs N j own outputs) (Output j k) ≡ shares_of (expand bits own.circuit N own.inputs own.tape) (output_at own.circuit k)
output-own N j k x outputs own =
    cond-true (j == j) (shares_of (expand bits own.circuit N own.inputs own.tape) (output_at own.circuit k)) (outputs j k) (eq-eqb j j refl)

-- the shares of an output, from their list
output-listed : (c : Netlist) (N k i : ℕ) (y : ℕ → Shares Bool) (t : List Bool) → k < length c.outputs → i < N →
    listed bits (get_or (outs bits c N y t) k []) i ≡ shares_of (expand bits c N y t) (output_at c k) i
output-listed c N k i y t lt small =
    let T : ℕ → Shares Bool = shares_of (expand bits c N y t) in
    ap (λ (ss : BitShares). listed bits ss i) (get_or-map (λ u. each (T u) N) c.outputs k 0 [] lt)
    ∙ get_or-each (T (get_or c.outputs k 0)) N i false small

-- ALL STEPS

-- the message bits of one step and those of the others
module _ (N : ℕ) (x : ℕ → Shares Bool) (t : steps.Step) (ts : List steps.Step) (r : List Bool) (v : ℕ) (long : steps.stretch N t ≤ length r)
    (are : (p i : ℕ) → p < length (message_bits (t ∷ ts)) → i < N →
    x (v + p) i ≡ all_listed bits (all_shared bits (pred N) (message_bits (t ∷ ts)) (message_coins N (t ∷ ts) r)) p i) where
  abbrev rest : List Bool
  rest = drop (steps.stretch N t) r

  parts : all_shared bits (pred N) (message_bits (t ∷ ts)) (message_coins N (t ∷ ts) r)
      ≡ all_shared bits (pred N) (steps.plain_bits t.inputs) r ++ all_shared bits (pred N) (message_bits ts) (message_coins N ts rest)
  unfolding message_bits message_coins
  parts =
      all_shared-append (pred N) (steps.plain_bits t.inputs) (message_bits ts) (take (steps.sharing_bits N t) r) (message_coins N ts rest)
      (length-take-le (steps.sharing_bits N t) r (omega arith))
      ∙ ap (λ (ss : List BitShares). ss ++ all_shared bits (pred N) (message_bits ts) (message_coins N ts rest)) (all_shared-take bits (pred N) (steps.plain_bits t.inputs) r)

  count : length (message_bits (t ∷ ts)) ≡ length (steps.plain_bits t.inputs) + length (message_bits ts)
  unfolding message_bits
  count = length-append (steps.plain_bits t.inputs) (message_bits ts)

  own_shared : (p i : ℕ) → p < length (steps.plain_bits t.inputs) → i < N → x (v + p) i ≡ all_listed bits (all_shared bits (pred N) (steps.plain_bits t.inputs) r) p i
  own_shared p i lt small =
      let size = length-all_shared bits (pred N) (steps.plain_bits t.inputs) r in
      are p i (omega (arith, count)) small
      ∙ ap (λ (ss : List BitShares). all_listed bits ss p i) parts
      ∙ ap (λ (ss : BitShares). listed bits ss i) (get_or_append_left (all_shared bits (pred N) (steps.plain_bits t.inputs) r) _ [] p (omega arith))

  rest_shared : (p i : ℕ) → p < length (message_bits ts) → i < N →
      x (v + length (steps.plain_bits t.inputs) + p) i ≡ all_listed bits (all_shared bits (pred N) (message_bits ts) (message_coins N ts rest)) p i
  rest_shared p i lt small =
      let n = length (steps.plain_bits t.inputs) in
      let front = all_shared bits (pred N) (steps.plain_bits t.inputs) r in
      let size = length-all_shared bits (pred N) (steps.plain_bits t.inputs) r in
      let place : v + n + p ≡ v + (n + p) = omega arith in
      let same : n + p ≡ length front + p = omega arith in
      ap (λ (w : ℕ). x w i) place
      ∙ are (n + p) i (omega (arith, count)) small
      ∙ ap (λ (ss : List BitShares). all_listed bits ss (n + p) i) parts
      ∙ ap (λ (ss : BitShares). listed bits ss i)
      (ap (λ (q : ℕ). get_or (front ++ all_shared bits (pred N) (message_bits ts) (message_coins N ts rest)) q []) same
      ∙ get_or-append-add front (all_shared bits (pred N) (message_bits ts) (message_coins N ts rest)) p [])

-- one call, where its own part of the tape stands first
wires-cons : (call : Call) (calls : List Call) (N j : ℕ) (x : ℕ → Shares Bool) (outputs : Outputs) (own rest : List Bool) → length own ≡ call_draws N call →
    flat_map (evaluation_wires N) (evaluations_from (call ∷ calls) N j x outputs (own ++ rest))
    ≡ wires bits call.circuit N (call_inputs x outputs call) own
    ++ flat_map (evaluation_wires N) (evaluations_from calls N (suc j) x (with_outputs N j (evaluation call (call_inputs x outputs call) own) outputs) rest)
wires-cons call calls N j x outputs own rest long =
    ap₂ (λ (own rest : List Bool). wires bits call.circuit N (call_inputs x outputs call) own
    ++ flat_map (evaluation_wires N) (evaluations_from calls N (suc j) x (with_outputs N j (evaluation call (call_inputs x outputs call) own) outputs) rest))
    (take_front (call_draws N call) own rest long) (drop_front (call_draws N call) own rest long)

-- the bits of the gates are all there
pub length-gate_tape : (N : ℕ) (t : steps.Step) (r : List Bool) → steps.stretch N t ≤ length r → length (gate_tape N t r) ≡ draws t.circuit N
length-gate_tape N t r long =
    length-take-le (draws t.circuit N) (drop (steps.sharing_bits N t) r) (let behind = length-drop (steps.sharing_bits N t) r in omega arith)

run_wires-from : (ss : List steps.Step) (counts : List ℕ) (N j v k s : ℕ) (x : ℕ → Shares Bool) (outputs : Outputs) (named : steps.Registers Origin)
    (have : steps.Registers BitShares) (r : List Bool) → 2 ≤ N → steps.IsStrongPlan k s ss → AreApart counts v k s named → length counts ≡ j →
    Agree N k s x outputs named have →
    ((p i : ℕ) → p < length (message_bits ss) → i < N → x (v + p) i ≡ all_listed bits (all_shared bits (pred N) (message_bits ss) (message_coins N ss r)) p i) →
    steps.bits_of N ss ≤ length r →
    flat_map (evaluation_wires N) (evaluations_from (calls_from named v j ss) N j x outputs (gate_coins N ss r)) ≡ trace_wires N have ss r
unfolding calls_from gate_coins trace_wires
run_wires-from [] counts N j v k s x outputs named have r two plan apart number agree shared long = refl
run_wires-from (t ∷ ts) counts N j v k s x outputs named have r two plan apart number agree shared long =
    let more = bits_of-cons N t ts in
    let c = t.circuit in
    let v' = v + length (steps.plain_bits t.inputs) in
    let call : Call = record { circuit = c; origins = origins named v t.inputs } in
    let calls = calls_from (steps.kept t.keeps (outputs_of j c) named) v' (suc j) ts in
    let tape = gate_tape N t r in
    let y = call_inputs x outputs call in
    let z = all_listed bits (input_shares N have t.inputs r) in
    let own = evaluation call y tape in
    let rest = drop (steps.stretch N t) r in
    let same : SameShares N c.inputs y z
    = λ u i lt small. sym (inputs-agree N k s x outputs named have agree v t.inputs r plan.0.there
    (own_shared N x t ts r v (omega arith) shared) u i (omega (arith, plan.0.count)) small) in
    let later : Agree N k (steps.state_after t.keeps c s) x (with_outputs N j own outputs) (steps.kept t.keeps (outputs_of j c) named) (after_step N have t r)
    = λ b is there i small. kept-same (λ ss o. listed bits ss i ≡ origin_shares x (with_outputs N j own outputs) o i) t.keeps c (output_shares N have t r) (outputs_of j c)
    have named k s (length-map c.outputs _) (length-each (Output j) (length c.outputs))
    (λ d is_d there_d. agree d is_d there_d i small
    ∙ ap (λ (f : Shares Bool). f i) (sym (origin-stays counts N j v x outputs own (origin_held named d) number (apart.known d is_d there_d))))
    (λ l lt. output-listed c N l i z tape lt small
    ∙ sym (values-same c N two plan.0.formed tape y z same (output_at c l) i (plan.0.formed.outputs l 0 lt) small)
    ∙ ap (λ (f : Shares Bool). f i) (sym (output-own N j l x outputs own))
    ∙ ap (λ (o : Origin). origin_shares x (with_outputs N j own outputs) o i) (sym (get_or-each (Output j) (length c.outputs) l (Public false) lt)))
    b is there in
    wires-cons call calls N j x outputs tape (gate_coins N ts rest) (length-gate_tape N t r (omega arith))
    ∙ ap₂ (λ (xs ys : List Bool). xs ++ ys)
    (wires-same c N two plan.0.formed tape y z same)
    (run_wires-from ts (counts ++ length c.outputs ∷ []) N (suc j) v' k (steps.state_after t.keeps c s) x (with_outputs N j own outputs)
    (steps.kept t.keeps (outputs_of j c) named) (after_step N have t r) rest two plan.1
    (apart-later counts j v v' k s named apart number (omega arith) t.keeps c plan.0.fit) (omega (arith, length_push counts (length c.outputs))) later
    (rest_shared N x t ts r v (omega arith) shared) (omega (arith, length-drop (steps.stretch N t) r)))

-- A run from a key: its variables are the shares of the key and then those of all message bits.
pub run_wires-plan : (N n : ℕ) (ss : List steps.Step) (key : List BitShares) (r : List Bool) → 2 ≤ N → steps.IsStrongPlan n 0 ss → length key ≡ n → steps.bits_of N ss ≤ length r →
    run_wires (calls_of n ss) N (variables N key ss r) (gate_coins N ss r) ≡ trace_wires N (record { key = key; state = [] }) ss r
run_wires-plan N n ss key r two plan count long =
    run_wires-from ss [] N 0 n n 0 (variables N key ss r) no_outputs (with_key n) (record { key = key; state = [] }) r two plan (key_apart n) refl agree shared long
  where
    messages : List BitShares
    messages = all_shared bits (pred N) (message_bits ss) (message_coins N ss r)

    agree : Agree N n 0 (variables N key ss r) no_outputs (with_key n) (record { key = key; state = [] })
    agree (steps.Public y) is there i small = absurd (is tt)
    agree (steps.Plain y) is there i small = absurd (is tt)
    agree (steps.State k) is there i small = absurd (omega arith)
    agree (steps.Key k) is there i small =
        ap (λ (ss : BitShares). listed bits ss i) (sym (get_or_append_left key _ [] k (omega arith)))
        ∙ ap (λ (o : Origin). origin_shares (variables N key ss r) no_outputs o i) (sym (get_or-each Variable n k (Public false) there))

    shared : (p i : ℕ) → p < length (message_bits ss) → i < N → variables N key ss r (n + p) i ≡ all_listed bits (all_shared bits (pred N) (message_bits ss) (message_coins N ss r)) p i
    shared p i lt small =
        let same : n + p ≡ length key + p = omega arith in
        ap (λ (ss : BitShares). listed bits ss i)
        (ap (λ (q : ℕ). get_or (key ++ all_shared bits (pred N) (message_bits ss) (message_coins N ss r)) q []) same
        ∙ get_or-append-add key (all_shared bits (pred N) (message_bits ss) (message_coins N ss r)) p [])
