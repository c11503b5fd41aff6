-- What the shares of a run stand for, and that each evaluation of it is one.
use Rattle.std.proofs.Common.{◌≡◌, ℕ, zero, suc, pred, ◌+◌, ◌*◌, ◌<◌, ◌≤◌, Bool, false, List, [], ◌∷◌, ◌++◌, length, map, take, drop, get_or, All, refl, ap, ap₂, sym, subst, ◌∙◌, arith, length-drop}
use Rattle.std.proofs.lemmas.Bool.{ne_eqb}
use Rattle.std.proofs.lemmas.List.{length-take, length-take-le, length-map, get_or-map, map-append, drop-map, drop-drop}
use Rattle.std.proofs.lemmas.List.Elements.{All-nil, All-cons, All-tail, All-map, All-append, All-drop}
use Rattle.mask_bits.specs.Reading.{low}
use Rattle.mask_circuit.specs.Netlist.{Netlist}
use Rattle.mask_circuit.specs.Value.{xor, plain}
use Rattle.mask_circuit.specs.Ring.{bits}
use Rattle.mask_circuit.specs.Wires.{each, on_first}
use Rattle.mask_laws.specs.Sharing.{unshared}
use Rattle.mask_laws.proofs.Bits.{xor-false}
use Rattle.mask_laws.proofs.BitSums.{fold-xor, unmasked-each, total_same, total_none, shared-unmasks}
use Rattle.mask_laws.proofs.Unmasking.{outputs_unmask}
use Rattle.mask_circuit.specs.Sharing.{listed, all_listed, shared, unmasked}
use Rattle.mask_circuit.proofs.Places.{length-each}
use Rattle.mask_circuit.specs.Expansion.{draws, outs}
use Rattle.mask_shares.proofs.Lists.{each-same, map-each, each-get_or, each-first}
use Rattle.mask_eval.specs.Watching.{value_by_value}
use Rattle.mask_trace.specs.Steps.{InputBit, Public, Plain, Key, State, Nothing, AsKey, AsState, Keeps, Registers, Step, IsThere, IsStrongStep, IsStrongPlan, Fit, kept, state_after, plain_bits, stretch}
use Rattle.mask_trace.specs.Traces.{BitShares, input_shares, gate_tape, output_shares, evaluation, after_step, after, trace}
use Rattle.mask_trace.specs.Values.{HasShares, values_of, input_value, step_value, value_after, states_after, RunsCompute, IsStrongEvaluation, TracesAreEvaluations, RunsAreComputed}
use Rattle.mask_trace.proofs.RunWires.{length-gate_tape}
use Rattle.mask_trace.proofs.StrongRuns.{length-kept}
use Rattle.mask_trace.proofs.Traces.{bits_of-cons}

-- SHARES

-- the first share and the others
unmasked-first : (f : ℕ → Bool) (n : ℕ) → unmasked bits (each f (suc n)) ≡ xor (f 0) (unmasked bits (each (λ i. f (suc i)) n))
unmasked-first f n = ap (unmasked bits) (each-first f n) ∙ fold-xor (f 0) (each (λ i. f (suc i)) n)

-- no more than n shares, read as n of them, stand for the same bit
unshared_is : (n : ℕ) (shares : BitShares) → length shares ≤ n → unshared n (listed bits shares) ≡ unmasked bits shares
unshared_is n [] few = unmasked-each (listed bits []) n ∙ total_none n
unshared_is zero (b ∷ shares) few = absurd (omega arith)
unshared_is (suc n) (b ∷ shares) few =
    unmasked-first (listed bits (b ∷ shares)) n ∙ ap (xor b) (unshared_is n shares (omega arith)) ∙ sym (fold-xor b shares)

-- a public bit stands for itself
public-unmasks : (b : Bool) (N : ℕ) → 1 ≤ N → unmasked bits (each (on_first bits b) N) ≡ b
public-unmasks b zero some = absurd (omega arith)
public-unmasks b (suc n) some =
    unmasked-first (on_first bits b) n
    ∙ ap (xor b) (unmasked-each (λ i. on_first bits b (suc i)) n
    ∙ total_same _ (λ i. false) n (λ i lt. rw (ne_eqb (suc i) 0 (λ e. omega arith)) refl) ∙ total_none n)
    ∙ xor-false b

-- INPUTS

pub length-input_shares : (N : ℕ) (have : Registers BitShares) (is : List InputBit) (r : List Bool) → length (input_shares N have is r) ≡ length is
length-input_shares N have [] r = refl
length-input_shares N have (Public b ∷ is) r = ap suc (length-input_shares N have is r)
length-input_shares N have (Plain b ∷ is) r = ap suc (length-input_shares N have is (drop (pred N) r))
length-input_shares N have (Key k ∷ is) r = ap suc (length-input_shares N have is r)
length-input_shares N have (State k ∷ is) r = ap suc (length-input_shares N have is r)

module _ (N k s : ℕ) (have : Registers BitShares) (has : HasShares N k s have) where
  -- inputs stand for their bits
  inputs_stand : 1 ≤ N → (is : List InputBit) (r : List Bool) → All (IsThere k s) is →
      map (unmasked bits) (input_shares N have is r) ≡ map (input_value (values_of have)) is
  inputs_stand some [] r there = refl
  inputs_stand some (Public b ∷ is) r there =
      ap₂ (λ (c : Bool) (l : List Bool). c ∷ l) (public-unmasks b N some) (inputs_stand some is r (All-tail (IsThere k s) (Public b) is there))
  inputs_stand some (Plain b ∷ is) r there =
      ap₂ (λ (c : Bool) (l : List Bool). c ∷ l) (shared-unmasks b (take (pred N) r))
      (inputs_stand some is (drop (pred N) r) (All-tail (IsThere k s) (Plain b) is there))
  inputs_stand some (Key i ∷ is) r there =
      let within : i < k = there 0 (Public false) (omega arith) in
      ap₂ (λ (c : Bool) (l : List Bool). c ∷ l) (sym (get_or-map (unmasked bits) have.key i [] false (omega (arith, has.key))))
      (inputs_stand some is r (All-tail (IsThere k s) (Key i) is there))
  inputs_stand some (State i ∷ is) r there =
      let within : i < s = there 0 (Public false) (omega arith) in
      ap₂ (λ (c : Bool) (l : List Bool). c ∷ l) (sym (get_or-map (unmasked bits) have.state i [] false (omega (arith, has.state))))
      (inputs_stand some is r (All-tail (IsThere k s) (State i) is there))

  -- What holds of N shares, and of a bit with its coins, holds of all inputs.
  sizes : (Q : BitShares → Type 0) → ((shares : BitShares) → length shares ≡ N → Q shares) → (is : List InputBit) (r : List Bool) → All (IsThere k s) is →
      ((b : Bool) (n : ℕ) → n + pred N ≤ pred N * length (plain_bits is) → Q (shared bits b (take (pred N) (drop n r)))) → All Q (input_shares N have is r)
  sizes Q whole [] r there new = All-nil Q
  sizes Q whole (Public b ∷ is) r there new =
      All-cons Q (each (on_first bits b) N) (input_shares N have is r) (whole _ (length-each (on_first bits b) N))
      (sizes Q whole is r (All-tail (IsThere k s) (Public b) is there) new)
  sizes Q whole (Plain b ∷ is) r there new =
      All-cons Q (shared bits b (take (pred N) r)) (input_shares N have is (drop (pred N) r)) (new b 0 (omega arith))
      (sizes Q whole is (drop (pred N) r) (All-tail (IsThere k s) (Plain b) is there)
      (λ c n le. subst (λ (coins : List Bool). Q (shared bits c (take (pred N) coins))) (sym (drop-drop n (pred N) r)) (new c (pred N + n) (omega arith))))
  sizes Q whole (Key i ∷ is) r there new =
      let within : i < k = there 0 (Public false) (omega arith) in
      All-cons Q (get_or have.key i []) (input_shares N have is r) (whole _ (has.key_shares i [] (omega (arith, has.key))))
      (sizes Q whole is r (All-tail (IsThere k s) (Key i) is there) new)
  sizes Q whole (State i ∷ is) r there new =
      let within : i < s = there 0 (Public false) (omega arith) in
      All-cons Q (get_or have.state i []) (input_shares N have is r) (whole _ (has.state_shares i [] (omega (arith, has.state))))
      (sizes Q whole is r (All-tail (IsThere k s) (State i) is there) new)

  -- so none has more than N, whatever the tape ..
  few_shares : 1 ≤ N → (is : List InputBit) (r : List Bool) → All (IsThere k s) is → All (λ shares. length shares ≤ N) (input_shares N have is r)
  few_shares some is r there =
      sizes (λ shares. length shares ≤ N) (λ shares e. omega arith) is r there
      (λ b n le. omega (arith, length-take (pred N) (drop n r)))

  -- .. and each has N, where the tape is long enough
  all_shares : 1 ≤ N → (is : List InputBit) (r : List Bool) → All (IsThere k s) is → pred N * length (plain_bits is) ≤ length r →
      All (λ shares. length shares ≡ N) (input_shares N have is r)
  all_shares some is r there long =
      sizes (λ shares. length shares ≡ N) (λ shares e. e) is r there
      (λ b n le.
      let behind = length-drop n r in
      let coins : length (take (pred N) (drop n r)) ≡ pred N = length-take-le (pred N) (drop n r) (omega arith) in omega arith)

-- STEPS

pub length-output_shares : (N : ℕ) (have : Registers BitShares) (t : Step) (r : List Bool) → length (output_shares N have t r) ≡ length t.circuit.outputs
length-output_shares N have t r = length-map t.circuit.outputs _

pub outputs_have_shares : (N : ℕ) (have : Registers BitShares) (t : Step) (r : List Bool) → All (λ shares. length shares ≡ N) (output_shares N have t r)
outputs_have_shares N have t r = All-map (λ (shares : BitShares). length shares ≡ N) _ t.circuit.outputs (λ k d lt. length-each _ N)

-- outputs stand for what the circuit makes of the bits of the inputs
outputs_stand : (N k s : ℕ) (have : Registers BitShares) (t : Step) (r : List Bool) → 1 ≤ N → IsStrongStep k s t → HasShares N k s have →
    map (unmasked bits) (output_shares N have t r) ≡ step_value (values_of have) t
outputs_stand N k s have t r some is has =
    let values = input_shares N have t.inputs r in
    outputs_unmask t.circuit N (all_listed bits values) (gate_tape N t r) is.formed some
    ∙ ap (plain t.circuit)
    (ap (each (λ v. unshared N (all_listed bits values v))) (sym is.count ∙ sym (length-input_shares N have t.inputs r))
    ∙ each-same _ _ (length values) (λ v lt. unshared_is N (get_or values v []) (few_shares N k s have has some t.inputs r is.there v [] lt))
    ∙ sym (map-each (unmasked bits) (λ v. get_or values v []) (length values))
    ∙ ap (map (unmasked bits)) (each-get_or values [])
    ∙ inputs_stand N k s have has some t.inputs r is.there)

-- what is kept has N shares too ..
kept_shares : (N k s : ℕ) (have : Registers BitShares) (keeps : Keeps) (c : Netlist) (outputs : List BitShares) → HasShares N k s have → Fit k keeps c →
    length outputs ≡ length c.outputs → All (λ shares. length shares ≡ N) outputs → HasShares N k (state_after keeps c s) (kept keeps outputs have)
kept_shares N k s have Nothing c outputs has fit count sizes = has
kept_shares N k s have AsState c outputs has fit count sizes = record { key = has.key; state = count; key_shares = has.key_shares; state_shares = sizes }
kept_shares N k s have AsKey c outputs has fit count sizes = record {
  key = (length-kept AsKey c outputs have k s count fit has.key has.state).0;
  state = has.state;
  key_shares = All-append (λ (shares : BitShares). length shares ≡ N) outputs (drop (length outputs) have.key) sizes
      (All-drop (λ (shares : BitShares). length shares ≡ N) (length outputs) have.key has.key_shares);
  state_shares = has.state_shares;
}

-- .. and stands for what is kept of the bits
kept_values : (keeps : Keeps) (outputs : List BitShares) (have : Registers BitShares) → values_of (kept keeps outputs have) ≡ kept keeps (map (unmasked bits) outputs) (values_of have)
kept_values Nothing outputs have = refl
kept_values AsState outputs have = refl
kept_values AsKey outputs have =
    ap (λ (key : List Bool). record { key = key; state = map (unmasked bits) have.state })
    (map-append (unmasked bits) outputs (drop (length outputs) have.key)
    ∙ ap (λ (rest : List Bool). map (unmasked bits) outputs ++ rest)
    (sym (drop-map (unmasked bits) (length outputs) have.key) ∙ ap (λ (n : ℕ). drop n (map (unmasked bits) have.key)) (sym (length-map outputs (unmasked bits)))))

module _ (N k s : ℕ) (have : Registers BitShares) (t : Step) (r : List Bool) (some : 1 ≤ N) (is : IsStrongStep k s t) (has : HasShares N k s have) where
  step_shares : HasShares N k (state_after t.keeps t.circuit s) (after_step N have t r)
  step_shares =
      kept_shares N k s have t.keeps t.circuit (output_shares N have t r) has is.fit (length-output_shares N have t r) (outputs_have_shares N have t r)

  step_values : values_of (after_step N have t r) ≡ kept t.keeps (step_value (values_of have) t) (values_of have)
  step_values =
      kept_values t.keeps (output_shares N have t r) have
      ∙ ap (λ (bs : List Bool). kept t.keeps bs (values_of have)) (outputs_stand N k s have t r some is has)

  -- a step is told as an evaluation
  evaluated : stretch N t ≤ length r → IsStrongEvaluation N (evaluation N have t r)
  evaluated long =
      let shares = input_shares N have t.inputs r in
      let one_more : N ≡ suc (pred N) = omega arith in
      record {
        order = refl;
        formed = is.formed;
        strong = is.strong;
        evaluation = record {
          shares = shares;
          count = length-input_shares N have t.inputs r ∙ is.count;
          sizes = λ i d lt. all_shares N k s have has some t.inputs r is.there (omega arith) i d lt ∙ one_more;
          inputs = refl;
          tape = length-gate_tape N t r long ∙ ap (draws t.circuit) one_more;
          outputs = ap (λ (n : ℕ). value_by_value (outs bits t.circuit n (all_listed bits shares) (gate_tape N t r))) one_more;
        };
      }

-- RUNS

registers_stand : (N k s : ℕ) (have : Registers BitShares) (ss : List Step) (r : List Bool) → 1 ≤ N → IsStrongPlan k s ss → HasShares N k s have →
    HasShares N k (states_after s ss) (after N have ss r) × (values_of (after N have ss r) ≡ value_after (values_of have) ss)
unfolding after value_after
registers_stand N k s have [] r some plan has = (has, refl)
registers_stand N k s have (t ∷ ts) r some plan has =
    let rest = registers_stand N k (state_after t.keeps t.circuit s) (after_step N have t r) ts (drop (stretch N t) r) some plan.1 (step_shares N k s have t r some plan.0 has) in
    (rest.0, rest.1 ∙ ap (λ (h : Registers Bool). value_after h ts) (step_values N k s have t r some plan.0 has))

pub runs_compute : RunsCompute
runs_compute = record { outputs = outputs_stand; registers = registers_stand }

pub traces_are_evaluations : TracesAreEvaluations
unfolding trace
traces_are_evaluations N k s have [] r some plan has long = All-nil (IsStrongEvaluation N)
traces_are_evaluations N k s have (t ∷ ts) r some plan has long =
    let more = bits_of-cons N t ts in
    let behind = length-drop (stretch N t) r in
    All-cons (IsStrongEvaluation N) (evaluation N have t r) (trace N (after_step N have t r) ts (drop (stretch N t) r))
    (evaluated N k s have t r some plan.0 has (omega arith))
    (traces_are_evaluations N k (state_after t.keeps t.circuit s) (after_step N have t r) ts (drop (stretch N t) r) some plan.1
    (step_shares N k s have t r some plan.0 has) (omega arith))

pub runs_are_computed : RunsAreComputed
runs_are_computed N k s have ss now a b some plan has ran =
    let r = a.kept ++ low ran.fresh in
    let stand = registers_stand N k s have ss r some plan has in
    record {
      shares = subst (HasShares N k (states_after s ss)) (sym ran.holds) stand.0;
      values = ap values_of ran.holds ∙ stand.1;
      calls = trace N have ss r;
      tells = ran.tells;
      evaluations = traces_are_evaluations N k s have ss r some plan has ran.drew.enough;
    }
