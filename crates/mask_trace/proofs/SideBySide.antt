-- What one evaluation in lanes tells is the trace of the steps in its lanes.
use Rattle.std.proofs.Common.{◌≡◌, ℕ, zero, suc, ◌+◌, ◌-◌, ◌*◌, ◌<◌, Bool, List, [], ◌∷◌, ◌++◌, map, take, drop, refl, ap, ap₂, sym, subst, ◌∙◌, arith}
use Rattle.std.specs.List.{concat}
use Rattle.std.proofs.lemmas.List.{take-map, drop-map}
use Rattle.std.proofs.Math.Numerals.{sub-one}
use Rattle.mask_bits.specs.Reading.{bit, low}
use Rattle.mask_bits.specs.Lanes.{lane}
use Rattle.mask_circuit.specs.Netlist.{Netlist}
use Rattle.mask_circuit.specs.Ring.{bits}
use Rattle.mask_circuit.specs.Wires.{each}
use Rattle.mask_circuit.specs.Expansion.{draws, outs}
use Rattle.mask_circuit.specs.Sharing.{all_listed}
use Rattle.mask_shares.proofs.Lists.{each-same}
use Rattle.mask_eval.specs.Watching.{Told, told_more, reports, value_by_value}
use Rattle.mask_eval.proofs.Shared.{lane-concat}
use Rattle.mask_trace.specs.Steps.{Nothing, Registers, Step, kept, stretch, bits_of}
use Rattle.mask_trace.specs.Traces.{BitShares, input_shares, output_shares, evaluation, after_step, after, trace}
use Rattle.mask_trace.specs.Drawing.{Stand, Drew}
use Rattle.mask_trace.specs.Lanes.{RanInLanes, LanesAreSteps, LaneIsStep}
use Rattle.mask_trace.proofs.Traces.{traces_split, bits_of-cons, evaluation-take, output_shares-take}
use Rattle.mask_trace.proofs.Drawing.{drawn_is_drew}

-- STEPS SIDE BY SIDE

module _ (N n : ℕ) (have : Registers BitShares) (step : ℕ → Step) (r : List Bool) where
  -- one step alone
  bits_of-one : (s : Step) → bits_of N (s ∷ []) ≡ stretch N s
  bits_of-one s = let one = bits_of-cons N s [] in omega arith

  -- the bits of steps that take n each
  bits_of-each : (lanes : ℕ) → ((l : ℕ) → l < lanes → stretch N (step l) ≡ n) → bits_of N (each step lanes) ≡ lanes * n
  bits_of-each zero same = let none : 0 ≡ 0 * n = omega arith in none
  bits_of-each (suc lanes) same =
      let front = bits_of-each lanes (λ l lt. same l (omega arith)) in
      let last = bits_of-one (step lanes) in
      let own = same lanes (omega arith) in
      let both = traces_split.bits N (each step lanes) (step lanes ∷ []) in
      let all : suc lanes * n ≡ lanes * n + n = omega arith in
      omega arith

  -- steps that keep nothing leave the registers
  after-each : (lanes : ℕ) → ((l : ℕ) → l < lanes → (step l).keeps ≡ Nothing) → after N have (each step lanes) r ≡ have
  unfolding after
  after-each zero none = refl
  after-each (suc lanes) none =
      let rest = drop (bits_of N (each step lanes)) r in
      traces_split.after N have (each step lanes) (step lanes ∷ []) r
      ∙ ap (λ (h : Registers BitShares). after_step N h (step lanes) rest) (after-each lanes (λ l lt. none l (omega arith)))
      ∙ ap (λ keeps. kept keeps (output_shares N have (step lanes) rest) have) (none lanes (omega arith))

  -- and each is evaluated with its own bits
  trace-each : (lanes : ℕ) → ((l : ℕ) → l < lanes → stretch N (step l) ≡ n) → ((l : ℕ) → l < lanes → (step l).keeps ≡ Nothing) →
      trace N have (each step lanes) r ≡ each (λ l. evaluation N have (step l) (drop (l * n) r)) lanes
  unfolding trace
  trace-each zero same none = refl
  trace-each (suc lanes) same none =
      traces_split.trace N have (each step lanes) (step lanes ∷ []) r
      ∙ ap₂ (λ (front last : List Told). front ++ last)
      (trace-each lanes (λ l lt. same l (omega arith)) (λ l lt. none l (omega arith)))
      (ap₂ (λ (h : Registers BitShares) (k : ℕ). evaluation N h (step lanes) (drop k r) ∷ [])
      (after-each lanes (λ l lt. none l (omega arith))) (bits_of-each lanes (λ l lt. same l (omega arith))))

-- LANES

lane-part : (l m n : ℕ) (coins : List ℕ) → lane l (take n (drop m coins)) ≡ take n (drop m (lane l coins))
lane-part l m n coins = sym (take-map (bit l) n (drop m coins)) ∙ ap (take n) (sym (drop-map (bit l) m coins))

-- an evaluation as a watch is told it
abbrev told_as : Netlist → ℕ → List Bool → List Bool → List Bool → Told
told_as c order inputs tape outputs = record { circuit = c; order = order; inputs = inputs; tape = tape; outputs = outputs }

same_told : (c c' : Netlist) (d d' : ℕ) (i i' t t' o o' : List Bool) → c ≡ c' → d ≡ d' → i ≡ i' → t ≡ t' → o ≡ o' → told_as c d i t o ≡ told_as c' d' i' t' o'
same_told c c' d d' i i' t t' o o' ec ed ei et eo =
    ap₂ (λ (x : Netlist) (y : ℕ). told_as x y i t o) ec ed
    ∙ ap₂ (λ (x y : List Bool). told_as c' d' x y o) ei et
    ∙ ap (told_as c' d' i' t') eo

module _ (N m lanes : ℕ) (c : Netlist) (have : Registers BitShares) (step : ℕ → Step) (coins : List ℕ) (inputs outputs : List (List ℕ)) (a b : Stand)
    (ran : RanInLanes N m lanes c have step coins inputs outputs a b) where
  abbrev own_bits : ℕ
  own_bits = m + draws c N

  abbrev stretch_of_all : List Bool
  stretch_of_all = a.kept ++ low ran.drawn.fresh

  stretch-is : (l : ℕ) → l < lanes → stretch N (step l) ≡ own_bits
  stretch-is l lt = ap₂ (λ (x : ℕ) (d : Netlist). x + draws d N) (ran.sharing l lt) (ran.circuit l lt)

  -- the outputs of a lane are those of its step
  outputs-lane : (l : ℕ) → l < lanes → map (lane l) outputs ≡ output_shares N have (step l) (lane l coins)
  outputs-lane l lt =
      let few = ran.few in
      ran.outputs_are l (omega arith)
      ∙ ap₂ (λ (ss : List BitShares) (tape : List Bool). outs bits c N (all_listed bits ss) tape) (ran.inputs_are l lt) (lane-part l m (draws c N) coins)
      ∙ ap₂ (λ (d : Netlist) (k : ℕ). outs bits d N (all_listed bits (input_shares N have (step l).inputs (lane l coins))) (take (draws d N) (drop k (lane l coins))))
      (sym (ran.circuit l lt)) (sym (ran.sharing l lt))

  -- and so is all that is told of it
  told-lane : (l : ℕ) → l < lanes →
      told_as c (N - 1) (lane l (concat inputs)) (lane l (take (draws c N) (drop m coins))) (lane l (concat outputs)) ≡ evaluation N have (step l) (lane l coins)
  told-lane l lt =
      same_told _ _ _ _ _ _ _ _ _ _ (sym (ran.circuit l lt)) (sub-one N)
      (lane-concat l inputs ∙ ap value_by_value (ran.inputs_are l lt))
      (lane-part l m (draws c N) coins
      ∙ ap₂ (λ (d : Netlist) (k : ℕ). take (draws d N) (drop k (lane l coins))) (sym (ran.circuit l lt)) (sym (ran.sharing l lt)))
      (lane-concat l outputs ∙ ap value_by_value (outputs-lane l lt))

  -- the lane's own bits of the tape
  outputs-step : (l : ℕ) → l < lanes → map (lane l) outputs ≡ output_shares N have (step l) (drop (l * own_bits) stretch_of_all)
  outputs-step l lt =
      let own = stretch-is l lt in
      outputs-lane l lt
      ∙ ap (output_shares N have (step l)) (ran.drawn.spread.used l lt)
      ∙ output_shares-take N have (step l) own_bits (drop (l * own_bits) stretch_of_all) (omega arith)

  told-step : (l : ℕ) → l < lanes →
      told_as c (N - 1) (lane l (concat inputs)) (lane l (take (draws c N) (drop m coins))) (lane l (concat outputs))
      ≡ evaluation N have (step l) (drop (l * own_bits) stretch_of_all)
  told-step l lt =
      let own = stretch-is l lt in
      told-lane l lt
      ∙ ap (evaluation N have (step l)) (ran.drawn.spread.used l lt)
      ∙ evaluation-take N have (step l) own_bits (drop (l * own_bits) stretch_of_all) (omega arith)

  -- all lanes at once
  reports-each : reports c (N - 1) (concat inputs) (take (draws c N) (drop m coins)) (concat outputs) lanes
      ≡ each (λ l. evaluation N have (step l) (drop (l * own_bits) stretch_of_all)) lanes
  reports-each = each-same _ _ lanes told-step

  drew : Drew (bits_of N (each step lanes)) ran.drawn.fresh a b
  drew = subst (λ (n : ℕ). Drew n ran.drawn.fresh a b) (sym (bits_of-each N own_bits have step stretch_of_all lanes stretch-is))
      (drawn_is_drew a b lanes own_bits coins ran.small ran.drawn)

pub lanes_are_steps : LanesAreSteps
lanes_are_steps N m lanes c have step coins inputs outputs a b ran none =
    let r = a.kept ++ low ran.drawn.fresh in
    let n = m + draws c N in (
      record {
        fresh = ran.drawn.fresh;
        drew = drew N m lanes c have step coins inputs outputs a b ran;
        tells = ran.tells ∙ ap (told_more a.told) (reports-each N m lanes c have step coins inputs outputs a b ran
            ∙ sym (trace-each N n have step r lanes (stretch-is N m lanes c have step coins inputs outputs a b ran) none));
        holds = sym (after-each N n have step r lanes none);
      },
      outputs-step N m lanes c have step coins inputs outputs a b ran,
    )

pub lane_is_step : LaneIsStep
unfolding trace after
lane_is_step N m c have step coins inputs outputs a b ran =
    let r = a.kept ++ low ran.drawn.fresh in
    let first : 0 * (m + draws c N) ≡ 0 = omega arith in
    record {
      fresh = ran.drawn.fresh;
      drew = drew N m 1 c have step coins inputs outputs a b ran;
      tells = ran.tells ∙ ap (told_more a.told) (reports-each N m 1 c have step coins inputs outputs a b ran
          ∙ ap (λ (k : ℕ). evaluation N have (step 0) (drop k r) ∷ []) first);
      holds = ap (λ (ss : List BitShares). kept (step 0).keeps ss have)
          (outputs-step N m 1 c have step coins inputs outputs a b ran 0 (omega arith) ∙ ap (λ (k : ℕ). output_shares N have (step 0) (drop k r)) first);
    }
