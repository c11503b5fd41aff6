-- One evaluation is that of its step.
use Rattle.std.proofs.Common.{◌≡◌, ℕ, pred, ◌+◌, ◌-◌, ◌*◌, ◌<◌, Bool, List, [], ◌∷◌, ◌++◌, map, length, drop, All, Option, refl, ap, ap₂, sym, subst, ◌∙◌, arith, append_assoc}
use Rattle.std.proofs.lemmas.List.{map-append, append-nil, length-map}
use Rattle.std.proofs.Math.Numerals.{sub-one}
use Rattle.mask_bits.specs.Reading.{bit}
use Rattle.mask_bits.specs.Lanes.{lane}
use Rattle.mask_circuit.specs.Netlist.{Netlist}
use Rattle.mask_circuit.specs.Ring.{words}
use Rattle.mask_circuit.specs.Expansion.{draws}
use Rattle.mask_circuit.specs.Sharing.{all_shared}
use Rattle.mask_eval.specs.Watching.{Told}
use Rattle.mask_eval.specs.Evaluated.{EvaluatesInLanes, coin_count, inputs_of}
use Rattle.mask_eval.proofs.Shared.{all_shared_in_lane}
use Rattle.mask_trace.specs.Steps.{Plain, kept, plain_bits, sharing_bits, stretch}
use Rattle.mask_trace.specs.Traces.{BitShares, input_shares}
use Rattle.mask_trace.specs.Drawing.{Ran, stand}
use Rattle.mask_trace.specs.Lanes.{RanInLanes}
use Rattle.mask_trace.proofs.Inputs.{inputs_stand_in_parts}
use Rattle.mask_trace.proofs.SideBySide.{lane_is_step}
use Rattle.mask_chain.specs.Evaluations.{IsThere, all_laid, input_bits, keeps, step}
use Rattle.mask_chain.specs.Chains.{registers}
use Rattle.mask_chain.specs.declared.evaluations.Evaluation.{Evaluation}
use Rattle.mask_chain.proofs.Laid.{all_laid-lane, behind_none, none_plain}

-- THE MESSAGE

-- the message bits of a step are those that are given as such
message-is : (circuit : Netlist) (e : Evaluation) → plain_bits (step circuit e).inputs ≡ lane 0 e.message.now
message-is circuit e =
    let message = map Plain (lane 0 e.message.now) in
    inputs_stand_in_parts.bits_of_both (input_bits e.before.now) (message ++ input_bits e.behind.now)
    ∙ ap₂ (λ (xs ys : List Bool). xs ++ ys) (none_plain e.before.now)
    (inputs_stand_in_parts.bits_of_both message (input_bits e.behind.now)
    ∙ ap₂ (λ (xs ys : List Bool). xs ++ ys) (inputs_stand_in_parts.bits_of_plains (lane 0 e.message.now)) (none_plain e.behind.now))
    ∙ append-nil (lane 0 e.message.now)

-- so many coins share them
sharing-is : (N : ℕ) (circuit : Netlist) (e : Evaluation) → sharing_bits N (step circuit e) ≡ (N - 1) * length e.message.now
sharing-is N circuit e =
    ap₂ (λ (d n : ℕ). d * n) (sym (sub-one N)) (ap length (message-is circuit e) ∙ length-map e.message.now (bit 0))

-- and so many bits the step takes
pub stretch_is : (N : ℕ) (circuit : Netlist) (e : Evaluation) → stretch N (step circuit e) ≡ coin_count circuit N (length e.message.now)
stretch_is N circuit e = ap (λ (m : ℕ). m + draws circuit N) (sharing-is N circuit e)

-- THE STEP

module _ (N : ℕ) (circuit : Netlist) (e : Evaluation) (key state : List (List ℕ))
    (before_there : All (IsThere (length key) (length state)) e.before.now) (behind_there : All (IsThere (length key) (length state)) e.behind.now) where
  abbrev inputs : List ℕ → List (List ℕ)
  inputs coins = inputs_of N (all_laid N key state e.before.now) e.message.now (all_laid N key state e.behind.now) coins

  -- its inputs in lane 0
  inputs-lane : (coins : List ℕ) → map (lane 0) (inputs coins) ≡ input_shares N (registers key state) (step circuit e).inputs (lane 0 coins)
  inputs-lane coins =
      let have = registers key state in
      let r = lane 0 coins in
      let message = map Plain (lane 0 e.message.now) in
      let front = all_laid N key state e.before.now in
      let shared = all_shared words (N - 1) e.message.now coins in
      let rest = drop (pred N * length (plain_bits message)) r in
      map-append (lane 0) (front ++ shared) (all_laid N key state e.behind.now)
      ∙ ap₂ (λ (xs ys : List BitShares). xs ++ ys) (map-append (lane 0) front shared) (all_laid-lane N key state e.behind.now rest behind_there)
      ∙ ap₂ (λ (xs ys : List BitShares). xs ++ ys ++ input_shares N have (input_bits e.behind.now) rest) (all_laid-lane N key state e.before.now r before_there)
      (ap (λ (d : ℕ). map (lane 0) (all_shared words d e.message.now coins)) (sub-one N) ∙ all_shared_in_lane 0 (pred N) e.message.now coins
      ∙ sym (inputs_stand_in_parts.plains N have (lane 0 e.message.now) r))
      ∙ append_assoc (input_shares N have (input_bits e.before.now) r) (input_shares N have message r) (input_shares N have (input_bits e.behind.now) rest)
      ∙ ap (λ (more : List BitShares). input_shares N have (input_bits e.before.now) r ++ more)
      (sym (inputs_stand_in_parts.both N have message (input_bits e.behind.now) r))
      ∙ sym (behind_none N have (input_bits e.before.now) (message ++ input_bits e.behind.now) r (none_plain e.before.now))

  pub evaluated : (kept_bits kept_bits' : List Bool) (left left' : Option (List ℕ)) (told told' : Option (List Told)) (outputs : List (List ℕ)) →
      length kept_bits < 8 →
      EvaluatesInLanes circuit N 1 (all_laid N key state e.before.now) e.message.now (all_laid N key state e.behind.now)
      kept_bits kept_bits' left left' told told' outputs →
      Ran N (registers key state) (step circuit e ∷ []) (kept (keeps e.keep) (map (lane 0) outputs) (registers key state))
      (stand kept_bits left told) (stand kept_bits' left' told')
  evaluated kept_bits kept_bits' left left' told told' outputs small did =
      let m = (N - 1) * length e.message.now in
      let have = registers key state in
      let lanes : RanInLanes N m 1 circuit have (λ l. step circuit e) did.coins (inputs did.coins) outputs (stand kept_bits left told) (stand kept_bits' left' told')
      = record {
        few = omega arith;
        circuit = λ l lt. refl;
        sharing = λ l lt. sharing-is N circuit e;
        small = small;
        drawn = did.drawn;
        inputs_are = λ l lt.
            let first : 0 ≡ l = omega arith in
            subst (λ (k : ℕ). map (lane k) (inputs did.coins) ≡ input_shares N have (step circuit e).inputs (lane k did.coins)) first (inputs-lane did.coins);
        outputs_are = did.on_bits;
        tells = did.tells;
      } in
      lane_is_step N m circuit have (λ l. step circuit e) did.coins (inputs did.coins) outputs (stand kept_bits left told) (stand kept_bits' left' told') lanes
