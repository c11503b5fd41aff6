-- What it comes to that a piece was taken with the keystream of Trivium, or that the tape failed.
use Rattle.std.proofs.Common.{◌≡◌, ℕ, ◌+◌, ◌*◌, ◌/◌, ◌%◌, ◌<◌, ◌≤◌, Bool, false, List, [], ◌∷◌, ◌++◌, length, map, get_or, refl, sym, ap, ap₂, subst, ◌∙◌, arith}
use Rattle.std.specs.Prelude.{slice_index}
use Rattle.std.proofs.Math.ListN.{get_or-map}
use Rattle.std.proofs.lemmas.List.{length-map, get_or-map as get_or-map_within}
use Rattle.mask_bits.specs.Lanes.{lane}
use Rattle.mask_bits.specs.Reading.{bit}
use Rattle.mask_circuit.specs.Ring.{bits}
use Rattle.mask_circuit.specs.Sharing.{unmasked}
use Rattle.mask_trace.specs.Steps.{Registers, Step, IsStrongPlan}
use Rattle.mask_trace.specs.Traces.{BitShares}
use Rattle.mask_trace.specs.Values.{Computed, HasShares, values_of, value_after}
use Rattle.mask_trace.specs.Drawing.{Stand, Ran, RanPart}
use Rattle.mask_trace.proofs.Computing.{runs_are_computed}
use Rattle.mask_modes.specs.Steps.{block_at}
use Rattle.mask_streams.specs.Streams.{IsHeldBehind, ahead, output_behind, steps_behind, stream_step}
use Rattle.mask_streams.proofs.HandedOut.{outputs_are_bits}
use Rattle.mask_streams.proofs.Keystreams.{output_fits}
use Rattle.mask_streams.proofs.Plans.{plans_are_strong}
use Rattle.mask_chain.specs.Chains as chain
use Rattle.mask_keystream.specs.Streaming.{Between}
use Rattle.mask_keystream.proofs.Pieces.{steps_of_piece}
use Rattle.mask_ciphers.specs.Methods.{Method, InCounterMode, AsStream, AsCode, batch, gates_of, next_gates}
use Rattle.mask_ciphers.specs.Laws.{IsSound}
use Rattle.mask_plan.specs.declared.runs.TaskRun.TheVariants.{Stream}
use Rattle.mask_plan.specs.Inside.{AreStreamed, GoesOn, IsBy, Stopped, Took}
use Rattle.mask_plan.proofs.Places.{Places}

module _ (N : ℕ) (iv : List ℕ) (ten : length iv ≡ 10) (run : Between) (fed : ℕ) (on : AreStreamed N iv fed run) where
  -- what the run holds as bits
  is_held : IsHeldBehind fed (values_of run.held)
  is_held = record {
    key = length-map run.held.key (unmasked bits) ∙ on.has_key.key;
    state = λ some. length-map run.held.state (unmasked bits) ∙ on.state some;
  }

  strong : (piece : List ℕ) → IsStrongPlan 80 (length run.held.state) (steps_behind iv fed piece)
  strong piece = plans_are_strong.behind iv fed (length run.held.state) piece ten (λ some. omega (arith, on.state some))

  module _ (run' : Between) (piece : List ℕ) (a b : Stand) (two : 2 ≤ N) (r : Ran N run.held (steps_behind run.iv fed piece) run'.held a b) where
    ran : Ran N run.held (steps_behind iv fed piece) run'.held a b
    ran = subst (λ (v : List ℕ). Ran N run.held (steps_behind v fed piece) run'.held a b) on.iv_is r

    computed : Computed N 80 (length run.held.state) run.held (steps_behind iv fed piece) run'.held a b
    computed = runs_are_computed N 80 (length run.held.state) run.held (steps_behind iv fed piece) run'.held a b (omega arith) (strong piece) on.has_key ran

    -- the words of the outputs stand for the output, bit by bit
    bits_stand : length piece ≤ 8 → map (lane 0) run'.outputs ≡ run'.held.state → length run'.held.state ≡ 352 → (k p : ℕ) → k < length piece → p < 8 →
        unmasked bits (lane 0 (get_or run'.outputs (288 + (8 * k + p)) [])) ≡ bit p (slice_index (output_behind iv (values_of run.held) fed piece) k)
    bits_stand few lanes long k p lt small =
        let at = 288 + (8 * k + p) in
        ap (unmasked bits) (sym (get_or-map (lane 0) run'.outputs at []) ∙ ap (λ (shares : List BitShares). get_or shares at []) lanes)
        ∙ sym (value_at run'.held.state at (omega (arith, long)))
        ∙ ap (λ (now : Registers Bool). get_or now.state at false) computed.values
        ∙ outputs_are_bits iv (values_of run.held) fed piece k p ten is_held few lt small
      where
        value_at : (state : List BitShares) (i : ℕ) → i < length state → get_or (map (unmasked bits) state) i false ≡ unmasked bits (get_or state i [])
        value_at state i within = get_or-map_within (unmasked bits) state i [] false within

-- BY EVERY METHOD

pub took : (N : ℕ) (method : Method) (place : ℕ → ℕ → ℕ) (run run' : Between) (fed : ℕ) (piece : List ℕ) (last : Bool) (a b : Stand) → 2 ≤ N → IsSound method →
    Places method place → GoesOn N method fed (Stream run) → Ran N run.held (steps_behind run.iv fed piece) run'.held a b → length piece ≤ batch method →
    map (lane 0) run'.outputs ≡ run'.held.state → length run'.held.state ≡ 352 → Took N method place fed piece last (Stream run) (Stream run') a b
took N (AsStream iv) place run run' fed piece last a b two ten stand on r few lanes long = record {
  ran = ran N iv ten run fed on run' piece a b two r;
  values = (computed N iv ten run fed on run' piece a b two r).values;
  stand = λ k p lt small.
      let within : k < length piece = omega (arith, lt, output_fits.piece_as_long iv (values_of run.held) fed piece) in
      let first : k / 8 ≡ 0 = omega arith in
      let same : k % 8 ≡ k = omega arith in
      let at : place (k % 8) p ≡ 288 + (8 * k + p) = stand (k % 8) p ∙ ap (λ (byte : ℕ). 288 + (8 * byte + p)) same in
      ap₂ (λ (l i : ℕ). unmasked bits (lane l (get_or run'.outputs i []))) first at
      ∙ bits_stand N iv ten run fed on run' piece a b two r few lanes long k p within small;
}
took N (InCounterMode m cipher) place run run' fed piece last a b two is stand on r few lanes long = absurd on
took N (AsCode code) place run run' fed piece last a b two is stand on r few lanes long = absurd on

-- behind a whole block the run goes on
pub goes_on : (N : ℕ) (method : Method) (run run' : Between) (fed : ℕ) (piece : List ℕ) (a b : Stand) → 2 ≤ N → IsSound method → GoesOn N method fed (Stream run) →
    Ran N run.held (steps_behind run.iv fed piece) run'.held a b → run'.iv ≡ run.iv → length run'.held.state ≡ 352 → length piece ≡ batch method →
    GoesOn N method (fed + length piece) (Stream run')
goes_on N (AsStream iv) run run' fed piece a b two ten on r same long all =
    let shares = (computed N iv ten run fed on run' piece a b two r).shares in
    record {
      iv_is = same ∙ on.iv_is;
      whole = omega (arith, on.whole, all);
      has_key = subst (λ (k : ℕ). HasShares N 80 k run'.held) (sym shares.state) shares;
      state = λ some. long;
    }
goes_on N (InCounterMode m cipher) run run' fed piece a b two is on r same long all = absurd on
goes_on N (AsCode code) run run' fed piece a b two is on r same long all = absurd on

-- the run is one by the method as long as its IV stays
pub is_by : (N : ℕ) (method : Method) (run run' : Between) (fed : ℕ) → GoesOn N method fed (Stream run) → run'.iv ≡ run.iv → IsBy N method (Stream run')
is_by N (AsStream iv) run run' fed on same = same ∙ on.iv_is
is_by N (InCounterMode m cipher) run run' fed on same = absurd on
is_by N (AsCode code) run run' fed on same = absurd on

-- what its steps need
pub state_there : (N : ℕ) (method : Method) (run : Between) (fed : ℕ) → GoesOn N method fed (Stream run) → 0 < fed → length run.held.state ≡ 352
state_there N (AsStream iv) run fed on = on.state
state_there N (InCounterMode m cipher) run fed on = absurd on
state_there N (AsCode code) run fed on = absurd on

pub block_fits : (N : ℕ) (method : Method) (run : Between) (fed n : ℕ) → GoesOn N method fed (Stream run) → n ≤ batch method → n ≤ 8
block_fits N (AsStream iv) run fed n on few = few
block_fits N (InCounterMode m cipher) run fed n on few = absurd on
block_fits N (AsCode code) run fed n on few = absurd on

-- the gates of its steps are those of the method's
pub gates_are : (N : ℕ) (method : Method) (run : Between) (fed : ℕ) (piece : List ℕ) (last : Bool) → GoesOn N method fed (Stream run) →
    gates_of (steps_behind run.iv fed piece) ≡ next_gates method fed piece last
gates_are N (AsStream iv) run fed piece last on = ap (λ (v : List ℕ). gates_of (steps_behind v fed piece)) on.iv_is
gates_are N (InCounterMode m cipher) run fed piece last on = absurd on
gates_are N (AsCode code) run fed piece last on = absurd on

pub stopped : (N : ℕ) (method : Method) (run run' : Between) (fed : ℕ) (piece : List ℕ) (last : Bool) (wanted counted counted' : ℕ) (a b : Stand) →
    GoesOn N method fed (Stream run) → 1 ≤ length piece → length piece ≤ batch method →
    chain.Stopped N run.held run'.held (ahead run.iv fed) (stream_step (block_at 8 piece 0)) wanted counted counted' a b →
    Stopped N method fed piece last (Stream run) wanted counted counted' a b
stopped N (AsStream iv) run run' fed piece last wanted counted counted' a b on some few stop =
    let steps : ahead run.iv fed ++ stream_step (block_at 8 piece 0) ∷ [] ≡ steps_behind iv fed piece
    = sym (steps_of_piece run.iv fed piece some few) ∙ ap (λ (v : List ℕ). steps_behind v fed piece) on.iv_is in
    record {
      count = stop.count;
      ran = rw (← steps) stop.ran;
      few = rw (← on.iv_is) stop.few;
      next = stop.next;
      later = stop.later;
      follow = rw (← steps) stop.follow;
      wants = stop.wants;
      some = stop.some;
      counts = rw (← on.iv_is) stop.counts;
    }
stopped N (InCounterMode m cipher) run run' fed piece last wanted counted counted' a b on some few stop = absurd on
stopped N (AsCode code) run run' fed piece last wanted counted counted' a b on some few stop = absurd on
