-- What it comes to that a piece was taken by a code, or that the tape failed.
use Rattle.std.proofs.Common.{◌≡◌, ℕ, ◌+◌, ◌*◌, ◌/◌, ◌%◌, ◌<◌, ◌≤◌, Bool, true, false, List, [], ◌∷◌, ◌++◌, length, map, get_or, refl, sym, ap, ap₂, subst, ◌∙◌, arith}
use Rattle.std.specs.Prelude.{slice_index}
use Rattle.std.proofs.Math.ListN.{get_or-map}
use Rattle.std.proofs.lemmas.List.{length-map}
use Rattle.std.proofs.Math.Nat.{add-mod_left, div-eq_of_lt, mod-eq_of_lt, zero-mod}
use Rattle.mask_bits.specs.Lanes.{lane}
use Rattle.mask_bits.specs.Reading.{bit}
use Rattle.mask_circuit.specs.Ring.{bits}
use Rattle.mask_circuit.specs.Sharing.{unmasked}
use Rattle.mask_trace.specs.Steps.{Registers, Step, IsStrongPlan}
use Rattle.mask_trace.specs.Traces.{BitShares}
use Rattle.mask_trace.specs.Values.{Computed, HasShares, values_of, value_after}
use Rattle.mask_trace.specs.Drawing.{Stand, Ran, RanPart}
use Rattle.mask_trace.proofs.Computing.{runs_are_computed}
use Rattle.mask_macs.specs.Codes.{Code, IsHeldBehind, IsNext}
use Rattle.mask_tagging.specs.Tagging.{Interrupted, code_of}
use Rattle.mask_tagging.specs.Tagging as tagging
use Rattle.mask_tagging.specs.declared.runs.TagRun.{TagRun}
use Rattle.mask_tagging.specs.Runs.{between}
use Rattle.mask_ciphers.specs.Methods.{Method, InCounterMode, AsStream, AsCode, MayEnd, batch, gates_of, next_gates}
use Rattle.mask_ciphers.specs.Laws.{IsSound, MakesTags}
use Rattle.mask_plan.specs.declared.runs.TaskRun.TheVariants.{Tag}
use Rattle.mask_plan.specs.Inside.{AreTagged, GoesOn, IsBy, Stopped, Took}
use Rattle.mask_plan.proofs.Places.{Places}

-- the next piece, where the last one may end the message and another is whole
pub next_piece : (code : Code) (fed : ℕ) (piece : List ℕ) (last : Bool) → (last ≡ false → length piece ≡ code.piece_bytes) →
    (last ≡ true → MayEnd (AsCode code) fed piece) → IsNext code fed piece last
next_piece code fed piece false all ends = all refl
next_piece code fed piece true all ends = ends refl

module _ (N : ℕ) (code : Code) (makes : MakesTags code) (run : tagging.Between) (fed : ℕ) (on : AreTagged N code fed run) where
  -- what the run holds as bits
  is_held : IsHeldBehind code fed (values_of run.held)
  is_held = record {
    key = length-map run.held.key (unmasked bits) ∙ on.has_key.key;
    state = λ some. length-map run.held.state (unmasked bits) ∙ on.state some;
  }

  module _ (run' : tagging.Between) (piece : List ℕ) (last : Bool) (next : IsNext code fed piece last) (a b : Stand) (two : 2 ≤ N)
      (r : Ran N run.held ((code_of run.scheme).next fed piece last) run'.held a b) where
    ran : Ran N run.held (code.next fed piece last) run'.held a b
    ran = subst (λ (c : Code). Ran N run.held (c.next fed piece last) run'.held a b) on.code_is r

    computed : Computed N (8 * code.key_bytes) (length run.held.state) run.held (code.next fed piece last) run'.held a b
    computed =
        runs_are_computed N (8 * code.key_bytes) (length run.held.state) run.held (code.next fed piece last) run'.held a b (omega arith)
        (makes.strong.behind fed (length run.held.state) piece last next (λ some. omega (arith, on.state some))) on.has_key ran

  -- the words of the outputs stand for the tag, bit by bit
  bits_stand : (run' : tagging.Between) (piece : List ℕ) → IsNext code fed piece true → values_of run'.held ≡ value_after (values_of run.held) (code.next fed piece true) →
      map (lane 0) run'.outputs ≡ run'.held.state → (k p : ℕ) → k < code.tag_bytes → p < 8 →
      unmasked bits (lane 0 (get_or run'.outputs (code.place k + p) [])) ≡ bit p (slice_index (code.output (values_of run.held) fed piece true) k)
  bits_stand run' piece next values lanes k p lt small =
      let at = code.place k + p in
      ap (unmasked bits) (sym (get_or-map (lane 0) run'.outputs at []) ∙ ap (λ (shares : List BitShares). get_or shares at []) lanes)
      ∙ sym (get_or-map (unmasked bits) run'.held.state at [])
      ∙ ap (λ (now : Registers Bool). get_or now.state at false) values
      ∙ makes.bits (values_of run.held) fed piece k p is_held next lt small

  -- so they stand for what is written of a piece, the last or not
  output_stands : (place : ℕ → ℕ → ℕ) → Places (AsCode code) place → (run' : tagging.Between) (piece : List ℕ) (last : Bool) → IsNext code fed piece last →
      values_of run'.held ≡ value_after (values_of run.held) (code.next fed piece last) → map (lane 0) run'.outputs ≡ run'.held.state → (k p : ℕ) →
      k < length (code.output (values_of run.held) fed piece last) → p < 8 →
      unmasked bits (lane (k / code.tag_bytes) (get_or run'.outputs (place (k % code.tag_bytes) p) []))
      ≡ bit p (slice_index (code.output (values_of run.held) fed piece last) k)
  output_stands place stand run' piece false next values lanes k p lt small =
      absurd (omega (arith, lt, ap length (makes.fits.none_before (values_of run.held) fed piece)))
  output_stands place stand run' piece true next values lanes k p lt small =
      let within : k < code.tag_bytes = omega (arith, lt, makes.fits.piece_as_long (values_of run.held) fed piece) in
      let first : k / code.tag_bytes ≡ 0 = div-eq_of_lt within in
      let same : k % code.tag_bytes ≡ k = mod-eq_of_lt within in
      let at : place (k % code.tag_bytes) p ≡ code.place k + p = stand (k % code.tag_bytes) p ∙ ap (λ (byte : ℕ). code.place byte + p) same in
      ap₂ (λ (l i : ℕ). unmasked bits (lane l (get_or run'.outputs i []))) first at
      ∙ bits_stand run' piece next values lanes k p within small

-- BY EVERY METHOD

pub took : (N : ℕ) (method : Method) (place : ℕ → ℕ → ℕ) (run run' : TagRun N) (fed : ℕ) (piece : List ℕ) (last : Bool) (a b : Stand) → 2 ≤ N → IsSound method →
    Places method place → GoesOn N method fed (Tag run) → (last ≡ false → length piece ≡ batch method) → (last ≡ true → MayEnd method fed piece) →
    Ran N (between run).held ((code_of (between run).scheme).next fed piece last) (between run').held a b →
    map (lane 0) (between run').outputs ≡ (between run').held.state → Took N method place fed piece last (Tag run) (Tag run') a b
took N (AsCode code) place run run' fed piece last a b two makes stand on all ends r lanes =
    let next = next_piece code fed piece last all ends in
    let values = (computed N code makes (between run) fed on (between run') piece last next a b two r).values in
    record {
      ran = ran N code makes (between run) fed on (between run') piece last next a b two r;
      values = values;
      stand = λ k p lt small. output_stands N code makes (between run) fed on place stand (between run') piece last next values lanes k p lt small;
    }
took N (AsStream iv) place run run' fed piece last a b two is stand on all ends r lanes = absurd on
took N (InCounterMode m cipher) place run run' fed piece last a b two is stand on all ends r lanes = absurd on

-- behind a whole piece the run goes on
pub goes_on : (N : ℕ) (method : Method) (run run' : TagRun N) (fed : ℕ) (piece : List ℕ) (a b : Stand) → 2 ≤ N → IsSound method → GoesOn N method fed (Tag run) →
    Ran N (between run).held ((code_of (between run).scheme).next fed piece false) (between run').held a b → (between run').scheme ≡ (between run).scheme →
    length (between run').held.state ≡ (code_of (between run).scheme).state_bits → length piece ≡ batch method → GoesOn N method (fed + length piece) (Tag run')
goes_on N (AsCode code) run run' fed piece a b two makes on r same long all =
    let shares = (computed N code makes (between run) fed on (between run') piece false all a b two r).shares in
    let state : length (between run').held.state ≡ code.state_bits = long ∙ ap (λ (c : Code). c.state_bits) on.code_is in
    record {
      code_is = ap code_of same ∙ on.code_is;
      whole = ap (λ (n : ℕ). n % code.piece_bytes) (omega (arith, all)) ∙ add-mod_left code.piece_bytes fed ∙ on.whole;
      has_key = subst (λ (k : ℕ). HasShares N (8 * code.key_bytes) k (between run').held) (sym shares.state) shares;
      state = λ some. state;
    }
goes_on N (AsStream iv) run run' fed piece a b two is on r same long all = absurd on
goes_on N (InCounterMode m cipher) run run' fed piece a b two is on r same long all = absurd on

-- the run is one by the method as long as its scheme stays
pub is_by : (N : ℕ) (method : Method) (run run' : TagRun N) (fed : ℕ) → GoesOn N method fed (Tag run) → (between run').scheme ≡ (between run).scheme →
    IsBy N method (Tag run')
is_by N (AsCode code) run run' fed on same = ap code_of same ∙ on.code_is
is_by N (AsStream iv) run run' fed on same = absurd on
is_by N (InCounterMode m cipher) run run' fed on same = absurd on

-- what its steps need
pub state_there : (N : ℕ) (method : Method) (run : TagRun N) (fed : ℕ) → GoesOn N method fed (Tag run) → 0 < fed →
    length (between run).held.state ≡ (code_of (between run).scheme).state_bits
state_there N (AsCode code) run fed on some = on.state some ∙ sym (ap (λ (c : Code). c.state_bits) on.code_is)
state_there N (AsStream iv) run fed on some = absurd on
state_there N (InCounterMode m cipher) run fed on some = absurd on

pub is_next : (N : ℕ) (method : Method) (run : TagRun N) (fed : ℕ) (piece : List ℕ) (last : Bool) → GoesOn N method fed (Tag run) →
    (last ≡ false → length piece ≡ batch method) → (last ≡ true → MayEnd method fed piece) → IsNext (code_of (between run).scheme) fed piece last
is_next N (AsCode code) run fed piece last on all ends =
    subst (λ (c : Code). IsNext c fed piece last) (sym on.code_is) (next_piece code fed piece last all ends)
is_next N (AsStream iv) run fed piece last on all ends = absurd on
is_next N (InCounterMode m cipher) run fed piece last on all ends = absurd on

-- the gates of its steps are those of the method's
pub gates_are : (N : ℕ) (method : Method) (run : TagRun N) (fed : ℕ) (piece : List ℕ) (last : Bool) → GoesOn N method fed (Tag run) →
    gates_of ((code_of (between run).scheme).next fed piece last) ≡ next_gates method fed piece last
gates_are N (AsCode code) run fed piece last on = ap (λ (c : Code). gates_of (c.next fed piece last)) on.code_is
gates_are N (AsStream iv) run fed piece last on = absurd on
gates_are N (InCounterMode m cipher) run fed piece last on = absurd on

pub stopped : (N : ℕ) (method : Method) (run run' : TagRun N) (fed : ℕ) (piece : List ℕ) (last : Bool) (wanted counted counted' : ℕ) (a b : Stand) →
    GoesOn N method fed (Tag run) →
    Interrupted N (code_of (between run).scheme) fed piece last (between run).held (between run').held wanted counted counted' a b →
    Stopped N method fed piece last (Tag run) wanted counted counted' a b
stopped N (AsCode code) run run' fed piece last wanted counted counted' a b on interrupted =
    let is : Interrupted N code fed piece last (between run).held (between run').held wanted counted counted' a b
    = subst (λ (c : Code). Interrupted N c fed piece last (between run).held (between run').held wanted counted counted' a b) on.code_is interrupted in
    let stop = is.stopped in
    record {
      count = stop.count;
      ran = rw is.begins stop.ran;
      few = stop.few;
      next = stop.next;
      later = stop.later;
      follow = rw is.begins stop.follow;
      wants = stop.wants;
      some = stop.some;
      counts = stop.counts;
    }
stopped N (AsStream iv) run run' fed piece last wanted counted counted' a b on interrupted = absurd on
stopped N (InCounterMode m cipher) run run' fed piece last wanted counted counted' a b on interrupted = absurd on

-- it begins
pub begins_tagged : (N : ℕ) (code : Code) (shares : List BitShares) (run : tagging.Between) → tagging.code_of run.scheme ≡ code →
    run.held ≡ record { key = shares; state = [] } → HasShares N (8 * code.key_bytes) 0 (record { key = shares; state = [] }) → AreTagged N code 0 run
begins_tagged N code shares run is held has = record {
  code_is = is;
  whole = zero-mod code.piece_bytes;
  has_key = subst (λ (now : Registers BitShares). HasShares N (8 * code.key_bytes) (length now.state) now) (sym held) has;
  state = λ lt. absurd (omega (arith, lt));
}
