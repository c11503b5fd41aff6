-- What it comes to that a batch ran, or stopped, in a session.
use Rattle.std.proofs.Common.{◌≡◌, ℕ, zero, suc, ◌+◌, ◌*◌, ◌/◌, ◌%◌, ◌^◌, ◌<◌, ◌≤◌, Bool, true, false, cond, List, [], ◌∷◌, ◌++◌, length, map, take, drop, get_or, refl, sym, ap, ap₂, subst, ◌∙◌, arith}
use Rattle.std.specs.Prelude.{slice_index}
use Rattle.std.specs.declared.option.Option.{Option}
use Rattle.std.proofs.Math.ListN.{get_or-map}
use Rattle.std.proofs.Math.Nat.{add-mod_left, zero-mod}
use Rattle.std.proofs.lemmas.List.{length-map}
use Rattle.std.proofs.lemmas.Nat.{mod_below}
use Rattle.mask_bits.specs.Lanes.{lane}
use Rattle.mask_bits.specs.Reading.{AreBytes, bit, low}
use Rattle.mask_circuit.specs.Ring.{bits}
use Rattle.mask_circuit.specs.Sharing.{unmasked}
use Rattle.mask_circuit.specs.Wires.{each}
use Rattle.mask_tape.specs.declared.tape.TapeError.{TapeError}
use Rattle.mask_tape.specs.declared.tape.TapeError.TheVariants as tape_error
use Rattle.mask_tasks.specs.declared.tasks.Task.{Task}
use Rattle.mask_trace.specs.Steps.{Registers, Step}
use Rattle.mask_trace.specs.Traces.{BitShares, output_shares}
use Rattle.mask_trace.specs.Values.{HasShares, values_of, value_after}
use Rattle.mask_trace.specs.Drawing.{Stand, Ran, RanPart}
use Rattle.mask_modes.specs.CounterMode.{block_count, ciphertext_from}
use Rattle.mask_modes.specs.Steps.{Mode, Cipher, Enciphers, ahead_of, block_at, blocks, block_step, is_due, refresh_step, steps_from}
use Rattle.mask_modes.specs.Outputs.{HasKey, key_of}
use Rattle.mask_modes.proofs.Keystreams.{length-ciphertext, makes_blocks}
use Rattle.mask_modes.proofs.Encrypting.{steps_encrypt}
use Rattle.mask_modes.proofs.HandedOut.{outputs_are_bits}
use Rattle.mask_counter.specs.Batches.{Between, BatchRan, BatchStopped, have, mode}
use Rattle.mask_ciphers.specs.Methods.{Method, InCounterMode, AsStream, AsCode, IsCipher, batch, batch_gates, gates_of, key_width, next_gates}
use Rattle.mask_ciphers.specs.Laws.{IsSound}
use Rattle.mask_ciphers.specs.Tasks.{method_of}
use Rattle.mask_streams.proofs.Keystreams.{output_fits as stream_fits}
use Rattle.mask_plan.specs.declared.runs.TaskRun.{TaskRun}
use Rattle.mask_plan.specs.declared.runs.TaskRun.TheVariants.{Counter, Stream, Tag}
use Rattle.mask_plan.specs.declared.session.Stop.{Stop}
use Rattle.mask_plan.specs.Sessions.{Refuses, stop_of}
use Rattle.mask_plan.specs.Inside.{AreEncrypted, Begin, GoesOn, IsBy, Stopped, Took, progress}
use Rattle.mask_trace.proofs.Drawing.{runs_join}
use Rattle.mask_ciphers.proofs.Gates.{refresh-gates}
use Rattle.mask_ciphers.proofs.Batches.{batches_are_groups, block_of_byte, blocks_are_few, blocks_follow}
use Rattle.mask_modes.proofs.BlockCounts.{block_count-whole}
use Rattle.mask_tagging.specs.Runs.{between}
use Rattle.mask_plan.proofs.Places.{Places}
use Rattle.mask_plan.proofs.Tagging.{begins_tagged}

-- IN COUNTER MODE

-- the registers with this key and no state
abbrev with_key : List Bool → Registers Bool
with_key key = record { key = key; state = [] }

module _ (N : ℕ) (m : Mode) (cipher : Cipher) (is : Enciphers cipher m) (run : Between) (fed : ℕ) (on : AreEncrypted N m fed run) where
  -- the number of the next block
  abbrev i : ℕ
  i = block_count m.block fed

  -- what holds of the run's mode and the number of its next block holds of these
  of_run : (P : Mode → ℕ → Type 0) → P (mode run) run.done → P m i
  of_run P h = subst (λ (n : Mode). P n i) on.in_mode (subst (P (mode run)) on.done_is h)

  size : length (key_of (have run)) ≡ m.key
  size = length-map run.shares (unmasked bits) ∙ on.has_key.key

  module _ (run' : Between) (piece : List ℕ) (a b : Stand) (two : 2 ≤ N) (r : BatchRan N run run' piece a b) where
    ran : Ran N (have run) (steps_from m i (blocks m.block piece)) (have run') a b
    ran = of_run (λ (n : Mode) (j : ℕ). Ran N (have run) (steps_from n j (blocks n.block piece)) (have run') a b) r.ran

    -- the key stays, in fresh shares or not
    key_stays : HasKey N m (have run') × (key_of (have run') ≡ key_of (have run))
    key_stays =
        let stays = steps_encrypt.key_stays N m cipher (have run) i (blocks m.block piece) (a.kept ++ low ran.fresh) two is on.has_key in
        subst (λ (now : Registers BitShares). HasKey N m now × (key_of now ≡ key_of (have run))) (sym ran.holds) stays

    values : values_of (have run') ≡ value_after (values_of (have run)) (steps_from m i (blocks m.block piece))
    values = ap with_key key_stays.1 ∙ sym (steps_encrypt.values_stay m cipher (values_of (have run)) i (blocks m.block piece) is size)

    -- the outputs stand for the ciphertext, bit by bit
    outputs_stand : (place : ℕ → ℕ → ℕ) → Places (InCounterMode m cipher) place → AreBytes piece → (k p : ℕ) → k < length piece → p < 8 →
        unmasked bits (lane (k / m.block) (get_or run'.outputs (place (k % m.block) p) []))
        ≡ bit p (slice_index (ciphertext_from m.block m.iv (cipher (key_of (have run))) i piece) k)
    outputs_stand place stand are k p lt small =
        let l = k / m.block in
        let at = place (k % m.block) p in
        let made = of_run (λ (n : Mode) (j : ℕ). (l : ℕ) → l < block_count n.block (length piece) →
        map (lane l) run'.outputs ≡ output_shares N (have run') (block_step n (j + l) (block_at n.block piece l)) (r.tapes l)) r.made in
        ap (unmasked bits) (sym (get_or-map (lane l) run'.outputs at [])
        ∙ ap (λ (shares : List BitShares). get_or shares at []) (made l (block_of_byte m.block k (length piece) is.circuits.some lt)))
        ∙ outputs_are_bits N m cipher (have run') i piece (r.tapes l) k p at two is key_stays.0 are lt
        (stand (k % m.block) p (mod_below k m.block is.circuits.some) small)
        ∙ ap (λ (key : List Bool). bit p (slice_index (ciphertext_from m.block m.iv (cipher key) i piece) k)) key_stays.1

-- a run behind a batch
abbrev pub batch_done : Between → Between → ℕ → Between
batch_done run run' done = record run { shares = run'.shares; done = done; outputs = run'.outputs }

-- BY EVERY METHOD

pub took : (N : ℕ) (method : Method) (place : ℕ → ℕ → ℕ) (run run' : Between) (fed : ℕ) (piece : List ℕ) (last : Bool) (a b : Stand) → 2 ≤ N → IsSound method →
    Places method place → GoesOn N method fed (Counter run) → BatchRan N run run' piece a b → AreBytes piece → Took N method place fed piece last (Counter run) (Counter run') a b
took N (InCounterMode m cipher) place run run' fed piece last a b two is stand on r are = record {
  ran = ran N m cipher is run fed on run' piece a b two r;
  values = values N m cipher is run fed on run' piece a b two r;
  stand = λ k p lt small.
      let long = length-ciphertext m.block m.iv (cipher (key_of (have run))) is.circuits.some
      (makes_blocks m cipher (key_of (have run)) is (size N m cipher is run fed on)) (block_count m.block fed) piece in
      outputs_stand N m cipher is run fed on run' piece a b two r place stand are k p (subst (λ (n : ℕ). k < n) long lt) small;
}
took N (AsStream iv) place run run' fed piece last a b two is stand on r are = absurd on
took N (AsCode code) place run run' fed piece last a b two is stand on r are = absurd on

-- behind another whole batch the run goes on
pub goes_on : (N : ℕ) (method : Method) (run run' : Between) (fed : ℕ) (piece : List ℕ) (a b : Stand) → 2 ≤ N → IsSound method → GoesOn N method fed (Counter run) →
    BatchRan N run run' piece a b → run' ≡ batch_done run run' (run.done + block_count run.block (length piece)) → length piece ≡ batch method →
    GoesOn N method (fed + length piece) (Counter run')
goes_on N (InCounterMode m cipher) run run' fed piece a b two is on r done all = record {
  in_mode = ap mode done ∙ on.in_mode;
  whole = ap (λ (n : ℕ). n % (64 * m.block)) (omega (arith, all)) ∙ add-mod_left (64 * m.block) fed ∙ on.whole;
  done_is = ap (λ (x : Between). x.done) done ∙ ap (λ (i : ℕ). i + block_count run.block (length piece)) on.done_is
      ∙ ap (λ (n : Mode). block_count m.block fed + block_count n.block (length piece)) on.in_mode
      ∙ sym (blocks_follow m.block fed (length piece) is.circuits.some on.whole);
  has_key = (key_stays N m cipher is run fed on run' piece a b two r).0;
}
goes_on N (AsStream iv) run run' fed piece a b two is on r done all = absurd on
goes_on N (AsCode code) run run' fed piece a b two is on r done all = absurd on

-- the run is one by the method as long as its mode stays
pub is_by : (N : ℕ) (method : Method) (run run' : Between) (fed : ℕ) → GoesOn N method fed (Counter run) → mode run' ≡ mode run → IsBy N method (Counter run')
is_by N (InCounterMode m cipher) run run' fed on same = same ∙ on.in_mode
is_by N (AsStream iv) run run' fed on same = absurd on
is_by N (AsCode code) run run' fed on same = absurd on

-- the gates of the run's circuits are those of the method's
pub gates_are : (N : ℕ) (method : Method) (run : Between) (fed : ℕ) (piece : List ℕ) (last : Bool) → GoesOn N method fed (Counter run) →
    batch_gates (mode run) run.done piece ≡ next_gates method fed piece last
gates_are N (InCounterMode m cipher) run fed piece last on =
    ap₂ (λ (n : Mode) (i : ℕ). batch_gates n i piece) on.in_mode on.done_is
gates_are N (AsStream iv) run fed piece last on = absurd on
gates_are N (AsCode code) run fed piece last on = absurd on

pub stopped : (N : ℕ) (method : Method) (run : Between) (fed : ℕ) (piece : List ℕ) (last : Bool) (wanted counted counted' : ℕ) (a b : Stand) → GoesOn N method fed (Counter run) →
    BatchStopped N run piece wanted counted counted' a b → Stopped N method fed piece last (Counter run) wanted counted counted' a b
stopped N (InCounterMode m cipher) run fed piece last wanted counted counted' a b on stop =
    let of : (P : Mode → ℕ → Type 0) → P (mode run) run.done → P m (block_count m.block fed)
    = λ P h. subst (λ (n : Mode). P n (block_count m.block fed)) on.in_mode (subst (P (mode run)) on.done_is h) in
    let few = of (λ (n : Mode) (j : ℕ). stop.count ≤ length (ahead_of n j)) stop.few in
    record {
      count = stop.count;
      ran = of (λ (n : Mode) (j : ℕ). RanPart N (have run) (steps_from n j (blocks n.block piece)) stop.count a b) stop.ran;
      few = few;
      next = stop.next;
      later = stop.later;
      follow = of (λ (n : Mode) (j : ℕ). drop stop.count (steps_from n j (blocks n.block piece)) ≡ stop.next ++ stop.later) stop.follow;
      wants = stop.wants;
      some = stop.some;
      counts = stop.steps
          ∙ ap (λ (gates : ℕ). counted + gates)
          (ap (λ (n : Mode). stop.count * length n.refresh.gates) on.in_mode ∙ sym (refresh-gates m (block_count m.block fed) stop.count few));
    }
stopped N (AsStream iv) run fed piece last wanted counted counted' a b on stop = absurd on
stopped N (AsCode code) run fed piece last wanted counted counted' a b on stop = absurd on

-- a batch fits
pub batch_fits : (N : ℕ) (method : Method) (run : Between) (fed n : ℕ) → IsSound method → GoesOn N method fed (Counter run) → n ≤ batch method → n ≤ 64 * run.block
batch_fits N (InCounterMode m cipher) run fed n is on few = subst (λ (r : Mode). n ≤ 64 * r.block) (sym on.in_mode) few
batch_fits N (AsStream iv) run fed n is on few = absurd on
batch_fits N (AsCode code) run fed n is on few = absurd on

pub few_done : (N : ℕ) (method : Method) (run : Between) (fed most : ℕ) → IsSound method → GoesOn N method fed (Counter run) → fed ≤ most → run.done ≤ most
few_done N (InCounterMode m cipher) run fed most is on few = omega (arith, on.done_is, blocks_are_few m.block fed is.circuits.some)
few_done N (AsStream iv) run fed most is on few = absurd on
few_done N (AsCode code) run fed most is on few = absurd on

pub groups_done : (N : ℕ) (method : Method) (run : Between) (fed : ℕ) → IsSound method → GoesOn N method fed (Counter run) → run.done % 64 ≡ 0
groups_done N (InCounterMode m cipher) run fed is on =
    ap (λ (n : ℕ). n % 64) on.done_is ∙ batches_are_groups m.block fed is.circuits.some on.whole
groups_done N (AsStream iv) run fed is on = absurd on
groups_done N (AsCode code) run fed is on = absurd on

-- NO BYTES

-- no bytes are no blocks, and they do nothing
none_counted : (b n : ℕ) → 0 < b → n ≡ 0 → block_count b n ≡ 0
none_counted b n some none = let e : n ≡ 0 * b = omega (arith, none) in ap (block_count b) e ∙ block_count-whole b 0 some

no_steps : (m : Mode) (i : ℕ) (piece : List ℕ) → 0 < m.block → piece ≡ [] → steps_from m i (blocks m.block piece) ≡ []
unfolding steps_from
no_steps m i piece some none =
    ap (λ (n : ℕ). steps_from m i (each (block_at m.block piece) n)) (none_counted m.block (length piece) some (ap length none))

pub took_none : (N : ℕ) (method : Method) (place : ℕ → ℕ → ℕ) (run : TaskRun N) (fed : ℕ) (last : Bool) (a : Stand) → IsSound method → IsCipher method → GoesOn N method fed run →
    length a.kept < 8 → Took N method place fed [] last run run a a
unfolding ciphertext_from value_after
took_none N (InCounterMode m cipher) place (Counter run) fed last a is writes on few =
    let none = no_steps m (block_count m.block fed) [] is.circuits.some refl in
    record {
      ran = rw none (runs_join.none N (have run) a few);
      values = rw none refl;
      stand = λ k p lt small. absurd (omega (arith, lt));
    }
took_none N (AsStream iv) place (Stream run) fed last a is writes on few = record {
  ran = runs_join.none N run.held a few;
  values = refl;
  stand = λ k p lt small. absurd (omega (arith, lt, stream_fits.piece_as_long iv (values_of run.held) fed []));
}
took_none N (InCounterMode m cipher) place (Stream run) fed last a is writes on few = absurd on
took_none N (InCounterMode m cipher) place (Tag run) fed last a is writes on few = absurd on
took_none N (AsStream iv) place (Counter run) fed last a is writes on few = absurd on
took_none N (AsStream iv) place (Tag run) fed last a is writes on few = absurd on
took_none N (AsCode code) place run fed last a is writes on few = absurd writes

-- a run goes on from its beginning
pub begins : (N : ℕ) (method : Method) (shares : List BitShares) (run : TaskRun N) → IsSound method → Begin method shares run →
    HasShares N (key_width method) 0 (record { key = shares; state = [] }) → GoesOn N method 0 run
begins N (InCounterMode m cipher) shares (Counter run) is begin has = record {
  in_mode = begin.in_mode;
  whole = zero-mod (64 * m.block);
  done_is = begin.none ∙ sym (none_counted m.block 0 is.circuits.some refl);
  has_key = subst (λ (key : List BitShares). HasKey N m (record { key = key; state = [] })) (sym begin.key) has;
}
begins N (AsStream iv) shares (Stream run) is begin has = record {
  iv_is = begin.iv_is;
  whole = refl;
  has_key = subst (λ (now : Registers BitShares). HasShares N 80 (length now.state) now) (sym begin.held_is) has;
  state = λ lt. absurd (omega (arith, lt));
}
begins N (AsCode code) shares (Tag run) is begin has = begins_tagged N code shares (between run) begin.code_is begin.held_is has
begins N (InCounterMode m cipher) shares (Stream run) is begin has = absurd begin
begins N (InCounterMode m cipher) shares (Tag run) is begin has = absurd begin
begins N (AsStream iv) shares (Counter run) is begin has = absurd begin
begins N (AsStream iv) shares (Tag run) is begin has = absurd begin
begins N (AsCode code) shares (Counter run) is begin has = absurd begin
begins N (AsCode code) shares (Stream run) is begin has = absurd begin

pub begins_by : {N : ℕ} (method : Method) (shares : List BitShares) (run : TaskRun N) → Begin method shares run → IsBy N method run
begins_by (InCounterMode m cipher) shares (Counter run) begin = begin.in_mode
begins_by (AsStream iv) shares (Stream run) begin = begin.iv_is
begins_by (AsCode code) shares (Tag run) begin = begin.code_is
begins_by (InCounterMode m cipher) shares (Stream run) begin = absurd begin
begins_by (InCounterMode m cipher) shares (Tag run) begin = absurd begin
begins_by (AsStream iv) shares (Counter run) begin = absurd begin
begins_by (AsStream iv) shares (Tag run) begin = absurd begin
begins_by (AsCode code) shares (Counter run) begin = absurd begin
begins_by (AsCode code) shares (Stream run) begin = absurd begin

-- why a call was refused in which the tape failed, or memory
pub refuses : (N : ℕ) (task : Task) (run : TaskRun N) (fed written : ℕ) (closed : Option Stop) (ended : Bool) (piece : List ℕ) (last : Bool)
    (wanted counted counted' : ℕ) (a b : Stand) (error : TapeError) →
    (error ≡ tape_error.Failed → Stopped N (method_of task) fed piece last run wanted counted counted' a b) →
    (error ≡ tape_error.NoMemory → (b ≡ a) × (counted' ≡ counted)) →
    Refuses N (progress task run fed closed ended written) piece last wanted counted counted' a b (stop_of error)
refuses N task run fed written closed ended piece last wanted counted counted' a b tape_error.Failed failed full =
    let stop = failed refl in
    record {
      count = stop.count;
      ran = stop.ran;
      few = stop.few;
      next = stop.next;
      later = stop.later;
      follow = stop.follow;
      wants = stop.wants;
      some = stop.some;
      counted = stop.counts;
    }
refuses N task run fed written closed ended piece last wanted counted counted' a b tape_error.NoMemory failed full = full refl
