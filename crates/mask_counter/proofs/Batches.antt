-- A batch is a refresh, where one is due, and then its blocks.
use Rattle.std.proofs.Common.{◌≡◌, ℕ, zero, suc, ◌+◌, ◌*◌, ◌%◌, ◌<◌, ◌≤◌, Bool, true, false, cond, List, [], ◌∷◌, ◌++◌, length, drop, inl, inr, refl, sym, ap, ap₂, subst, ◌∙◌, arith}
use Rattle.std.proofs.Math.Seq.{drop-append_seam}
use Rattle.std.proofs.lemmas.List.{append-nil}
use Rattle.mask_bits.proofs.Bytes.{length-low}
use Rattle.mask_bits.specs.Reading.{low}
use Rattle.mask_circuit.specs.Wires.{each}
use Rattle.mask_circuit.specs.Expansion.{draws}
use Rattle.mask_tape.specs.Drawn.{Amount}
use Rattle.mask_tape.specs.Tape.{new_bytes}
use Rattle.mask_eval.specs.Evaluated.{coin_count}
use Rattle.mask_eval.specs.Watching.{Awaited, IsReadyFor, StaysReadyBehind, awaited}
use Rattle.mask_trace.specs.Steps.{Registers, Step, stretch, bits_of}
use Rattle.mask_trace.specs.Traces.{BitShares, output_shares}
use Rattle.mask_trace.specs.Drawing.{Stand, Ran, RanPart, stand}
use Rattle.mask_trace.proofs.Traces.{traces_split, bits_of-cons}
use Rattle.mask_trace.proofs.Drawing.{runs_join, draws_join}
use Rattle.mask_modes.specs.CounterMode.{block_count}
use Rattle.mask_modes.specs.Steps.{IsBatch, ahead_of, block_at, block_step, block_steps, is_due, refresh_step}
use Rattle.mask_modes.proofs.Batches.{batches_are_steps}
use Rattle.mask_modes.proofs.BlockCounts.{le-block_count}
use Rattle.mask_modes.proofs.TapeBits.{plain_bits-block}
use Rattle.mask_counter.specs.Blocks.{IsBlockLength, reading}
use Rattle.mask_counter.specs.Batches.{BatchRan, BatchStopped, Between, Encrypted, batch_steps, have, mode}
use Rattle.mask_counter.specs.declared.words.BitOrder.{BitOrder}
use Rattle.mask_counter.proofs.Evaluations.{few_blocks, order-is, with_shares}
use Rattle.mask_counter.proofs.Turned.{length-ordered, reading_is}

-- what a run is given is a batch
pub is_batch : (view run : Between) (part : List ℕ) → view ≡ run → IsBlockLength view.block → run.done % 64 ≡ 0 → 1 ≤ length part →
    length part ≤ 64 * run.block → IsBatch (mode run) run.done part
is_batch view run part same fits behind some few =
    let is : IsBlockLength run.block = subst (λ (r : Between). IsBlockLength r.block) same fits in
    let positive : 0 < run.block = elim is [ inl e ↦ omega arith | inr e ↦ omega arith ] in
    let count = block_count run.block (length part) in
    let holds = le-block_count run.block (length part) positive in
    record {
      behind = behind;
      some = elim is [
        | inl e ↦ (let h : count * run.block ≡ count * 8 = ap (λ (n : ℕ). count * n) e in omega arith)
        | inr e ↦ (let h : count * run.block ≡ count * 16 = ap (λ (n : ℕ). count * n) e in omega arith)
      ];
      few = few_blocks run.block (length part) is few;
    }

-- BITS

-- the bits of steps that take n each
bits_of-each : (N n : ℕ) (step : ℕ → Step) (count : ℕ) → ((l : ℕ) → stretch N (step l) ≡ n) → bits_of N (each step count) ≡ count * n
bits_of-each N n step zero own = let none : 0 ≡ 0 * n = omega arith in none
bits_of-each N n step (suc count) own =
    let front = bits_of-each N n step count own in
    let last = bits_of-cons N (step count) [] in
    let same = own count in
    let both = traces_split.bits N (each step count) (step count ∷ []) in
    omega arith

length-reading : (order : BitOrder) (b : ℕ) (part : List ℕ) (l : ℕ) → length (reading order (block_at b part l)) ≡ 8 * b
length-reading order b part l =
    ap length (reading_is order (block_at b part l)) ∙ length-low _ ∙ ap (λ (n : ℕ). 8 * n) (length-ordered order b part l)

-- those of the blocks of a part
block_bits : (N : ℕ) (run : Between) (part : List ℕ) →
    bits_of N (block_steps (mode run) run.done part) ≡ block_count run.block (length part) * coin_count run.circuit N (8 * run.block)
block_bits N run part =
    bits_of-each N (coin_count run.circuit N (8 * run.block)) (λ l. block_step (mode run) (run.done + l) (block_at run.block part l)) (block_count run.block (length part))
    (λ l. ap₂ (λ (d n : ℕ). d * n + draws run.circuit N) (sym (order-is N))
    (ap length (plain_bits-block (mode run) (run.done + l) (block_at run.block part l)) ∙ length-reading run.order run.block part l))

refresh_bits : (N : ℕ) (run : Between) → bits_of N (refresh_step (mode run) ∷ []) ≡ coin_count run.refresh N 0
refresh_bits N run =
    let one = bits_of-cons N (refresh_step (mode run)) [] in
    let coins = batches_are_steps.refresh_coins N (mode run) in
    omega arith

-- BATCHES

-- a key and no state
abbrev with_key : List BitShares → Registers BitShares
with_key shares = record { key = shares; state = [] }

-- nothing was evaluated yet
nothing_ran : (N : ℕ) (have : Registers BitShares) (steps : List Step) (a : Stand) → length a.kept < 8 → RanPart N have steps 0 a a
nothing_ran N have steps a small = record { within = omega arith; now = have; ran = runs_join.none N have a small }

module _ (N : ℕ) (run : Between) (part : List ℕ) (is : IsBatch (mode run) run.done part) where
  abbrev ahead : List Step
  ahead = ahead_of (mode run) run.done

  ahead_is : (due : Bool) → is_due run.done ≡ due → ahead ≡ cond due (refresh_step (mode run) ∷ []) []
  ahead_is due e = ap (λ (b : Bool). cond b (refresh_step (mode run) ∷ []) []) e

  -- where nothing is ahead
  none_ahead : (a : Stand) → length a.kept < 8 → is_due run.done ≡ false → Ran N (have run) ahead (have run) a a
  none_ahead a small due =
      subst (λ (ss : List Step). Ran N (have run) ss (have run) a a) (sym (ahead_is false due)) (runs_join.none N (have run) a small)

  -- where a refresh is
  refresh_ahead : (now : Registers BitShares) (a a' b : Stand) → a' ≡ a → is_due run.done ≡ true →
      Ran N (have run) (refresh_step (mode run) ∷ []) now a' b → Ran N (have run) ahead now a b
  refresh_ahead now a a' b begins due ran =
      subst (λ (ss : List Step). Ran N (have run) ss now a b) (sym (ahead_is true due))
      (subst (λ (s : Stand). Ran N (have run) (refresh_step (mode run) ∷ []) now s b) begins ran)

  -- THE BLOCKS WERE ENCRYPTED

  -- behind what is ahead, on the key by then
  all_ran : (now run' : Between) (a b c : Stand) → now ≡ with_shares run now.shares → Ran N (have run) ahead (have now) a b → run'.shares ≡ now.shares →
      Encrypted N (mode now) (have now) now.done part run'.outputs b c → BatchRan N run run' part a c
  all_ran now run' a b c is_now first same encrypted =
      let key : have run' ≡ have now = ap with_key same in
      let e : Encrypted N (mode run) (have now) run.done part run'.outputs b c
      = subst (λ (r : Between). Encrypted N (mode r) (have now) r.done part run'.outputs b c) is_now encrypted in
      let tapes : ℕ → List Bool = λ l. drop (l * (e.sharing + draws run.circuit N)) (b.kept ++ low e.lanes.drawn.fresh) in
      record {
        ran = subst (λ (h : Registers BitShares). Ran N (have run) (batch_steps run part) h a c) (sym key)
            (batches_are_steps.ran N (mode run) (have run) (have now) (have now) run.done part a b c is first e.ran);
        tapes = tapes;
        made = λ l lt. e.made l lt
            ∙ ap (λ (h : Registers BitShares). output_shares N h (block_step (mode run) (run.done + l) (block_at run.block part l)) (tapes l)) (sym key);
      }

  pub plain_ran : (run' : Between) (a a' b : Stand) → a' ≡ a → is_due run.done ≡ false → length a.kept < 8 → run'.shares ≡ run.shares →
      Encrypted N (mode run) (have run) run.done part run'.outputs a' b → BatchRan N run run' part a b
  plain_ran run' a a' b begins due small same encrypted =
      all_ran run run' a a b refl (none_ahead a small due) same
      (subst (λ (s : Stand). Encrypted N (mode run) (have run) run.done part run'.outputs s b) begins encrypted)

  pub renewed_ran : (now run' : Between) (a a' b c : Stand) → a' ≡ a → is_due run.done ≡ true → now ≡ with_shares run now.shares →
      Ran N (have run) (refresh_step (mode run) ∷ []) (have now) a' b → run'.shares ≡ now.shares →
      Encrypted N (mode now) (have now) now.done part run'.outputs b c → BatchRan N run run' part a c
  renewed_ran now run' a a' b c begins due is_now first = all_ran now run' a b c is_now (refresh_ahead (have now) a a' b begins due first)

  -- THE TAPE FAILED

  -- behind what is ahead
  all_stopped : (wanted counted counted' : ℕ) (now : Registers BitShares) (a b : Stand) → Ran N (have run) ahead now a b →
      counted' ≡ counted + length ahead * length run.refresh.gates →
      wanted ≡ new_bytes b.kept (block_count run.block (length part) * coin_count run.circuit N (8 * run.block)) → 1 ≤ wanted →
      BatchStopped N run part wanted counted counted' a b
  all_stopped wanted counted counted' now a b first steps wants some =
      let rest = block_steps (mode run) run.done part in
      let small = draws_join.few _ _ a b first.drew in
      let all : length ahead + 0 ≡ length ahead = omega arith in
      record {
        count = length ahead;
        ran = subst (λ (n : ℕ). RanPart N (have run) (batch_steps run part) n a b) all
            (batches_are_steps.stopped N (mode run) (have run) now run.done part 0 a b b is first (nothing_ran N now rest b small));
        few = omega arith;
        steps = steps;
        next = rest;
        later = [];
        follow = ap (drop (length ahead)) (batches_are_steps.steps (mode run) run.done part is) ∙ drop-append_seam ahead rest ∙ sym (append-nil rest);
        wants = wants ∙ ap (new_bytes b.kept) (sym (block_bits N run part));
        some = some;
      }

  pub plain_stopped : (wanted counted counted' : ℕ) (a b : Stand) → a ≡ b → is_due run.done ≡ false → length a.kept < 8 → counted' ≡ counted →
      wanted ≡ new_bytes a.kept (block_count run.block (length part) * coin_count run.circuit N (8 * run.block)) → 1 ≤ wanted →
      BatchStopped N run part wanted counted counted' a b
  plain_stopped wanted counted counted' a b stays due small same wants some =
      let none : length ahead ≡ 0 = ap length (ahead_is false due) in
      subst (BatchStopped N run part wanted counted counted' a) stays
      (all_stopped wanted counted counted' (have run) a a (none_ahead a small due) (rw none (omega arith)) wants some)

  -- at the refresh itself
  pub refresh_stopped : (wanted counted counted' : ℕ) (a b : Stand) → a ≡ b → is_due run.done ≡ true → length a.kept < 8 → counted' ≡ counted →
      wanted ≡ new_bytes a.kept (coin_count run.refresh N 0) → 1 ≤ wanted → BatchStopped N run part wanted counted counted' a b
  refresh_stopped wanted counted counted' a b stays due small same wants some =
      let rest = block_steps (mode run) run.done part in
      subst (BatchStopped N run part wanted counted counted' a) stays (record {
        count = 0;
        ran = nothing_ran N (have run) (batch_steps run part) a small;
        few = omega arith;
        steps = omega arith;
        next = refresh_step (mode run) ∷ [];
        later = rest;
        follow = batches_are_steps.steps (mode run) run.done part is ∙ ap (λ (ss : List Step). ss ++ rest) (ahead_is true due);
        wants = wants ∙ ap (new_bytes a.kept) (sym (refresh_bits N run));
        some = some;
      })

  -- behind the refresh
  pub renewed_stopped : (wanted counted counted' : ℕ) (now : Between) (a a' b c : Stand) → a' ≡ a → b ≡ c → is_due run.done ≡ true → now ≡ with_shares run now.shares →
      Ran N (have run) (refresh_step (mode run) ∷ []) (have now) a' b → counted' ≡ counted + length run.refresh.gates →
      wanted ≡ new_bytes b.kept (block_count now.block (length part) * coin_count now.circuit N (8 * now.block)) → 1 ≤ wanted →
      BatchStopped N run part wanted counted counted' a c
  renewed_stopped wanted counted counted' now a a' b c begins stays due is_now first same wants some =
      let one : length ahead ≡ 1 = ap length (ahead_is true due) in
      let bits : Between → ℕ = λ r. block_count r.block (length part) * coin_count r.circuit N (8 * r.block) in
      subst (BatchStopped N run part wanted counted counted' a) stays
      (all_stopped wanted counted counted' (have now) a b (refresh_ahead (have now) a a' b begins due first) (rw one (omega arith))
      (wants ∙ ap (λ (r : Between). new_bytes b.kept (bits r)) is_now) some)

-- ROOMS

-- a watch that is ready for both is ready for the blocks once it was told of the refresh
pub ready_behind : (ready ready' : List Awaited → Type 0) (run now : Between) (order lanes : ℕ) (part : List ℕ) → now ≡ with_shares run now.shares →
    lanes ≡ block_count run.block (length part) → ready (awaited run.refresh order 1 ∷ awaited run.circuit order lanes ∷ []) →
    StaysReadyBehind ready ready' run.refresh order 1 → IsReadyFor ready' now.circuit order (block_count now.block (length part))
ready_behind ready ready' run now order lanes part is_now all both stays =
    subst (λ (r : Between). IsReadyFor ready' r.circuit order (block_count r.block (length part))) (sym is_now)
    ([], subst (λ (n : ℕ). ready' (awaited run.circuit order n ∷ [])) all (stays (awaited run.circuit order lanes ∷ []) both))

abbrev amount : ℕ → ℕ → Amount
amount lanes bits = record { lanes = lanes; bits = bits }

-- and the room for its coins is still that
pub room_behind : (room : Amount) (N : ℕ) (run now : Between) (lanes : ℕ) (part : List ℕ) → now ≡ with_shares run now.shares → lanes ≡ block_count run.block (length part) →
    room ≡ record { lanes = lanes; bits = coin_count run.circuit N (8 * run.block) } →
    room ≡ record { lanes = block_count now.block (length part); bits = coin_count now.circuit N (8 * now.block) }
room_behind room N run now lanes part is_now all is =
    subst (λ (r : Between). room ≡ amount (block_count r.block (length part)) (coin_count r.circuit N (8 * r.block))) (sym is_now)
    (is ∙ ap (λ (n : ℕ). amount n (coin_count run.circuit N (8 * run.block))) all)
