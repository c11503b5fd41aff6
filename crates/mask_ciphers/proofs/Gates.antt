-- How many gates a run evaluates, batch by batch.
use Rattle.std.proofs.Common.{◌≡◌, ℕ, zero, suc, ◌+◌, ◌-◌, ◌*◌, ◌/◌, ◌%◌, ◌<◌, ◌≤◌, Bool, true, false, cond, not, ◌&&◌, ◌==◌, List, [], ◌∷◌, ◌++◌, length, map, take, drop, refl, sym, ap, ap₂, ◌∙◌, arith}
use Rattle.std.proofs.lemmas.Bool.{eq-eqb, eqb-true}
use Rattle.std.proofs.lemmas.List.{take-append-drop}
use Rattle.std.proofs.lemmas.List.Sums.{sum_by-append, sum_by-cons}
use Rattle.std.proofs.Math.Nat.{div-add-mod, div_self, mul-le-mul_right}
use Rattle.mask_circuit.proofs.Places.{length-each}
use Rattle.mask_trivium.specs.NamedTrivium.{named_start, named_step}
use Rattle.mask_streams.specs.Streams.{block_steps, steps_behind, stream_step}
use Rattle.mask_streams.specs.Streams.{ahead as ahead_of_stream}
use Rattle.mask_streams.proofs.Plans.{block_steps-map, none_ahead, steps_of_some}
use Rattle.mask_trace.specs.Steps.{Step}
use Rattle.mask_modes.specs.CounterMode.{block_count}
use Rattle.mask_modes.specs.Steps.{Mode, ahead_of, block_at, blocks, is_due, refresh_step}
use Rattle.mask_modes.proofs.BlockCounts.{block_count-add, block_count-whole, block_count_grows}
use Rattle.mask_ciphers.specs.Methods.{Method, InCounterMode, AsStream, AsCode, AreBatches, IsCipher, MayEnd, ahead, batch, batch_gates, fed_gates, gates_of, gates_of_batches, next_gates, run_gates, stream_gates}
use Rattle.mask_ciphers.specs.Tasks.{method_of}
use Rattle.mask_ciphers.specs.Laws.{GatesGoOn}
use Rattle.mask_ciphers.proofs.Batches.{HasBlocks, batches_of, blocks_of_batches, has_blocks, some_blocks}
use Rattle.mask_ciphers.proofs.Tagging.{HasCode, gates_of-append, has_code}
use Rattle.mask_ciphers.proofs.Tagging as tagging

-- IN COUNTER MODE

-- a refresh is due ahead of each batch but the first
due : (count : ℕ) → is_due (64 * suc count) ≡ true
due count = go (64 * suc count == 0) refl
  where
    go : (none : Bool) → (64 * suc count == 0) ≡ none → is_due (64 * suc count) ≡ true
    go true is = let e : 64 * suc count ≡ 0 = eqb-true (64 * suc count) 0 is in absurd (omega arith)
    go false is = ap₂ (λ (whole none : Bool). whole && not none) (eq-eqb (64 * suc count % 64) 0 (omega arith)) is

-- one batch more
one-more : (m : Mode) (count x : ℕ) (piece : List ℕ) → gates_of_batches m (suc count) ≡ gates_of_batches m count + batch_gates m (64 * count) (x ∷ piece)
one-more m zero x piece = omega arith
one-more m (suc count) x piece =
    let now : suc (suc count) - 1 ≡ suc count = omega arith in
    let before : suc count - 1 ≡ count = omega arith in
    rw (due count, now, before) (omega arith)

batches-grow : (m : Mode) (a b : ℕ) → a ≤ b → gates_of_batches m a ≤ gates_of_batches m b
batches-grow m a b le =
    let fewer : a - 1 ≤ b - 1 = omega arith in
    omega (arith, mul-le-mul_right (length m.circuit.gates) le, mul-le-mul_right (length m.refresh.gates) fewer)

-- the gates of a refresh, if one was evaluated
gates-ahead : (due : Bool) (count : ℕ) (refresh : Step) → count ≤ length (cond due (refresh ∷ []) []) →
    gates_of (take count (cond due (refresh ∷ []) [])) ≡ count * length refresh.circuit.gates
gates-ahead true zero refresh few = omega arith
gates-ahead true (suc zero) refresh few = omega arith
gates-ahead true (suc (suc count)) refresh few = absurd (omega (arith, few))
gates-ahead false zero refresh few = omega arith
gates-ahead false (suc count) refresh few = absurd (omega (arith, few))

pub refresh-gates : (m : Mode) (i count : ℕ) → count ≤ length (ahead_of m i) → gates_of (take count (ahead_of m i)) ≡ count * length m.refresh.gates
refresh-gates m i count few = gates-ahead (is_due i) count (refresh_step m) few

-- what may be evaluated ahead of some bytes is counted with them
ahead-few : (m : Mode) (i count : ℕ) (piece : List ℕ) → 1 ≤ length piece → count ≤ length (ahead_of m i) → count * length m.refresh.gates ≤ batch_gates m i piece
ahead-few m i count [] some few = absurd (omega arith)
ahead-few m i count (x ∷ piece) some few = go (is_due i) refl
  where
    go : (due : Bool) → is_due i ≡ due → count * length m.refresh.gates ≤ batch_gates m i (x ∷ piece)
    go true is = let le : count ≤ 1 = rw is at few in rw is (omega (arith, mul-le-mul_right (length m.refresh.gates) le))
    go false is = let le : count ≤ 0 = rw is at few in rw is (omega (arith, mul-le-mul_right (length m.refresh.gates) le))

-- some bytes behind whole batches begin one batch more
begins : (b n k : ℕ) → 0 < b → n % b ≡ 0 → 1 ≤ k → k ≤ b → block_count b (n + k) ≡ suc (block_count b n)
begins b n k some whole one few =
    let count = n / b in
    let is : n ≡ count * b = omega (arith, div-add-mod n b) in
    let least : block_count b 1 ≤ block_count b k = block_count_grows b 1 k some one in
    let most : block_count b k ≤ block_count b (1 * b) = block_count_grows b k (1 * b) some (omega arith) in
    let room : 1 + (b - 1) ≡ b = omega arith in
    let first : block_count b 1 ≡ 1 = ap (λ (x : ℕ). x / b) room ∙ div_self some in
    let last = block_count-whole b 1 some in
    let before : block_count b n ≡ count = ap (block_count b) is ∙ block_count-whole b count some in
    let after : block_count b (n + k) ≡ count + block_count b k = ap (λ (x : ℕ). block_count b (x + k)) is ∙ block_count-add b count k some in
    omega arith

module _ (m : Mode) (some : 0 < m.block) where
  -- whole batches have 64 blocks each
  in_blocks : (n : ℕ) → n % (64 * m.block) ≡ 0 → block_count m.block n ≡ 64 * block_count (64 * m.block) n
  in_blocks n whole =
      let k = n / (64 * m.block) in
      let is : n ≡ k * (64 * m.block) = omega (arith, batches_of m.block n whole) in
      let count : block_count (64 * m.block) n ≡ k = ap (block_count (64 * m.block)) is ∙ block_count-whole (64 * m.block) k (omega arith) in
      blocks_of_batches m.block n some whole ∙ ap (λ (x : ℕ). 64 * x) (sym count)

  piece-more : (n : ℕ) (piece : List ℕ) → n % (64 * m.block) ≡ 0 → length piece ≤ 64 * m.block →
      gates_of_batches m (block_count (64 * m.block) (n + length piece)) ≡ gates_of_batches m (block_count (64 * m.block) n) + batch_gates m (block_count m.block n) piece
  piece-more n [] whole few =
      let e : n + 0 ≡ n = omega arith in
      ap (λ (x : ℕ). gates_of_batches m (block_count (64 * m.block) x)) e ∙ none (gates_of_batches m (block_count (64 * m.block) n))
    where
      none : (k : ℕ) → k ≡ k + 0
      none k = omega arith
  piece-more n (x ∷ piece) whole few =
      ap (gates_of_batches m) (begins (64 * m.block) n (length (x ∷ piece)) (omega arith) whole (omega arith) few)
      ∙ one-more m (block_count (64 * m.block) n) x piece
      ∙ ap (λ (i : ℕ). gates_of_batches m (block_count (64 * m.block) n) + batch_gates m i (x ∷ piece)) (sym (in_blocks n whole))

-- OF TRIVIUM

-- those of blocks, one by one
gates_of_blocks : (parts : List (List ℕ)) → gates_of (map stream_step parts) ≡ length parts * length named_step.gates
gates_of_blocks [] = omega arith
gates_of_blocks (part ∷ parts) =
    omega (arith, sum_by-cons (λ (s : Step). length s.circuit.gates) (stream_step part) (map stream_step parts), gates_of_blocks parts)

gates_of_piece : (piece : List ℕ) → gates_of (block_steps piece) ≡ block_count 8 (length piece) * length named_step.gates
gates_of_piece piece =
    ap gates_of (block_steps-map piece) ∙ gates_of_blocks (blocks 8 piece)
    ∙ ap (λ (n : ℕ). n * length named_step.gates) (length-each (block_at 8 piece) (block_count 8 (length piece)))

-- the start is evaluated ahead of the first block alone
start-once : (iv : List ℕ) (m k : ℕ) → 1 ≤ k → stream_gates (m + k) ≡ stream_gates m + (gates_of (ahead_of_stream iv (m * 8)) + k * length named_step.gates)
start-once iv m zero some = absurd (omega arith)
start-once iv zero (suc k) some =
    let all : stream_gates (0 + suc k) ≡ length named_start.gates + suc k * length named_step.gates = ap stream_gates (let e : 0 + suc k ≡ suc k = omega arith in e) in
    let one : gates_of (ahead_of_stream iv 0) ≡ length named_start.gates = (let e : 0 + length named_start.gates ≡ length named_start.gates = omega arith in e) in
    omega (arith, all, one)
start-once iv (suc m) (suc k) some =
    let e : suc m + suc k ≡ suc (m + suc k) = omega arith in
    let all : stream_gates (suc m + suc k) ≡ length named_start.gates + suc (m + suc k) * length named_step.gates = ap stream_gates e in
    let none : gates_of (ahead_of_stream iv (suc m * 8)) ≡ 0 = ap gates_of (none_ahead iv (suc m * 8) (omega arith)) in
    omega (arith, all, none)

stream-more : (iv : List ℕ) (n : ℕ) (piece : List ℕ) → n % 8 ≡ 0 →
    stream_gates (block_count 8 (n + length piece)) ≡ stream_gates (block_count 8 n) + gates_of (steps_behind iv n piece)
stream-more iv n [] whole =
    let e : n + 0 ≡ n = omega arith in
    ap (λ (k : ℕ). stream_gates (block_count 8 k)) e ∙ none (stream_gates (block_count 8 n))
  where
    none : (k : ℕ) → k ≡ k + 0
    none k = omega arith
stream-more iv n (byte ∷ more) whole =
    let piece = byte ∷ more in
    let m = n / 8 in
    let k = block_count 8 (length piece) in
    let is : n ≡ m * 8 = omega arith in
    let here : block_count 8 n ≡ m = ap (block_count 8) is ∙ block_count-whole 8 m (omega arith) in
    let there : block_count 8 (n + length piece) ≡ m + k = ap (λ (x : ℕ). block_count 8 (x + length piece)) is ∙ block_count-add 8 m (length piece) (omega arith) in
    let steps : gates_of (steps_behind iv n piece) ≡ gates_of (ahead_of_stream iv (m * 8)) + k * length named_step.gates
    = gates_of-append (ahead_of_stream iv n) (block_steps piece)
    ∙ ap₂ (λ (a b : ℕ). a + b) (ap (λ (x : ℕ). gates_of (ahead_of_stream iv x)) is) (gates_of_piece piece) in
    ap stream_gates there
    ∙ start-once iv m k (omega (arith, some_blocks 8 (length piece)))
    ∙ ap₂ (λ (a b : ℕ). stream_gates a + b) (sym here) (sym steps)

stream-grow : (a b : ℕ) → a ≤ b → stream_gates a ≤ stream_gates b
stream-grow zero b le = omega arith
stream-grow (suc a) zero le = absurd (omega arith)
stream-grow (suc a) (suc b) le = omega (arith, mul-le-mul_right (length named_step.gates) le)

-- what comes ahead of some bytes is counted with them
stream-ahead : (iv : List ℕ) (n count : ℕ) (piece : List ℕ) → 1 ≤ length piece → gates_of (take count (ahead_of_stream iv n)) ≤ gates_of (steps_behind iv n piece)
stream-ahead iv n count piece some =
    let all = ap gates_of (steps_of_some iv n piece some) ∙ gates_of-append (ahead_of_stream iv n) (block_steps piece) in
    let parts = ap gates_of (sym (take-append-drop count (ahead_of_stream iv n))) ∙ gates_of-append (take count (ahead_of_stream iv n)) (drop count (ahead_of_stream iv n)) in
    omega (arith, all, parts)

-- BY EVERY METHOD

fed_by : (method : Method) (n : ℕ) (piece : List ℕ) → HasBlocks method → HasCode method → AreBatches method n → length piece ≡ batch method →
    fed_gates method (n + length piece) ≡ fed_gates method n + next_gates method n piece false
unfolding fed_gates
fed_by (InCounterMode m cipher) n piece some is whole all = piece-more m some n piece whole (omega (arith, all))
fed_by (AsStream iv) n piece some is whole all = stream-more iv n piece whole
fed_by (AsCode code) n piece some is whole all = tagging.fed-more code is n piece whole all

last_by : (method : Method) (n : ℕ) (piece : List ℕ) → HasBlocks method → HasCode method → AreBatches method n → length piece ≤ batch method → MayEnd method n piece →
    run_gates method (n + length piece) ≡ fed_gates method n + next_gates method n piece true
unfolding run_gates fed_gates
last_by (InCounterMode m cipher) n piece some is whole few ends = piece-more m some n piece whole few
last_by (AsStream iv) n piece some is whole few ends = stream-more iv n piece whole
last_by (AsCode code) n piece some is whole few ends = tagging.last-more code is n piece whole ends

fewer_by : (method : Method) → IsCipher method → (n : ℕ) → fed_gates method n ≤ run_gates method n
unfolding run_gates fed_gates
fewer_by (InCounterMode m cipher) is n = omega arith
fewer_by (AsStream iv) is n = omega arith
fewer_by (AsCode code) is n = absurd is

grow_by : (method : Method) → IsCipher method → (n k : ℕ) → HasBlocks method → n ≤ k → run_gates method n ≤ run_gates method k
unfolding run_gates
grow_by (InCounterMode m cipher) is n k some le = batches-grow m _ _ (block_count_grows (64 * m.block) n k (omega (arith, some)) le)
grow_by (AsStream iv) is n k some le = stream-grow (block_count 8 n) (block_count 8 k) (block_count_grows 8 n k (omega arith) le)
grow_by (AsCode code) is n k some le = absurd is

ahead_by : (method : Method) → HasCode method → (n count : ℕ) (piece : List ℕ) (last : Bool) → (IsCipher method → 1 ≤ length piece) → count ≤ length (ahead method n last) →
    gates_of (take count (ahead method n last)) ≤ next_gates method n piece last
ahead_by (InCounterMode m cipher) is n count piece last some few =
    omega (arith, refresh-gates m (block_count m.block n) count few, ahead-few m (block_count m.block n) count piece (some tt) few)
ahead_by (AsStream iv) is n count piece last some few = stream-ahead iv n count piece (some tt)
ahead_by (AsCode code) is n count piece last some few = tagging.ahead-few code is n count piece last

pub gates_go_on : GatesGoOn
gates_go_on = record {
  fed = λ task n piece whole all. fed_by (method_of task) n piece (has_blocks task) (has_code task) whole all;
  last = λ task n piece whole few ends. last_by (method_of task) n piece (has_blocks task) (has_code task) whole few ends;
  fewer = λ task is n. fewer_by (method_of task) is n;
  grow = λ task is n k le. grow_by (method_of task) is n k (has_blocks task) le;
  ahead = λ task n count piece last some few. ahead_by (method_of task) (has_code task) n count piece last some few;
}
