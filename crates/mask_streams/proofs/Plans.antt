-- The steps of Trivium are a strong plan, split behind whole blocks, and depend on the message in its bits alone.
use Rattle.std.proofs.Common.{◌≡◌, ℕ, ◌+◌, ◌*◌, ◌/◌, ◌%◌, ◌<◌, ◌≤◌, ◌==◌, Bool, true, false, cond, List, [], ◌∷◌, ◌++◌, map, length, take, All, refl, ap, ap₂, sym, subst, ◌∙◌, arith, append_assoc, append-nil, ne_eqb}
use Rattle.std.proofs.lemmas.Bool.{eqb-false}
use Rattle.std.proofs.lemmas.List.{length-map, map-append}
use Rattle.std.proofs.lemmas.List.Elements.{All-tail, All-map}
use Rattle.mask_bits.specs.Reading.{low}
use Rattle.mask_bits.proofs.Bytes.{length-low}
use Rattle.mask_circuit.specs.Netlist.{Netlist}
use Rattle.mask_circuit.specs.Wires.{each}
use Rattle.mask_circuit.proofs.Places.{length-each}
use Rattle.mask_shares.proofs.Lists.{map-each}
use Rattle.mask_parts.specs.CipherCircuits.{Size, size_of, IsCipherCircuit}
use Rattle.mask_trivium.specs.NamedTrivium.{named_start, named_step, size_start, size_step, start_of_bits, step_of_bits}
use Rattle.mask_trivium.proofs.Concluding.{IsCipherCircuit-named_start, IsCipherCircuit-named_step}
use Rattle.mask_trace.specs.Steps.{InputBit, Public, Plain, Key, State, Step, IsThere, IsNotHeld, IsStrongStep, IsStrongPlan}
use Rattle.mask_trace.specs.Privacy.{AreAlike, blank}
use Rattle.mask_trace.proofs.Beginnings.{IsStrongPlan-take, AreAlike-take}
use Rattle.mask_trace.proofs.Showing.{plans_are_private, plans_are_runs}
use Rattle.mask_trace.proofs.Taking.{held_once, length-held, held_there, inputs_are_alike, with_inputs}
use Rattle.mask_modes.specs.CounterMode.{block_count}
use Rattle.mask_modes.specs.Steps.{block_at, blocks}
use Rattle.mask_modes.proofs.Blocks.{blocks_are_long}
use Rattle.mask_modes.proofs.Splitting.{messages_split}
use Rattle.mask_streams.specs.Streams.{ahead, block_steps, start_step, steps_behind, stream_plan, stream_step}
use Rattle.mask_streams.specs.Laws.{PlansAreStrong, PlansSplit, RunsArePrivate}

-- SIZES

module _ (c : Netlist) (size : Size) (f : List Bool → List Bool) (is : IsCipherCircuit c size f c) where
  pub inputs_are : c.inputs ≡ size.inputs
  unfolding size_of
  inputs_are = ap (λ (s : Size). s.inputs) is.sized

  pub outputs_are : length c.outputs ≡ size.outputs
  unfolding size_of
  outputs_are = ap (λ (s : Size). s.outputs) is.sized

pub start_inputs : named_start.inputs ≡ 160
start_inputs = inputs_are named_start size_start start_of_bits IsCipherCircuit-named_start

pub start_outputs : length named_start.outputs ≡ 288
start_outputs = outputs_are named_start size_start start_of_bits IsCipherCircuit-named_start

pub step_inputs : named_step.inputs ≡ 352
step_inputs = inputs_are named_step size_step step_of_bits IsCipherCircuit-named_step

pub step_outputs : length named_step.outputs ≡ 352
step_outputs = outputs_are named_step size_step step_of_bits IsCipherCircuit-named_step

-- PIECES

-- the steps of blocks, block by block
pub block_steps-map : (piece : List ℕ) → block_steps piece ≡ map stream_step (blocks 8 piece)
block_steps-map piece = sym (map-each stream_step (block_at 8 piece) (block_count 8 (length piece)))

-- some bytes
pub steps_of_some : (iv : List ℕ) (n : ℕ) (piece : List ℕ) → 0 < length piece →
    steps_behind iv n piece ≡ ahead iv n ++ block_steps piece
steps_of_some iv n [] some = absurd (omega arith)
steps_of_some iv n (byte ∷ more) some = refl

-- the state is made once
pub none_ahead : (iv : List ℕ) (n : ℕ) → 0 < n → ahead iv n ≡ []
none_ahead iv n some = ap (λ (b : Bool). cond b (start_step iv ∷ []) []) (ne_eqb n 0 (λ e. omega arith))

pub block_steps-append : (front piece : List ℕ) → length front % 8 ≡ 0 →
    block_steps (front ++ piece) ≡ block_steps front ++ block_steps piece
block_steps-append front piece whole =
    let e : length front ≡ length front / 8 * 8 = omega arith in
    block_steps-map (front ++ piece)
    ∙ ap (map stream_step) (messages_split.cut 8 (length front / 8) front piece (omega arith) e)
    ∙ map-append stream_step (blocks 8 front) (blocks 8 piece)
    ∙ ap₂ (λ (l r : List Step). l ++ r) (sym (block_steps-map front)) (sym (block_steps-map piece))

pub steps-append : (iv : List ℕ) (n : ℕ) (front piece : List ℕ) → length front % 8 ≡ 0 →
    steps_behind iv n (front ++ piece) ≡ steps_behind iv n front ++ steps_behind iv (n + length front) piece
steps-append iv n [] piece whole = let e : n ≡ n + 0 = omega arith in ap (λ (k : ℕ). steps_behind iv k piece) e
steps-append iv n (byte ∷ more) [] whole =
    ap (steps_behind iv n) (append-nil (byte ∷ more)) ∙ sym (append-nil (steps_behind iv n (byte ∷ more)))
steps-append iv n (byte ∷ more) (first ∷ rest) whole =
    let front = byte ∷ more in
    let piece = first ∷ rest in
    ap (λ (l : List Step). ahead iv n ++ l) (block_steps-append front piece whole)
    ∙ sym (append_assoc (ahead iv n) (block_steps front) (block_steps piece))
    ∙ ap (λ (l : List Step). (ahead iv n ++ block_steps front) ++ (l ++ block_steps piece))
    (sym (none_ahead iv (n + length front) (omega arith)))

pub plans_split : PlansSplit
plans_split = record {
  plan = λ iv front piece whole.
      let e : 0 + length front ≡ length front = omega arith in
      steps-append iv 0 front piece whole ∙ ap (λ (k : ℕ). steps_behind iv 0 front ++ steps_behind iv k piece) e;
  behind = steps-append;
}

-- MESSAGE BITS

streams_are_alike : (parts others : List (List ℕ)) → All (λ block. length block ≡ 8) parts →
    All (λ block. length block ≡ 8) others →
    length parts ≡ length others → AreAlike (map stream_step parts) (map stream_step others)
streams_are_alike [] [] all all' e = refl
streams_are_alike [] (b ∷ others) all all' e = absurd (omega arith)
streams_are_alike (b ∷ parts) [] all all' e = absurd (omega arith)
streams_are_alike (block ∷ parts) (other ∷ others) all all' e =
    let long : length (low block) ≡ length (low other)
    = length-low block
    ∙ ap (λ (n : ℕ). 8 * n) (all 0 [] (omega arith) ∙ sym (all' 0 [] (omega arith)))
    ∙ sym (length-low other) in
    ap₂ (λ (is : List InputBit) (l : List Step). with_inputs is (stream_step block) ∷ l)
    (inputs_are_alike (each State 288) (low block) (low other) long)
    (streams_are_alike parts others
    (All-tail (λ b. length b ≡ 8) block parts all) (All-tail (λ b. length b ≡ 8) other others all') (omega arith))

block_steps_are_alike : (message other : List ℕ) → length message ≡ length other →
    AreAlike (block_steps message) (block_steps other)
block_steps_are_alike message other e =
    ap (map blank) (block_steps-map message)
    ∙ streams_are_alike (blocks 8 message) (blocks 8 other) (blocks_are_long 8 message) (blocks_are_long 8 other)
    (length-each (block_at 8 message) _ ∙ ap (block_count 8) e ∙ sym (length-each (block_at 8 other) _))
    ∙ ap (map blank) (sym (block_steps-map other))

plans_are_alike : (iv message other : List ℕ) → length message ≡ length other →
    AreAlike (stream_plan iv message) (stream_plan iv other)
plans_are_alike iv [] [] e = refl
plans_are_alike iv [] (b ∷ other) e = absurd (omega arith)
plans_are_alike iv (b ∷ message) [] e = absurd (omega arith)
plans_are_alike iv (b ∷ message) (c ∷ other) e =
    ap (λ (l : List Step). blank (start_step iv) ∷ l) (block_steps_are_alike (b ∷ message) (c ∷ other) e)

-- STRONG STEPS

pub start_is_strong : (s : ℕ) (iv : List ℕ) → length iv ≡ 10 → IsStrongStep 80 s (start_step iv)
start_is_strong s iv ten =
    let publics = map Public (low iv) in
    let long : length publics ≡ 80 = length-map (low iv) Public ∙ (let e = length-low iv in omega arith) in
    record {
      formed = IsCipherCircuit-named_start.circuit.formed;
      strong = IsCipherCircuit-named_start.strong;
      count = length-held Key (λ i j e. cc) 80 publics 80 long ∙ sym start_inputs;
      there = held_there Key (λ i j e. cc) 80 publics 80 s (λ i lt. lt) (All-map (IsThere 80 s) Public (low iv) (λ i d lt. tt));
      once = held_once Key (λ i j e. cc) 80 publics (All-map IsNotHeld Public (low iv) (λ i d lt. tt));
      fit = tt;
    }

pub stream_is_strong : (s : ℕ) (block : List ℕ) → 288 ≤ s → length block ≡ 8 → IsStrongStep 80 s (stream_step block)
stream_is_strong s block enough eight =
    let plains = map Plain (low block) in
    let long : length plains ≡ 64 = length-map (low block) Plain ∙ (let e = length-low block in omega arith) in
    record {
      formed = IsCipherCircuit-named_step.circuit.formed;
      strong = IsCipherCircuit-named_step.strong;
      count = length-held State (λ i j e. cc) 288 plains 64 long ∙ sym step_inputs;
      there = held_there State (λ i j e. cc) 288 plains 80 s (λ i lt. omega arith)
          (All-map (IsThere 80 s) Plain (low block) (λ i d lt. tt));
      once = held_once State (λ i j e. cc) 288 plains (All-map IsNotHeld Plain (low block) (λ i d lt. tt));
      fit = tt;
    }

-- STRONG PLANS

streams_are_strong : (s : ℕ) (parts : List (List ℕ)) → 288 ≤ s → All (λ block. length block ≡ 8) parts →
    IsStrongPlan 80 s (map stream_step parts)
streams_are_strong s [] enough all = tt
streams_are_strong s (block ∷ parts) enough all = (
  stream_is_strong s block enough (all 0 [] (omega arith)),
  streams_are_strong (length named_step.outputs) parts (omega (arith, step_outputs))
      (All-tail (λ b. length b ≡ 8) block parts all),
)

blocks_are_strong : (s : ℕ) (piece : List ℕ) → 288 ≤ s → IsStrongPlan 80 s (block_steps piece)
blocks_are_strong s piece enough =
    subst (IsStrongPlan 80 s) (sym (block_steps-map piece))
    (streams_are_strong s (blocks 8 piece) enough (blocks_are_long 8 piece))

piece_is_strong : (iv : List ℕ) (n s : ℕ) (piece : List ℕ) → length iv ≡ 10 → (0 < n → 288 ≤ s) →
    IsStrongPlan 80 s (steps_behind iv n piece)
piece_is_strong iv n s [] ten there = tt
piece_is_strong iv n s (byte ∷ more) ten there = go (n == 0) refl
  where
    go : (none : Bool) → (n == 0) ≡ none → IsStrongPlan 80 s (cond none (start_step iv ∷ []) [] ++ block_steps (byte ∷ more))
    go true first =
        (start_is_strong s iv ten, blocks_are_strong (length named_start.outputs) (byte ∷ more) (omega (arith, start_outputs)))
    go false later = let ne : n ≡ 0 → ⊥ = eqb-false n 0 later in blocks_are_strong s (byte ∷ more) (there (omega arith))

plan_is_strong : (iv message : List ℕ) → length iv ≡ 10 → IsStrongPlan 80 0 (stream_plan iv message)
plan_is_strong iv message ten = piece_is_strong iv 0 0 message ten (λ some. absurd (omega arith))

pub plans_are_strong : PlansAreStrong
plans_are_strong = record {
  strong = plan_is_strong;
  part = λ iv message count ten. IsStrongPlan-take 80 0 count (stream_plan iv message) (plan_is_strong iv message ten);
  behind = piece_is_strong;
  alike = plans_are_alike;
  parts_alike = λ iv message other count e.
      AreAlike-take count (stream_plan iv message) (stream_plan iv other) (plans_are_alike iv message other e);
}

pub runs_are_private : RunsArePrivate
runs_are_private = record {
  run = λ N iv message count two ten.
      plans_are_runs N 80 (take count (stream_plan iv message)) two (plans_are_strong.part iv message count ten);
  private = λ N iv message count two ten.
      plans_are_private N 80 (take count (stream_plan iv message)) two (plans_are_strong.part iv message count ten);
  hits = λ N iv message other count two ten e P few key key' size size' v.
      plans_are_private N 80 (take count (stream_plan iv message)) two (plans_are_strong.part iv message count ten) P few
      (take count (stream_plan iv other)) (plans_are_strong.parts_alike iv message other count e) key key' size size' v;
}
