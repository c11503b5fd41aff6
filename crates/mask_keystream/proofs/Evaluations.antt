-- The evaluations of a run are those of the cipher's steps.
use Rattle.std.proofs.Common.{◌≡◌, ℕ, ◌+◌, ◌≤◌, Bool, List, [], ◌∷◌, ◌++◌, map, length, All, refl, ap, ap₂, sym, subst, ◌∙◌, arith}
use Rattle.std.proofs.lemmas.List.Elements.{All-cons, All-nil}
use Rattle.mask_bits.specs.Reading.{low}
use Rattle.mask_bits.specs.Lanes.{lane}
use Rattle.mask_circuit.specs.Netlist.{Netlist}
use Rattle.mask_circuit.specs.Wires.{each}
use Rattle.mask_trivium.specs.NamedTrivium.{named_start, named_step}
use Rattle.mask_trace.specs.Steps.{InputBit, Step}
use Rattle.mask_trace.specs.Steps as steps
use Rattle.mask_streams.specs.Streams.{start_step, stream_step}
use Rattle.mask_streams.proofs.Plans.{start_is_strong, stream_is_strong}
use Rattle.mask_chain.specs.Evaluations.{IsThere, Suits, inputs_of, keeps}
use Rattle.mask_chain.specs.declared.evaluations.Source.{Source}
use Rattle.mask_chain.specs.declared.evaluations.Source.TheVariants.{Key, State, Public}
use Rattle.mask_chain.specs.declared.evaluations.Keep.{Keep}
use Rattle.mask_chain.specs.declared.evaluations.Keep.TheVariants.{AsState}
use Rattle.mask_chain.specs.declared.evaluations.Evaluation.{Evaluation}
use Rattle.mask_chain.proofs.Forms.{key_public, state_message}
use denote.Ref.{Bor}

-- an evaluation of a circuit on these inputs, whose outputs become the state
abbrev made : Netlist → List InputBit → Step
made circuit inputs = record { circuit = circuit; inputs = inputs; keeps = steps.AsState }

-- the key and the words of an IV
pub start_is : (circuit : Netlist) (words : Bor (List ℕ)) (iv : List ℕ) → circuit ≡ named_start → lane 0 words.now ≡ low iv →
    made circuit (inputs_of (Key 0 80 ∷ Public words ∷ []) [] []) ≡ start_step iv
start_is circuit words iv named bits =
    ap₂ made named (key_public 80 words ∙ ap (λ (bs : List Bool). each steps.Key 80 ++ map steps.Public bs) bits)

-- the state of the cipher and the words of a block
pub stream_is : (circuit : Netlist) (words block : List ℕ) → circuit ≡ named_step → lane 0 words ≡ low block →
    made circuit (inputs_of (State 288 ∷ []) words []) ≡ stream_step block
stream_is circuit words block named bits =
    ap₂ made named (state_message 288 words ∙ ap (λ (bs : List Bool). each steps.State 288 ++ map steps.Plain bs) bits)

-- they suit the circuits
pub start_suits : (k s : ℕ) (circuit : Netlist) (e : Evaluation) (words : Bor (List ℕ)) (iv : List ℕ) → circuit ≡ named_start →
    e.before.now ≡ Key 0 80 ∷ Public words ∷ [] → e.message.now ≡ [] → e.behind.now ≡ [] → e.keep ≡ AsState →
    lane 0 words.now ≡ low iv → k ≡ 80 → length iv ≡ 10 → Suits k s circuit e
start_suits k s circuit e words iv named before message behind keep bits eighty ten =
    let last = All-cons (IsThere k s) (Public words) [] tt (All-nil (IsThere k s)) in
    record {
      before = subst (All (IsThere k s)) (sym before) (All-cons (IsThere k s) (Key 0 80) (Public words ∷ []) (omega arith) last);
      behind = subst (All (IsThere k s)) (sym behind) (All-nil (IsThere k s));
      count = ap (λ (bs : List Source). length (inputs_of bs e.message.now e.behind.now)) before
          ∙ ap₂ (λ (ws : List ℕ) (bs : List Source). length (inputs_of (Key 0 80 ∷ Public words ∷ []) ws bs)) message behind
          ∙ ap (λ (t : Step). length t.inputs) (start_is circuit words iv named bits)
          ∙ (start_is_strong s iv ten).count ∙ ap (λ (c : Netlist). c.inputs) (sym named);
      fit = subst (λ (kept : Keep). steps.Fit k (keeps kept) circuit) (sym keep) tt;
    }

pub stream_suits : (k s : ℕ) (circuit : Netlist) (e : Evaluation) (block : List ℕ) → circuit ≡ named_step →
    e.before.now ≡ State 288 ∷ [] → e.behind.now ≡ [] → e.keep ≡ AsState →
    lane 0 e.message.now ≡ low block → 288 ≤ s → length block ≡ 8 → Suits k s circuit e
stream_suits k s circuit e block named before behind keep bits enough eight = record {
  before = subst (All (IsThere k s)) (sym before) (All-cons (IsThere k s) (State 288) [] enough (All-nil (IsThere k s)));
  behind = subst (All (IsThere k s)) (sym behind) (All-nil (IsThere k s));
  count = ap₂ (λ (bs cs : List Source). length (inputs_of bs e.message.now cs)) before behind
      ∙ ap (λ (t : Step). length t.inputs) (stream_is circuit e.message.now block named bits)
      ∙ (stream_is_strong s block enough eight).count ∙ ap (λ (c : Netlist). c.inputs) (sym named);
  fit = subst (λ (kept : Keep). steps.Fit k (keeps kept) circuit) (sym keep) tt;
}
