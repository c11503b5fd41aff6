-- The evaluations of a run of Chaskey-12 are its steps.
use Rattle.std.proofs.Common.{◌≡◌, ℕ, ◌+◌, ◌-◌, ◌==◌, ◌<◌, ◌≤◌, Bool, true, false, cond, List, [], ◌∷◌, ◌++◌, map, length, take, drop, replicate, All, refl, ap, ap₂, sym, subst, ◌∙◌, arith}
use Rattle.std.proofs.lemmas.List.Elements.{All-cons, All-nil}
use Rattle.mask_bits.specs.Reading.{low}
use Rattle.mask_bits.specs.Lanes.{lane}
use Rattle.mask_circuit.specs.Netlist.{Netlist}
use Rattle.mask_circuit.specs.Wires.{each}
use Rattle.mask_chaskey.specs.declared.doubling.End.{End}
use Rattle.mask_chaskey.specs.Chaskey.{padded}
use Rattle.mask_chaskey.specs.NamedChaskey.{named_end, named_step}
use Rattle.mask_refresh.specs.Refreshing.{refreshing}
use Rattle.mask_trace.specs.Steps.{InputBit, Step}
use Rattle.mask_trace.specs.Steps as steps
use Rattle.mask_macs.specs.ChaskeyRuns.{block_step, end_step, start_step}
use Rattle.mask_macs.proofs.ChaskeyPlans.{block_is_strong, end_is_strong}
use Rattle.mask_macs.proofs.Refreshes.{outputs-refreshing}
use Rattle.mask_refresh.proofs.Making.{inputs-refreshing}
use Rattle.mask_circuit.proofs.Places.{length-each}
use Rattle.mask_chain.specs.Evaluations.{IsThere, Suits, inputs_of, keeps}
use Rattle.mask_chain.specs.declared.evaluations.Source.{Source}
use Rattle.mask_chain.specs.declared.evaluations.Source.TheVariants.{Key, State}
use Rattle.mask_chain.specs.declared.evaluations.Keep.{Keep}
use Rattle.mask_chain.specs.declared.evaluations.Keep.TheVariants.{AsState}
use Rattle.mask_chain.specs.declared.evaluations.Evaluation.{Evaluation}
use Rattle.mask_chain.proofs.Forms.{key_alone, state_key_message, state_message}

-- an evaluation of a circuit on these inputs, whose outputs become the state
abbrev made : Netlist → List InputBit → Step
made circuit inputs = record { circuit = circuit; inputs = inputs; keeps = steps.AsState }

-- the key becomes the state
pub start_is : (circuit : Netlist) → circuit ≡ refreshing 128 → made circuit (inputs_of (Key 0 128 ∷ []) [] []) ≡ start_step
start_is circuit named = ap₂ made named (key_alone 128)

-- the state and the words of a block
pub block_is : (circuit : Netlist) (words block : List ℕ) → circuit ≡ named_step → lane 0 words ≡ low block →
    made circuit (inputs_of (State 128 ∷ []) words []) ≡ block_step block
block_is circuit words block named bits =
    ap₂ made named (state_message 128 words ∙ ap (λ (bs : List Bool). each steps.State 128 ++ map steps.Plain bs) bits)

-- the state, the key and the words of the last block
pub end_is : (circuit : Netlist) (words : List ℕ) (end : End) (bytes : List ℕ) → circuit ≡ named_end end → lane 0 words ≡ low (padded end bytes) →
    made circuit (inputs_of (State 128 ∷ Key 0 128 ∷ []) words []) ≡ end_step end bytes
end_is circuit words end bytes named bits =
    ap₂ made named
    (state_key_message 128 128 words ∙ ap (λ (bs : List Bool). each steps.State 128 ++ (each steps.Key 128 ++ map steps.Plain bs)) bits)

-- they suit the circuits
pub start_suits : (k s : ℕ) (circuit : Netlist) (e : Evaluation) → circuit ≡ refreshing 128 → e.before.now ≡ Key 0 128 ∷ [] → e.message.now ≡ [] →
    e.behind.now ≡ [] → e.keep ≡ AsState → k ≡ 128 → Suits k s circuit e
start_suits k s circuit e named before message behind keep wide = record {
  before = subst (All (IsThere k s)) (sym before) (All-cons (IsThere k s) (Key 0 128) [] (omega arith) (All-nil (IsThere k s)));
  behind = subst (All (IsThere k s)) (sym behind) (All-nil (IsThere k s));
  count = ap (λ (bs : List Source). length (inputs_of bs e.message.now e.behind.now)) before
      ∙ ap₂ (λ (ws : List ℕ) (bs : List Source). length (inputs_of (Key 0 128 ∷ []) ws bs)) message behind
      ∙ ap (λ (t : Step). length t.inputs) (start_is circuit named)
      ∙ length-each steps.Key 128 ∙ sym (inputs-refreshing 128) ∙ ap (λ (c : Netlist). c.inputs) (sym named);
  fit = subst (λ (kept : Keep). steps.Fit k (keeps kept) circuit) (sym keep) tt;
}

-- what suits a state of 128 bits suits the one that the start leaves
pub suits_behind : (k : ℕ) (start circuit : Netlist) (e : Evaluation) → start ≡ refreshing 128 → k ≡ 128 → Suits 128 128 circuit e →
    Suits k (length start.outputs) circuit e
suits_behind k start circuit e named wide suits =
    subst (λ (s : ℕ). Suits k s circuit e) (sym (ap (λ (c : Netlist). length c.outputs) named ∙ outputs-refreshing 128))
    (subst (λ (n : ℕ). Suits n 128 circuit e) (sym wide) suits)

pub block_suits : (circuit : Netlist) (e : Evaluation) (block : List ℕ) → circuit ≡ named_step → e.before.now ≡ State 128 ∷ [] →
    e.behind.now ≡ [] → e.keep ≡ AsState → lane 0 e.message.now ≡ low block → length block ≡ 16 → Suits 128 128 circuit e
block_suits circuit e block named before behind keep bits sixteen = record {
  before = subst (All (IsThere 128 128)) (sym before) (All-cons (IsThere 128 128) (State 128) [] (omega arith) (All-nil (IsThere 128 128)));
  behind = subst (All (IsThere 128 128)) (sym behind) (All-nil (IsThere 128 128));
  count = ap₂ (λ (bs cs : List Source). length (inputs_of bs e.message.now cs)) before behind
      ∙ ap (λ (t : Step). length t.inputs) (block_is circuit e.message.now block named bits)
      ∙ (block_is_strong 128 block (omega arith) sixteen).count ∙ ap (λ (c : Netlist). c.inputs) (sym named);
  fit = subst (λ (kept : Keep). steps.Fit 128 (keeps kept) circuit) (sym keep) tt;
}

pub end_suits : (circuit : Netlist) (e : Evaluation) (end : End) (bytes : List ℕ) → circuit ≡ named_end end →
    e.before.now ≡ State 128 ∷ Key 0 128 ∷ [] → e.behind.now ≡ [] → e.keep ≡ AsState → lane 0 e.message.now ≡ low (padded end bytes) →
    length (padded end bytes) ≡ 16 → Suits 128 128 circuit e
end_suits circuit e end bytes named before behind keep bits sixteen =
    let key = All-cons (IsThere 128 128) (Key 0 128) [] (omega arith) (All-nil (IsThere 128 128)) in
    record {
      before = subst (All (IsThere 128 128)) (sym before) (All-cons (IsThere 128 128) (State 128) (Key 0 128 ∷ []) (omega arith) key);
      behind = subst (All (IsThere 128 128)) (sym behind) (All-nil (IsThere 128 128));
      count = ap₂ (λ (bs cs : List Source). length (inputs_of bs e.message.now cs)) before behind
          ∙ ap (λ (t : Step). length t.inputs) (end_is circuit e.message.now end bytes named bits)
          ∙ (end_is_strong 128 end bytes (omega arith) sixteen).count ∙ ap (λ (c : Netlist). c.inputs) (sym named);
      fit = subst (λ (kept : Keep). steps.Fit 128 (keeps kept) circuit) (sym keep) tt;
    }
