-- The evaluations of a run of LightMAC are those of the code's steps.
use Rattle.std.proofs.Common.{◌≡◌, ℕ, ◌+◌, ◌-◌, ◌*◌, ◌<◌, ◌≤◌, Bool, true, false, cond, List, [], ◌∷◌, ◌++◌, length, map, replicate, All, ap, ap₂, sym, subst, ◌∙◌, arith, append_assoc, ne_eqb}
use Rattle.std.proofs.lemmas.List.{append-nil}
use Rattle.std.proofs.lemmas.List.Elements.{All-cons, All-nil}
use Rattle.mask_bits.specs.Reading.{high}
use Rattle.mask_bits.specs.Lanes.{lane}
use Rattle.mask_circuit.specs.Netlist.{Netlist}
use Rattle.mask_circuit.specs.Wires.{each}
use Rattle.mask_tasks.specs.declared.sizes.KeySize.{KeySize}
use Rattle.mask_tasks.specs.Sizes.{present_bytes}
use Rattle.mask_lightmac.specs.LightMac.{padded}
use Rattle.mask_lightmac.specs.NamedLightMac.{named_end, named_step}
use Rattle.mask_refresh.specs.Refreshing.{refreshing}
use Rattle.mask_trace.specs.Steps.{InputBit, Step, IsStrongPlan, IsStrongStep}
use Rattle.mask_trace.specs.Steps as steps
use Rattle.mask_macs.specs.Codes.{IsCounterLength, IsNext, lightmac_code}
use Rattle.mask_macs.specs.LightMacRuns.{ahead, counted_bytes, end_step, key_width, next_steps, piece_step, refresh_step, value_bits}
use Rattle.mask_macs.proofs.LightMacPlans.{pieces}
use Rattle.mask_chain.specs.Evaluations.{IsThere, Suits, inputs_of, source_bits, step}
use Rattle.mask_chain.specs.declared.evaluations.Source.{Source}
use Rattle.mask_chain.specs.declared.evaluations.Source.TheVariants.{Key, State, Public}
use Rattle.mask_chain.specs.declared.evaluations.Evaluation.{Evaluation}
use Rattle.mask_chain.proofs.Forms.{key_alone, key_message_public, key_message_state, zeros-lane}
use denote.Ref.{Bor}

-- WHICH STEPS THEY ARE

-- an evaluation of a circuit on these inputs
abbrev made : steps.Keeps → Netlist → List InputBit → Step
made kept circuit inputs = record { circuit = circuit; inputs = inputs; keeps = kept }

-- the key, the bits of V, and the message
key_value_message : (from k : ℕ) (value : Source) (message : List ℕ) →
    inputs_of (Key from k ∷ value ∷ []) message [] ≡ each (λ j. steps.Key (from + j)) k ++ (source_bits value ++ map steps.Plain (lane 0 message))
key_value_message from k value message =
    let last = map steps.Plain (lane 0 message) in
    let keys = each (λ j. steps.Key (from + j)) k in
    ap₂ (λ (is js : List InputBit). (keys ++ is) ++ js) (append-nil (source_bits value)) (append-nil last)
    ∙ append_assoc keys (source_bits value) last

-- behind some bytes the bits of V are the state, and K1 gets fresh shares
pub value_later : (n : ℕ) → 0 < n → value_bits n ≡ each steps.State 64
value_later n some = ap (λ (b : Bool). cond b (map steps.Public (replicate 64 false)) (each steps.State 64)) (ne_eqb n 0 (λ e. omega arith))

pub ahead_later : (size : KeySize) (n : ℕ) → 0 < n → ahead size n false ≡ refresh_step size ∷ []
ahead_later size n some = ap (λ (b : Bool). cond b [] (refresh_step size ∷ [])) (ne_eqb n 0 (λ e. omega arith))

module _ (size : KeySize) (w : ℕ) (width : w ≡ key_width size) where
  pub refresh_is : (circuit : Netlist) → circuit ≡ refreshing (key_width size) →
      made steps.AsKey circuit (inputs_of (Key 0 w ∷ []) [] []) ≡ refresh_step size
  refresh_is circuit named = ap₂ (made steps.AsKey) named (key_alone w ∙ ap (each steps.Key) width)

  module _ (s : ℕ) (circuit : Netlist) (words piece : List ℕ) where
    pub first_is : (zeros : Bor (List ℕ)) → circuit ≡ named_step size → zeros.now ≡ replicate 64 0 →
        lane 0 words ≡ high (counted_bytes s 0 piece) →
        made steps.AsState circuit (inputs_of (Key 0 w ∷ []) words (Public zeros ∷ [])) ≡ piece_step size s 0 piece
    first_is zeros named none bits =
        ap₂ (made steps.AsState) named
        (key_message_public w words zeros
        ∙ ap₂ (λ (bs vs : List Bool). each steps.Key w ++ (map steps.Plain bs ++ map steps.Public vs)) bits (ap (lane 0) none ∙ zeros-lane 64)
        ∙ ap (λ (v : ℕ). each steps.Key v ++ (map steps.Plain (high (counted_bytes s 0 piece)) ++ value_bits 0)) width)

    pub later_is : (n : ℕ) → 0 < n → circuit ≡ named_step size → lane 0 words ≡ high (counted_bytes s n piece) →
        made steps.AsState circuit (inputs_of (Key 0 w ∷ []) words (State 64 ∷ [])) ≡ piece_step size s n piece
    later_is n some named bits =
        ap₂ (made steps.AsState) named
        (key_message_state w 64 words
        ∙ ap₂ (λ (v : ℕ) (bs : List Bool). each steps.Key v ++ (map steps.Plain bs ++ each steps.State 64)) width bits
        ∙ ap (λ (vs : List InputBit). each steps.Key (key_width size) ++ (map steps.Plain (high (counted_bytes s n piece)) ++ vs)) (sym (value_later n some)))

  pub end_is : (n : ℕ) (circuit : Netlist) (words piece : List ℕ) (value : Source) → circuit ≡ named_end size → source_bits value ≡ value_bits n →
      lane 0 words ≡ high (padded piece) →
      made steps.AsState circuit (inputs_of (Key w w ∷ value ∷ []) words []) ≡ end_step size n piece
  end_is n circuit words piece value named is bits =
      ap₂ (made steps.AsState) named
      (key_value_message w w value words
      ∙ ap₂ (λ (vs : List InputBit) (bs : List Bool). each (λ j. steps.Key (w + j)) w ++ (vs ++ map steps.Plain bs)) is bits
      ∙ ap (λ (v : ℕ). each (λ j. steps.Key (v + j)) v ++ (value_bits n ++ map steps.Plain (high (padded piece)))) width)

-- THEY SUIT THE CIRCUITS

-- what is a strong step, and takes bits that are there
pub suits : (k s : ℕ) (circuit : Netlist) (e : Evaluation) (t : Step) → step circuit e ≡ t → IsStrongStep k s t →
    All (IsThere k s) e.before.now → All (IsThere k s) e.behind.now → Suits k s circuit e
suits k s circuit e t is strong before behind =
    let own : IsStrongStep k s (step circuit e) = subst (IsStrongStep k s) (sym is) strong in
    record { before = before; behind = behind; count = own.count; fit = own.fit }

-- the first bits of the key, one source, two, or none
pub none_there : (k s : ℕ) → All (IsThere k s) []
none_there k s = All-nil (IsThere k s)

pub one_there : (k s : ℕ) (source : Source) → IsThere k s source → All (IsThere k s) (source ∷ [])
one_there k s source there = All-cons (IsThere k s) source [] there (none_there k s)

pub two_there : (k s : ℕ) (source other : Source) → IsThere k s source → IsThere k s other → All (IsThere k s) (source ∷ other ∷ [])
two_there k s source other there more = All-cons (IsThere k s) source (other ∷ []) there (one_there k s other more)

-- the steps of the next piece are strong ones
module _ (size : KeySize) (counter tag : ℕ) (is : IsCounterLength counter) (k : ℕ) (long : k ≡ 8 * (present_bytes size + present_bytes size)) where
  next_is_strong : (n s : ℕ) (piece : List ℕ) (last : Bool) → IsNext (lightmac_code size counter tag) n piece last → (0 < n → 64 ≤ s) →
      IsStrongPlan k s (next_steps size counter n piece last)
  next_is_strong n s piece last next there =
      subst (λ (j : ℕ). IsStrongPlan j s (next_steps size counter n piece last)) (sym long)
      ((pieces size counter is tag).strong n s piece last next there)

  pub first_strong : (s : ℕ) (piece : List ℕ) → length piece ≡ 8 - counter → IsStrongStep k s (piece_step size counter 0 piece)
  first_strong s piece next = (next_is_strong 0 s piece false next (λ some. absurd (omega arith))).0

  pub later_strong : (n s : ℕ) (piece : List ℕ) → length piece ≡ 8 - counter → 0 < n → 64 ≤ s →
      IsStrongStep k s (refresh_step size) × IsStrongStep k s (piece_step size counter n piece)
  later_strong n s piece next some there =
      let all : IsStrongPlan k s (refresh_step size ∷ piece_step size counter n piece ∷ [])
      = subst (λ (before : List Step). IsStrongPlan k s (before ++ piece_step size counter n piece ∷ [])) (ahead_later size n some)
      (next_is_strong n s piece false next (λ _. there)) in
      (all.0, all.1.0)

  pub end_strong : (n s : ℕ) (piece : List ℕ) → IsNext (lightmac_code size counter tag) n piece true → (0 < n → 64 ≤ s) →
      IsStrongStep k s (end_step size n piece)
  end_strong n s piece next there = (next_is_strong n s piece true next there).0
