-- The named circuits are strong, of their size, and compute Trivium.
use Rattle.std.proofs.Common.{◌≡◌, ℕ, ◌+◌, ◌*◌, Bool, false, true, List, ◌++◌, length, take, drop, All, refl, sym, ap, ap₂, ◌∙◌, arith, lit≤, length-append}
use Rattle.std.specs.List.{range_with_len}
use Rattle.std.proofs.lemmas.List.{length-drop, map-append, take_all}
use Rattle.std.proofs.lemmas.List.FromFn.{length-range_with_len}
use Rattle.std.proofs.lemmas.List.Elements.{All-append}
use Rattle.mask_circuit.specs.Netlist.{Netlist, value_count, product_count, refresh_count}
use Rattle.mask_circuit.specs.Value.{value_at, plain_values}
use Rattle.mask_parts.specs.CipherCircuits.{size_of, IsCipherCircuit}
use Rattle.mask_parts.specs.Drafts.{with_gates, bits_of, Grows, IsWithinLimits}
use Rattle.mask_parts.specs.Rows.{xor_gates, xor_bits}
use Rattle.mask_parts.proofs.Concluding.{Grows-fence, IsDone, IsCipherCircuit-done}
use Rattle.mask_parts.proofs.Counting.{same_size, size-with_fence, IsWithinLimits-sized}
use Rattle.mask_parts.proofs.Growing.{Grows-with_gates}
use Rattle.mask_parts.proofs.Inputs.{bits-inputs, IsReady-alone}
use Rattle.mask_parts.proofs.Passing.{IsReady, AreOf-ready, Passes, Passes-trans, All-later}
use Rattle.mask_parts.proofs.Ranges.{All-range}
use Rattle.mask_parts.proofs.Solving.{Solves, Solves-all, Solved, Solved-Grows, Solved-with_gates}
use Rattle.mask_parts.proofs.XorRows.{Passes-xors, All-xors, bits-xors}
use Rattle.mask_trivium.specs.Clocks.{setup, stream, stage}
use Rattle.mask_trivium.specs.NamedTrivium.{start, set_up, named_start, size_start, start_of_bits, given, streamed, encrypted, named_step, size_step, step_of_bits}
use Rattle.mask_trivium.specs.Trivium.{loaded, clocks, outputs, started}
use Rattle.mask_trivium.proofs.Clocking.{IsClock-setup, IsClock-stream}
use Rattle.mask_trivium.proofs.Running.{length-outputs, Grows-clocks, Runs, Runs-clocks}
use Rattle.mask_trivium.proofs.Shifting.{map-loaded}
use Rattle.mask_trivium.proofs.Showing.{shown, shown-clocks, shown-outputs}
use Rattle.mask_trivium.proofs.Starting.{IsFine-start, IsFine-given}

-- THE START

runs-start : (T : Type 0) → Runs T start set_up (1152 * 15) (1152 * 3)
unfolding set_up
runs-start T = Runs-clocks T setup 15 _ IsClock-setup 1152 start (IsFine-start T)

pub done-start : (T : Type 0) → IsDone T set_up.draft set_up.state
done-start T =
    let runs = runs-start T in
    record { sound = runs.fine.sound; none = runs.passes.adds.outputs ∙ (unfold start stage with_gates in refl); known = AreOf-ready T set_up.draft set_up.state runs.fine.state }

-- the parts in which it is laid
pub Grows-set_up : Grows start.draft set_up.draft
unfolding set_up
Grows-set_up = Grows-clocks setup 1152 start

pub Grows-named_start : Grows set_up.draft named_start
unfolding named_start
Grows-named_start = Grows-fence set_up.draft set_up.state

inputs-start : set_up.draft.inputs ≡ 160
inputs-start = (runs-start ⊥).passes.adds.inputs ∙ (unfold start stage with_gates in refl)

size-named_start : size_of named_start ≡ size_start
unfolding named_start
size-named_start =
    let long = (runs-start ⊥).fine.long in
    let adds = (runs-start ⊥).passes.adds in
    let values : value_count start.draft ≡ 162 = unfold start stage with_gates in refl in
    let products : product_count start.draft ≡ 0 = unfold start stage with_gates in refl in
    let refreshes : refresh_count start.draft ≡ 0 = unfold start stage with_gates in refl in
    let v = adds.values in let p = adds.products in let f = adds.refreshes in
    size-with_fence set_up.draft set_up.state (done-start ⊥).none ∙ same_size _ _ inputs-start long (omega arith) (omega arith) (omega arith)

pub IsWithinLimits-named_start : IsWithinLimits named_start
IsWithinLimits-named_start = IsWithinLimits-sized named_start size_start size-named_start (lit≤ tt) (lit≤ tt)

-- where bits solve the first two gates, the state at first is that of the first inputs
shown-start : (vs : List Bool) → Solved vs start.draft → shown vs start.state ≡ loaded false true (shown vs (range_with_len 0 80)) (shown vs (range_with_len 80 80))
unfolding start stage with_gates
shown-start vs solved = map-loaded (value_at vs) 160 161 (range_with_len 0 80) (range_with_len 80 80) ∙ rw (solved.0, solved.1.0) refl

shown-set_up : (vs : List Bool) → Solved vs set_up.draft → shown vs set_up.state ≡ clocks 1152 (shown vs start.state)
unfolding set_up
shown-set_up vs solved = shown-clocks setup 15 _ IsClock-setup vs 1152 start (IsFine-start ⊥).long solved

bits-set_up : (x : List Bool) → length x ≡ set_up.draft.inputs → bits_of set_up.draft x set_up.state ≡ start_of_bits x
unfolding bits_of start_of_bits started
bits-set_up x long =
    let m : Netlist = set_up.draft in
    let vs : List Bool = plain_values m x in
    let solved : Solved vs m = Solves-all m x long (runs-start ⊥).fine.sound.formed in
    let all : length x ≡ 160 = long ∙ inputs-start in
    let key : shown vs (range_with_len 0 80) ≡ take 80 x = bits-inputs m x 0 80 (omega arith) in
    let iv : shown vs (range_with_len 80 80) ≡ drop 80 x = bits-inputs m x 80 80 (omega arith) ∙ take_all 80 (drop 80 x) (rw (length-drop 80 x) (omega arith)) in
    shown-set_up vs solved
    ∙ ap (clocks 1152) (shown-start vs (Solved-Grows vs start.draft m Grows-set_up solved) ∙ ap₂ (loaded false true) key iv)

-- so it meets the contract of a cipher's circuit
pub IsCipherCircuit-named_start : IsCipherCircuit named_start size_start start_of_bits named_start
unfolding named_start
IsCipherCircuit-named_start = IsCipherCircuit-done set_up.draft set_up.state (done-start Unit) size_start start_of_bits size-named_start IsWithinLimits-named_start bits-set_up

-- A STEP

pub runs-step : (T : Type 0) → Runs T given streamed (64 * 17) (64 * 3)
unfolding streamed
runs-step T = Runs-clocks T stream 17 _ IsClock-stream 64 given (IsFine-given T)

abbrev message : List ℕ
message = range_with_len 288 64

-- the values of the 64 XORs
abbrev pub results : List ℕ
results = range_with_len (value_count streamed.draft) 64

pub outputs-long : length streamed.outputs ≡ 64
unfolding streamed given stage
outputs-long = length-outputs stream 64 given

pub ready-message : (T : Type 0) → All (IsReady T streamed.draft) message
ready-message T =
    All-range (IsReady T streamed.draft) 288 64 (λ u low high. (runs-step T).passes.kept u (unfold given stage in IsReady-alone 352 T u (omega arith)))

passes-encrypted : (T : Type 0) → Passes T streamed.draft encrypted 64 0
unfolding encrypted
passes-encrypted T =
    let fine = (runs-step T).fine in
    rw outputs-long at (Passes-xors T streamed.draft streamed.outputs message outputs-long fine.sound fine.outputs (ready-message T))

ready-results : (T : Type 0) → All (IsReady T encrypted) results
unfolding encrypted
ready-results T =
    let fine = (runs-step T).fine in
    rw outputs-long at (All-xors T streamed.draft streamed.outputs message outputs-long fine.sound fine.outputs (ready-message T))

whole : (T : Type 0) → Passes T given.draft encrypted (64 * 17 + 64) (64 * 3 + 0)
whole T = Passes-trans T given.draft streamed.draft encrypted (64 * 17) (64 * 3) 64 0 (runs-step T).passes (passes-encrypted T)

pub done-step : (T : Type 0) → IsDone T encrypted (streamed.state ++ results)
done-step T = record {
  sound = (whole T).sound;
  none = (whole T).adds.outputs ∙ (unfold given stage in refl);
  known = AreOf-ready T encrypted (streamed.state ++ results)
      (All-append (IsReady T encrypted) streamed.state results (All-later T streamed.draft encrypted 64 0 streamed.state (passes-encrypted T) (runs-step T).fine.state)
      (ready-results T));
}

-- the parts in which it is laid
pub Grows-streamed : Grows given.draft streamed.draft
unfolding streamed
Grows-streamed = Grows-clocks stream 64 given

pub Grows-encrypted : Grows streamed.draft encrypted
unfolding encrypted
Grows-encrypted = Grows-with_gates streamed.draft _

pub Grows-named_step : Grows encrypted named_step
unfolding named_step
Grows-named_step = Grows-fence encrypted (streamed.state ++ results)

inputs-step : encrypted.inputs ≡ 352
inputs-step = (whole ⊥).adds.inputs ∙ (unfold given stage in refl)

size-named_step : size_of named_step ≡ size_step
unfolding named_step
size-named_step =
    let long : length (streamed.state ++ results) ≡ 352 =
    length-append streamed.state results ∙ (let a = (runs-step ⊥).fine.long in let b = length-range_with_len (value_count streamed.draft) 64 in omega arith) in
    let adds = (whole ⊥).adds in
    let values : value_count given.draft ≡ 352 = unfold given stage in refl in
    let products : product_count given.draft ≡ 0 = unfold given stage in refl in
    let refreshes : refresh_count given.draft ≡ 0 = unfold given stage in refl in
    let v = adds.values in let p = adds.products in let f = adds.refreshes in
    size-with_fence encrypted (streamed.state ++ results) (done-step ⊥).none ∙ same_size _ _ inputs-step long (omega arith) (omega arith) (omega arith)

pub IsWithinLimits-named_step : IsWithinLimits named_step
IsWithinLimits-named_step = IsWithinLimits-sized named_step size_step size-named_step (lit≤ tt) (lit≤ tt)

-- what bits that solve the clocks' gates say of the stage behind them
shown-streamed : (vs : List Bool) (state : List Bool) → shown vs given.state ≡ state → Solved vs streamed.draft
    → (shown vs streamed.state ≡ clocks 64 state) × (shown vs streamed.outputs ≡ outputs 64 state)
unfolding streamed given stage
shown-streamed vs state is solved = (
  shown-clocks stream 17 _ IsClock-stream vs 64 given (IsFine-given ⊥).long solved ∙ ap (clocks 64) is,
  shown-outputs vs 64 given (IsFine-given ⊥).long solved ∙ ap (outputs 64) is,
)

solved-encrypted : (vs : List Bool) → Solved vs encrypted → Solved vs streamed.draft × Solves vs (value_count streamed.draft) (xor_gates streamed.outputs message)
unfolding encrypted
solved-encrypted vs solved = Solved-with_gates vs streamed.draft _ solved

shown-given : (c : Netlist) (x : List Bool) → length x ≡ 352 → shown (plain_values c x) given.state ≡ take 288 x
unfolding given stage
shown-given c x all = bits-inputs c x 0 288 (omega arith)

bits-encrypted : (x : List Bool) → length x ≡ encrypted.inputs → bits_of encrypted x (streamed.state ++ results) ≡ step_of_bits x
unfolding bits_of step_of_bits
bits-encrypted x long =
    let m : Netlist = encrypted in
    let vs : List Bool = plain_values m x in
    let all : length x ≡ 352 = long ∙ inputs-step in
    let solved = solved-encrypted vs (Solves-all m x long (whole ⊥).sound.formed) in
    let text : shown vs message ≡ drop 288 x = bits-inputs m x 288 64 (omega arith) ∙ take_all 64 (drop 288 x) (rw (length-drop 288 x) (omega arith)) in
    let made = shown-streamed vs (take 288 x) (shown-given m x all) solved.0 in
    map-append (value_at vs) streamed.state results
    ∙ ap₂ ◌++◌ made.0
    (ap (λ (n : ℕ). shown vs (range_with_len (value_count streamed.draft) n)) (sym outputs-long)
    ∙ bits-xors vs (value_count streamed.draft) streamed.outputs message outputs-long solved.1 ∙ ap₂ xor_bits made.1 text)

pub IsCipherCircuit-named_step : IsCipherCircuit named_step size_step step_of_bits named_step
unfolding named_step
IsCipherCircuit-named_step =
    IsCipherCircuit-done encrypted (streamed.state ++ results) (done-step Unit) size_step step_of_bits size-named_step IsWithinLimits-named_step bits-encrypted
