use Rattle.std.proofs.Common.{◌≡◌, ℕ, ◌++◌, List, [], refl, ◌∙◌}
use Rattle.std.specs.List.{range_with_len}
use Rattle.mask_circuit.specs.Netlist.{Netlist, value_count, only_inputs}
use Rattle.mask_parts.specs.Drafts.{Grows}
use Rattle.mask_parts.proofs.Growing.{Grows-refl, Grows-trans}
use Rattle.mask_parts.proofs.Laying.{Lays-exit, Lays-last}
use Rattle.mask_parts.proofs.Passing.{AreOf-ready}
use Rattle.mask_trivium.specs.Clocks.{stage}
use Rattle.mask_trivium.specs.NamedTrivium.{given, streamed, encrypted, named_step}
use Rattle.mask_trivium.proofs.Concluding.{results, runs-step, outputs-long, ready-message, done-step, Grows-streamed, Grows-encrypted, Grows-named_step}
use Rattle.mask_trivium.proofs.Starting.{IsFine-given}
use Rattle.mask_trivium.proofs.circuits.lay_step.Goals as goal

-- the inputs are the stage that the clocks begin with
begins : (b : Netlist) (state : List ℕ) → b ≡ only_inputs 352 → state ≡ range_with_len 0 288 → stage b state [] ≡ given
unfolding given
begins b state is state_is = rw (is, state_is) refl

pub lay_stream-requires : goal.lay_stream-requires
lay_stream-requires c =
    rw (c.requires, c.number_from.ensures) (unfold given stage in AreOf-ready ⊥ given.draft given.state (IsFine-given ⊥).state)

pub returns-in_err-outputs : goal.returns-in_err-outputs
unfolding streamed
returns-in_err-outputs c =
    let b = c.args.b.now in
    Lays-exit b b streamed.draft _ _ _ _ _ c.from_residual.ensures.1 (Grows-refl b) (Grows-trans streamed.draft encrypted named_step Grows-encrypted Grows-named_step)
    (rw (begins b _ c.requires c.number_from.ensures) at c.in_err-outputs.ensures.laid)

pub xor_all-requires : goal.xor_all-requires
unfolding streamed
xor_all-requires c =
    let told = rw (begins c.args.b.now _ c.requires c.number_from.ensures) at c.in_ok-outputs.ensures.laid in
    record {
      same = rw (told.0, c.number_from-2.ensures) outputs-long;
      us_known = rw (told.1, told.0) (AreOf-ready ⊥ streamed.draft streamed.outputs (runs-step ⊥).fine.outputs);
      vs_known = rw (told.1, c.number_from-2.ensures) (AreOf-ready ⊥ streamed.draft (range_with_len 288 64) (ready-message ⊥));
    }

begun : (b : Netlist) → b ≡ only_inputs 352 → Grows b streamed.draft
unfolding given stage
begun b is = rw is Grows-streamed

pub returns-in_err-xor_all : goal.returns-in_err-xor_all
unfolding streamed encrypted
returns-in_err-xor_all c =
    let b = c.args.b.now in
    let told = rw (begins b _ c.requires c.number_from.ensures) at c.in_ok-outputs.ensures.laid in
    Lays-exit b streamed.draft encrypted _ _ _ _ _ c.from_residual-in_err-xor_all.ensures.1 (begun b c.requires) Grows-named_step
    (rw (told.1, told.0, c.number_from-2.ensures) at c.in_err-xor_all.ensures)

-- the values that are handed out
fenced : (d : Netlist) (first : ℕ) (state us : List ℕ) → d ≡ streamed.draft → first ≡ value_count d → state ≡ streamed.state → us ≡ state ++ range_with_len first 64
    → us ≡ streamed.state ++ results
fenced d first state us draft count state_is is = is ∙ rw (state_is, count, draft) refl

pub fence_outputs-requires : goal.fence_outputs-requires
unfolding streamed encrypted
fence_outputs-requires c =
    let is = begins c.args.b.now _ c.requires c.number_from.ensures in
    let told = rw is at c.in_ok-outputs.ensures.laid in
    let summed = rw (told.1, told.0, c.number_from-2.ensures) at c.in_ok-xor_all.ensures in
    let values = fenced c.lay_stream.new.b c.values-first.result c.lay_stream.new.state c.followed.result told.1 c.values-first.ensures.count (rw is at c.in_ok-outputs.ensures.moved) c.followed.ensures in
    rw (values, summed.1) (done-step ⊥).known

pub returns : goal.returns
unfolding named_step streamed encrypted
returns c =
    let is = begins c.args.b.now _ c.requires c.number_from.ensures in
    let told = rw is at c.in_ok-outputs.ensures.laid in
    let summed = rw (told.1, told.0, c.number_from-2.ensures) at c.in_ok-xor_all.ensures in
    let values = fenced c.lay_stream.new.b c.values-first.result c.lay_stream.new.state c.followed.result told.1 c.values-first.ensures.count (rw is at c.in_ok-outputs.ensures.moved) c.followed.ensures in
    Lays-last c.args.b.now encrypted _ _ _ _ _ _ (Grows-trans c.args.b.now streamed.draft encrypted (begun c.args.b.now c.requires) Grows-encrypted) refl refl
    (rw (values, summed.1) at c.fence_outputs.ensures.laid)
