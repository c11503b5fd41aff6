use Rattle.std.proofs.Common.{◌≡◌, ℕ, List, [], refl}
use Rattle.mask_circuit.specs.Netlist.{Netlist, only_inputs}
use Rattle.mask_parts.specs.Drafts.{Grows}
use Rattle.mask_parts.proofs.Growing.{Grows-refl, Grows-trans, Grows-with_gates}
use Rattle.mask_parts.proofs.Laying.{Lays-exit, Lays-last}
use Rattle.mask_parts.proofs.Passing.{AreOf-ready}
use Rattle.mask_trivium.specs.Clocks.{stage}
use Rattle.mask_trivium.specs.NamedTrivium.{start, set_up, named_start}
use Rattle.mask_trivium.proofs.Concluding.{done-start, Grows-set_up, Grows-named_start}
use Rattle.mask_trivium.proofs.Starting.{IsFine-start}
use Rattle.mask_trivium.proofs.circuits.lay_start.Goals as goal

-- the draft and the state that were made are the stage at the start
begins : (d : Netlist) (state : List ℕ) → d ≡ start.draft → state ≡ start.state → stage d state [] ≡ start
unfolding start stage
begins d state draft state_is = rw (draft, state_is) refl

begun : (b : Netlist) → b ≡ only_inputs 160 → Grows b start.draft
unfolding start stage
begun b is = rw is (Grows-with_gates (only_inputs 160) _)

pub returns-in_err-state : goal.returns-in_err-state
returns-in_err-state c =
    let b = c.args.b.now in
    Lays-exit b b start.draft _ _ _ _ _ c.from_residual.ensures.1 (Grows-refl b) (Grows-trans start.draft set_up.draft named_start Grows-set_up Grows-named_start) c.in_err-state.ensures

pub lay_setup-requires : goal.lay_setup-requires
lay_setup-requires c =
    let told = c.in_ok-state.ensures in
    rw (told.1, told.0) (AreOf-ready ⊥ start.draft start.state (IsFine-start ⊥).state)

pub returns-in_err-lay_setup : goal.returns-in_err-lay_setup
unfolding set_up
returns-in_err-lay_setup c =
    let b = c.args.b.now in
    let told = c.in_ok-state.ensures in
    Lays-exit b start.draft set_up.draft _ _ _ _ _ c.from_residual-in_err-lay_setup.ensures.1 (begun b c.requires) Grows-named_start
    (rw (begins _ _ told.1 told.0, told.1) at c.in_err-lay_setup.ensures.laid)

pub fence_outputs-requires : goal.fence_outputs-requires
unfolding set_up
fence_outputs-requires c =
    let is = begins _ _ c.in_ok-state.ensures.1 c.in_ok-state.ensures.0 in
    let told = c.in_ok-lay_setup.ensures in
    let draft = rw is at told.laid.1 in
    let state = rw is at told.moved in
    rw (draft, state) (done-start ⊥).known

pub returns : goal.returns
unfolding named_start set_up
returns c =
    let b = c.args.b.now in
    let is = begins _ _ c.in_ok-state.ensures.1 c.in_ok-state.ensures.0 in
    let told = c.in_ok-lay_setup.ensures in
    let draft = rw is at told.laid.1 in
    let state = rw is at told.moved in
    Lays-last b set_up.draft _ _ _ _ _ _ (Grows-trans b start.draft set_up.draft (begun b c.requires) Grows-set_up) refl refl
    (rw (draft, state) at c.fence_outputs.ensures.laid)
