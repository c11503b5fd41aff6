use Rattle.std.proofs.Common.{◌≡◌, ℕ, ◌+◌, List, refl, sym, ap, subst, arith}
use Rattle.std.specs.List.{range_with_len}
use Rattle.mask_circuit.specs.Netlist.{Netlist, only_inputs}
use Rattle.mask_tasks.specs.declared.sizes.KeySize.{KeySize}
use Rattle.mask_parts.specs.Drafts.{Grows}
use Rattle.mask_parts.proofs.Growing.{Grows-refl, Grows-trans}
use Rattle.mask_parts.proofs.Laying.{Lays-exit, Lays-last}
use Rattle.mask_present.specs.Present.{register}
use Rattle.mask_present.specs.NamedPresent.{start, encrypted_message, named_of, named_present}
use Rattle.mask_present.specs.Rounds.{Stage, stage, rounds}
use Rattle.mask_present.proofs.Concluding.{stage-start, known-inputs, begun-end, known-end, known-messages, known-sums, Grows-end, Grows-named}
use Rattle.mask_present.proofs.Fitting.{IsShape-register}
use Rattle.mask_present.proofs.circuits.lay_on.Goals as goal

start_draft : (size : KeySize) (b : Netlist) → b ≡ only_inputs ((register size).width + 128) → (start (register size)).draft ≡ b
unfolding start
start_draft size b is = sym is

-- the stage after the rounds, which the inputs lead to
abbrev end : KeySize → Stage
end size = rounds (register size) (start (register size))

end_is : (size : KeySize) (b : Netlist) (key counter : List ℕ) → b ≡ only_inputs ((register size).width + 128) → key ≡ range_with_len 0 (register size).width
    → counter ≡ range_with_len (register size).width 64 → rounds (register size) (stage b key counter) ≡ end size
end_is size b key counter is key_is counter_is = ap (rounds (register size)) (stage-start (register size) b key counter is key_is counter_is)

begun : (size : KeySize) (b : Netlist) → b ≡ only_inputs ((register size).width + 128) → Grows b (end size).draft
begun size b is = subst (λ (d : Netlist). Grows d (end size).draft) (start_draft size b is) (begun-end (register size) (IsShape-register size))

left : (size : KeySize) → Grows (end size).draft (named_of (register size))
left size = Grows-trans (end size).draft (encrypted_message (register size)) _ (Grows-end (register size) (IsShape-register size)) (Grows-named (register size) (IsShape-register size))

pub present_rounds-requires-clause-key_known : goal.present_rounds-requires-clause-key_known
present_rounds-requires-clause-key_known c =
    let r = register c.args.size in
    known-inputs r c.args.b.now c.args.key.now 0 r.width c.requires.inputs c.requires.first (omega arith)

pub present_rounds-requires-clause-state_known : goal.present_rounds-requires-clause-state_known
present_rounds-requires-clause-state_known c =
    let r = register c.args.size in
    known-inputs r c.args.b.now c.args.counter.now r.width 64 c.requires.inputs c.requires.second (omega arith)

pub returns-in_err-encrypted : goal.returns-in_err-encrypted
unfolding named_present
returns-in_err-encrypted c =
    let is = end_is c.args.size c.args.b.now c.args.key.now c.args.counter.now c.requires.inputs c.requires.first c.requires.second in
    Lays-exit c.args.b.now c.args.b.now (end c.args.size).draft _ _ _ _ _ c.from_residual.ensures.1 (Grows-refl c.args.b.now) (left c.args.size)
    (rw is at c.in_err-encrypted.ensures.laid)

pub xor_blocks-requires-clause-us_known : goal.xor_blocks-requires-clause-us_known
xor_blocks-requires-clause-us_known c =
    let is = end_is c.args.size c.args.b.now c.args.key.now c.args.counter.now c.requires.inputs c.requires.first c.requires.second in
    let laid = rw is at c.in_ok-encrypted.ensures.laid in
    rw (laid.1, laid.0) (known-end (register c.args.size) (IsShape-register c.args.size))

pub xor_blocks-requires-clause-vs_known : goal.xor_blocks-requires-clause-vs_known
xor_blocks-requires-clause-vs_known c =
    let is = end_is c.args.size c.args.b.now c.args.key.now c.args.counter.now c.requires.inputs c.requires.first c.requires.second in
    let laid = rw is at c.in_ok-encrypted.ensures.laid in
    rw (laid.1, c.requires.third) (known-messages (register c.args.size) (IsShape-register c.args.size))

pub returns-in_err-sums : goal.returns-in_err-sums
unfolding named_present encrypted_message
returns-in_err-sums c =
    let is = end_is c.args.size c.args.b.now c.args.key.now c.args.counter.now c.requires.inputs c.requires.first c.requires.second in
    let laid = rw is at c.in_ok-encrypted.ensures.laid in
    Lays-exit c.args.b.now (end c.args.size).draft (encrypted_message (register c.args.size)) _ _ _ _ _ c.from_residual-in_err-sums.ensures.1
    (begun c.args.size c.args.b.now c.requires.inputs) (Grows-named (register c.args.size) (IsShape-register c.args.size))
    (rw (laid.1, laid.0, c.requires.third) at c.in_err-sums.ensures)

pub fence_outputs-requires : goal.fence_outputs-requires
unfolding encrypted_message
fence_outputs-requires c =
    let is = end_is c.args.size c.args.b.now c.args.key.now c.args.counter.now c.requires.inputs c.requires.first c.requires.second in
    let laid = rw is at c.in_ok-encrypted.ensures.laid in
    let summed = rw (laid.1, laid.0, c.requires.third) at c.in_ok-sums.ensures in
    rw (summed.1, summed.0) (known-sums (register c.args.size) (IsShape-register c.args.size))

pub returns : goal.returns
unfolding named_present named_of encrypted_message
returns c =
    let is = end_is c.args.size c.args.b.now c.args.key.now c.args.counter.now c.requires.inputs c.requires.first c.requires.second in
    let laid = rw is at c.in_ok-encrypted.ensures.laid in
    let summed = rw (laid.1, laid.0, c.requires.third) at c.in_ok-sums.ensures in
    Lays-last c.args.b.now (encrypted_message (register c.args.size)) _ _ _ _ _ _
    (Grows-trans c.args.b.now (end c.args.size).draft _ (begun c.args.size c.args.b.now c.requires.inputs) (Grows-end (register c.args.size) (IsShape-register c.args.size)))
    refl refl (rw (summed.1, summed.0) at c.fence_outputs.ensures.laid)
