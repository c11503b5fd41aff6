use Rattle.std.proofs.Common.{◌≡◌, ℕ, refl, ap, ◌∙◌, arith}
use Rattle.std.specs.List.{range_with_len}
use Rattle.mask_circuit.specs.Netlist.{Netlist, value_count}
use Rattle.mask_tasks.specs.declared.sizes.LeaSize.{LeaSize}
use Rattle.mask_parts.proofs.Growing.{Grows-refl, Grows-trans}
use Rattle.mask_parts.proofs.Laying.{Lays-exit, Lays-last}
use Rattle.mask_parts.proofs.WordPassing.{known-words}
use Rattle.mask_lea.specs.Lea.{schedule}
use Rattle.mask_lea.specs.NamedLea.{start, encrypted_message, named_of, named_lea}
use Rattle.mask_lea.specs.Rounds.{Stage, with_rounds}
use Rattle.mask_lea.proofs.Concluding.{begun-end, left, All-messages, known-sums, runs, Grows-named}
use Rattle.mask_lea.proofs.Running.{IsShape-schedule}
use Rattle.mask_lea.proofs.circuits.lay_on.Goals as goal

-- the stage after the rounds
abbrev end : LeaSize → Stage
end size = with_rounds (schedule size) (start (schedule size))

pub returns-in_err-encrypted : goal.returns-in_err-encrypted
unfolding named_lea
returns-in_err-encrypted c =
    let r = schedule c.args.size in let shape = IsShape-schedule c.args.size in
    Lays-exit c.args.b.now c.args.b.now (end c.args.size).draft _ _ _ _ _ c.from_residual.ensures.1 (Grows-refl c.args.b.now)
    (Grows-trans _ (encrypted_message r) _ (left r shape) (Grows-named r shape)) c.in_err-encrypted.ensures

pub xor_blocks-requires : goal.xor_blocks-requires
xor_blocks-requires c =
    let r = schedule c.args.size in let shape = IsShape-schedule c.args.size in
    let laid = c.in_ok-encrypted.ensures in
    record {
      xs_known = rw (laid.1, laid.0) (known-words ⊥ _ _ (runs r shape ⊥).fine.block);
      ys_known = rw (laid.1, c.requires.third) (known-words ⊥ _ _ (All-messages r shape ⊥));
    }

pub returns-in_err-xor_blocks : goal.returns-in_err-xor_blocks
unfolding named_lea encrypted_message
returns-in_err-xor_blocks c =
    let r = schedule c.args.size in let shape = IsShape-schedule c.args.size in
    let laid = c.in_ok-encrypted.ensures in
    Lays-exit c.args.b.now (end c.args.size).draft (encrypted_message r) _ _ _ _ _ c.from_residual-in_err-xor_blocks.ensures.1
    (begun-end r shape c.args.b.now c.requires.inputs) (Grows-named r shape) (rw (laid.1, laid.0, c.requires.third) at c.in_err-xor_blocks.ensures)

pub number_from-requires : goal.number_from-requires
number_from-requires c = let few = c.values-first.ensures.circuit.few_values in let count = c.values-first.ensures.count in omega arith

pub fence_outputs-requires : goal.fence_outputs-requires
unfolding encrypted_message
fence_outputs-requires c =
    let r = schedule c.args.size in let shape = IsShape-schedule c.args.size in
    let laid = c.in_ok-encrypted.ensures in
    let summed = rw (laid.1, laid.0, c.requires.third) at c.in_ok-xor_blocks.ensures in
    let sums : c.number_from.new.places ≡ range_with_len (value_count (end c.args.size).draft) 128 =
    c.number_from.ensures ∙ ap (λ (n : ℕ). range_with_len n 128) (c.values-first.ensures.count ∙ ap (λ (d : Netlist). value_count d) laid.1) in
    rw (sums, summed.1) (known-sums r shape)

pub returns : goal.returns
unfolding named_lea named_of encrypted_message
returns c =
    let r = schedule c.args.size in let shape = IsShape-schedule c.args.size in
    let laid = c.in_ok-encrypted.ensures in
    let summed = rw (laid.1, laid.0, c.requires.third) at c.in_ok-xor_blocks.ensures in
    let sums : c.number_from.new.places ≡ range_with_len (value_count (end c.args.size).draft) 128 =
    c.number_from.ensures ∙ ap (λ (n : ℕ). range_with_len n 128) (c.values-first.ensures.count ∙ ap (λ (d : Netlist). value_count d) laid.1) in
    Lays-last c.args.b.now (encrypted_message r) _ _ _ _ _ _
    (Grows-trans c.args.b.now (end c.args.size).draft _ (begun-end r shape c.args.b.now c.requires.inputs) (left r shape))
    refl refl (rw (sums, summed.1) at c.fence_outputs.ensures.laid)
