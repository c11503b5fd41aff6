use Rattle.std.proofs.Common.{Result, Ok, Err, OnOk, ◌∙◌}
use Rattle.mask_circuit.specs.declared.builders.CircuitError.{CircuitError}
use Rattle.mask_parts.proofs.Growing.{Grows-refl}
use Rattle.mask_parts.proofs.Laying.{Lays-exit, Lays-last}
use Rattle.mask_lea.specs.Lea.{schedule}
use Rattle.mask_lea.proofs.Calling.{IsKnown-from, round-draft, round-block, round-key, updated-long, updated-words, updated-block, begun-updated, left-updated}
use Rattle.mask_lea.proofs.Running.{IsShape-schedule}
use Rattle.mask_lea.proofs.rounds.round.Goals as goal

on_ok : {A : Type 0} (r : Result A CircuitError) (P : Type 0) → P → OnOk r P
on_ok (Ok a) P p = p
on_ok (Err e) P p = tt

pub update-requires : goal.update-requires
update-requires c = record {
  width = c.requires.width;
  key_known = c.requires.key_known;
  zero_known = c.requires.zero_known;
  one_known = c.requires.one_known;
  few = c.requires.few;
}

pub returns-in_err-update-clause-laid : goal.returns-in_err-update-clause-laid
returns-in_err-update-clause-laid c =
    let known = IsKnown-from (schedule c.args.size) 4 c.args.b.now c.args.zero c.args.one c.args.key.now c.args.block.now c.requires.zero_known c.requires.one_known
    c.requires.width c.requires.key_known c.told-block c.requires.block_known in
    Lays-exit _ c.args.b.now _ _ _ _ _ _ c.from_residual.ensures.1 (Grows-refl c.args.b.now)
    (left-updated (schedule c.args.size) (IsShape-schedule c.args.size) c.args.i c.args.b.now c.args.zero c.args.one c.args.key.now c.args.block.now
    c.values-values.ensures.circuit.formed.gates known) c.in_err-update.ensures.laid

pub round_key-round_key-requires : goal.round_key-round_key-requires
round_key-round_key-requires c =
    let known = IsKnown-from (schedule c.args.size) 4 c.args.b.now c.args.zero c.args.one c.args.key.now c.args.block.now c.requires.zero_known c.requires.one_known
    c.requires.width c.requires.key_known c.told-block c.requires.block_known in
    record {
      width = rw c.in_ok-update.ensures.updated (updated-long (schedule c.args.size) (IsShape-schedule c.args.size) c.args.i c.args.b.now c.args.zero c.args.one c.args.key.now c.args.block.now
          c.values-values.ensures.circuit.formed.gates known);
      few = c.requires.few;
    }

pub mix_block-requires : goal.mix_block-requires
mix_block-requires c =
    let known = IsKnown-from (schedule c.args.size) 4 c.args.b.now c.args.zero c.args.one c.args.key.now c.args.block.now c.requires.zero_known c.requires.one_known
    c.requires.width c.requires.key_known c.told-block c.requires.block_known in
    record {
      key_known = rw (c.in_ok-update.ensures.laid.1, c.round_key-round_key.ensures, c.in_ok-update.ensures.updated)
          (updated-words (schedule c.args.size) (IsShape-schedule c.args.size) c.args.i c.args.b.now c.args.zero c.args.one c.args.key.now c.args.block.now
          c.values-values.ensures.circuit.formed.gates known);
      block_known = rw c.in_ok-update.ensures.laid.1 (updated-block (schedule c.args.size) (IsShape-schedule c.args.size) c.args.i c.args.b.now c.args.zero c.args.one c.args.key.now c.args.block.now
          c.values-values.ensures.circuit.formed.gates known);
    }

pub returns-clause-laid : goal.returns-clause-laid
returns-clause-laid c =
    let known = IsKnown-from (schedule c.args.size) 4 c.args.b.now c.args.zero c.args.one c.args.key.now c.args.block.now c.requires.zero_known c.requires.one_known
    c.requires.width c.requires.key_known c.told-block c.requires.block_known in
    Lays-last c.args.b.now _ _ _ _ _ _ _ (begun-updated (schedule c.args.size) (IsShape-schedule c.args.size) c.args.i c.args.b.now c.args.zero c.args.one c.args.key.now c.args.block.now
    c.values-values.ensures.circuit.formed.gates known)
    (round-draft (schedule c.args.size) c.args.i c.args.b.now c.args.zero c.args.one c.args.key.now c.args.block.now)
    (round-block (schedule c.args.size) c.args.i c.args.b.now c.args.zero c.args.one c.args.key.now c.args.block.now)
    (rw (c.round_key-round_key.ensures, c.in_ok-update.ensures.laid.1, c.in_ok-update.ensures.updated) at c.mix_block.ensures)

pub returns-clause-updated : goal.returns-clause-updated
returns-clause-updated c = on_ok c.mix_block.result _
    (c.in_ok-update.ensures.updated ∙ round-key (schedule c.args.size) c.args.i c.args.b.now c.args.zero c.args.one c.args.key.now c.args.block.now)
