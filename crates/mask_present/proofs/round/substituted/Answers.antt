use Rattle.std.proofs.Common.{◌*◌, ◌<◌, drop, arith, rules, All}
use Rattle.std.proofs.lemmas.List.Elements.{All-take, All-drop, All-weaker}
use Rattle.mask_circuit.specs.Netlist.{value_count}
use Rattle.mask_parts.proofs.Growing.{value_count-Grows}
use Rattle.mask_parts.proofs.Laying.{IsWithinLimits-circuit, IsRefused-within}
use Rattle.mask_present.proofs.Blocks.{HasSubstituted-none, HasSubstituted-more, HasSubstituted-all, rest-sbox}
use Rattle.mask_present.proofs.round.substituted.Goals as goal

pub loop-g-init : goal.loop-g-init
loop-g-init c = HasSubstituted-none c.args.b.now c.args.block.now _ (search rules) (IsWithinLimits-circuit c.args.b.now c.values-values.ensures.circuit)

pub sbox4_present-requires : goal.sbox4_present-requires
sbox4_present-requires c =
    let us = c.args.block.now in
    let more = value_count-Grows c.args.b.now c.loop-g.b c.loop-g.invariant.begun in
    let known : All (λ u. u < value_count c.loop-g.b) us =
    All-weaker (λ u. u < value_count c.args.b.now) (λ u. u < value_count c.loop-g.b) (λ u low. omega arith) us c.requires in
    rw c.nibble.ensures (All-take (λ u. u < value_count c.loop-g.b) 4 (drop (4 * c.loop-g.g) us) (All-drop (λ u. u < value_count c.loop-g.b) (4 * c.loop-g.g) us known))

pub returns-in-Err : goal.returns-in-Err
returns-in-Err c =
    IsRefused-within _ c.loop-g.b _ _ _ _ c.loop-g.invariant.begun
    (rest-sbox c.args.b.now c.loop-g.b c.args.block.now c.loop-g.result c.loop-g.g c.told-block (omega arith) c.loop-g.invariant)
    (rw c.nibble.ensures at c.in-Err.ensures.laid)

pub loop-g-preserved : goal.loop-g-preserved
loop-g-preserved c =
    let laid = rw c.nibble.ensures at c.in-Ok.ensures.laid in
    rw (c.set_nibble.ensures, c.in-Ok.ensures.laid.0)
    (HasSubstituted-more c.args.b.now c.loop-g.b c.args.block.now c.loop-g.result c.loop-g.g c.told-block (omega arith) c.loop-g.invariant _ laid.1 laid.2)

pub returns : goal.returns
returns c = HasSubstituted-all c.args.b.now c.loop-g.b c.args.block.now c.loop-g.result c.loop-g.g (omega arith) c.loop-g.invariant
