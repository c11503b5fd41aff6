use Rattle.std.proofs.Common.{◌≡◌, ℕ, ◌<◌, false, [], get_or, arith, rules, ap, sym, ◌∙◌, refl}
use Rattle.std.proofs.lemmas.List.{append-nil}
use Rattle.std.proofs.lemmas.List.Elements.{All-get_or}
use Rattle.mask_bits.specs.Reading.{bit, lowest}
use Rattle.mask_bits.proofs.Numbers.{get_or-lowest}
use Rattle.mask_circuit.specs.Netlist.{value_count}
use Rattle.mask_parts.proofs.Growing.{value_count-Grows}
use Rattle.mask_parts.proofs.Laying.{IsWithinLimits-circuit, IsRefused-within}
use Rattle.mask_present.proofs.Updates.{HasCounted-none, HasCounted-more, HasCounted-all, rest-counted}
use Rattle.mask_present.proofs.schedule.counted.Goals as goal

-- the flag at a place
flag_is : (n k : ℕ) → k < 5 → bit k n ≡ get_or (lowest 5 n) k false
flag_is n k h = sym (get_or-lowest 5 k n [] h) ∙ ap (λ bs. get_or bs k false) (append-nil (lowest 5 n))

pub loop-k-init : goal.loop-k-init
loop-k-init c = HasCounted-none c.args.b.now (lowest 5 c.args.number) c.args.values.now _ (search rules) (IsWithinLimits-circuit c.args.b.now c.values-values.ensures.circuit)

pub not_if-requires : goal.not_if-requires
not_if-requires c =
    let more = value_count-Grows c.args.b.now c.loop-k.b c.loop-k.invariant.begun in
    let known = All-get_or (λ u. u < value_count c.args.b.now) c.args.values.now c.loop-k.k 0 (omega arith) c.requires.known in
    omega arith

pub returns-in-Err : goal.returns-in-Err
returns-in-Err c =
    let flag = c.bit_of.ensures ∙ flag_is c.args.number c.loop-k.k (omega arith) in
    IsRefused-within _ c.loop-k.b _ _ _ _ c.loop-k.invariant.begun
    (rest-counted c.args.b.now c.loop-k.b (lowest 5 c.args.number) c.args.values.now c.loop-k.result c.loop-k.k (omega arith) (omega arith) c.loop-k.invariant)
    (rw flag at c.in-Err.ensures)

pub loop-k-preserved : goal.loop-k-preserved
loop-k-preserved c =
    let flag = c.bit_of.ensures ∙ flag_is c.args.number c.loop-k.k (omega arith) in
    let laid = rw flag at c.in-Ok.ensures in
    rw (laid.0)
    (HasCounted-more c.args.b.now c.loop-k.b (lowest 5 c.args.number) c.args.values.now c.loop-k.result c.loop-k.k (omega arith) (omega arith) c.loop-k.invariant
    (omega arith) _ laid.1 laid.2)

pub returns : goal.returns
returns c = HasCounted-all c.args.b.now c.loop-k.b (lowest 5 c.args.number) c.args.values.now c.loop-k.result c.loop-k.k refl c.requires.five (omega arith) c.loop-k.invariant
