use Rattle.std.proofs.Common.{◌<◌, length, sym, ap, ◌∙◌, arith, length-take}
use Rattle.std.proofs.lemmas.Grind.{take_at_read}
use Rattle.std.proofs.lemmas.Str.{encode_ascii}
use Rattle.mask_text.proofs.Spellings.{name_means}
use Rattle.mask_text.proofs.names.name_of.Goals as goal

pub push-requires : goal.push-requires
push-requires c =
    let is = name_means c.args.word.now c.requires in
    let few = is.few in
    let byte = is.bytes c.loop-byte.byte-index c.loop-byte-test.true in
    let from = c.from.ensures in
    let one = ap length (encode_ascii c.from.result (omega arith)) in
    let front = ap length c.loop-byte.invariant ∙ length-take c.loop-byte.byte-index c.args.word.now in
    (omega arith, omega arith)

pub loop-byte-preserved : goal.loop-byte-preserved
loop-byte-preserved c =
    let is = name_means c.args.word.now c.requires in
    let byte = is.bytes c.loop-byte.byte-index c.loop-byte-test.true in
    let from = c.from.ensures in
    let small : c.from.result < 128 = omega arith in
    let more = (take_at_read c.args.word.now c.loop-byte.byte-index 0 c.loop-byte-test.true).1 in
    c.push.ensures.ascii small ∙ rw (c.loop-byte.invariant, c.from.ensures) (sym more)
