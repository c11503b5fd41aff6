use Rattle.std.proofs.Common.{◌%◌, ap, ◌∙◌}
use Rattle.mask_bits.specs.Reading.{bit}
use Rattle.mask_chain.proofs.BitWords.{bit_of_bool}
use Rattle.mask_plan.proofs.Bits.{high_bit_is}
use Rattle.mask_plan.proofs.keys.high_bit.Goals as goal

pub returns : goal.returns
returns c =
    ap (bit 0) c.from-2.ensures ∙ bit_of_bool c.bit_of.result ∙ c.bit_of.ensures ∙ ap (bit (c.args.j % 8)) c.from.ensures
    ∙ high_bit_is c.args.bytes.now c.args.j c.requires
