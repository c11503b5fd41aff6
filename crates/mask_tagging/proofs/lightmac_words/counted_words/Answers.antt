use Rattle.std.proofs.Common.{◌≡◌, ℕ, suc, ◌+◌, ◌-◌, ◌/◌, length, replicate, ap, ap₂, ◌∙◌, ◌++◌, length-drop, arith}
use Rattle.std.specs.Int.{bytes_high_first}
use Rattle.mask_bits.specs.Reading.{high}
use Rattle.mask_lightmac.proofs.Tags.{length-bytes_of}
use Rattle.mask_tagging.proofs.LightMacBlocks.{last_bytes, with_piece}
use Rattle.mask_tagging.proofs.lightmac_words.counted_words.Goals as goal

pub returns : goal.returns
returns c =
    let s = c.args.counter in
    let quotient : c.from-number.result ≡ c.args.fed / (8 - s) = c.from-number.ensures ∙ ap (λ (d : ℕ). c.args.fed / d) c.from.ensures in
    let number : c.from-number.result + 1 ≡ suc (c.args.fed / (8 - s)) = omega arith in
    let bytes = c.to_be_bytes-bytes.ensures ∙ ap (bytes_high_first 16) number in
    let front = c.copy_from_slice.ensures.after ∙ last_bytes s (suc (c.args.fed / (8 - s))) c.to_be_bytes-bytes.result (omega arith) bytes in
    let long : length c.copy_from_slice.new.self ≡ s = ap length front ∙ length-bytes_of s (suc (c.args.fed / (8 - s))) in
    c.high_words.ensures
    ∙ ap high (with_piece s c.copy_from_slice.new.self _ c.copy_from_slice-2.new.self long (length-drop s (replicate 8 0)) ∙ ap₂ ◌++◌ front c.copy_from_slice-2.ensures.after)
