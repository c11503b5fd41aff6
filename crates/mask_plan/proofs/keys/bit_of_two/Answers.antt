use Rattle.std.proofs.Common.{◌≡◌, ℕ, false, List, ◌++◌, take, drop, get_or, ap, ap₂, ◌∙◌, arith}
use Rattle.std.proofs.lemmas.List.{take_min}
use Rattle.mask_bits.specs.Reading.{high}
use Rattle.mask_plan.proofs.Bits.{in_first, in_second}
use Rattle.mask_plan.proofs.keys.bit_of_two.Goals as goal

pub returns-then-j-first : goal.returns-then-j-first
returns-then-j-first c =
    let bytes = c.args.bytes.now in
    let front : c.split_at.result.0.now ≡ take c.args.front bytes
    = c.split_at.ensures.front ∙ ap (λ (n : ℕ). take n bytes) c.min.ensures ∙ take_min c.args.front bytes in
    c.high_bit.ensures ∙ in_first c.split_at.result.0.now (drop c.args.front bytes) c.args.j c.if-j-first.true
    ∙ ap (λ (first : List ℕ). get_or (high first ++ high (drop c.args.front bytes)) c.args.j false) front

pub returns-else-j-first : goal.returns-else-j-first
returns-else-j-first c =
    let bytes = c.args.bytes.now in
    let whole : c.min.result ≡ c.args.front = omega (arith, c.min.ensures, c.split_at.ensures.front_len, c.if-j-first.false, c.requires) in
    c.high_bit-else-j-first.ensures
    ∙ in_second c.split_at.result.0.now c.split_at.result.1.now c.args.j c.if-j-first.false
    ∙ ap₂ (λ (first second : List ℕ). get_or (high first ++ high second) c.args.j false)
    (c.split_at.ensures.front ∙ ap (λ (n : ℕ). take n bytes) whole)
    (c.split_at.ensures.back ∙ ap (λ (n : ℕ). drop n bytes) whole)
