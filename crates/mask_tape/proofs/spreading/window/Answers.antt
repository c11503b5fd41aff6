use Rattle.std.proofs.Common.{◌≡◌, ℕ, ◌+◌, ◌-◌, ◌*◌, ◌/◌, ◌%◌, inl, inr, length, take, drop, arith, ◌∙◌, length-drop}
use Rattle.std.proofs.lemmas.Bool.{cases_lt}
use Rattle.std.proofs.lemmas.List.{take_all}
use Rattle.mask_tape.proofs.Windows.{bit-eight, bit-ninth, bit-joined_low, bit-joined_high}
use Rattle.mask_tape.proofs.spreading.window.Goals as goal

pub returns-then-shift-eq0 : goal.returns-then-shift-eq0
returns-then-shift-eq0 c = λ j lt.
    let first : ℕ = c.args.at / 8 in
    let rest : take (length c.args.bytes.now - first) (drop first c.args.bytes.now) ≡ drop first c.args.bytes.now = take_all _ (drop first c.args.bytes.now) (simp length-drop (omega arith)) in
    let place : 8 * first + j ≡ c.args.at + j = omega (arith, c.if-shift-eq0.true) in
    rw (c.little_endian-eight.ensures, rest, ← place) (bit-eight c.args.bytes.now first j lt)

pub returns : goal.returns
returns c = λ j lt.
    let first : ℕ = c.args.at / 8 in
    let shift : ℕ = c.args.at % 8 in
    let rest : take (length c.args.bytes.now - first) (drop first c.args.bytes.now) ≡ drop first c.args.bytes.now = take_all _ (drop first c.args.bytes.now) (simp length-drop (omega arith)) in
    elim (cases_lt j (64 - shift)) [
      | inl lower ↦
          let place : 8 * first + (shift + j) ≡ c.args.at + j = omega arith in
          bit-joined_low c.little_endian-eight.result c.byte_or_zero.result shift j (omega arith) lower
          ∙ rw (c.little_endian-eight.ensures, rest, ← place) (bit-eight c.args.bytes.now first (shift + j) (omega arith))
      | inr upper ↦
          let place : 8 * first + (64 + (j - (64 - shift))) ≡ c.args.at + j = omega arith in
          bit-joined_high c.little_endian-eight.result c.byte_or_zero.result shift j (omega arith) (omega arith) upper lt
          ∙ rw (c.byte_or_zero.ensures, rest, ← place) (bit-ninth c.args.bytes.now first (j - (64 - shift)) (omega arith))
    ]
