use Rattle.std.proofs.Common.{◌≡◌, ℕ, suc, ◌+◌, ◌-◌, ◌*◌, ◌<◌, ◌≤◌, List, [], ◌∷◌, ◌++◌, length, take, drop, set, refl, ap, sym, ◌∙◌, arith}
use Rattle.std.proofs.lemmas.List.{append_assoc, take_all, take_more_set, length-set, length-take-le, length-drop}
use Rattle.std.proofs.lemmas.Slice.{take-put_mid}
use borrow.Rule.Slice.PartMut.{put_mid, same_len_mid}
use Rattle.mask_parts.specs.declared.tables.Step.{Step}
use Rattle.mask_parts.specs.Words32.{full_adder, ripple, sum32_steps}
use Rattle.mask_parts.proofs.words.sum_steps.Goals as goal

pub loop-i-init : goal.loop-i-init
unfolding sum32_steps
loop-i-init c = (refl, refl)

-- five steps replace five
length-put_five : (at k : ℕ) (steps five : List Step) → k ≡ 5 → at + 5 ≤ length steps → length five ≡ 5 → length (put_mid at k steps five) ≡ length steps
length-put_five at k steps five five_long within long =
    same_len_mid at k steps five (long ∙ sym (length-take-le k (drop at steps) (omega (arith, length-drop at steps)) ∙ five_long))

-- the steps of bit i are the next ones
one_bit : (i k : ℕ) (steps five : List Step) → 1 ≤ i → i < 31 → length steps ≡ 154 → five ≡ full_adder i (6 * i - 4) →
    take (5 * i - 3) steps ++ ripple (31 - i) i (6 * i - 4) ≡ sum32_steps →
    take (5 * (i + 1) - 3) (put_mid (5 * i - 3) k steps five) ++ ripple (31 - (i + 1)) (i + 1) (6 * (i + 1) - 4) ≡ sum32_steps
one_bit i k steps five from below long same so_far =
    let front = take (5 * i - 3) steps in
    let rest = ripple (31 - (i + 1)) (i + 1) (6 * (i + 1) - 4) in
    let end : 5 * (i + 1) - 3 ≡ 5 * i - 3 + length five = omega (arith, ap length same) in
    let left : 31 - i ≡ suc (31 - (i + 1)) = omega arith in
    let carry : 6 * i - 4 + 6 ≡ 6 * (i + 1) - 4 = omega arith in
    let next : ripple (31 - i) i (6 * i - 4) ≡ full_adder i (6 * i - 4) ++ rest =
    ap (λ m. ripple m i (6 * i - 4)) left ∙ ap (λ c. full_adder i (6 * i - 4) ++ ripple (31 - (i + 1)) (i + 1) c) carry in
    ap (λ (ss : List Step). ss ++ rest) (take-put_mid (5 * i - 3) k steps five (5 * (i + 1) - 3) end (omega arith) ∙ ap (λ (ss : List Step). front ++ ss) same)
    ∙ append_assoc front (full_adder i (6 * i - 4)) rest ∙ ap (λ (ss : List Step). front ++ ss) (sym next) ∙ so_far

pub loop-i-preserved : goal.loop-i-preserved
loop-i-preserved c =
    let i = c.loop-i.i in
    let long = c.loop-i.invariant.0 in
    let five = c.copy_from_slice.ensures.after ∙ c.full_adder.ensures in (
      length-put_five (5 * i - 3) _ c.loop-i.steps c.copy_from_slice.new.self (omega arith) (omega arith) (ap length five) ∙ long,
      one_bit i _ c.loop-i.steps c.copy_from_slice.new.self (omega (arith, c.loop-i.auto.i)) (omega arith) long five c.loop-i.invariant.1,
    )

-- the last two steps
last_two : (steps : List Step) (s t : Step) → length steps ≡ 154 → set (set steps 152 s) 153 t ≡ take 152 steps ++ s ∷ t ∷ []
last_two steps s t long =
    let first = set steps 152 s in
    let kept = length-set steps 152 s in
    let both = length-set first 153 t in
    sym (take_all 154 (set first 153 t) (omega arith)) ∙ take_more_set first 153 t (omega arith)
    ∙ ap (λ (ss : List Step). ss ++ t ∷ []) (take_more_set steps 152 s (omega arith)) ∙ append_assoc (take 152 steps) (s ∷ []) (t ∷ [])

pub returns : goal.returns
returns c =
    let end : c.loop-i.i ≡ 31 = omega (arith, c.loop-i.auto.i, c.loop-i-test.false) in
    last_two c.loop-i.steps _ _ c.loop-i.invariant.0 ∙ (rw end at c.loop-i.invariant.1)
