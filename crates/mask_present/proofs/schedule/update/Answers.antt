use Rattle.std.proofs.Common.{◌≡◌, ◌-◌, ℕ, List, [], ◌++◌, OnOk, length, take, drop, fold, refl, ap, ap₂, subst, ◌∙◌, All}
use Rattle.mask_circuit.specs.Netlist.{Netlist}
use Rattle.mask_tasks.specs.declared.sizes.KeySize.{KeySize}
use Rattle.mask_parts.specs.Drafts.{Grows}
use Rattle.mask_parts.proofs.Growing.{Grows-refl}
use Rattle.mask_parts.proofs.Laying.{Lays-exit, Lays-last}
use Rattle.mask_present.specs.Present.{register}
use Rattle.mask_present.specs.Rounds.{Stage, stage, key_rotated, key_replaced, key_updated}
use Rattle.mask_present.proofs.Knowing.{Below, Known, Known-nibbles, Known-key_rotated}
use Rattle.mask_present.proofs.Lengthening.{Lengthens-nibbles, Lengthens-key_counted}
use Rattle.mask_present.proofs.Updates.{known-stage, rotated-stage, Lays-key_counted, key-key_counted}
use Rattle.mask_present.proofs.schedule.update.Goals as goal

-- the stage of the rotated register, after its nibbles were replaced
replaced : (size : KeySize) (b : Netlist) (key : List ℕ) → Stage
replaced size b key = fold key_replaced (key_rotated (register size) (stage b key [])) (register size).nibbles

replaced_is : (size : KeySize) (b : Netlist) (key now ats : List ℕ) → length key ≡ (register size).width → now ≡ drop (length key - 61) key ++ take (length key - 61) key
    → ats ≡ (register size).nibbles → fold key_replaced (stage b now []) ats ≡ replaced size b key
unfolding replaced
replaced_is size b key now ats width is places =
    ap₂ (fold key_replaced) (rotated-stage (register size) b key now (length key - 61) (ap (λ n. n - 61) width) is) places

Grows-replaced : (size : KeySize) (b : Netlist) (key : List ℕ) → Grows b (replaced size b key).draft
unfolding replaced stage key_rotated
Grows-replaced size b key = Lengthens-nibbles (register size).nibbles (key_rotated (register size) (stage b key []))

Known-replaced : (size : KeySize) (b : Netlist) (key : List ℕ) → All (Below b) key → Known (replaced size b key)
unfolding replaced
Known-replaced size b key known = Known-nibbles (register size).nibbles _ (Known-key_rotated (register size) (stage b key []) (known-stage b key known))

pub returns-in_err-replace_nibbles-clause-laid : goal.returns-in_err-replace_nibbles-clause-laid
unfolding key_updated replaced
returns-in_err-replace_nibbles-clause-laid c =
    let b = c.args.b.now in let key = c.args.key.now in
    let is = replaced_is c.args.size b key c.rotate_left.new.self c.nibble_places.result.now c.requires.width c.rotate_left.ensures.after c.nibble_places.ensures in
    Lays-exit _ b _ _ _ _ _ _ c.from_residual.ensures.1 (Grows-refl b) (Lengthens-key_counted (register c.args.size) c.args.round (replaced c.args.size b key))
    (rw is at c.in_err-replace_nibbles.ensures.laid)

pub count_round-requires-clause-known : goal.count_round-requires-clause-known
count_round-requires-clause-known c =
    let b = c.args.b.now in let key = c.args.key.now in
    let is = replaced_is c.args.size b key c.rotate_left.new.self c.nibble_places.result.now c.requires.width c.rotate_left.ensures.after c.nibble_places.ensures in
    rw (c.in_ok-replace_nibbles.ensures.laid.1, c.in_ok-replace_nibbles.ensures.replaced, is) (Known-replaced c.args.size b key c.requires.known).values.key

pub returns-clause-laid : goal.returns-clause-laid
unfolding key_updated replaced
returns-clause-laid c =
    let b = c.args.b.now in let key = c.args.key.now in
    let is = replaced_is c.args.size b key c.rotate_left.new.self c.nibble_places.result.now c.requires.width c.rotate_left.ensures.after c.nibble_places.ensures in
    let u = replaced c.args.size b key in
    Lays-last b u.draft _ _ _ _ _ _ (Grows-replaced c.args.size b key) refl refl
    (Lays-key_counted (register c.args.size) c.args.round u c.replace_nibbles.new.b c.replace_nibbles.new.key c.counter_place.result _ _
    (c.in_ok-replace_nibbles.ensures.laid.1 ∙ ap (λ (s : Stage). s.draft) is) (c.in_ok-replace_nibbles.ensures.replaced ∙ ap (λ (s : Stage). s.key) is)
    c.counter_place.ensures c.count_round.ensures.laid)

pub returns-clause-updated : goal.returns-clause-updated
unfolding key_updated replaced
returns-clause-updated c =
    let b = c.args.b.now in let key = c.args.key.now in
    let is = replaced_is c.args.size b key c.rotate_left.new.self c.nibble_places.result.now c.requires.width c.rotate_left.ensures.after c.nibble_places.ensures in
    subst (λ (k : List ℕ). OnOk c.count_round.result (c.count_round.new.key ≡ k))
    (key-key_counted (register c.args.size) c.args.round (replaced c.args.size b key) c.replace_nibbles.new.b c.replace_nibbles.new.key c.counter_place.result
    (c.in_ok-replace_nibbles.ensures.laid.1 ∙ ap (λ (s : Stage). s.draft) is) (c.in_ok-replace_nibbles.ensures.replaced ∙ ap (λ (s : Stage). s.key) is)
    c.counter_place.ensures)
    c.count_round.ensures.counted
