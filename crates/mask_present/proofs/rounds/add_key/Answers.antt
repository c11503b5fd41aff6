use Rattle.std.proofs.Common.{◌≡◌, ◌-◌, ℕ, length, take, drop, ap, ◌∙◌}
use Rattle.std.proofs.lemmas.List.{take_rest}
use Rattle.mask_present.specs.Present.{register}
use Rattle.mask_present.specs.Rounds.{stage, key_added}
use Rattle.mask_present.proofs.rounds.add_key.Goals as goal

pub returns : goal.returns
unfolding stage key_added
returns c =
    let key = c.args.key.now in
    let high : take (length key - (length key - 64)) (drop (length key - 64) key) ≡ drop ((register c.args.size).width - 64) key =
    take_rest key (length key - 64) ∙ ap (λ (n : ℕ). drop (n - 64) key) c.requires.width in
    rw high at c.xor_blocks.ensures
