use Rattle.std.proofs.Common.{◌≡◌, ℕ, List, length, ap, ◌∙◌}
use Rattle.mask_circuit.specs.Netlist.{Netlist, IsCircuit}
use Rattle.mask_parts.specs.Drafts.{Grows}
use Rattle.mask_parts.specs.Words32.{AreWordsOf}
use Rattle.mask_parts.proofs.Growing.{Grows-refl}
use Rattle.mask_parts.proofs.Laying.{Lays-exit}
use Rattle.mask_parts.proofs.WordPassing.{known-words}
use Rattle.mask_chaskey.specs.Rounds.{Stage, stage, turned_block, with_mixed, with_turned, with_round}
use Rattle.mask_chaskey.proofs.Calling.{IsFine-known, stage-is}
use Rattle.mask_chaskey.proofs.Lengthening.{first_mixed, second_mixed, third_mixed, last_mixed, Lengthens-turned, Lengthens-trans, Lengthens-first, Lengthens-second, Lengthens-third, Lengthens-last, Lengthens-after_first, Lengthens-after_second, Lengthens-after_third}
use Rattle.mask_chaskey.proofs.Running.{IsFine, Runs-first, Runs-second, Runs-third}
use Rattle.mask_chaskey.proofs.round.round.Goals as goal

-- what the stages in a round have
module _ (b : Netlist) (ws : List (List ℕ)) (circuit : IsCircuit b) (four : length ws ≡ 4) (known : AreWordsOf b ws) where
  abbrev s : Stage
  s = stage b ws

  fine : IsFine ⊥ s
  fine = IsFine-known b ws circuit.formed.gates four known

  first-known : AreWordsOf (first_mixed s).draft (first_mixed s).block
  first-known = known-words ⊥ _ _ (Runs-first ⊥ s fine).fine.words

  second-known : AreWordsOf (second_mixed s).draft (second_mixed s).block
  second-known = known-words ⊥ _ _ (Runs-second ⊥ s fine).fine.words

  third-known : AreWordsOf (third_mixed s).draft (third_mixed s).block
  third-known = known-words ⊥ _ _ (Runs-third ⊥ s fine).fine.words

-- the first word turned after the first call
first-block : (s : Stage) (us vs : List (List ℕ)) → us ≡ (with_mixed 0 1 5 s).block → vs ≡ turned_block 0 us → vs ≡ (first_mixed s).block
unfolding with_turned
first-block s us vs block turned = turned ∙ ap (turned_block 0) block

first-draft : (s : Stage) (c : Netlist) → c ≡ (with_mixed 0 1 5 s).draft → c ≡ (first_mixed s).draft
unfolding with_turned
first-draft s c draft = draft

begun-first : (b : Netlist) (ws : List (List ℕ)) → Grows b (first_mixed (stage b ws)).draft
unfolding stage
begun-first b ws = Lengthens-first (stage b ws)

begun-second : (b : Netlist) (ws : List (List ℕ)) → Grows b (second_mixed (stage b ws)).draft
unfolding stage
begun-second b ws = Lengthens-second (stage b ws)

begun-third : (b : Netlist) (ws : List (List ℕ)) → Grows b (third_mixed (stage b ws)).draft
unfolding stage
begun-third b ws = Lengthens-third (stage b ws)

pub returns-in_err-mix : goal.returns-in_err-mix
returns-in_err-mix c =
    let b = c.args.b.now in let s = stage b c.args.block.now in
    Lays-exit _ b (with_mixed 0 1 5 s).draft _ _ _ _ _ c.from_residual.ensures.1 (Grows-refl b)
    (Lengthens-trans (with_mixed 0 1 5 s) (first_mixed s) (with_round s) (Lengthens-turned 0 (with_mixed 0 1 5 s)) (Lengthens-after_first s)) c.in_err-mix.ensures

pub mix-requires-2-clause-known : goal.mix-requires-2-clause-known
mix-requires-2-clause-known c =
    let b = c.args.b.now in let ws = c.args.block.now in let s = stage b ws in
    rw (first-block s _ _ c.in_ok-mix.ensures.0 c.turn-first.ensures, first-draft s _ c.in_ok-mix.ensures.1) (first-known b ws c.values-values.ensures.circuit c.told-block c.requires)

pub returns-in_err-second : goal.returns-in_err-second
returns-in_err-second c =
    let b = c.args.b.now in let ws = c.args.block.now in let s = stage b ws in
    let first = stage-is _ _ (first_mixed s) (first-block s _ _ c.in_ok-mix.ensures.0 c.turn-first.ensures) (first-draft s _ c.in_ok-mix.ensures.1) in
    Lays-exit _ (first_mixed s).draft (second_mixed s).draft _ _ _ _ _ c.from_residual-in_err-second.ensures.1 (begun-first b ws) (Lengthens-after_second s)
    (rw (first, first-draft s _ c.in_ok-mix.ensures.1) at c.in_err-second.ensures)

pub mix-requires-3-clause-known : goal.mix-requires-3-clause-known
mix-requires-3-clause-known c =
    let b = c.args.b.now in let ws = c.args.block.now in let s = stage b ws in
    let first = stage-is _ _ (first_mixed s) (first-block s _ _ c.in_ok-mix.ensures.0 c.turn-first.ensures) (first-draft s _ c.in_ok-mix.ensures.1) in
    let second = rw first at c.in_ok-second.ensures in
    rw (second.0, second.1) (second-known b ws c.values-values.ensures.circuit c.told-block c.requires)

pub returns-in_err-third : goal.returns-in_err-third
returns-in_err-third c =
    let b = c.args.b.now in let ws = c.args.block.now in let s = stage b ws in
    let first = stage-is _ _ (first_mixed s) (first-block s _ _ c.in_ok-mix.ensures.0 c.turn-first.ensures) (first-draft s _ c.in_ok-mix.ensures.1) in
    let second = rw first at c.in_ok-second.ensures in
    Lays-exit _ (second_mixed s).draft (third_mixed s).draft _ _ _ _ _ c.from_residual-in_err-third.ensures.1 (begun-second b ws) (Lengthens-after_third s)
    (rw (stage-is _ _ (second_mixed s) second.0 second.1, second.1) at c.in_err-third.ensures)

pub mix-requires-4-clause-known : goal.mix-requires-4-clause-known
mix-requires-4-clause-known c =
    let b = c.args.b.now in let ws = c.args.block.now in let s = stage b ws in
    let first = stage-is _ _ (first_mixed s) (first-block s _ _ c.in_ok-mix.ensures.0 c.turn-first.ensures) (first-draft s _ c.in_ok-mix.ensures.1) in
    let second = rw first at c.in_ok-second.ensures in
    let third = rw (stage-is _ _ (second_mixed s) second.0 second.1) at c.in_ok-third.ensures in
    rw (third.0, third.1) (third-known b ws c.values-values.ensures.circuit c.told-block c.requires)

pub returns-in_err-last : goal.returns-in_err-last
returns-in_err-last c =
    let b = c.args.b.now in let ws = c.args.block.now in let s = stage b ws in
    let first = stage-is _ _ (first_mixed s) (first-block s _ _ c.in_ok-mix.ensures.0 c.turn-first.ensures) (first-draft s _ c.in_ok-mix.ensures.1) in
    let second = rw first at c.in_ok-second.ensures in
    let third = rw (stage-is _ _ (second_mixed s) second.0 second.1) at c.in_ok-third.ensures in
    Lays-exit _ (third_mixed s).draft (last_mixed s).draft _ _ _ _ _ c.from_residual-in_err-last.ensures.1 (begun-third b ws) (Lengthens-last s)
    (rw (stage-is _ _ (third_mixed s) third.0 third.1, third.1) at c.in_err-last.ensures)

pub returns : goal.returns
unfolding with_round with_turned
returns c =
    let b = c.args.b.now in let ws = c.args.block.now in let s = stage b ws in
    let first = stage-is _ _ (first_mixed s) (first-block s _ _ c.in_ok-mix.ensures.0 c.turn-first.ensures) (first-draft s _ c.in_ok-mix.ensures.1) in
    let second = rw first at c.in_ok-second.ensures in
    let third = rw (stage-is _ _ (second_mixed s) second.0 second.1) at c.in_ok-third.ensures in
    let last = rw (stage-is _ _ (third_mixed s) third.0 third.1) at c.in_ok-last.ensures in
    (c.turn.ensures ∙ ap (turned_block 2) last.0, last.1, last.2)
