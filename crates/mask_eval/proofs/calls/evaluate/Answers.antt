use Rattle.std.proofs.Common.{◌≡◌, ℕ, ◌-◌, ◌*◌, List, length, map, take, drop, ap, ap₂, subst, ◌∙◌, arith}
use Rattle.std.specs.List.{concat}
use Rattle.mask_bits.specs.Lanes.{lane}
use Rattle.mask_circuit.specs.Ring.{bits, words}
use Rattle.mask_circuit.specs.Value.{plain}
use Rattle.mask_circuit.specs.Expansion.{draws, outs}
use Rattle.mask_shares.specs.Sharing.{all_listed, unmasked}
use Rattle.mask_tape.specs.Drawn.{Amount, ahead}
use Rattle.mask_tape.specs.Tape.{IsDrawn}
use Rattle.mask_eval.specs.Frames.{input_values}
use Rattle.mask_eval.specs.Watching.{reports, told_more}
use Rattle.mask_eval.specs.Evaluated.{inputs_of, coins_behind}
use Rattle.mask_eval.proofs.calls.evaluate.Goals as goal

pub returns-clause-evaluates : goal.returns-clause-evaluates
returns-clause-evaluates g c =
    let circuit = c.args.circuit.now in
    let coins : List ℕ = c.in-Ok.coins.words in
    let kept = c.args.tape.now in
    let spent : c.set_inputs.new.coins.used ≡ (g.row.N - 1) * length c.args.plain.now = omega (arith, c.in-Ok.ensures.unused) in
    let inputs : input_values c.set_inputs.new.frame ≡ inputs_of g.row.N c.args.before.now c.args.plain.now c.args.behind.now c.in-Ok.coins.words =
    c.set_inputs.ensures.values
    ∙ ap (λ (n : ℕ). inputs_of g.row.N c.args.before.now c.args.plain.now c.args.behind.now (drop n c.in-Ok.coins.words)) c.in-Ok.ensures.unused in
    let behind : ahead (draws c.args.circuit.now g.row.N) c.set_inputs.new.coins
    ≡ coins_behind c.args.circuit.now g.row.N (length c.args.plain.now) c.in-Ok.coins.words =
    ap₂ (λ (n : ℕ) (ws : List ℕ). take (draws c.args.circuit.now g.row.N) (drop n ws)) spent c.set_inputs.ensures.same in
    record {
      coins = coins;
      drawn = subst (λ (a : Amount). IsDrawn kept c.draw.new.self (g.E.Entropy.left c.args.entropy.now) (g.E.Entropy.left c.draw.new.entropy) a.lanes a.bits coins)
          c.requires.room c.in-Ok.ensures.drawn;
      on_words =
          c.eval.ensures.words
          ∙ ap₂ (λ (vs : List (List ℕ)) (r : List ℕ). outs words c.args.circuit.now g.row.N (all_listed words vs) r) inputs behind;
      on_bits = λ l lt.
          c.eval.ensures.shares l lt
          ∙ ap₂ (λ (vs : List (List ℕ)) (r : List ℕ). outs bits c.args.circuit.now g.row.N (all_listed bits (map (lane l) vs)) (lane l r)) inputs behind;
      unmasked_are = λ l lt.
          c.eval.ensures.plain l lt ∙ ap (λ (vs : List (List ℕ)). plain c.args.circuit.now (map (λ v. unmasked bits (lane l v)) vs)) inputs;
      tells =
          c.eval.ensures.told
          ∙ ap₂ (λ (vs : List (List ℕ)) (r : List ℕ). told_more (g.W.Watch.told c.args.watch.now)
          (reports c.args.circuit.now (g.row.N - 1) (concat vs) r (concat c.eval.new.frame.outputs) c.args.lanes)) inputs behind;
    }
