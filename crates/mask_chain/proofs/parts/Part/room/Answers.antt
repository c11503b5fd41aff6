use Rattle.std.proofs.Common.{◌≡◌, ℕ, ◌+◌, ◌-◌, length, ap, ap₂, sym, ◌∙◌, arith}
use Rattle.mask_circuit.specs.Netlist.{Netlist}
use Rattle.mask_tape.specs.Drawn.{Amount}
use Rattle.mask_eval.specs.Evaluated.{coin_count}
use Rattle.mask_chain.proofs.Evaluated.{stretch_is}
use Rattle.mask_chain.proofs.parts.Part.room.Goals as goal

pub returns-clause-coins : goal.returns-clause-coins
returns-clause-coins g c =
    let amount : ℕ → Amount = λ (n : ℕ). record { lanes = 1; bits = n } in
    let order : g.row.N - 1 + 1 ≡ g.row.N = let some = c.requires.some in omega arith in
    c.in_ok-coins.ensures
    ∙ ap₂ (λ (circuit : Netlist) (n : ℕ). amount (coin_count circuit n (length c.args.own.now.message.now)))
    (c.admitted-admitted.ensures.same ∙ c.self.view_is) order
    ∙ ap amount (sym (stretch_is g.row.N c.args.self.now c.args.own.now))
