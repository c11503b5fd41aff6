use Rattle.mask_present.proofs.Encrypting.{number-rounds, KeepsTidy-rounds}
use Rattle.mask_present.proofs.rounds.present_rounds.Goals as goal

pub returns-clause-plain : goal.returns-clause-plain
returns-clause-plain c =
    λ x inputs. number-rounds c.args.size c.args.b.now c.encrypted.new.b c.args.key.now c.args.state.now _ c.requires.width c.told-state
    c.requires.key_known c.requires.state_known c.values-values.ensures.circuit.formed.gates c.in_ok-encrypted.ensures.1 c.in_ok-encrypted.ensures.0 x inputs

pub returns-clause-tidy : goal.returns-clause-tidy
returns-clause-tidy c =
    KeepsTidy-rounds c.args.size c.args.b.now c.encrypted.new.b c.args.key.now c.args.state.now _ c.requires.width c.told-state
    c.requires.key_known c.requires.state_known c.values-values.ensures.circuit.formed.gates c.in_ok-encrypted.ensures.1 c.in_ok-encrypted.ensures.0
