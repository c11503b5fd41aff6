use Rattle.mask_text.proofs.Arms.{few_inputs, before_gates, known_gate, few_outputs, known_out, took_first, took_second, took_inputs, took_input, took_gate, took_output, took_out}
use Rattle.mask_text.proofs.reader.Reader.apply.Goals as goal

pub set_inputs-requires-clause-few : goal.set_inputs-requires-clause-few
set_inputs-requires-clause-few c = few_inputs c.args.self.now c.args.said c.requires.reading c.requires.follows c.requires.right _ c.in-Inputs.is

pub add_input-requires-clause-no_gates : goal.add_input-requires-clause-no_gates
add_input-requires-clause-no_gates c = (before_gates c.args.self.now c.args.said c.requires.reading c.requires.follows c.requires.right _ _
    c.in-Input.is).gates

pub add_input-requires-clause-no_outputs : goal.add_input-requires-clause-no_outputs
add_input-requires-clause-no_outputs c = (before_gates c.args.self.now c.args.said c.requires.reading c.requires.follows c.requires.right _
    _ c.in-Input.is).outputs

pub add_input-requires-clause-few : goal.add_input-requires-clause-few
add_input-requires-clause-few c = (before_gates c.args.self.now c.args.said c.requires.reading c.requires.follows c.requires.right _ _
    c.in-Input.is).few

pub add_gate-requires : goal.add_gate-requires
add_gate-requires c = record { known = known_gate c.args.self.now c.args.said c.requires.reading c.requires.follows c.requires.right _ c.in-Makes.is }

pub add_output-requires-clause-few : goal.add_output-requires-clause-few
add_output-requires-clause-few c = few_outputs c.args.self.now c.args.said c.requires.reading c.requires.follows c.requires.right _ _ c.in-Output.is

pub add_out-requires : goal.add_out-requires
add_out-requires c = record { known = known_out c.args.self.now c.args.said c.requires.reading c.requires.follows c.requires.right _ c.in-Out.is }

pub returns-in-First : goal.returns-in-First
returns-in-First c = took_first c.args.self.now c.args.said c.requires.reading c.requires.follows c.requires.right c.in-First.is

pub returns-in-Second : goal.returns-in-Second
returns-in-Second c = took_second c.args.self.now c.args.said c.requires.reading c.requires.follows c.requires.right c.in-Second.is

pub returns-in_ok-set_inputs-in-Inputs : goal.returns-in_ok-set_inputs-in-Inputs
returns-in_ok-set_inputs-in-Inputs c = took_inputs c.args.self.now c.args.said c.requires.reading c.requires.follows c.requires.right _
    c.set_inputs.new.self c.in-Inputs.is c.in_ok-set_inputs-in-Inputs.ensures

pub returns-in_ok-add_input-in-Input : goal.returns-in_ok-add_input-in-Input
returns-in_ok-add_input-in-Input c =
    took_input c.args.self.now c.args.said c.requires.reading c.requires.follows c.requires.right _ _ c.add_input.new.self c.in-Input.is
    c.in_ok-add_input-in-Input.ensures.added c.in_ok-add_input-in-Input.ensures.section c.in_ok-add_input-in-Input.ensures.promised

pub returns-in_ok-add_gate-in-Makes : goal.returns-in_ok-add_gate-in-Makes
returns-in_ok-add_gate-in-Makes c =
    took_gate c.args.self.now c.args.said c.requires.reading c.requires.follows c.requires.right _ c.add_gate.new.self c.in-Makes.is
    c.in_ok-add_gate-in-Makes.ensures.added c.in_ok-add_gate-in-Makes.ensures.section c.in_ok-add_gate-in-Makes.ensures.promised

pub returns-in_ok-add_output-in-Output : goal.returns-in_ok-add_output-in-Output
returns-in_ok-add_output-in-Output c =
    took_output c.args.self.now c.args.said c.requires.reading c.requires.follows c.requires.right _ _ c.add_output.new.self c.in-Output.is
    c.in_ok-add_output-in-Output.ensures.added c.in_ok-add_output-in-Output.ensures.section c.in_ok-add_output-in-Output.ensures.promised

pub returns-in_ok-add_out-in-Out : goal.returns-in_ok-add_out-in-Out
returns-in_ok-add_out-in-Out c =
    took_out c.args.self.now c.args.said c.requires.reading c.requires.follows c.requires.right _ c.add_out.new.self c.in-Out.is
    c.in_ok-add_out-in-Out.ensures.added c.in_ok-add_out-in-Out.ensures.section c.in_ok-add_out-in-Out.ensures.promised
