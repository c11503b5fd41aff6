use Rattle.std.proofs.Common.{◌≡◌, ℕ, ◌+◌, ◌≤◌, List, length, map, sum_by, sym, ap, ap₂, subst, ◌∙◌, arith}
use Rattle.mask_circuit.specs.declared.gates.Gate.{Gate}
use Rattle.mask_circuit.specs.Netlist.{Netlist, AreGates}
use Rattle.mask_circuit.specs.Ring.{words}
use Rattle.mask_circuit.specs.declared.gates.Wire.TheVariants.{Share}
use Rattle.mask_circuit.specs.Wires.{gate_draws, gate_names}
use Rattle.mask_circuit.specs.Expansion.{start, run}
use Rattle.mask_shares.specs.Sharing.{all_listed}
use Rattle.mask_tape.specs.Drawn.{ahead, left as left_of}
use Rattle.mask_gadget.specs.Wiring.{told_more}
use Rattle.mask_gadget.proofs.Sizes.{row_fits}
use Rattle.mask_eval.specs.Telling.{wires_from}
use Rattle.mask_eval.proofs.Told.{all_told, wires_within}
use Rattle.mask_eval.proofs.gates.eval_on.Given as given
use Rattle.mask_eval.proofs.gates.eval_on.Goals as goal

module _ (g : given.Over) (c : goal.After-values-1 g) where
  inputs_are : c.inputs-inputs.result ≡ c.args.circuit.now.inputs
  inputs_are = c.inputs-inputs.ensures ∙ ap (λ (n : Netlist). n.inputs) c.circuit-circuit.ensures.same

  gates_are : c.gates.result.now ≡ c.args.circuit.now.gates
  gates_are = c.gates.ensures.same ∙ ap (λ (n : Netlist). n.gates) c.circuit-circuit.ensures.same

pub eval_gates-requires : goal.eval_gates-requires
eval_gates-requires g c =
    let N = g.row.N in
    let circuit = c.args.circuit.now in
    let inputs : c.inputs-inputs.result ≡ c.args.circuit.now.inputs = c.inputs-inputs.ensures ∙ ap (λ (n : Netlist). n.inputs) c.circuit-circuit.ensures.same in
    let gates : c.gates.result.now ≡ c.args.circuit.now.gates = c.gates.ensures.same ∙ ap (λ (n : Netlist). n.gates) c.circuit-circuit.ensures.same in
    let are : AreGates c.inputs-inputs.result c.gates.result.now =
    subst (λ (n : ℕ). AreGates n c.gates.result.now) (sym inputs) (subst (AreGates c.args.circuit.now.inputs) (sym gates) c.circuit-circuit.ensures.circuit.formed.gates) in
    let values : length c.args.values.now ≡ c.inputs-inputs.result + length c.gates.result.now = rw (inputs, gates) c.requires.values in
    let coins : sum_by (gate_draws g.row.N) c.gates.result.now ≤ left_of (g.W.Wiring.drawn c.args.coins.now) = rw gates c.requires.coins in
    let most : sum_by (λ g'. length (gate_names g.row.N g')) c.args.circuit.now.gates ≤ g.W.Wiring.room c.args.wires.now =
    let within = wires_within c.args.circuit.now g.row.N in omega arith in
    let room : sum_by (λ g'. length (gate_names g.row.N g')) c.gates.result.now ≤ g.W.Wiring.room c.args.wires.now = rw gates most in
    (row_fits N _ c.requires.few g.met.W.Wiring.small, (c.requires.some, (c.requires.few, (are, (values, (coins, room))))))

pub returns-clause-shares : goal.returns-clause-shares
returns-clause-shares g c u i lu li =
    c.eval_gates.ensures.shares u i (omega arith) li
    ∙ ap₂ (λ (n : ℕ) (gs : List Gate). run words g.row.N gs n (start words (all_listed words (map (map g.W.Wiring.carried) c.args.values.now)))
    (ahead (sum_by (gate_draws g.row.N) gs) (g.W.Wiring.drawn c.args.coins.now)) u (Share i)) (inputs_are g c) (gates_are g c)

pub returns-clause-told : goal.returns-clause-told
returns-clause-told g c =
    let told : ℕ → List Gate → List ℕ = λ n gs. wires_from words g.row.N gs n (start words (all_listed words (map (map g.W.Wiring.carried) c.args.values.now)))
    (ahead (sum_by (gate_draws g.row.N) gs) (g.W.Wiring.drawn c.args.coins.now)) in
    c.eval_gates.ensures.told
    ∙ ap (told_more (g.W.Wiring.told c.args.wires.now))
    (ap₂ told (inputs_are g c) (gates_are g c) ∙ sym (all_told words g.row.N c.args.circuit.now _ _))

pub returns-clause-room : goal.returns-clause-room
returns-clause-room g c =
    let within = wires_within c.args.circuit.now g.row.N in
    let gates = ap (sum_by (λ g'. length (gate_names g.row.N g'))) (gates_are g c) in
    omega arith
