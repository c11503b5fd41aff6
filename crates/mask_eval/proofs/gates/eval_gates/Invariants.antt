use Rattle.std.proofs.Common.{◌≡◌, ◌+◌, ◌≤◌, length, map, take, drop, sum_by}
use Rattle.mask_circuit.specs.Ring.{words}
use Rattle.mask_circuit.specs.Wires.{gate_draws, gate_names}
use Rattle.mask_circuit.specs.Netlist.{AreGates}
use Rattle.mask_circuit.specs.Expansion.{start, run, shares_of}
use Rattle.mask_shares.specs.Sharing.{all_listed}
use Rattle.mask_gadget.specs.Wiring.{told_more}
use Rattle.mask_laws.specs.Sharing.{SameShares}
use Rattle.mask_eval.specs.Telling.{wires_from}
use Rattle.mask_eval.proofs.gates.eval_gates.Given as goal

-- the gates that are left, on the values so far, give the shares that all gates give, and tell what all gates tell
abbrev pub invariant-loop-k : goal.invariant-loop-k
invariant-loop-k g l = record {
  shares : SameShares g.row.N (length l.fn.values)
      (shares_of (run words g.row.N (drop l.k l.gates) (l.inputs + l.k) (start words (all_listed words (map (map g.W.Wiring.carried) l.values)))
      (drop (g.W.Wiring.drawn l.coins).used (g.W.Wiring.drawn l.coins).words)))
      (shares_of (run words g.row.N l.gates l.inputs (start words (all_listed words (map (map g.W.Wiring.carried) l.fn.values)))
      (drop (g.W.Wiring.drawn l.fn.coins).used (g.W.Wiring.drawn l.fn.coins).words)));
  told : told_more (g.W.Wiring.told l.wires)
      (wires_from words g.row.N (drop l.k l.gates) (l.inputs + l.k) (start words (all_listed words (map (map g.W.Wiring.carried) l.values)))
      (drop (g.W.Wiring.drawn l.coins).used (g.W.Wiring.drawn l.coins).words))
      ≡ told_more (g.W.Wiring.told l.fn.wires)
      (wires_from words g.row.N l.gates l.inputs (start words (all_listed words (map (map g.W.Wiring.carried) l.fn.values)))
      (drop (g.W.Wiring.drawn l.fn.coins).used (g.W.Wiring.drawn l.fn.coins).words));
  gates : AreGates (l.inputs + l.k) (drop l.k l.gates);
  inputs : take l.inputs l.values ≡ take l.inputs l.fn.values;
  room : g.W.Wiring.room l.fn.wires + sum_by (λ g'. length (gate_names g.row.N g')) (drop l.k l.gates)
      ≤ g.W.Wiring.room l.wires + sum_by (λ g'. length (gate_names g.row.N g')) l.gates;
  forward : (g.W.Wiring.drawn l.fn.coins).used ≤ (g.W.Wiring.drawn l.coins).used;
  spent : (g.W.Wiring.drawn l.coins).used + sum_by (gate_draws g.row.N) (drop l.k l.gates)
      ≡ (g.W.Wiring.drawn l.fn.coins).used + sum_by (gate_draws g.row.N) l.gates;
  same : (g.W.Wiring.drawn l.coins).words ≡ (g.W.Wiring.drawn l.fn.coins).words;
  steps : l.steps ≡ l.fn.steps + l.k;
}
