use Rattle.std.proofs.Common.{◌≡◌, ℕ, ◌+◌, ◌-◌, ◌≤◌, [], length, ap, ◌∙◌, lit<, arith}
use Rattle.mask_circuit.specs.Netlist.{Netlist}
use Rattle.mask_circuit.specs.Expansion.{draws}
use Rattle.mask_tape.specs.Drawn.{left}
use Rattle.mask_eval.proofs.tests.output.Goals as goal

pub eval-requires : goal.eval-requires
eval-requires g c =
    let n : g.row.N - 1 + 1 ≡ g.row.N = omega arith in
    let drawn : c.draws-draws.result ≡ draws c.circuit-circuit.result.now g.row.N =
    c.draws-draws.ensures.bits ∙ ap (λ (m : ℕ). draws c.circuit-circuit.result.now m) n in
    let same : draws c.circuit-circuit.result.now g.row.N ≡ draws c.in_ok-admitted.admitted g.row.N =
    ap (λ (net : Netlist). draws net g.row.N) c.circuit-circuit.ensures.same in
    let unused : c.in_ok-coins.coins.used ≡ 0 = c.in_ok-coins.ensures.unused in
    let count : length c.in_ok-coins.coins.words ≡ c.draws-draws.result = c.in_ok-coins.ensures.drawn.spread.count in
    let circuit = c.in_ok-admitted.admitted in
    let fits = c.set-2.ensures.fits circuit (c.set.ensures.fits circuit c.in_ok-frame.ensures.fits) in
    let few : draws c.in_ok-admitted.admitted g.row.N ≤ left c.in_ok-coins.coins = omega arith in
    (lit< tt, (c.requires.some, (c.requires.few, (c.requires.some_lanes, (c.requires.few_lanes, (fits, (few, ([], tt))))))))

pub finish-requires : goal.finish-requires
finish-requires g c =
    let n : g.row.N - 1 + 1 ≡ g.row.N = omega arith in
    let drawn : c.draws-draws.result ≡ draws c.circuit-circuit.result.now g.row.N =
    c.draws-draws.ensures.bits ∙ ap (λ (m : ℕ). draws c.circuit-circuit.result.now m) n in
    let same : draws c.circuit-circuit.result.now g.row.N ≡ draws c.in_ok-admitted.admitted g.row.N =
    ap (λ (net : Netlist). draws net g.row.N) c.circuit-circuit.ensures.same in
    let unused : c.in_ok-coins.coins.used ≡ 0 = c.in_ok-coins.ensures.unused in
    let count : length c.in_ok-coins.coins.words ≡ c.draws-draws.result = c.in_ok-coins.ensures.drawn.spread.count in
    let words : length c.eval.new.coins.words ≡ length c.in_ok-coins.coins.words = ap length c.eval.ensures.same in
    let spent = c.eval.ensures.spent in
    omega arith
