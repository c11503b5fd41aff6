use Rattle.std.proofs.Common.{ℕ, suc, ◌-◌, List, length, map, get_or, refl, arith, ◌∙◌, ap, sym}
use Rattle.std.proofs.lemmas.List.{length-map}
use Rattle.mask_circuit.specs.Ring.{words}
use Rattle.mask_circuit.specs.declared.gates.Wire.{Wire}
use Rattle.mask_circuit.specs.declared.gates.Wire.TheVariants.{Share}
use Rattle.mask_circuit.specs.Wires.{refresh_wire}
use Rattle.mask_shares.specs.Sharing.{listed}
use Rattle.mask_shares.proofs.Lists.{is_each, map-each}
use Rattle.mask_gadget.specs.Wiring.{told_more}
use Rattle.mask_gadget.specs.Gadgets.{pair_coin, update_row}
use Rattle.mask_circuit.proofs.PairNumbers.{length-pairs, pairs_before-all, pairs_before-more}
use Rattle.mask_gadget.proofs.Pairs.{row_within, next_row}
use Rattle.mask_gadget.proofs.Refreshes.{none_done, all_done, all_updates, refresh_count}
use Rattle.mask_gadget.proofs.Sizes.{row_fits}
use Rattle.mask_gadget.proofs.Telling.{told_more-none, told_joined}
use Rattle.mask_gadget.proofs.refresh.refresh.Goals as goal

pub loop-i-init : goal.loop-i-init
loop-i-init g c = record {
  told = told_more-none (g.W.Wiring.told c.args.wires.now);
  room = omega arith;
  at = record { same = refl; used = omega arith };
  parts = none_done g.row.N (listed words (map g.W.Wiring.carried c.args.x.now)) (pair_coin g.row.N (g.W.Wiring.drawn c.args.coins.now)) (map g.W.Wiring.carried c.copy_shares.new.out)
      (length-map c.copy_shares.new.out g.W.Wiring.carried ∙ ap length c.copy_shares.ensures ∙ c.told-x)
      (λ k. ap (λ (ws : List g.row.W-Word.Denot). get_or (map g.W.Wiring.carried ws) k 0) c.copy_shares.ensures);
}

pub add_to_row-requires : goal.add_to_row-requires
add_to_row-requires g c =
    let within = row_within g.row.N c.loop-i.i (omega arith) in
    let all = length-pairs g.row.N in
    let same = ap length c.loop-i.invariant.at.same in
    let used = c.loop-i.invariant.at.used in
    let count = refresh_count g.row.N in
    (row_fits g.row.N _ c.requires.few g.met.W.Wiring.small, (c.requires.few, (omega arith, (omega arith, omega arith))))

pub loop-i-preserved : goal.loop-i-preserved
loop-i-preserved g c =
    let W = g.W.Wiring in
    let a : ℕ → ℕ = listed words (map g.W.Wiring.carried c.args.x.now) in
    let first = g.W.Wiring.drawn c.args.coins.now in
    record {
      told = told_joined (refresh_wire words g.row.N a (pair_coin g.row.N first)) (λ k. update_row g.row.N k (g.row.N - suc k)) (W.told c.args.wires.now)
          (W.told c.loop-i.wires) _ c.loop-i.i c.loop-i.invariant.told (c.add_to_row.ensures.told a first c.loop-i.invariant.at c.loop-i.invariant.parts);
      room = let more = pairs_before-more g.row.N c.loop-i.i in omega arith;
      at = next_row g.row.N c.loop-i.i first (W.drawn c.loop-i.coins) _ c.loop-i.invariant.at c.add_to_row.ensures.same c.add_to_row.ensures.spent;
      parts = c.add_to_row.ensures.parts a first c.loop-i.invariant.at c.loop-i.invariant.parts;
    }

pub returns-clause-shares : goal.returns-clause-shares
returns-clause-shares g c =
    let a : ℕ → ℕ = listed words (map g.W.Wiring.carried c.args.x.now) in
    let r : ℕ → ℕ → ℕ = pair_coin g.row.N (g.W.Wiring.drawn c.args.coins.now) in
    let W : Wire → ℕ = refresh_wire words g.row.N a r in
    let parts = map g.W.Wiring.carried c.loop-i.out in
    is_each (λ k. W (Share k)) g.row.N parts c.loop-i.invariant.parts.count (all_done g.row.N a r c.loop-i.i parts (omega arith) (omega arith) c.loop-i.invariant.parts)
    ∙ sym (map-each W Share g.row.N)

pub returns-clause-told : goal.returns-clause-told
returns-clause-told g c =
    let W : Wire → ℕ = refresh_wire words g.row.N (listed words (map g.W.Wiring.carried c.args.x.now)) (pair_coin g.row.N (g.W.Wiring.drawn c.args.coins.now)) in
    c.loop-i.invariant.told ∙ ap (told_more (g.W.Wiring.told c.args.wires.now)) (all_updates g.row.N W _ c.loop-i.i (omega arith) refl)

pub returns-clause-room : goal.returns-clause-room
returns-clause-room g c =
    let all = pairs_before-all g.row.N c.loop-i.i (omega arith) in
    let count = refresh_count g.row.N in
    omega arith

pub returns-clause-spent : goal.returns-clause-spent
returns-clause-spent g c = let all = pairs_before-all g.row.N c.loop-i.i (omega arith) in omega (arith, c.loop-i.invariant.at.used)
