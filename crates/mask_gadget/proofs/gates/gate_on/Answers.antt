use Rattle.std.proofs.Common.{◌≡◌, ℕ, ◌<◌, Bool, true, false, cond, ◌==◌, List, [], length, map, get_or, refl, sym, ap, ◌∙◌, arith}
use Rattle.std.proofs.lemmas.List.{get_or-map}
use Rattle.mask_circuit.specs.declared.gates.Gate.TheVariants.{Zero, One, Xor, Not}
use Rattle.mask_circuit.specs.Ring.{words}
use Rattle.mask_circuit.specs.declared.gates.Wire.TheVariants.{Share}
use Rattle.mask_circuit.specs.Wires.{on_first, gate_wire, gate_out}
use Rattle.mask_circuit.proofs.Places.{length-each}
use Rattle.mask_shares.specs.Sharing.{all_listed}
use Rattle.mask_shares.proofs.Lists.{each-same, map-each}
use Rattle.mask_tape.specs.Drawn.{ahead}
use Rattle.mask_gadget.specs.Wiring.{told_more}
use Rattle.mask_gadget.proofs.Sizes.{row_fits}
use Rattle.mask_gadget.proofs.gates.gate_on.Given as given
use Rattle.mask_gadget.proofs.gates.gate_on.Goals as goal

-- no share of the bit 0 is 1
none : (i : ℕ) → on_first words 0 i ≡ 0
none i = go words.nought (i == 0)
  where
    go : (x : ℕ) (first : Bool) → cond first x x ≡ x
    go x true = refl
    go x false = refl

-- the shares of an operand
operand : {A : Type 0} (carried : A → ℕ) (values : List (List A)) (u : ℕ) (x : List A) → u < length values → x ≡ get_or values u x →
    map carried x ≡ get_or (map (map carried) values) u []
operand carried values u x lt is = ap (map carried) is ∙ sym (get_or-map (map carried) values u x [] lt)

module _ (g : given.Over) where
  zero_shares : (c : goal.After-constant g) → map g.W.Wiring.carried c.constant.new.out
      ≡ gate_out words g.row.N Zero (all_listed words (map (map g.W.Wiring.carried) c.args.values.now)) (ahead 0 (g.W.Wiring.drawn c.args.coins.now))
  zero_shares c =
      c.constant.ensures.shares ∙ each-same (on_first words 0) (λ i. 0) g.row.N (λ i lt. none i)
      ∙ sym (map-each (gate_wire words g.row.N Zero (all_listed words (map (map g.W.Wiring.carried) c.args.values.now)) (ahead 0 (g.W.Wiring.drawn c.args.coins.now))) Share g.row.N)

  one_shares : (c : goal.After-constant-in-One g) → map g.W.Wiring.carried c.constant-in-One.new.out
      ≡ gate_out words g.row.N One (all_listed words (map (map g.W.Wiring.carried) c.args.values.now)) (ahead 0 (g.W.Wiring.drawn c.args.coins.now))
  one_shares c =
      c.constant-in-One.ensures.shares
      ∙ sym (map-each (gate_wire words g.row.N One (all_listed words (map (map g.W.Wiring.carried) c.args.values.now)) (ahead 0 (g.W.Wiring.drawn c.args.coins.now))) Share g.row.N)

  xor_shares : (c : goal.After-xor g) → map g.W.Wiring.carried c.xor.new.out
      ≡ gate_out words g.row.N (Xor c.in-Xor.u c.in-Xor.v) (all_listed words (map (map g.W.Wiring.carried) c.args.values.now)) (ahead 0 (g.W.Wiring.drawn c.args.coins.now))
  xor_shares c =
      let below = rw c.in-Xor.is at c.requires.operands in
      let u = operand g.W.Wiring.carried c.args.values.now c.in-Xor.u c.index-values-u.result below.0 c.index-values-u.is in
      let v = operand g.W.Wiring.carried c.args.values.now c.in-Xor.v c.index-values-v.result below.1 c.index-values-v.is in
      c.xor.ensures.shares ∙ rw (u, v) refl

  not_shares : (c : goal.After-not g) → map g.W.Wiring.carried c.not.new.out
      ≡ gate_out words g.row.N (Not c.in-Not.u) (all_listed words (map (map g.W.Wiring.carried) c.args.values.now)) (ahead 0 (g.W.Wiring.drawn c.args.coins.now))
  not_shares c =
      let below = rw c.in-Not.is at c.requires.operands in
      let u = operand g.W.Wiring.carried c.args.values.now c.in-Not.u c.index-values-u-in-Not.result below c.index-values-u-in-Not.is in
      c.not.ensures.shares ∙ rw u refl

pub constant-requires : goal.constant-requires
constant-requires g c =
    let room = rw c.in-Zero.is at c.requires.room in
    let count = length-each Share g.row.N in
    (row_fits g.row.N _ c.requires.few g.met.W.Wiring.small, (omega arith, (c.requires.few, omega arith)))

pub returns-in-Zero-clause-shares : goal.returns-in-Zero-clause-shares
returns-in-Zero-clause-shares g c = rw c.in-Zero.is (zero_shares g c)

pub returns-in-Zero-clause-told : goal.returns-in-Zero-clause-told
returns-in-Zero-clause-told g c = rw c.in-Zero.is (c.constant.ensures.told ∙ ap (told_more (g.W.Wiring.told c.args.wires.now)) (zero_shares g c))

pub returns-in-Zero-clause-room : goal.returns-in-Zero-clause-room
returns-in-Zero-clause-room g c = let count = length-each Share g.row.N in rw c.in-Zero.is (omega arith)

pub constant-requires-in-One : goal.constant-requires-in-One
constant-requires-in-One g c =
    let room = rw c.in-One.is at c.requires.room in
    let count = length-each Share g.row.N in
    (row_fits g.row.N _ c.requires.few g.met.W.Wiring.small, (omega arith, (c.requires.few, omega arith)))

pub returns-in-One-clause-shares : goal.returns-in-One-clause-shares
returns-in-One-clause-shares g c = rw c.in-One.is (one_shares g c)

pub returns-in-One-clause-told : goal.returns-in-One-clause-told
returns-in-One-clause-told g c = rw c.in-One.is (c.constant-in-One.ensures.told ∙ ap (told_more (g.W.Wiring.told c.args.wires.now)) (one_shares g c))

pub returns-in-One-clause-room : goal.returns-in-One-clause-room
returns-in-One-clause-room g c = let count = length-each Share g.row.N in rw c.in-One.is (omega arith)

pub xor-requires : goal.xor-requires
xor-requires g c =
    let room = rw c.in-Xor.is at c.requires.room in
    let count = length-each Share g.row.N in
    (row_fits g.row.N _ c.requires.few g.met.W.Wiring.small, (c.requires.few, omega arith))

pub returns-in-Xor-clause-shares : goal.returns-in-Xor-clause-shares
returns-in-Xor-clause-shares g c = rw c.in-Xor.is (xor_shares g c)

pub returns-in-Xor-clause-told : goal.returns-in-Xor-clause-told
returns-in-Xor-clause-told g c = rw c.in-Xor.is (c.xor.ensures.told ∙ ap (told_more (g.W.Wiring.told c.args.wires.now)) (xor_shares g c))

pub returns-in-Xor-clause-room : goal.returns-in-Xor-clause-room
returns-in-Xor-clause-room g c = let count = length-each Share g.row.N in rw c.in-Xor.is (omega arith)

pub not-requires : goal.not-requires
not-requires g c =
    let room = rw c.in-Not.is at c.requires.room in
    let count = length-each Share g.row.N in
    (row_fits g.row.N _ c.requires.few g.met.W.Wiring.small, (omega arith, (c.requires.few, omega arith)))

pub returns-in-Not-clause-shares : goal.returns-in-Not-clause-shares
returns-in-Not-clause-shares g c = rw c.in-Not.is (not_shares g c)

pub returns-in-Not-clause-told : goal.returns-in-Not-clause-told
returns-in-Not-clause-told g c = rw c.in-Not.is (c.not.ensures.told ∙ ap (told_more (g.W.Wiring.told c.args.wires.now)) (not_shares g c))

pub returns-in-Not-clause-room : goal.returns-in-Not-clause-room
returns-in-Not-clause-room g c = let count = length-each Share g.row.N in rw c.in-Not.is (omega arith)

pub product-requires : goal.product-requires
product-requires g c =
    let room = rw c.in-And.is at c.requires.room in
    let coins = rw c.in-And.is at c.requires.coins in
    (row_fits g.row.N _ c.requires.few g.met.W.Wiring.small, (c.requires.some, (c.requires.few, (coins, room))))

pub returns-in-And-clause-shares : goal.returns-in-And-clause-shares
returns-in-And-clause-shares g c =
    let below = rw c.in-And.is at c.requires.operands in
    let u = operand g.W.Wiring.carried c.args.values.now c.in-And.u c.index-values-u-in-And.result below.0 c.index-values-u-in-And.is in
    let v = operand g.W.Wiring.carried c.args.values.now c.in-And.v c.index-values-v-in-And.result below.1 c.index-values-v-in-And.is in
    rw c.in-And.is (c.product.ensures.shares ∙ rw (u, v) refl)

pub returns-in-And-clause-told : goal.returns-in-And-clause-told
returns-in-And-clause-told g c =
    let below = rw c.in-And.is at c.requires.operands in
    let u = operand g.W.Wiring.carried c.args.values.now c.in-And.u c.index-values-u-in-And.result below.0 c.index-values-u-in-And.is in
    let v = operand g.W.Wiring.carried c.args.values.now c.in-And.v c.index-values-v-in-And.result below.1 c.index-values-v-in-And.is in
    rw c.in-And.is (c.product.ensures.told ∙ rw (u, v) refl)

pub refresh-requires : goal.refresh-requires
refresh-requires g c =
    let room = rw c.in-Ref.is at c.requires.room in
    let coins = rw c.in-Ref.is at c.requires.coins in
    (row_fits g.row.N _ c.requires.few g.met.W.Wiring.small, (c.requires.some, (c.requires.few, (coins, room))))

pub returns-in-Ref-clause-shares : goal.returns-in-Ref-clause-shares
returns-in-Ref-clause-shares g c =
    let below = rw c.in-Ref.is at c.requires.operands in
    let u = operand g.W.Wiring.carried c.args.values.now c.in-Ref.u c.index-values-u-in-Ref.result below c.index-values-u-in-Ref.is in
    rw c.in-Ref.is (c.refresh.ensures.shares ∙ rw u refl)

pub returns-in-Ref-clause-told : goal.returns-in-Ref-clause-told
returns-in-Ref-clause-told g c =
    let below = rw c.in-Ref.is at c.requires.operands in
    let u = operand g.W.Wiring.carried c.args.values.now c.in-Ref.u c.index-values-u-in-Ref.result below c.index-values-u-in-Ref.is in
    rw c.in-Ref.is (c.refresh.ensures.told ∙ rw u refl)
