use Rattle.std.proofs.Common.{◌≡◌, ℕ, ◌+◌, List, [], ◌∷◌, Ok, Err, refl, ap, sym, ◌∙◌, subst, arith}
use Rattle.mask_circuit.specs.declared.gates.Gate.{Gate}
use Rattle.mask_circuit.specs.declared.gates.Gate.TheVariants.{Zero, One}
use Rattle.mask_circuit.specs.Netlist.{Netlist, value_count, only_inputs, with_gate}
use Rattle.mask_parts.specs.Drafts.{with_gates, Grows, IsWithinLimits}
use Rattle.mask_parts.proofs.Growing.{with_gates-with_gates, value_count-with_gates, Grows-refl, Grows-trans, Grows-with_gates}
use Rattle.mask_parts.proofs.Laying.{IsWithinLimits-circuit, Lays-from_gate, Lays-exit, Lays-last}
use Rattle.mask_lea.specs.Lea.{Schedule, schedule}
use Rattle.mask_lea.specs.NamedLea.{width, words_from, start}
use Rattle.mask_lea.specs.Rounds.{stage, with_rounds}
use Rattle.mask_lea.proofs.Calling.{IsKnown-fine}
use Rattle.mask_lea.proofs.Lengthening.{Lengthens-whole}
use Rattle.mask_lea.proofs.Starting.{IsFine-start}
use Rattle.mask_lea.proofs.circuits.lay_rounds.Goals as goal

-- a gate more is a list of one
one_gate : (c : Netlist) (g : Gate) → with_gate c g ≡ with_gates c (g ∷ [])
unfolding with_gates
one_gate c g = refl

-- the two constants make the start of the inputs
start_draft : (r : Schedule) (b : Netlist) → b ≡ only_inputs (width r + 256) → with_gates (with_gates b (Zero ∷ [])) (One ∷ []) ≡ (start r).draft
unfolding start
start_draft r b is = rw is (with_gates-with_gates (only_inputs (width r + 256)) (Zero ∷ []) (One ∷ []))

-- so it is with the draft d that was made so
module _ (r : Schedule) (b c d : Netlist) (nought one : ℕ) (is : b ≡ only_inputs (width r + 256)) (first : (nought ≡ value_count b) × (c ≡ with_gate b Zero)) (second : (one ≡ value_count c) × (d ≡ with_gate c One)) where
  made : d ≡ with_gates (with_gates b (Zero ∷ [])) (One ∷ [])
  made = second.1 ∙ one_gate c One ∙ ap (λ (e : Netlist). with_gates e (One ∷ [])) (first.1 ∙ one_gate b Zero)

  stage_start : (key counter : List (List ℕ)) → key ≡ words_from 0 r.words → counter ≡ words_from (width r) 4 → stage d nought one key counter ≡ start r
  stage_start key counter key_is counter_is =
      let zeroth : nought ≡ width r + 256 = rw is at first.0 ∙ omega arith in
      let next : one ≡ width r + 256 + 1 =
      second.0 ∙ ap (λ (e : Netlist). value_count e) (first.1 ∙ one_gate b Zero) ∙ value_count-with_gates b (Zero ∷ []) ∙ ap (λ (e : Netlist). value_count e + 1) is ∙ omega arith in
      rw (made ∙ start_draft r b is, zeroth, next, key_is, counter_is) (unfold stage start in refl)

  begun : Grows b d
  begun = rw made (Grows-trans b (with_gates b (Zero ∷ [])) _ (Grows-with_gates b (Zero ∷ [])) (Grows-with_gates (with_gates b (Zero ∷ [])) (One ∷ [])))

-- the constants grow into the whole
left : (r : Schedule) (b : Netlist) → b ≡ only_inputs (width r + 256) → Grows (with_gates (with_gates b (Zero ∷ [])) (One ∷ [])) (with_rounds r (start r)).draft
left r b is = rw (start_draft r b is) (Lengthens-whole r (start r))

pub returns-in_err-zero : goal.returns-in_err-zero
returns-in_err-zero c =
    let b = c.args.b.now in
    let e = c.in_err-zero.field-0.0 in
    let refused = c.in_err-zero.ensures in
    Lays-exit b b (with_gates b (Zero ∷ [])) _ _ _ _ e c.from_residual.ensures.1 (Grows-refl b)
    (Grows-trans _ _ _ (Grows-with_gates (with_gates b (Zero ∷ [])) (One ∷ [])) (left (schedule c.args.size) b c.requires.inputs))
    (Lays-from_gate b Zero c.zero.new.self (Err e) (IsWithinLimits-circuit b c.values-values.ensures.circuit) refused.made refused.full refused.same)

pub returns-in_err-one : goal.returns-in_err-one
returns-in_err-one c =
    let b = c.args.b.now in
    let e = c.in_err-one.field-0.0 in
    let told = c.in_ok-zero.ensures in
    let refused = c.in_err-one.ensures in
    let first = Lays-from_gate b Zero c.zero.new.self (Ok c.in_ok-zero.zero) (IsWithinLimits-circuit b c.values-values.ensures.circuit) told.made told.full told.same in
    let within : IsWithinLimits c.zero.new.self = subst IsWithinLimits (sym first.1) first.2 in
    Lays-exit b c.zero.new.self (with_gates c.zero.new.self (One ∷ [])) _ _ _ _ e c.from_residual-in_err-one.ensures.1 (subst (Grows b) (sym first.1) (Grows-with_gates b (Zero ∷ [])))
    (rw first.1 (left (schedule c.args.size) b c.requires.inputs))
    (Lays-from_gate c.zero.new.self One c.one.new.self (Err e) within refused.made refused.full refused.same)

pub encrypt-requires : goal.encrypt-requires
encrypt-requires c =
    let r = schedule c.args.size in
    let is = stage_start (schedule c.args.size) c.args.b.now c.zero.new.self c.one.new.self c.in_ok-zero.zero c.in_ok-one.one c.requires.inputs c.in_ok-zero.ensures.made c.in_ok-one.ensures.made
    c.args.key.now c.args.counter.now c.requires.first c.requires.second in
    let known = IsKnown-fine r 4 c.one.new.self c.in_ok-zero.zero c.in_ok-one.one c.args.key.now c.args.counter.now (rw is (IsFine-start ⊥ r)) in
    record {
      width = known.width;
      key_known = known.key_known;
      block_known = known.block_known;
      zero_known = known.nought_known;
      one_known = known.one_known;
    }

pub returns : goal.returns
returns c =
    let is = stage_start (schedule c.args.size) c.args.b.now c.zero.new.self c.one.new.self c.in_ok-zero.zero c.in_ok-one.one c.requires.inputs c.in_ok-zero.ensures.made c.in_ok-one.ensures.made
    c.args.key.now c.args.counter.now c.requires.first c.requires.second in
    Lays-last c.args.b.now c.one.new.self _ _ _ _ _ _
    (begun (schedule c.args.size) c.args.b.now c.zero.new.self c.one.new.self c.in_ok-zero.zero c.in_ok-one.one c.requires.inputs c.in_ok-zero.ensures.made c.in_ok-one.ensures.made)
    refl refl (rw is at c.encrypt.ensures)
