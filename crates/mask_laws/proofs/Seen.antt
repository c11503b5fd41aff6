-- What the probes of a whole circuit see, by names and by places.
use Rattle.std.proofs.Common.{◌≡◌, ℕ, zero, suc, ◌<◌, ◌≤◌, Bool, false, cond, List, [], ◌∷◌, length, map, All, Contains, slice_index_or, refl, ap, ap₂, sym, ◌∙◌, arith}
use Rattle.std.proofs.lemmas.List.Elements.{All-head, All-tail, All-contains, Contains-get_or, All-map, All-weaker}
use Rattle.std.proofs.lemmas.Bool.{false≢true}
use Rattle.mask_circuit.specs.Netlist.{Netlist, AreGates, value_count}
use Rattle.mask_circuit.specs.Ring.{bits}
use Rattle.mask_circuit.specs.declared.gates.Wire.{Wire}
use Rattle.mask_circuit.specs.declared.gates.Wire.TheVariants.{Share}
use Rattle.mask_circuit.specs.Wires.{Shares}
use Rattle.mask_circuit.specs.Expansion.{CircuitWire, Carried, start, expand, draws, names, wire_count}
use Rattle.mask_circuit.specs.Probing.{seen, sum_over_tapes, same_bits, AgreeOn}
use Rattle.mask_circuit.specs.Need.{is_share, need_from, probes_at}
use Rattle.mask_circuit.specs.Shift.{shift, shift_from}
use Rattle.mask_laws.specs.Gadgets.{GateKeeps, MaskIsSymmetric}
use Rattle.mask_laws.specs.Circuits.{Fits, FittingIsSimulated, ShiftKeeps, ShiftReorders, ShiftReturns}
use Rattle.mask_laws.proofs.Tapes.{sum_over_tapes-same}
use Rattle.mask_laws.proofs.Probes.{probed_shares-from_Contains, need_from-probed}
use Rattle.mask_laws.proofs.Shifts.{sum_over_tapes-shift_from, length-shift_from, shift_from-back}
use Rattle.mask_laws.proofs.Keeping.{CarriedAgree, keeps_from}
use Rattle.mask_laws.proofs.CircuitNames.{IsNamedFrom, names-within, AreNamed-from_names}
use Rattle.mask_laws.proofs.Members.{map-same_in}

-- the shift by the names of probes
abbrev pub shift_by : Netlist → ℕ → (ℕ → Shares Bool) → (ℕ → Shares Bool) → List CircuitWire → List Bool → List Bool
shift_by c N x y P r = shift_from P N c.gates c.inputs (start bits x) (start bits y) r

-- what the probes of these names see
abbrev pub seen_by : Netlist → ℕ → (ℕ → Shares Bool) → List Bool → List CircuitWire → List Bool
seen_by c N x r P = map (λ p. expand bits c N x r p.0 p.1) P

-- before any gate there are shares alone
start-inner : (x y : ℕ → Shares Bool) (v : ℕ) (w : Wire) → is_share w ≡ false → start bits x v w ≡ start bits y v w
start-inner x y v (Share i) e = absurd (false≢true (sym e))
start-inner x y v w e = refl

-- On inputs that agree on the need of probes that fit, what is carried with a tape and with the shifted tape agrees on the
-- demanded shares and on the inner probes.
pub carried_agree : GateKeeps → (c : Netlist) (N : ℕ) (P : List CircuitWire) (x y : ℕ → Shares Bool) (r : List Bool) → 2 ≤ N → AreGates c.inputs c.gates →
    All (Contains (names c N)) P → Fits c N P → AgreeOn c N (need_from P c.gates c.inputs) x y → length r ≡ draws c N →
    CarriedAgree N P c.gates c.inputs (value_count c) (expand bits c N x r) (expand bits c N y (shift_by c N x y P r))
carried_agree keeps c N P x y r two are named fits agree long =
    keeps_from keeps N P c.gates c.inputs (start bits x) (start bits y) r two are (AreNamed-from_names c N P two named) fits long
    (record { shares = agree; inner = λ v w h k e. start-inner x y v w e })

-- where what is carried agrees on these, each probe carries the same
probe-same : (c : Netlist) (N : ℕ) (P : List CircuitWire) (t t' : Carried Bool) → 2 ≤ N → All (Contains (names c N)) P → CarriedAgree N P c.gates c.inputs (value_count c) t t' →
    (v : ℕ) (w : Wire) → Contains P (v, w) → t v w ≡ t' v w
probe-same c N P t t' two named agree v w k = go w k (All-contains (IsNamedFrom N 0 (value_count c)) (names c N) (v, w) (names-within c N two) (All-contains (Contains (names c N)) P (v, w) named k))
  where
    go : (w : Wire) → Contains P (v, w) → IsNamedFrom N 0 (value_count c) (v, w) → t v w ≡ t' v w
    go (Share i) k h = agree.shares v i h.1 h.2 (need_from-probed P c.gates c.inputs v i (probed_shares-from_Contains P v i k))
    go w k h = agree.inner v w h.1 k refl

-- so the probes see the same
pub seen_by-shift_by : GateKeeps → (c : Netlist) (N : ℕ) (P : List CircuitWire) (x y : ℕ → Shares Bool) (r : List Bool) → 2 ≤ N → AreGates c.inputs c.gates →
    All (Contains (names c N)) P → Fits c N P → AgreeOn c N (need_from P c.gates c.inputs) x y → length r ≡ draws c N →
    seen_by c N x r P ≡ seen_by c N y (shift_by c N x y P r) P
seen_by-shift_by keeps c N P x y r two are named fits agree long =
    map-same_in (λ p. expand bits c N x r p.0 p.1) (λ p. expand bits c N y (shift_by c N x y P r) p.0 p.1) P
    (λ p k. probe-same c N P (expand bits c N x r) (expand bits c N y (shift_by c N x y P r)) two named
    (carried_agree keeps c N P x y r two are named fits agree long) p.0 p.1 k)

-- and over all tapes any number of what they see has the same sum
pub sum_over_tapes-seen_by : GateKeeps → (c : Netlist) (N : ℕ) (P : List CircuitWire) (x y : ℕ → Shares Bool) → 2 ≤ N → AreGates c.inputs c.gates →
    All (Contains (names c N)) P → Fits c N P → AgreeOn c N (need_from P c.gates c.inputs) x y → (f : List Bool → ℕ) →
    sum_over_tapes (draws c N) (λ r. f (seen_by c N x r P)) ≡ sum_over_tapes (draws c N) (λ r. f (seen_by c N y r P))
sum_over_tapes-seen_by keeps c N P x y two are named fits agree f =
    sum_over_tapes-same (draws c N) _ _ (λ r long. ap f (seen_by-shift_by keeps c N P x y r two are named fits agree long))
    ∙ sum_over_tapes-shift_from P N c.gates c.inputs (start bits x) (start bits y) (λ r. f (seen_by c N y r P))

-- an element of a mapped list
slice_index_or-map : {A B : Type 0} (f : A → B) (xs : List A) (i : ℕ) (a : A) (b : B) → i < length xs → slice_index_or (map f xs) i b ≡ f (slice_index_or xs i a)
slice_index_or-map f [] i a b h = absurd (omega arith)
slice_index_or-map f (x ∷ xs) zero a b h = refl
slice_index_or-map f (x ∷ xs) (suc i) a b h = slice_index_or-map f xs i a b (omega arith)

-- what is seen at places is what is seen by their names
pub seen-probes_at : (c : Netlist) (N : ℕ) (x : ℕ → Shares Bool) (r : List Bool) (P : List ℕ) → All (λ p. p < wire_count c N) P →
    seen c N x r P ≡ seen_by c N x r (probes_at c N P)
seen-probes_at c N x r [] all = refl
seen-probes_at c N x r (p ∷ P) all =
    ap₂ (λ (b : Bool) (bs : List Bool). b ∷ bs)
    (slice_index_or-map (λ q. expand bits c N x r q.0 q.1) (names c N) p (0, Share 0) false (All-head (λ p. p < wire_count c N) p P all))
    (seen-probes_at c N x r P (All-tail (λ p. p < wire_count c N) p P all))

-- the names of places are names of the circuit
pub All-probes_at : (c : Netlist) (N : ℕ) (P : List ℕ) → All (λ p. p < wire_count c N) P → All (Contains (names c N)) (probes_at c N P)
All-probes_at c N P all =
    All-map (Contains (names c N)) (λ p. slice_index_or (names c N) p (0, Share 0)) P
    (All-weaker (λ p. p < wire_count c N) (λ p. Contains (names c N) (slice_index_or (names c N) p (0, Share 0)))
    (λ p h. Contains-get_or (names c N) p (0, Share 0) h) P all)

pub shift_returns : MaskIsSymmetric → ShiftReturns
shift_returns symmetric c N x y P r long = (
  length-shift_from (probes_at c N P) N c.gates c.inputs (start bits x) (start bits y) r ∙ long,
  shift_from-back symmetric (probes_at c N P) N c.gates c.inputs (start bits x) (start bits y) r long,
)

pub shift_reorders : ShiftReorders
shift_reorders c N x y P f = sum_over_tapes-shift_from (probes_at c N P) N c.gates c.inputs (start bits x) (start bits y) f

pub shift_keeps : GateKeeps → ShiftKeeps
shift_keeps keeps c N x y P r two are places fits agree long =
    let named = All-probes_at c N P places in (
      seen-probes_at c N y (shift c N x y P r) P places
          ∙ sym (seen_by-shift_by keeps c N (probes_at c N P) x y r two are named fits agree long)
          ∙ sym (seen-probes_at c N x r P places),
      λ v i h k d. sym ((carried_agree keeps c N (probes_at c N P) x y r two are named fits agree long).shares v i h k d),
    )

pub fitting_is_simulated : GateKeeps → FittingIsSimulated
fitting_is_simulated keeps c N P two are places fits x y agree v =
    let hit = λ (bs : List Bool). cond (same_bits bs v) 1 0 in
    sum_over_tapes-same (draws c N) _ _ (λ r _. ap hit (seen-probes_at c N x r P places))
    ∙ sum_over_tapes-seen_by keeps c N (probes_at c N P) x y two are (All-probes_at c N P places) fits agree hit
    ∙ sum_over_tapes-same (draws c N) _ _ (λ r _. ap hit (sym (seen-probes_at c N y r P places)))
