-- The shift of a tape, gate by gate.
use Rattle.std.proofs.Common.{◌≡◌, ℕ, suc, ◌+◌, Bool, List, [], ◌∷◌, ◌++◌, length, take, drop, sum_by, refl, ap, ap₂, sym, subst, ◌∙◌, arith, length-append, length-drop}
use Rattle.std.proofs.lemmas.List.{length-take-le, take-append-drop}
use Rattle.std.proofs.lemmas.List.Sums.{sum_by-cons}
use Rattle.std.proofs.Math.Seq.{take-append_seam, drop-append_seam}
use Rattle.mask_circuit.specs.declared.gates.Gate.{Gate}
use Rattle.mask_circuit.specs.Ring.{bits}
use Rattle.mask_circuit.specs.Wires.{gate_draws, gate_wire}
use Rattle.mask_circuit.specs.Expansion.{CircuitWire, Carried, shares_of, put}
use Rattle.mask_circuit.specs.Probing.{sum_over_tapes}
use Rattle.mask_circuit.specs.Need.{inner_probes, need_from}
use Rattle.mask_circuit.specs.Shift.{add_bits, gate_mask, shift_from}
use Rattle.mask_laws.specs.Gadgets.{MaskIsSymmetric}
use Rattle.mask_laws.proofs.Tapes.{sum_over_tapes-same, sum_over_tapes-add, sum_over_tapes-masked, length-add_bits, add_bits-twice}

pub take_front : (w : ℕ) (a b : List Bool) → length a ≡ w → take w (a ++ b) ≡ a
take_front w a b e = subst (λ (k : ℕ). take k (a ++ b) ≡ a) e (take-append_seam a b)

pub drop_front : (w : ℕ) (a b : List Bool) → length a ≡ w → drop w (a ++ b) ≡ b
drop_front w a b e = subst (λ (k : ℕ). drop k (a ++ b) ≡ b) e (drop-append_seam a b)

-- how many fresh bits these gates draw
abbrev pub draws_from : ℕ → List Gate → ℕ
draws_from N gs = sum_by (gate_draws N) gs

-- the tape of some gates is that of the first and that of the others
pub draws_from-cons : (N : ℕ) (g : Gate) (gs : List Gate) → draws_from N (g ∷ gs) ≡ gate_draws N g + draws_from N gs
draws_from-cons N g gs = sum_by-cons (gate_draws N) g gs

-- the first gate's mask
abbrev pub mask_at : List CircuitWire → ℕ → Gate → List Gate → ℕ → Carried Bool → Carried Bool → List Bool
mask_at P N g gs n t t' = gate_mask N g (inner_probes n P) (need_from P gs (suc n) n) (shares_of t) (shares_of t')

-- what is carried with the first gate's wires
abbrev pub carried_at : ℕ → Gate → ℕ → Carried Bool → List Bool → Carried Bool
carried_at N g n t bs = put n (gate_wire bits N g (shares_of t) bs) t

-- the new tape where the first gate's bits are old and those of the others rest
abbrev after_gate : List CircuitWire → ℕ → Gate → List Gate → ℕ → Carried Bool → Carried Bool → List Bool → List Bool → List Bool
after_gate P N g gs n t t' old rest =
    let new = add_bits old (mask_at P N g gs n t t') in
    new ++ shift_from P N gs (suc n) (carried_at N g n t old) (carried_at N g n t' new) rest

shift_from-cons : (P : List CircuitWire) (N : ℕ) (g : Gate) (gs : List Gate) (n : ℕ) (t t' : Carried Bool) (a b : List Bool) → length a ≡ gate_draws N g →
    shift_from P N (g ∷ gs) n t t' (a ++ b) ≡ after_gate P N g gs n t t' a b
shift_from-cons P N g gs n t t' a b e =
    ap₂ (after_gate P N g gs n t t') (take_front (gate_draws N g) a b e) (drop_front (gate_draws N g) a b e)

-- the shift reorders the tapes: a sum over the shifted tapes is the sum over the tapes
pub sum_over_tapes-shift_from : (P : List CircuitWire) (N : ℕ) (gs : List Gate) (n : ℕ) (t t' : Carried Bool) (f : List Bool → ℕ) →
    sum_over_tapes (draws_from N gs) (λ r. f (shift_from P N gs n t t' r)) ≡ sum_over_tapes (draws_from N gs) f
sum_over_tapes-shift_from P N [] n t t' f = refl
sum_over_tapes-shift_from P N (g ∷ gs) n t t' f =
    let w = gate_draws N g in
    let m = mask_at P N g gs n t t' in
    let shifted = λ (r : List Bool). f (shift_from P N (g ∷ gs) n t t' r) in
    let rest_of = λ (a : List Bool). sum_over_tapes (draws_from N gs) (λ b. f (a ++ b)) in
    let front : (a : List Bool) → length a ≡ w → sum_over_tapes (draws_from N gs) (λ b. shifted (a ++ b)) ≡ rest_of (add_bits a m)
    = λ a e.
    sum_over_tapes-same (draws_from N gs) _ _ (λ b _. ap f (shift_from-cons P N g gs n t t' a b e))
    ∙ sum_over_tapes-shift_from P N gs (suc n) (carried_at N g n t a) (carried_at N g n t' (add_bits a m)) (λ b. f (add_bits a m ++ b)) in
    ap (λ (k : ℕ). sum_over_tapes k shifted) (draws_from-cons N g gs)
    ∙ sum_over_tapes-add w (draws_from N gs) shifted
    ∙ sum_over_tapes-same w _ _ front
    ∙ sum_over_tapes-masked w m rest_of
    ∙ sym (sum_over_tapes-add w (draws_from N gs) f)
    ∙ sym (ap (λ (k : ℕ). sum_over_tapes k f) (draws_from-cons N g gs))

-- a list of bits cut in two is as long as its parts
length-cut : (w : ℕ) (r : List Bool) → length (take w r) + length (drop w r) ≡ length r
length-cut w r = sym (length-append (take w r) (drop w r)) ∙ ap length (take-append-drop w r)

pub length-shift_from : (P : List CircuitWire) (N : ℕ) (gs : List Gate) (n : ℕ) (t t' : Carried Bool) (r : List Bool) → length (shift_from P N gs n t t' r) ≡ length r
length-shift_from P N [] n t t' r = refl
length-shift_from P N (g ∷ gs) n t t' r =
    let old = take (gate_draws N g) r in
    let new = add_bits old (mask_at P N g gs n t t') in
    length-append new _
    ∙ ap₂ (λ (a b : ℕ). a + b)
    (length-add_bits old (mask_at P N g gs n t t'))
    (length-shift_from P N gs (suc n) (carried_at N g n t old) (carried_at N g n t' new) (drop (gate_draws N g) r))
    ∙ length-cut (gate_draws N g) r

-- the first gate's bits of a tape, and the bits left for the others
pub front_of_tape : (N : ℕ) (g : Gate) (gs : List Gate) (r : List Bool) → length r ≡ draws_from N (g ∷ gs) →
    (length (take (gate_draws N g) r) ≡ gate_draws N g) × (length (drop (gate_draws N g) r) ≡ draws_from N gs)
front_of_tape N g gs r long =
    let all : length r ≡ gate_draws N g + draws_from N gs = long ∙ draws_from-cons N g gs in
    (length-take-le (gate_draws N g) r (omega arith), omega (arith, length-drop (gate_draws N g) r))

-- shifting back gives the first tape
pub shift_from-back : MaskIsSymmetric → (P : List CircuitWire) (N : ℕ) (gs : List Gate) (n : ℕ) (t t' : Carried Bool) (r : List Bool) → length r ≡ draws_from N gs →
    shift_from P N gs n t' t (shift_from P N gs n t t' r) ≡ r
shift_from-back symmetric P N [] n t t' r long = refl
shift_from-back symmetric P N (g ∷ gs) n t t' r long =
    let w = gate_draws N g in
    let old = take w r in
    let m = mask_at P N g gs n t t' in
    let new = add_bits old m in
    let later = shift_from P N gs (suc n) (carried_at N g n t old) (carried_at N g n t' new) (drop w r) in
    let parts = front_of_tape N g gs r long in
    let back : add_bits new (mask_at P N g gs n t' t) ≡ old
    = ap (add_bits new) (symmetric N g (inner_probes n P) (need_from P gs (suc n) n) (shares_of t') (shares_of t)) ∙ add_bits-twice old m in
    shift_from-cons P N g gs n t' t new later (length-add_bits old m ∙ parts.0)
    ∙ ap (λ (o : List Bool). o ++ shift_from P N gs (suc n) (carried_at N g n t' new) (carried_at N g n t o) later) back
    ∙ ap (λ (z : List Bool). old ++ z) (shift_from-back symmetric P N gs (suc n) (carried_at N g n t old) (carried_at N g n t' new) (drop w r) parts.1)
    ∙ take-append-drop w r
