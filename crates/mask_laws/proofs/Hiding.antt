-- Accepted circuits and strong runs show nothing of the bits that are shared.
use Rattle.std.proofs.Common.{◌≡◌, ℕ, pred, ◌+◌, ◌*◌, ◌<◌, ◌≤◌, inl, inr, Bool, false, cond, nat_lt, List, length, take, drop, Contains, slice_index_or, ap, ap₂, sym, ◌∙◌, arith}
use Rattle.std.proofs.lemmas.Bool.{cases_lt, lt-ltb}
use Rattle.std.proofs.lemmas.List.{get_or_past, take_all}
use Rattle.mask_circuit.specs.Netlist.{Netlist, IsWellFormed}
use Rattle.mask_circuit.specs.Ring.{bits}
use Rattle.mask_circuit.specs.Wires.{Shares}
use Rattle.mask_circuit.specs.Expansion.{draws, wire_count, wires}
use Rattle.mask_circuit.specs.Probing.{IsSimulated, seen, same_bits, sum_over_tapes, hits}
use Rattle.mask_circuit.specs.Need.{need}
use Rattle.mask_circuit.specs.Acceptance.{Input, IsAccepted}
use Rattle.mask_circuit.specs.Shift.{shift}
use Rattle.mask_circuit.specs.Privacy.{sharing, call_hits, private_hits}
use Rattle.mask_laws.specs.Runs.{places_within, run_need, run_hits}
use Rattle.mask_laws.specs.Privacy.{AcceptedIsPrivate, AcceptedCallIsPrivate, StrongRunIsPrivate}
use Rattle.mask_laws.proofs.Gates.{gate_keeps}
use Rattle.mask_laws.proofs.RunNeeds.{length-places, places_within-below}
use Rattle.mask_laws.proofs.Running.{run_needs, same_at, Contains-filter, length-wires}
use Rattle.mask_laws.proofs.Seen.{shift_keeps, shift_reorders}
use Rattle.mask_laws.proofs.Sharings.{sharing-front, sum_over_sharings-same}
use Rattle.mask_laws.proofs.Shifts.{drop_front}
use Rattle.mask_laws.proofs.Simulation.{accepted_fits, accepted_needs_few}
use Rattle.mask_laws.proofs.Tapes.{sum_over_tapes-same, sum_over_tapes-add}
use Rattle.mask_laws.proofs.Members.{map-same_in}

-- CIRCUITS

-- where the probed wires show the same, each place does: past the wires there is nothing to see
place_same : (c : Netlist) (N : ℕ) (x y : ℕ → Shares Bool) (r s : List Bool) (P : List ℕ) →
    seen c N x r (places_within (wire_count c N) P) ≡ seen c N y s (places_within (wire_count c N) P) → (p : ℕ) → Contains P p →
    slice_index_or (wires bits c N x r) p false ≡ slice_index_or (wires bits c N y s) p false
place_same c N x y r s P same p probed = elim (cases_lt p (wire_count c N)) [
  | inl lt ↦ same_at (λ q. slice_index_or (wires bits c N x r) q false) (λ q. slice_index_or (wires bits c N y s) q false) (places_within (wire_count c N) P) p same
      (Contains-filter (λ q. nat_lt q (wire_count c N)) P p probed (lt-ltb p (wire_count c N) lt))
  | inr past ↦ get_or_past (wires bits c N x r) p false (omega (arith, length-wires c N x r))
      ∙ sym (get_or_past (wires bits c N y s) p false (omega (arith, length-wires c N y s)))
]

-- fewer places than shares are simulated from the need of those that are wires
places_simulated : (c : Netlist) (N : ℕ) (P : List ℕ) → 2 ≤ N → IsWellFormed c → IsAccepted c → length P < N →
    IsSimulated c N P (need c N (places_within (wire_count c N) P))
places_simulated c N P two formed accepted few x y agree v =
    let Q = places_within (wire_count c N) P in
    let parts = length-places (wire_count c N) P in
    let hit : List Bool → ℕ = λ bs. cond (same_bits bs v) 1 0 in
    let kept : (r : List Bool) → length r ≡ draws c N → seen c N x r Q ≡ seen c N y (shift c N x y Q r) Q
    = λ r long. sym (shift_keeps gate_keeps c N x y Q r two formed.gates (places_within-below (wire_count c N) P)
    (accepted_fits c N Q formed.gates accepted (omega arith)) agree long).0 in
    sum_over_tapes-same (draws c N) _ _ (λ r long. ap hit (map-same_in _ _ P (place_same c N x y r (shift c N x y Q r) P (kept r long))))
    ∙ shift_reorders c N x y Q (λ r. hit (seen c N y r P))

-- So an accepted circuit is private: the need leaves out a share of each input.
pub accepted_is_private : AcceptedIsPrivate
accepted_is_private c N two formed accepted P few x y all_x all_y v =
    let Q = places_within (wire_count c N) P in
    let parts = length-places (wire_count c N) P in
    sum_over_sharings-same N x y (need c N Q) (λ shares. hits c N shares P v) (omega arith) (all_x ∙ sym all_y)
    (λ u lt. let needs = accepted_needs_few c N Q formed.gates accepted u (Input (omega arith)) in omega arith)
    (λ s t agree. places_simulated c N P two formed accepted few s t (λ u i within lt needed. agree u i lt needed) v)

-- CALLS

-- what a call shows over all tapes is what its circuit shows over all sharings and tapes
call_hits-private : (c : Netlist) (N : ℕ) (x : List Bool) (P : List ℕ) (v : List Bool) → length x ≡ c.inputs → call_hits c N x P v ≡ private_hits c N x P v
call_hits-private c N x P v all =
    let D = draws c N in
    let n = pred N * length x in
    let hit : (ℕ → Shares Bool) → List Bool → ℕ = λ s r. cond (same_bits (seen c N s r P) v) 1 0 in
    let shown : List Bool → ℕ = λ r. hit (sharing N x r) (take D (drop n r)) in
    ap (λ m. sum_over_tapes (pred N * m + D) shown) (sym all)
    ∙ sum_over_tapes-add n D shown
    ∙ sum_over_tapes-same n _ _ (λ own long. sum_over_tapes-same D _ _ (λ rest enough.
    ap₂ hit (sharing-front N x own rest long) (ap (take D) (drop_front n own rest long) ∙ take_all D rest (omega arith))))

pub accepted_call_is_private : AcceptedCallIsPrivate
accepted_call_is_private c N two formed accepted P few x y all_x all_y v =
    call_hits-private c N x P v all_x
    ∙ accepted_is_private c N two formed accepted P few x y all_x all_y v
    ∙ sym (call_hits-private c N y P v all_y)

-- RUNS

-- A strong run is private: its need leaves out a share of each variable.
pub strong_run_is_private : StrongRunIsPrivate
strong_run_is_private calls N two are P few x y same v =
    let needs = run_needs calls N P two are few in
    sum_over_sharings-same N x y (run_need calls N P) (λ shares. run_hits calls N shares P v) (omega arith) same
    (λ u lt. let at_most = needs.0 u in omega arith)
    (λ s t agree. needs.1 s t agree v)
