-- Circuits and a run that the definitions rule out.
use Rattle.std.proofs.Common.{◌≡◌, ℕ, zero, suc, ◌+◌, ◌<◌, ◌≤◌, Bool, true, false, cond, not, ◌==◌, [], ◌∷◌, refl, ap, sym, ◌∙◌, arith}
use Rattle.std.proofs.lemmas.Bool.{true≢false, ne_eqb}
use Rattle.std.proofs.lemmas.List.Elements.{All-nil, All-cons}
use Rattle.mask_circuit.specs.Netlist.{IsWellFormed}
use Rattle.mask_circuit.specs.Wires.{Shares}
use Rattle.mask_circuit.specs.Expansion.{wire_count}
use Rattle.mask_circuit.specs.Probing.{ShareSets, size, hits, IsInner}
use Rattle.mask_circuit.specs.Need.{ShareSet}
use Rattle.mask_laws.specs.Clashes.{reach, clash}
use Rattle.mask_laws.specs.Refutations.{squared, SquaredLeaks, handed_on, HandedOnIsNotSNI, taken_twice, TakenTwiceLeaks}
use Rattle.mask_laws.specs.Runs.{run_hits}
use Rattle.mask_laws.proofs.Clashing.{clash_decides}
use Rattle.mask_laws.proofs.Gates.{gate_keeps}
use Rattle.mask_laws.proofs.RunExamples.{product_formed, product_accepted, product_fenced}
use Rattle.mask_laws.proofs.Sharings.{left_out}
use Rattle.mask_laws.proofs.Simulation.{accepted_is_ni}

-- SHARES

-- ones alone, and ones but for share i of value 0
ones : ℕ → Shares Bool
ones v j = true

ones_but : ℕ → ℕ → Shares Bool
ones_but i zero j = not (j == i)
ones_but i (suc v) j = true

-- sets without share i of value 0 don't tell them apart
ones_agree : (i : ℕ) (I : ShareSets) → I 0 i ≡ false → (v j : ℕ) → I v j ≡ true → ones v j ≡ ones_but i v j
unfolding ones ones_but
ones_agree i I out (suc v) j named = refl
ones_agree i I out zero j named =
    let ne : j ≡ i → ⊥ = λ e. true≢false (sym named ∙ ap (I 0) e ∙ out) in
    rw (ne_eqb j i ne) refl

-- two tapes of two show 1 on the wire a_0 · a_1 of shares that are ones, and none where one of them isn't
squared_hits : (i : ℕ) → i < 2 → hits squared 2 (ones_but i) (3 ∷ []) (true ∷ []) ≡ 0
unfolding ones_but
squared_hits zero lt = refl
squared_hits (suc zero) lt = refl
squared_hits (suc (suc i)) lt = absurd (omega arith)

-- the same of a_0 · b_1 in the run, where there are four tapes
taken_twice_hits : (i : ℕ) → i < 2 → run_hits taken_twice 2 (ones_but i) (5 ∷ []) (true ∷ []) ≡ 0
unfolding ones_but
taken_twice_hits zero lt = refl
taken_twice_hits (suc zero) lt = refl
taken_twice_hits (suc (suc i)) lt = absurd (omega arith)

-- THE LAWS

pub squared_leaks : SquaredLeaks
unfolding ones
squared_leaks = (
  λ ni.
      let is = ni (3 ∷ []) (All-cons (λ p. p < wire_count squared 2) 3 [] (omega arith) (All-nil (λ p. p < wire_count squared 2))) (omega arith) in
      let few = is.1 0 (omega arith) in
      let out = left_out 2 (is.0 0) (omega arith) in
      let none = squared_hits out.0 out.1 in
      let same : 2 ≡ hits squared 2 (ones_but out.0) (3 ∷ []) (true ∷ []) =
      is.2 ones (ones_but out.0) (λ v j within lt named. ones_agree out.0 is.0 out.2 v j named) (true ∷ []) in
      omega arith,
  λ private. let same : 0 ≡ 2 = private (3 ∷ []) (omega arith) (true ∷ []) (false ∷ []) refl refl (true ∷ []) in omega arith,
  λ private. let same : 0 ≡ 2 = private (3 ∷ []) (omega arith) (true ∷ []) (false ∷ []) refl refl (true ∷ []) in omega arith,
)

handed_on_formed : IsWellFormed handed_on
handed_on_formed = record { gates = tt; outputs = All-cons (λ u. u < 1) 0 [] (omega arith) (All-nil (λ u. u < 1)) }

-- the first share of each output
first_share : ℕ → ℕ → Bool
first_share k i = i == 0

-- a set of no shares leaves out the first
first_out : (set : ShareSet) → size 2 set ≤ 0 → set 0 ≡ false
first_out set few = go (set 0) refl
  where
    go : (b : Bool) → set 0 ≡ b → set 0 ≡ false
    go true is = let one : 0 + cond (set 0) 1 0 ≡ 1 = ap (λ b. 0 + cond b 1 0) is in absurd (omega arith)
    go false is = is

pub handed_on_is_not_sni : HandedOnIsNotSNI
unfolding reach clash ones ones_but first_share
handed_on_is_not_sni = (
  λ N two. accepted_is_ni gate_keeps handed_on N two tt ((clash_decides handed_on handed_on_formed).0.0 refl),
  λ sni.
      let is = sni [] first_share (All-nil (λ p. (p < wire_count handed_on 2) × IsInner handed_on 2 p)) (omega arith) (λ k lt. omega arith) in
      let few = is.1 0 (omega arith) in
      let same : 1 ≡ 0 = is.2 ones (ones_but 0) (λ v j within lt named. ones_agree 0 is.0 (first_out (is.0 0) few) v j named) (true ∷ []) in
      omega arith,
)

pub taken_twice_leaks : TakenTwiceLeaks
unfolding ones
taken_twice_leaks = (
  product_formed,
  (product_accepted, product_fenced),
  λ I few simulated.
      let out = left_out 2 (I 0) (omega arith) in
      let none = taken_twice_hits out.0 out.1 in
      let same : 4 ≡ run_hits taken_twice 2 (ones_but out.0) (5 ∷ []) (true ∷ []) =
      simulated ones (ones_but out.0) (λ v j lt named. ones_agree out.0 I out.2 v j named) (true ∷ []) in
      omega arith,
  λ private. let same : 0 ≡ 4 = private (5 ∷ []) (omega arith) (true ∷ []) (false ∷ []) refl (true ∷ []) in omega arith,
)
