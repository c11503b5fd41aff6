-- The mask of a gate is the same with the sides changed.
use Rattle.std.proofs.Common.{◌≡◌, ℕ, pred, Bool, not, ◌&&◌, false, cond, nat_lt, List, map, refl, ap}
use Rattle.mask_circuit.specs.declared.gates.Gate.TheVariants.{Zero, One, Xor, Not, And, Ref}
use Rattle.mask_circuit.specs.Value.{xor}
use Rattle.mask_circuit.specs.Ring.{bits}
use Rattle.mask_circuit.specs.declared.gates.Wire.{Wire}
use Rattle.mask_circuit.specs.declared.gates.Wire.TheVariants.{Fresh, Left}
use Rattle.mask_circuit.specs.Wires.{Shares, pairs, row_sum}
use Rattle.mask_circuit.specs.Need.{ShareSet, product_rows, refresh_need}
use Rattle.mask_circuit.specs.Shift.{Sides, product_change, is_probed, partner, flipped, sides_of}
use Rattle.mask_laws.specs.Gadgets.{MaskIsSymmetric}
use Rattle.mask_laws.proofs.Bits.{xor_comm}

-- the base of a product's mask by what its terms change by, term i j by d i j
base_by : List Wire → (ℕ → ℕ → Bool) → ℕ → ℕ → Bool
base_by Q d i j = cond (product_rows Q i) false (cond (product_rows Q j) (xor (d i j) (d j i)) (cond (is_probed Q (Left i j)) (d i j) false))

-- how output share i changes
share_by : ℕ → (ℕ → ℕ → Bool) → (ℕ → ℕ → Bool) → ℕ → Bool
share_by n d mask i = row_sum bits (d i i) (λ j. cond (nat_lt i j) (mask i j) (xor (xor (mask j i) (d j i)) (d i j))) i (pred n)

-- the mask of a product by what its terms change by ..
product_by : ℕ → List Wire → ShareSet → (ℕ → ℕ → Bool) → List Bool
product_by n Q O d =
    map
    (λ p. flipped (base_by Q d) (λ i. O i && not (product_rows Q i) && share_by n d (base_by Q d) i) (partner n Left Q (product_rows Q) O) p.0 p.1)
    (pairs n)

-- .. and that of a refresh by what its shares change by
refresh_by : ℕ → List Wire → ShareSet → (ℕ → Bool) → List Bool
refresh_by n Q O d =
    map (λ p. flipped (λ i j. false) (λ i. O i && not (refresh_need Q i) && d i) (partner n Fresh Q (refresh_need Q) O) p.0 p.1) (pairs n)

-- what a term changes by is the same with the sides changed, and so is what a share changes by
term_same : (s s' : ℕ → Shares Bool) (u v : ℕ) → product_change (sides_of s s' u) (sides_of s s' v) ≡ product_change (sides_of s' s u) (sides_of s' s v)
term_same s s' u v = λ k i j. xor_comm (s u i && s v j) (s' u i && s' v j) k

share_change_of : Sides → ℕ → Bool
share_change_of a i = xor (a.one i) (a.two i)

share_same : (s s' : ℕ → Shares Bool) (u : ℕ) → share_change_of (sides_of s s' u) ≡ share_change_of (sides_of s' s u)
unfolding share_change_of
share_same s s' u = λ k i. xor_comm (s u i) (s' u i) k

pub mask_is_symmetric : MaskIsSymmetric
unfolding product_by refresh_by share_by base_by share_change_of
mask_is_symmetric N Zero Q O s s' = refl
mask_is_symmetric N One Q O s s' = refl
mask_is_symmetric N (Xor u v) Q O s s' = refl
mask_is_symmetric N (Not u) Q O s s' = refl
mask_is_symmetric N (And u v) Q O s s' = ap (product_by N Q O) (term_same s s' u v)
mask_is_symmetric N (Ref u) Q O s s' = ap (refresh_by N Q O) (share_same s s' u)
