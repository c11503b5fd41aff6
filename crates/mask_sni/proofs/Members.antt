-- The members of a set of shares, share by share, and how many there are.
use Rattle.std.proofs.Common.{◌≡◌, ◌⊎◌, ℕ, zero, suc, ◌+◌, ◌<◌, ◌≤◌, inl, inr, Contains, sym, subst, Bool, true, false, List, [], ◌∷◌, ◌++◌, length, slice_index_or, refl, arith, add-one, length-append}
use Rattle.std.specs.List.{filter}
use Rattle.std.proofs.lemmas.List.{append-nil, length-map}
use Rattle.std.proofs.lemmas.List.Elements.{filter-append, Contains-append_left, Contains-push}
use Rattle.mask_circuit.specs.declared.gates.Wire.{Wire}
use Rattle.mask_circuit.specs.declared.gates.Wire.TheVariants.{Share}
use Rattle.mask_circuit.specs.Wires.{each}
use Rattle.mask_circuit.specs.Probing.{size}
use Rattle.mask_circuit.specs.Need.{ShareSet}
use Rattle.mask_circuit.proofs.Places.{below_cases}
use Rattle.mask_laws.proofs.Needs.{needs_are_small}
use Rattle.mask_sni.specs.declared.needs.Operand.{Operand}
use Rattle.mask_sni.specs.declared.needs.Operand.TheVariants.{First, Second, Only}
use Rattle.mask_sni.specs.Asked.{members, wires_at}
use Rattle.mask_sni.specs.Kinds.{needed}

-- a share more that is in the set, and one that isn't
pub member_in : (set : ShareSet) (i : ℕ) → set i ≡ true → members (i + 1) set ≡ members i set ++ i ∷ []
member_in set i e = rw (add-one i, filter-append set (each (λ (k : ℕ). k) i) (i ∷ []), e) refl

pub member_out : (set : ShareSet) (i : ℕ) → set i ≡ false → members (i + 1) set ≡ members i set
member_out set i e = rw (add-one i, filter-append set (each (λ (k : ℕ). k) i) (i ∷ []), e) (append-nil (members i set))

-- the members are as many as the set has
pub length-members : (set : ShareSet) (n : ℕ) → length (members n set) ≡ size n set
length-members set zero = refl
length-members set (suc n) = go (length-members set n) (set n) refl
  where
    go : length (members n set) ≡ size n set → (b : Bool) → set n ≡ b → length (members (suc n) set) ≡ size (suc n) set
    go up true e = rw (filter-append set (each (λ (k : ℕ). k) n) (n ∷ []), e, length-append (members n set) (n ∷ []), up) refl
    go up false e = rw (filter-append set (each (λ (k : ℕ). k) n) (n ∷ []), e, append-nil (members n set), up) (omega arith)

pub length-wires_at : (names : List Wire) (P : List ℕ) → length (wires_at names P) ≡ length P
length-wires_at names P = length-map P (λ (p : ℕ). slice_index_or names p (Share 0))

-- the needs are no more than the probes
needed_small : (operand : Operand) (n : ℕ) (Q : List Wire) → size n (needed operand Q) ≤ length Q
needed_small First n Q = (needs_are_small n Q).0
needed_small Second n Q = (needs_are_small n Q).1
needed_small Only n Q = (needs_are_small n Q).2

pub needed_few : (operand : Operand) (n : ℕ) (ws : List Wire) → length (members n (needed operand ws)) ≤ length ws
needed_few operand n ws = omega (arith, length-members (needed operand ws) n, needed_small operand n ws)

-- a share of the set is among its members
pub Contains-members : (set : ShareSet) (n i : ℕ) → i < n → set i ≡ true → Contains (members n set) i
Contains-members set zero i lt e = absurd (omega arith)
Contains-members set (suc n) i lt e = go (Contains-members set n i) (below_cases i n lt)
  where
    go : (i < n → set i ≡ true → Contains (members n set) i) → (i < n) ⊎ (i ≡ n) → Contains (members (suc n) set) i
    go up (inl low) =
        rw (filter-append set (each (λ (k : ℕ). k) n) (n ∷ [])) (Contains-append_left (members n set) (filter set (n ∷ [])) i (up low e))
    go up (inr here) =
        let last : set n ≡ true = rw here at e in
        rw (filter-append set (each (λ (k : ℕ). k) n) (n ∷ []), last)
        (subst (λ (k : ℕ). Contains (members n set ++ n ∷ []) k) (sym here) (Contains-push (members n set) n))
