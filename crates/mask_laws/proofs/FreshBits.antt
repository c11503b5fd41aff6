-- Fresh bits looked up by their pair.
use Rattle.std.proofs.Common.{◌≡◌, ℕ, ◌⊎◌, inl, inr, Bool, true, false, cond, ◌&&◌, ◌==◌, List, [], ◌∷◌, length, map, Contains, refl, ap, ◌∙◌, arith, eq-eqb, eqb-true}
use Rattle.std.proofs.lemmas.Bool.{and_from, and_parts}
use Rattle.std.proofs.lemmas.List.{length-map}
use Rattle.mask_circuit.specs.Value.{xor}
use Rattle.mask_circuit.specs.Ring.{bits}
use Rattle.mask_circuit.specs.Wires.{Pair, fresh_of}
use Rattle.mask_circuit.specs.Shift.{add_bits}
use Rattle.mask_laws.proofs.Members.{none_in_nil, Contains-cons_cases}

-- each fresh bit of a sum of two lists is the sum of the fresh bits
pub fresh_of-add_bits : (ps : List Pair) (r m : List Bool) (i j : ℕ) → length r ≡ length ps → length m ≡ length ps →
    fresh_of bits ps (add_bits r m) i j ≡ xor (fresh_of bits ps r i j) (fresh_of bits ps m i j)
fresh_of-add_bits [] r m i j er em = refl
fresh_of-add_bits (p ∷ ps) [] m i j er em = absurd (omega arith)
fresh_of-add_bits (p ∷ ps) (x ∷ r) [] i j er em = absurd (omega arith)
fresh_of-add_bits (p ∷ ps) (x ∷ r) (y ∷ m) i j er em = go (fresh_of-add_bits ps r m i j (omega arith) (omega arith)) (p.0 == i && p.1 == j)
  where
    go : fresh_of bits ps (add_bits r m) i j ≡ xor (fresh_of bits ps r i j) (fresh_of bits ps m i j) → (here : Bool) →
        cond here (xor x y) (fresh_of bits ps (add_bits r m) i j) ≡ xor (cond here x (fresh_of bits ps r i j)) (cond here y (fresh_of bits ps m i j))
    go up true = refl
    go up false = up

-- where the list has a bit for each pair by a function, a pair's fresh bit is that of the function
pub fresh_of-map : (f : ℕ → ℕ → Bool) (ps : List Pair) (i j : ℕ) → Contains ps (i, j) → fresh_of bits ps (map (λ p. f p.0 p.1) ps) i j ≡ f i j
fresh_of-map f [] i j h = absurd (none_in_nil (i, j) h)
fresh_of-map f (p ∷ ps) i j h = go (fresh_of-map f ps i j) (Contains-cons_cases p ps (i, j) h) (p.0 == i && p.1 == j) refl
  where
    go : (Contains ps (i, j) → fresh_of bits ps (map (λ p. f p.0 p.1) ps) i j ≡ f i j) → (p ≡ (i, j)) ⊎ Contains ps (i, j) →
        (here : Bool) → (p.0 == i && p.1 == j) ≡ here → cond here (f p.0 p.1) (fresh_of bits ps (map (λ p. f p.0 p.1) ps) i j) ≡ f i j
    go up later true at = let e = and_parts (p.0 == i) (p.1 == j) at in rw (eqb-true p.0 i e.0, eqb-true p.1 j e.1) refl
    go up (inl e) false at =
        let first = eq-eqb p.0 i (ap (λ (q : Pair). q.0) e) in
        let second = eq-eqb p.1 j (ap (λ (q : Pair). q.1) e) in
        let both = and_from (p.0 == i) (p.1 == j) first second in cc
    go up (inr later) false at = up later

-- a list of fresh bits with a mask added, at a pair
pub fresh_of-masked : (f : ℕ → ℕ → Bool) (ps : List Pair) (r : List Bool) (i j : ℕ) → length r ≡ length ps → Contains ps (i, j) →
    fresh_of bits ps (add_bits r (map (λ p. f p.0 p.1) ps)) i j ≡ xor (fresh_of bits ps r i j) (f i j)
fresh_of-masked f ps r i j e h =
    fresh_of-add_bits ps r (map (λ p. f p.0 p.1) ps) i j e (length-map ps (λ p. f p.0 p.1))
    ∙ ap (λ b. xor (fresh_of bits ps r i j) b) (fresh_of-map f ps i j h)
