-- What is in a list that is made by number, joined from pieces or mapped to pieces.
use Rattle.std.proofs.Common.{◌≡◌, ℕ, zero, suc, ◌<◌, ◌⊎◌, inl, inr, List, [], ◌∷◌, ◌++◌, length, map, Contains, flat_map, slice_index_or, refl, sym, subst, arith}
use Rattle.std.proofs.lemmas.List.Elements.{Contains-push, Contains-push_cases, Contains-append_left, Contains-append_right, Contains-append_cases}
use Rattle.mask_circuit.specs.Wires.{each, joined}
use Rattle.mask_circuit.proofs.Places.{below_cases}

pub none_in_nil : {A : Type 0} (x : A) → Contains [] x → ⊥
none_in_nil x h = omega (arith, h.1)

cases_at : {A : Type 0} (y : A) (xs : List A) (x : A) (k : ℕ) → k < suc (length xs) → slice_index_or (y ∷ xs) k x ≡ x → (y ≡ x) ⊎ Contains xs x
cases_at y xs x zero lt e = inl e
cases_at y xs x (suc k) lt e = inr (k, omega arith, e)

-- an element is the first one or a later one
pub Contains-cons_cases : {A : Type 0} (y : A) (xs : List A) (x : A) → Contains (y ∷ xs) x → (y ≡ x) ⊎ Contains xs x
Contains-cons_cases y xs x h = cases_at y xs x h.0 h.1 h.2

pub Contains-first : {A : Type 0} (x : A) (xs : List A) → Contains (x ∷ xs) x
Contains-first x xs = (0, omega arith, refl)

pub Contains-later : {A : Type 0} (y : A) (xs : List A) (x : A) → Contains xs x → Contains (y ∷ xs) x
Contains-later y xs x h = (suc h.0, omega (arith, h.1), h.2)

-- the elements of a list of three
pub first_of_three : {A : Type 0} (a b c : A) → Contains (a ∷ b ∷ c ∷ []) a
first_of_three a b c = (0, omega arith, refl)

pub second_of_three : {A : Type 0} (a b c : A) → Contains (a ∷ b ∷ c ∷ []) b
second_of_three a b c = (1, omega arith, refl)

pub third_of_three : {A : Type 0} (a b c : A) → Contains (a ∷ b ∷ c ∷ []) c
third_of_three a b c = (2, omega arith, refl)

-- an element of f 0, .., f (n - 1) is some f i
pub each_place : {A : Type 0} (f : ℕ → A) (n : ℕ) (x : A) → Contains (each f n) x → (i : ℕ) × (i < n) × (f i ≡ x)
each_place f zero x h = absurd (none_in_nil x h)
each_place f (suc n) x h = go (each_place f n x) (Contains-push_cases (each f n) (f n) x h)
  where
    go : (Contains (each f n) x → (i : ℕ) × (i < n) × (f i ≡ x)) → Contains (each f n) x ⊎ (f n ≡ x) → (i : ℕ) × (i < suc n) × (f i ≡ x)
    go up (inl g) = let r = up g in (r.0, omega (arith, r.1), r.2)
    go up (inr e) = (n, omega arith, e)

pub Contains-each : {A : Type 0} (f : ℕ → A) (n i : ℕ) → i < n → Contains (each f n) (f i)
Contains-each f zero i lt = absurd (omega arith)
Contains-each f (suc n) i lt = go (Contains-each f n i) (below_cases i n lt)
  where
    go : (i < n → Contains (each f n) (f i)) → (i < n) ⊎ (i ≡ n) → Contains (each f n ++ f n ∷ []) (f i)
    go up (inl l) = Contains-append_left (each f n) (f n ∷ []) (f i) (up l)
    go up (inr e) = subst (λ (m : ℕ). Contains (each f n ++ f n ∷ []) (f m)) (sym e) (Contains-push (each f n) (f n))

-- an element of joined pieces is in one of them
pub joined_piece : {A : Type 0} (f : ℕ → List A) (n : ℕ) (x : A) → Contains (joined f n) x → (i : ℕ) × (i < n) × Contains (f i) x
joined_piece f zero x h = absurd (none_in_nil x h)
joined_piece f (suc n) x h = go (joined_piece f n x) (Contains-append_cases (joined f n) (f n) x h)
  where
    go : (Contains (joined f n) x → (i : ℕ) × (i < n) × Contains (f i) x) → Contains (joined f n) x ⊎ Contains (f n) x →
        (i : ℕ) × (i < suc n) × Contains (f i) x
    go up (inl g) = let r = up g in (r.0, omega (arith, r.1), r.2)
    go up (inr e) = (n, omega arith, e)

pub Contains-joined : {A : Type 0} (f : ℕ → List A) (n i : ℕ) (x : A) → i < n → Contains (f i) x → Contains (joined f n) x
Contains-joined f zero i x lt h = absurd (omega arith)
Contains-joined f (suc n) i x lt h = go (λ l. Contains-joined f n i x l h) (below_cases i n lt)
  where
    go : (i < n → Contains (joined f n) x) → (i < n) ⊎ (i ≡ n) → Contains (joined f n ++ f n) x
    go up (inl l) = Contains-append_left (joined f n) (f n) x (up l)
    go up (inr e) = Contains-append_right (joined f n) (f n) x (subst (λ (m : ℕ). Contains (f m) x) e h)

-- the same of pieces by the elements of a list
pub flat_map_piece : {A B : Type 0} (f : A → List B) (ps : List A) (x : B) → Contains (flat_map f ps) x → (p : A) × Contains ps p × Contains (f p) x
flat_map_piece f [] x h = absurd (none_in_nil x h)
flat_map_piece f (p ∷ ps) x h = go (flat_map_piece f ps x) (Contains-append_cases (f p) (flat_map f ps) x h)
  where
    go : (Contains (flat_map f ps) x → (q : _) × Contains ps q × Contains (f q) x) → Contains (f p) x ⊎ Contains (flat_map f ps) x →
        (q : _) × Contains (p ∷ ps) q × Contains (f q) x
    go up (inl g) = (p, Contains-first p ps, g)
    go up (inr g) = let r = up g in (r.0, Contains-later p ps r.0 r.1, r.2)

pub Contains-flat_map : {A B : Type 0} (f : A → List B) (ps : List A) (p : A) (x : B) → Contains ps p → Contains (f p) x → Contains (flat_map f ps) x
Contains-flat_map f [] p x h g = absurd (none_in_nil p h)
Contains-flat_map f (q ∷ ps) p x h g = go (λ k. Contains-flat_map f ps p x k g) (Contains-cons_cases q ps p h)
  where
    go : (Contains ps p → Contains (flat_map f ps) x) → (q ≡ p) ⊎ Contains ps p → Contains (f q ++ flat_map f ps) x
    go up (inl e) = Contains-append_left (f q) (flat_map f ps) x (rw e g)
    go up (inr k) = Contains-append_right (f q) (flat_map f ps) x (up k)

-- what holds of each of three elements
pub holds_of_three : {A : Type 0} (P : A → Type 0) (a b c x : A) → P a → P b → P c → Contains (a ∷ b ∷ c ∷ []) x → P x
holds_of_three P a b c x pa pb pc h =
    elim (Contains-cons_cases a (b ∷ c ∷ []) x h) [
      | inl e ↦ subst P e pa
      | inr h' ↦ elim (Contains-cons_cases b (c ∷ []) x h') [
        | inl e ↦ subst P e pb
        | inr h'' ↦ elim (Contains-cons_cases c [] x h'') [ inl e ↦ subst P e pc | inr z ↦ absurd (none_in_nil x z) ]
      ]
    ]

-- two functions that agree at the elements of a list make the same list
pub map-same_in : {A B : Type 0} (f g : A → B) (xs : List A) → ((x : A) → Contains xs x → f x ≡ g x) → map f xs ≡ map g xs
map-same_in f g [] same = refl
map-same_in f g (x ∷ xs) same =
    rw (same x (Contains-first x xs), map-same_in f g xs (λ y h. same y (Contains-later x xs y h))) refl
