-- Where elements stand in a list that is made by number, joined from pieces or mapped to pieces of three.
use Rattle.std.proofs.Common.{◌≡◌, ℕ, zero, suc, ◌+◌, ◌*◌, ◌<◌, ◌⊎◌, inl, inr, List, [], ◌∷◌, ◌++◌, length, flat_map, slice_get, Some, refl, sym, ap, subst, arith, length-append, zero-add, suc-add}
use Rattle.std.proofs.lemmas.Bool.{cases_lt}
use Rattle.mask_circuit.specs.Wires.{each, joined}

-- below n + 1 is below n or n
pub below_cases : (i n : ℕ) → i < suc n → (i < n) ⊎ (i ≡ n)
below_cases i n lt = elim (cases_lt i n) [ inl l ↦ inl l | inr g ↦ inr (omega arith) ]

-- a place in the front of two lists, and one in the back
pub slice_get-append_front : {A : Type 0} (xs ys : List A) (k : ℕ) (x : A) → slice_get xs k ≡ Some x → slice_get (xs ++ ys) k ≡ Some x
slice_get-append_front [] ys k x h = cc
slice_get-append_front (y ∷ xs) ys zero x h = h
slice_get-append_front (y ∷ xs) ys (suc k) x h = slice_get-append_front xs ys k x h

pub slice_get-append_back : {A : Type 0} (xs ys : List A) (k : ℕ) (x : A) → slice_get ys k ≡ Some x → slice_get (xs ++ ys) (length xs + k) ≡ Some x
slice_get-append_back [] ys k x h = rw zero-add h
slice_get-append_back (y ∷ xs) ys k x h = rw suc-add (slice_get-append_back xs ys k x h)

-- the same at a number that is equal to the place
pub back_at : {A : Type 0} (xs ys : List A) (k n : ℕ) (x : A) → n ≡ length xs + k → slice_get ys k ≡ Some x → slice_get (xs ++ ys) n ≡ Some x
back_at xs ys k n x e h = rw e (slice_get-append_back xs ys k x h)

pub length-each : {A : Type 0} (f : ℕ → A) (n : ℕ) → length (each f n) ≡ n
length-each f zero = refl
length-each f (suc n) = let up = length-each f n in omega (arith, length-append (each f n) (f n ∷ []))

pub slice_get-each : {A : Type 0} (f : ℕ → A) (n i : ℕ) → i < n → slice_get (each f n) i ≡ Some (f i)
slice_get-each f zero i lt = absurd (omega arith)
slice_get-each f (suc n) i lt = go (slice_get-each f n i) (below_cases i n lt)
  where
    go : (i < n → slice_get (each f n) i ≡ Some (f i)) → (i < n) ⊎ (i ≡ n) → slice_get (each f n ++ f n ∷ []) i ≡ Some (f i)
    go up (inl l) = slice_get-append_front (each f n) (f n ∷ []) i (f i) (up l)
    go up (inr e) = back_at (each f n) (f n ∷ []) 0 i (f i) (omega (arith, length-each f n)) (ap (λ m. Some (f m)) (sym e))

-- element m of piece i stands after the pieces before it
pub slice_get-joined : {A : Type 0} (f : ℕ → List A) (n i m : ℕ) (x : A) → i < n → slice_get (f i) m ≡ Some x →
    slice_get (joined f n) (length (joined f i) + m) ≡ Some x
slice_get-joined f zero i m x lt h = absurd (omega arith)
slice_get-joined f (suc n) i m x lt h = go (λ l. slice_get-joined f n i m x l h) (below_cases i n lt)
  where
    go : (i < n → slice_get (joined f n) (length (joined f i) + m) ≡ Some x) → (i < n) ⊎ (i ≡ n) →
        slice_get (joined f n ++ f n) (length (joined f i) + m) ≡ Some x
    go up (inl l) = slice_get-append_front (joined f n) (f n) _ x (up l)
    go up (inr e) = back_at (joined f n) (f n) m _ x (rw e refl) (subst (λ (k : ℕ). slice_get (f k) m ≡ Some x) e h)

-- pieces of one length
pub length-joined : {A : Type 0} (f : ℕ → List A) (c n : ℕ) → ((i : ℕ) → length (f i) ≡ c) → length (joined f n) ≡ n * c
length-joined f c zero each_is = omega arith
length-joined f c (suc n) each_is = let up = length-joined f c n each_is in omega (arith, length-append (joined f n) (f n), each_is n)

-- element t of the piece of the element at p, where each piece has three
pub slice_get-threes : {A B : Type 0} (f : A → List B) (ps : List A) (p t : ℕ) (a : A) (x : B) → ((q : A) → length (f q) ≡ 3) →
    slice_get ps p ≡ Some a → slice_get (f a) t ≡ Some x → slice_get (flat_map f ps) (3 * p + t) ≡ Some x
slice_get-threes f [] p t a x three at is = cc
slice_get-threes f (q ∷ ps) zero t a x three at is =
    let same : q ≡ a = cc in
    let e : 3 * 0 + t ≡ t = omega arith in
    rw e (slice_get-append_front (f q) (flat_map f ps) t x (rw same is))
slice_get-threes f (q ∷ ps) (suc p) t a x three at is =
    back_at (f q) (flat_map f ps) (3 * p + t) _ x (omega (arith, three q)) (slice_get-threes f ps p t a x three at is)

pub length-threes : {A B : Type 0} (f : A → List B) (ps : List A) → ((q : A) → length (f q) ≡ 3) → length (flat_map f ps) ≡ 3 * length ps
length-threes f [] three = omega arith
length-threes f (q ∷ ps) three = let up = length-threes f ps three in omega (arith, length-append (f q) (flat_map f ps), three q)
