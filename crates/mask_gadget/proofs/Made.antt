-- Lists that are made by number: their images, and one step of a loop that makes them.
use Rattle.std.proofs.Common.{◌≡◌, ℕ, zero, suc, ◌+◌, ◌<◌, List, [], ◌∷◌, ◌++◌, map, refl, ap, arith, add-one, flat_map}
use Rattle.std.proofs.lemmas.List.{map-append, append-nil}
use Rattle.std.proofs.lemmas.Grind.{flat_map-append}
use Rattle.mask_circuit.specs.Wires.{each, joined}

pub map-joined : {A B : Type 0} (h : A → B) (f : ℕ → List A) (n : ℕ) → map h (joined f n) ≡ joined (λ i. map h (f i)) n
map-joined h f zero = refl
map-joined h f (suc n) = rw (map-append h (joined f n) (f n), map-joined h f n) refl

pub flat_map-each : {A B : Type 0} (g : A → List B) (f : ℕ → A) (n : ℕ) → flat_map g (each f n) ≡ joined (λ i. g (f i)) n
flat_map-each g f zero = refl
flat_map-each g f (suc n) = rw (flat_map-append g (each f n) (f n ∷ []), flat_map-each g f n) (ap (λ l. joined (λ i. g (f i)) n ++ l) (append-nil (g (f n))))

pub flat_map-joined : {A B : Type 0} (g : A → List B) (f : ℕ → List A) (n : ℕ) → flat_map g (joined f n) ≡ joined (λ i. flat_map g (f i)) n
flat_map-joined g f zero = refl
flat_map-joined g f (suc n) = rw (flat_map-append g (joined f n) (f n), flat_map-joined g f n) refl

-- the same pieces give the same list
pub joined-same : {A : Type 0} (f g : ℕ → List A) (n : ℕ) → ((k : ℕ) → k < n → f k ≡ g k) → joined f n ≡ joined g n
joined-same f g zero same = refl
joined-same f g (suc n) same = rw (joined-same f g n (λ k lt. same k (omega arith)), same n (omega arith)) refl

-- one element more, and one piece more
pub each-more : {A : Type 0} (f : ℕ → A) (n : ℕ) → each f (n + 1) ≡ each f n ++ f n ∷ []
each-more f n = rw (add-one n) refl

pub joined-more : {A : Type 0} (f : ℕ → List A) (n : ℕ) → joined f (n + 1) ≡ joined f n ++ f n
joined-more f n = rw (add-one n) refl
