-- Lists that are made by number, in two parts.
use Rattle.std.proofs.Common.{◌≡◌, ℕ, zero, suc, ◌+◌, List, [], ◌∷◌, ◌++◌, ap, sym, ◌∙◌, append_assoc, append-nil, add-zero, add-suc}
use Rattle.mask_circuit.specs.Wires.{each, joined}

pub each-add : {A : Type 0} (f : ℕ → A) (m n : ℕ) → each f (m + n) ≡ each f m ++ each (λ k. f (m + k)) n
each-add f m zero = ap (each f) (add-zero m) ∙ sym (append-nil (each f m))
each-add f m (suc n) =
    ap (each f) (add-suc m n)
    ∙ ap (λ l. l ++ f (m + n) ∷ []) (each-add f m n)
    ∙ append_assoc (each f m) (each (λ k. f (m + k)) n) (f (m + n) ∷ [])

pub joined-add : {A : Type 0} (f : ℕ → List A) (m n : ℕ) → joined f (m + n) ≡ joined f m ++ joined (λ k. f (m + k)) n
joined-add f m zero = ap (joined f) (add-zero m) ∙ sym (append-nil (joined f m))
joined-add f m (suc n) =
    ap (joined f) (add-suc m n)
    ∙ ap (λ l. l ++ f (m + n)) (joined-add f m n)
    ∙ append_assoc (joined f m) (joined (λ k. f (m + k)) n) (f (m + n))
