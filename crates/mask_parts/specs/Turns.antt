-- Steps of a cipher, one after another.
use Rattle.std.specs.Prelude.{ℕ, zero, suc}

-- steps 0 to n - 1
unfoldable pub in_turn : {A : Type 0} → (ℕ → A → A) → ℕ → A → A
in_turn step zero a = a
in_turn step (suc n) a = step n (in_turn step n a)
