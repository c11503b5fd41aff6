-- What contracts see of the adapters.
use Rattle.std.specs.Prelude.{ℕ}

-- what is read or written, and the count of faults
pub record Counted (X : Type 0) : Type 0 where
  pub inner : X
  pub faults : ℕ

-- what is read, the count of faults, and what is wanted
pub record Drawn (X : Type 0) : Type 0 where
  pub inner : X
  pub faults : ℕ
  pub wanted : ℕ
