-- What contracts see of a sink that keeps what is written.
use Rattle.std.specs.Prelude.{ℕ, List}

-- the bytes, and the count of faults
pub record Kept : Type 0 where
  pub bytes : List ℕ
  pub faults : ℕ
