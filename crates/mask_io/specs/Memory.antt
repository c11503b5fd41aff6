-- What contracts see of the objects in memory.
use Rattle.std.specs.Prelude.{ℕ, Bool, List}
use Rattle.mask_io.specs.Outside.{counted, faults_after}

-- the numbers of the calls that fail, the number of calls made, and the count of faults
pub record Script : Type 0 where
  pub fails : List ℕ
  pub made : ℕ
  pub faults : ℕ

-- a source: the bytes left, the most that one call gives, and its calls
pub record Feed : Type 0 where
  pub left : List ℕ
  pub piece : ℕ
  pub script : Script

-- a sink: the bytes written, how many more fit, the most that one call takes, and its calls
pub record Store : Type 0 where
  pub written : List ℕ
  pub room : ℕ
  pub piece : ℕ
  pub script : Script

-- an entropy: the bytes left, what it wants, and its calls
pub record Supply : Type 0 where
  pub left : List ℕ
  pub wanted : ℕ
  pub script : Script

-- a closed entropy: the count of faults, and what it wants
pub record Refusals : Type 0 where
  pub faults : ℕ
  pub wanted : ℕ

-- one more call was made, and it failed or didn't
abbrev pub after_call : Script → Bool → Script
after_call script failed =
    record script { made = counted script.made; faults = faults_after failed script.faults }
