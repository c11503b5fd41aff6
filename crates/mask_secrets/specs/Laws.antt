-- When an answer about a key file comes, where the source tells its bytes.
use Rattle.std.specs.Prelude.{◌≡◌, ◌⊎◌, ℕ, suc, ◌≤◌, List, Some}
use Rattle.std.specs.declared.option.Option.{Option}
use Rattle.std.specs.Io.KnownBytes.{Consumes}
use Rattle.mask_keys.specs.declared.files.KeyLength.{KeyLength}
use Rattle.mask_keys.specs.declared.files.KeyLength.TheVariants.{Any}
use Rattle.mask_keys.specs.Files.{IsKeyFile}
use Rattle.mask_status.specs.declared.status.Status.{Status}
use Rattle.mask_status.specs.declared.status.Status.TheVariants.{KeyFault}
use Rattle.mask_secrets.specs.KeyEnds.{KeyEnds, IsKeysDue, IsInForm}
use Rattle.mask_secrets.specs.Splitting.{Sides, SplitsLine}
use Rattle.mask_secrets.specs.Joining.{Joins}

-- Of a source that tells its bytes: the status that is due comes, or a fault of reading; and where the bytes are key lines, what
-- was done was done with these, or reading failed.
pub record KeysDecide (count : ℕ) (asked : KeyLength) (Did : List (List ℕ) → Status → Type 0) : Type 0 where
  pub due : (keys bytes : List ℕ) (rest : Option (List ℕ)) (status due : Status) →
      Consumes (Some keys) rest bytes → KeyEnds count asked Did bytes rest status → IsKeysDue count asked keys due →
      (status ≡ due) ⊎ (status ≡ KeyFault)
  pub done : (keys bytes : List ℕ) (rest : Option (List ℕ)) (status : Status) →
      Consumes (Some keys) rest bytes → KeyEnds count asked Did bytes rest status → IsInForm count asked keys →
      ((lines : List (List ℕ)) × IsKeyFile count asked keys lines × Did lines status) ⊎ (status ≡ KeyFault)

-- so it is with `split` and `join` at each order
abbrev pub SplitDecides : Type 0
SplitDecides = (d : ℕ) (o : Sides) → KeysDecide 1 Any (SplitsLine d o)

abbrev pub JoinDecides : Type 0
JoinDecides = (d : ℕ) (before now : Option (List ℕ)) → d ≤ 7 → KeysDecide (suc d) Any (Joins before now)
