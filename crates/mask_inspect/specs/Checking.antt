-- What `check` writes.
use Rattle.std.specs.Prelude.{◌≡◌, ℕ, Bool, true, List, ◌++◌, codes, decimal, if◌then◌else◌}
use Rattle.std.specs.declared.option.Option.{Option}
use Rattle.mask_circuit.specs.Netlist.{Netlist, value_count, product_count, refresh_count}
use Rattle.mask_circuit.specs.Acceptance.{IsAccepted, IsStrong}
use Rattle.mask_check.specs.Security.{IsNIAtEachOrder, IsSNIAtEachOrder}
use Rattle.mask_text.specs.Text.{IsTextOf}
use Rattle.mask_status.specs.declared.status.Status.{Status}
use Rattle.mask_status.specs.Ends.{Writes}

-- the line for these counts
abbrev pub check_line : ℕ → ℕ → ℕ → Bool → List ℕ
check_line values products refreshes is_strong =
    codes "accepted values=" ++ decimal values ++ codes " and=" ++ decimal products ++ codes " ref=" ++ decimal refreshes
    ++ (if is_strong then codes " strong=yes\n" else codes " strong=no\n")

-- the answer says whether the circuit is strong; a strong one is strongly non-interfering with any number of shares
pub record TellsStrong (c : Netlist) (is_strong : Bool) : Type 0 where
  pub only : is_strong ≡ true → IsStrong c
  pub always : IsStrong c → is_strong ≡ true
  pub secure : IsStrong c → IsSNIAtEachOrder c

-- the line says so, with yes or no
abbrev pub SaysStrong : Netlist → (Bool → List ℕ) → List ℕ → Type 0
SaysStrong c line_for line = (is_strong : Bool) × (line ≡ line_for is_strong) × TellsStrong c is_strong

-- The circuit is accepted, and so non-interfering with any number of shares; the line has its counts, and says yes exactly
-- where it is strong.
pub record IsJudged (c : Netlist) (line : List ℕ) : Type 0 where
  pub accepted : IsAccepted c
  pub secure : IsNIAtEachOrder c
  pub says : SaysStrong c (check_line (value_count c) (product_count c) (refresh_count c)) line

-- the line of a circuit for which the text stands was written, or a part of it
pub record PrintsVerdict (text : List ℕ) (before now : Option (List ℕ)) (status : Status) : Type 0 where
  pub circuit : Netlist
  pub line : List ℕ
  pub is_text : IsTextOf text circuit
  pub judged : IsJudged circuit line
  pub written : Writes line before now status
