-- What a run asks of its session, and what it finds of it.
use Rattle.std.specs.Prelude.{◌≡◌, ℕ, ◌+◌, Bool, List, length}
use Rattle.mask_tasks.specs.Tasks.{key_bytes}
use Rattle.mask_keys.specs.Lines.{joined, line_length}
use Rattle.mask_trace.specs.Values.{values_of}
use Rattle.mask_ciphers.specs.Methods.{next_length}
use Rattle.mask_ciphers.specs.Tasks.{held_at_first, method_of, with_lines}
use Rattle.mask_plan.specs.Sessions.{Progress, Begins}

-- The session begins under the key that these lines are shares of.
pub record HasKeyOf (lines : List (List ℕ)) (s : Progress) : Type 0 where
  pub begins : Begins s.task (with_lines s.task lines) s
  pub long : line_length lines ≡ key_bytes s.task
  pub key : values_of (with_lines s.task lines) ≡ held_at_first s.task (joined lines)

-- It took these bytes, the last of the message or not, and stands behind them.
abbrev pub HasTaken : Progress → Progress → List ℕ → Bool → Type 0
HasTaken s s' piece last = s' ≡ record s { held = s'.held; fed = s.fed + length piece; ended = last; written = next_length (method_of s.task) piece last; outputs = s'.outputs }
