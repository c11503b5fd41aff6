-- What the objects of the outside show before a run and after it.
use Rattle.std.specs.Prelude.{ℕ, List}
use Rattle.std.specs.declared.option.Option.{Option}
use Rattle.mask_eval.specs.Watching.{Told}

-- The bytes that key file, input and tape have left and that were written, and what the watch was told, each where the object
-- tells it; what the tape wants in the end; and the steps.
pub record Outside : Type 0 where
  pub keys_before : Option (List ℕ)
  pub keys_after : Option (List ℕ)
  pub left_before : Option (List ℕ)
  pub left_after : Option (List ℕ)
  pub tape_before : Option (List ℕ)
  pub tape_after : Option (List ℕ)
  pub wanted : ℕ
  pub out_before : Option (List ℕ)
  pub out_after : Option (List ℕ)
  pub told_before : Option (List Told)
  pub told_after : Option (List Told)
  pub steps_before : ℕ
  pub steps_after : ℕ
