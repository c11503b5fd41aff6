-- What `upgrade` writes.
use Rattle.std.specs.Prelude.{ℕ, List}
use Rattle.std.specs.declared.option.Option.{Option}
use Rattle.mask_circuit.specs.Labels.{LabelledNetlist}
use Rattle.mask_circuit.specs.Text.{canonical2}
use Rattle.mask_text.specs.Text.{IsText}
use Rattle.mask_status.specs.declared.status.Status.{Status}
use Rattle.mask_status.specs.Ends.{Writes}

-- the one spelling of the labelled circuit for which the text stands was written, or a part of it
pub record PrintsSpelling (text : List ℕ) (before now : Option (List ℕ)) (status : Status) : Type 0 where
  pub labelled : LabelledNetlist
  pub is_text : IsText text labelled
  pub written : Writes (canonical2 labelled) before now status
