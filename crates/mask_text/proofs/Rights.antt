-- What holds of a line of which nothing is wrong.
use Rattle.std.proofs.Common.{◌≡◌, Bool, true, false, not, cond, Some, None, refl}
use Rattle.mask_circuit.specs.Labels.{LabelledNetlist}
use Rattle.mask_circuit.specs.Text.{Line}
use Rattle.mask_text.specs.declared.errors.Reason.TheVariants.{UnknownValue, TooManyValues, BadName}
use Rattle.mask_text.specs.Faults.{has_taken_name, is_known, is_within, wrong}

-- what is right about a line that isn't wrong
pub record IsRight (l : LabelledNetlist) (line : Line) : Type 0 where
  pub fresh : has_taken_name l line ≡ false
  pub known : is_known l line ≡ true
  pub within : is_within l line ≡ true

pub right_means : (l : LabelledNetlist) (line : Line) → wrong l line ≡ None → IsRight l line
unfolding wrong
right_means l line e = by (has_taken_name l line) (is_known l line) (is_within l line) refl refl refl e
  where
    by : (a b d : Bool) → has_taken_name l line ≡ a → is_known l line ≡ b → is_within l line ≡ d
        → cond a (Some BadName) (cond (not b) (Some UnknownValue) (cond (not d) (Some TooManyValues) None)) ≡ None → IsRight l line
    by true b d ha hb hd e = cc
    by false false d ha hb hd e = cc
    by false true false ha hb hd e = cc
    by false true true ha hb hd e = record { fresh = ha; known = hb; within = hd }
