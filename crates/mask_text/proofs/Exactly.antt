-- Exactly one of two holds of each list of bytes.
use Rattle.std.proofs.Common.{◌≡◌, ℕ, List, Result, Ok, Err, ◌⊎◌, inl, inr, refl, ap}
use Rattle.mask_circuit.specs.Labels.{LabelledNetlist}
use Rattle.mask_text.specs.Faults.{Fault, reading, fault, error_of}
use Rattle.mask_text.specs.Laws.{StandsForOne, IsFaulty}
use Rattle.mask_text.proofs.Sound.{sound}
use Rattle.mask_text.proofs.Complete.{complete}

pub exactly : (bytes : List ℕ) → StandsForOne bytes ⊎ IsFaulty bytes
unfolding fault
exactly bytes = by (reading bytes) refl
  where
    same : (l m : LabelledNetlist) → reading bytes ≡ Ok l → reading bytes ≡ Ok m → m ≡ l
    same l m e f = cc

    apart : (l : LabelledNetlist) (found : Fault) → reading bytes ≡ Ok l → reading bytes ≡ Err found → ⊥
    apart l found e f = cc

    by : (r : Result LabelledNetlist Fault) → reading bytes ≡ r → StandsForOne bytes ⊎ IsFaulty bytes
    by (Ok l) e = inl (record {
      labelled = l;
      stands = sound bytes l e;
      no_other = λ other text. same l other e (complete bytes other text);
      no_fault = ap error_of e;
    })
    by (Err found) e = inr (record {
      first = found;
      is_first = ap error_of e;
      stands_for_none = λ l text. apart l found (complete bytes l text) e;
    })
