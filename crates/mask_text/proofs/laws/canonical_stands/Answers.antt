use Rattle.std.proofs.Common.{inl, inr, refl}
use Rattle.mask_circuit.specs.Text.{canonical, canonical2, first_lines, second_lines}
use Rattle.mask_text.proofs.Complete.{small-first, small-second}
use Rattle.mask_text.proofs.Canonical.{spoken-spelling}
use Rattle.mask_text.proofs.Sound.{plain-labelled}
use Rattle.mask_text.proofs.laws.canonical_stands.Goals as goal

pub returns-clause-first : goal.returns-clause-first
unfolding canonical
returns-clause-first c d is = record {
  labelled = plain-labelled d is;
  lines = inr (refl, spoken-spelling (first_lines d) (small-first d is));
}

pub returns-clause-second : goal.returns-clause-second
unfolding canonical2
returns-clause-second c l is = record {
  labelled = is;
  lines = inl (spoken-spelling (second_lines l) (small-second l is));
}
