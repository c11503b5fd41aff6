-- Which texts stand for which labelled circuits.
use Rattle.std.specs.Prelude.{◌≡◌, ℕ, List, map, ◌⊎◌}
use Rattle.mask_circuit.specs.Netlist.{Netlist}
use Rattle.mask_circuit.specs.Labels.{LabelledNetlist, IsLabelled, with_plain_groups}
use Rattle.mask_circuit.specs.Text.{line_words, first_lines, second_lines}
use Rattle.mask_text.specs.Lines.{spoken}

-- What the text says are the words of the lines of the labelled circuit in version 2, or, where its groups are the
-- plain ones, those of its circuit in version 1.
pub record IsText (bytes : List ℕ) (l : LabelledNetlist) : Type 0 where
  pub labelled : IsLabelled l
  pub lines : (spoken bytes ≡ map line_words (second_lines l))
      ⊎ ((l ≡ with_plain_groups l.circuit) × (spoken bytes ≡ map line_words (first_lines l.circuit)))

-- The text stands for a labelled circuit whose circuit is this one.
abbrev pub IsTextOf : List ℕ → Netlist → Type 0
IsTextOf bytes c = (l : LabelledNetlist) × IsText bytes l × (l.circuit ≡ c)
