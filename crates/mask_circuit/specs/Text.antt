-- The circuit text, as it is written: a circuit is a list of lines, and each line is a list of words.
use Rattle.std.specs.Prelude.{ℕ, List, [], ◌∷◌, ◌++◌, map, take, drop, codes, decimal}
use Rattle.std.specs.List.{flat_map}
use Rattle.mask_circuit.specs.declared.gates.Gate.{Gate}
use Rattle.mask_circuit.specs.declared.gates.Gate.TheVariants.{Zero, One, Xor, Not, And, Ref}
use Rattle.mask_circuit.specs.Netlist.{Netlist}
use Rattle.mask_circuit.specs.Labels.{NamedGroup, LabelledNetlist}

-- what a line of the text says
pub data Line : Type 0 where
  -- the text is of version 1, or of version 2
  First : Line
  Second : Line
  -- version 1: there are so many inputs
  Inputs : ℕ → Line
  -- version 2: so many inputs stand in a group of this name
  Input : List ℕ → ℕ → Line
  -- this gate comes next
  Makes : Gate → Line
  -- version 2: the next so many outputs stand in a group of this name
  Output : List ℕ → ℕ → Line
  -- this value is handed out
  Out : ℕ → Line
  End : Line

-- the words of a gate's line
abbrev pub gate_words : Gate → List (List ℕ)
gate_words Zero = codes "zero" ∷ []
gate_words One = codes "one" ∷ []
gate_words (Xor u v) = codes "xor" ∷ (decimal u ∷ (decimal v ∷ []))
gate_words (Not u) = codes "not" ∷ (decimal u ∷ [])
gate_words (And u v) = codes "and" ∷ (decimal u ∷ (decimal v ∷ []))
gate_words (Ref u) = codes "ref" ∷ (decimal u ∷ [])

-- the words of a line
abbrev pub line_words : Line → List (List ℕ)
line_words First = codes "masked-circuit" ∷ (codes "1" ∷ [])
line_words Second = codes "masked-circuit" ∷ (codes "2" ∷ [])
line_words (Inputs n) = codes "inputs" ∷ (decimal n ∷ [])
line_words (Input name n) = codes "input" ∷ (name ∷ (decimal n ∷ []))
line_words (Makes gate) = gate_words gate
line_words (Output name n) = codes "output" ∷ (name ∷ (decimal n ∷ []))
line_words (Out u) = codes "out" ∷ (decimal u ∷ [])
line_words End = codes "end" ∷ []

-- the lines of version 1, but the last
unfoldable pub first_front : Netlist → List Line
first_front c = First ∷ (Inputs c.inputs ∷ (map Makes c.gates ++ map Out c.outputs))

-- each group of outputs, and behind it the outputs that stand in it
abbrev pub output_lines : List NamedGroup → List ℕ → List Line
output_lines [] us = []
output_lines (g ∷ gs) us = Output g.name g.size ∷ (map Out (take g.size us) ++ output_lines gs (drop g.size us))

-- the lines of version 2, but the last
unfoldable pub second_front : LabelledNetlist → List Line
second_front l = Second ∷ (map (λ g. Input g.name g.size) l.inputs
    ++ (map Makes l.circuit.gates ++ output_lines l.outputs l.circuit.outputs))

-- the lines that stand for a circuit in version 1, and for a labelled circuit in version 2
abbrev pub first_lines : Netlist → List Line
first_lines c = first_front c ++ End ∷ []

abbrev pub second_lines : LabelledNetlist → List Line
second_lines l = second_front l ++ End ∷ []

-- words with a space between them
abbrev pub spaced : List (List ℕ) → List ℕ
spaced [] = []
spaced (word ∷ []) = word
spaced (word ∷ (next ∷ words)) = word ++ (32 ∷ spaced (next ∷ words))

-- the lines as they are written, with a line feed behind each
abbrev pub spelling : List Line → List ℕ
spelling lines = flat_map (λ line. spaced (line_words line) ++ 10 ∷ []) lines

-- the one spelling of a circuit that is written in version 1, and the one of a labelled circuit in version 2
unfoldable pub canonical : Netlist → List ℕ
canonical c = spelling (first_lines c)

unfoldable pub canonical2 : LabelledNetlist → List ℕ
canonical2 l = spelling (second_lines l)
