-- What the code's word for a line stands for.
use Rattle.std.specs.Prelude.{◌≡◌, true}
use Rattle.mask_circuit.specs.Labels.{is_name}
use Rattle.mask_circuit.specs.Text as text
use Rattle.mask_text.specs.declared.said.Said.{Said}
use Rattle.mask_text.specs.declared.said.Said.TheVariants.{First, Second, Inputs, Input, Makes, Output, Out, End}

abbrev pub line_of : Said → text.Line
line_of First = text.First
line_of Second = text.Second
line_of (Inputs n) = text.Inputs n
line_of (Input name n) = text.Input name.now n
line_of (Makes gate) = text.Makes gate
line_of (Output name n) = text.Output name.now n
line_of (Out u) = text.Out u
line_of End = text.End

-- the name of a group is in form
abbrev pub HasNameInForm : text.Line → Type 0
HasNameInForm (text.Input name n) = is_name name ≡ true
HasNameInForm (text.Output name n) = is_name name ≡ true
HasNameInForm line = Unit {0}
