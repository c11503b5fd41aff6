-- The first fault of a text that stands for no circuit.
use Rattle.std.specs.Prelude.{ℕ, ◌+◌, Bool, true, false, not, ◌&&◌, ◌==◌, nat_le, nat_lt, if◌then◌else◌, Option, Some, None, Result, Ok, Err, List, [], ◌∷◌, ◌++◌, length}
use Rattle.mask_circuit.specs.declared.gates.Gate.{Gate}
use Rattle.mask_circuit.specs.declared.gates.Gate.TheVariants.{Zero, One, Xor, Not, And, Ref}
use Rattle.mask_circuit.specs.Netlist.{value_count, only_inputs, with_gate, with_output}
use Rattle.mask_circuit.specs.Labels.{LabelledNetlist, is_taken, sizes, with_plain_groups}
use Rattle.mask_circuit.specs.Text.{Line, First, Second, Inputs, Input, Makes, Output, Out, End}
use Rattle.mask_text.specs.Lines.{text_lines, words, is_passed_over}
use Rattle.mask_text.specs.Sayings.{said}
use Rattle.mask_text.specs.declared.section.Section.{Section}
use Rattle.mask_text.specs.declared.section.Section.TheVariants.{Start, Size, Plain, Named, Ended}
use Rattle.mask_text.specs.declared.errors.Reason.{Reason}
use Rattle.mask_text.specs.declared.errors.Reason.TheVariants.{BadHeader, BadLine, UnknownValue, NoEnd, AfterEnd, TooManyValues, BadName}

-- where in the text the next line stands, and the labelled circuit that the lines before it stand for
pub record Draft : Type 0 where
  pub section : Section
  pub so_far : LabelledNetlist

abbrev pub at : Section → LabelledNetlist → Draft
at section l = record { section = section; so_far = l }

abbrev pub of_inputs : ℕ → LabelledNetlist
of_inputs n = record { circuit = only_inputs n; inputs = []; outputs = [] }

-- the same with one more group of inputs, gate, group of outputs, or output
abbrev pub more_inputs : LabelledNetlist → List ℕ → ℕ → LabelledNetlist
more_inputs l name n = record {
  circuit = record l.circuit { inputs = l.circuit.inputs + n };
  inputs = l.inputs ++ record { name = name; size = n } ∷ [];
  outputs = l.outputs;
}

abbrev pub more_gate : LabelledNetlist → Gate → LabelledNetlist
more_gate l gate = record l { circuit = with_gate l.circuit gate }

abbrev pub more_outputs : LabelledNetlist → List ℕ → ℕ → LabelledNetlist
more_outputs l name n = record l { outputs = l.outputs ++ record { name = name; size = n } ∷ [] }

abbrev pub more_out : LabelledNetlist → ℕ → LabelledNetlist
more_out l u = record l { circuit = with_output l.circuit u }

-- no output is missing in the groups so far
abbrev pub is_full : LabelledNetlist → Bool
is_full l = nat_le (sizes l.outputs) (length l.circuit.outputs)

abbrev pub has_no_gates : LabelledNetlist → Bool
has_no_gates l = length l.circuit.gates == 0

abbrev pub has_no_groups_out : LabelledNetlist → Bool
has_no_groups_out l = length l.outputs == 0

abbrev pub if_so : Bool → Section → LabelledNetlist → Option Draft
if_so test section l = if test then Some (at section l) else None

-- The table of lines that may stand in a section, and what the text stands for with that line. In version 2 inputs come
-- first, then gates, then outputs; a group of outputs comes only where no output is missing in those before it.
unfoldable pub goes_on : Section → LabelledNetlist → Line → Option Draft
goes_on Start l First = Some (at Size l)
goes_on Start l Second = Some (at Named l)
goes_on Size l (Inputs n) = Some (at Plain (record l { circuit = only_inputs n }))
goes_on Plain l (Makes gate) = if_so (length l.circuit.outputs == 0) Plain (more_gate l gate)
goes_on Plain l (Out u) = Some (at Plain (more_out l u))
goes_on Plain l End = Some (at Ended (with_plain_groups l.circuit))
goes_on Named l (Input name n) = if_so (has_no_gates l && has_no_groups_out l) Named (more_inputs l name n)
goes_on Named l (Makes gate) = if_so (has_no_groups_out l) Named (more_gate l gate)
goes_on Named l (Output name n) = if_so (is_full l) Named (more_outputs l name n)
goes_on Named l (Out u) = if_so (not (is_full l)) Named (more_out l u)
goes_on Named l End = if_so (is_full l) Ended l
goes_on section l line = None

-- what is wrong with a line that may not stand in this section
abbrev pub misplaced : Section → Reason
misplaced Start = BadHeader
misplaced Size = BadHeader
misplaced Plain = BadLine
misplaced Named = BadLine
misplaced Ended = AfterEnd

-- an earlier line of its kind has the same name
unfoldable pub has_taken_name : LabelledNetlist → Line → Bool
has_taken_name l (Input name n) = is_taken name l.inputs
has_taken_name l (Output name n) = is_taken name l.outputs
has_taken_name l line = false

-- the operands are below n
unfoldable pub are_below : ℕ → Gate → Bool
are_below n Zero = true
are_below n One = true
are_below n (Xor u v) = nat_lt u n && nat_lt v n
are_below n (Not u) = nat_lt u n
are_below n (And u v) = nat_lt u n && nat_lt v n
are_below n (Ref u) = nat_lt u n

-- its operands are values so far
unfoldable pub is_known : LabelledNetlist → Line → Bool
is_known l (Makes gate) = are_below (value_count l.circuit) gate
is_known l (Out u) = nat_lt u (value_count l.circuit)
is_known l line = true

-- with it the circuit has at most 1,000,000 values and 1,000,000 outputs, and at most 1,000 groups of either
unfoldable pub is_within : LabelledNetlist → Line → Bool
is_within l (Inputs n) = nat_le n 1_000_000
is_within l (Input name n) = nat_lt (length l.inputs) 1_000 && nat_le (l.circuit.inputs + n) 1_000_000
is_within l (Makes gate) = nat_lt (value_count l.circuit) 1_000_000
is_within l (Output name n) = nat_lt (length l.outputs) 1_000 && nat_le (sizes l.outputs + n) 1_000_000
is_within l (Out u) = nat_lt (length l.circuit.outputs) 1_000_000
is_within l line = true

-- what is wrong with a line that may stand where it does
unfoldable pub wrong : LabelledNetlist → Line → Option Reason
wrong l line = if has_taken_name l line then Some BadName else
    if not (is_known l line) then Some UnknownValue else
    if not (is_within l line) then Some TooManyValues else None

-- the draft with one more line, or what is wrong with it
abbrev pub unless_wrong : Draft → Option Reason → Result Draft Reason
unless_wrong d None = Ok d
unless_wrong d (Some reason) = Err reason

abbrev pub unless_misplaced : Draft → Line → Option Draft → Result Draft Reason
unless_misplaced d line None = Err (misplaced d.section)
unless_misplaced d line (Some next) = unless_wrong next (wrong d.so_far line)

abbrev pub unless_unsaid : Draft → Option Line → Result Draft Reason
unless_unsaid d None = Err (misplaced d.section)
unless_unsaid d (Some line) = unless_misplaced d line (goes_on d.section d.so_far line)

-- the same for the words of any line
unfoldable pub step : Draft → List (List ℕ) → Result Draft Reason
step d words = if is_passed_over words then Ok d else unless_unsaid d (said words)

-- the number of a line, from 1, and what is wrong with it
pub record Fault : Type 0 where
  pub line : ℕ
  pub reason : Reason

abbrev pub fault_at : ℕ → Reason → Fault
fault_at n reason = record { line = n; reason = reason }

-- the text ends here
abbrev pub at_end : Section → LabelledNetlist → ℕ → Result LabelledNetlist Fault
at_end Ended l n = Ok l
at_end section l n = Err (fault_at n NoEnd)

abbrev pub going_on : ℕ → (Draft → Result LabelledNetlist Fault) → Result Draft Reason → Result LabelledNetlist Fault
going_on n go (Ok d) = go d
going_on n go (Err reason) = Err (fault_at n reason)

-- Reads lines, of which the first has the number n. A text that ends without an end is at fault behind its last line.
unfoldable pub read_from : Draft → ℕ → List (List ℕ) → Result LabelledNetlist Fault
read_from d n [] = at_end d.section d.so_far n
read_from d n (line ∷ lines) = going_on n (λ next. read_from next (n + 1) lines) (step d (words line))

abbrev pub at_start : Draft
at_start = at Start (of_inputs 0)

-- what a text stands for, or its first fault
unfoldable pub reading : List ℕ → Result LabelledNetlist Fault
reading bytes = read_from at_start 1 (text_lines bytes)

abbrev pub error_of : Result LabelledNetlist Fault → Option Fault
error_of (Ok l) = None
error_of (Err fault) = Some fault

-- the first fault of a text
unfoldable pub fault : List ℕ → Option Fault
fault bytes = error_of (reading bytes)
