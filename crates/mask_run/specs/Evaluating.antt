-- What `eval` does where no check fails; text is what it took of the input, HEX the last word, and d the order.
use Rattle.std.specs.Prelude.{◌≡◌, ℕ, ◌≤◌, Bool, List}
use Rattle.std.specs.declared.option.Option.{Option}
use Rattle.mask_bits.specs.Reading.{bytes_for}
use Rattle.mask_circuit.specs.Netlist.{Netlist}
use Rattle.mask_circuit.specs.Value.{plain}
use Rattle.mask_circuit.specs.Acceptance.{IsAccepted}
use Rattle.mask_text.specs.Text.{IsTextOf}
use Rattle.mask_words.specs.WordTests.{Word}
use Rattle.mask_words.specs.Naming.{hex_bytes}
use Rattle.mask_status.specs.declared.status.Status.{Status}
use Rattle.mask_status.specs.declared.status.Status.TheVariants.{TapeFault}
use Rattle.mask_inspect.specs.Checks.{FitInputs}
use Rattle.mask_inspect.specs.Ends.{IsRead}
use Rattle.mask_status.specs.Ends.{Writes}
use Rattle.mask_run.specs.Hexadecimal.{input_bits, IsInputOf, IsReport}
use Rattle.mask_message.specs.Outside.{Outside}
use Rattle.mask_run.specs.Outside.{IsIdle}
use Rattle.mask_run.specs.Calls.{eval_bits, Evaluates}

-- an accepted circuit for which the text stands, and whose inputs HEX fits
pub record IsReady (text : List ℕ) (hex : Word) (c : Netlist) : Type 0 where
  pub is_text : IsTextOf text c
  pub fit : FitInputs (hex_bytes hex) c.inputs
  pub accepted : IsAccepted c

-- the bits of the call were drawn, and the watch was told the call
abbrev pub EvaluatesOn : Netlist → ℕ → Word → Outside → Type 0
EvaluatesOn c d hex o = Evaluates c d (input_bits hex c.inputs) o.tape_before o.tape_after o.told_before o.told_after

-- The output bits of the circuit on the bits of HEX were evaluated and printed: the line was written, or a part of it.
pub record Prints (text : List ℕ) (hex : Word) (d : ℕ) (o : Outside) (status : Status) : Type 0 where
  pub circuit : Netlist
  pub line : List ℕ
  pub ready : IsReady text hex circuit
  pub report : IsReport (plain circuit (input_bits hex circuit.inputs)) line
  pub written : Writes line o.out_before o.out_after status
  pub evaluates : EvaluatesOn circuit d hex o

-- The tape failed: it wants just the bytes of the call, and nothing was drawn and nothing told.
pub record FailsToDraw (text : List ℕ) (hex : Word) (d : ℕ) (o : Outside) : Type 0 where
  pub circuit : Netlist
  pub ready : IsReady text hex circuit
  pub wanted : o.wanted ≡ bytes_for (eval_bits circuit d)
  pub some : 1 ≤ o.wanted
  pub idle : IsIdle o

abbrev pub Evaluated : List ℕ → Word → ℕ → Outside → Status → Type 0
Evaluated text hex d o TapeFault = FailsToDraw text hex d o
Evaluated text hex d o status = Prints text hex d o status

-- the text was read, and these are the bits of HEX for an accepted circuit
pub record Prepares (text : List ℕ) (rest : Option (List ℕ)) (hex : Word) (c : Netlist) (inputs : List Bool) : Type 0 where
  pub read : IsRead text rest c
  pub accepted : IsAccepted c
  pub is_input : IsInputOf hex c.inputs inputs
