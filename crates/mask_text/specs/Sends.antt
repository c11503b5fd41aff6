-- What a writer has done to its sink.
use Rattle.std.specs.Prelude.{ℕ, Option, Result, Ok, Err, List}
use Rattle.std.specs.Io.KnownBytes.{Appends}
use Rattle.mask_io.specs.Outside.{AppendsProperPrefix}
use Rattle.mask_text.specs.declared.errors.WriteFault.{WriteFault}

-- Ok: the whole text was appended. A fault: a part of the text was appended, not all of it.
abbrev pub Sends : Result (Unit {0}) WriteFault → Option (List ℕ) → Option (List ℕ) → List ℕ → Type 0
Sends (Ok done) before now text = Appends before now text
Sends (Err fault) before now text = AppendsProperPrefix before now text
