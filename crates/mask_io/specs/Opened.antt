-- What contracts see of what was opened by name.
use Rattle.std.specs.Prelude.{ℕ}
use Rattle.mask_io.specs.declared.opened.OpenSource.{OpenSource}
use Rattle.mask_io.specs.declared.opened.OpenSource.TheVariants as sources
use Rattle.mask_io.specs.declared.opened.OpenEntropy.{OpenEntropy}
use Rattle.mask_io.specs.declared.opened.OpenEntropy.TheVariants as entropies

abbrev pub source_faults : {R : Type 0} → OpenSource R → ℕ
source_faults (sources.File s) = s.faults
source_faults (sources.Closed faults) = faults

abbrev pub entropy_faults : {R : Type 0} → OpenEntropy R → ℕ
entropy_faults (entropies.Seed s) = 0
entropy_faults (entropies.File s) = s.faults
entropy_faults (entropies.Closed s) = s.faults

abbrev pub entropy_wanted : {R : Type 0} → OpenEntropy R → ℕ
entropy_wanted (entropies.Seed s) = 0
entropy_wanted (entropies.File s) = s.wanted
entropy_wanted (entropies.Closed s) = s.wanted
