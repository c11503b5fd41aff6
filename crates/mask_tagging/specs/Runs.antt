-- A run of LightMAC or of Chaskey-12 between its pieces.
use Rattle.std.specs.Prelude.{ℕ}
use Rattle.mask_tagging.specs.declared.runs.TagRun.{TagRun}
use Rattle.mask_tagging.specs.declared.runs.TagRun.TheVariants.{LightMac, Chaskey}
use Rattle.mask_tagging.specs.Tagging.{Between}

abbrev pub between : {N : ℕ} → TagRun N → Between
between (LightMac run) = run
between (Chaskey run) = run
