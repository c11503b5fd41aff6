-- The lengths of keys in bytes.
use Rattle.std.specs.Prelude.{ℕ}
use Rattle.mask_tasks.specs.declared.sizes.KeySize.{KeySize}
use Rattle.mask_tasks.specs.declared.sizes.KeySize.TheVariants.{K80, K128}
use Rattle.mask_tasks.specs.declared.sizes.LeaSize.{LeaSize}
use Rattle.mask_tasks.specs.declared.sizes.LeaSize.TheVariants as lea

abbrev pub present_bytes : KeySize → ℕ
present_bytes K80 = 10
present_bytes K128 = 16

abbrev pub lea_bytes : LeaSize → ℕ
lea_bytes lea.K128 = 16
lea_bytes lea.K192 = 24
lea_bytes lea.K256 = 32
