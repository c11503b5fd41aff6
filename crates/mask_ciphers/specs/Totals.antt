-- How many random bits a run draws at order d, on n bytes: the table that users plan their generators by.
use Rattle.std.specs.Prelude.{ℕ, ◌+◌, ◌-◌, ◌*◌, ◌/◌}
use Rattle.mask_tasks.specs.declared.sizes.KeySize.{KeySize}
use Rattle.mask_tasks.specs.declared.sizes.KeySize.TheVariants.{K80, K128}
use Rattle.mask_tasks.specs.declared.sizes.LeaSize.{LeaSize}
use Rattle.mask_tasks.specs.declared.sizes.LeaSize.TheVariants as lea_size
use Rattle.mask_tasks.specs.declared.tasks.Task.{Task}
use Rattle.mask_tasks.specs.declared.tasks.Task.TheVariants.{Present, Lea, Trivium, LightMac, Chaskey}
use Rattle.mask_parts.specs.CipherCircuits.{gate_bits}
use Rattle.mask_streams.specs.Streams.{stream_bits}
use Rattle.mask_tasks.specs.Limits.{counter_bytes}
use Rattle.mask_macs.specs.LightMacRuns.{lightmac_bits}
use Rattle.mask_macs.specs.ChaskeyRuns.{chaskey_bits}

-- how many products and refreshes a block takes, and a refresh of the key
abbrev pub present_gates : KeySize → ℕ
present_gates K80 = 5_334
present_gates K128 = 5_644

abbrev pub present_key_gates : KeySize → ℕ
present_key_gates K80 = 80
present_key_gates K128 = 128

abbrev pub lea_gates : LeaSize → ℕ
lea_gates lea_size.K128 = 10_544
lea_gates lea_size.K192 = 15_752
lea_gates lea_size.K256 = 17_984

abbrev pub lea_key_gates : LeaSize → ℕ
lea_key_gates lea_size.K128 = 128
lea_key_gates lea_size.K192 = 192
lea_key_gates lea_size.K256 = 256

-- so many blocks of b bits, each with d bits for each bit and those of its gates; and a refresh of the key ahead of each 64 of
-- them but the first
abbrev pub counter_bits : ℕ → ℕ → ℕ → ℕ → ℕ → ℕ
counter_bits b gates refreshes d count =
    count * (d * b + gates * gate_bits d) + ((count + 63) / 64 - 1) * (refreshes * gate_bits d)

unfoldable pub total : Task → ℕ → ℕ → ℕ
total (Present size iv) d n = counter_bits 64 (present_gates size) (present_key_gates size) d ((n + 7) / 8)
total (Lea size iv) d n = counter_bits 128 (lea_gates size) (lea_key_gates size) d ((n + 15) / 16)
total (Trivium iv) d n = stream_bits d ((n + 7) / 8)
total (LightMac size counter tag) d n = lightmac_bits size (counter_bytes counter) d n
total (Chaskey tag) d n = chaskey_bits d n
