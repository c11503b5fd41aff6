-- The sizes of the message authentication codes, and how long the messages of LightMAC may be (ISO/IEC 29192-6).
use Rattle.std.specs.Prelude.{ℕ, ◌-◌, ◌*◌, ◌^◌, ◌==◌, if◌then◌else◌, nat_le}

-- how many bytes the counter of LightMAC has: 1, 2 or 4, and 4 where a task says none of these
abbrev pub counter_bytes : ℕ → ℕ
counter_bytes counter = if counter == 1 then 1 else if counter == 2 then 2 else 4

-- and its tag: 4 or 8, and 8 where a task says neither
abbrev pub lightmac_tag : ℕ → ℕ
lightmac_tag tag = if tag == 4 then 4 else 8

-- how many bytes the tag of Chaskey-12 has: 8 or 16, and 16 where a task says neither
abbrev pub chaskey_tag : ℕ → ℕ
chaskey_tag tag = if tag == 8 then 8 else 16

-- The most bytes of a message of LightMAC with a counter of s bytes: no counter comes twice, and 256 MiB at most.
abbrev pub longest_lightmac : ℕ → ℕ
longest_lightmac s = if nat_le (2 ^ (8 * s) * (8 - s)) (2 ^ 28) then 2 ^ (8 * s) * (8 - s) else 2 ^ 28
