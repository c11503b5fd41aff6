-- The lengths of keys and messages, task by task.
use Rattle.std.specs.Prelude.{◌≡◌, ℕ, ◌+◌, ◌^◌, length}
use Rattle.mask_tasks.specs.declared.tasks.Task.{Task}
use Rattle.mask_tasks.specs.declared.tasks.Task.TheVariants.{Present, Lea, Trivium, LightMac, Chaskey}
use Rattle.mask_tasks.specs.Sizes.{present_bytes, lea_bytes}
use Rattle.mask_tasks.specs.Limits.{counter_bytes, longest_lightmac}

-- the length of a key in bytes; that of LightMAC is K1 and then K2
abbrev pub key_bytes : Task → ℕ
key_bytes (Present size iv) = present_bytes size
key_bytes (Lea size iv) = lea_bytes size
key_bytes (Trivium iv) = 10
key_bytes (LightMac size counter tag) = present_bytes size + present_bytes size
key_bytes (Chaskey tag) = 16

-- the most bytes of a message: 256 MiB, or fewer where LightMAC has no counters for more
abbrev pub longest_message : Task → ℕ
longest_message (Present size iv) = 2 ^ 28
longest_message (Lea size iv) = 2 ^ 28
longest_message (Trivium iv) = 2 ^ 28
longest_message (LightMac size counter tag) = longest_lightmac (counter_bytes counter)
longest_message (Chaskey tag) = 2 ^ 28

-- A task, as the values of its type are: an IV of Trivium has ten bytes.
abbrev pub IsTask : Task → Type 0
IsTask (Present size iv) = Unit {0}
IsTask (Lea size iv) = Unit {0}
IsTask (Trivium iv) = length iv ≡ 10
IsTask (LightMac size counter tag) = Unit {0}
IsTask (Chaskey tag) = Unit {0}
