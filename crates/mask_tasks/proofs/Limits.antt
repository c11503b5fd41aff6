-- What the sizes of the message authentication codes may be, and how long messages are at most.
use Rattle.std.proofs.Common.{◌≡◌, ◌⊎◌, ℕ, ◌-◌, ◌*◌, ◌^◌, ◌<◌, ◌≤◌, nat_le, if◌then◌else◌, arith}
use Rattle.std.proofs.lemmas.Bool.Decides.{nat_tests}
use Rattle.mask_tasks.specs.declared.tasks.Task.{Task}
use Rattle.mask_tasks.specs.declared.tasks.Task.TheVariants.{Present, Lea, Trivium, LightMac, Chaskey}
use Rattle.mask_tasks.specs.Limits.{counter_bytes, lightmac_tag, chaskey_tag, longest_lightmac}
use Rattle.mask_tasks.specs.Tasks.{longest_message}

pub each_counter : (n : ℕ) → (counter_bytes n ≡ 1) ⊎ ((counter_bytes n ≡ 2) ⊎ (counter_bytes n ≡ 4))
each_counter n = grind (arith, nat_tests)

pub counter_bytes-bounds : (n : ℕ) → (0 < counter_bytes n) × (counter_bytes n < 8)
counter_bytes-bounds n = grind (arith, nat_tests)

pub lightmac_tag-bounds : (n : ℕ) → (0 < lightmac_tag n) × (lightmac_tag n ≤ 8)
lightmac_tag-bounds n = grind (arith, nat_tests)

pub chaskey_tag-bounds : (n : ℕ) → (0 < chaskey_tag n) × (chaskey_tag n ≤ 16)
chaskey_tag-bounds n = grind (arith, nat_tests)

-- the lesser of two numbers
lesser : (m n : ℕ) → let s = if nat_le m n then m else n in (s ≤ m) × (s ≤ n)
lesser m n = grind (arith, nat_tests)

pub longest_lightmac-bounds : (s : ℕ) → longest_lightmac s ≤ 2 ^ 28
longest_lightmac-bounds s = (lesser (2 ^ (8 * s) * (8 - s)) (2 ^ 28)).1

pub longest_lightmac-pieces : (s : ℕ) → longest_lightmac s ≤ 2 ^ (8 * s) * (8 - s)
longest_lightmac-pieces s = (lesser (2 ^ (8 * s) * (8 - s)) (2 ^ 28)).0

pub longest_message-bounds : (task : Task) → longest_message task ≤ 2 ^ 28
longest_message-bounds (Present size iv) = omega arith
longest_message-bounds (Lea size iv) = omega arith
longest_message-bounds (Trivium iv) = omega arith
longest_message-bounds (LightMac size counter tag) = longest_lightmac-bounds (counter_bytes counter)
longest_message-bounds (Chaskey tag) = omega arith
