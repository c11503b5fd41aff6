-- The tasks: what each makes of a key and a message, by the standard of its cipher, and the steps that compute it.
use Rattle.std.specs.Prelude.{ℕ, ◌*◌, Bool, false, List, [], ◌++◌, map, take, drop, slice_index_or}
use Rattle.mask_bits.specs.Reading.{low, high, number}
use Rattle.mask_circuit.specs.Wires.{each}
use Rattle.mask_tasks.specs.declared.sizes.KeySize.{KeySize}
use Rattle.mask_tasks.specs.declared.sizes.LeaSize.{LeaSize}
use Rattle.mask_tasks.specs.declared.tasks.Task.{Task}
use Rattle.mask_tasks.specs.declared.tasks.Task.TheVariants.{Present, Lea, Trivium, LightMac, Chaskey}
use Rattle.mask_tasks.specs.Sizes.{present_bytes, lea_bytes}
use Rattle.mask_tasks.specs.Limits.{counter_bytes, lightmac_tag, chaskey_tag}
use Rattle.mask_tasks.specs.Tasks.{key_bytes}
use Rattle.mask_present.specs.Present.{present}
use Rattle.mask_present.specs.NamedPresent.{named_present}
use Rattle.mask_lea.specs.Lea.{lea}
use Rattle.mask_lea.specs.NamedLea.{named_lea}
use Rattle.mask_refresh.specs.Refreshing.{refreshing}
use Rattle.mask_lightmac.specs.LightMac.{lightmac}
use Rattle.mask_chaskey.specs.Chaskey.{chaskey_mac}
use Rattle.mask_trace.specs.Steps.{Registers, Step}
use Rattle.mask_trace.specs.Traces.{BitShares}
use Rattle.mask_modes.specs.CounterMode.{counter_mode}
use Rattle.mask_modes.specs.Steps.{Mode, Cipher, on_numbers, on_little_numbers}
use Rattle.mask_streams.specs.Streams.{stream_cipher}
use Rattle.mask_macs.specs.Codes.{chaskey_code, lightmac_code}
use Rattle.mask_ciphers.specs.Methods as methods

-- PRESENT on blocks of eight bytes: big-endian numbers (ISO/IEC 29192-2)
abbrev pub present_cipher : KeySize → Cipher
present_cipher size = on_numbers 8 (λ key. present size (number key))

-- LEA on blocks of sixteen bytes: little-endian numbers (ISO/IEC 29192-2)
abbrev pub lea_cipher : LeaSize → Cipher
lea_cipher size = on_little_numbers 16 (λ key. lea size (number key))

-- the bits of a key, as the task reads its bytes: those of LightMAC are K1 and then K2, each by itself
abbrev pub key_bits : Task → List ℕ → List Bool
key_bits (Present size iv) key = high key
key_bits (Lea size iv) key = low key
key_bits (Trivium iv) key = low key
key_bits (LightMac size counter tag) key = high (take (present_bytes size) key) ++ high (drop (present_bytes size) key)
key_bits (Chaskey tag) key = low key

-- What is written of a message under a key: with a block cipher its ciphertext in counter mode (ISO/IEC 10116), where the first
-- counter is the IV; with Trivium its XOR with the keystream (ISO/IEC 29192-3); and of a code its tag (ISO/IEC 29192-6).
unfoldable pub output : Task → List ℕ → List ℕ → List ℕ
output (Present size iv) key message = counter_mode 8 iv (present_cipher size (high key)) message
output (Lea size iv) key message = counter_mode 16 iv (lea_cipher size (low key)) message
output (Trivium iv) key message = stream_cipher key iv message
output (LightMac size counter tag) key message = lightmac size (counter_bytes counter) (lightmac_tag tag) key message
output (Chaskey tag) key message = chaskey_mac key message (chaskey_tag tag)

-- how the circuits of PRESENT are used
abbrev pub present_mode : KeySize → ℕ → Mode
present_mode size iv = record {
  circuit = named_present size;
  refresh = refreshing (8 * present_bytes size);
  key = 8 * present_bytes size;
  block = 8;
  reading = high;
  iv = iv;
}

-- and those of LEA
abbrev pub lea_mode : LeaSize → ℕ → Mode
lea_mode size iv = record {
  circuit = named_lea size;
  refresh = refreshing (8 * lea_bytes size);
  key = 8 * lea_bytes size;
  block = 16;
  reading = low;
  iv = iv;
}

-- by which method a message is taken
abbrev pub method_of : Task → methods.Method
method_of (Present size iv) = methods.InCounterMode (present_mode size iv) (present_cipher size)
method_of (Lea size iv) = methods.InCounterMode (lea_mode size iv) (lea_cipher size)
method_of (Trivium iv) = methods.AsStream iv
method_of (LightMac size counter tag) = methods.AsCode (lightmac_code size (counter_bytes counter) (lightmac_tag tag))
method_of (Chaskey tag) = methods.AsCode (chaskey_code (chaskey_tag tag))

-- the steps of a run on a message
abbrev pub plan : Task → List ℕ → List Step
plan task message = methods.plan (method_of task) message

-- What is written of whole batches, behind which more of the message comes: their ciphertext, and nothing of a tag.
unfoldable pub fed_output : Task → List ℕ → List ℕ → List ℕ
fed_output (Present size iv) key front = output (Present size iv) key front
fed_output (Lea size iv) key front = output (Lea size iv) key front
fed_output (Trivium iv) key front = output (Trivium iv) key front
fed_output (LightMac size counter tag) key front = []
fed_output (Chaskey tag) key front = []

-- the shares of the bits of a key that is split into lines: share i of a bit is its bit in line i
unfoldable pub key_shares : Task → List (List ℕ) → List BitShares
key_shares task lines = each (λ j. map (λ (line : List ℕ). slice_index_or (key_bits task line) j false) lines) (8 * key_bytes task)

-- what a run has in shares at its beginning
abbrev pub with_lines : Task → List (List ℕ) → Registers BitShares
with_lines task lines = record { key = key_shares task lines; state = [] }

-- and the bits that it holds then, under a key
abbrev pub held_at_first : Task → List ℕ → Registers Bool
held_at_first task key = record { key = key_bits task key; state = [] }
