-- A run of the stream cipher Trivium (ISO/IEC 29192-3), as steps: the state is made of the key and the IV, and then each
-- block of eight bytes takes 64 clocks. The IV has ten bytes, and so has the key.
use Rattle.std.specs.Prelude.{◌≡◌, ℕ, zero, suc, ◌+◌, ◌*◌, ◌<◌, Bool, ◌==◌, cond, List, [], ◌∷◌, ◌++◌, map, length, take}
use Rattle.mask_bits.specs.Reading.{low}
use Rattle.mask_circuit.specs.Wires.{each}
use Rattle.mask_parts.specs.CipherCircuits.{gate_bits}
use Rattle.mask_trace.specs.Steps.{Public, Plain, Key, State, AsState, Registers, Step}
use Rattle.mask_trivium.specs.Trivium.{bytes, keystream, outputs, started}
use Rattle.mask_trivium.specs.NamedTrivium.{named_start, named_step}
use Rattle.mask_modes.specs.CounterMode.{block_count, xor_bytes}
use Rattle.mask_modes.specs.Steps.{block_at}

-- THE STEPS

-- the step that makes the state of the key and the IV
abbrev pub start_step : List ℕ → Step
start_step iv = record { circuit = named_start; inputs = each Key 80 ++ map Public (low iv); keeps = AsState }

-- The step that encrypts a block of eight bytes. Its outputs are the 288 bits of the next state and then the 64 bits of the
-- result, and the run keeps them all.
abbrev pub stream_step : List ℕ → Step
stream_step block = record { circuit = named_step; inputs = each State 288 ++ map Plain (low block); keeps = AsState }

-- what goes ahead of the first block behind n bytes: the state is made where there were none
abbrev pub ahead : List ℕ → ℕ → List Step
ahead iv n = cond (n == 0) (start_step iv ∷ []) []

-- the steps of the blocks of a piece, the last one filled up with zeros
abbrev pub block_steps : List ℕ → List Step
block_steps piece = each (λ j. stream_step (block_at 8 piece j)) (block_count 8 (length piece))

-- the steps of a piece of the message behind n bytes; no bytes take no step
abbrev pub steps_behind : List ℕ → ℕ → List ℕ → List Step
steps_behind iv n [] = []
steps_behind iv n (byte ∷ more) = ahead iv n ++ block_steps (byte ∷ more)

-- the steps of a message
abbrev pub stream_plan : List ℕ → List ℕ → List Step
stream_plan iv message = steps_behind iv 0 message

-- WHAT THEY MAKE

-- the output: the XOR of the message and the keystream; decrypting is the same
abbrev pub stream_cipher : List ℕ → List ℕ → List ℕ → List ℕ
stream_cipher key iv message = xor_bytes message (keystream key iv (length message))

-- a run that begins with these bytes as its key, and with no state
abbrev pub with_key : List ℕ → Registers Bool
with_key key = record { key = low key; state = [] }

-- the state of the cipher behind n bytes, where the run holds these bits
abbrev pub state_at : List ℕ → Registers Bool → ℕ → List Bool
state_at iv held n = cond (n == 0) (started (take 80 held.key) (low iv)) (take 288 held.state)

-- the output of a piece behind n bytes, where the run holds these bits
abbrev pub output_behind : List ℕ → Registers Bool → ℕ → List ℕ → List ℕ
output_behind iv held n piece = xor_bytes piece (bytes (length piece) (outputs (8 * length piece) (state_at iv held n)))

-- What a run holds behind n bytes: the key, and behind some bytes what its last step put out.
pub record IsHeldBehind (n : ℕ) (held : Registers Bool) : Type 0 where
  pub key : length held.key ≡ 80
  pub state : 0 < n → length held.state ≡ 352

-- RANDOM BITS

-- The bits that a run on so many blocks draws: the 3,456 products and 3,744 refreshes of the start; for each block d to share
-- each of its 64 bits, and those of 192 products and 544 refreshes. A run on no block draws none.
unfoldable pub stream_bits : ℕ → ℕ → ℕ
stream_bits d zero = 0
stream_bits d (suc n) = 7_200 * gate_bits d + suc n * (64 * d + 736 * gate_bits d)
