-- The steps of a run in counter mode.
use Rattle.std.specs.Prelude.{◌≡◌, ℕ, suc, ◌+◌, ◌*◌, ◌%◌, ◌<◌, ◌≤◌, Bool, not, ◌&&◌, ◌==◌, cond, List, [], ◌∷◌, ◌++◌, map, length, take, drop, replicate, reverse, bit_xor}
use Rattle.mask_bits.specs.Reading.{lowest, number, big_endian, AreBytes}
use Rattle.mask_circuit.specs.Netlist.{Netlist, IsWellFormed}
use Rattle.mask_circuit.specs.Value.{plain}
use Rattle.mask_circuit.specs.Wires.{each}
use Rattle.mask_circuit.specs.Acceptance.{IsStrong}
use Rattle.mask_trace.specs.Steps.{Public, Plain, Key, Nothing, AsKey, Step}
use Rattle.mask_modes.specs.Readings.{IsReading}
use Rattle.mask_modes.specs.CounterMode.{block_count, bytes_of, counter, xor_bytes}

-- How a cipher's circuit is used: its inputs are the bits of the key, of a counter, and of a block of the message, where
-- blocks have so many bytes in this reading. Another circuit gives the key fresh shares.
pub record Mode : Type 0 where
  pub circuit : Netlist
  pub refresh : Netlist
  pub key : ℕ
  pub block : ℕ
  pub reading : List ℕ → List Bool
  pub iv : ℕ

-- block i of the message, the last one filled up with zeros
abbrev pub block_at : ℕ → List ℕ → ℕ → List ℕ
block_at b message i = take b (drop (i * b) message ++ replicate b 0)

-- the blocks of the message
abbrev pub blocks : ℕ → List ℕ → List (List ℕ)
blocks b message = each (block_at b message) (block_count b (length message))

-- the step that encrypts block i of a run
abbrev pub block_step : Mode → ℕ → List ℕ → Step
block_step m i block = record {
  circuit = m.circuit;
  inputs = each Key m.key ++ (map Public (m.reading (counter m.block m.iv i)) ++ map Plain (m.reading block));
  keeps = Nothing;
}

-- the step that gives the key fresh shares
abbrev pub refresh_step : Mode → Step
refresh_step m = record { circuit = m.refresh; inputs = each Key m.key; keeps = AsKey }

-- the key gets fresh shares ahead of each 64 blocks but the first
abbrev pub is_due : ℕ → Bool
is_due i = i % 64 == 0 && not (i == 0)

-- what goes ahead of block i
abbrev pub ahead_of : Mode → ℕ → List Step
ahead_of m i = cond (is_due i) (refresh_step m ∷ []) []

-- the steps of these blocks, the first of which is block i of the run
unfoldable pub steps_from : Mode → ℕ → List (List ℕ) → List Step
steps_from m i [] = []
steps_from m i (block ∷ more) = ahead_of m i ++ block_step m i block ∷ steps_from m (suc i) more

-- the steps of the blocks of a part that begins with block i, with nothing ahead of them
abbrev pub block_steps : Mode → ℕ → List ℕ → List Step
block_steps m i part = each (λ l. block_step m (i + l) (block_at m.block part l)) (block_count m.block (length part))

-- A part that begins with block i is a batch: up to 64 blocks behind 64 blocks, 128 and so on.
pub record IsBatch (m : Mode) (i : ℕ) (part : List ℕ) : Type 0 where
  pub behind : i % 64 ≡ 0
  pub some : 1 ≤ block_count m.block (length part)
  pub few : block_count m.block (length part) ≤ 64

-- the steps of a message
abbrev pub steps_of : Mode → List ℕ → List Step
steps_of m message = steps_from m 0 (blocks m.block message)

-- a block: so many bytes
abbrev pub IsBlock : Mode → List ℕ → Type 0
IsBlock m bytes = (length bytes ≡ m.block) × AreBytes bytes

-- a cipher: the encryption of a block under the bits of a key
abbrev pub Cipher : Type 0
Cipher = List Bool → List ℕ → List ℕ

-- Both circuits of a mode are strong, and have as many inputs and outputs as the key and the blocks have bits. The one that
-- gives the key fresh shares changes no bit of it.
pub record CircuitsFit (m : Mode) : Type 0 where
  pub formed : IsWellFormed m.circuit
  pub strong : IsStrong m.circuit
  pub refresh_formed : IsWellFormed m.refresh
  pub refresh_strong : IsStrong m.refresh
  pub some : 0 < m.block
  pub inputs : m.circuit.inputs ≡ m.key + (8 * m.block + 8 * m.block)
  pub outputs : length m.circuit.outputs ≡ 8 * m.block
  pub refresh_inputs : m.refresh.inputs ≡ m.key
  pub refresh_outputs : length m.refresh.outputs ≡ m.key
  pub refreshes : (key : List Bool) → length key ≡ m.key → plain m.refresh key ≡ key

-- What a mode takes from a cipher: the cipher makes blocks of blocks, and the circuit adds its blocks to those of the message.
pub record Enciphers (cipher : Cipher) (m : Mode) : Type 0 where
  pub circuits : CircuitsFit m
  pub reads : IsReading m.reading
  pub is_block : (key : List Bool) (counter : List ℕ) → length key ≡ m.key → IsBlock m counter → IsBlock m (cipher key counter)
  pub value : (key : List Bool) (counter block : List ℕ) → length key ≡ m.key → IsBlock m counter → IsBlock m block →
      plain m.circuit (key ++ (m.reading counter ++ m.reading block)) ≡ m.reading (xor_bytes block (cipher key counter))

-- a cipher on numbers, where a block of b bytes is a big-endian one
abbrev pub on_numbers : ℕ → (List Bool → ℕ → ℕ) → Cipher
on_numbers b encrypt key block = bytes_of b (encrypt key (big_endian block))

-- the same where a block is a little-endian number: its bytes the other way round
abbrev pub on_little_numbers : ℕ → (List Bool → ℕ → ℕ) → Cipher
on_little_numbers b encrypt key block = reverse (on_numbers b encrypt key (reverse block))

-- What a mode with this reading takes from a cipher on numbers: the circuit's outputs are the bits of the XOR of two
-- numbers, the encrypted counter and the block, each lowest bit first.
pub record EnciphersNumbers (reading : List ℕ → List Bool) (encrypt : List Bool → ℕ → ℕ) (m : Mode) : Type 0 where
  pub circuits : CircuitsFit m
  pub reads : m.reading ≡ reading
  pub value : (key counter block : List Bool) → length key ≡ m.key → length counter ≡ 8 * m.block → length block ≡ 8 * m.block →
      plain m.circuit (key ++ (counter ++ block)) ≡ lowest (8 * m.block) (bit_xor (encrypt key (number counter)) (number block))
