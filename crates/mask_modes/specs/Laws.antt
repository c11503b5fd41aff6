-- What is proved of counter mode.
use Rattle.std.specs.Prelude.{◌≡◌, ℕ, pred, ◌+◌, ◌-◌, ◌*◌, ◌/◌, ◌%◌, ◌^◌, ◌<◌, ◌≤◌, Bool, false, List, [], ◌++◌, map, length, take, slice_index, All, slice_index_or}
use Rattle.std.specs.List.{concat}
use Rattle.mask_bits.specs.Reading.{bit, lowest, low, high, big_endian, AreBytes}
use Rattle.mask_circuit.specs.Ring.{bits}
use Rattle.mask_circuit.specs.Wires.{each, joined}
use Rattle.mask_circuit.specs.Expansion.{draws}
use Rattle.mask_circuit.specs.Sharing.{unmasked}
use Rattle.mask_trace.specs.Steps.{Registers, IsStrongPlan, bits_of, sharing_bits}
use Rattle.mask_trace.specs.Traces.{BitShares, after, output_shares}
use Rattle.mask_trace.specs.Values.{value_after}
use Rattle.mask_trace.specs.Privacy.{AreAlike, trace_hits}
use Rattle.mask_trace.specs.Drawing.{Stand, Ran, RanPart}
use Rattle.mask_modes.specs.CounterMode.{MakesBlocks, block_count, counter, ciphertext_from, xor_bytes}
use Rattle.mask_modes.specs.Steps.{Cipher, Mode, Enciphers, EnciphersNumbers, on_numbers, on_little_numbers, IsBlock, block_at, blocks, block_step, refresh_step, steps_from, steps_of, ahead_of, block_steps, IsBatch}
use Rattle.mask_modes.specs.Readings.{IsReading}
use Rattle.mask_modes.specs.Outputs.{key_of, HasKey, ciphertext_block, handed_out, StandFor}

-- Whole blocks and what follows them: blocks, steps and ciphertext split there.
pub record MessagesSplit : Type 0 where
  pub cut : (b n : ℕ) (front rest : List ℕ) → 0 < b → length front ≡ n * b → blocks b (front ++ rest) ≡ blocks b front ++ blocks b rest
  pub count : (b n : ℕ) (front : List ℕ) → 0 < b → length front ≡ n * b → length (blocks b front) ≡ n
  pub steps : (m : Mode) (i : ℕ) (front rest : List (List ℕ)) → steps_from m i (front ++ rest) ≡ steps_from m i front ++ steps_from m (i + length front) rest
  pub ciphertext : (b iv : ℕ) (cipher : List ℕ → List ℕ) (i n : ℕ) (front rest : List ℕ) → 0 < b → MakesBlocks b iv cipher → length front ≡ n * b →
      ciphertext_from b iv cipher i (front ++ rest) ≡ ciphertext_from b iv cipher i front ++ ciphertext_from b iv cipher (i + n) rest

-- The ciphertext is as long as the message, and that of a beginning of the message is a beginning of it. Encrypting it
-- again gives the message. A mode's cipher makes blocks of counters, as this needs.
pub record CiphertextFits : Type 0 where
  pub as_long : (b iv : ℕ) (cipher : List ℕ → List ℕ) (i : ℕ) (part : List ℕ) → 0 < b → MakesBlocks b iv cipher →
      length (ciphertext_from b iv cipher i part) ≡ length part
  pub front : (b iv : ℕ) (cipher : List ℕ → List ℕ) (i n : ℕ) (part : List ℕ) → 0 < b → MakesBlocks b iv cipher →
      ciphertext_from b iv cipher i (take n part) ≡ take n (ciphertext_from b iv cipher i part)
  pub decrypts : (b iv : ℕ) (cipher : List ℕ → List ℕ) (i : ℕ) (part : List ℕ) → 0 < b → MakesBlocks b iv cipher →
      ciphertext_from b iv cipher i (ciphertext_from b iv cipher i part) ≡ part
  pub blocks : (m : Mode) (cipher : Cipher) (key : List Bool) → Enciphers cipher m → length key ≡ m.key → MakesBlocks m.block m.iv (cipher key)

-- It is made of its blocks end to end: byte k is byte k % b of block k / b.
pub record CiphertextInBlocks : Type 0 where
  pub whole : (b iv : ℕ) (cipher : List ℕ → List ℕ) (i : ℕ) (part : List ℕ) → 0 < b → MakesBlocks b iv cipher →
      ciphertext_from b iv cipher i part ≡ take (length part) (joined (ciphertext_block b iv cipher i part) (block_count b (length part)))
  pub byte : (b iv : ℕ) (cipher : List ℕ → List ℕ) (i : ℕ) (part : List ℕ) (k : ℕ) → 0 < b → MakesBlocks b iv cipher → k < length part →
      slice_index (ciphertext_from b iv cipher i part) k ≡ slice_index (ciphertext_block b iv cipher i part (k / b)) (k % b)

-- The steps of a batch are the refresh, if one is due, and then those of its blocks, which have as many coins to share their
-- message bits. What was evaluated in these two parts was evaluated, and either may have stopped.
pub record BatchesAreSteps : Type 0 where
  pub steps : (m : Mode) (i : ℕ) (part : List ℕ) → IsBatch m i part → steps_from m i (blocks m.block part) ≡ ahead_of m i ++ block_steps m i part
  pub refresh_coins : (N : ℕ) (m : Mode) → sharing_bits N (refresh_step m) ≡ 0
  pub block_coins : (N : ℕ) (m : Mode) (cipher : Cipher) (i : ℕ) (block : List ℕ) → Enciphers cipher m → IsBlock m block →
      sharing_bits N (block_step m i block) ≡ pred N * (8 * m.block)
  pub ran : (N : ℕ) (m : Mode) (have now after : Registers BitShares) (i : ℕ) (part : List ℕ) (a b c : Stand) → IsBatch m i part →
      Ran N have (ahead_of m i) now a b → Ran N now (block_steps m i part) after b c → Ran N have (steps_from m i (blocks m.block part)) after a c
  pub stopped_ahead : (N : ℕ) (m : Mode) (have : Registers BitShares) (i : ℕ) (part : List ℕ) (count : ℕ) (a b : Stand) → IsBatch m i part →
      RanPart N have (ahead_of m i) count a b → RanPart N have (steps_from m i (blocks m.block part)) count a b
  pub stopped : (N : ℕ) (m : Mode) (have now : Registers BitShares) (i : ℕ) (part : List ℕ) (count : ℕ) (a b c : Stand) → IsBatch m i part →
      Ran N have (ahead_of m i) now a b → RanPart N now (block_steps m i part) count b c →
      RanPart N have (steps_from m i (blocks m.block part)) (length (ahead_of m i) + count) a c

-- The bits that a run takes from the tape: for each block those that share it and those that the circuit draws, and for
-- each 64 blocks but the first those of the refresh.
abbrev pub RunBits : Type 0
RunBits = (N : ℕ) (m : Mode) (cipher : Cipher) (message : List ℕ) → Enciphers cipher m →
    let count = block_count m.block (length message) in
    bits_of N (steps_of m message) ≡ count * (pred N * (8 * m.block) + draws m.circuit N) + ((count + 63) / 64 - 1) * draws m.refresh N

-- The steps of any blocks are a strong plan, and those of two messages of one length are alike.
pub record StepsAreStrong : Type 0 where
  pub strong : (m : Mode) (cipher : Cipher) (i : ℕ) (part : List (List ℕ)) → Enciphers cipher m →
      All (λ block. length block ≡ m.block) part → IsStrongPlan m.key 0 (steps_from m i part)
  pub alike : (m : Mode) (cipher : Cipher) (message other : List ℕ) → Enciphers cipher m →
      length message ≡ length other → AreAlike (steps_of m message) (steps_of m other)

-- Any few wires of a run in counter mode show nothing of the key and the message: for any two keys and any two messages of
-- one length they show the same equally often, over all sharings of the key and all tapes.
abbrev pub RunsArePrivate : Type 0
RunsArePrivate = (N : ℕ) (m : Mode) (cipher : Cipher) (message other : List ℕ) → 2 ≤ N → Enciphers cipher m → length message ≡ length other →
    (P : List ℕ) → length P < N → (key key' : List Bool) → length key ≡ m.key → length key' ≡ m.key → (v : List Bool) →
    trace_hits N key (steps_of m message) P v ≡ trace_hits N key' (steps_of m other) P v

-- Whatever the tape, each block comes out as its XOR with the encrypted counter, and the key stays what it is, in fresh
-- shares or not. On plain bits the steps change nothing of what is held.
pub record StepsEncrypt : Type 0 where
  pub encrypted : (N : ℕ) (m : Mode) (cipher : Cipher) (have : Registers BitShares) (i : ℕ) (block : List ℕ) (r : List Bool) →
      2 ≤ N → Enciphers cipher m → HasKey N m have → IsBlock m block →
      map (unmasked bits) (output_shares N have (block_step m i block) r) ≡ m.reading (xor_bytes block (cipher (key_of have) (counter m.block m.iv i)))
  pub key_stays : (N : ℕ) (m : Mode) (cipher : Cipher) (have : Registers BitShares) (i : ℕ) (part : List (List ℕ)) (r : List Bool) →
      2 ≤ N → Enciphers cipher m → HasKey N m have →
      HasKey N m (after N have (steps_from m i part) r) × (key_of (after N have (steps_from m i part) r) ≡ key_of have)
  pub values_stay : (m : Mode) (cipher : Cipher) (held : Registers Bool) (i : ℕ) (part : List (List ℕ)) →
      Enciphers cipher m → length held.key ≡ m.key → value_after held (steps_from m i part) ≡ held

-- Both readings of bytes are readings: where bit p of byte k stands. A counter is a big-endian number, and read high first
-- its bits are those of the number.
pub record BytesAreRead : Type 0 where
  pub low_first : IsReading low
  pub high_first : IsReading high
  pub low_place : (bytes : List ℕ) (k p : ℕ) → k < length bytes → p < 8 → slice_index_or (low bytes) (8 * k + p) false ≡ bit p (slice_index bytes k)
  pub high_place : (bytes : List ℕ) (k p : ℕ) → k < length bytes → p < 8 →
      slice_index_or (high bytes) (8 * (length bytes - 1 - k) + p) false ≡ bit p (slice_index bytes k)
  pub number : (b iv i : ℕ) → big_endian (counter b iv i) ≡ (iv + i) % 2 ^ (8 * b)
  pub bits : (b iv i : ℕ) → high (counter b iv i) ≡ lowest (8 * b) (iv + i)

-- What a run hands out stands for the ciphertext, whatever the tape: the blocks that the outputs of a part's steps stand
-- for, end to end, begin with the ciphertext of the part. So do those of the steps of its blocks alone, each on a tape of its
-- own.
pub record OutputsStandForCiphertext : Type 0 where
  pub run : (N : ℕ) (m : Mode) (cipher : Cipher) (have : Registers BitShares) (i : ℕ) (part : List ℕ) (r : List Bool)
      (out : List (List ℕ)) → 2 ≤ N → Enciphers cipher m → HasKey N m have → AreBytes part →
      StandFor m (handed_out N have (steps_from m i (blocks m.block part)) r) out →
      take (length part) (concat out) ≡ ciphertext_from m.block m.iv (cipher (key_of have)) i part
  pub lanes : (N : ℕ) (m : Mode) (cipher : Cipher) (have : Registers BitShares) (i : ℕ) (part : List ℕ) (r : ℕ → List Bool)
      (out : List (List ℕ)) → 2 ≤ N → Enciphers cipher m → HasKey N m have → AreBytes part →
      StandFor m (each (λ l. output_shares N have (block_step m (i + l) (block_at m.block part l)) (r l)) (block_count m.block (length part))) out →
      take (length part) (concat out) ≡ ciphertext_from m.block m.iv (cipher (key_of have)) i part

-- Bit p of byte k of the ciphertext: if the reading of a block has bit p of its byte k % b at a place, the shares of the
-- output at this place stand for it, in the step of block k / b.
abbrev pub OutputsAreBits : Type 0
OutputsAreBits = (N : ℕ) (m : Mode) (cipher : Cipher) (have : Registers BitShares) (i : ℕ) (part : List ℕ) (r : List Bool) (k p place : ℕ) →
    2 ≤ N → Enciphers cipher m → HasKey N m have → AreBytes part → k < length part →
    ((block : List ℕ) → IsBlock m block → slice_index_or (m.reading block) place false ≡ bit p (slice_index block (k % m.block))) →
    unmasked bits (slice_index_or (output_shares N have (block_step m (i + k / m.block) (block_at m.block part (k / m.block))) r) place [])
    ≡ bit p (slice_index (ciphertext_from m.block m.iv (cipher (key_of have)) i part) k)

-- A mode for a cipher on numbers enciphers: where it reads high first, blocks as big-endian numbers, and where it reads low
-- first, as little-endian ones.
pub record NumbersAreBlocks : Type 0 where
  pub high_first : (m : Mode) (encrypt : List Bool → ℕ → ℕ) → EnciphersNumbers high encrypt m → Enciphers (on_numbers m.block encrypt) m
  pub low_first : (m : Mode) (encrypt : List Bool → ℕ → ℕ) → EnciphersNumbers low encrypt m → Enciphers (on_little_numbers m.block encrypt) m
