-- How a message is taken piece by piece: the steps of a piece, and what is written of it.
--
-- A piece is a batch, or the last bytes of the message. Behind n bytes, which are whole batches, it comes next.
use Rattle.std.specs.Prelude.{◌≡◌, ℕ, zero, suc, ◌+◌, ◌-◌, ◌*◌, ◌%◌, Bool, true, cond, List, [], length, replicate, sum_by}
use Rattle.mask_check.specs.Costs.{most_steps}
use Rattle.mask_trace.specs.Steps.{Registers, Step}
use Rattle.mask_trivium.specs.NamedTrivium.{named_start, named_step}
use Rattle.mask_modes.specs.CounterMode.{block_count, ciphertext_from}
use Rattle.mask_modes.specs.Steps.{Mode, Cipher, ahead_of, blocks, is_due, steps_from, steps_of}
use Rattle.mask_streams.specs.Streams as stream
use Rattle.mask_macs.specs.Codes.{Code, IsNext}

-- in counter mode, the blocks of this cipher; or with the keystream of Trivium under this IV; or into a tag by this code
pub data Method : Type 0 where
  InCounterMode : Mode → Cipher → Method
  AsStream : List ℕ → Method
  AsCode : Code → Method

-- how many bytes are taken at once: 64 blocks in counter mode, one of Trivium, and a piece of a code
abbrev pub batch : Method → ℕ
batch (InCounterMode m cipher) = 64 * m.block
batch (AsStream iv) = 8
batch (AsCode code) = code.piece_bytes

-- how many bytes a block has that is handed out: of a code the tag
abbrev pub block : Method → ℕ
block (InCounterMode m cipher) = m.block
block (AsStream iv) = 8
block (AsCode code) = code.tag_bytes

-- so many bytes are whole batches
abbrev pub AreBatches : Method → ℕ → Type 0
AreBatches method n = n % batch method ≡ 0

-- These may be the last bytes of a message behind n others, which are whole batches. A code takes no empty piece behind some bytes.
abbrev pub MayEnd : Method → ℕ → List ℕ → Type 0
MayEnd (InCounterMode m cipher) n piece = Unit {0}
MayEnd (AsStream iv) n piece = Unit {0}
MayEnd (AsCode code) n piece = IsNext code n piece true

-- How many bytes of the message are known behind the next piece, be it the last or not: a code takes a piece that isn't the last
-- only where one more byte is known.
abbrev pub known_behind : Method → Bool → ℕ
known_behind (InCounterMode m cipher) last = 0
known_behind (AsStream iv) last = 0
known_behind (AsCode code) last = cond last 0 1

-- What is written are the pieces' own ciphertexts, and nothing but batches decides what they are.
abbrev pub IsCipher : Method → Type 0
IsCipher (InCounterMode m cipher) = Unit {0}
IsCipher (AsStream iv) = Unit {0}
IsCipher (AsCode code) = ⊥

-- the bits of a key
abbrev pub key_width : Method → ℕ
key_width (InCounterMode m cipher) = m.key
key_width (AsStream iv) = 80
key_width (AsCode code) = 8 * code.key_bytes

-- the steps of a message
abbrev pub plan : Method → List ℕ → List Step
plan (InCounterMode m cipher) message = steps_of m message
plan (AsStream iv) message = stream.stream_plan iv message
plan (AsCode code) message = code.plan message

-- those of whole batches, behind which more of the message comes
abbrev pub fed_steps : Method → List ℕ → List Step
fed_steps (InCounterMode m cipher) front = steps_of m front
fed_steps (AsStream iv) front = stream.stream_plan iv front
fed_steps (AsCode code) front = code.fed front

-- those of the next piece, whether it is the last or not
abbrev pub next_steps : Method → ℕ → List ℕ → Bool → List Step
next_steps (InCounterMode m cipher) n piece last = steps_from m (block_count m.block n) (blocks m.block piece)
next_steps (AsStream iv) n piece last = stream.steps_behind iv n piece
next_steps (AsCode code) n piece last = code.next n piece last

-- those that come ahead of the next piece's own: a refresh of the key, where one is due, or what makes the first state
abbrev pub ahead : Method → ℕ → Bool → List Step
ahead (InCounterMode m cipher) n last = ahead_of m (block_count m.block n)
ahead (AsStream iv) n last = stream.ahead iv n
ahead (AsCode code) n last = code.ahead n last

-- what is written of the next piece, where these bits are held
abbrev pub next_output : Method → Registers Bool → ℕ → List ℕ → Bool → List ℕ
next_output (InCounterMode m cipher) held n piece last = ciphertext_from m.block m.iv (cipher held.key) (block_count m.block n) piece
next_output (AsStream iv) held n piece last = stream.output_behind iv held n piece
next_output (AsCode code) held n piece last = code.output held n piece last

-- and how many bytes that are
abbrev pub next_length : Method → List ℕ → Bool → ℕ
next_length (InCounterMode m cipher) piece last = length piece
next_length (AsStream iv) piece last = length piece
next_length (AsCode code) piece last = cond last code.tag_bytes 0

-- the gates of these steps' circuits
abbrev pub gates_of : List Step → ℕ
gates_of steps = sum_by (λ step. length step.circuit.gates) steps

-- How many gates are evaluated for the next piece: in counter mode those of the cipher's circuit once for all blocks, and those of a
-- refresh; and else those of each step.
abbrev pub batch_gates : Mode → ℕ → List ℕ → ℕ
batch_gates m i [] = 0
batch_gates m i piece = cond (is_due i) (length m.refresh.gates) 0 + length m.circuit.gates

abbrev pub next_gates : Method → ℕ → List ℕ → Bool → ℕ
next_gates (InCounterMode m cipher) n piece last = batch_gates m (block_count m.block n) piece
next_gates (AsStream iv) n piece last = gates_of (stream.steps_behind iv n piece)
next_gates (AsCode code) n piece last = gates_of (code.next n piece last)

-- the gates of so many batches: one evaluation for all blocks of a batch, and a refresh of the key ahead of each batch but the first
abbrev pub gates_of_batches : Mode → ℕ → ℕ
gates_of_batches m count = count * length m.circuit.gates + (count - 1) * length m.refresh.gates

-- and of so many blocks of Trivium: those of the start, and of a step for each block
abbrev pub stream_gates : ℕ → ℕ
stream_gates zero = 0
stream_gates (suc count) = length named_start.gates + suc count * length named_step.gates

-- How many gates are evaluated for a message of n bytes, the last batch perhaps filled in part. They don't depend on the bytes: a
-- code evaluates as many for zeros.
unfoldable pub run_gates : Method → ℕ → ℕ
run_gates (InCounterMode m cipher) n = gates_of_batches m (block_count (64 * m.block) n)
run_gates (AsStream iv) n = stream_gates (block_count 8 n)
run_gates (AsCode code) n = gates_of (code.plan (replicate n 0))

-- and for n bytes that are whole batches, behind which more of the message comes
unfoldable pub fed_gates : Method → ℕ → ℕ
fed_gates (InCounterMode m cipher) n = gates_of_batches m (block_count (64 * m.block) n)
fed_gates (AsStream iv) n = stream_gates (block_count 8 n)
fed_gates (AsCode code) n = gates_of (code.fed (replicate n 0))

-- the most steps that its circuits take before they are evaluated: the values that the checker visits
abbrev pub start_steps : Method → ℕ
start_steps (InCounterMode m cipher) = most_steps m.circuit + most_steps m.refresh
start_steps (AsStream iv) = most_steps named_start + most_steps named_step
start_steps (AsCode code) = sum_by most_steps code.circuits
