-- What is proved of a run of Trivium.
use Rattle.std.specs.Prelude.{◌≡◌, ℕ, suc, ◌+◌, ◌*◌, ◌%◌, ◌<◌, ◌≤◌, Bool, false, List, ◌++◌, length, take, slice_index, slice_index_or}
use Rattle.mask_bits.specs.Reading.{bit, AreBytes}
use Rattle.mask_trace.specs.Steps.{Registers, IsStrongPlan, bits_of}
use Rattle.mask_trace.specs.Privacy.{AreAlike, IsPrivateTrace, trace_hits}
use Rattle.mask_trace.specs.Laws.{IsRun}
use Rattle.mask_trace.specs.Values.{value_after}
use Rattle.mask_modes.specs.CounterMode.{block_count}
use Rattle.mask_streams.specs.Streams.{IsHeldBehind, output_behind, steps_behind, stream_bits, stream_cipher, stream_plan, with_key}

-- Whole blocks and what follows them: the steps split there.
pub record PlansSplit : Type 0 where
  pub plan : (iv front piece : List ℕ) → length front % 8 ≡ 0 →
      stream_plan iv (front ++ piece) ≡ stream_plan iv front ++ steps_behind iv (length front) piece
  pub behind : (iv : List ℕ) (n : ℕ) (front piece : List ℕ) → length front % 8 ≡ 0 →
      steps_behind iv n (front ++ piece) ≡ steps_behind iv n front ++ steps_behind iv (n + length front) piece

-- The steps of a message are a strong plan, and so are any of its first steps, and those of a piece, where the state is there
-- behind some bytes. The steps of two messages of one length are alike.
pub record PlansAreStrong : Type 0 where
  pub strong : (iv message : List ℕ) → length iv ≡ 10 → IsStrongPlan 80 0 (stream_plan iv message)
  pub part : (iv message : List ℕ) (count : ℕ) → length iv ≡ 10 → IsStrongPlan 80 0 (take count (stream_plan iv message))
  pub behind : (iv : List ℕ) (n s : ℕ) (piece : List ℕ) → length iv ≡ 10 → (0 < n → 288 ≤ s) →
      IsStrongPlan 80 s (steps_behind iv n piece)
  pub alike : (iv message other : List ℕ) → length message ≡ length other →
      AreAlike (stream_plan iv message) (stream_plan iv other)
  pub parts_alike : (iv message other : List ℕ) (count : ℕ) → length message ≡ length other →
      AreAlike (take count (stream_plan iv message)) (take count (stream_plan iv other))

-- A run that breaks off behind any of its steps is a strong run in the probing model, and private. So any few of its wires
-- show nothing of the key and the message: for any two keys and any two messages of one length they show the same equally
-- often, over all sharings of the key and all tapes.
pub record RunsArePrivate : Type 0 where
  pub run : (N : ℕ) (iv message : List ℕ) (count : ℕ) → 2 ≤ N → length iv ≡ 10 → IsRun N 80 (take count (stream_plan iv message))
  pub private : (N : ℕ) (iv message : List ℕ) (count : ℕ) → 2 ≤ N → length iv ≡ 10 →
      IsPrivateTrace N 80 (take count (stream_plan iv message))
  pub hits : (N : ℕ) (iv message other : List ℕ) (count : ℕ) → 2 ≤ N → length iv ≡ 10 → length message ≡ length other →
      (P : List ℕ) → length P < N → (key key' : List Bool) → length key ≡ 80 → length key' ≡ 80 → (v : List Bool) →
      trace_hits N key (take count (stream_plan iv message)) P v ≡ trace_hits N key' (take count (stream_plan iv other)) P v

-- The bits that a run takes from the tape at order d, on d + 1 shares.
abbrev pub RunBits : Type 0
RunBits = (d : ℕ) (iv message : List ℕ) →
    bits_of (suc d) (stream_plan iv message) ≡ stream_bits d (block_count 8 (length message))

-- The output is as long as the message, and of bytes where the message is. That of a beginning of the message is a beginning
-- of it. Encrypting the output gives the message. The output of a piece is as long as the piece, and of bytes too.
pub record OutputFits : Type 0 where
  pub as_long : (key iv message : List ℕ) → length (stream_cipher key iv message) ≡ length message
  pub front : (key iv message : List ℕ) (n : ℕ) → stream_cipher key iv (take n message) ≡ take n (stream_cipher key iv message)
  pub are_bytes : (key iv message : List ℕ) → AreBytes message → AreBytes (stream_cipher key iv message)
  pub decrypts : (key iv message : List ℕ) → stream_cipher key iv (stream_cipher key iv message) ≡ message
  pub piece_as_long : (iv : List ℕ) (held : Registers Bool) (n : ℕ) (piece : List ℕ) →
      length (output_behind iv held n piece) ≡ length piece
  pub piece_of_bytes : (iv : List ℕ) (held : Registers Bool) (n : ℕ) (piece : List ℕ) → AreBytes piece →
      AreBytes (output_behind iv held n piece)

-- Behind whole blocks the output goes on from what the run holds there.
abbrev pub OutputGoesOn : Type 0
OutputGoesOn = (key iv front piece : List ℕ) → length key ≡ 10 → length iv ≡ 10 → length front % 8 ≡ 0 →
    stream_cipher key iv (front ++ piece)
    ≡ stream_cipher key iv front ++ output_behind iv (value_after (with_key key) (stream_plan iv front)) (length front) piece

-- The key stays what it is, and so a run goes on piece by piece: it begins with what it must hold, and holds that behind each
-- piece. Behind whole blocks and what follows them it holds what it would behind both at once.
pub record RegistersGoOn : Type 0 where
  pub key_stays : (iv : List ℕ) (held : Registers Bool) (n : ℕ) (piece : List ℕ) →
      (value_after held (steps_behind iv n piece)).key ≡ held.key
  pub first : (key : List ℕ) → length key ≡ 10 → IsHeldBehind 0 (with_key key)
  pub held : (iv : List ℕ) (held : Registers Bool) (n : ℕ) (piece : List ℕ) → IsHeldBehind n held →
      IsHeldBehind (n + length piece) (value_after held (steps_behind iv n piece))
  pub joins : (iv : List ℕ) (held : Registers Bool) (n : ℕ) (front piece : List ℕ) → length front % 8 ≡ 0 →
      value_after held (steps_behind iv n (front ++ piece))
      ≡ value_after (value_after held (steps_behind iv n front)) (steps_behind iv (n + length front) piece)

-- Of a piece of at most eight bytes, bit p of byte k of the output is bit 288 + 8k + p of what the steps of the piece leave:
-- the first 288 bits are the state of the cipher.
abbrev pub OutputsAreBits : Type 0
OutputsAreBits = (iv : List ℕ) (held : Registers Bool) (n : ℕ) (piece : List ℕ) (k p : ℕ) → length iv ≡ 10 → IsHeldBehind n held →
    length piece ≤ 8 → k < length piece → p < 8 →
    slice_index_or (value_after held (steps_behind iv n piece)).state (288 + (8 * k + p)) false
    ≡ bit p (slice_index (output_behind iv held n piece) k)
