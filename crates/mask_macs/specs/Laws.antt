-- What is proved of the runs of a code.
use Rattle.std.specs.Prelude.{◌≡◌, ℕ, suc, ◌+◌, ◌*◌, ◌<◌, ◌≤◌, Bool, true, false, List, [], ◌∷◌, ◌++◌, length, map, take, slice_index, slice_index_or}
use Rattle.mask_bits.specs.Reading.{bit, AreBytes}
use Rattle.mask_trace.specs.Steps.{Registers, Step, IsStrongPlan, bits_of}
use Rattle.mask_trace.specs.Privacy.{AreAlike, IsPrivateTrace, trace_hits}
use Rattle.mask_trace.specs.Laws.{IsRun}
use Rattle.mask_trace.specs.Values.{value_after}
use Rattle.mask_macs.specs.Codes.{Code, ArePieces, IsNext, IsHeldBehind}

-- Whole pieces and what follows them: the steps split there, be it one more piece or the last.
pub record PlansSplit (code : Code) : Type 0 where
  pub no_steps : code.fed [] ≡ []
  pub on : (front piece : List ℕ) → ArePieces code (length front) → IsNext code (length front) piece false →
      code.fed (front ++ piece) ≡ code.fed front ++ code.next (length front) piece false
  pub ends : (front piece : List ℕ) → ArePieces code (length front) → IsNext code (length front) piece true →
      code.plan (front ++ piece) ≡ code.fed front ++ code.next (length front) piece true

-- The steps of the next piece are what goes ahead and one of its own. Their circuits depend on the length of the piece alone.
pub record PiecesAreSteps (code : Code) : Type 0 where
  pub begins : (n : ℕ) (piece : List ℕ) (last : Bool) → (own : Step) × (code.next n piece last ≡ code.ahead n last ++ own ∷ [])
  pub circuits : (n : ℕ) (piece other : List ℕ) (last : Bool) → length piece ≡ length other →
      map (λ (s : Step). s.circuit) (code.next n piece last) ≡ map (λ (s : Step). s.circuit) (code.next n other last)

-- the bits of the key
abbrev pub key_bits : Code → ℕ
key_bits code = 8 * code.key_bytes

-- The steps of a message are a strong plan, and so are any of its first steps, and those of a next piece, where the state is
-- there behind some bytes. The steps of two messages of one length are alike.
pub record PlansAreStrong (code : Code) : Type 0 where
  pub strong : (message : List ℕ) → IsStrongPlan (key_bits code) 0 (code.plan message)
  pub part : (message : List ℕ) (count : ℕ) → IsStrongPlan (key_bits code) 0 (take count (code.plan message))
  pub behind : (n s : ℕ) (piece : List ℕ) (last : Bool) → IsNext code n piece last → (0 < n → code.state_bits ≤ s) →
      IsStrongPlan (key_bits code) s (code.next n piece last)
  pub alike : (message other : List ℕ) → length message ≡ length other → AreAlike (code.plan message) (code.plan other)
  pub parts_alike : (message other : List ℕ) (count : ℕ) → length message ≡ length other →
      AreAlike (take count (code.plan message)) (take count (code.plan other))

-- A run that breaks off behind any of its steps is a strong run in the probing model, and private. So any few of its wires
-- show nothing of the key and the message: for any two keys and any two messages of one length they show the same equally
-- often, over all sharings of the key and all tapes.
pub record RunsArePrivate (code : Code) : Type 0 where
  pub run : (N : ℕ) (message : List ℕ) (count : ℕ) → 2 ≤ N → IsRun N (key_bits code) (take count (code.plan message))
  pub private : (N : ℕ) (message : List ℕ) (count : ℕ) → 2 ≤ N → IsPrivateTrace N (key_bits code) (take count (code.plan message))
  pub hits : (N : ℕ) (message other : List ℕ) (count : ℕ) → 2 ≤ N → length message ≡ length other →
      (P : List ℕ) → length P < N → (key key' : List Bool) → length key ≡ key_bits code → length key' ≡ key_bits code →
      (v : List Bool) →
      trace_hits N key (take count (code.plan message)) P v ≡ trace_hits N key' (take count (code.plan other)) P v

-- The bits that a run takes from the tape at order d, on d + 1 shares.
abbrev pub RunBits : Code → Type 0
RunBits code = (d : ℕ) (message : List ℕ) → bits_of (suc d) (code.plan message) ≡ code.drawn d (length message)

-- The tag has the stated length, and is of bytes, as is what is handed out of the last piece. Nothing is handed out before.
pub record OutputFits (code : Code) : Type 0 where
  pub as_long : (key message : List ℕ) → length (code.tag key message) ≡ code.tag_bytes
  pub are_bytes : (key message : List ℕ) → AreBytes (code.tag key message)
  pub piece_as_long : (held : Registers Bool) (n : ℕ) (piece : List ℕ) → length (code.output held n piece true) ≡ code.tag_bytes
  pub piece_of_bytes : (held : Registers Bool) (n : ℕ) (piece : List ℕ) → AreBytes (code.output held n piece true)
  pub none_before : (held : Registers Bool) (n : ℕ) (piece : List ℕ) → code.output held n piece false ≡ []

-- Behind whole pieces the tag is what the last piece makes of what the run holds there.
abbrev pub OutputGoesOn : Code → Type 0
OutputGoesOn code = (key front piece : List ℕ) → length key ≡ code.key_bytes → ArePieces code (length front) →
    IsNext code (length front) piece true →
    code.tag key (front ++ piece) ≡ code.output (value_after (code.first_held key) (code.fed front)) (length front) piece true

-- The key stays what it is, and so a run goes on piece by piece: it begins with what it must hold, and holds that behind each
-- piece. Behind whole pieces and what follows them it holds what it would behind both at once.
pub record RegistersGoOn (code : Code) : Type 0 where
  pub first : (key : List ℕ) → length key ≡ code.key_bytes → IsHeldBehind code 0 (code.first_held key)
  pub key_stays : (held : Registers Bool) (n : ℕ) (piece : List ℕ) (last : Bool) → IsHeldBehind code n held →
      IsNext code n piece last → (value_after held (code.next n piece last)).key ≡ held.key
  pub held : (held : Registers Bool) (n : ℕ) (piece : List ℕ) (last : Bool) → IsHeldBehind code n held →
      IsNext code n piece last → IsHeldBehind code (n + length piece) (value_after held (code.next n piece last))
  pub state : (held : Registers Bool) (n : ℕ) (piece : List ℕ) (last : Bool) →
      length (value_after held (code.next n piece last)).state ≡ code.state_bits
  pub fed_key_stays : (key front : List ℕ) → length key ≡ code.key_bytes → ArePieces code (length front) →
      (value_after (code.first_held key) (code.fed front)).key ≡ (code.first_held key).key
  pub fed_held : (key front : List ℕ) → length key ≡ code.key_bytes → ArePieces code (length front) →
      IsHeldBehind code (length front) (value_after (code.first_held key) (code.fed front))
  pub joins : (held : Registers Bool) (front piece : List ℕ) → ArePieces code (length front) →
      IsNext code (length front) piece false →
      value_after held (code.fed (front ++ piece))
      ≡ value_after (value_after held (code.fed front)) (code.next (length front) piece false)
  pub ends : (held : Registers Bool) (front piece : List ℕ) → ArePieces code (length front) →
      IsNext code (length front) piece true →
      value_after held (code.plan (front ++ piece))
      ≡ value_after (value_after held (code.fed front)) (code.next (length front) piece true)

-- Of the tag, bit p of byte k is the bit at the byte's place and p of what the steps of the last piece leave.
abbrev pub OutputsAreBits : Code → Type 0
OutputsAreBits code = (held : Registers Bool) (n : ℕ) (piece : List ℕ) (k p : ℕ) → IsHeldBehind code n held →
    IsNext code n piece true → k < code.tag_bytes → p < 8 →
    slice_index_or (value_after held (code.next n piece true)).state (code.place k + p) false
    ≡ bit p (slice_index (code.output held n piece true) k)
