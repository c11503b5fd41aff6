-- A message authentication code as it is run: piece by piece, behind each of which but the last more of the message comes.
use Rattle.std.specs.Prelude.{◌≡◌, ℕ, ◌+◌, ◌-◌, ◌*◌, ◌%◌, ◌<◌, ◌≤◌, Bool, true, false, List, length}
use Rattle.mask_circuit.specs.Netlist.{Netlist}
use Rattle.mask_tasks.specs.declared.sizes.KeySize.{KeySize}
use Rattle.mask_tasks.specs.Sizes.{present_bytes}
use Rattle.mask_trace.specs.Steps.{Registers, Step}
use Rattle.mask_chaskey.specs.Chaskey.{chaskey_mac}
use Rattle.mask_lightmac.specs.LightMac.{lightmac}
use Rattle.mask_streams.specs.Streams.{with_key}
use Rattle.mask_macs.specs.ChaskeyRuns as chaskey
use Rattle.mask_macs.specs.LightMacRuns as light

-- The tag of a message under a key, and the run that computes it. What is behind n bytes, which are whole pieces, depends on
-- what the run holds there.
pub record Code : Type 0 where
  -- how many bytes the key, a piece and the tag have, and how many bits the state
  pub key_bytes : ℕ
  pub piece_bytes : ℕ
  pub tag_bytes : ℕ
  pub state_bits : ℕ
  -- the tag, by the standard
  pub tag : List ℕ → List ℕ → List ℕ
  -- what a run holds at its beginning
  pub first_held : List ℕ → Registers Bool
  -- the steps of a message, of whole pieces behind which more comes, and of the next piece, which is the last or not
  pub plan : List ℕ → List Step
  pub fed : List ℕ → List Step
  pub next : ℕ → List ℕ → Bool → List Step
  -- what goes ahead of the next piece's own step
  pub ahead : ℕ → Bool → List Step
  -- the circuits of all steps
  pub circuits : List Netlist
  -- what is handed out of the next piece
  pub output : Registers Bool → ℕ → List ℕ → Bool → List ℕ
  -- where byte k of the tag begins in what the last step leaves
  pub place : ℕ → ℕ
  -- how many random bits a run draws at order d on n bytes
  pub drawn : ℕ → ℕ → ℕ

-- Chaskey-12, with a tag of so many bytes
abbrev pub chaskey_code : ℕ → Code
chaskey_code tag_bytes = record {
  key_bytes = 16;
  piece_bytes = 16;
  tag_bytes = tag_bytes;
  state_bits = 128;
  tag = λ key message. chaskey_mac key message tag_bytes;
  first_held = with_key;
  plan = chaskey.chaskey_plan;
  fed = chaskey.fed_steps;
  next = chaskey.next_steps;
  ahead = λ n last. chaskey.ahead n;
  circuits = chaskey.circuits;
  output = chaskey.next_output tag_bytes;
  place = λ k. 8 * k;
  drawn = chaskey.chaskey_bits;
}

-- A counter has a byte or more, and leaves one or more to the piece: those of the standard have 1, 2 or 4.
abbrev pub IsCounterLength : ℕ → Type 0
IsCounterLength s = (0 < s) × (s < 8)

-- LightMAC over PRESENT, with a counter and a tag of so many bytes
abbrev pub lightmac_code : KeySize → ℕ → ℕ → Code
lightmac_code size s tag_bytes = record {
  key_bytes = present_bytes size + present_bytes size;
  piece_bytes = 8 - s;
  tag_bytes = tag_bytes;
  state_bits = 64;
  tag = lightmac size s tag_bytes;
  first_held = light.with_key size;
  plan = light.lightmac_plan size s;
  fed = light.fed_steps size s;
  next = light.next_steps size s;
  ahead = light.ahead size;
  circuits = light.circuits size;
  output = light.next_output size tag_bytes;
  place = λ k. 8 * (7 - k);
  drawn = light.lightmac_bits size s;
}

-- PIECES

-- so many bytes are whole pieces
abbrev pub ArePieces : Code → ℕ → Type 0
ArePieces code n = n % code.piece_bytes ≡ 0

-- The next piece behind n bytes: a whole one, or the last, which may be shorter. A last piece is empty only where the message is.
abbrev pub IsNext : Code → ℕ → List ℕ → Bool → Type 0
IsNext code n piece false = length piece ≡ code.piece_bytes
IsNext code n piece true = (length piece ≤ code.piece_bytes) × (0 < n → 0 < length piece)

-- What a run holds behind n bytes: the key, and behind some bytes the state.
pub record IsHeldBehind (code : Code) (n : ℕ) (held : Registers Bool) : Type 0 where
  pub key : length held.key ≡ 8 * code.key_bytes
  pub state : 0 < n → length held.state ≡ code.state_bits
