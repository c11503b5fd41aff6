-- Shares and fresh bits as the code holds them: the shares of a value in a byte, the fresh bits of a gate in a tape.
use Rattle.std.specs.Prelude.{◌≡◌, ℕ, ◌+◌, ◌*◌, ◌<◌, Bool, false, List, length, take, drop, slice_index, slice_index_or}
use Rattle.mask_circuit.specs.declared.gates.Gate.{Gate}
use Rattle.mask_circuit.specs.Ring.{bits}
use Rattle.mask_circuit.specs.declared.gates.Wire.TheVariants.{Share}
use Rattle.mask_circuit.specs.Wires.{Shares, pairs, fresh_of, gate_draws, gate_wire}
use Rattle.mask_sni.specs.Asked.{bit_shares}

-- the input shares that a list of bits holds, value by value and share by share
abbrev pub input_shares : ℕ → List Bool → ℕ → Shares Bool
input_shares N bits v i = slice_index_or bits (N * v + i) false

-- the shares of all values: share i of value v is bit i of byte v
abbrev pub byte_shares : List ℕ → ℕ → Shares Bool
byte_shares bytes v = bit_shares (slice_index bytes v)

-- so many bits of a tape, from here on
abbrev pub bits_from : List Bool → ℕ → ℕ → List Bool
bits_from tape start count = take count (drop start tape)

-- the fresh bits of a product or a refresh by pair, from here on in a tape
abbrev pub fresh_from : ℕ → List Bool → ℕ → ℕ → ℕ → Bool
fresh_from N tape start = fresh_of bits (pairs N) (bits_from tape start (length (pairs N)))

-- the byte has a gate's output shares, from the shares of earlier values and the fresh bits from here on in a tape
abbrev pub IsOutput : ℕ → Gate → List ℕ → List Bool → ℕ → ℕ → Type 0
IsOutput N g shares tape start byte =
    (i : ℕ) → i < N → bit_shares byte i ≡ gate_wire bits N g (byte_shares shares) (bits_from tape start (gate_draws N g)) (Share i)
