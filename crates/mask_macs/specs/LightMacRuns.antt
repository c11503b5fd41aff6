-- A run of the message authentication code LightMAC over PRESENT (ISO/IEC 29192-6:2019; Luykx, Preneel, Tischhauser and Yasuda,
-- FSE 2016), as steps. Each piece of the message but the last takes a step, under K1, and K1 gets fresh shares ahead of each of
-- these but the first. The last piece takes the end, under K2, and the tag is read from what that leaves.
--
-- The key is K1 and then K2. A counter has s bytes, and a piece 8 - s. Bytes are read high first.
use Rattle.std.specs.Prelude.{ℕ, suc, ◌+◌, ◌-◌, ◌*◌, ◌/◌, Bool, true, false, ◌==◌, cond, List, [], ◌∷◌, ◌++◌, map, length, take, drop, replicate}
use Rattle.mask_bits.specs.Reading.{high, number}
use Rattle.mask_circuit.specs.Netlist.{Netlist}
use Rattle.mask_circuit.specs.Wires.{each, joined}
use Rattle.mask_parts.specs.CipherCircuits.{gate_bits}
use Rattle.mask_tasks.specs.declared.sizes.KeySize.{KeySize}
use Rattle.mask_tasks.specs.declared.sizes.KeySize.TheVariants.{K80, K128}
use Rattle.mask_tasks.specs.Sizes.{present_bytes}
use Rattle.mask_lightmac.specs.LightMac.{bytes_of, finished, last_piece, number_of, padded, piece_at, pieces_before}
use Rattle.mask_lightmac.specs.NamedLightMac.{named_end, named_step}
use Rattle.mask_refresh.specs.Refreshing.{refreshing}
use Rattle.mask_trace.specs.Steps.{InputBit, Public, Plain, Key, State, AsKey, AsState, Registers, Step}

-- THE STEPS

-- how many bits K1 has, and so K2
abbrev pub key_width : KeySize → ℕ
key_width size = 8 * present_bytes size

-- a run that begins with these bytes as its key, and with no state
abbrev pub with_key : KeySize → List ℕ → Registers Bool
with_key size key = record { key = high (take (present_bytes size) key) ++ high (drop (present_bytes size) key); state = [] }

-- the bits of V behind n bytes: where there were none it is 0, which all may know
abbrev pub value_bits : ℕ → List InputBit
value_bits n = cond (n == 0) (map Public (replicate 64 false)) (each State 64)

-- the block of the piece behind n bytes: its counter, which begins at 1, and the piece
abbrev pub counted_bytes : ℕ → ℕ → List ℕ → List ℕ
counted_bytes s n piece = bytes_of s (suc (n / (8 - s))) ++ piece

-- the step that takes up a piece behind n bytes, behind which more of the message comes
abbrev pub piece_step : KeySize → ℕ → ℕ → List ℕ → Step
piece_step size s n piece = record {
  circuit = named_step size;
  inputs = each Key (key_width size) ++ (map Plain (high (counted_bytes s n piece)) ++ value_bits n);
  keeps = AsState;
}

-- the step that gives K1 fresh shares
abbrev pub refresh_step : KeySize → Step
refresh_step size = record { circuit = refreshing (key_width size); inputs = each Key (key_width size); keeps = AsKey }

-- the step that takes up the last piece, behind n bytes
abbrev pub end_step : KeySize → ℕ → List ℕ → Step
end_step size n piece = record {
  circuit = named_end size;
  inputs = each (λ j. Key (key_width size + j)) (key_width size) ++ (value_bits n ++ map Plain (high (padded piece)));
  keeps = AsState;
}

-- what goes ahead of a piece behind n bytes, be it the last or not
abbrev pub ahead : KeySize → ℕ → Bool → List Step
ahead size n false = cond (n == 0) [] (refresh_step size ∷ [])
ahead size n true = []

-- the steps of the next piece, behind whole pieces of n bytes in all
abbrev pub next_steps : KeySize → ℕ → ℕ → List ℕ → Bool → List Step
next_steps size s n piece false = ahead size n false ++ piece_step size s n piece ∷ []
next_steps size s n piece true = ahead size n true ++ end_step size n piece ∷ []

-- the steps of the first n pieces, behind which more of the message comes
abbrev pub piece_steps : KeySize → ℕ → List ℕ → ℕ → List Step
piece_steps size s message n = joined (λ i. next_steps size s ((8 - s) * i) (piece_at s message i) false) n

-- the steps of whole pieces behind which more of the message comes
abbrev pub fed_steps : KeySize → ℕ → List ℕ → List Step
fed_steps size s front = piece_steps size s front (length front / (8 - s))

-- the steps of a message
abbrev pub lightmac_plan : KeySize → ℕ → List ℕ → List Step
lightmac_plan size s message =
    let n = pieces_before s message in
    piece_steps size s message n ++ end_step size ((8 - s) * n) (last_piece s message) ∷ []

-- the circuits of all steps
abbrev pub circuits : KeySize → List Netlist
circuits size = refreshing (key_width size) ∷ named_step size ∷ named_end size ∷ []

-- WHAT THEY MAKE

-- V behind n bytes, where the run holds these bits
abbrev pub value_at : Registers Bool → ℕ → ℕ
value_at held n = cond (n == 0) 0 (number held.state)

-- what is handed out of the next piece behind n bytes, where the run holds these bits: the tag, of so many bytes, behind the
-- last one, and nothing before
abbrev pub next_output : KeySize → ℕ → Registers Bool → ℕ → List ℕ → Bool → List ℕ
next_output size tag_bytes held n piece false = []
next_output size tag_bytes held n piece true =
    let k2 = number (drop (key_width size) held.key) in
    take tag_bytes (bytes_of 8 (finished size k2 (value_at held n) (number_of (padded piece))))

-- RANDOM BITS

-- how many products and refreshes a step and the end have
abbrev pub piece_gates : KeySize → ℕ
piece_gates K80 = 5_334
piece_gates K128 = 5_644

-- The bits that a run on n bytes draws at order d: for each piece, also the last, d to share each of its 64 bits, and those of
-- its gates; and a refresh of K1 for each piece but the first and the last.
unfoldable pub lightmac_bits : KeySize → ℕ → ℕ → ℕ → ℕ
lightmac_bits size s d n =
    let pieces = suc ((n - 1) / (8 - s)) in
    pieces * (64 * d + piece_gates size * gate_bits d) + (pieces - 2) * (key_width size * gate_bits d)
