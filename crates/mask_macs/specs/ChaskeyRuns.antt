-- A run of the message authentication code Chaskey-12 (ISO/IEC 29192-6:2019; Mouha and others, SAC 2014, with twelve rounds), as
-- steps. The state begins as the key, in shares of its own. Each block of sixteen bytes but the last takes a step. The last
-- block, which may be shorter, takes the end, and the tag is read from what that leaves. The key has sixteen bytes.
use Rattle.std.specs.Prelude.{ℕ, suc, ◌+◌, ◌-◌, ◌*◌, ◌/◌, Bool, true, false, ◌==◌, cond, List, [], ◌∷◌, ◌++◌, map, length, take, drop}
use Rattle.mask_bits.specs.Reading.{low, number}
use Rattle.mask_circuit.specs.Netlist.{Netlist}
use Rattle.mask_circuit.specs.Wires.{each}
use Rattle.mask_parts.specs.CipherCircuits.{gate_bits}
use Rattle.mask_chaskey.specs.declared.doubling.End.{End}
use Rattle.mask_chaskey.specs.declared.doubling.End.TheVariants.{Whole, Short}
use Rattle.mask_chaskey.specs.Chaskey.{blocks_before, bytes_of, end_of, finished, last_bytes, number_of, padded}
use Rattle.mask_chaskey.specs.NamedChaskey.{named_end, named_step}
use Rattle.mask_refresh.specs.Refreshing.{refreshing}
use Rattle.mask_trace.specs.Steps.{Plain, Key, State, AsState, Registers, Step}

-- THE STEPS

-- the step that makes the key the first state
abbrev pub start_step : Step
start_step = record { circuit = refreshing 128; inputs = each Key 128; keeps = AsState }

-- the step that takes up a block of sixteen bytes behind which more of the message comes
abbrev pub block_step : List ℕ → Step
block_step block = record { circuit = named_step; inputs = each State 128 ++ map Plain (low block); keeps = AsState }

-- the step that takes up the last block, which has these bytes
abbrev pub end_step : End → List ℕ → Step
end_step end bytes = record {
  circuit = named_end end;
  inputs = each State 128 ++ (each Key 128 ++ map Plain (low (padded end bytes)));
  keeps = AsState;
}

-- what goes ahead of what comes behind n bytes: the first state, where there were none
abbrev pub ahead : ℕ → List Step
ahead n = cond (n == 0) (start_step ∷ []) []

-- the bytes of block i
abbrev pub block_of : List ℕ → ℕ → List ℕ
block_of message i = take 16 (drop (16 * i) message)

-- the steps of the first n blocks
abbrev pub block_steps : List ℕ → ℕ → List Step
block_steps message n = each (λ i. block_step (block_of message i)) n

-- the steps of whole blocks behind which more of the message comes; no bytes take no step
abbrev pub fed_steps : List ℕ → List Step
fed_steps [] = []
fed_steps (byte ∷ more) = start_step ∷ block_steps (byte ∷ more) (length (byte ∷ more) / 16)

-- Those of the next piece, behind whole blocks of n bytes in all: of a block behind which more comes, or of the last one. That
-- one ends as a message of its bytes does.
abbrev pub next_steps : ℕ → List ℕ → Bool → List Step
next_steps n piece false = ahead n ++ block_step piece ∷ []
next_steps n piece true = ahead n ++ end_step (end_of piece) piece ∷ []

-- the steps of a message
abbrev pub chaskey_plan : List ℕ → List Step
chaskey_plan message =
    start_step ∷ (block_steps message (blocks_before message) ++ end_step (end_of message) (last_bytes message) ∷ [])

-- the circuits of all steps
abbrev pub circuits : List Netlist
circuits = refreshing 128 ∷ named_step ∷ named_end Whole ∷ named_end Short ∷ []

-- WHAT THEY MAKE

-- the state of the code behind n bytes, where the run holds these bits
abbrev pub state_at : Registers Bool → ℕ → ℕ
state_at held n = cond (n == 0) (number held.key) (number held.state)

-- what is handed out of the next piece behind n bytes, where the run holds these bits: the tag, of so many bytes, behind the
-- last one, and nothing before
abbrev pub next_output : ℕ → Registers Bool → ℕ → List ℕ → Bool → List ℕ
next_output tag_bytes held n piece false = []
next_output tag_bytes held n piece true =
    let end = end_of piece in
    bytes_of tag_bytes (finished end (number held.key) (state_at held n) (number_of (padded end piece)))

-- RANDOM BITS

-- The bits that a run on n bytes draws at order d: the 128 refreshes of the start, and for each block d to share each of its 128
-- bits, and those of 1,488 products and 1,616 refreshes.
unfoldable pub chaskey_bits : ℕ → ℕ → ℕ
chaskey_bits d n = 128 * gate_bits d + suc ((n - 1) / 16) * (128 * d + 3_104 * gate_bits d)
