-- What a run in counter mode holds and hands out.
use Rattle.std.specs.Prelude.{◌≡◌, ℕ, ◌+◌, Bool, List, [], ◌∷◌, ◌++◌, map, drop, All}
use Rattle.mask_circuit.specs.Ring.{bits}
use Rattle.mask_circuit.specs.Sharing.{unmasked}
use Rattle.mask_trace.specs.Steps.{Registers, Keeps, Nothing, AsKey, AsState, Step, stretch}
use Rattle.mask_trace.specs.Values.{HasShares, values_of}
use Rattle.mask_trace.specs.Traces.{BitShares, output_shares, after_step}
use Rattle.mask_modes.specs.CounterMode.{counter, xor_bytes}
use Rattle.mask_modes.specs.Steps.{Mode, IsBlock, block_at}

-- the key is there, in N shares of each bit, and there is no state
abbrev pub HasKey : ℕ → Mode → Registers BitShares → Type 0
HasKey N m have = HasShares N m.key 0 have

-- the bits of the key that these shares stand for
abbrev pub key_of : Registers BitShares → List Bool
key_of have = (values_of have).key

-- block j of the ciphertext of a part that begins with block i, where the last block of the part is filled up
abbrev pub ciphertext_block : ℕ → ℕ → (List ℕ → List ℕ) → ℕ → List ℕ → ℕ → List ℕ
ciphertext_block b iv cipher i part j = xor_bytes (block_at b part j) (cipher (counter b iv (i + j)))

-- the outputs of a step, if nothing keeps them
abbrev pub unkept : {X : Type 0} → Keeps → X → List X
unkept Nothing outputs = outputs ∷ []
unkept AsKey outputs = []
unkept AsState outputs = []

-- the outputs of the steps that nothing keeps, in shares
unfoldable pub handed_out : ℕ → Registers BitShares → List Step → List Bool → List (List BitShares)
handed_out N have [] r = []
handed_out N have (s ∷ ss) r = unkept s.keeps (output_shares N have s r) ++ handed_out N (after_step N have s r) ss (drop (stretch N s) r)

-- Blocks that stand for these outputs: they read as the bits that the outputs share.
pub record StandFor (m : Mode) (outputs : List (List BitShares)) (blocks : List (List ℕ)) : Type 0 where
  pub are_blocks : All (IsBlock m) blocks
  pub read : map m.reading blocks ≡ map (map (unmasked bits)) outputs
