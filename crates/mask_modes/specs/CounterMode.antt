-- Counter mode (ISO/IEC 10116): the message is XORed with a keystream, the encryptions of a counter that goes up by one
-- from block to block. Blocks have b bytes, and the IV is the first counter.
use Rattle.std.specs.Prelude.{◌≡◌, ℕ, suc, ◌+◌, ◌-◌, ◌*◌, ◌/◌, ◌%◌, ◌^◌, List, [], ◌∷◌, length, bit_xor}
use Rattle.mask_circuit.specs.Wires.{each, joined}

-- the XOR of bytes place by place, as long as the shorter list
abbrev pub xor_bytes : List ℕ → List ℕ → List ℕ
xor_bytes [] bs = []
xor_bytes (a ∷ as') [] = []
xor_bytes (a ∷ as') (b ∷ bs) = bit_xor a b ∷ xor_bytes as' bs

-- the last n bytes of a number, the highest first
abbrev pub bytes_of : ℕ → ℕ → List ℕ
bytes_of n x = each (λ j. x / 2 ^ (8 * (n - suc j)) % 2 ^ 8) n

-- the counter of block i: the IV plus i, where the greatest number is followed by 0
abbrev pub counter : ℕ → ℕ → ℕ → List ℕ
counter b iv i = bytes_of b ((iv + i) % 2 ^ (8 * b))

-- a cipher makes a block of each counter
abbrev pub MakesBlocks : ℕ → ℕ → (List ℕ → List ℕ) → Type 0
MakesBlocks b iv cipher = (i : ℕ) → length (cipher (counter b iv i)) ≡ b

-- how many blocks so many bytes fill, the last one perhaps in part
abbrev pub block_count : ℕ → ℕ → ℕ
block_count b n = (n + (b - 1)) / b

-- the keystream of n blocks from block i on, where cipher encrypts a block
unfoldable pub keystream : ℕ → ℕ → (List ℕ → List ℕ) → ℕ → ℕ → List ℕ
keystream b iv cipher i n = joined (λ j. cipher (counter b iv (i + j))) n

-- the ciphertext of a part of the message that begins with block i; decrypting is the same
unfoldable pub ciphertext_from : ℕ → ℕ → (List ℕ → List ℕ) → ℕ → List ℕ → List ℕ
ciphertext_from b iv cipher i part = xor_bytes part (keystream b iv cipher i (block_count b (length part)))

-- the ciphertext of a message
abbrev pub counter_mode : ℕ → ℕ → (List ℕ → List ℕ) → List ℕ → List ℕ
counter_mode b iv cipher message = ciphertext_from b iv cipher 0 message
