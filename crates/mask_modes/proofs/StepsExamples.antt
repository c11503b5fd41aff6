-- The steps of counter mode computed at a small cipher.
use Rattle.std.specs.Prelude.{◌≡◌, ℕ, ◌+◌, ◌-◌, ◌*◌, ◌%◌, Bool, true, false, ◌==◌, List, [], ◌∷◌, ◌++◌, map, length, replicate, refl}
use Rattle.mask_bits.specs.Reading.{low}
use Rattle.mask_circuit.specs.declared.gates.Gate.TheVariants.{Xor, Ref}
use Rattle.mask_circuit.specs.Ring.{bits}
use Rattle.mask_circuit.specs.Wires.{each}
use Rattle.mask_circuit.specs.Sharing.{unmasked}
use Rattle.mask_trace.specs.Steps.{Registers, bits_of}
use Rattle.mask_trace.specs.Traces.{BitShares, after}
use Rattle.mask_modes.specs.CounterMode.{counter_mode, ciphertext_from, keystream}
use Rattle.mask_modes.specs.Steps.{Mode, is_due, refresh_step, steps_from, steps_of}
use Rattle.mask_modes.specs.Outputs.{handed_out}

-- A key of one bit, which flips all bits of a byte.
abbrev flipped : List Bool → List ℕ → List ℕ
flipped (true ∷ key) (byte ∷ bytes) = (255 - byte) ∷ []
flipped key bytes = bytes

-- The key is value 0, the counter has 1 to 8 and the block 9 to 16. Each output is a refresh.
flips : Mode
flips = record {
  circuit = record {
    inputs = 17;
    gates = each (λ i. Xor (9 + i) (1 + i)) 8 ++ each (λ i. Xor (17 + i) 0) 8 ++ each (λ i. Ref (25 + i)) 8;
    outputs = each (λ i. 33 + i) 8;
  };
  refresh = record { inputs = 1; gates = Ref 0 ∷ []; outputs = 1 ∷ [] };
  key = 1;
  block = 1;
  reading = low;
  iv = 255;
}

-- a key of 1, in two shares
key : Registers BitShares
key = record { key = (true ∷ false ∷ []) ∷ []; state = [] }

-- ahead of blocks 64 and 128 the key gets fresh shares
due : map is_due (0 ∷ 1 ∷ 63 ∷ 64 ∷ 65 ∷ 128 ∷ []) ≡ false ∷ false ∷ false ∷ true ∷ false ∷ true ∷ []
due = refl

-- 65 blocks take a step each and one refresh
step_count : length (steps_of flips (replicate 65 0)) ≡ 66
unfolding steps_from flips
step_count = refl

-- on two shares a block takes eight coins to share it and eight to refresh the outputs, and the refresh takes one
bit_count : bits_of 2 (steps_of flips (replicate 65 0)) ≡ 65 * 16 + 1
unfolding steps_from flips
bit_count = refl

-- the shares that a refresh gives
fresh_shares : (after 2 key (refresh_step flips ∷ []) (true ∷ [])).key ≡ (false ∷ true ∷ []) ∷ []
unfolding after flips key
fresh_shares = refl

-- the counters are 255 and 0, and encrypted 0 and 255
ciphertext : counter_mode 1 255 (flipped (true ∷ [])) (5 ∷ 3 ∷ []) ≡ 5 ∷ 252 ∷ []
unfolding ciphertext_from keystream
ciphertext = refl

-- so do the outputs say, on a tape of ones and zeros
outputs : map (map (unmasked bits)) (handed_out 2 key (steps_of flips (5 ∷ 3 ∷ [])) (each (λ i. i % 3 == 0) 32)) ≡ low (5 ∷ []) ∷ low (252 ∷ []) ∷ []
unfolding handed_out steps_from flips key
outputs = refl
