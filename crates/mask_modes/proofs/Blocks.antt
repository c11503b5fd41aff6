-- The blocks of a message.
use Rattle.std.proofs.Common.{◌≡◌, ℕ, ◌*◌, ◌^◌, ◌<◌, List, [], ◌∷◌, ◌++◌, length, drop, replicate, bit_xor, All, ◌∙◌, arith, length-append}
use Rattle.std.proofs.lemmas.List.{length-take-le, length-replicate}
use Rattle.std.proofs.lemmas.List.Elements.{All-nil, All-cons, All-tail, All-append, All-take, All-drop, All-replicate}
use Rattle.std.proofs.lemmas.Nat.{xor_lt}
use Rattle.mask_modes.specs.CounterMode.{block_count, xor_bytes}
use Rattle.mask_bits.specs.Reading.{AreBytes}
use Rattle.mask_modes.specs.Steps.{Mode, IsBlock, block_at, blocks}
use Rattle.mask_laws.proofs.CircuitNames.{All-each}
use Rattle.mask_modes.proofs.Xors.{length-xor_bytes}

pub length-block_at : (b : ℕ) (message : List ℕ) (i : ℕ) → length (block_at b message i) ≡ b
length-block_at b message i = length-take-le b (drop (i * b) message ++ replicate b 0) (omega (arith, length-append (drop (i * b) message) (replicate b 0), length-replicate {A = ℕ} b 0))

pub blocks_are_long : (b : ℕ) (message : List ℕ) → All (λ block. length block ≡ b) (blocks b message)
blocks_are_long b message = All-each (λ block. length block ≡ b) (block_at b message) (block_count b (length message)) (λ i lt. length-block_at b message i)

pub block_at_is_block : (m : Mode) (part : List ℕ) (j : ℕ) → AreBytes part → IsBlock m (block_at m.block part j)
block_at_is_block m part j are =
    let byte : ℕ → Type 0 = λ b. b < 2 ^ 8 in (
      length-block_at m.block part j,
      All-take byte m.block (drop (j * m.block) part ++ replicate m.block 0)
          (All-append byte (drop (j * m.block) part) (replicate m.block 0) (All-drop byte (j * m.block) part are) (All-replicate byte m.block 0 (omega arith))),
    )

pub xor_bytes_are_bytes : (xs ys : List ℕ) → AreBytes xs → AreBytes ys → AreBytes (xor_bytes xs ys)
xor_bytes_are_bytes [] ys are are' = All-nil (λ b. b < 2 ^ 8)
xor_bytes_are_bytes (x ∷ xs) [] are are' = All-nil (λ b. b < 2 ^ 8)
xor_bytes_are_bytes (x ∷ xs) (y ∷ ys) are are' =
    All-cons (λ b. b < 2 ^ 8) (bit_xor x y) (xor_bytes xs ys) (xor_lt 8 x y (are 0 0 (omega arith)) (are' 0 0 (omega arith)))
    (xor_bytes_are_bytes xs ys (All-tail (λ b. b < 2 ^ 8) x xs are) (All-tail (λ b. b < 2 ^ 8) y ys are'))

pub xor_is_block : (m : Mode) (x y : List ℕ) → IsBlock m x → IsBlock m y → IsBlock m (xor_bytes x y)
xor_is_block m x y (size, are) (size', are') = (length-xor_bytes x y (omega arith) ∙ size, xor_bytes_are_bytes x y are are')
