-- Bytes from bits that are handed out in shares.
use Rattle.std.proofs.Common.{◌≡◌, ℕ, zero, suc, ◌+◌, ◌*◌, ◌/◌, ◌%◌, ◌^◌, ◌<◌, ◌≤◌, Bool, true, false, List, [], ◌∷◌, ◌++◌, map, length, take, get_or, refl, ◌∙◌, sym, ap, ap₂, subst, arith}
use Rattle.std.proofs.lemmas.List.{take_all, ext_get_or}
use Rattle.mask_bits.specs.Lanes.{lane}
use Rattle.mask_bits.specs.Reading.{AreBytes, bit, lowest, number}
use Rattle.mask_bits.proofs.Numbers.{bit-number, number-lowest}
use Rattle.mask_circuit.specs.Ring.{bits, words}
use Rattle.mask_circuit.specs.Sharing.{unmasked}
use Rattle.mask_circuit.specs.Wires.{each}
use Rattle.mask_circuit.proofs.Places.{length-each}
use Rattle.mask_shares.proofs.Lists.{get_or-each}
use Rattle.mask_eval.proofs.Shared.{unmasked_in_lane}
use Rattle.mask_tasks.specs.declared.tasks.Task.{Task}
use Rattle.mask_tasks.specs.declared.tasks.Task.TheVariants.{Present, Lea, Trivium, LightMac, Chaskey}
use Rattle.mask_tasks.specs.Tasks.{key_bytes}
use Rattle.mask_keys.specs.Lines.{joined, line_length}
use Rattle.mask_trace.specs.Drawing.{Stand}
use Rattle.mask_tasks.proofs.Limits.{lightmac_tag-bounds, chaskey_tag-bounds}
use Rattle.mask_ciphers.specs.Methods.{AreBatches, IsCipher, next_length}
use Rattle.mask_ciphers.specs.Tasks.{method_of}
use Rattle.mask_ciphers.proofs.Writing.{pieces_are_written}
use Rattle.mask_plan.specs.Sessions.{Progress, HandsOut, batch_length, block_length, next_output, out_words}
use Rattle.mask_message.proofs.Growing.{BehindBatches, next_output-is}

-- the bits of byte `byte` of the block in a lane
abbrev pub byte_bits : Progress → ℕ → ℕ → List Bool
byte_bits s column byte = each (λ p. unmasked bits (lane column (out_words s byte p))) 8

-- the bit that the shares at a place stand for
pub bit-next : (s : Progress) (column byte place word : ℕ) (shares : List ℕ) (b : Bool) → place < 8 → shares ≡ out_words s byte place → word ≡ unmasked words shares →
    b ≡ bit column word → b ≡ get_or (byte_bits s column byte) place false
bit-next s column byte place word shares b lt shares_are word_is bit_is =
    bit_is
    ∙ ap (bit column) word_is
    ∙ unmasked_in_lane column shares
    ∙ ap (λ (ws : List ℕ). unmasked bits (lane column ws)) shares_are
    ∙ sym (get_or-each (λ p. unmasked bits (lane column (out_words s byte p))) 8 place false lt)

-- the bits of a byte that has taken all
pub bits-all : (s : Progress) (column byte place value : ℕ) → 8 ≤ place → value ≡ number (take place (byte_bits s column byte)) → (p : ℕ) → p < 8 →
    bit p value ≡ unmasked bits (lane column (out_words s byte p))
bits-all s column byte place value all is p lt =
    let bs = byte_bits s column byte in
    let size : length bs ≡ 8 = length-each (λ p. unmasked bits (lane column (out_words s byte p))) 8 in
    ap (bit p) (is ∙ ap number (take_all place bs (omega arith)))
    ∙ bit-number bs p
    ∙ get_or-each (λ p. unmasked bits (lane column (out_words s byte p))) 8 p false lt

pub length-byte_bits : (s : Progress) (column byte : ℕ) → length (byte_bits s column byte) ≡ 8
length-byte_bits s column byte = length-each (λ p. unmasked bits (lane column (out_words s byte p))) 8

-- WHOLE BYTES

lowest-same : (n x y : ℕ) → ((p : ℕ) → p < n → bit p x ≡ bit p y) → lowest n x ≡ lowest n y
lowest-same zero x y same = refl
lowest-same (suc n) x y same =
    ap₂ (λ (front : List Bool) (b : Bool). front ++ b ∷ []) (lowest-same n x y (λ p lt. same p (omega arith))) (same n (omega arith))

-- a byte is known by its bits
same-byte : (x y : ℕ) → x < 2 ^ 8 → y < 2 ^ 8 → ((p : ℕ) → p < 8 → bit p x ≡ bit p y) → x ≡ y
same-byte x y lt lt' same =
    let e : x % 2 ^ 8 ≡ y % 2 ^ 8 = sym (number-lowest 8 x) ∙ ap number (lowest-same 8 x y same) ∙ number-lowest 8 y in
    omega arith

-- bytes are known by what their bits stand for
pub same-bytes : (s : Progress) (block : ℕ) (bytes expected : List ℕ) → block ≡ block_length s.task → length bytes ≡ length expected →
    ((k : ℕ) → k < length bytes → get_or bytes k 0 < 2 ^ 8) → AreBytes expected →
    ((k p : ℕ) → k < length bytes → p < 8 → bit p (get_or bytes k 0) ≡ unmasked bits (lane (k / block) (out_words s (k % block) p))) →
    HandsOut s expected → bytes ≡ expected
same-bytes s block bytes expected is size small are stand hands =
    ext_get_or 0 bytes expected size (λ k lt.
    same-byte (get_or bytes k 0) (get_or expected k 0) (small k lt) (are k 0 (omega arith)) (λ p few.
    stand k p lt few
    ∙ ap (λ (b : ℕ). unmasked bits (lane (k / b) (out_words s (k % b) p))) is
    ∙ hands k p (omega arith) few))

-- WHAT IS HANDED OUT

-- the key that lines join to is as long as they are
pub joined-long : (task : Task) (lines : List (List ℕ)) → line_length lines ≡ key_bytes task → length (joined lines) ≡ key_bytes task
joined-long task lines long = length-each (λ b. unmasked words (map (λ (line : List ℕ). get_or line b 0) lines)) (line_length lines) ∙ long

module _ (task : Task) (N : ℕ) (lines : List (List ℕ)) (front piece : List ℕ) (last : Bool) (s : Progress) (a b : Stand)
    (behind : BehindBatches task N lines front s a b) (whole : AreBatches (method_of task) (length front)) (long : length (joined lines) ≡ key_bytes task) where
  next-long : length (next_output s piece last) ≡ next_length (method_of task) piece last
  next-long = ap length (next_output-is task N lines front piece last s a b behind whole) ∙ pieces_are_written.as_long task (joined lines) front piece last long

  next-bytes : AreBytes piece → AreBytes (next_output s piece last)
  next-bytes are = rw (next_output-is task N lines front piece last s a b behind whole) (pieces_are_written.bytes task (joined lines) front piece last long are)

  -- what holds of all bytes that may be handed out holds of those that are due
  pub due : (X : List ℕ → Type 0) (n : ℕ) (s' : Progress) → next_length (method_of task) piece last ≡ n → AreBytes piece → HandsOut s' (next_output s piece last) →
      ((bytes : List ℕ) → length bytes ≡ n → AreBytes bytes → HandsOut s' bytes → X bytes) → X (next_output s piece last)
  due X n s' size are hands all = all (next_output s piece last) (next-long ∙ size) (next-bytes are) hands

-- a ciphertext is as long as its piece, and of a code the tag comes behind the last one
pub cipher-long : (task : Task) → IsCipher (method_of task) → (piece : List ℕ) (last : Bool) → next_length (method_of task) piece last ≡ length piece
cipher-long (Present size iv) cipher piece last = refl
cipher-long (Lea size iv) cipher piece last = refl
cipher-long (Trivium iv) cipher piece last = refl
cipher-long (LightMac size counter tag) cipher piece last = absurd cipher
cipher-long (Chaskey tag) cipher piece last = absurd cipher

pub tag-long : (task : Task) → (IsCipher (method_of task) → ⊥) → (piece : List ℕ) → next_length (method_of task) piece true ≡ block_length task
tag-long (Present size iv) tag piece = absurd (tag tt)
tag-long (Lea size iv) tag piece = absurd (tag tt)
tag-long (Trivium iv) tag piece = absurd (tag tt)
tag-long (LightMac size counter tag_bytes) tag piece = refl
tag-long (Chaskey tag_bytes) tag piece = refl

-- LANES

-- a batch of a cipher has no more than 64 blocks
pub few_blocks : (task : Task) → IsCipher (method_of task) → batch_length task ≤ 64 * block_length task
few_blocks (Present size iv) cipher = omega arith
few_blocks (Lea size iv) cipher = omega arith
few_blocks (Trivium iv) cipher = omega arith
few_blocks (LightMac size counter tag) cipher = absurd cipher
few_blocks (Chaskey tag) cipher = absurd cipher

pub some_block : (task : Task) → 0 < block_length task
some_block (Present size iv) = omega arith
some_block (Lea size iv) = omega arith
some_block (Trivium iv) = omega arith
some_block (LightMac size counter tag) = (lightmac_tag-bounds tag).0
some_block (Chaskey tag) = (chaskey_tag-bounds tag).0

-- a batch is no longer than the most bytes of any
pub batch_fits : (task : Task) → batch_length task ≤ 1024
batch_fits (Present size iv) = omega arith
batch_fits (Lea size iv) = omega arith
batch_fits (Trivium iv) = omega arith
batch_fits (LightMac size counter tag) = omega arith
batch_fits (Chaskey tag) = omega arith

-- and a piece of a code and its tag no longer than 16
pub piece_fits : (task : Task) → (IsCipher (method_of task) → ⊥) → batch_length task ≤ 16
piece_fits (Present size iv) tag = absurd (tag tt)
piece_fits (Lea size iv) tag = absurd (tag tt)
piece_fits (Trivium iv) tag = absurd (tag tt)
piece_fits (LightMac size counter tag_bytes) tag = omega arith
piece_fits (Chaskey tag_bytes) tag = omega arith

pub tag_fits : (task : Task) → (IsCipher (method_of task) → ⊥) → block_length task ≤ 16
tag_fits (Present size iv) tag = absurd (tag tt)
tag_fits (Lea size iv) tag = absurd (tag tt)
tag_fits (Trivium iv) tag = absurd (tag tt)
tag_fits (LightMac size counter tag_bytes) tag = omega (arith, (lightmac_tag-bounds tag_bytes).1)
tag_fits (Chaskey tag_bytes) tag = (chaskey_tag-bounds tag_bytes).1
