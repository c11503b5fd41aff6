-- Where the output stands: it goes on from the state that is held, and its bits stand in what a step leaves.
use Rattle.std.proofs.Common.{◌≡◌, ℕ, zero, suc, ◌+◌, ◌-◌, ◌*◌, ◌<◌, ◌≤◌, Bool, true, false, List, [], ◌∷◌, ◌++◌, map, length, take, drop, get_or, bit_xor, replicate, refl, ap, ap₂, sym, ◌∙◌, arith, length-append}
use Rattle.std.proofs.lemmas.List.{get_or-take, get_or-drop, get_or_append_left, get_or-append_right, drop-drop}
use Rattle.std.specs.Int.{bit_at}
use Rattle.std.proofs.lemmas.Nat.Bits.{bit_at_xor, bit_at-lt}
use Rattle.mask_bits.specs.Reading.{bit, low, number}
use Rattle.mask_bits.proofs.Bytes.{length-low, low-place}
use Rattle.mask_bits.proofs.Numbers.{bit-number}
use Rattle.mask_circuit.specs.Value.{xor}
use Rattle.mask_circuit.specs.Wires.{each}
use Rattle.mask_laws.proofs.Bits.{xor_of_digits}
use Rattle.mask_parts.specs.Rows.{xor_bits}
use Rattle.mask_trivium.specs.Trivium.{bytes, clocks, keystream, outputs}
use Rattle.mask_trace.specs.Steps.{Registers}
use Rattle.mask_trace.specs.Values.{value_after}
use Rattle.mask_modes.specs.CounterMode.{block_count, xor_bytes}
use Rattle.mask_modes.specs.Steps.{block_at, blocks}
use Rattle.mask_modes.proofs.Blocks.{length-block_at}
use Rattle.mask_modes.proofs.Xors.{xor_bytes-append}
use Rattle.mask_streams.specs.Streams.{IsHeldBehind, ahead, state_at, steps_behind, stream_cipher, stream_step}
use Rattle.mask_streams.specs.Laws.{OutputGoesOn, OutputsAreBits}
use Rattle.mask_streams.proofs.Keystreams.{keystream-add, length-bytes, length-clocks, length-keystream, length-outputs, outputs-add}
use Rattle.mask_streams.proofs.Values.{ahead_is_ready, length-state_at, state_behind, stream_value, values_of_some}

-- BEHIND WHOLE BLOCKS

pub output_goes_on : OutputGoesOn
output_goes_on key iv front piece ten ten' whole =
    ap (λ (n : ℕ). xor_bytes (front ++ piece) (keystream key iv n)) (length-append front piece)
    ∙ ap (xor_bytes (front ++ piece)) (keystream-add key iv (length front) (length piece))
    ∙ xor_bytes-append front piece (keystream key iv (length front)) _ (sym (length-keystream key iv (length front)))
    ∙ ap (λ (s : List Bool). stream_cipher key iv front ++ xor_bytes piece (bytes (length piece) (outputs (8 * length piece) s)))
    (sym (state_behind key iv front ten ten' whole))

-- BITS

bit-xor : (p a b : ℕ) → bit p (bit_xor a b) ≡ xor (bit p a) (bit p b)
bit-xor p a b = rw (bit_at_xor a b p) (xor_of_digits (bit_at a p) (bit_at b p) (bit_at-lt a p) (bit_at-lt b p))

xor-swap : (a b : Bool) → xor a b ≡ xor b a
xor-swap true true = refl
xor-swap true false = refl
xor-swap false true = refl
xor-swap false false = refl

get_or-xor_bits : (xs ys : List Bool) (i : ℕ) → i < length xs → i < length ys →
    get_or (xor_bits xs ys) i false ≡ xor (get_or xs i false) (get_or ys i false)
unfolding xor_bits
get_or-xor_bits [] ys i lt lt' = absurd (omega arith)
get_or-xor_bits (x ∷ xs) [] i lt lt' = absurd (omega arith)
get_or-xor_bits (x ∷ xs) (y ∷ ys) zero lt lt' = refl
get_or-xor_bits (x ∷ xs) (y ∷ ys) (suc i) lt lt' = get_or-xor_bits xs ys i (omega arith) (omega arith)

get_or-xor_bytes : (xs ys : List ℕ) (k : ℕ) → k < length xs → k < length ys →
    get_or (xor_bytes xs ys) k 0 ≡ bit_xor (get_or xs k 0) (get_or ys k 0)
get_or-xor_bytes [] ys k lt lt' = absurd (omega arith)
get_or-xor_bytes (x ∷ xs) [] k lt lt' = absurd (omega arith)
get_or-xor_bytes (x ∷ xs) (y ∷ ys) zero lt lt' = refl
get_or-xor_bytes (x ∷ xs) (y ∷ ys) (suc k) lt lt' = get_or-xor_bytes xs ys k (omega arith) (omega arith)

get_or-bytes : (n : ℕ) (bits : List Bool) (k : ℕ) → k < n → get_or (bytes n bits) k 0 ≡ number (take 8 (drop (8 * k) bits))
unfolding bytes
get_or-bytes zero bits k lt = absurd (omega arith)
get_or-bytes (suc n) bits zero lt = refl
get_or-bytes (suc n) bits (suc k) lt =
    let e : 8 * k + 8 ≡ 8 * suc k = omega arith in
    get_or-bytes n (drop 8 bits) k (omega arith)
    ∙ ap (λ l. number (take 8 l)) (drop-drop (8 * k) 8 bits ∙ ap (λ (i : ℕ). drop i bits) (omega arith))

-- bit p of byte k
bit-bytes : (n : ℕ) (bits : List Bool) (k p : ℕ) → k < n → p < 8 →
    bit p (get_or (bytes n bits) k 0) ≡ get_or bits (8 * k + p) false
bit-bytes n bits k p lt few =
    ap (bit p) (get_or-bytes n bits k lt)
    ∙ bit-number (take 8 (drop (8 * k) bits)) p
    ∙ get_or-take 8 (drop (8 * k) bits) p false few
    ∙ get_or-drop (8 * k) bits p false

-- fewer clocks output the same bits
get_or-outputs : (m n : ℕ) (state : List Bool) (i : ℕ) → i < m → m ≤ n →
    get_or (outputs n state) i false ≡ get_or (outputs m state) i false
get_or-outputs m n state i lt le =
    let e : n ≡ m + (n - m) = omega arith in
    ap (λ (k : ℕ). get_or (outputs k state) i false) e
    ∙ ap (λ bits. get_or bits i false) (outputs-add m (n - m) state)
    ∙ get_or_append_left (outputs m state) _ false i (omega (arith, length-outputs m state))

-- A PIECE OF AT MOST A BLOCK

get_or-block_at : (piece : List ℕ) (k : ℕ) → k < length piece → k < 8 → get_or (block_at 8 piece 0) k 0 ≡ get_or piece k 0
get_or-block_at piece k lt few =
    get_or-take 8 (piece ++ replicate 8 0) k 0 few ∙ get_or_append_left piece (replicate 8 0) 0 k lt

one_block : (piece : List ℕ) → 0 < length piece → length piece ≤ 8 → blocks 8 piece ≡ block_at 8 piece 0 ∷ []
one_block piece some few = let e : block_count 8 (length piece) ≡ 1 = omega arith in ap (each (block_at 8 piece)) e

-- its step leaves the next state and the block with what the clocks output
piece_value : (iv : List ℕ) (held : Registers Bool) (n : ℕ) (piece : List ℕ) → length iv ≡ 10 → IsHeldBehind n held →
    0 < length piece → length piece ≤ 8 →
    (value_after held (steps_behind iv n piece)).state
    ≡ clocks 64 (state_at iv held n) ++ xor_bits (outputs 64 (state_at iv held n)) (low (block_at 8 piece 0))
unfolding value_after
piece_value iv held n piece ten is some few =
    let now = value_after held (ahead iv n) in
    let ready = ahead_is_ready iv held n ten is in
    ap (λ (r : Registers Bool). r.state) (values_of_some iv held n piece some)
    ∙ ap (λ (parts : List (List ℕ)). (value_after now (map stream_step parts)).state) (one_block piece some few)
    ∙ stream_value now (block_at 8 piece 0) ready.enough (length-block_at 8 piece 0)
    ∙ ap (λ (s : List Bool). clocks 64 s ++ xor_bits (outputs 64 s) (low (block_at 8 piece 0))) ready.state

pub outputs_are_bits : OutputsAreBits
outputs_are_bits iv held n piece k p ten is few lt small =
    let state = state_at iv held n in
    let block = block_at 8 piece 0 in
    let size : length (clocks 64 state) ≡ 288 = length-clocks 64 state (length-state_at iv held n ten is) in
    let place : 288 + (8 * k + p) - 288 ≡ 8 * k + p = omega arith in
    let eight : length block ≡ 8 = length-block_at 8 piece 0 in
    let made = bytes (length piece) (outputs (8 * length piece) state) in
    ap (λ bits. get_or bits (288 + (8 * k + p)) false) (piece_value iv held n piece ten is (omega arith) few)
    ∙ get_or-append_right (clocks 64 state) (xor_bits (outputs 64 state) (low block)) 288 (288 + (8 * k + p)) false size
    (omega arith)
    ∙ ap (λ (i : ℕ). get_or (xor_bits (outputs 64 state) (low block)) i false) place
    ∙ get_or-xor_bits (outputs 64 state) (low block) (8 * k + p)
    (omega (arith, length-outputs 64 state)) (omega (arith, length-low block))
    ∙ ap₂ xor
    (get_or-outputs (8 * length piece) 64 state (8 * k + p) (omega arith) (omega arith)
    ∙ sym (bit-bytes (length piece) (outputs (8 * length piece) state) k p lt small))
    (low-place block k p (omega arith) small ∙ ap (bit p) (get_or-block_at piece k lt (omega arith)))
    ∙ xor-swap (bit p (get_or made k 0)) (bit p (get_or piece k 0))
    ∙ sym (bit-xor p (get_or piece k 0) (get_or made k 0))
    ∙ ap (bit p)
    (sym (get_or-xor_bytes piece made k lt (omega (arith, length-bytes (length piece) (outputs (8 * length piece) state)))))
