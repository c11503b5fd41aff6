-- Clocks, their outputs and their bytes in parts, and what is made with them.
use Rattle.std.proofs.Common.{◌≡◌, ℕ, zero, suc, ◌+◌, ◌-◌, ◌*◌, ◌^◌, ◌<◌, ◌≤◌, Bool, List, [], ◌∷◌, ◌++◌, length, take, drop, refl, sym, ap, ◌∙◌, arith, length-append, length-drop}
use Rattle.std.proofs.lemmas.List.{length-take, length-replicate, take-append-le, drop-append-le}
use Rattle.std.proofs.Math.Pow.{pow_mono}
use Rattle.std.proofs.lemmas.List.Elements.{All-nil, All-cons}
use Rattle.mask_bits.specs.Reading.{low, number, AreBytes}
use Rattle.mask_bits.proofs.Numbers.{number-lt}
use Rattle.mask_trivium.specs.Trivium.{bytes, clocked, clocks, keystream, loaded, next_first, next_second, next_third, output, outputs, started}
use Rattle.mask_trivium.proofs.Shifting.{length-shifted}
use Rattle.mask_modes.specs.CounterMode.{xor_bytes}
use Rattle.mask_modes.proofs.Blocks.{xor_bytes_are_bytes}
use Rattle.mask_modes.proofs.Xors.{length-xor_bytes, xor_bytes-append_right, xor_bytes-take, xor_bytes_twice}
use Rattle.mask_streams.specs.Streams.{stream_cipher}
use Rattle.mask_streams.specs.Laws.{OutputFits}

-- CLOCKS

length-clocked : (state : List Bool) → length state ≡ 288 → length (clocked state) ≡ 288
unfolding clocked
length-clocked state long = length-shifted (next_first state) (next_second state) (next_third state) state long

pub length-clocks : (n : ℕ) (state : List Bool) → length state ≡ 288 → length (clocks n state) ≡ 288
unfolding clocks
length-clocks zero state long = long
length-clocks (suc n) state long = length-clocks n (clocked state) (length-clocked state long)

-- the state of a key and an IV has 288 bits
length-loaded : (nought one : Bool) (key iv : List Bool) → length key ≡ 80 → length iv ≡ 80 →
    length (loaded nought one key iv) ≡ 288
length-loaded nought one key iv long long' = simp (length-append, length-replicate, long, long')

pub length-started : (key iv : List Bool) → length key ≡ 80 → length iv ≡ 80 → length (started key iv) ≡ 288
unfolding started
length-started key iv long long' = length-clocks 1152 (loaded _ _ key iv) (length-loaded _ _ key iv long long')

-- THEIR OUTPUTS

pub length-outputs : (n : ℕ) (state : List Bool) → length (outputs n state) ≡ n
unfolding outputs
length-outputs zero state = refl
length-outputs (suc n) state = ap suc (length-outputs n (clocked state))

pub outputs-add : (m n : ℕ) (state : List Bool) → outputs (m + n) state ≡ outputs m state ++ outputs n (clocks m state)
unfolding outputs clocks
outputs-add zero n state = let e : 0 + n ≡ n = omega arith in rw e refl
outputs-add (suc m) n state =
    let e : suc m + n ≡ suc (m + n) = omega arith in
    rw e (ap (λ (bits : List Bool). output state ∷ bits) (outputs-add m n (clocked state)))

-- IN BYTES

pub length-bytes : (n : ℕ) (bits : List Bool) → length (bytes n bits) ≡ n
unfolding bytes
length-bytes zero bits = refl
length-bytes (suc n) bits = ap suc (length-bytes n (drop 8 bits))

pub bytes-append : (m n : ℕ) (xs ys : List Bool) → length xs ≡ 8 * m → bytes (m + n) (xs ++ ys) ≡ bytes m xs ++ bytes n ys
unfolding bytes
bytes-append zero n [] ys long = let e : 0 + n ≡ n = omega arith in rw e refl
bytes-append zero n (x ∷ xs) ys long = absurd (omega arith)
bytes-append (suc m) n xs ys long =
    let e : suc m + n ≡ suc (m + n) = omega arith in
    let first : take 8 (xs ++ ys) ≡ take 8 xs = take-append-le 8 xs ys (omega arith) in
    let rest : drop 8 (xs ++ ys) ≡ drop 8 xs ++ ys = drop-append-le 8 xs ys (omega arith) in
    rw (e, first, rest) (ap (λ bs. number (take 8 xs) ∷ bs) (bytes-append m n (drop 8 xs) ys (omega (arith, length-drop 8 xs))))

pub bytes_are_bytes : (n : ℕ) (bits : List Bool) → AreBytes (bytes n bits)
unfolding bytes
bytes_are_bytes zero bits = All-nil (λ byte. byte < 2 ^ 8)
bytes_are_bytes (suc n) bits =
    let few : length (take 8 bits) ≤ 8 = omega (arith, length-take 8 bits) in
    let power : 2 ^ length (take 8 bits) ≤ 2 ^ 8 = pow_mono {i = length (take 8 bits)} {j = 8} few in
    All-cons (λ byte. byte < 2 ^ 8) _ _ (omega (arith, number-lt (take 8 bits))) (bytes_are_bytes n (drop 8 bits))

-- the bytes that clocks output, in parts
pub output_bytes-add : (m n : ℕ) (state : List Bool) →
    bytes (m + n) (outputs (8 * (m + n)) state)
    ≡ bytes m (outputs (8 * m) state) ++ bytes n (outputs (8 * n) (clocks (8 * m) state))
output_bytes-add m n state =
    let e : 8 * (m + n) ≡ 8 * m + 8 * n = omega arith in
    ap (λ (k : ℕ). bytes (m + n) (outputs k state)) e
    ∙ ap (bytes (m + n)) (outputs-add (8 * m) (8 * n) state)
    ∙ bytes-append m n (outputs (8 * m) state) _ (length-outputs (8 * m) state)

-- THE KEYSTREAM

pub length-keystream : (key iv : List ℕ) (n : ℕ) → length (keystream key iv n) ≡ n
unfolding keystream
length-keystream key iv n = length-bytes n _

keystream_is_bytes : (key iv : List ℕ) (n : ℕ) → AreBytes (keystream key iv n)
unfolding keystream
keystream_is_bytes key iv n = bytes_are_bytes n _

-- it is the same however much of it is made
pub keystream-add : (key iv : List ℕ) (m n : ℕ) →
    keystream key iv (m + n) ≡ keystream key iv m ++ bytes n (outputs (8 * n) (clocks (8 * m) (started (low key) (low iv))))
unfolding keystream
keystream-add key iv m n = output_bytes-add m n (started (low key) (low iv))

-- more keystream than it takes changes nothing
cipher-more : (key iv message : List ℕ) (n : ℕ) → length message ≤ n →
    xor_bytes message (keystream key iv n) ≡ stream_cipher key iv message
cipher-more key iv message n le =
    let e : n ≡ length message + (n - length message) = omega arith in
    ap (λ (k : ℕ). xor_bytes message (keystream key iv k)) e
    ∙ ap (xor_bytes message) (keystream-add key iv (length message) (n - length message))
    ∙ xor_bytes-append_right message (keystream key iv (length message)) _
    (omega (arith, length-keystream key iv (length message)))

length-cipher : (key iv message : List ℕ) → length (stream_cipher key iv message) ≡ length message
length-cipher key iv message = length-xor_bytes message _ (omega (arith, length-keystream key iv (length message)))

-- as many bytes as are taken
length-xors : (piece : List ℕ) (bits : List Bool) → length (xor_bytes piece (bytes (length piece) bits)) ≡ length piece
length-xors piece bits = length-xor_bytes piece (bytes (length piece) bits) (omega (arith, length-bytes (length piece) bits))

pub output_fits : OutputFits
output_fits = record {
  as_long = length-cipher;
  front = λ key iv message n.
      sym (cipher-more key iv (take n message) (length message) (omega (arith, length-take n message)))
      ∙ xor_bytes-take n message (keystream key iv (length message));
  are_bytes = λ key iv message are. xor_bytes_are_bytes message _ are (keystream_is_bytes key iv (length message));
  decrypts = λ key iv message.
      ap (λ (n : ℕ). xor_bytes (stream_cipher key iv message) (keystream key iv n)) (length-cipher key iv message)
      ∙ xor_bytes_twice message (keystream key iv (length message)) (omega (arith, length-keystream key iv (length message)));
  piece_as_long = λ iv held n piece. length-xors piece _;
  piece_of_bytes = λ iv held n piece are. xor_bytes_are_bytes piece _ are (bytes_are_bytes (length piece) _);
}
