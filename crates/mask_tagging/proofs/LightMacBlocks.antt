-- The blocks of LightMAC: a piece with its counter, and the last piece with its padding.
use Rattle.std.proofs.Common.{◌≡◌, ℕ, zero, suc, ◌+◌, ◌-◌, ◌*◌, ◌/◌, ◌%◌, ◌^◌, ◌<◌, ◌≤◌, List, [], ◌∷◌, ◌++◌, length, take, drop, replicate, refl, sym, ap, ap₂, ◌∙◌, arith}
use Rattle.std.specs.Int.{byte_at, bytes_high_first}
use Rattle.std.proofs.Math.ListN.{set}
use Rattle.std.proofs.Math.Nat.{div-div-eq-div-mul, pow-succ'}
use Rattle.std.proofs.lemmas.List.{append-nil, drop_all, drop_at, drop-replicate, set_at, take_at, take-append-le, take_all, take_rest}
use borrow.Rule.Slice.PartMut.{put_mid}
use Rattle.mask_lightmac.specs.LightMac.{bytes_of, padded}
use Rattle.mask_modes.specs.Steps.{block_at}

-- THE COUNTER

byte_above : (k n : ℕ) → byte_at (suc k) n ≡ byte_at k (n / 256)
byte_above zero n = refl
byte_above (suc k) n =
    let power : 256 ^ suc (suc k) ≡ 256 * 256 ^ suc k = pow-succ' 256 (suc k) in
    ap (λ (d : ℕ). n / d % 256) power ∙ ap (λ (q : ℕ). q % 256) (sym (div-div-eq-div-mul n 256 (256 ^ suc k)))

-- the lowest byte is the last
lowest_last : (k n : ℕ) → bytes_high_first (suc k) n ≡ bytes_high_first k (n / 256) ++ n % 256 ∷ []
lowest_last zero n = refl
lowest_last (suc k) n = ap₂ (λ (byte : ℕ) (bytes : List ℕ). byte ∷ bytes) (byte_above k n) (lowest_last k n)

-- so these are the bytes of the code
pub bytes_are : (k n : ℕ) → bytes_high_first k n ≡ bytes_of k n
unfolding bytes_of
bytes_are zero n = refl
bytes_are (suc k) n = lowest_last k n ∙ ap (λ (bytes : List ℕ). bytes ++ n % 256 ∷ []) (bytes_are k (n / 256))

-- behind so many bytes come the others
others : (m k n : ℕ) → drop m (bytes_high_first (m + k) n) ≡ bytes_high_first k n
others zero k n = ap (λ (j : ℕ). bytes_high_first j n) (omega arith)
others (suc m) k n =
    let size : suc m + k ≡ suc (m + k) = omega arith in
    ap (λ (j : ℕ). drop (suc m) (bytes_high_first j n)) size ∙ others m k n

-- the last s of sixteen bytes
pub last_bytes : (s n : ℕ) (bytes : List ℕ) → s ≤ 16 → bytes ≡ bytes_high_first 16 n → take (16 - (16 - s)) (drop (16 - s) bytes) ≡ bytes_of s n
last_bytes s n bytes few are =
    let size : 16 ≡ 16 - s + s = omega arith in
    rw are (take_rest (bytes_high_first 16 n) (16 - s))
    ∙ ap (λ (j : ℕ). drop (16 - s) (bytes_high_first j n)) size ∙ others (16 - s) s n ∙ bytes_are s n

-- and behind them the piece
pub with_piece : (s : ℕ) (front zeros piece : List ℕ) → length front ≡ s → length zeros ≡ 8 - s →
    put_mid s (8 - s) (front ++ zeros) piece ≡ front ++ piece
with_piece s front zeros piece long rest =
    rw (take_at front zeros s long, drop_at front zeros s long, drop_all (8 - s) zeros (omega arith), append-nil piece) refl

-- THE PADDING

-- behind a piece comes the byte 0x80, in the first of the zeros
pub padded_is : (piece : List ℕ) → length piece < 8 →
    set (piece ++ drop (length piece) (replicate 8 0)) (length piece) 0x80 ≡ padded piece
unfolding padded
padded_is piece few =
    let rest : 8 - length piece ≡ suc (7 - length piece) = omega arith in
    ap (λ (zeros : List ℕ). set (piece ++ zeros) (length piece) 0x80) (drop-replicate (length piece) 8 0 ∙ ap (λ (k : ℕ). replicate k 0) rest)
    ∙ set_at piece 0 (replicate (7 - length piece) 0) 0x80 (length piece) refl

-- AS A BLOCK

-- eight bytes are the first block of themselves
pub block_is : (bytes : List ℕ) → length bytes ≡ 8 → block_at 8 bytes 0 ≡ bytes
block_is bytes long = take-append-le 8 bytes (replicate 8 0) (omega arith) ∙ take_all 8 bytes (omega arith)
