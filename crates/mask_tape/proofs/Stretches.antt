-- The stretch of a tape: the kept bits of a last byte and then new bytes, and what is kept after it.
use Rattle.std.proofs.Common.{◌≡◌, ℕ, suc, ◌+◌, ◌-◌, ◌*◌, ◌/◌, ◌≤◌, Bool, List, [], ◌∷◌, ◌++◌, length, drop, get_or, set, sym, ap, ◌∙◌, arith, length-drop}
use Rattle.std.proofs.lemmas.List.{append-nil, drop-append-le, drop-drop, drop_more, drop_all}
use borrow.Rule.Slice.PartMut.{put_mid}
use Rattle.mask_bits.specs.Reading.{low, lowest}
use Rattle.mask_tape.specs.Tape.{new_bytes, IsSpread}
use Rattle.mask_tape.proofs.Windows.{low-drop}

-- the kept bits and the new bytes are all bytes from some bit on
pub stretch : (kept : List Bool) (last from : ℕ) (fresh : List ℕ) → from ≤ 8 → drop from (low (last ∷ [])) ≡ kept →
    kept ++ low fresh ≡ drop from (low (last ∷ fresh))
stretch kept last from fresh le kept_is = sym (drop-append-le from (lowest 8 last) (low fresh) le ∙ ap (λ (k : List Bool). k ++ low fresh) kept_is)

-- how many new bytes n bits need
pub count_is : (kept : List Bool) (last from n : ℕ) → 1 ≤ from → from ≤ 8 → drop from (low (last ∷ [])) ≡ kept →
    (from + n - 1) / 8 ≡ new_bytes kept n
count_is kept last from n some le kept_is =
    let long : length kept ≡ 8 - from = sym (ap length kept_is) ∙ length-drop from (low (last ∷ [])) in omega arith

-- what is left over after n bits
pub rest_is : (bytes : List ℕ) (from n count : ℕ) → length bytes ≡ count + 1 → 8 * count ≤ from + n →
    drop (from + n - 8 * count) (low (get_or bytes count 0 ∷ [])) ≡ drop n (drop from (low bytes))
rest_is bytes from n count long le =
    let last : drop count bytes ≡ get_or bytes count 0 ∷ [] =
    drop_more bytes count 0 (omega arith) ∙ ap (λ (l : List ℕ). get_or bytes count 0 ∷ l) (drop_all (count + 1) bytes (omega arith)) in
    let place : 8 * count + (from + n - 8 * count) ≡ from + n = omega arith in
    ap (λ (l : List ℕ). drop (from + n - 8 * count) (low l)) (sym last)
    ∙ ap (drop (from + n - 8 * count)) (low-drop bytes count)
    ∙ drop-drop (from + n - 8 * count) (8 * count) (low bytes)
    ∙ ap (λ k. drop k (low bytes)) place
    ∙ sym (drop-drop n from (low bytes))

-- words that are spread, under other names
pub spread_same : (s s' : List Bool) (lanes b b' : ℕ) (ws ws' : List ℕ) → s' ≡ s → b' ≡ b → ws' ≡ ws → IsSpread s lanes b ws → IsSpread s' lanes b' ws'
spread_same s s' lanes b b' ws ws' s_is b_is ws_is spread = rw (s_is, b_is, ws_is) spread

-- a byte that is put first, and new ones in the place of all others
pub put_behind : (bytes buf : List ℕ) (last : ℕ) → 1 ≤ length bytes →
    put_mid 1 (length (set bytes 0 last) - 1) (set bytes 0 last) buf ≡ last ∷ buf
put_behind [] buf last some = absurd (omega arith)
put_behind (b ∷ bytes) buf last some =
    ap (λ (l : List ℕ). last ∷ (buf ++ l)) (drop_all (suc (length bytes) - 1) bytes (omega arith)) ∙ ap (λ (l : List ℕ). last ∷ l) (append-nil buf)
