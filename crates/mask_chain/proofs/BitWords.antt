-- Bits of bytes as words.
use Rattle.std.proofs.Common.{◌≡◌, ℕ, ◌+◌, ◌*◌, ◌/◌, ◌%◌, ◌<◌, ◌≤◌, Bool, true, false, List, [], ◌∷◌, ◌++◌, length, take, get_or, refl, sym, ap, ap₂, ◌∙◌, arith}
use Rattle.std.proofs.Math.ListN.{set}
use Rattle.std.proofs.lemmas.List.{map-append, take_all, take_more, take_more_set}
use mir.Val.{bool_byte}
use Rattle.mask_bits.specs.Lanes.{lane}
use Rattle.mask_bits.specs.Reading.{bit, low}
use Rattle.mask_bits.proofs.Bytes.{length-low, low-place}

pub bit_of_bool : (b : Bool) → bit 0 (bool_byte b) ≡ b
bit_of_bool true = refl
bit_of_bool false = refl

-- where a bit of bytes stands
pub bit_is : (bytes : List ℕ) (j : ℕ) → j < 8 * length bytes → bit (j % 8) (get_or bytes (j / 8) 0) ≡ get_or (low bytes) j false
bit_is bytes j lt =
    let place : 8 * (j / 8) + j % 8 ≡ j = omega arith in
    sym (low-place bytes (j / 8) (j % 8) (omega arith) (omega arith)) ∙ ap (λ (i : ℕ). get_or (low bytes) i false) place

-- one word more
pub word_more : (bytes words : List ℕ) (j word : ℕ) → length words ≡ 8 * length bytes → j < length words →
    lane 0 (take j words) ≡ take j (low bytes) → bit 0 word ≡ get_or (low bytes) j false →
    lane 0 (take (j + 1) (set words j word)) ≡ take (j + 1) (low bytes)
word_more bytes words j word long lt so_far is =
    ap (lane 0) (take_more_set words j word lt) ∙ map-append (bit 0) (take j words) (word ∷ [])
    ∙ ap₂ (λ (bs : List Bool) (b : Bool). bs ++ b ∷ []) so_far is
    ∙ sym (take_more (low bytes) j false (omega (arith, length-low bytes)))

-- all of them
pub all_words : (bytes words : List ℕ) (j : ℕ) → length words ≡ 8 * length bytes → length words ≤ j →
    lane 0 (take j words) ≡ take j (low bytes) → lane 0 words ≡ low bytes
all_words bytes words j long all so_far =
    ap (lane 0) (sym (take_all j words all)) ∙ so_far ∙ take_all j (low bytes) (omega (arith, length-low bytes))
