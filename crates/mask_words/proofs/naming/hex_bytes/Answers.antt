use Rattle.std.proofs.Common.{◌≡◌, ◌%◌, Bool, true, false, ◌||◌, ◌&&◌, not, ◌==◌, length, codes, Ok, Err, refl, sym, ◌∙◌, inl, inr, arith}
use Rattle.std.specs.Str.{bytes_eq}
use Rattle.hex.specs.Hex.{decode_of}
use Rattle.hex.specs.declared.error.FromHexError.{FromHexError}
use Rattle.hex.proofs.HexLemmas.{decode_of-digits}
use Rattle.mask_words.specs.WordTests.{Word, is_hex_text, are_hex_digits}
use Rattle.mask_words.proofs.Hexadecimal.{digits_decode}
use Rattle.mask_words.proofs.naming.hex_bytes.Goals.{in-OutOfMemory, in_default}
use Rattle.mask_words.proofs.naming.hex_bytes.Goals as goal

-- of a word that isn't `-`
are_digits : (dash empty even digits : Bool) → dash ≡ false → dash || (not empty && even && digits) ≡ true → (even ≡ true) × (digits ≡ true)
are_digits true empty even digits e h = absurd (cc)
are_digits false true even digits e h = absurd (cc)
are_digits false false true true e h = (refl, refl)
are_digits false false true false e h = absurd (cc)
are_digits false false false digits e h = absurd (cc)

-- a word in hexadecimal decodes
decodes : (w : Word) (e : FromHexError) → is_hex_text w ≡ true → bytes_eq w (codes "-") ≡ false → decode_of w ≡ Err e → ⊥
decodes w e is other bad =
    let two = are_digits (bytes_eq w (codes "-")) (length w == 0) (length w % 2 == 0) (are_hex_digits w) other is in
    let is_even = two.0 in
    let even : length w % 2 ≡ 0 = grind (arith) in
    let decoded = decode_of-digits w even (digits_decode w two.1) in
    let contrary : Err e ≡ Ok decoded.0 = sym bad ∙ decoded.1 in cc

pub prove-unreachable-requires : goal.prove-unreachable-requires
prove-unreachable-requires c =
    elim c.in-Err.ensures.err [
      | inl memory ↦ elim c.match-matches.branch [ in-OutOfMemory w ↦ (cc) | in_default w ↦ w.in_default.not-OutOfMemory memory ]
      | inr bad ↦ decodes c.args.word.now c.in-Err.error c.requires (sym c.eq.ensures ∙ c.if-eq.false) bad
    ]
