-- Key files at worked examples, computed.
use Rattle.std.proofs.Common.{◌≡◌, Some, None, [], ◌∷◌, replicate, refl, map, Ok}
use Rattle.std.specs.Prelude.{codes}
use Rattle.hex.specs.Hex.{decode_pairs, encode_with}
use Rattle.mask_text.specs.Lines.{text_lines, split_at, bare}
use Rattle.mask_keys.specs.declared.files.KeyLength.TheVariants.{Exactly, Any}
use Rattle.mask_keys.specs.declared.files.KeyError.TheVariants.{Line, Count}
use Rattle.mask_keys.specs.Files.{spelled, fault, key_file}

-- two lines of two bytes, the second one without its line feed, and what they spell
two_lines : fault 2 (Exactly 2) (codes "00ff\n01FE") ≡ None
unfolding fault text_lines split_at bare decode_pairs
two_lines = refl

two_keys : map (spelled 2) (text_lines (codes "00ff\n01FE")) ≡ map Ok ((0 ∷ 255 ∷ []) ∷ (1 ∷ 254 ∷ []) ∷ [])
unfolding text_lines split_at bare decode_pairs
two_keys = refl

-- one carriage return may end a line, and no two
one_return : fault 2 (Exactly 2) (codes "00ff\r\n01fe\r\n") ≡ None
unfolding fault text_lines split_at bare decode_pairs
one_return = refl

two_returns : fault 2 (Exactly 2) (codes "00ff\n01fe\r\r\n") ≡ Some (Line 2)
unfolding fault text_lines split_at bare decode_pairs
two_returns = refl

-- an empty line, a space, an odd number of digits, another length
empty_line : fault 2 (Exactly 2) (codes "00ff\n\n00ff\n") ≡ Some (Line 2)
unfolding fault text_lines split_at bare decode_pairs
empty_line = refl

space : fault 2 (Exactly 2) (codes "00ff \n00ff\n") ≡ Some (Line 1)
unfolding fault text_lines split_at bare decode_pairs
space = refl

odd_digits : fault 2 Any (codes "00f\n00ff\n") ≡ Some (Line 1)
unfolding fault text_lines split_at bare decode_pairs
odd_digits = refl

other_length : fault 2 Any (codes "00ff\n00ff00\n") ≡ Some (Line 2)
unfolding fault text_lines split_at bare decode_pairs
other_length = refl

-- a line out of form comes before the number of lines
three_lines : fault 2 (Exactly 2) (codes "00ff\n00ff\n00ff\n") ≡ Some (Count 3)
unfolding fault text_lines split_at bare decode_pairs
three_lines = refl

third_line : fault 2 (Exactly 2) (codes "00ff\n00ff\n0\n") ≡ Some (Line 3)
unfolding fault text_lines split_at bare decode_pairs
third_line = refl

no_line : fault 2 Any [] ≡ Some (Count 0)
unfolding fault text_lines split_at
no_line = refl

-- 64 bytes are the most
longest_line : fault 1 Any (replicate 128 48) ≡ None
unfolding fault text_lines split_at bare decode_pairs
longest_line = refl

too_long : fault 1 Any (replicate 130 48) ≡ Some (Line 1)
unfolding fault text_lines split_at bare decode_pairs
too_long = refl

-- what is written of two lines
written : key_file ((0 ∷ 255 ∷ []) ∷ (1 ∷ 254 ∷ []) ∷ []) ≡ codes "00ff\n01fe\n"
unfolding key_file encode_with
written = refl
