-- What the first two words name, and the bytes of a word in hexadecimal.
use Rattle.std.specs.Prelude.{◌≡◌, ℕ, Bool, false, not, ◌&&◌, ◌==◌, nat_eq, if◌then◌else◌, IsTrue, List, [], length, drop, codes, Result, Ok, Err}
use Rattle.std.specs.List.{starts_with}
use Rattle.std.specs.Str.{bytes_eq}
use Rattle.hex.specs.Hex.{decode_of}
use Rattle.hex.specs.declared.error.FromHexError.{FromHexError}
use Rattle.mask_words.specs.declared.naming.TapeName.{TapeName}
use Rattle.mask_words.specs.declared.naming.TapeName.TheVariants.{Seed, Path, NoTape}
use Rattle.mask_words.specs.WordTests.{Word, are_seed_digits}

abbrev pub decoded : Result (List ℕ) FromHexError → List ℕ
decoded (Ok bytes) = bytes
decoded (Err e) = []

-- the bytes that a word in hexadecimal names: none for `-`
abbrev pub hex_bytes : Word → List ℕ
hex_bytes w = if bytes_eq w (codes "-") then [] else decoded (decode_of w)

-- a path of a file: any word but the empty one and `-`
abbrev pub is_path : Word → Bool
is_path w = not (length w == 0) && not (bytes_eq w (codes "-"))

abbrev pub begins_seed : Word → Bool
begins_seed w = starts_with nat_eq w (codes "seed:")

-- `seed:` and 64 hexadecimal digits
abbrev pub is_seed : Word → Bool
is_seed w = begins_seed w && are_seed_digits (drop 5 w)

-- A tape is a seed, whose 32 bytes the digits name, or the file at a path. What begins with `seed:` is no path.
abbrev pub NamesTape : Word → TapeName → Type 0
NamesTape w (Seed bytes) = IsTrue (is_seed w) × (decode_of (drop 5 w) ≡ Ok bytes)
NamesTape w (Path path) = (begins_seed w ≡ false) × IsTrue (is_path w) × (path.now ≡ w)
NamesTape w NoTape = (is_seed w ≡ false) × (not (begins_seed w) && is_path w ≡ false)
