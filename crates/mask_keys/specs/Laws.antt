-- What holds of every key file and of every split.
use Rattle.std.specs.Prelude.{◌≡◌, ◌⊎◌, ℕ, suc, ◌≤◌, cond, nat_eq, Bool, Some, None, List, [], map, length, slice_index_or, All}
use Rattle.std.specs.Cmp.Lexicographic.{pointwise}
use Rattle.mask_circuit.specs.Probing.{sum_over_tapes}
use Rattle.mask_keys.specs.declared.files.KeyLength.{KeyLength}
use Rattle.mask_keys.specs.declared.files.KeyLength.TheVariants.{Exactly, Any}
use Rattle.mask_keys.specs.declared.files.KeyError.{KeyError}
use Rattle.mask_keys.specs.Lines.{AreKeyLines, line_length, joined}
use Rattle.mask_keys.specs.Files.{IsKeyFile, fault, key_file}
use Rattle.mask_keys.specs.Splitting.{split_lines, split_bits}
use Rattle.mask_bits.specs.Reading.{AreBytes}

-- KEY FILES

-- the bytes are a key file of these lines and no others, and have no fault
pub record StandsForOne (count : ℕ) (asked : KeyLength) (bytes : List ℕ) : Type 0 where
  pub lines : List (List ℕ)
  pub stands : IsKeyFile count asked bytes lines
  pub no_other : (other : List (List ℕ)) → IsKeyFile count asked bytes other → other ≡ lines
  pub no_fault : fault count asked bytes ≡ None

-- they have a first fault, and are a key file of no lines
pub record IsFaulty (count : ℕ) (asked : KeyLength) (bytes : List ℕ) : Type 0 where
  pub first : KeyError
  pub is_first : fault count asked bytes ≡ Some first
  pub stands_for_none : (lines : List (List ℕ)) → IsKeyFile count asked bytes lines → ⊥

-- exactly one of the two holds of each list of bytes, where 1 to 8 lines are asked
abbrev pub KeyFileOrFault : Type 0
KeyFileOrFault = (count : ℕ) (asked : KeyLength) (bytes : List ℕ) → 1 ≤ count → count ≤ 8 →
    StandsForOne count asked bytes ⊎ IsFaulty count asked bytes

-- what is written of key lines stands for them, whether their length is asked or any, and isn't too long
pub record ReadsBack (lines : List (List ℕ)) : Type 0 where
  pub exactly : IsKeyFile (length lines) (Exactly (line_length lines)) (key_file lines) lines
  pub any : IsKeyFile (length lines) Any (key_file lines) lines
  pub short : length (key_file lines) ≤ 4096

abbrev pub KeyFileReadsBack : Type 0
KeyFileReadsBack = (lines : List (List ℕ)) → AreKeyLines lines → All AreBytes lines → ReadsBack lines

-- SPLITS

-- a key of 1 to 64 bytes
pub record IsKey (key : List ℕ) : Type 0 where
  pub some : 1 ≤ length key
  pub few : length key ≤ 64
  pub bytes : AreBytes key

-- the lines are key lines, d + 1 of them and as long as the key, and their exclusive or is the key
pub record AreSharesOf (d : ℕ) (key : List ℕ) (lines : List (List ℕ)) : Type 0 where
  pub shape : AreKeyLines lines
  pub bytes : All AreBytes lines
  pub many : length lines ≡ suc d
  pub long : line_length lines ≡ length key
  pub join : joined lines ≡ key

abbrev pub SplitsJoin : Type 0
SplitsJoin = (d : ℕ) (key : List ℕ) (coins : List Bool) → d ≤ 7 → IsKey key → split_bits d key ≤ length coins →
    AreSharesOf d key (split_lines d key coins)

-- the lines of these numbers
abbrev pub shown : List ℕ → List (List ℕ) → List (List ℕ)
shown P lines = map (λ k. slice_index_or lines k []) P

abbrev pub are_same : List (List ℕ) → List (List ℕ) → Bool
are_same = pointwise (pointwise nat_eq)

-- how many tapes of just as many coins as a split takes give just these lines for the numbers P
abbrev pub split_hits : ℕ → List ℕ → List ℕ → List (List ℕ) → ℕ
split_hits d key P v = sum_over_tapes (split_bits d key) (λ coins. cond (are_same (shown P (split_lines d key coins)) v) 1 0)

-- Any d of the lines show nothing of the key: whatever they are, just as many tapes give them for any key of this length.
abbrev pub SplitHides : Type 0
SplitHides = (d : ℕ) (P : List ℕ) → length P ≤ d → (x y : List ℕ) → length x ≡ length y → (v : List (List ℕ)) →
    split_hits d x P v ≡ split_hits d y P v
