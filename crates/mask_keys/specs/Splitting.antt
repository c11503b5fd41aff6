-- A key split into lines: each of its bits is shared with the next coins of the tape (Ishai, Sahai and Wagner 2003).
use Rattle.std.specs.Prelude.{◌≡◌, ℕ, zero, suc, ◌*◌, ◌≤◌, Bool, true, false, Result, Ok, Err, Option, List, [], ◌∷◌, map, length, take, drop}
use Rattle.std.specs.Io.KnownBytes.{Appends}
use Rattle.mask_bits.specs.Lanes.{lane}
use Rattle.mask_bits.specs.Reading.{low, number}
use Rattle.mask_circuit.specs.Ring.{bits}
use Rattle.mask_circuit.specs.Sharing.{listed, all_shared}
use Rattle.mask_circuit.specs.Wires.{each}
use Rattle.mask_io.specs.Outside.{AppendsProperPrefix}
use Rattle.mask_tape.specs.Tape.{IsDrawn, new_bytes}
use Rattle.mask_keys.specs.declared.split.SplitError.{SplitError}
use Rattle.mask_keys.specs.declared.split.SplitError.TheVariants.{TapeFault, WriteFault, NoMemory}
use Rattle.mask_keys.specs.Files.{key_file}

-- the n bytes that have this low-first reading
unfoldable pub packed : ℕ → List Bool → List ℕ
packed zero reading = []
packed (suc n) reading = number (take 8 reading) ∷ packed n (drop 8 reading)

-- share k of each of these bits: the first d coins share the first bit, the next ones the second, and so on
unfoldable pub shares_at : ℕ → ℕ → List Bool → List Bool → List Bool
shares_at d k plain coins = map (λ shares. listed bits shares k) (all_shared bits d plain coins)

-- line k of a split at order d: share k of each bit of the key; key and line are read low first
unfoldable pub split_line : ℕ → List ℕ → List Bool → ℕ → List ℕ
split_line d key coins k = packed (length key) (shares_at d k (low key) coins)

-- its d + 1 lines
unfoldable pub split_lines : ℕ → List ℕ → List Bool → List (List ℕ)
split_lines d key coins = each (split_line d key coins) (suc d)

-- how many coins they take
abbrev pub split_bits : ℕ → List ℕ → ℕ
split_bits d key = 8 * d * length key

-- What a split finds and leaves: the kept bits of the tape, what the entropy has left, and what the sink has written, each
-- before and now, and what the entropy wants.
pub record Outside : Type 0 where
  pub kept_before : List Bool
  pub kept_now : List Bool
  pub left_before : Option (List ℕ)
  pub left_now : Option (List ℕ)
  pub wanted : ℕ
  pub written_before : Option (List ℕ)
  pub written_now : Option (List ℕ)

-- These words were drawn from the tape for one lane: its bits are the coins.
abbrev pub Draws : ℕ → List ℕ → List ℕ → Outside → Type 0
Draws d key words o = IsDrawn o.kept_before o.kept_now o.left_before o.left_now 1 (split_bits d key) words

-- nothing was drawn
pub record DrawsNothing (o : Outside) : Type 0 where
  pub kept : o.kept_now ≡ o.kept_before
  pub left : o.left_now ≡ o.left_before

-- the entropy failed, and wants just the new bytes that the coins need, of which there are some
pub record FailsToDraw (d : ℕ) (key : List ℕ) (o : Outside) : Type 0 where
  pub wanted : o.wanted ≡ new_bytes o.kept_before (split_bits d key)
  pub some : 1 ≤ o.wanted
  pub nothing : DrawsNothing o

-- the key file of the lines was written ..
abbrev pub Writes : ℕ → List ℕ → List ℕ → Outside → Type 0
Writes d key words o = Appends o.written_before o.written_now (key_file (split_lines d key (lane 0 words)))

-- .. or a part of it, and not all
abbrev pub WritesPart : ℕ → List ℕ → List ℕ → Outside → Type 0
WritesPart d key words o = AppendsProperPrefix o.written_before o.written_now (key_file (split_lines d key (lane 0 words)))

-- what each answer says
abbrev pub Splits : ℕ → List ℕ → Outside → Result (Unit {0}) SplitError → Type 0
Splits d key o (Ok done) = (words : List ℕ) × Draws d key words o × Writes d key words o
Splits d key o (Err WriteFault) = (words : List ℕ) × Draws d key words o × WritesPart d key words o
Splits d key o (Err TapeFault) = FailsToDraw d key o
Splits d key o (Err NoMemory) = DrawsNothing o

-- the answer is that the entropy failed, or that the sink did
abbrev pub failed_to_draw : Result (Unit {0}) SplitError → Bool
failed_to_draw (Err TapeFault) = true
failed_to_draw answer = false

abbrev pub failed_to_write : Result (Unit {0}) SplitError → Bool
failed_to_write (Err WriteFault) = true
failed_to_write answer = false
