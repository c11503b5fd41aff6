-- What a tape gives: the next bits of its stretch, each lane its own part.
use Rattle.std.specs.Prelude.{◌≡◌, ℕ, ◌-◌, ◌*◌, ◌<◌, ◌≤◌, Bool, true, false, List, ◌++◌, length, take, drop, replicate, Option, Result, Err}
use Rattle.mask_bits.specs.Reading.{low, bytes_for}
use Rattle.mask_bits.specs.Lanes.{lane}
use Rattle.mask_io.specs.Outside.{Takes}
use Rattle.mask_tape.specs.declared.tape.TapeError.{TapeError}
use Rattle.mask_tape.specs.declared.tape.TapeError.TheVariants.{Failed}

-- how many new bytes n bits need where these bits are kept
abbrev pub new_bytes : List Bool → ℕ → ℕ
new_bytes kept n = bytes_for (n - length kept)

-- the answer is that the entropy failed
abbrev pub failed_to_draw : {A : Type 0} → Result A TapeError → Bool
failed_to_draw (Err Failed) = true
failed_to_draw answer = false

-- The words have in lane l the bits from l · bits on, and zeros in the lanes that aren't used.
pub record IsSpread (stretch : List Bool) (lanes bits : ℕ) (words : List ℕ) : Type 0 where
  pub count : length words ≡ bits
  pub used : (l : ℕ) → l < lanes → lane l words ≡ take bits (drop (l * bits) stretch)
  pub unused : (l : ℕ) → lanes ≤ l → l < 64 → lane l words ≡ replicate bits false

-- The words are spread from the kept bits and then from just as many new bytes as are needed; the bits left over are kept.
pub record IsDrawn (kept kept' : List Bool) (left left' : Option (List ℕ)) (lanes bits : ℕ) (words : List ℕ) : Type 0 where
  pub fresh : List ℕ
  pub needed : length fresh ≡ new_bytes kept (lanes * bits)
  pub taken : Takes left left' fresh
  pub spread : IsSpread (kept ++ low fresh) lanes bits words
  pub rest : kept' ≡ drop (lanes * bits) (kept ++ low fresh)
