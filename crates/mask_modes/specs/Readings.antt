-- Bytes and their readings as bits.
use Rattle.std.specs.Prelude.{◌≡◌, ℕ, ◌*◌, Bool, List, length}
use Rattle.mask_bits.specs.Reading.{AreBytes}

-- a reading of bytes: eight bits for each, and others for other bytes
pub record IsReading (reading : List ℕ → List Bool) : Type 0 where
  pub count : (bytes : List ℕ) → length (reading bytes) ≡ 8 * length bytes
  pub one_to_one : (bytes other : List ℕ) → AreBytes bytes → AreBytes other → reading bytes ≡ reading other → bytes ≡ other
