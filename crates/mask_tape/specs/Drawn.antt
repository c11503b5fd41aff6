-- Random words that were drawn for one evaluation.
use Rattle.std.specs.Prelude.{ℕ, ◌-◌, List, length, take, drop}

-- how many coins a room is for: so many bits for each of so many lanes
pub record Amount : Type 0 where
  pub lanes : ℕ
  pub bits : ℕ

-- all of them, and how many of these were used so far
pub record Drawn : Type 0 where
  pub words : List ℕ
  pub used : ℕ

-- how many weren't used yet
abbrev pub left : Drawn → ℕ
left coins = length coins.words - coins.used

-- the next n of them
abbrev pub ahead : ℕ → Drawn → List ℕ
ahead n coins = take n (drop coins.used coins.words)
