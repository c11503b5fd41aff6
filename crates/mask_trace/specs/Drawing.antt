-- What a run did to the tape and the watch.
use Rattle.std.specs.Prelude.{◌≡◌, ℕ, ◌+◌, ◌<◌, ◌≤◌, Bool, List, ◌++◌, length, take, drop, Option}
use Rattle.mask_bits.specs.Reading.{low}
use Rattle.mask_io.specs.Outside.{Takes}
use Rattle.mask_eval.specs.Watching.{Told, told_more}
use Rattle.mask_trace.specs.Steps.{Registers, Step, bits_of}
use Rattle.mask_trace.specs.Traces.{BitShares, after, trace}

-- The bits that the tape keeps of its last byte, the bytes that the entropy has left, and what the watch was told.
pub record Stand : Type 0 where
  pub kept : List Bool
  pub left : Option (List ℕ)
  pub told : Option (List Told)

-- tape, entropy and watch at a time
abbrev pub stand : List Bool → Option (List ℕ) → Option (List Told) → Stand
stand kept left told = record { kept = kept; left = left; told = told }

-- So many bits were drawn: the kept ones, and then those of these fresh bytes, of which there are no more than needed.
pub record Drew (bits : ℕ) (fresh : List ℕ) (a b : Stand) : Type 0 where
  pub taken : Takes a.left b.left fresh
  pub enough : bits ≤ length (a.kept ++ low fresh)
  pub fewest : length (a.kept ++ low fresh) < bits + 8
  pub kept : b.kept ≡ drop bits (a.kept ++ low fresh)

-- The steps were evaluated: just their bits were drawn, and the watch was told their trace alone.
pub record Ran (N : ℕ) (have : Registers BitShares) (steps : List Step) (now : Registers BitShares) (a b : Stand) : Type 0 where
  pub fresh : List ℕ
  pub drew : Drew (bits_of N steps) fresh a b
  pub tells : b.told ≡ told_more a.told (trace N have steps (a.kept ++ low fresh))
  pub holds : now ≡ after N have steps (a.kept ++ low fresh)

-- The first steps were evaluated, so many of them, and nothing more.
pub record RanPart (N : ℕ) (have : Registers BitShares) (steps : List Step) (count : ℕ) (a b : Stand) : Type 0 where
  pub within : count ≤ length steps
  pub now : Registers BitShares
  pub ran : Ran N have (take count steps) now a b
