-- Parts of fixed shape as tables of steps.
--
-- A part is handed the values xs, and the first value that it makes is number n. A place names a value of either kind by
-- its number there, from 0.
use Rattle.std.specs.Prelude.{ℕ, ◌+◌, ◌<◌, Bool, true, false, not, ◌&&◌, nat_lt, List, [], ◌∷◌, ◌++◌, length, slice_index}
use Rattle.mask_circuit.specs.declared.gates.Gate.{Gate}
use Rattle.mask_circuit.specs.declared.gates.Gate.TheVariants.{Xor, Not, And, Ref}
use Rattle.mask_circuit.specs.Netlist.{Netlist, value_count}
use Rattle.mask_circuit.specs.Value.{xor, value_at}
use Rattle.mask_parts.specs.declared.tables.Place.{Place}
use Rattle.mask_parts.specs.declared.tables.Place.TheVariants.{Given, Made}
use Rattle.mask_parts.specs.declared.tables.Step.{Step}
use Rattle.mask_parts.specs.declared.tables.Step.TheVariants.{Xor as XorStep, Not as NotStep, Product}
use Rattle.mask_parts.specs.Drafts.{with_gates}

-- the value at a place
abbrev pub place_value : ℕ → List ℕ → Place → ℕ
place_value n xs (Given k) = slice_index xs k
place_value n xs (Made k) = n + k

-- The gates of a product of u and v: v is refreshed first, as value n, since an operand that shares a source with the
-- other one would leak (Barthe and others 2016).
abbrev pub product_gates : ℕ → ℕ → ℕ → List Gate
product_gates n u v = Ref v ∷ (And u n ∷ [])

-- the gates of a step, where the part has made m values before
abbrev pub step_gates : ℕ → List ℕ → ℕ → Step → List Gate
step_gates n xs m (XorStep p q) = Xor (place_value n xs p) (place_value n xs q) ∷ []
step_gates n xs m (NotStep p) = Not (place_value n xs p) ∷ []
step_gates n xs m (Product p q) = product_gates (n + m) (place_value n xs p) (place_value n xs q)

-- for each value that a step makes, whether a later step may take it: all but the refresh in a product
abbrev pub step_usable : Step → List Bool
step_usable (XorStep p q) = true ∷ []
step_usable (NotStep p) = true ∷ []
step_usable (Product p q) = false ∷ (true ∷ [])

-- the gates of these steps, where the part has made m values before
abbrev pub gates_from : ℕ → List ℕ → ℕ → List Step → List Gate
gates_from n xs m [] = []
gates_from n xs m (s ∷ ss) = step_gates n xs m s ++ gates_from n xs (m + length (step_usable s)) ss

-- the gates of a part
abbrev pub part_gates : ℕ → List ℕ → List Step → List Gate
part_gates n xs ss = gates_from n xs 0 ss

-- the draft with a part at its end
unfoldable pub with_part : Netlist → List ℕ → List Step → Netlist
with_part c xs ss = with_gates c (part_gates (value_count c) xs ss)

-- the last value that a step makes, where its first value is n
abbrev pub step_result : ℕ → Step → ℕ
step_result n (XorStep p q) = n
step_result n (NotStep p) = n
step_result n (Product p q) = n + 1

-- WHICH TABLES ARE SOUND

-- the place is one of k values handed in, or of m values made
abbrev pub IsPlace : ℕ → ℕ → Place → Type 0
IsPlace k m (Given i) = i < k
IsPlace k m (Made i) = i < m

-- so are the places of a step
abbrev pub ArePlaces : ℕ → ℕ → Step → Type 0
ArePlaces k m (XorStep p q) = IsPlace k m p × IsPlace k m q
ArePlaces k m (NotStep p) = IsPlace k m p
ArePlaces k m (Product p q) = IsPlace k m p × IsPlace k m q

-- for each value that these steps make, behind those made before, whether a later step may take it
abbrev pub usable_from : List Bool → List Step → List Bool
usable_from made [] = made
usable_from made (s ∷ ss) = usable_from (made ++ step_usable s) ss

abbrev pub part_usable : List Step → List Bool
part_usable ss = usable_from [] ss

-- the place is one of k values handed in, or of the values made so far that may be taken
abbrev pub is_place : ℕ → List Bool → Place → Bool
is_place k made (Given i) = nat_lt i k
is_place k made (Made i) = value_at made i

abbrev pub is_step : ℕ → List Bool → Step → Bool
is_step k made (XorStep p q) = is_place k made p && is_place k made q
is_step k made (NotStep p) = is_place k made p
is_step k made (Product p q) = is_place k made p && is_place k made q

abbrev pub are_steps : ℕ → List Bool → List Step → Bool
are_steps k made [] = true
are_steps k made (s ∷ ss) = is_step k made s && are_steps k (made ++ step_usable s) ss

-- each step of a part that is handed k values takes such places alone
abbrev pub is_part : ℕ → List Step → Bool
is_part k ss = are_steps k [] ss

-- WHAT A PART COMPUTES

-- the bit at a place, where xs are the bits handed in and ms those made so far
abbrev pub place_bit : List Bool → List Bool → Place → Bool
place_bit xs ms (Given k) = value_at xs k
place_bit xs ms (Made k) = value_at ms k

-- the bits that a step makes
abbrev pub step_bits : List Bool → List Bool → Step → List Bool
step_bits xs ms (XorStep p q) = xor (place_bit xs ms p) (place_bit xs ms q) ∷ []
step_bits xs ms (NotStep p) = not (place_bit xs ms p) ∷ []
step_bits xs ms (Product p q) = place_bit xs ms q ∷ ((place_bit xs ms p && place_bit xs ms q) ∷ [])

-- the bits made so far, and then those that these steps make
abbrev pub bits_from : List Bool → List Bool → List Step → List Bool
bits_from xs ms [] = ms
bits_from xs ms (s ∷ ss) = bits_from xs (ms ++ step_bits xs ms s) ss

-- the bits that a part makes of the bits that it is handed
abbrev pub part_bits : List Bool → List Step → List Bool
part_bits xs ss = bits_from xs [] ss
