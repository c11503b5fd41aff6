-- The clocks of Trivium on values of a circuit, with the gates in the order in which they are made.
use Rattle.std.specs.Prelude.{ℕ, zero, suc, ◌+◌, ◌-◌, List, [], ◌∷◌, ◌++◌, map}
use Rattle.mask_circuit.specs.Netlist.{Netlist, value_count}
use Rattle.mask_parts.specs.declared.tables.Place.{Place}
use Rattle.mask_parts.specs.declared.tables.Place.TheVariants.{Given, Made}
use Rattle.mask_parts.specs.declared.tables.Step.{Step}
use Rattle.mask_parts.specs.declared.tables.Step.TheVariants.{Xor, Product}
use Rattle.mask_parts.specs.Tables.{with_part}
use Rattle.mask_trivium.specs.Trivium.{shifted}

-- the values of the bits s1, s2 and so on
abbrev pub s : ℕ → Place
s k = Given (k - 1)

-- A clock without output, on the values of s1 to s288. Behind each step stands the number of the value that it makes; a
-- product makes its refresh before that.
unfoldable pub setup_steps : List Step
setup_steps =
    Xor (s 66) (s 93)  -- 0
    ∷ Xor (s 162) (s 177)  -- 1
    ∷ Xor (s 243) (s 288)  -- 2
    ∷ Product (s 91) (s 92)  -- 4
    ∷ Xor (Made 0) (Made 4)  -- 5
    ∷ Xor (Made 5) (s 171)  -- 6, the next s94
    ∷ Product (s 175) (s 176)  -- 8
    ∷ Xor (Made 1) (Made 8)  -- 9
    ∷ Xor (Made 9) (s 264)  -- 10, the next s178
    ∷ Product (s 286) (s 287)  -- 12
    ∷ Xor (Made 2) (Made 12)  -- 13
    ∷ Xor (Made 13) (s 69)  -- 14, the next s1
    ∷ []

-- a clock with output
unfoldable pub stream_steps : List Step
stream_steps =
    Xor (s 66) (s 93)  -- 0
    ∷ Xor (s 162) (s 177)  -- 1
    ∷ Xor (s 243) (s 288)  -- 2
    ∷ Xor (Made 0) (Made 1)  -- 3
    ∷ Xor (Made 3) (Made 2)  -- 4, the output
    ∷ Product (s 91) (s 92)  -- 6
    ∷ Xor (Made 0) (Made 6)  -- 7
    ∷ Xor (Made 7) (s 171)  -- 8, the next s94
    ∷ Product (s 175) (s 176)  -- 10
    ∷ Xor (Made 1) (Made 10)  -- 11
    ∷ Xor (Made 11) (s 264)  -- 12, the next s178
    ∷ Product (s 286) (s 287)  -- 14
    ∷ Xor (Made 2) (Made 14)  -- 15
    ∷ Xor (Made 15) (s 69)  -- 16, the next s1
    ∷ []

-- a table of a clock, and the numbers of the values made that become s1, s94 and s178 and of those that are output
pub record Clock : Type 0 where
  pub steps : List Step
  pub first : ℕ
  pub second : ℕ
  pub third : ℕ
  pub output : List ℕ

abbrev pub setup : Clock
setup = record { steps = setup_steps; first = 14; second = 6; third = 10; output = [] }

abbrev pub stream : Clock
stream = record { steps = stream_steps; first = 16; second = 8; third = 12; output = 4 ∷ [] }

-- a draft, the values that stand for s1 to s288, and those that were output
pub record Stage : Type 0 where
  pub draft : Netlist
  pub state : List ℕ
  pub outputs : List ℕ

unfoldable pub stage : Netlist → List ℕ → List ℕ → Stage
stage c state outputs = record { draft = c; state = state; outputs = outputs }

-- one clock more
unfoldable pub with_clock : Clock → Stage → Stage
with_clock k t =
    let n = value_count t.draft in
    record {
      draft = with_part t.draft t.state k.steps;
      state = shifted (n + k.first) (n + k.second) (n + k.third) t.state;
      outputs = t.outputs ++ map (λ i. n + i) k.output;
    }

-- n clocks more
unfoldable pub with_clocks : Clock → ℕ → Stage → Stage
with_clocks k zero t = t
with_clocks k (suc n) t = with_clocks k n (with_clock k t)
