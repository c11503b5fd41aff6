-- Marks on values: each value has a word of 64 marks, one for each product of a batch.
use Rattle.std.specs.Prelude.{◌≡◌, ℕ, ◌<◌, ◌≤◌, ◌⊎◌, true, List, slice_index, slice_set, bit_or, Some, None}
use Rattle.std.specs.declared.option.Option.{Option}
use Rattle.mask_bits.specs.Reading.{bit}
use Rattle.mask_circuit.specs.declared.gates.Gate.{Gate}
use Rattle.mask_circuit.specs.declared.gates.Gate.TheVariants.{Zero, One, Xor, Not, And, Ref}
use Rattle.mask_circuit.specs.Netlist.{Netlist, OperandsBelow}
use Rattle.mask_circuit.specs.Acceptance.{Reaches}
use Rattle.mask_check.specs.declared.backward.Meeting.{Meeting}

-- bit j of a word is set
abbrev pub HasBit : ℕ → ℕ → Type 0
HasBit word j = bit j word ≡ true

-- value v has mark j
pub record IsMarked (words : List ℕ) (v j : ℕ) : Type 0 where
  pub bit : HasBit (slice_index words v) j

-- no value from n on has a mark
abbrev pub IsClearFrom : ℕ → List ℕ → Type 0
IsClearFrom n words = (v : ℕ) → n ≤ v → slice_index words v ≡ 0

-- a value with mark j reaches s
pub record Meets (c : Netlist) (words : List ℕ) (j s : ℕ) : Type 0 where
  pub value : ℕ
  pub is_marked : IsMarked words value j
  pub reaches : Reaches c value s

-- value u has the marks in the word too
abbrev pub with_marks : List ℕ → ℕ → ℕ → List ℕ
with_marks words u word = slice_set words u (bit_or (slice_index words u) word)

-- an xor or a not gives marks to its operands, and other gates keep them
abbrev pub passed_on : Option Gate → ℕ → List ℕ → List ℕ
passed_on None word words = words
passed_on (Some Zero) word words = words
passed_on (Some One) word words = words
passed_on (Some (Xor u v)) word words = with_marks (with_marks words u word) v word
passed_on (Some (Not u)) word words = with_marks words u word
passed_on (Some (And u v)) word words = words
passed_on (Some (Ref u)) word words = words

-- the operands of the gate, if there is one, are below n
abbrev pub HasOperandsBelow : ℕ → Option Gate → Type 0
HasOperandsBelow n None = Unit {0}
HasOperandsBelow n (Some g) = OperandsBelow n g

-- an input, a product or a refresh
abbrev pub IsSource : Option Gate → Type 0
IsSource None = Unit {0}
IsSource (Some Zero) = ⊥
IsSource (Some One) = ⊥
IsSource (Some (Xor u v)) = ⊥
IsSource (Some (Not u)) = ⊥
IsSource (Some (And u v)) = Unit {0}
IsSource (Some (Ref u)) = Unit {0}

-- Of the sources from n on that values with mark j on the left and values with mark j on the right both reach, m has the
-- lowest j, and with it the lowest source. Mark 64 stands for none.
pub record IsLowestMeeting (c : Netlist) (left right : List ℕ) (n : ℕ) (m : Meeting) : Type 0 where
  pub on_left : m.bit < 64 → Meets c left m.bit m.source
  pub on_right : m.bit < 64 → Meets c right m.bit m.source
  pub lowest : (j s : ℕ) → n ≤ s → Meets c left j s → Meets c right j s → (m.bit < j) ⊎ ((m.bit ≡ j) × (m.source ≤ s))
