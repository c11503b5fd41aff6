-- What the words of a line say, by their form alone.
use Rattle.std.specs.Prelude.{ℕ, ◌+◌, ◌-◌, ◌*◌, Bool, false, not, ◌&&◌, ◌==◌, nat_le, if◌then◌else◌, Option, Some, None, List, [], ◌∷◌, length, codes}
use Rattle.std.specs.List.{list_all}
use Rattle.std.specs.Option.{option_map}
use Rattle.std.specs.Str.{bytes_eq}
use Rattle.mask_circuit.specs.declared.gates.Gate.{Gate}
use Rattle.mask_circuit.specs.declared.gates.Gate.TheVariants.{Zero, One, Xor, Not, And, Ref}
use Rattle.mask_circuit.specs.Labels.{is_name}
use Rattle.mask_circuit.specs.Text.{Line, First, Second, Inputs, Input, Makes, Output, Out, End}

abbrev pub is_digit : ℕ → Bool
is_digit b = nat_le 48 b && nat_le b 57

-- 1 to 9 digits, of which the first is 0 only where it is the only one
unfoldable pub is_number : List ℕ → Bool
is_number [] = false
is_number (b ∷ bs) = not (b == 48 && not (length bs == 0)) && (nat_le (length bs) 8 && list_all is_digit (b ∷ bs))

-- the number that digits write behind those of n
abbrev pub value_behind : ℕ → List ℕ → ℕ
value_behind n [] = n
value_behind n (b ∷ bs) = value_behind (n * 10 + (b - 48)) bs

unfoldable pub number : List ℕ → Option ℕ
number word = if is_number word then Some (value_behind 0 word) else None

-- a gate of one operand, and a gate of two
abbrev pub gate_of_two : (ℕ → ℕ → Gate) → Option ℕ → Option ℕ → Option Line
gate_of_two gate None v = None
gate_of_two gate (Some u) None = None
gate_of_two gate (Some u) (Some v) = Some (Makes (gate u v))

-- a group of this name and size, which isn't 0
abbrev pub group_of : (List ℕ → ℕ → Line) → List ℕ → Option ℕ → Option Line
group_of line name None = None
group_of line name (Some n) = if is_name name && nat_le 1 n then Some (line name n) else None

abbrev pub version_of : List ℕ → Option Line
version_of word = if bytes_eq word (codes "1") then Some First else if bytes_eq word (codes "2") then Some Second else None

-- what a line of one word says, one of two words and one of three
unfoldable pub said_by_one : List ℕ → Option Line
said_by_one word = if bytes_eq word (codes "zero") then Some (Makes Zero) else
    if bytes_eq word (codes "one") then Some (Makes One) else
    if bytes_eq word (codes "end") then Some End else None

unfoldable pub said_by_two : List ℕ → List ℕ → Option Line
said_by_two word second = if bytes_eq word (codes "masked-circuit") then version_of second else
    if bytes_eq word (codes "inputs") then option_map Inputs (number second) else
    if bytes_eq word (codes "not") then option_map (λ u. Makes (Not u)) (number second) else
    if bytes_eq word (codes "ref") then option_map (λ u. Makes (Ref u)) (number second) else
    if bytes_eq word (codes "out") then option_map Out (number second) else None

unfoldable pub said_by_three : List ℕ → List ℕ → List ℕ → Option Line
said_by_three word second third = if bytes_eq word (codes "xor") then gate_of_two Xor (number second) (number third) else
    if bytes_eq word (codes "and") then gate_of_two And (number second) (number third) else
    if bytes_eq word (codes "input") then group_of Input second (number third) else
    if bytes_eq word (codes "output") then group_of Output second (number third) else None

-- what a line of these words says, where it is of the form of some line
unfoldable pub said : List (List ℕ) → Option Line
said [] = None
said (word ∷ []) = said_by_one word
said (word ∷ (second ∷ [])) = said_by_two word second
said (word ∷ (second ∷ (third ∷ []))) = said_by_three word second third
said (word ∷ (second ∷ (third ∷ (fourth ∷ more)))) = None
