-- The probing model (Ishai, Sahai and Wagner 2003): who reads t wires, and what they can learn. Non-interference and
-- strong non-interference are those of Barthe and others (2016); the form for several outputs is this project's own.
use Rattle.std.specs.Prelude.{◌≡◌, ℕ, zero, suc, ◌+◌, ◌<◌, ◌≤◌, Bool, true, false, cond, not, ◌&&◌, ◌==◌, List, [], ◌∷◌, ◌++◌, map, length, All, Contains, slice_index_or}
use Rattle.std.specs.List.{filter}
use Rattle.mask_circuit.specs.Netlist.{Netlist}
use Rattle.mask_circuit.specs.Value.{xor}
use Rattle.mask_circuit.specs.Ring.{bits}
use Rattle.mask_circuit.specs.declared.gates.Wire.{Wire}
use Rattle.mask_circuit.specs.declared.gates.Wire.TheVariants.{Share, Product, Fresh, Left, Right, Partial}
use Rattle.mask_circuit.specs.Wires.{Shares, each}
use Rattle.mask_circuit.specs.Expansion.{names, wire_count, wires, draws}

-- the bits on the wires of these numbers, in their order; a number may be repeated
abbrev pub seen : Netlist → ℕ → (ℕ → Shares Bool) → List Bool → List ℕ → List Bool
seen c N x r P = map (λ p. slice_index_or (wires bits c N x r) p false) P

-- whether two lists of bits are the same
abbrev pub same_bits : List Bool → List Bool → Bool
same_bits [] [] = true
same_bits [] (b ∷ bs) = false
same_bits (a ∷ as') [] = false
same_bits (a ∷ as') (b ∷ bs) = not (xor a b) && same_bits as' bs

-- the sum of f over all tapes of n bits
abbrev pub sum_over_tapes : ℕ → (List Bool → ℕ) → ℕ
sum_over_tapes zero f = f []
sum_over_tapes (suc n) f = sum_over_tapes n (λ r. f (false ∷ r)) + sum_over_tapes n (λ r. f (true ∷ r))

-- how many tapes show just the bits v on the wires P
abbrev pub hits : Netlist → ℕ → (ℕ → Shares Bool) → List ℕ → List Bool → ℕ
hits c N x P v = sum_over_tapes (draws c N) (λ r. cond (same_bits (seen c N x r P) v) 1 0)

-- For each input a set of shares.
abbrev pub ShareSets : Type 0
ShareSets = ℕ → ℕ → Bool

-- how many of the shares below n are in the set
abbrev pub size : ℕ → (ℕ → Bool) → ℕ
size zero set = 0
size (suc n) set = size n set + cond (set n) 1 0

-- x and y have the same shares where the sets name them
abbrev pub AgreeOn : Netlist → ℕ → ShareSets → (ℕ → Shares Bool) → (ℕ → Shares Bool) → Type 0
AgreeOn c N I x y = (v i : ℕ) → v < c.inputs → i < N → I v i ≡ true → x v i ≡ y v i

-- What the wires P show has, over all tapes, the same distribution for inputs that agree on the shares in I.
abbrev pub IsSimulated : Netlist → ℕ → List ℕ → ShareSets → Type 0
IsSimulated c N P I = (x y : ℕ → Shares Bool) → AgreeOn c N I x y → (v : List Bool) → hits c N x P v ≡ hits c N y P v

-- at most t shares of each input
abbrev pub HasAtMost : Netlist → ℕ → ShareSets → ℕ → Type 0
HasAtMost c N I t = (v : ℕ) → v < c.inputs → size N (I v) ≤ t

-- Non-interference: any t wires, t at most N - 1, are simulatable from at most t shares of each input.
abbrev pub IsNI : Netlist → ℕ → Type 0
IsNI c N = (P : List ℕ) → All (λ p. p < wire_count c N) P → length P < N →
    (I : ShareSets) × HasAtMost c N I (length P) × IsSimulated c N P I

-- whether two names are the same
abbrev pub same_wire : Wire → Wire → Bool
same_wire (Share i) (Share k) = i == k
same_wire (Product i j) (Product k l) = i == k && j == l
same_wire (Fresh i j) (Fresh k l) = i == k && j == l
same_wire (Left i j) (Left k l) = i == k && j == l
same_wire (Right i j) (Right k l) = i == k && j == l
same_wire (Partial i j) (Partial k l) = i == k && j == l
same_wire (Share _) _ = false
same_wire (Product _ _) _ = false
same_wire (Fresh _ _) _ = false
same_wire (Left _ _) _ = false
same_wire (Right _ _) _ = false
same_wire (Partial _ _) _ = false

-- how many elements stand before the first that passes
abbrev pub places_before : {A : Type 0} → (A → Bool) → List A → ℕ
places_before test [] = 0
places_before test (a ∷ as') = cond (test a) 0 (suc (places_before test as'))

-- the number of the wire that is share i of value u
abbrev pub share_place : Netlist → ℕ → ℕ → ℕ → ℕ
share_place c N u i = places_before (λ p. p.0 == u && same_wire (Share i) p.1) (names c N)

-- an inner wire: no share of an output
abbrev pub IsInner : Netlist → ℕ → ℕ → Type 0
IsInner c N p = (u i : ℕ) → Contains c.outputs u → i < N → p ≡ share_place c N u i → ⊥

-- the wires that are the shares of output k in the set O k, output by output
abbrev pub output_places : Netlist → ℕ → (ℕ → ℕ → Bool) → List ℕ
output_places c N O = joined_outputs c.outputs 0
  where
    joined_outputs : List ℕ → ℕ → List ℕ
    joined_outputs [] k = []
    joined_outputs (u ∷ us) k = map (share_place c N u) (filter (O k) (each (λ i. i) N)) ++ joined_outputs us (suc k)

-- Strong non-interference, for several outputs: t inner wires, together with any shares of output k as long as these
-- and the t wires are at most N - 1 for each k, are simulatable from at most t shares of each input.
abbrev pub IsSNI : Netlist → ℕ → Type 0
IsSNI c N = (P : List ℕ) (O : ℕ → ℕ → Bool) →
    All (λ p. (p < wire_count c N) × IsInner c N p) P →
    length P < N →
    ((k : ℕ) → k < length c.outputs → length P + size N (O k) < N) →
    (I : ShareSets) × HasAtMost c N I (length P) × IsSimulated c N (P ++ output_places c N O) I
