-- The names of a circuit's wires.
use Rattle.std.proofs.Common.{◌≡◌, ℕ, zero, suc, ◌+◌, ◌<◌, ◌≤◌, ◌⊎◌, inl, inr, List, [], ◌∷◌, length, map, All, Contains, refl, arith, ⊎_elim, le_refl}
use Rattle.std.proofs.lemmas.List.Elements.{All-nil, All-cons, All-append, All-map, All-weaker, All-contains, All-contains_itself, Contains-append_cases}
use Rattle.mask_circuit.specs.declared.gates.Gate.{Gate}
use Rattle.mask_circuit.specs.declared.gates.Gate.TheVariants.{Zero, One, Xor, Not, And, Ref}
use Rattle.mask_circuit.specs.Netlist.{Netlist}
use Rattle.mask_circuit.specs.declared.gates.Wire.{Wire}
use Rattle.mask_circuit.specs.declared.gates.Wire.TheVariants.{Share, Product, Fresh, Left, Right, Partial}
use Rattle.mask_circuit.specs.Wires.{each, joined, gate_names}
use Rattle.mask_circuit.specs.Expansion.{CircuitWire, names, names_from}
use Rattle.mask_laws.specs.Names.{IsGateName}
use Rattle.mask_laws.proofs.Names.{gate_names-by_shape}
use Rattle.mask_laws.proofs.Keeping.{AreNamed}

pub All-each : {A : Type 0} (P : A → Type 0) (f : ℕ → A) (n : ℕ) → ((i : ℕ) → i < n → P (f i)) → All P (each f n)
All-each P f zero h = All-nil P
All-each P f (suc n) h = All-append P (each f n) (f n ∷ []) (All-each P f n (λ i k. h i (omega arith))) (All-cons P (f n) [] (h n (omega arith)) (All-nil P))

pub All-joined : {A : Type 0} (P : A → Type 0) (f : ℕ → List A) (n : ℕ) → ((i : ℕ) → i < n → All P (f i)) → All P (joined f n)
All-joined P f zero h = All-nil P
All-joined P f (suc n) h = All-append P (joined f n) (f n) (All-joined P f n (λ i k. h i (omega arith))) (h n (omega arith))

-- a wire that is an output share is one of N
abbrev pub IsShareBelow : ℕ → Wire → Type 0
IsShareBelow N (Share i) = i < N
IsShareBelow N (Product i j) = Unit {0}
IsShareBelow N (Fresh i j) = Unit {0}
IsShareBelow N (Left i j) = Unit {0}
IsShareBelow N (Right i j) = Unit {0}
IsShareBelow N (Partial i k) = Unit {0}

shape-below : (N : ℕ) (g : Gate) (w : Wire) → IsGateName N g w → IsShareBelow N w
shape-below N Zero (Share i) h = h
shape-below N One (Share i) h = h
shape-below N (Xor u v) (Share i) h = h
shape-below N (Not u) (Share i) h = h
shape-below N (And u v) (Share i) h = h
shape-below N (Ref u) (Share i) h = h
shape-below N g w h = tt

pub gate_names-below : (N : ℕ) (g : Gate) → 2 ≤ N → All (IsShareBelow N) (gate_names N g)
gate_names-below N g two = All-weaker (Contains (gate_names N g)) (IsShareBelow N) (λ w k. shape-below N g w ((gate_names-by_shape N g w two).0 k))
    (gate_names N g) (All-contains_itself (gate_names N g))

-- the names of gates, the first of which makes value n: of values from n on, as many as there are gates, and shares below N
abbrev pub IsNamedFrom : ℕ → ℕ → ℕ → CircuitWire → Type 0
IsNamedFrom N n end p = (n ≤ p.0) × (p.0 < end) × IsShareBelow N p.1

pub names_from-within : (N n : ℕ) (gs : List Gate) → 2 ≤ N → All (IsNamedFrom N n (n + length gs)) (names_from N gs n)
names_from-within N n [] two = All-nil (IsNamedFrom N n (n + 0))
names_from-within N n (g ∷ gs) two =
    All-append (IsNamedFrom N n (n + length (g ∷ gs))) (map (λ w. (n, w)) (gate_names N g)) (names_from N gs (suc n))
    (All-map (IsNamedFrom N n (n + length (g ∷ gs))) (λ w. (n, w)) (gate_names N g)
    (All-weaker (IsShareBelow N) (λ w. IsNamedFrom N n (n + length (g ∷ gs)) (n, w)) (λ w h. (le_refl n, omega arith, h)) (gate_names N g) (gate_names-below N g two)))
    (All-weaker (IsNamedFrom N (suc n) (suc n + length gs)) (IsNamedFrom N n (n + length (g ∷ gs))) (λ p h. (omega arith, omega arith, h.2)) _
    (names_from-within N (suc n) gs two))

-- a name that is in the list of the gates' names: either of the first gate, or of a later one
names_from-cases : (N n : ℕ) (g : Gate) (gs : List Gate) (v : ℕ) (w : Wire) → Contains (names_from N (g ∷ gs) n) (v, w) →
    ((v ≡ n) × Contains (gate_names N g) w) ⊎ Contains (names_from N gs (suc n)) (v, w)
names_from-cases N n g gs v w k = ⊎_elim
    (λ h. inl (All-contains (λ (p : CircuitWire). (p.0 ≡ n) × Contains (gate_names N g) p.1) (map (λ w. (n, w)) (gate_names N g)) (v, w)
    (All-map (λ (p : CircuitWire). (p.0 ≡ n) × Contains (gate_names N g) p.1) (λ w. (n, w)) (gate_names N g)
    (All-weaker (Contains (gate_names N g)) (λ w. (n ≡ n) × Contains (gate_names N g) w) (λ w c. (refl, c)) (gate_names N g) (All-contains_itself (gate_names N g)))) h))
    (λ h. inr h)
    (Contains-append_cases (map (λ w. (n, w)) (gate_names N g)) (names_from N gs (suc n)) (v, w) k)

-- probes whose later ones are names of these gates are names at each gate
AreNamed-from : (N : ℕ) (P : List CircuitWire) (gs : List Gate) (n : ℕ) → 2 ≤ N →
    ((v : ℕ) (w : Wire) → n ≤ v → Contains P (v, w) → Contains (names_from N gs n) (v, w)) → AreNamed N P gs n
AreNamed-from N P [] n two h = tt
AreNamed-from N P (g ∷ gs) n two h = (
  λ w k. ⊎_elim (λ c. c.1)
      (λ c. let later = All-contains (IsNamedFrom N (suc n) (suc n + length gs)) (names_from N gs (suc n)) (n, w) (names_from-within N (suc n) gs two) c in
      absurd (omega arith))
      (names_from-cases N n g gs n w (h n w (le_refl n) k)),
  AreNamed-from N P gs (suc n) two (λ v w m k. ⊎_elim (λ c. absurd (omega arith)) (λ c. c) (names_from-cases N n g gs v w (h v w (omega arith) k))),
)

-- the names of the inputs
input_names : ℕ → ℕ → List CircuitWire
input_names N n = joined (λ v. each (λ i. (v, Share i)) N) n

input_names-within : (N n : ℕ) → All (IsNamedFrom N 0 n) (input_names N n)
unfolding input_names
input_names-within N n = All-joined (IsNamedFrom N 0 n) (λ v. each (λ i. (v, Share i)) N) n
    (λ v h. All-each (IsNamedFrom N 0 n) (λ i. (v, Share i)) N (λ i k. (omega arith, h, k)))

-- each name of a circuit is that of a value, and where it is a share one of N
pub names-within : (c : Netlist) (N : ℕ) → 2 ≤ N → All (IsNamedFrom N 0 (c.inputs + length c.gates)) (names c N)
unfolding input_names
names-within c N two = All-append (IsNamedFrom N 0 (c.inputs + length c.gates)) (input_names N c.inputs) (names_from N c.gates c.inputs)
    (All-weaker (IsNamedFrom N 0 c.inputs) (IsNamedFrom N 0 (c.inputs + length c.gates)) (λ p h. (omega arith, omega arith, h.2)) _ (input_names-within N c.inputs))
    (All-weaker (IsNamedFrom N c.inputs (c.inputs + length c.gates)) (IsNamedFrom N 0 (c.inputs + length c.gates)) (λ p h. (omega arith, h.1, h.2)) _
    (names_from-within N c.inputs c.gates two))

-- names of the circuit are names at each gate
pub AreNamed-from_names : (c : Netlist) (N : ℕ) (P : List CircuitWire) → 2 ≤ N → All (Contains (names c N)) P → AreNamed N P c.gates c.inputs
unfolding input_names
AreNamed-from_names c N P two all = AreNamed-from N P c.gates c.inputs two
    (λ v w m k. ⊎_elim
    (λ h. absurd (let below = All-contains (IsNamedFrom N 0 c.inputs) (input_names N c.inputs) (v, w) (input_names-within N c.inputs) h in omega arith))
    (λ h. h)
    (Contains-append_cases (input_names N c.inputs) (names_from N c.gates c.inputs) (v, w) (All-contains (Contains (names c N)) P (v, w) all k)))
