-- The wires of a circuit by number and by name.
use Rattle.std.proofs.Common.{◌≡◌, ℕ, zero, suc, ◌+◌, ◌-◌, ◌*◌, ◌/◌, ◌<◌, ◌≤◌, List, [], ◌∷◌, ◌++◌, map, length, slice_get, slice_index_or, Some, None, refl, ap, ap₂, sym, ◌∙◌, arith, append_assoc, append-nil, length-append, add-one, ◌⊎◌, inl, inr}
use Rattle.std.specs.declared.option.Option.{Option}
use Rattle.std.specs.Option.{option_map}
use Rattle.std.proofs.lemmas.List.{map-append, length-map}
use Rattle.std.proofs.lemmas.Bool.{cases_lt}
use Rattle.std.proofs.lemmas.Nat.{div-add-mod'}
use Rattle.std.proofs.Math.Nat.{mul-le-mul_right}
use Rattle.std.proofs.lemmas.Option.{slice_get-map, slice_get-get_or}
use Rattle.mask_circuit.specs.declared.gates.Gate.{Gate}
use Rattle.mask_circuit.specs.declared.gates.Gate.TheVariants.{Zero, One, Xor, Not, And, Ref}
use Rattle.mask_circuit.specs.Netlist.{Netlist, value_count}
use Rattle.mask_circuit.specs.declared.gates.Wire.{Wire}
use Rattle.mask_circuit.specs.declared.gates.Wire.TheVariants.{Share}
use Rattle.mask_circuit.specs.Wires.{each, joined, share_names, gate_names, product_names, refresh_names}
use Rattle.mask_circuit.specs.Acceptance.{gate_at}
use Rattle.mask_circuit.specs.Expansion.{CircuitWire, names, names_from, names_by, names_of, wires_before, wire_count}
use Rattle.mask_circuit.proofs.GateAt.{AreGatesAt, AreGatesAt-all, gate_at_input}
use Rattle.mask_circuit.proofs.Places.{length-each, slice_get-joined}

-- LISTS

-- a function of each element of a list that is made by number
map-each : {A B : Type 0} (f : A → B) (g : ℕ → A) (n : ℕ) → map f (each g n) ≡ each (λ i. f (g i)) n
map-each f g zero = refl
map-each f g (suc n) = map-append f (each g n) (g n ∷ []) ∙ ap (λ xs. xs ++ f (g n) ∷ []) (map-each f g n)

-- pieces that are the same join to the same list
joined_same : {A : Type 0} (f g : ℕ → List A) (n : ℕ) → ((i : ℕ) → i < n → f i ≡ g i) → joined f n ≡ joined g n
joined_same f g zero h = refl
joined_same f g (suc n) h = ap₂ (λ xs ys. xs ++ ys) (joined_same f g n (λ i l. h i (omega arith))) (h n (omega arith))

-- NAMES

-- the wires of value v with their names
abbrev named : Netlist → ℕ → ℕ → List CircuitWire
named c N v = map (λ w. (v, w)) (names_of c N v)

-- the shares of an input by name
input_named : (c : Netlist) (N v : ℕ) → v < c.inputs → each (λ i. (v, Share i)) N ≡ named c N v
input_named c N v lt = sym (ap (λ o. map (λ w. (v, w)) (names_by N o)) (gate_at_input c v lt) ∙ map-each (λ w. (v, w)) Share N)

-- the names of these gates follow those of all values before them
gates_named : (c : Netlist) (N : ℕ) (gs : List Gate) (n : ℕ) → AreGatesAt c gs n → joined (named c N) n ++ names_from N gs n ≡ joined (named c N) (n + length gs)
gates_named c N [] n at = let e : n ≡ n + 0 = omega arith in append-nil _ ∙ ap (joined (named c N)) e
gates_named c N (g ∷ gs) n at =
    let e : suc n + length gs ≡ n + suc (length gs) = omega arith in
    sym (append_assoc (joined (named c N) n) (map (λ w. (n, w)) (gate_names N g)) (names_from N gs (suc n)))
    ∙ ap (λ o. (joined (named c N) n ++ map (λ w. (n, w)) (names_by N o)) ++ names_from N gs (suc n)) (sym at.0)
    ∙ gates_named c N gs (suc n) at.1
    ∙ ap (joined (named c N)) e

-- the list of all names is that of each value's names, joined
names_joined : (c : Netlist) (N : ℕ) → names c N ≡ joined (named c N) (value_count c)
names_joined c N =
    ap (λ xs. xs ++ names_from N c.gates c.inputs) (joined_same _ _ c.inputs (input_named c N))
    ∙ gates_named c N c.gates c.inputs (AreGatesAt-all c)

-- how many names there are before value n
length-named : (c : Netlist) (N n : ℕ) → length (joined (named c N) n) ≡ wires_before c N n
length-named c N zero = refl
length-named c N (suc n) =
    length-append (joined (named c N) n) (named c N n)
    ∙ ap₂ (λ a b. a + b) (length-named c N n) (length-map (names_of c N n) (λ w. (n, w)))

-- the values' wires are all there are
pub wire_count-before : (c : Netlist) (N : ℕ) → wire_count c N ≡ wires_before c N (value_count c)
wire_count-before c N = ap length (names_joined c N) ∙ length-named c N (value_count c)

-- the wire of local number k of value v stands k after all those of earlier values
pub names-at : (c : Netlist) (N v k : ℕ) (w : Wire) → v < value_count c → slice_get (names_of c N v) k ≡ Some w →
    slice_get (names c N) (wires_before c N v + k) ≡ Some (v, w)
names-at c N v k w lt e =
    ap (λ xs. slice_get xs (wires_before c N v + k)) (names_joined c N)
    ∙ ap (λ m. slice_get (joined (named c N) (value_count c)) (m + k)) (sym (length-named c N v))
    ∙ slice_get-joined (named c N) (value_count c) v k (v, w) lt
    (slice_get-map (λ w. (v, w)) (names_of c N v) k ∙ ap (option_map (λ w. (v, w))) e)

-- so a number is that of the wire that it counts to
pub names-place : (c : Netlist) (N v k p : ℕ) → v < value_count c → k < length (names_of c N v) → wires_before c N v + k ≡ p →
    slice_get (names c N) p ≡ Some (v, slice_index_or (names_of c N v) k (Share 0))
names-place c N v k p lt part e =
    rw (sym e) (names-at c N v k _ lt (slice_get-get_or (names_of c N v) k (Share 0) part))

-- COUNTS

-- the wires of the first inputs
pub wires_before-inputs : (c : Netlist) (N v : ℕ) → v ≤ c.inputs → wires_before c N v ≡ v * N
wires_before-inputs c N zero le = omega arith
wires_before-inputs c N (suc v) le =
    let up = wires_before-inputs c N v (omega arith) in
    let here : length (names_of c N v) ≡ N = ap (λ o. length (names_by N o)) (gate_at_input c v (omega arith)) ∙ length-each Share N in
    omega arith

-- a gate that acts share by share has its shares alone
pub gate_names-by_share : (n : ℕ) (g : Gate) → (g ≡ Zero) ⊎ ((g ≡ One) ⊎ (((x : ℕ) × (y : ℕ) × (g ≡ Xor x y)) ⊎ ((x : ℕ) × (g ≡ Not x)))) →
    gate_names n g ≡ share_names n
gate_names-by_share n g (inl e) = rw e refl
gate_names-by_share n g (inr (inl e)) = rw e refl
gate_names-by_share n g (inr (inr (inl (x, y, e)))) = rw e refl
gate_names-by_share n g (inr (inr (inr (x, e)))) = rw e refl

-- the wires of a product of 2 to 8 shares ..
pub length-product_names : (n : ℕ) → 2 ≤ n → n ≤ 8 → n * n + 3 * (n * (n - 1) / 2) + n * (n - 1) ≡ length (product_names n)
length-product_names zero some few = absurd (omega arith)
length-product_names (suc zero) some few = absurd (omega arith)
length-product_names (suc (suc zero)) some few = refl
length-product_names (suc (suc (suc zero))) some few = refl
length-product_names (suc (suc (suc (suc zero)))) some few = refl
length-product_names (suc (suc (suc (suc (suc zero))))) some few = refl
length-product_names (suc (suc (suc (suc (suc (suc zero)))))) some few = refl
length-product_names (suc (suc (suc (suc (suc (suc (suc zero))))))) some few = refl
length-product_names (suc (suc (suc (suc (suc (suc (suc (suc zero)))))))) some few = refl
length-product_names (suc (suc (suc (suc (suc (suc (suc (suc (suc n))))))))) some few = absurd (omega arith)

-- .. and of a refresh
pub length-refresh_names : (n : ℕ) → 2 ≤ n → n ≤ 8 → 3 * (n * (n - 1) / 2) ≡ length (refresh_names n)
length-refresh_names zero some few = absurd (omega arith)
length-refresh_names (suc zero) some few = absurd (omega arith)
length-refresh_names (suc (suc zero)) some few = refl
length-refresh_names (suc (suc (suc zero))) some few = refl
length-refresh_names (suc (suc (suc (suc zero)))) some few = refl
length-refresh_names (suc (suc (suc (suc (suc zero))))) some few = refl
length-refresh_names (suc (suc (suc (suc (suc (suc zero)))))) some few = refl
length-refresh_names (suc (suc (suc (suc (suc (suc (suc zero))))))) some few = refl
length-refresh_names (suc (suc (suc (suc (suc (suc (suc (suc zero)))))))) some few = refl
length-refresh_names (suc (suc (suc (suc (suc (suc (suc (suc (suc n))))))))) some few = absurd (omega arith)

-- A value below which there are fewer wires than a number is one of the circuit's.
pub value_within : (c : Netlist) (N v rest p : ℕ) → v ≤ value_count c → wires_before c N v + rest ≡ p → p < wire_count c N → v < value_count c
value_within c N v rest p le e lt = go (cases_lt v (value_count c))
  where
    go : (v < value_count c) ⊎ (value_count c ≤ v) → v < value_count c
    go (inl below) = below
    go (inr above) =
        let last : v ≡ value_count c = omega arith in
        let all : wires_before c N v ≡ wire_count c N = ap (wires_before c N) last ∙ sym (wire_count-before c N) in
        omega arith

-- the first values may be passed where they are inputs
pub inputs_passed : (c : Netlist) (N v p : ℕ) → 1 ≤ N → v ≤ c.inputs → v ≤ p / N → wires_before c N v + (p - v * N) ≡ p
inputs_passed c N v p some inputs whole =
    let before = wires_before-inputs c N v inputs in
    let all = div-add-mod' p N in
    let fewer = mul-le-mul_right N whole in
    omega arith

-- one value more is passed
pub value_passed : (c : Netlist) (N v rest count p : ℕ) → count ≡ length (names_of c N v) → count ≤ rest → wires_before c N v + rest ≡ p →
    wires_before c N (v + 1) + (rest - count) ≡ p
value_passed c N v rest count p is le left = rw (add-one v) (omega arith)

-- no value has more wires than a product of 8 shares
most_wires : (n : ℕ) → 2 ≤ n → n ≤ 8 → n * n + 3 * (n * (n - 1) / 2) + n * (n - 1) ≤ 204
most_wires n some few = grind arith

length-gate_names : (n : ℕ) (g : Gate) → 2 ≤ n → n ≤ 8 → length (gate_names n g) ≤ 204
length-gate_names n Zero some few = omega (arith, length-each Share n)
length-gate_names n One some few = omega (arith, length-each Share n)
length-gate_names n (Xor u v) some few = omega (arith, length-each Share n)
length-gate_names n (Not u) some few = omega (arith, length-each Share n)
length-gate_names n (And u v) some few = omega (arith, length-product_names n some few, most_wires n some few)
length-gate_names n (Ref u) some few = omega (arith, length-refresh_names n some few, most_wires n some few)

length-names_by : (n : ℕ) (o : Option Gate) → 2 ≤ n → n ≤ 8 → length (names_by n o) ≤ 204
length-names_by n None some few = length-gate_names n Zero some few
length-names_by n (Some g) some few = length-gate_names n g some few

pub length-names_of : (c : Netlist) (N v : ℕ) → 2 ≤ N → N ≤ 8 → length (names_of c N v) ≤ 204
length-names_of c N v some few = length-names_by N (gate_at c v) some few
