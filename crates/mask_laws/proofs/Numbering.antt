-- The wires of a circuit by number and by name.
use Rattle.std.proofs.Common.{◌≡◌, ℕ, zero, suc, ◌+◌, ◌<◌, ◌≤◌, Bool, true, false, cond, ◌&&◌, ◌==◌, List, [], ◌∷◌, slice_get, Contains, Some, None, refl, ap, ap₂, sym, ◌∙◌}
use Rattle.std.specs.declared.option.Option.{Option}
use Rattle.std.proofs.lemmas.Bool.{eq-eqb, eqb-true, and_parts, and_from, true≢false}
use Rattle.std.proofs.lemmas.Option.{none-some, same_Some, slice_get-get_or}
use Rattle.mask_circuit.specs.declared.gates.Gate.{Gate}
use Rattle.mask_circuit.specs.declared.gates.Gate.TheVariants.{Zero, One, Xor, Not, And, Ref}
use Rattle.mask_circuit.specs.declared.gates.Wire.{Wire}
use Rattle.mask_circuit.specs.declared.gates.Wire.TheVariants.{Share, Product, Fresh, Left, Right, Partial}
use Rattle.mask_circuit.specs.Wires.{gate_names}
use Rattle.mask_circuit.specs.Expansion.{CircuitWire, names, names_by, names_of, wires_before}
use Rattle.mask_circuit.specs.Probing.{same_wire, places_before}
use Rattle.mask_circuit.specs.Acceptance.{gate_at}
use Rattle.mask_laws.specs.Numbering.{WiresInOrder, WiresAreCounted, SharesHavePlaces}
use Rattle.mask_laws.proofs.Names.{gate_names-by_shape}
use Rattle.mask_circuit.proofs.Numbering.{names-at, wire_count-before}

-- the first element that passes, where one alone can
slice_get-places_before : {A : Type 0} (test : A → Bool) (xs : List A) (k : ℕ) (a : A) → slice_get xs k ≡ Some a → test a ≡ true →
    ((b : A) → test b ≡ true → b ≡ a) → slice_get xs (places_before test xs) ≡ Some a
slice_get-places_before test [] k a e passes one = absurd (none-some a e)
slice_get-places_before test (x ∷ xs) k a e passes one =
    go (test x) refl k e (λ j f. slice_get-places_before test xs j a f passes one)
  where
    go : (b : Bool) → test x ≡ b → (k : ℕ) → slice_get (x ∷ xs) k ≡ Some a → ((j : ℕ) → slice_get xs j ≡ Some a → slice_get xs (places_before test xs) ≡ Some a) →
        slice_get (x ∷ xs) (cond b 0 (suc (places_before test xs))) ≡ Some a
    go true is k e up = ap Some (one x is)
    go false is zero e up = absurd (true≢false (sym passes ∙ ap test (sym (same_Some x a e)) ∙ is))
    go false is (suc k) e up = up k e

-- so many wires there are
pub wires_are_counted : WiresAreCounted
wires_are_counted = wire_count-before

-- and each stands in its place
pub wires_in_order : WiresInOrder
wires_in_order = names-at

-- share i alone is called so
same_share : (i : ℕ) (w : Wire) → same_wire (Share i) w ≡ true → w ≡ Share i
same_share i (Share k) e = ap Share (sym (eqb-true i k e))
same_share i (Product j k) e = absurd (true≢false (sym e))
same_share i (Fresh j k) e = absurd (true≢false (sym e))
same_share i (Left j k) e = absurd (true≢false (sym e))
same_share i (Right j k) e = absurd (true≢false (sym e))
same_share i (Partial j k) e = absurd (true≢false (sym e))

-- whether a place is share i of value u
abbrev pub is_share_of : ℕ → ℕ → CircuitWire → Bool
is_share_of u i p = p.0 == u && same_wire (Share i) p.1

-- one place alone is called so ..
is_share_of-true : (u i : ℕ) (p : CircuitWire) → is_share_of u i p ≡ true → p ≡ (u, Share i)
is_share_of-true u i p e =
    let parts = and_parts (p.0 == u) (same_wire (Share i) p.1) e in
    ap₂ (λ a b. (a, b)) (eqb-true p.0 u parts.0) (same_share i p.1 parts.1)

-- .. and it is
is_share_of-same : (u i : ℕ) → is_share_of u i (u, Share i) ≡ true
is_share_of-same u i = and_from (u == u) (i == i) (eq-eqb u u refl) (eq-eqb i i refl)

-- each gate has its output shares among its wires
gate_share : (N : ℕ) (g : Gate) (i : ℕ) → 2 ≤ N → i < N → Contains (gate_names N g) (Share i)
gate_share N Zero i two lt = (gate_names-by_shape N Zero (Share i) two).1 lt
gate_share N One i two lt = (gate_names-by_shape N One (Share i) two).1 lt
gate_share N (Xor u v) i two lt = (gate_names-by_shape N (Xor u v) (Share i) two).1 lt
gate_share N (Not u) i two lt = (gate_names-by_shape N (Not u) (Share i) two).1 lt
gate_share N (And u v) i two lt = (gate_names-by_shape N (And u v) (Share i) two).1 lt
gate_share N (Ref u) i two lt = (gate_names-by_shape N (Ref u) (Share i) two).1 lt

-- so has each value
value_share : (N : ℕ) (o : Option Gate) (i : ℕ) → 2 ≤ N → i < N → Contains (names_by N o) (Share i)
value_share N None i two lt = gate_share N Zero i two lt
value_share N (Some g) i two lt = gate_share N g i two lt

-- so the first wire that is called share i of value u is the one
pub shares_have_places : SharesHavePlaces
shares_have_places c N u i two within lt =
    let k = value_share N (gate_at c u) i two lt in
    let at : slice_get (names_of c N u) k.0 ≡ Some (Share i) = slice_get-get_or (names_of c N u) k.0 (Share i) k.1 ∙ ap Some k.2 in
    slice_get-places_before (is_share_of u i) (names c N) (wires_before c N u + k.0) (u, Share i)
    (wires_in_order c N u k.0 (Share i) within at) (is_share_of-same u i) (is_share_of-true u i)
