-- The shares of each value stand for its plain value.
use Rattle.std.proofs.Common.{◌≡◌, ℕ, zero, suc, ◌+◌, ◌<◌, ◌≤◌, ◌⊎◌, inl, inr, Bool, true, false, cond, ◌&&◌, ◌==◌, List, [], ◌∷◌, ◌++◌, map, length, take, drop, All, refl, ap, ap₂, sym, ◌∙◌, arith}
use Rattle.std.proofs.lemmas.Bool.{eq-eqb, ne_eqb, lt-ltb, le-ltb, cases_order}
use Rattle.std.proofs.lemmas.List.{get_or_append_left, get_or_push, length_push}
use Rattle.std.proofs.lemmas.Option.{get_or_from_slice_get}
use Rattle.mask_circuit.specs.declared.gates.Gate.{Gate}
use Rattle.mask_circuit.specs.declared.gates.Gate.TheVariants.{Zero, One, Xor, Not, And, Ref}
use Rattle.mask_circuit.specs.Netlist.{AreGates, OperandsBelow, value_count}
use Rattle.mask_circuit.specs.Value.{xor, value_at, gate_value, values_from, plain_values}
use Rattle.mask_circuit.specs.Ring.{bits}
use Rattle.mask_circuit.specs.declared.gates.Wire.{Wire}
use Rattle.mask_circuit.specs.declared.gates.Wire.TheVariants.{Share}
use Rattle.mask_circuit.specs.Wires.{Shares, each, pairs, fresh_of, cross, product_wire, fresh_between, refresh_wire, gate_draws, gate_wire}
use Rattle.mask_circuit.specs.Expansion.{Carried, shares_of, put, start, run, expand}
use Rattle.mask_circuit.specs.Sharing.{unmasked}
use Rattle.mask_laws.specs.Sharing.{unshared_inputs, ValuesUnmask, OutputsUnmask}
use Rattle.mask_laws.proofs.Bits.{xor-false, xor_self, xor_comm}
use Rattle.mask_laws.proofs.BitSums.{total, total-xor, total_same, total_none, unmasked-each, row_sum-total, square}
use Rattle.mask_laws.proofs.Carrying.{put-own, put-other}
use Rattle.mask_circuit.proofs.Places.{length-each, slice_get-each}

-- GATES

-- a bit on share 0 alone
total-on_first : (b : Bool) (n : ℕ) → total (λ i. cond (i == 0) b false) (suc n) ≡ b
total-on_first b zero = refl
total-on_first b (suc n) = rw (total-on_first b n, ne_eqb (suc n) 0 (λ e. omega arith)) (xor-false b)

-- off the diagonal, nothing on it
abbrev off : (ℕ → ℕ → Bool) → ℕ → ℕ → Bool
off entry i j = cond (i == j) false (entry i j)

-- on the diagonal there is nothing
off_diagonal : (entry : ℕ → ℕ → Bool) (i : ℕ) → off entry i i ≡ false
off_diagonal entry i = rw (eq-eqb i i refl) refl

-- off it there are the entries
off_pair : (entry : ℕ → ℕ → Bool) (i j : ℕ) → i < j → xor (off entry i j) (off entry j i) ≡ xor (entry i j) (entry j i)
off_pair entry i j lt = rw (ne_eqb i j (λ e. omega arith), ne_eqb j i (λ e. omega arith)) refl

-- a fresh bit that stands in both wires of a pair is gone from their sum
mixed : (r p q : Bool) → xor r (xor (xor r p) q) ≡ xor p q
mixed false p q = refl
mixed true true true = refl
mixed true true false = refl
mixed true false true = refl
mixed true false false = refl

-- the rows of a product sum to the product of the sums
product_total : (a b : Shares Bool) (r : ℕ → ℕ → Bool) (n : ℕ) → total (λ i. product_wire bits (suc n) a b r (Share i)) (suc n) ≡ (total a (suc n) && total b (suc n))
product_total a b r n =
    total_same _ _ (suc n) (λ i l. row_sum-total (a i && b i) (cross bits a b r i) i n)
    ∙ total-xor (λ i. a i && b i) (λ i. total (off (cross bits a b r) i) (suc n)) (suc n)
    ∙ square (off (cross bits a b r)) a b (off_diagonal (cross bits a b r)) pair (suc n)
  where
    pair : (i j : ℕ) → i < j → xor (off (cross bits a b r) i j) (off (cross bits a b r) j i) ≡ xor (a i && b j) (a j && b i)
    pair i j lt = off_pair (cross bits a b r) i j lt ∙ rw (lt-ltb i j lt, le-ltb j i (omega arith)) (mixed (r i j) (a i && b j) (a j && b i))

-- the rows of a refresh sum to the sum of the shares: each fresh bit is there twice
refresh_total : (a : Shares Bool) (r : ℕ → ℕ → Bool) (n : ℕ) → total (λ i. refresh_wire bits (suc n) a r (Share i)) (suc n) ≡ total a (suc n)
refresh_total a r n =
    total_same _ _ (suc n) (λ i l. row_sum-total (a i) (fresh_between r i) i n)
    ∙ total-xor a (λ i. total (off (fresh_between r) i) (suc n)) (suc n)
    ∙ ap (xor (total a (suc n))) twice ∙ xor-false _
  where
    pair : (i j : ℕ) → i < j → xor (off (fresh_between r) i j) (off (fresh_between r) j i) ≡ false
    pair i j lt = off_pair (fresh_between r) i j lt ∙ rw (lt-ltb i j lt, le-ltb j i (omega arith)) (xor_self (r i j))

    twice : total (λ i. total (off (fresh_between r) i) (suc n)) (suc n) ≡ false
    twice = ap (λ z. xor z (total (λ i. total (off (fresh_between r) i) (suc n)) (suc n))) (sym (total_none (suc n)))
        ∙ square (off (fresh_between r)) (λ i. false) (λ i. false) (off_diagonal (fresh_between r)) pair (suc n) ∙ rw (total_none (suc n)) refl

-- the shares of values below n stand for these values
abbrev pub Stand : ℕ → ℕ → Carried Bool → List Bool → Type 0
Stand N n t values = (u : ℕ) → u < n → total (shares_of t u) N ≡ value_at values u

-- the shares of a gate sum to its value on the values before it
pub gate_total : (N : ℕ) (g : Gate) (n : ℕ) (t : Carried Bool) (values r : List Bool) → 1 ≤ N → OperandsBelow n g → Stand N n t values →
    total (λ i. gate_wire bits N g (shares_of t) r (Share i)) N ≡ gate_value g values
gate_total zero g n t values r one below stand = absurd (omega arith)
gate_total (suc m) Zero n t values r one below stand = total_none (suc m)
gate_total (suc m) One n t values r one below stand = total-on_first true m
gate_total (suc m) (Xor u v) n t values r one below stand =
    total-xor (shares_of t u) (shares_of t v) (suc m) ∙ ap₂ xor (stand u below.0) (stand v below.1)
gate_total (suc m) (Not u) n t values r one below stand =
    total_same _ (λ i. xor (shares_of t u i) (cond (i == 0) true false)) (suc m) (λ i l. flip (i == 0) (shares_of t u i))
    ∙ total-xor (shares_of t u) (λ i. cond (i == 0) true false) (suc m)
    ∙ ap₂ xor (stand u below) (total-on_first true m) ∙ xor_comm (value_at values u) true
  where
    flip : (b s : Bool) → cond b (xor s true) s ≡ xor s (cond b true false)
    flip true s = refl
    flip false s = sym (xor-false s)
gate_total (suc m) (And u v) n t values r one below stand =
    product_total (shares_of t u) (shares_of t v) (fresh_of bits (pairs (suc m)) r) m ∙ ap₂ (λ y z. y && z) (stand u below.0) (stand v below.1)
gate_total (suc m) (Ref u) n t values r one below stand =
    refresh_total (shares_of t u) (fresh_of bits (pairs (suc m)) r) m ∙ stand u below

-- WHOLE CIRCUITS

-- one more value
Stand_put : (N n : ℕ) (wires : Wire → Bool) (t : Carried Bool) (values : List Bool) (b : Bool) → length values ≡ n → Stand N n t values →
    total (λ i. wires (Share i)) N ≡ b → Stand N (suc n) (put n wires t) (values ++ b ∷ [])
Stand_put N n wires t values b size stand new u lt = go (cases_order u n)
  where
    go : (u ≡ n) ⊎ ((u < n) ⊎ (n < u)) → total (shares_of (put n wires t) u) N ≡ value_at (values ++ b ∷ []) u
    go (inl e) = total_same _ _ N (λ i l. put-own n u (Share i) wires t e) ∙ (new ∙ sym (get_or_push values b false u (omega arith)))
    go (inr (inl l)) = total_same _ _ N (λ i k. put-other n u (Share i) wires t (λ e. omega arith)) ∙ (stand u l ∙ sym (get_or_append_left values (b ∷ []) false u (omega arith)))
    go (inr (inr g)) = absurd (omega arith)

-- so do those of all values after these gates
run_stands : (N : ℕ) (gs : List Gate) (n : ℕ) (t : Carried Bool) (values r : List Bool) → 1 ≤ N → AreGates n gs → length values ≡ n →
    Stand N n t values → Stand N (n + length gs) (run bits N gs n t r) (values_from gs values)
run_stands N [] n t values r one are size stand u lt = stand u (omega arith)
run_stands N (g ∷ gs) n t values r one are size stand u lt =
    run_stands N gs (suc n) _ (values ++ gate_value g values ∷ []) (drop (gate_draws N g) r) one are.1
    (length_push values (gate_value g values) ∙ omega arith)
    (Stand_put N n (gate_wire bits N g (shares_of t) (take (gate_draws N g) r)) t values (gate_value g values) size stand (gate_total N g n t values (take (gate_draws N g) r) one are.0 stand))
    u (omega arith)

-- and those of the whole circuit
pub values_unmask : ValuesUnmask
values_unmask c N x r is one u lt =
    unmasked-each _ N
    ∙ run_stands N c.gates c.inputs (start bits x) (unshared_inputs c N x) r one is.gates (length-each _ c.inputs)
    (λ v l. sym (get_or_from_slice_get (unshared_inputs c N x) v _ false (slice_get-each _ c.inputs v l) ∙ unmasked-each (x v) N)) u lt

-- the same at each output
pub outputs_unmask : OutputsUnmask
outputs_unmask c N x r is one = at c.outputs is.outputs
  where
    at : (us : List ℕ) → All (λ u. u < value_count c) us →
        map (unmasked bits) (map (λ u. each (shares_of (expand bits c N x r) u) N) us) ≡ map (λ u. value_at (plain_values c (unshared_inputs c N x)) u) us
    at [] all = refl
    at (u ∷ us) all = ap₂ (λ y z. y ∷ z) (values_unmask c N x r is one u (all 0 0 (omega arith))) (at us (λ k d l. all (suc k) d (omega arith)))
