-- What reaches what, as a relation and as a table.
use Rattle.std.proofs.Common.{◌≡◌, ℕ, suc, ◌+◌, ◌<◌, ◌≤◌, ◌⊎◌, inl, inr, Bool, true, cond, ◌&&◌, ◌==◌, nat_lt, List, [], ◌∷◌, length, Some, refl, ap, sym, ◌∙◌, subst, arith}
use Rattle.std.proofs.lemmas.Bool.{eq-eqb, ne_eqb, eqb-true, lt-ltb, le-ltb, cases_lt, cases_eq, or_cases, or_left, or_right, true≢false}
use Rattle.std.proofs.lemmas.Option.{none-some, same_Some}
use Rattle.mask_circuit.specs.declared.gates.Gate.{Gate}
use Rattle.mask_circuit.specs.declared.gates.Gate.TheVariants.{Zero, One, Xor, Not, And, Ref}
use Rattle.mask_circuit.specs.Netlist.{Netlist, IsWellFormed, AreGates, OperandsBelow, value_count}
use Rattle.mask_circuit.specs.Acceptance.{gate_at, Reaches, Input, ProductHere, RefreshHere, FromLeft, FromRight, FromNegated, Uses}
use Rattle.mask_laws.specs.Clashes.{Table, gate_reach, reach_from, reach, TidyIsAccepted, TableReaches}
use Rattle.mask_circuit.proofs.GateAt.{gate_at_input, gate_at_within, gate_at_operands, AreGatesAt, AreGatesAt-all}

-- what reaching s says of the gate g of value n
abbrev pub Onward : Netlist → ℕ → ℕ → Gate → Type 0
Onward c n s Zero = ⊥
Onward c n s One = ⊥
Onward c n s (Xor u v) = Reaches c u s ⊎ Reaches c v s
Onward c n s (Not u) = Reaches c u s
Onward c n s (And u v) = s ≡ n
Onward c n s (Ref u) = s ≡ n

-- a value has one gate
onward_at : (c : Netlist) (n s : ℕ) (g h : Gate) → gate_at c n ≡ Some h → gate_at c n ≡ Some g → Onward c n s h → Onward c n s g
onward_at c n s g h is e o = subst (Onward c n s) (same_Some h g (sym is ∙ e)) o

-- what value n reaches it reaches through its gate
pub onward : (c : Netlist) (g : Gate) (n s : ℕ) → Reaches c n s → gate_at c n ≡ Some g → Onward c n s g
onward c g n s (Input lt) e = absurd (none-some g (sym (gate_at_input c n lt) ∙ e))
onward c g n s (ProductHere is) e = onward_at c n s g _ is e refl
onward c g n s (RefreshHere is) e = onward_at c n s g _ is e refl
onward c g n s (FromLeft is r) e = onward_at c n s g _ is e (inl r)
onward c g n s (FromRight is r) e = onward_at c n s g _ is e (inr r)
onward c g n s (FromNegated is r) e = onward_at c n s g _ is e r

-- an input reaches itself alone
pub input_reaches : (c : Netlist) (n s : ℕ) → n < c.inputs → Reaches c n s → s ≡ n
input_reaches c n s lt (Input l) = refl
input_reaches c n s lt (ProductHere is) = refl
input_reaches c n s lt (RefreshHere is) = refl
input_reaches c n s lt (FromLeft is r) = absurd (none-some _ (sym (gate_at_input c n lt) ∙ is))
input_reaches c n s lt (FromRight is r) = absurd (none-some _ (sym (gate_at_input c n lt) ∙ is))
input_reaches c n s lt (FromNegated is r) = absurd (none-some _ (sym (gate_at_input c n lt) ∙ is))

-- what reaches a source is a value
pub reaches_within : (c : Netlist) (u s : ℕ) → Reaches c u s → u < value_count c
reaches_within c u s (Input lt) = omega arith
reaches_within c u s (ProductHere is) = (gate_at_within c u _ is).1
reaches_within c u s (RefreshHere is) = (gate_at_within c u _ is).1
reaches_within c u s (FromLeft is r) = (gate_at_within c u _ is).1
reaches_within c u s (FromRight is r) = (gate_at_within c u _ is).1
reaches_within c u s (FromNegated is r) = (gate_at_within c u _ is).1

-- a source stands no later than what reaches it
pub source_low : (c : Netlist) (u s : ℕ) → AreGates c.inputs c.gates → Reaches c u s → s ≤ u
source_low c u s are (Input lt) = omega arith
source_low c u s are (ProductHere is) = omega arith
source_low c u s are (RefreshHere is) = omega arith
source_low c u s are (FromLeft is r) = omega (arith, source_low c _ s are r, (gate_at_operands c u _ are is).0)
source_low c u s are (FromRight is r) = omega (arith, source_low c _ s are r, (gate_at_operands c u _ are is).1)
source_low c u s are (FromNegated is r) = omega (arith, source_low c _ s are r, gate_at_operands c u _ are is)

-- THE TABLE

-- R is right about the values below n, and has no others
pub record IsTable (c : Netlist) (n : ℕ) (R : Table) : Type 0 where
  pub sound : (u s : ℕ) → R u s ≡ true → (u < n) × Reaches c u s
  pub complete : (u s : ℕ) → u < n → Reaches c u s → R u s ≡ true

-- the row of one gate has only what its value reaches ..
row_sound : (c : Netlist) (g : Gate) (n s : ℕ) (R : Table) → gate_at c n ≡ Some g → IsTable c n R → gate_reach g n R s ≡ true → Reaches c n s
row_sound c Zero n s R is table e = absurd (true≢false (sym e))
row_sound c One n s R is table e = absurd (true≢false (sym e))
row_sound c (Xor u v) n s R is table e = elim (or_cases (R u s) (R v s) e) [
  | inl l ↦ FromLeft is (table.sound u s l).1
  | inr r ↦ FromRight is (table.sound v s r).1
]
row_sound c (Not u) n s R is table e = FromNegated is (table.sound u s e).1
row_sound c (And u v) n s R is table e = subst (λ (m : ℕ). Reaches c n m) (sym (eqb-true s n e)) (ProductHere is)
row_sound c (Ref u) n s R is table e = subst (λ (m : ℕ). Reaches c n m) (sym (eqb-true s n e)) (RefreshHere is)

-- .. and all of it
row_complete : (c : Netlist) (g : Gate) (n s : ℕ) (R : Table) → IsTable c n R → OperandsBelow n g → Onward c n s g → gate_reach g n R s ≡ true
row_complete c Zero n s R table below o = absurd o
row_complete c One n s R table below o = absurd o
row_complete c (Xor u v) n s R table below (inl r) = or_left (R u s) (R v s) (table.complete u s below.0 r)
row_complete c (Xor u v) n s R table below (inr r) = or_right (R u s) (R v s) (table.complete v s below.1 r)
row_complete c (Not u) n s R table below o = table.complete u s below o
row_complete c (And u v) n s R table below o = eq-eqb s n o
row_complete c (Ref u) n s R table below o = eq-eqb s n o

-- a table with one row more
IsTable_more : (c : Netlist) (n : ℕ) (R : Table) (row : ℕ → Bool) → IsTable c n R → ((s : ℕ) → row s ≡ true → Reaches c n s) →
    ((s : ℕ) → Reaches c n s → row s ≡ true) → IsTable c (suc n) (λ u s. cond (u == n) (row s) (R u s))
IsTable_more c n R row table sound complete = record {
  sound = λ u s e. sound_at u s (cases_eq u n) e;
  complete = λ u s lt r. complete_at u s lt (cases_eq u n) r;
}
  where
    sound_at : (u s : ℕ) → (u ≡ n) ⊎ (u ≡ n → ⊥) → cond (u == n) (row s) (R u s) ≡ true → (u < suc n) × Reaches c u s
    sound_at u s (inl e) is = (omega arith, subst (λ (m : ℕ). Reaches c m s) (sym e) (sound s (rw (eq-eqb u n e) at is)))
    sound_at u s (inr ne) is = let old = table.sound u s (rw (ne_eqb u n ne) at is) in (omega (arith, old.0), old.1)

    complete_at : (u s : ℕ) → u < suc n → (u ≡ n) ⊎ (u ≡ n → ⊥) → Reaches c u s → cond (u == n) (row s) (R u s) ≡ true
    complete_at u s lt (inl e) r = rw (eq-eqb u n e) (complete s (subst (λ (m : ℕ). Reaches c m s) e r))
    complete_at u s lt (inr ne) r = rw (ne_eqb u n ne) (table.complete u s (omega arith) r)

-- and with a row for each of these gates
tables : (c : Netlist) (gs : List Gate) (n : ℕ) (R : Table) → AreGatesAt c gs n → AreGates n gs → IsTable c n R → IsTable c (n + length gs) (reach_from gs n R)
tables c [] n R at are table = let e : n ≡ n + 0 = omega arith in subst (λ (m : ℕ). IsTable c m R) e table
tables c (g ∷ gs) n R at are table =
    let e : suc n + length gs ≡ n + suc (length gs) = omega arith in
    let is = at.0 in
    let more = IsTable_more c n R (gate_reach g n R) table (λ s. row_sound c g n s R is table)
    (λ s r. row_complete c g n s R table are.0 (onward c g n s r is)) in
    subst (λ (m : ℕ). IsTable c m (reach_from (g ∷ gs) n R)) e (tables c gs (suc n) _ at.1 are.1 more)

-- the rows of the inputs
start_table : (c : Netlist) → IsTable c c.inputs (λ u s. nat_lt u c.inputs && u == s)
start_table c = record {
  sound = λ u s e. sound_at u s (cases_lt u c.inputs) e;
  complete = λ u s lt r. rw (lt-ltb u c.inputs lt) (eq-eqb u s (sym (input_reaches c u s lt r)));
}
  where
    sound_at : (u s : ℕ) → (u < c.inputs) ⊎ (c.inputs ≤ u) → (nat_lt u c.inputs && u == s) ≡ true → (u < c.inputs) × Reaches c u s
    sound_at u s (inl lt) e = (lt, subst (λ (m : ℕ). Reaches c u m) (eqb-true u s (rw (lt-ltb u c.inputs lt) at e)) (Input lt))
    sound_at u s (inr le) e = absurd (true≢false (sym (rw (le-ltb u c.inputs le) at e)))

-- the table of the circuit is right about all values
pub table_is : (c : Netlist) → IsWellFormed c → IsTable c (value_count c) (reach c)
unfolding reach
table_is c is = tables c c.gates c.inputs _ (AreGatesAt-all c) is.gates (start_table c)

-- and these are all that reach anything
pub table_reaches : TableReaches
table_reaches c is u s =
    let table = table_is c is in
    (λ e. (table.sound u s e).1, λ r. table.complete u s (reaches_within c u s r) r)

-- TIDY CIRCUITS

-- what reaches a refresh and isn't it does so through an xor or a not that uses the refresh
pub record IsPassed (c : Netlist) (s : ℕ) : Type 0 where
  pub gate : Gate
  pub value : ℕ
  pub makes : gate_at c value ≡ Some gate
  pub uses : Uses s (Some gate)
  pub no_product : (u v : ℕ) → gate ≡ And u v → ⊥

-- from the refresh itself, or through the gate that uses it
passed : (c : Netlist) (u s w : ℕ) → Reaches c u s → gate_at c s ≡ Some (Ref w) → (u ≡ s) ⊎ IsPassed c s
passed c u s w (Input lt) is = inl refl
passed c u s w (ProductHere e) is = inl refl
passed c u s w (RefreshHere e) is = inl refl
passed c u s w (FromLeft {u = a} {v = b} e r) is = elim (passed c _ s w r is) [
  | inl same ↦ inr (record { gate = Xor a b; value = u; makes = e; uses = inl (sym same); no_product = λ p q x. grind arith })
  | inr p ↦ inr p
]
passed c u s w (FromRight {u = a} {v = b} e r) is = elim (passed c _ s w r is) [
  | inl same ↦ inr (record { gate = Xor a b; value = u; makes = e; uses = inr (sym same); no_product = λ p q x. grind arith })
  | inr p ↦ inr p
]
passed c u s w (FromNegated {u = a} e r) is = elim (passed c _ s w r is) [
  | inl same ↦ inr (record { gate = Not a; value = u; makes = e; uses = sym same; no_product = λ p q x. grind arith })
  | inr p ↦ inr p
]

-- the operands of a tidy product share no source: the right one reaches itself alone, and the left one not that
pub tidy_accepted : TidyIsAccepted
tidy_accepted c tidy p s shared =
    let u = shared.left in
    let v = shared.right in
    let refresh = tidy.refreshed p u v shared.is_product in
    let same : s ≡ v = onward c (Ref refresh.0) v s shared.right_reaches refresh.1 in
    go (passed c u v refresh.0 (subst (λ (m : ℕ). Reaches c u m) same shared.left_reaches) refresh.1)
  where
    go : (shared.left ≡ shared.right) ⊎ IsPassed c shared.right → ⊥
    go (inl e) = tidy.apart p shared.left shared.right shared.is_product e
    go (inr q) =
        let at : q.value ≡ p = tidy.alone p shared.left shared.right q.value shared.is_product (rw q.makes q.uses) in
        q.no_product shared.left shared.right (same_Some q.gate (And shared.left shared.right) (sym q.makes ∙ ap (gate_at c) at ∙ shared.is_product))
