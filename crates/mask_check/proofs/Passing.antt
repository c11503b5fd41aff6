-- A pass from the last value down.
use Rattle.std.proofs.Common.{◌≡◌, ℕ, suc, ◌+◌, ◌-◌, ◌<◌, ◌≤◌, ◌⊎◌, inl, inr, List, length, get_or, slice_get, slice_set, Some, None, refl, sym, ◌∙◌, subst, arith, get_or-set_same, get_or-set_other}
use Rattle.std.specs.declared.option.Option.{Option}
use Rattle.std.proofs.Math.ListN.{length-set}
use Rattle.std.proofs.lemmas.Bool.{cases_eq, cases_lt}
use Rattle.std.proofs.lemmas.Option.{none-some, slice_get-get_or}
use Rattle.mask_circuit.specs.declared.gates.Gate.{Gate}
use Rattle.mask_circuit.specs.declared.gates.Gate.TheVariants.{Zero, One, Xor, Not, And, Ref}
use Rattle.mask_circuit.specs.Netlist.{Netlist, IsCircuit, AreGates, OperandsBelow, value_count}
use Rattle.mask_circuit.specs.Acceptance.{gate_at, Reaches, Input, ProductHere, RefreshHere, FromLeft, FromRight, FromNegated}
use Rattle.mask_circuit.proofs.GateAt.{gate_at_input, gate_at_gate, gate_at_operands}
use Rattle.mask_laws.proofs.Reaching.{source_low}
use Rattle.mask_check.specs.declared.backward.Meeting.{Meeting}
use Rattle.mask_check.specs.Marks.{HasBit, IsMarked, IsClearFrom, Meets, HasOperandsBelow, IsSource, IsLowestMeeting, passed_on}
use Rattle.mask_check.proofs.Words.{HasBit-none}
use Rattle.mask_check.proofs.Marking.{IsPassedTo, length-passed_on, passed_on-other, passed_on-kept, passed_on-new, passed_on-only}

-- GATES AND SOURCES

OperandsBelow-more : (m n : ℕ) (g : Gate) → m ≤ n → OperandsBelow m g → OperandsBelow n g
OperandsBelow-more m n Zero le below = tt
OperandsBelow-more m n One le below = tt
OperandsBelow-more m n (Xor u v) le below = (omega (arith, below.0), omega (arith, below.1))
OperandsBelow-more m n (Not u) le below = omega arith
OperandsBelow-more m n (And u v) le below = (omega (arith, below.0), omega (arith, below.1))
OperandsBelow-more m n (Ref u) le below = omega arith

-- the operands of a gate are below its value, and below all that is larger
pub operands_below : (c : Netlist) (v n : ℕ) → AreGates c.inputs c.gates → v ≤ n → HasOperandsBelow n (gate_at c v)
operands_below c v n are le = go (gate_at c v) refl
  where
    go : (g : Option Gate) → gate_at c v ≡ g → HasOperandsBelow n g
    go None e = tt
    go (Some g) e = OperandsBelow-more v n g le (gate_at_operands c v g are e)

-- so they are places of a list that has one for each value
pub operands_in : (c : Netlist) (places v : ℕ) (g : Option Gate) → IsCircuit c → v < value_count c → places ≡ value_count c → g ≡ gate_at c v → HasOperandsBelow places g
operands_in c places v g is within size gate = rw (size, gate) (operands_below c v (value_count c) is.formed.gates (omega arith))

-- marks are passed downwards
IsPassedTo-below : (g : Option Gate) (u v : ℕ) → HasOperandsBelow v g → IsPassedTo u g → u < v
IsPassedTo-below None u v below to = absurd to
IsPassedTo-below (Some Zero) u v below to = absurd to
IsPassedTo-below (Some One) u v below to = absurd to
IsPassedTo-below (Some (Xor a b)) u v below (inl e) = omega (arith, below.0)
IsPassedTo-below (Some (Xor a b)) u v below (inr e) = omega (arith, below.1)
IsPassedTo-below (Some (Not a)) u v below e = omega arith
IsPassedTo-below (Some (And a b)) u v below to = absurd to
IsPassedTo-below (Some (Ref a)) u v below to = absurd to

-- a value that reaches an earlier source passes marks to one that reaches it ..
through : (c : Netlist) (w s : ℕ) → Reaches c w s → s < w → (u : ℕ) × IsPassedTo u (gate_at c w) × Reaches c u s
through c w s (Input lt) low = absurd (omega arith)
through c w s (ProductHere is) low = absurd (omega arith)
through c w s (RefreshHere is) low = absurd (omega arith)
through c w s (FromLeft {u = a} {v = b} is r) low = (a, subst (IsPassedTo a) (sym is) (inl refl), r)
through c w s (FromRight {u = a} {v = b} is r) low = (b, subst (IsPassedTo b) (sym is) (inr refl), r)
through c w s (FromNegated {u = a} is r) low = (a, subst (IsPassedTo a) (sym is) refl, r)

-- .. and reaches what these reach
back : (c : Netlist) (u w s : ℕ) (g : Option Gate) → gate_at c w ≡ g → IsPassedTo u g → Reaches c u s → Reaches c w s
back c u w s None is to r = absurd to
back c u w s (Some Zero) is to r = absurd to
back c u w s (Some One) is to r = absurd to
back c u w s (Some (Xor a b)) is (inl e) r = FromLeft is (subst (λ (x : ℕ). Reaches c x s) e r)
back c u w s (Some (Xor a b)) is (inr e) r = FromRight is (subst (λ (x : ℕ). Reaches c x s) e r)
back c u w s (Some (Not a)) is e r = FromNegated is (subst (λ (x : ℕ). Reaches c x s) e r)
back c u w s (Some (And a b)) is to r = absurd to
back c u w s (Some (Ref a)) is to r = absurd to

-- what is reached is an input, a product or a refresh
source_gate : (c : Netlist) (u s : ℕ) → Reaches c u s → IsSource (gate_at c s)
source_gate c u s (Input lt) = subst IsSource (sym (gate_at_input c s lt)) tt
source_gate c u s (ProductHere is) = subst IsSource (sym is) tt
source_gate c u s (RefreshHere is) = subst IsSource (sym is) tt
source_gate c u s (FromLeft is r) = source_gate c _ s r
source_gate c u s (FromRight is r) = source_gate c _ s r
source_gate c u s (FromNegated is r) = source_gate c _ s r

-- and each of these reaches itself
reaches_self : (c : Netlist) (v : ℕ) → v < value_count c → IsSource (gate_at c v) → Reaches c v v
reaches_self c v within source = go (gate_at c v) refl source
  where
    input : gate_at c v ≡ None → (v < c.inputs) ⊎ (c.inputs ≤ v) → Reaches c v v
    input none (inl lt) = Input lt
    input none (inr le) =
        let e : c.inputs + (v - c.inputs) ≡ v = omega arith in
        let lt : v - c.inputs < length c.gates = omega arith in
        absurd (none-some (get_or c.gates (v - c.inputs) Zero)
        (sym none ∙ subst (λ (x : ℕ). gate_at c x ≡ slice_get c.gates (v - c.inputs)) e (gate_at_gate c (v - c.inputs)) ∙ slice_get-get_or c.gates (v - c.inputs) Zero lt))

    go : (g : Option Gate) → gate_at c v ≡ g → IsSource g → Reaches c v v
    go None is s = input is (cases_lt v c.inputs)
    go (Some Zero) is s = absurd s
    go (Some One) is s = absurd s
    go (Some (Xor a b)) is s = absurd s
    go (Some (Not a)) is s = absurd s
    go (Some (And a b)) is s = ProductHere is
    go (Some (Ref a)) is s = RefreshHere is

-- THE PASS

-- The marks have gone down to the values below v, and meet there just the sources below v that they met at the start.
pub record IsPassed (c : Netlist) (start now : List ℕ) (v : ℕ) : Type 0 where
  pub size : length now ≡ value_count c
  pub clear : IsClearFrom v now
  pub goes : (j s : ℕ) → s < v → Meets c start j s → Meets c now j s
  pub comes : (j s : ℕ) → s < v → Meets c now j s → Meets c start j s

IsPassed-start : (c : Netlist) (start : List ℕ) (v : ℕ) → length start ≡ value_count c → IsClearFrom v start → IsPassed c start start v
IsPassed-start c start v size clear = record { size = size; clear = clear; goes = λ j s lt h. h; comes = λ j s lt h. h }

-- an empty word has no mark
unmarked : (words : List ℕ) (v j : ℕ) → get_or words v 0 ≡ 0 → IsMarked words v j → ⊥
unmarked words v j e h = HasBit-none _ j e h.bit

-- the word of value v is taken
taken : List ℕ → ℕ → List ℕ
taken words v = slice_set words v 0

-- one value further down
IsPassed-step : (c : Netlist) (start now : List ℕ) (v : ℕ) → IsCircuit c → v < value_count c → IsPassed c start now (suc v) →
    IsPassed c start (passed_on (gate_at c v) (get_or now v 0) (slice_set now v 0)) v
IsPassed-step c start now v is within old = record {
  size = length-passed_on g word base ∙ length-set now v 0 ∙ old.size;
  clear = λ w le. passed_on-other g word base w (λ to. absurd (not_above w le to)) ∙ base_clear w le (cases_eq w v);
  goes = λ j s lt h. goes_on j s lt (old.goes j s (omega arith) h);
  comes = λ j s lt h. old.comes j s (omega arith) (came j s h (passed_on-only g word base h.value j below h.is_marked));
}
  where
    g : Option Gate
    g = gate_at c v

    word : ℕ
    word = get_or now v 0

    base : List ℕ
    base = slice_set now v 0

    in_now : v < length now
    in_now = omega (arith, old.size)

    below : HasOperandsBelow (length base) g
    below = operands_below c v (length base) is.formed.gates (omega (arith, length-set now v 0))

    not_above : (w : ℕ) → v ≤ w → IsPassedTo w g → ⊥
    not_above w le to = let low = IsPassedTo-below g w v (operands_below c v v is.formed.gates (omega arith)) to in omega arith

    base_clear : (w : ℕ) → v ≤ w → (w ≡ v) ⊎ (w ≡ v → ⊥) → get_or base w 0 ≡ 0
    base_clear w le (inl e) = rw e (get_or-set_same now v 0 0 in_now)
    base_clear w le (inr ne) = get_or-set_other now v w 0 0 ne ∙ old.clear w (omega arith)

    goes_on : (j s : ℕ) → s < v → Meets c now j s → Meets c (passed_on g word base) j s
    goes_on j s lt m = elim (cases_eq m.value v) [
      | inl e ↦
          let next = through c v s (subst (λ (x : ℕ). Reaches c x s) e m.reaches) lt in
          record {
            value = next.0;
            is_marked = passed_on-new g word base next.0 j below next.1 (subst (λ (x : ℕ). HasBit (get_or now x 0) j) e m.is_marked.bit);
            reaches = next.2;
          }
      | inr ne ↦ record {
        value = m.value;
        is_marked = passed_on-kept g word base m.value j below (record { bit = rw (get_or-set_other now v m.value 0 0 ne) m.is_marked.bit });
        reaches = m.reaches;
      }
    ]

    came : (j s : ℕ) (m : Meets c (passed_on g word base) j s) → IsMarked base m.value j ⊎ (IsPassedTo m.value g × HasBit word j) → Meets c now j s
    came j s m (inl kept) = elim (cases_eq m.value v) [
      | inl e ↦ absurd (unmarked base v j (get_or-set_same now v 0 0 in_now) (subst (λ (x : ℕ). IsMarked base x j) e kept))
      | inr ne ↦ record { value = m.value; is_marked = record { bit = rw (get_or-set_other now v m.value 0 0 ne) at kept.bit }; reaches = m.reaches }
    ]
    came j s m (inr new) = record { value = v; is_marked = record { bit = new.1 }; reaches = back c m.value v s g refl new.0 m.reaches }

-- What met source v at the start has its mark at v when the pass comes there ..
met : (c : Netlist) (start now : List ℕ) (v j : ℕ) → IsCircuit c → IsPassed c start now (suc v) → Meets c start j v → HasBit (get_or now v 0) j
met c start now v j is old h = go (old.goes j v (omega arith) h)
  where
    go : Meets c now j v → HasBit (get_or now v 0) j
    go m = elim (cases_lt v m.value) [
      | inl lt ↦ absurd (unmarked now m.value j (old.clear m.value (omega arith)) m.is_marked)
      | inr le ↦
          let e : m.value ≡ v = omega (arith, source_low c m.value v is.formed.gates m.reaches) in
          subst (λ (x : ℕ). HasBit (get_or now x 0) j) e m.is_marked.bit
    ]

-- .. and what has its mark there met it
meets : (c : Netlist) (start now : List ℕ) (v j : ℕ) → IsPassed c start now (suc v) → Reaches c v v → HasBit (get_or now v 0) j → Meets c start j v
meets c start now v j old self h = old.comes j v (omega arith) (record { value = v; is_marked = record { bit = h }; reaches = self })

-- the lowest mark of both words of a value with this gate, where it is a source, and 64 else
pub record IsLowestAt (g : Option Gate) (left right bit : ℕ) : Type 0 where
  pub source : bit < 64 → IsSource g
  pub on_left : bit < 64 → HasBit left bit
  pub on_right : bit < 64 → HasBit right bit
  pub lowest : IsSource g → (j : ℕ) → HasBit left j → HasBit right j → bit ≤ j

-- no mark that meets at v is lower
lowest_here : (c : Netlist) (left right nl nr : List ℕ) (v bit j : ℕ) → IsCircuit c → IsPassed c left nl (suc v) → IsPassed c right nr (suc v) →
    IsLowestAt (gate_at c v) (get_or nl v 0) (get_or nr v 0) bit → Meets c left j v → Meets c right j v → bit ≤ j
lowest_here c left right nl nr v bit j is on_left on_right at l r =
    at.lowest (source_gate c l.value v l.reaches) j (met c left nl v j is on_left l) (met c right nr v j is on_right r)

-- a mark at v that is as low as those before is lowest, and v is its lowest source ..
lowest_new : (c : Netlist) (left right nl nr : List ℕ) (v bit : ℕ) (m : Meeting) → IsCircuit c → v < value_count c → IsPassed c left nl (suc v) →
    IsPassed c right nr (suc v) → IsLowestAt (gate_at c v) (get_or nl v 0) (get_or nr v 0) bit → IsLowestMeeting c left right (suc v) m → bit ≤ m.bit →
    IsLowestMeeting c left right v (record { bit = bit; source = v })
lowest_new c left right nl nr v bit m is within on_left on_right at old le = record {
  on_left = λ few. meets c left nl v bit on_left (reaches_self c v within (at.source few)) (at.on_left few);
  on_right = λ few. meets c right nr v bit on_right (reaches_self c v within (at.source few)) (at.on_right few);
  lowest = λ j s from l r. elim (cases_eq s v) [
    | inl e ↦ low j s (omega arith) (lowest_here c left right nl nr v bit j is on_left on_right at
        (subst (λ (x : ℕ). Meets c left j x) e l) (subst (λ (x : ℕ). Meets c right j x) e r))
    | inr ne ↦ elim (old.lowest j s (omega arith) l r) [ inl lt ↦ low j s from (omega arith) | inr same ↦ low j s from (omega (arith, same.0)) ]
  ];
}
  where
    low : (j s : ℕ) → v ≤ s → bit ≤ j → (bit < j) ⊎ ((bit ≡ j) × (v ≤ s))
    low j s from b = elim (cases_eq bit j) [ inl e ↦ inr (e, from) | inr ne ↦ inl (omega arith) ]

-- .. and a higher one changes nothing
lowest_old : (c : Netlist) (left right nl nr : List ℕ) (v bit : ℕ) (m : Meeting) → IsCircuit c → IsPassed c left nl (suc v) →
    IsPassed c right nr (suc v) → IsLowestAt (gate_at c v) (get_or nl v 0) (get_or nr v 0) bit → IsLowestMeeting c left right (suc v) m → m.bit < bit →
    IsLowestMeeting c left right v m
lowest_old c left right nl nr v bit m is on_left on_right at old lt = record {
  on_left = old.on_left;
  on_right = old.on_right;
  lowest = λ j s from l r. elim (cases_eq s v) [
    | inl e ↦
        let le = lowest_here c left right nl nr v bit j is on_left on_right at
        (subst (λ (x : ℕ). Meets c left j x) e l) (subst (λ (x : ℕ). Meets c right j x) e r) in
        inl (omega arith)
    | inr ne ↦ old.lowest j s (omega arith) l r
  ];
}

-- nothing meets at or after the end of the marks
lowest_start : (c : Netlist) (left right : List ℕ) (n : ℕ) → IsCircuit c → IsClearFrom n left → IsLowestMeeting c left right n (record { bit = 64; source = 0 })
lowest_start c left right n is clear = record {
  on_left = λ few. absurd (omega arith);
  on_right = λ few. absurd (omega arith);
  lowest = λ j s from l r.
      let high = source_low c l.value s is.formed.gates l.reaches in
      absurd (unmarked left l.value j (clear l.value (omega arith)) l.is_marked);
}

-- WHAT THE LOOP KEEPS

-- the marks on both sides have gone down below v, and m is the lowest meeting from v on
pub record HasCome (c : Netlist) (left right nl nr : List ℕ) (v : ℕ) (m : Meeting) : Type 0 where
  pub within : v ≤ value_count c
  pub on_left : IsPassed c left nl v
  pub on_right : IsPassed c right nr v
  pub lowest : IsLowestMeeting c left right v m

pub HasCome-start : (c : Netlist) (left right : List ℕ) (n : ℕ) → IsCircuit c → n ≤ value_count c → length left ≡ value_count c → length right ≡ value_count c →
    IsClearFrom n left → IsClearFrom n right → HasCome c left right left right n (record { bit = 64; source = 0 })
HasCome-start c left right n is within left_size right_size left_clear right_clear = record {
  within = within;
  on_left = IsPassed-start c left n left_size left_clear;
  on_right = IsPassed-start c right n right_size right_clear;
  lowest = lowest_start c left right n is left_clear;
}

-- what is done at value v, where g is its gate: both words are taken and passed on, and bit is their lowest common mark
pub record IsVisit (c : Netlist) (v : ℕ) (g : Option Gate) (nl nr nl' nr' : List ℕ) (bit : ℕ) : Type 0 where
  pub gate : g ≡ gate_at c v
  pub left : nl' ≡ passed_on g (get_or nl v 0) (slice_set nl v 0)
  pub right : nr' ≡ passed_on g (get_or nr v 0) (slice_set nr v 0)
  pub lowest : IsLowestAt g (get_or nl v 0) (get_or nr v 0) bit

-- the same from the words taken
pub IsVisit-words : (c : Netlist) (v : ℕ) (g : Option Gate) (nl nr nl' nr' : List ℕ) (wl wr bit : ℕ) → g ≡ gate_at c v → wl ≡ get_or nl v 0 → wr ≡ get_or nr v 0 →
    nl' ≡ passed_on g wl (slice_set nl v 0) → nr' ≡ passed_on g wr (slice_set nr v 0) → IsLowestAt g wl wr bit → IsVisit c v g nl nr nl' nr' bit
IsVisit-words c v g nl nr nl' nr' wl wr bit gate left right passed_left passed_right lowest = record {
  gate = gate;
  left = rw (← left) passed_left;
  right = rw (← right) passed_right;
  lowest = rw (← left, ← right) lowest;
}

-- the marks are one value further down, whatever is lowest then
further : (c : Netlist) (left right nl nr nl' nr' : List ℕ) (v bit : ℕ) (g : Option Gate) (m lowest : Meeting) → IsCircuit c → IsVisit c v g nl nr nl' nr' bit →
    HasCome c left right nl nr (suc v) m → IsLowestMeeting c left right v lowest → HasCome c left right nl' nr' v lowest
further c left right nl nr nl' nr' v bit g m lowest is visit old is_lowest = record {
  within = omega (arith, old.within);
  on_left = rw (visit.left, visit.gate) (IsPassed-step c left nl v is old.within old.on_left);
  on_right = rw (visit.right, visit.gate) (IsPassed-step c right nr v is old.within old.on_right);
  lowest = is_lowest;
}

pub HasCome-new : (c : Netlist) (left right nl nr nl' nr' : List ℕ) (v n bit : ℕ) (g : Option Gate) (m : Meeting) → suc v ≡ n → IsCircuit c →
    IsVisit c v g nl nr nl' nr' bit → HasCome c left right nl nr n m → bit ≤ m.bit → HasCome c left right nl' nr' v (record { bit = bit; source = v })
HasCome-new c left right nl nr nl' nr' v n bit g m next is visit before le =
    let old = subst (λ (x : ℕ). HasCome c left right nl nr x m) (sym next) before in
    let at = subst (λ (x : Option Gate). IsLowestAt x (get_or nl v 0) (get_or nr v 0) bit) visit.gate visit.lowest in
    further c left right nl nr nl' nr' v bit g m _ is visit old (lowest_new c left right nl nr v bit m is old.within old.on_left old.on_right at old.lowest le)

pub HasCome-old : (c : Netlist) (left right nl nr nl' nr' : List ℕ) (v n bit : ℕ) (g : Option Gate) (m : Meeting) → suc v ≡ n → IsCircuit c →
    IsVisit c v g nl nr nl' nr' bit → HasCome c left right nl nr n m → m.bit < bit → HasCome c left right nl' nr' v m
HasCome-old c left right nl nr nl' nr' v n bit g m next is visit before lt =
    let old = subst (λ (x : ℕ). HasCome c left right nl nr x m) (sym next) before in
    let at = subst (λ (x : Option Gate). IsLowestAt x (get_or nl v 0) (get_or nr v 0) bit) visit.gate visit.lowest in
    further c left right nl nr nl' nr' v bit g m _ is visit old (lowest_old c left right nl nr v bit m is old.on_left old.on_right at old.lowest lt)

-- At a value without marks there is nothing to do: what the pass has at the values above v, it has at v too.
IsPassed-unmarked : (c : Netlist) (start now : List ℕ) (v : ℕ) → get_or now v 0 ≡ 0 → IsPassed c start now (suc v) → IsPassed c start now v
IsPassed-unmarked c start now v none old = record {
  size = old.size;
  clear = λ w le. clear_at w le (cases_eq w v);
  goes = λ j s lt h. old.goes j s (omega arith) h;
  comes = λ j s lt h. old.comes j s (omega arith) h;
}
  where
    clear_at : (w : ℕ) → v ≤ w → (w ≡ v) ⊎ (w ≡ v → ⊥) → get_or now w 0 ≡ 0
    clear_at w le (inl e) = rw e none
    clear_at w le (inr ne) = old.clear w (omega arith)

pub HasCome-unmarked : (c : Netlist) (left right nl nr : List ℕ) (v n : ℕ) (m : Meeting) → suc v ≡ n → IsCircuit c → get_or nl v 0 ≡ 0 → get_or nr v 0 ≡ 0 →
    HasCome c left right nl nr n m → HasCome c left right nl nr v m
HasCome-unmarked c left right nl nr v n m next is no_left no_right before =
    let old = subst (λ (x : ℕ). HasCome c left right nl nr x m) (sym next) before in
    record {
      within = omega (arith, old.within);
      on_left = IsPassed-unmarked c left nl v no_left old.on_left;
      on_right = IsPassed-unmarked c right nr v no_right old.on_right;
      lowest = record {
        on_left = old.lowest.on_left;
        on_right = old.lowest.on_right;
        lowest = λ j s from l r. lowest_at old j s from l r (cases_eq s v);
      };
    }
  where
    lowest_at : HasCome c left right nl nr (suc v) m → (j s : ℕ) → v ≤ s → Meets c left j s → Meets c right j s → (s ≡ v) ⊎ (s ≡ v → ⊥) →
        (m.bit < j) ⊎ ((m.bit ≡ j) × (m.source ≤ s))
    lowest_at old j s from l r (inl e) =
        absurd (HasBit-none _ j no_left (met c left nl v j is old.on_left (subst (λ (x : ℕ). Meets c left j x) e l)))
    lowest_at old j s from l r (inr ne) = old.lowest.lowest j s (omega arith) l r
