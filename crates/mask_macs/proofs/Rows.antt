-- Inputs of a step that stand in rows: bits of the key, of the state, and of the message.
use Rattle.std.proofs.Common.{◌≡◌, ℕ, ◌+◌, ◌-◌, ◌<◌, ◌≤◌, Bool, false, List, ◌++◌, map, length, take, drop, get_or, All, ◌⊎◌, inl, inr, refl, ap, ap₂, sym, subst, ◌∙◌, arith, length-append, length-drop}
use Rattle.std.proofs.lemmas.Bool.{cases_lt}
use Rattle.std.proofs.lemmas.List.{get_or-drop, get_or_append_left, get_or-append_right, map-append, map-id, take_all}
use Rattle.std.proofs.lemmas.List.Elements.{All-map}
use Rattle.std.proofs.lemmas.Simd.{map-map}
use Rattle.mask_circuit.specs.Wires.{each}
use Rattle.mask_circuit.proofs.Places.{length-each}
use Rattle.mask_shares.proofs.Lists.{each-get_or, each-same, get_or-each, map-each}
use Rattle.mask_trace.specs.Steps.{InputBit, Public, Plain, Key, State, Registers, IsNotHeld}
use Rattle.mask_trace.specs.Privacy.{without_message}
use Rattle.mask_trace.specs.Values.{input_value}
use Rattle.mask_trace.proofs.Taking.{IsOnce}
use Rattle.mask_streams.proofs.Values.{each-take}

-- NO BIT IS TAKEN TWICE

-- bits that no register holds
pub none_once : (is : List InputBit) → All IsNotHeld is → IsOnce is
none_once is none u v lt within same = none u (Public false) (omega arith)

-- different bits
pub each_once : (held : ℕ → InputBit) → ((i j : ℕ) → held i ≡ held j → i ≡ j) → (n : ℕ) → IsOnce (each held n)
each_once held one_to_one n u v lt within same =
    let long = length-each held n in
    let e : u ≡ v
    = one_to_one u v
    (sym (get_or-each held n u (Public false) (omega arith)) ∙ same ∙ get_or-each held n v (Public false) (omega arith)) in
    absurd (omega arith)

-- Bits of one kind and then bits of another, where what is of both kinds is in no register.
module _ (P Q : InputBit → Type 0) (apart : (b : InputBit) → P b → Q b → IsNotHeld b) where
  pub once_both : (is js : List InputBit) → All P is → All Q js → IsOnce is → IsOnce js → IsOnce (is ++ js)
  once_both is js all all' once once' u v lt within same = go (cases_lt v (length is)) (cases_lt u (length is))
    where
      few : v < length is + length js
      few = omega (arith, length-append is js)

      front : (i : ℕ) → i < length is → get_or (is ++ js) i (Public false) ≡ get_or is i (Public false)
      front i below = get_or_append_left is js (Public false) i below

      back : (i : ℕ) → length is ≤ i → get_or (is ++ js) i (Public false) ≡ get_or js (i - length is) (Public false)
      back i above = get_or-append_right is js (length is) i (Public false) refl above

      go : (v < length is) ⊎ (length is ≤ v) → (u < length is) ⊎ (length is ≤ u) → IsNotHeld (get_or (is ++ js) u (Public false))
      go (inl low) other =
          let below : u < length is = omega arith in
          subst IsNotHeld (sym (front u below)) (once u v lt low (sym (front u below) ∙ same ∙ front v low))
      go (inr high) (inl below) =
          let here = get_or js (v - length is) (Public false) in
          let e : get_or is u (Public false) ≡ here = sym (front u below) ∙ same ∙ back v high in
          subst IsNotHeld (sym (front u below))
          (apart (get_or is u (Public false)) (all u (Public false) below)
          (subst Q (sym e) (all' (v - length is) (Public false) (omega (arith, few)))))
      go (inr high) (inr above) =
          subst IsNotHeld (sym (back u above))
          (once' (u - length is) (v - length is) (omega arith) (omega (arith, few)) (sym (back u above) ∙ same ∙ back v high))

-- the kinds: not of the key, and not of the state
abbrev pub IsNotKey : InputBit → Type 0
IsNotKey (Public b) = Unit {0}
IsNotKey (Plain b) = Unit {0}
IsNotKey (Key i) = ⊥
IsNotKey (State i) = Unit {0}

abbrev pub IsNotState : InputBit → Type 0
IsNotState (Public b) = Unit {0}
IsNotState (Plain b) = Unit {0}
IsNotState (Key i) = Unit {0}
IsNotState (State i) = ⊥

neither_key_nor_state : (b : InputBit) → IsNotKey b → IsNotState b → IsNotHeld b
neither_key_nor_state (Public b) p q = tt
neither_key_nor_state (Plain b) p q = tt
neither_key_nor_state (Key i) p q = p
neither_key_nor_state (State i) p q = q

neither_state_nor_key : (b : InputBit) → IsNotState b → IsNotKey b → IsNotHeld b
neither_state_nor_key b p q = neither_key_nor_state b q p

-- no bit of the key, and then none of the state, or the other way round
pub state_and_key : (is js : List InputBit) → All IsNotKey is → All IsNotState js → IsOnce is → IsOnce js → IsOnce (is ++ js)
state_and_key = once_both IsNotKey IsNotState neither_key_nor_state

pub key_and_state : (is js : List InputBit) → All IsNotState is → All IsNotKey js → IsOnce is → IsOnce js → IsOnce (is ++ js)
key_and_state = once_both IsNotState IsNotKey neither_state_nor_key

-- WHAT THEY ARE

-- a row of message bits, or of public ones, is of every kind that such a bit is of
pub all_plains : (P : InputBit → Type 0) → ((b : Bool) → P (Plain b)) → (bs : List Bool) → All P (map Plain bs)
all_plains P each_is bs = All-map P Plain bs (λ i d lt. each_is _)

pub all_publics : (P : InputBit → Type 0) → ((b : Bool) → P (Public b)) → (bs : List Bool) → All P (map Public bs)
all_publics P each_is bs = All-map P Public bs (λ i d lt. each_is _)

-- rows that are the same without the message
pub alike_rows : (is is' js js' : List InputBit) → map without_message is ≡ map without_message is' →
    map without_message js ≡ map without_message js' → map without_message (is ++ js) ≡ map without_message (is' ++ js')
alike_rows is is' js js' e e' =
    map-append without_message is js
    ∙ ap₂ (λ (l r : List InputBit). l ++ r) e e'
    ∙ sym (map-append without_message is' js')

-- THEIR VALUES

module _ (held : Registers Bool) where
  pub first_key_values : (n : ℕ) → n ≤ length held.key → map (input_value held) (each Key n) ≡ take n held.key
  first_key_values n within = map-each (input_value held) Key n ∙ each-take held.key n false within

  pub key_values : (n : ℕ) → length held.key ≡ n → map (input_value held) (each Key n) ≡ held.key
  key_values n long = first_key_values n (omega arith) ∙ take_all n held.key (omega arith)

  -- those of the key behind its first m bits
  pub last_key_values : (m n : ℕ) → length held.key ≡ m + n → map (input_value held) (each (λ j. Key (m + j)) n) ≡ drop m held.key
  last_key_values m n long =
      let rest : length (drop m held.key) ≡ n = omega (arith, length-drop m held.key) in
      map-each (input_value held) (λ j. Key (m + j)) n
      ∙ each-same _ _ n (λ j lt. sym (get_or-drop m held.key j false))
      ∙ ap (each (λ j. get_or (drop m held.key) j false)) (sym rest)
      ∙ each-get_or (drop m held.key) false

  pub state_values : (n : ℕ) → length held.state ≡ n → map (input_value held) (each State n) ≡ held.state
  state_values n long =
      map-each (input_value held) State n ∙ each-take held.state n false (omega arith) ∙ take_all n held.state (omega arith)

  pub plain_values : (bs : List Bool) → map (input_value held) (map Plain bs) ≡ bs
  plain_values bs = map-map (input_value held) Plain bs ∙ map-id bs

  pub public_values : (bs : List Bool) → map (input_value held) (map Public bs) ≡ bs
  public_values bs = map-map (input_value held) Public bs ∙ map-id bs

  -- rows one behind another
  pub row_values : (is js : List InputBit) (xs ys : List Bool) → map (input_value held) is ≡ xs → map (input_value held) js ≡ ys →
      map (input_value held) (is ++ js) ≡ xs ++ ys
  row_values is js xs ys e e' = map-append (input_value held) is js ∙ ap₂ (λ (l r : List Bool). l ++ r) e e'
