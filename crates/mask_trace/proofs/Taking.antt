-- What steps take: the bits of a register, and then bits that no register holds.
use Rattle.std.proofs.Common.{◌≡◌, ℕ, ◌+◌, ◌-◌, ◌<◌, ◌≤◌, Bool, false, List, [], ◌∷◌, ◌++◌, map, length, get_or, All, ◌⊎◌, inl, inr, sym, ap, ap₂, ◌∙◌, subst, refl, arith, length-append}
use Rattle.std.proofs.lemmas.Bool.{cases_lt}
use Rattle.std.proofs.lemmas.List.{map-append, get_or_append_left, get_or-append_right}
use Rattle.std.proofs.lemmas.List.Elements.{All-append}
use Rattle.mask_circuit.specs.Wires.{each}
use Rattle.mask_circuit.proofs.Places.{length-each}
use Rattle.mask_laws.proofs.CircuitNames.{All-each}
use Rattle.mask_shares.proofs.Lists.{get_or-each}
use Rattle.mask_trace.specs.Steps.{InputBit, Public, Plain, Step, IsThere, IsNotHeld}
use Rattle.mask_trace.specs.Privacy.{without_message}

-- INPUTS

-- no bit that a register holds is there twice
abbrev pub IsOnce : List InputBit → Type 0
IsOnce is = (u v : ℕ) → u < v → v < length is → get_or is u (Public false) ≡ get_or is v (Public false) →
    IsNotHeld (get_or is u (Public false))

-- The first k bits of a register, and then bits that no register holds: those of the key or of the state, where `held i` is
-- its bit i.
module _ (held : ℕ → InputBit) (one_to_one : (i j : ℕ) → held i ≡ held j → i ≡ j) (k : ℕ) (more : List InputBit) where
  pub held_at : (i : ℕ) → i < k → get_or (each held k ++ more) i (Public false) ≡ held i
  held_at i lt =
      get_or_append_left (each held k) more (Public false) i (omega (arith, length-each held k))
      ∙ get_or-each held k i (Public false) lt

  pub held_once : All IsNotHeld more → IsOnce (each held k ++ more)
  held_once none u v lt within same = go (cases_lt u k) (cases_lt v k)
    where
      behind : (i : ℕ) → k ≤ i → i < length (each held k ++ more) → IsNotHeld (get_or (each held k ++ more) i (Public false))
      behind i ge l =
          subst IsNotHeld (sym (get_or-append_right (each held k) more k i (Public false) (length-each held k) ge))
          (none (i - k) (Public false) (omega (arith, length-append (each held k) more, length-each held k)))

      go : (u < k) ⊎ (k ≤ u) → (v < k) ⊎ (k ≤ v) → IsNotHeld (get_or (each held k ++ more) u (Public false))
      go (inl below) (inl low) =
          let e : u ≡ v = one_to_one u v (sym (held_at u below) ∙ same ∙ held_at v low) in
          absurd (omega arith)
      go (inl below) (inr high) = subst IsNotHeld (sym same) (behind v high within)
      go (inr above) other = behind u above (omega arith)

  pub length-held : (n : ℕ) → length more ≡ n → length (each held k ++ more) ≡ k + n
  length-held n long = length-append (each held k) more ∙ ap₂ (λ (a b : ℕ). a + b) (length-each held k) long

  pub held_there : (a b : ℕ) → ((i : ℕ) → i < k → IsThere a b (held i)) → All (IsThere a b) more →
      All (IsThere a b) (each held k ++ more)
  held_there a b there others = All-append (IsThere a b) (each held k) more (All-each (IsThere a b) held k there) others

-- MESSAGE BITS

pub hidden : (xs ys : List Bool) → length xs ≡ length ys → map without_message (map Plain xs) ≡ map without_message (map Plain ys)
hidden [] [] e = refl
hidden [] (y ∷ ys) e = absurd (omega arith)
hidden (x ∷ xs) [] e = absurd (omega arith)
hidden (x ∷ xs) (y ∷ ys) e = ap (λ l. Plain false ∷ l) (hidden xs ys (omega arith))

-- inputs with as many message bits are the same but for these
pub inputs_are_alike : (front : List InputBit) (xs ys : List Bool) → length xs ≡ length ys →
    map without_message (front ++ map Plain xs) ≡ map without_message (front ++ map Plain ys)
inputs_are_alike front xs ys e =
    map-append without_message front (map Plain xs)
    ∙ ap (λ l. map without_message front ++ l) (hidden xs ys e)
    ∙ sym (map-append without_message front (map Plain ys))

abbrev pub with_inputs : List InputBit → Step → Step
with_inputs is s = record { circuit = s.circuit; inputs = is; keeps = s.keeps }
