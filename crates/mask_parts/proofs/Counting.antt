-- How many values, products and refreshes a draft has more than another one, where each product comes with one refresh; and
-- the size of a draft behind a fence.
use Rattle.std.proofs.Common.{◌≡◌, ℕ, ◌+◌, ◌≤◌, cond, List, [], ◌∷◌, length, map, refl, ap, ◌∙◌, arith, length-append}
use Rattle.std.specs.List.{count_by}
use Rattle.std.proofs.lemmas.List.{length-map}
use Rattle.std.proofs.lemmas.List.Sums.{sum_by-append, sum_by-cons}
use Rattle.std.proofs.lemmas.List.FromFn.{length-range_with_len}
use Rattle.mask_circuit.specs.declared.gates.Gate.{Gate}
use Rattle.mask_circuit.specs.declared.gates.Gate.TheVariants.{Ref}
use Rattle.mask_circuit.specs.Netlist.{Netlist, value_count, product_count, refresh_count, is_product, is_refresh}
use Rattle.mask_parts.specs.CipherCircuits.{Size, size_of}
use Rattle.mask_parts.specs.Drafts.{with_gates, with_outputs, IsWithinLimits}
use Rattle.mask_parts.specs.Fences.{with_fence}
use Rattle.mask_parts.proofs.Growing.{inputs-with_gates, outputs-with_gates, value_count-with_gates, product_count-with_gates, refresh_count-with_gates}

-- a list of v gates, of which p are products and p refreshes
pub record Counts (gs : List Gate) (v p : ℕ) : Type 0 where
  pub gates : length gs ≡ v
  pub products : count_by is_product gs ≡ p
  pub refreshes : count_by is_refresh gs ≡ p

-- the draft d has so many more than c, and the same inputs and outputs
pub record Adds (c d : Netlist) (v p : ℕ) : Type 0 where
  pub inputs : d.inputs ≡ c.inputs
  pub outputs : d.outputs ≡ c.outputs
  pub values : value_count d ≡ value_count c + v
  pub products : product_count d ≡ product_count c + p
  pub refreshes : refresh_count d ≡ refresh_count c + p

pub Adds-refl : (c : Netlist) → Adds c c 0 0
Adds-refl c = record { inputs = refl; outputs = refl; values = omega arith; products = omega arith; refreshes = omega arith }

pub Adds-trans : (c d e : Netlist) (v p w q : ℕ) → Adds c d v p → Adds d e w q → Adds c e (v + w) (p + q)
Adds-trans c d e v p w q one two = record {
  inputs = two.inputs ∙ one.inputs;
  outputs = two.outputs ∙ one.outputs;
  values = let a = one.values in let b = two.values in omega arith;
  products = let a = one.products in let b = two.products in omega arith;
  refreshes = let a = one.refreshes in let b = two.refreshes in omega arith;
}

pub Adds-with_gates : (c : Netlist) (gs : List Gate) (v p : ℕ) → Counts gs v p → Adds c (with_gates c gs) v p
unfolding with_gates
Adds-with_gates c gs v p counts = record {
  inputs = refl;
  outputs = refl;
  values = rw (length-append c.gates gs, counts.gates) (omega arith);
  products = rw (sum_by-append (λ (g : Gate). cond (is_product g) 1 0) c.gates gs, counts.products) refl;
  refreshes = rw (sum_by-append (λ (g : Gate). cond (is_refresh g) 1 0) c.gates gs, counts.refreshes) refl;
}

-- FENCES

products-refs : (us : List ℕ) → count_by is_product (map Ref us) ≡ 0
products-refs [] = refl
products-refs (u ∷ us) = rw (sum_by-cons (λ (g : Gate). cond (is_product g) 1 0) (Ref u) (map Ref us), products-refs us) (omega arith)

refreshes-refs : (us : List ℕ) → count_by is_refresh (map Ref us) ≡ length us
refreshes-refs [] = refl
refreshes-refs (u ∷ us) = rw (sum_by-cons (λ (g : Gate). cond (is_refresh g) 1 0) (Ref u) (map Ref us), refreshes-refs us) (omega arith)

-- sizes are equal by their parts
pub same_size : (a b : Size) → a.inputs ≡ b.inputs → a.outputs ≡ b.outputs → a.products ≡ b.products → a.refreshes ≡ b.refreshes → a.values ≡ b.values → a ≡ b
same_size a b i o p f v = λ t. record { inputs = i t; outputs = o t; products = p t; refreshes = f t; values = v t }

-- a draft without outputs that is fenced
pub size-with_fence : (c : Netlist) (us : List ℕ) → c.outputs ≡ []
    → size_of (with_fence c us) ≡ record {
      inputs = c.inputs;
      outputs = length us;
      products = product_count c;
      refreshes = refresh_count c + length us;
      values = value_count c + length us;
    }
unfolding with_fence with_outputs size_of
size-with_fence c us none =
    same_size _ _ (inputs-with_gates c (map Ref us))
    (rw (outputs-with_gates c (map Ref us), none) (length-range_with_len _ (length us)))
    (product_count-with_gates c (map Ref us) ∙ rw (products-refs us) (omega arith))
    (refresh_count-with_gates c (map Ref us) ∙ rw (refreshes-refs us) refl)
    (value_count-with_gates c (map Ref us) ∙ rw (length-map us Ref) refl)

-- a circuit of a small size is within the limits
pub IsWithinLimits-sized : (c : Netlist) (size : Size) → size_of c ≡ size → size.values ≤ 1_000_000 → size.outputs ≤ 1_000_000 → IsWithinLimits c
unfolding size_of
IsWithinLimits-sized c size is few few' = record { values = rw (ap (λ (s : Size). s.values) is) few; outputs = rw (ap (λ (s : Size). s.outputs) is) few' }
