-- How many products there are, and how many steps they cost.
use Rattle.std.proofs.Common.{◌≡◌, ℕ, zero, suc, ◌+◌, ◌-◌, ◌*◌, ◌/◌, ◌%◌, ◌<◌, ◌≤◌, cond, List, length, get_or, take, Some, refl, ap, ◌∙◌, subst, arith}
use Rattle.std.specs.List.{count_by}
use Rattle.std.proofs.Math.Nat.{mul-le-mul_left}
use Rattle.std.proofs.Math.Seq.{take-suc, take-length}
use Rattle.std.proofs.lemmas.List.Sums.{sum_by_push}
use Rattle.std.proofs.lemmas.Option.{slice_get-get_or}
use Rattle.mask_circuit.specs.declared.gates.Gate.{Gate}
use Rattle.mask_circuit.specs.declared.gates.Gate.TheVariants.{Zero, One, Xor, Not, And, Ref}
use Rattle.mask_circuit.specs.Netlist.{Netlist, value_count, product_count, is_product}
use Rattle.mask_circuit.specs.Acceptance.{gate_at}
use Rattle.mask_circuit.proofs.GateAt.{gate_at_input, gate_at_gate}
use Rattle.mask_check.specs.Batches.{product_at, products_below}
use Rattle.mask_check.specs.Costs.{most_steps}

-- PRODUCTS

-- no input is a product
products_below-inputs : (c : Netlist) (n : ℕ) → n ≤ c.inputs → products_below c n ≡ 0
products_below-inputs c zero le = refl
products_below-inputs c (suc n) le =
    let none : product_at (gate_at c n) ≡ 0 = ap product_at (gate_at_input c n (omega arith)) in
    omega (arith, products_below-inputs c n (omega arith), none)

product_at-gate : (g : Gate) → product_at (Some g) ≡ cond (is_product g) 1 0
product_at-gate Zero = refl
product_at-gate One = refl
product_at-gate (Xor u v) = refl
product_at-gate (Not u) = refl
product_at-gate (And u v) = refl
product_at-gate (Ref u) = refl

-- one gate after the other
products_below-gates : (c : Netlist) (k : ℕ) → k ≤ length c.gates → products_below c (c.inputs + k) ≡ count_by is_product (take k c.gates)
products_below-gates c zero le =
    let e : c.inputs ≡ c.inputs + 0 = omega arith in
    subst (λ (n : ℕ). products_below c n ≡ 0) e (products_below-inputs c c.inputs (omega arith))
products_below-gates c (suc k) le =
    let g = get_or c.gates k Zero in
    let lt : k < length c.gates = omega arith in
    let e : suc (c.inputs + k) ≡ c.inputs + suc k = omega arith in
    let here : product_at (gate_at c (c.inputs + k)) ≡ cond (is_product g) 1 0 =
    ap product_at (gate_at_gate c k ∙ slice_get-get_or c.gates k Zero lt) ∙ product_at-gate g in
    let more : count_by is_product (take (suc k) c.gates) ≡ count_by is_product (take k c.gates) + cond (is_product g) 1 0 =
    ap (λ (gs : List Gate). count_by is_product gs) (take-suc c.gates k Zero lt) ∙ sum_by_push (λ h. cond (is_product h) 1 0) (take k c.gates) g in
    subst (λ (n : ℕ). products_below c n ≡ count_by is_product (take (suc k) c.gates)) e
    (omega (arith, products_below-gates c k (omega arith), here, more))

-- all products
pub products_below-all : (c : Netlist) → products_below c (value_count c) ≡ product_count c
products_below-all c = products_below-gates c (length c.gates) (omega arith) ∙ ap (λ (gs : List Gate). count_by is_product gs) (take-length c.gates)

-- there are no fewer below a larger number
products_below-le : (c : Netlist) (m n : ℕ) → products_below c n ≤ products_below c (n + m)
products_below-le c zero n = let e : n ≡ n + 0 = omega arith in subst (λ (x : ℕ). products_below c n ≤ products_below c x) e (omega arith)
products_below-le c (suc m) n =
    let e : suc (n + m) ≡ n + suc m = omega arith in
    let more = products_below-le c m n in
    subst (λ (x : ℕ). products_below c n ≤ products_below c x) e (omega arith)

products_below-most : (c : Netlist) (n : ℕ) → n ≤ value_count c → products_below c n ≤ product_count c
products_below-most c n le =
    let e : n + (value_count c - n) ≡ value_count c = omega arith in
    let most = subst (λ (x : ℕ). products_below c n ≤ products_below c x) e (products_below-le c (value_count c - n) n) in
    omega (arith, most, products_below-all c)

-- STEPS

-- what the values below n cost: one step each to find the products, and for each batch no more than all values
abbrev pub steps_below : Netlist → ℕ → ℕ
steps_below c n = n + value_count c * ((products_below c n + 63) / 64)

-- no part costs more than the whole
pub steps_below-most : (c : Netlist) (n : ℕ) → n ≤ value_count c → steps_below c n ≤ most_steps c
steps_below-most c n le =
    let batches : (products_below c n + 63) / 64 ≤ (product_count c + 63) / 64 = omega (arith, products_below-most c n le) in
    omega (arith, mul-le-mul_left (value_count c) batches)

-- a batch that has products costs its values twice at most: once to find the products, once for the pass
pub steps_below-batch : (c : Netlist) (from until count : ℕ) → products_below c until ≡ products_below c from + count → 0 < count →
    products_below c from % 64 ≡ 0 → until ≤ value_count c → steps_below c from + (until - from) + until ≤ steps_below c until + (from - until)
steps_below-batch c from until count counted some even within =
    let one_more : (products_below c from + 63) / 64 + 1 ≤ (products_below c until + 63) / 64 = omega arith in
    omega (arith, mul-le-mul_left (value_count c) one_more)

-- a search for products costs its values once
pub steps_below-search : (c : Netlist) (from until count : ℕ) → products_below c until ≡ products_below c from + count →
    steps_below c from + (until - from) ≤ steps_below c until + (from - until)
steps_below-search c from until count counted =
    let no_fewer : (products_below c from + 63) / 64 ≤ (products_below c until + 63) / 64 = omega arith in
    omega (arith, mul-le-mul_left (value_count c) no_fewer)
