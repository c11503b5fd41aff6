-- What a product computes.
use Rattle.std.proofs.Common.{◌≡◌, ℕ, suc, ◌+◌, ◌<◌, Bool, ◌&&◌, List, length, ap, ap₂, ◌∙◌, arith, add-one}
use Rattle.mask_circuit.specs.Netlist.{Netlist, AreGates, value_count}
use Rattle.mask_circuit.specs.Value.{value_at, plain_values}
use Rattle.mask_parts.specs.Drafts.{with_gates}
use Rattle.mask_parts.specs.Tables.{product_gates}
use Rattle.mask_parts.proofs.Solving.{Solves, Solves-with_gates, value_at-with_gates}

pub AreGates-product : (n u v : ℕ) → u < n → v < n → AreGates n (product_gates n u v)
AreGates-product n u v u_below v_below = (v_below, ((let up : u < suc n = omega arith in up, omega arith), tt))

-- values that solve a product's gates have the product behind its refresh
pub product-solved : (vs : List Bool) (n u v : ℕ) → Solves vs n (product_gates n u v) → value_at vs (n + 1) ≡ (value_at vs u && value_at vs v)
product-solved vs n u v s = rw (add-one n) (s.1.0 ∙ ap (λ (b : Bool). value_at vs u && b) s.0)

pub value_at-with_product : (c : Netlist) (u v : ℕ) (x : List Bool) → length x ≡ c.inputs → u < value_count c → v < value_count c →
    value_at (plain_values (with_gates c (product_gates (value_count c) u v)) x) (value_count c + 1)
    ≡ (value_at (plain_values c x) u && value_at (plain_values c x) v)
value_at-with_product c u v x long u_below v_below =
    let n = value_count c in
    let gs = product_gates n u v in
    product-solved (plain_values (with_gates c gs) x) n u v (Solves-with_gates c gs x long (AreGates-product n u v u_below v_below))
    ∙ ap₂ ◌&&◌ (value_at-with_gates c gs x u long u_below) (value_at-with_gates c gs x v long v_below)
