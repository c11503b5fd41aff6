-- What the crates above know of a cipher's circuit.
use Rattle.std.specs.Prelude.{◌≡◌, ℕ, suc, ◌*◌, ◌/◌, ◌≤◌, Bool, List, length}
use Rattle.mask_circuit.specs.Netlist.{Netlist, IsCircuit, value_count, product_count, refresh_count}
use Rattle.mask_circuit.specs.Value.{plain}
use Rattle.mask_circuit.specs.Acceptance.{IsStrong}
use Rattle.mask_circuit.specs.Probing.{IsSNI}

-- how large a circuit is
pub record Size : Type 0 where
  pub inputs : ℕ
  pub outputs : ℕ
  pub products : ℕ
  pub refreshes : ℕ
  pub values : ℕ

unfoldable pub size_of : Netlist → Size
size_of c = record {
  inputs = c.inputs;
  outputs = length c.outputs;
  products = product_count c;
  refreshes = refresh_count c;
  values = value_count c;
}

-- the bits that a product or a refresh draws at order d: one for each pair of shares
abbrev pub gate_bits : ℕ → ℕ
gate_bits d = d * suc d / 2

-- The circuit c is exactly the named one and is of that size; it's strong, and by that strongly non-interfering for every
-- number of shares; and on all input bits its plain outputs are f of them. What f is comes from the cipher's standard alone.
pub record IsCipherCircuit (named : Netlist) (size : Size) (f : List Bool → List Bool) (c : Netlist) : Type 0 where
  pub same : c ≡ named
  pub circuit : IsCircuit c
  pub sized : size_of c ≡ size
  pub strong : IsStrong c
  pub sni : (N : ℕ) → 2 ≤ N → IsSNI c N
  pub computes : (x : List Bool) → length x ≡ c.inputs → plain c x ≡ f x
