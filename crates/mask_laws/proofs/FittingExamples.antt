-- Which probes fit, at worked examples.
use Rattle.std.proofs.Common.{[], ◌∷◌, arith}
use Rattle.mask_circuit.specs.declared.gates.Gate.TheVariants.{And, Ref}
use Rattle.mask_circuit.specs.Netlist.{Netlist}
use Rattle.mask_circuit.specs.declared.gates.Wire.TheVariants.{Share, Product}
use Rattle.mask_laws.specs.Circuits.{Fits}

-- A product whose second operand is refreshed: on two shares a probe on a_0 · b_1 fits, which demands share 1 of the refresh.
refreshed_product : Netlist
refreshed_product = record { inputs = 2; gates = Ref 1 ∷ And 0 2 ∷ []; outputs = 3 ∷ [] }

one_probe_fits : Fits refreshed_product 2 ((3, Product 0 1) ∷ [])
unfolding refreshed_product
one_probe_fits = (omega arith, (omega arith, tt))

-- With output share 0 of the refresh probed as well, all of its shares would be watched. On three shares both probes fit.
two_probes_of_two : Fits refreshed_product 2 ((3, Product 0 1) ∷ (2, Share 0) ∷ []) → ⊥
unfolding refreshed_product
two_probes_of_two fits = let both = fits.0 in omega arith

two_probes_of_three : Fits refreshed_product 3 ((3, Product 0 1) ∷ (2, Share 0) ∷ [])
unfolding refreshed_product
two_probes_of_three = (omega arith, (omega arith, tt))
