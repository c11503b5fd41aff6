-- How many values a check of a named circuit visits at most, by its numbers of values and products.
use Rattle.std.proofs.Common.{◌≡◌, ◌+◌, ◌*◌, ◌/◌, refl, ap, ap₂}
use Rattle.mask_circuit.specs.Netlist.{product_count, value_count}
use Rattle.mask_check.specs.Costs.{most_steps}
use Rattle.mask_parts.specs.CipherCircuits.{Size, size_of}
use Rattle.mask_tasks.specs.declared.names.Named.TheVariants.{Lea128}
use Rattle.mask_emit.specs.Emitting.{named}
use Rattle.mask_emit.proofs.Naming.{named-circuits}

check_of_lea_128 : most_steps (named Lea128) ≡ 3_015_390
unfolding size_of
check_of_lea_128 =
    let values : value_count (named Lea128) ≡ 36_330 = ap (λ (s : Size). s.values) (named-circuits Lea128).sized in
    let products : product_count (named Lea128) ≡ 5_208 = ap (λ (s : Size). s.products) (named-circuits Lea128).sized in
    ap₂ (λ v p. v * (1 + (p + 63) / 64)) values products
