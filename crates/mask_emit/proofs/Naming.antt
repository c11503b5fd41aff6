-- The named circuits are strong and compute what their names say.
use Rattle.std.proofs.Common.{◌≡◌, ℕ, ◌+◌, ◌≤◌, length, refl, ap, arith}
use Rattle.mask_circuit.specs.Netlist.{IsCircuit, value_count}
use Rattle.mask_parts.specs.CipherCircuits.{Size, size_of, IsCipherCircuit}
use Rattle.mask_tasks.specs.declared.names.Named.TheVariants.{Present80, Present128, Lea128, Lea192, Lea256, Refresh80, Refresh128, Refresh192, Refresh256, TriviumStart, TriviumStep, LightmacStep80, LightmacEnd80, LightmacStep128, LightmacEnd128, ChaskeyStart, ChaskeyStep, ChaskeyEndWhole, ChaskeyEndShort}
use Rattle.mask_tasks.specs.declared.sizes.KeySize.TheVariants.{K80, K128}
use Rattle.mask_tasks.specs.declared.sizes.LeaSize.TheVariants as lea
use Rattle.mask_present.proofs.Forming.{IsCipherCircuit-named_present}
use Rattle.mask_lea.proofs.Concluding.{IsCipherCircuit-named_lea}
use Rattle.mask_lightmac.proofs.Concluding as lightmac
use Rattle.mask_trivium.proofs.Concluding as trivium
use Rattle.mask_chaskey.proofs.Concluding as chaskey
use Rattle.mask_chaskey.specs.declared.doubling.End.TheVariants.{Whole, Short}
use Rattle.mask_refresh.specs.Refreshing.{refreshing, refreshing_size, same_bits}
use Rattle.mask_refresh.proofs.Making.{IsWellFormed-refreshing, size-refreshing, IsCipherCircuit-refreshing}
use Rattle.mask_emit.specs.Emitting.{NamedCircuits}

IsCircuit-refreshing : (n : ℕ) → n ≤ 500_000 → IsCircuit (refreshing n)
unfolding size_of
IsCircuit-refreshing n few =
    let values : value_count (refreshing n) ≡ n + n = ap (λ (s : Size). s.values) (size-refreshing n) in
    let outputs : length (refreshing n).outputs ≡ n = ap (λ (s : Size). s.outputs) (size-refreshing n) in
    record { formed = IsWellFormed-refreshing n; few_values = omega arith; few_outputs = omega arith }

IsCipherCircuit-refresh : (n : ℕ) → n ≤ 500_000 → IsCipherCircuit (refreshing n) (refreshing_size n) same_bits (refreshing n)
IsCipherCircuit-refresh n few = IsCipherCircuit-refreshing n (refreshing n) refl (IsCircuit-refreshing n few)

pub named-circuits : NamedCircuits
named-circuits Present80 = IsCipherCircuit-named_present K80
named-circuits Present128 = IsCipherCircuit-named_present K128
named-circuits Refresh80 = IsCipherCircuit-refresh 80 (omega arith)
named-circuits Refresh128 = IsCipherCircuit-refresh 128 (omega arith)
named-circuits Refresh192 = IsCipherCircuit-refresh 192 (omega arith)
named-circuits Refresh256 = IsCipherCircuit-refresh 256 (omega arith)
named-circuits Lea128 = IsCipherCircuit-named_lea lea.K128
named-circuits Lea192 = IsCipherCircuit-named_lea lea.K192
named-circuits Lea256 = IsCipherCircuit-named_lea lea.K256
named-circuits TriviumStart = trivium.IsCipherCircuit-named_start
named-circuits TriviumStep = trivium.IsCipherCircuit-named_step
named-circuits LightmacStep80 = lightmac.IsCipherCircuit-named_step K80
named-circuits LightmacEnd80 = lightmac.IsCipherCircuit-named_end K80
named-circuits LightmacStep128 = lightmac.IsCipherCircuit-named_step K128
named-circuits LightmacEnd128 = lightmac.IsCipherCircuit-named_end K128
named-circuits ChaskeyStart = IsCipherCircuit-refresh 128 (omega arith)
named-circuits ChaskeyStep = chaskey.IsCipherCircuit-named_step
named-circuits ChaskeyEndWhole = chaskey.IsCipherCircuit-named_end Whole
named-circuits ChaskeyEndShort = chaskey.IsCipherCircuit-named_end Short
