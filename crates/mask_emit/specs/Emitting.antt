-- The circuits that have names: what each is, how large, and what it computes; and what `emit` writes of it.
use Rattle.std.specs.Prelude.{◌≡◌, Bool, List, ℕ}
use Rattle.std.specs.declared.option.Option.{Option}
use Rattle.mask_circuit.specs.Netlist.{Netlist}
use Rattle.mask_circuit.specs.Text.{canonical}
use Rattle.mask_parts.specs.CipherCircuits.{Size, IsCipherCircuit}
use Rattle.mask_tasks.specs.declared.names.Named.{Named}
use Rattle.mask_tasks.specs.declared.names.Named.TheVariants.{Present80, Present128, Lea128, Lea192, Lea256, Refresh80, Refresh128, Refresh192, Refresh256, TriviumStart, TriviumStep, LightmacStep80, LightmacEnd80, LightmacStep128, LightmacEnd128, ChaskeyStart, ChaskeyStep, ChaskeyEndWhole, ChaskeyEndShort}
use Rattle.mask_tasks.specs.declared.sizes.KeySize.TheVariants.{K80, K128}
use Rattle.mask_tasks.specs.declared.sizes.LeaSize.TheVariants as lea
use Rattle.mask_present.specs.NamedPresent.{named_present, size_present, present_of_bits}
use Rattle.mask_lea.specs.NamedLea.{named_lea, size_lea, lea_of_bits}
use Rattle.mask_lightmac.specs.NamedLightMac as lightmac
use Rattle.mask_trivium.specs.NamedTrivium as trivium
use Rattle.mask_chaskey.specs.NamedChaskey as chaskey
use Rattle.mask_chaskey.specs.declared.doubling.End.TheVariants.{Whole, Short}
use Rattle.mask_refresh.specs.Refreshing.{refreshing, refreshing_size, same_bits}
use Rattle.mask_status.specs.declared.status.Status.{Status}
use Rattle.mask_status.specs.declared.status.Status.TheVariants.{NoMemory}
use Rattle.mask_status.specs.Ends.{Writes}

-- the circuit of a name
abbrev pub named : Named → Netlist
named Present80 = named_present K80
named Present128 = named_present K128
named Lea128 = named_lea lea.K128
named Lea192 = named_lea lea.K192
named Lea256 = named_lea lea.K256
named Refresh80 = refreshing 80
named Refresh128 = refreshing 128
named Refresh192 = refreshing 192
named Refresh256 = refreshing 256
named TriviumStart = trivium.named_start
named TriviumStep = trivium.named_step
named LightmacStep80 = lightmac.named_step K80
named LightmacEnd80 = lightmac.named_end K80
named LightmacStep128 = lightmac.named_step K128
named LightmacEnd128 = lightmac.named_end K128
named ChaskeyStart = refreshing 128
named ChaskeyStep = chaskey.named_step
named ChaskeyEndWhole = chaskey.named_end Whole
named ChaskeyEndShort = chaskey.named_end Short

-- how large it is
abbrev pub sizes : Named → Size
sizes Present80 = size_present K80
sizes Present128 = size_present K128
sizes Lea128 = size_lea lea.K128
sizes Lea192 = size_lea lea.K192
sizes Lea256 = size_lea lea.K256
sizes Refresh80 = refreshing_size 80
sizes Refresh128 = refreshing_size 128
sizes Refresh192 = refreshing_size 192
sizes Refresh256 = refreshing_size 256
sizes TriviumStart = trivium.size_start
sizes TriviumStep = trivium.size_step
sizes LightmacStep80 = lightmac.size_step K80
sizes LightmacEnd80 = lightmac.size_end K80
sizes LightmacStep128 = lightmac.size_step K128
sizes LightmacEnd128 = lightmac.size_end K128
sizes ChaskeyStart = refreshing_size 128
sizes ChaskeyStep = chaskey.size_step
sizes ChaskeyEndWhole = chaskey.size_end Whole
sizes ChaskeyEndShort = chaskey.size_end Short

-- what it computes of its input bits: PRESENT or LEA of the counter block under the key, xored with the message block; or the key;
-- or the state of Trivium, LightMAC or Chaskey after the clocks or the block, with the encrypted message behind it in a step of Trivium
abbrev pub computed : Named → List Bool → List Bool
computed Present80 = present_of_bits K80
computed Present128 = present_of_bits K128
computed Lea128 = lea_of_bits lea.K128
computed Lea192 = lea_of_bits lea.K192
computed Lea256 = lea_of_bits lea.K256
computed Refresh80 = same_bits
computed Refresh128 = same_bits
computed Refresh192 = same_bits
computed Refresh256 = same_bits
computed TriviumStart = trivium.start_of_bits
computed TriviumStep = trivium.step_of_bits
computed LightmacStep80 = lightmac.step_of_bits K80
computed LightmacEnd80 = lightmac.end_of_bits K80
computed LightmacStep128 = lightmac.step_of_bits K128
computed LightmacEnd128 = lightmac.end_of_bits K128
computed ChaskeyStart = same_bits
computed ChaskeyStep = chaskey.step_of_bits
computed ChaskeyEndWhole = chaskey.end_of_bits Whole
computed ChaskeyEndShort = chaskey.end_of_bits Short

-- Each named circuit is strong, of its size, and computes what its name says.
abbrev pub NamedCircuits : Type 0
NamedCircuits = (name : Named) → IsCipherCircuit (named name) (sizes name) (computed name) (named name)

-- The text of the circuit was written, whole with Done and a proper prefix of it with a fault of writing; or there was no
-- memory for the circuit, and nothing was written.
abbrev pub Emits : Netlist → Option (List ℕ) → Option (List ℕ) → Status → Type 0
Emits c before now NoMemory = now ≡ before
Emits c before now status = Writes (canonical c) before now status
