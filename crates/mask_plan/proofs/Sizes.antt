-- How many inputs and outputs circuits of a size have.
use Rattle.std.proofs.Common.{◌≡◌, ℕ, ◌+◌, ◌*◌, length, ap}
use Rattle.mask_circuit.specs.Netlist.{Netlist}
use Rattle.mask_tasks.specs.declared.sizes.KeySize.{KeySize}
use Rattle.mask_tasks.specs.declared.sizes.KeySize.TheVariants.{K80, K128}
use Rattle.mask_tasks.specs.declared.sizes.LeaSize.{LeaSize}
use Rattle.mask_tasks.specs.declared.sizes.LeaSize.TheVariants as lea
use Rattle.mask_tasks.specs.Sizes.{present_bytes, lea_bytes}
use Rattle.mask_parts.specs.CipherCircuits.{Size, size_of}
use Rattle.mask_present.specs.NamedPresent.{size_present}
use Rattle.mask_lea.specs.NamedLea.{size_lea}
use Rattle.mask_refresh.specs.Refreshing.{refreshing_size}

pub inputs_are : (c : Netlist) (size : Size) → size_of c ≡ size → c.inputs ≡ size.inputs
unfolding size_of
inputs_are c size is = ap (λ (s : Size). s.inputs) is

pub outputs_are : (c : Netlist) (size : Size) → size_of c ≡ size → length c.outputs ≡ size.outputs
unfolding size_of
outputs_are c size is = ap (λ (s : Size). s.outputs) is

-- the inputs of a cipher's circuit are the bits of the key and of two blocks
pub present_takes : (size : KeySize) (c : Netlist) → size_of c ≡ size_present size → c.inputs ≡ 8 * present_bytes size + 128
present_takes K80 c is = inputs_are c (size_present K80) is
present_takes K128 c is = inputs_are c (size_present K128) is

pub lea_takes : (size : LeaSize) (c : Netlist) → size_of c ≡ size_lea size → c.inputs ≡ 8 * lea_bytes size + 256
lea_takes lea.K128 c is = inputs_are c (size_lea lea.K128) is
lea_takes lea.K192 c is = inputs_are c (size_lea lea.K192) is
lea_takes lea.K256 c is = inputs_are c (size_lea lea.K256) is

-- its outputs are those of a block
pub present_gives : (size : KeySize) (c : Netlist) → size_of c ≡ size_present size → length c.outputs ≡ 64
present_gives K80 c is = outputs_are c (size_present K80) is
present_gives K128 c is = outputs_are c (size_present K128) is

pub lea_gives : (size : LeaSize) (c : Netlist) → size_of c ≡ size_lea size → length c.outputs ≡ 128
lea_gives lea.K128 c is = outputs_are c (size_lea lea.K128) is
lea_gives lea.K192 c is = outputs_are c (size_lea lea.K192) is
lea_gives lea.K256 c is = outputs_are c (size_lea lea.K256) is
