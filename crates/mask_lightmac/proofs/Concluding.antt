-- The circuits of a step and of the end meet the contract of a cipher's circuit, and their outputs are the numbers of the code.
use Rattle.std.proofs.Common.{◌≡◌, ◌+◌, Bool, List, length, take, drop, refl, sym, ap, ◌∙◌, lit≤}
use Rattle.std.proofs.lemmas.List.FromFn.{length-range_with_len}
use Rattle.mask_bits.specs.Reading.{number}
use Rattle.mask_circuit.specs.Netlist.{value_count}
use Rattle.mask_tasks.specs.declared.sizes.KeySize.{KeySize}
use Rattle.mask_tasks.specs.declared.sizes.KeySize.TheVariants.{K80, K128}
use Rattle.mask_parts.specs.CipherCircuits.{size_of, IsCipherCircuit}
use Rattle.mask_parts.specs.Drafts.{IsWithinLimits}
use Rattle.mask_parts.proofs.Concluding.{IsCipherCircuit-done, bits_of-lowest}
use Rattle.mask_parts.proofs.Counting.{IsWithinLimits-sized}
use Rattle.mask_present.specs.NamedPresent.{start, encrypted_message, present_of_bits}
use Rattle.mask_present.specs.Present.{register, present}
use Rattle.mask_present.specs.Rounds.{rounds}
use Rattle.mask_present.proofs.Concluding.{sums, bits_of_sums}
use Rattle.mask_present.proofs.Counting.{values_80, values_128, products_80, products_128}
use Rattle.mask_present.proofs.Fitting.{IsShape-register}
use Rattle.mask_present.proofs.Forming.{Formed-message, IsCipherCircuit-named_present}
use Rattle.mask_lightmac.specs.LightMac.{absorbed, finished}
use Rattle.mask_lightmac.specs.NamedLightMac.{end_of, named_step, size_step, step_of_bits, named_end, size_end, end_of_bits}
use Rattle.mask_lightmac.proofs.Ending.{end, inputs-end, done, size-end_of, bits-end, number-end_of}

-- A STEP

pub IsCipherCircuit-named_step : (size : KeySize) → IsCipherCircuit (named_step size) (size_step size) (step_of_bits size) (named_step size)
unfolding step_of_bits absorbed present_of_bits
IsCipherCircuit-named_step size = IsCipherCircuit-named_present size

-- the number of the outputs is V after that block
pub number-step_of_bits : (size : KeySize) (x : List Bool) → length x ≡ (register size).width + 128
    → number (step_of_bits size x)
    ≡ absorbed size (number (take (register size).width x)) (number (take 64 (drop ((register size).width + 64) x))) (number (take 64 (drop (register size).width x)))
unfolding step_of_bits absorbed present
number-step_of_bits size x long =
    let r = register size in
    let shape = IsShape-register size in
    let is = bits_of_sums r shape x long (Formed-message r shape) in
    ap number (sym (bits_of-lowest (encrypted_message r) x (sums r shape) 64 _ (length-range_with_len (value_count (rounds r (start r)).draft) 64) is)) ∙ is

-- THE END

size-named_end : (size : KeySize) → size_of (named_end size) ≡ size_end size
unfolding named_end
size-named_end K80 = size-end_of (register K80) (IsShape-register K80) ∙ rw (values_80, products_80) refl
size-named_end K128 = size-end_of (register K128) (IsShape-register K128) ∙ rw (values_128, products_128) refl

pub IsWithinLimits-named_end : (size : KeySize) → IsWithinLimits (named_end size)
IsWithinLimits-named_end K80 = IsWithinLimits-sized (named_end K80) (size_end K80) (size-named_end K80) (lit≤ tt) (lit≤ tt)
IsWithinLimits-named_end K128 = IsWithinLimits-sized (named_end K128) (size_end K128) (size-named_end K128) (lit≤ tt) (lit≤ tt)

pub IsCipherCircuit-named_end : (size : KeySize) → IsCipherCircuit (named_end size) (size_end size) (end_of_bits size) (named_end size)
unfolding named_end end_of end_of_bits finished present
IsCipherCircuit-named_end size =
    let r = register size in
    let shape = IsShape-register size in
    let s = end r shape in
    IsCipherCircuit-done s.draft s.block (done r shape) (size_end size) (end_of_bits size) (size-named_end size) (IsWithinLimits-named_end size)
    (λ x long. bits-end r shape x (long ∙ inputs-end r shape))

-- the number of the outputs is the encryption whose first bytes are the tag
pub number-end_of_bits : (size : KeySize) (x : List Bool) → length x ≡ (register size).width + 128
    → number (end_of_bits size x)
    ≡ finished size (number (take (register size).width x)) (number (take 64 (drop (register size).width x))) (number (take 64 (drop ((register size).width + 64) x)))
unfolding end_of_bits finished present
number-end_of_bits size x long = number-end_of (register size) (IsShape-register size) x long
