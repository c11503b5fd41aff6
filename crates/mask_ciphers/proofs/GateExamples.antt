-- How many gates runs of present-80 evaluate.
use Rattle.std.proofs.Common.{◌≡◌, ℕ, length, ap, arith}
use Rattle.mask_circuit.specs.Netlist.{value_count}
use Rattle.mask_tasks.specs.declared.sizes.KeySize.TheVariants.{K80}
use Rattle.mask_tasks.specs.declared.tasks.Task.TheVariants.{Present}
use Rattle.mask_parts.specs.CipherCircuits.{Size, size_of}
use Rattle.mask_present.specs.NamedPresent.{named_present}
use Rattle.mask_present.proofs.Counting.{size-named_present}
use Rattle.mask_refresh.specs.Refreshing.{refreshing}
use Rattle.mask_refresh.proofs.Making.{size-refreshing}
use Rattle.mask_ciphers.specs.Methods.{run_gates}
use Rattle.mask_ciphers.specs.Tasks.{method_of}

gates_of_block : length (named_present K80).gates ≡ 15_958
unfolding size_of
gates_of_block =
    let values : value_count (named_present K80) ≡ 16_166 = ap (λ (s : Size). s.values) (size-named_present K80) in
    let inputs : (named_present K80).inputs ≡ 208 = ap (λ (s : Size). s.inputs) (size-named_present K80) in
    omega (arith, values, inputs)

gates_of_refresh : length (refreshing 80).gates ≡ 80
unfolding size_of
gates_of_refresh =
    let values : value_count (refreshing 80) ≡ 160 = ap (λ (s : Size). s.values) (size-refreshing 80) in
    let inputs : (refreshing 80).inputs ≡ 80 = ap (λ (s : Size). s.inputs) (size-refreshing 80) in
    omega (arith, values, inputs)

no_bytes : (iv : ℕ) → run_gates (method_of (Present K80 iv)) 0 ≡ 0
unfolding run_gates
no_bytes iv = omega arith

-- one block, and 64 of them: one evaluation
one_byte : (iv : ℕ) → run_gates (method_of (Present K80 iv)) 1 ≡ 15_958
unfolding run_gates
one_byte iv = omega (arith, gates_of_block)

a_batch : (iv : ℕ) → run_gates (method_of (Present K80 iv)) 512 ≡ 15_958
unfolding run_gates
a_batch iv = omega (arith, gates_of_block)

-- two batches, and a refresh of the key between them: 2 * 15,958 + 80
two_batches : (iv : ℕ) → run_gates (method_of (Present K80 iv)) 520 ≡ 31_996
unfolding run_gates
two_batches iv = omega (arith, gates_of_block, gates_of_refresh)
