-- How many steps a session adds.
use Rattle.std.proofs.Common.{◌≡◌, ℕ, ◌+◌, List, [], ◌∷◌, length, ap, arith}
use Rattle.mask_circuit.specs.Netlist.{value_count}
use Rattle.mask_tasks.specs.declared.sizes.KeySize.TheVariants.{K80}
use Rattle.mask_parts.specs.CipherCircuits.{Size, size_of}
use Rattle.mask_present.specs.NamedPresent.{named_present}
use Rattle.mask_present.proofs.Counting.{size-named_present}
use Rattle.mask_refresh.specs.Refreshing.{refreshing}
use Rattle.mask_refresh.proofs.Making.{size-refreshing}
use Rattle.mask_modes.specs.CounterMode.{block_count}
use Rattle.mask_ciphers.specs.Methods.{batch_gates}
use Rattle.mask_ciphers.specs.Tasks.{present_mode}

gates_of_block : length (named_present K80).gates ≡ 15_958
unfolding size_of
gates_of_block =
    let values : value_count (named_present K80) ≡ 16_166 = ap (λ (s : Size). s.values) (size-named_present K80) in
    let inputs : (named_present K80).inputs ≡ 208 = ap (λ (s : Size). s.inputs) (size-named_present K80) in
    omega (arith, values, inputs)

gates_of_refresh : length (refreshing 80).gates ≡ 80
unfolding size_of
gates_of_refresh =
    let values : value_count (refreshing 80) ≡ 160 = ap (λ (s : Size). s.values) (size-refreshing 80) in
    let inputs : (refreshing 80).inputs ≡ 80 = ap (λ (s : Size). s.inputs) (size-refreshing 80) in
    omega (arith, values, inputs)

-- 520 bytes: 64 blocks at once, and then one more with a refresh of the key ahead of it
steps_of_520_bytes : (iv : ℕ) (first last : List ℕ) → length first ≡ 512 → length last ≡ 8 →
    batch_gates (present_mode K80 iv) (block_count 8 0) first + batch_gates (present_mode K80 iv) (block_count 8 512) last ≡ 31_996
steps_of_520_bytes iv [] last long short = absurd (omega (arith, long))
steps_of_520_bytes iv (x ∷ first) [] long short = absurd (omega (arith, short))
steps_of_520_bytes iv (x ∷ first) (y ∷ last) long short = omega (arith, gates_of_block, gates_of_refresh)
