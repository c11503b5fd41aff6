-- The two tables of a clock: which values they let be taken, how many gates they have, and what they compute.
use Rattle.std.proofs.Common.{◌≡◌, ℕ, Bool, true, List, [], ◌∷◌, map, refl}
use Rattle.mask_circuit.specs.Value.{value_at}
use Rattle.mask_parts.specs.Tables.{part_gates, part_usable, is_part, part_bits}
use Rattle.mask_parts.proofs.Counting.{Counts}
use Rattle.mask_parts.proofs.PartTidiness.{are_usable}
use Rattle.mask_trivium.specs.Clocks.{Clock, setup, stream, setup_steps, stream_steps}
use Rattle.mask_trivium.specs.Trivium.{output, next_first, next_second, next_third}

-- The table has v gates and computes a clock. On a state, the bits that it outputs are those that out gives.
pub record IsClock (k : Clock) (v : ℕ) (out : List Bool → List Bool) : Type 0 where
  pub part : is_part 288 k.steps ≡ true
  pub counts : (n : ℕ) (xs : List ℕ) → Counts (part_gates n xs k.steps) v 3
  pub first_free : value_at (part_usable k.steps) k.first ≡ true
  pub second_free : value_at (part_usable k.steps) k.second ≡ true
  pub third_free : value_at (part_usable k.steps) k.third ≡ true
  pub output_free : are_usable (part_usable k.steps) k.output ≡ true
  pub first_made : (bits : List Bool) → value_at (part_bits bits k.steps) k.first ≡ next_first bits
  pub second_made : (bits : List Bool) → value_at (part_bits bits k.steps) k.second ≡ next_second bits
  pub third_made : (bits : List Bool) → value_at (part_bits bits k.steps) k.third ≡ next_third bits
  pub output_made : (bits : List Bool) → map (value_at (part_bits bits k.steps)) k.output ≡ out bits

pub IsClock-setup : IsClock setup 15 (λ bits. [])
unfolding setup_steps
IsClock-setup = record {
  part = refl;
  counts = λ n xs. record { gates = refl; products = refl; refreshes = refl };
  first_free = refl;
  second_free = refl;
  third_free = refl;
  output_free = refl;
  first_made = λ bits. refl;
  second_made = λ bits. refl;
  third_made = λ bits. refl;
  output_made = λ bits. refl;
}

pub IsClock-stream : IsClock stream 17 (λ bits. output bits ∷ [])
unfolding stream_steps
IsClock-stream = record {
  part = refl;
  counts = λ n xs. record { gates = refl; products = refl; refreshes = refl };
  first_free = refl;
  second_free = refl;
  third_free = refl;
  output_free = refl;
  first_made = λ bits. refl;
  second_made = λ bits. refl;
  third_made = λ bits. refl;
  output_made = λ bits. refl;
}
