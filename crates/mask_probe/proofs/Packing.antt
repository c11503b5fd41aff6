-- Bits as a number: bit by bit, and read back.
use Rattle.std.proofs.Common.{◌≡◌, ℕ, ◌+◌, ◌^◌, ◌<◌, Bool, false, cond, refl, ◌∙◌, add-one}
use Rattle.std.proofs.lemmas.Option.{get_or_from_slice_get}
use Rattle.mask_circuit.specs.Wires.{each}
use Rattle.mask_circuit.proofs.Places.{length-each, slice_get-each}
use Rattle.mask_bits.specs.Reading.{number}
use Rattle.mask_sni.specs.Asked.{bit_shares}
use Rattle.mask_bits.proofs.Numbers.{bit-number, number-last}

-- one bit more
pub number_more : (f : ℕ → Bool) (i packed new : ℕ) (b : Bool) → packed ≡ number (each f i) → b ≡ f i → new ≡ packed + cond b (2 ^ i) 0 →
    new ≡ number (each f (i + 1))
number_more f i packed new b so_far bit made =
    made ∙ rw (so_far, bit, add-one i, number-last (each f i) (f i), length-each f i) refl

-- each of the bits
pub number_bit : (f : ℕ → Bool) (n i packed k : ℕ) → packed ≡ number (each f i) → i ≡ n → k < n → bit_shares packed k ≡ f k
number_bit f n i packed k made all lt =
    rw (made, all) (bit-number (each f n) k ∙ get_or_from_slice_get (each f n) k (f k) false (slice_get-each f n k lt))
