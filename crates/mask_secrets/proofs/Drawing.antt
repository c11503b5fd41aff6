-- A tape that keeps nothing gives just the bits of the shares.
use Rattle.std.proofs.Common.{◌≡◌, ℕ, ◌*◌, ◌≤◌, Bool, List, [], length, take, drop, ap, subst, ◌∙◌, arith}
use Rattle.std.proofs.Math.Nat.{mul_assoc}
use Rattle.std.proofs.lemmas.List.{take_all}
use Rattle.mask_bits.specs.Lanes.{lane}
use Rattle.mask_bits.specs.Reading.{low, bytes_for}
use Rattle.mask_bits.proofs.Bytes.{length-low}
use Rattle.mask_tape.specs.Tape.{IsDrawn, new_bytes}
use Rattle.mask_keys.specs.Files.{key_file}
use Rattle.mask_keys.specs.Splitting.{split_lines, split_bits}
use Rattle.mask_status.specs.declared.status.Status.{Status}
use Rattle.mask_status.specs.Ends.{Writes}
use Rattle.mask_secrets.specs.Splitting.{Sides, WritesLines}

-- the bytes that n bits need of a tape that keeps none
pub needs-all : (n : ℕ) → new_bytes [] n ≡ bytes_for n
needs-all n = ap bytes_for (omega arith)

-- whole bytes are needed
whole : (d : ℕ) (key : List ℕ) → 8 * bytes_for (split_bits d key) ≡ split_bits d key
whole d key =
    let e : split_bits d key ≡ 8 * (d * length key) = mul_assoc 8 d (length key) in
    omega (arith, e)

module _ (d : ℕ) (key words : List ℕ) (kept : List Bool) (o : Sides) (drawn : IsDrawn [] kept o.tape_before o.tape_after 1 (split_bits d key) words) where
  count : length drawn.fresh ≡ bytes_for (split_bits d key)
  count =
      let one : 1 * split_bits d key ≡ split_bits d key = omega arith in
      drawn.needed ∙ ap (new_bytes []) one ∙ needs-all (split_bits d key)

  -- the bits of lane 0 are those of the bytes that were drawn
  coins : lane 0 words ≡ low drawn.fresh
  coins =
      let first : 0 * split_bits d key ≡ 0 = omega arith in
      let long : length (low drawn.fresh) ≤ split_bits d key = omega (arith, length-low drawn.fresh, count, whole d key) in
      drawn.spread.used 0 (omega arith) ∙ ap (λ (k : ℕ). take (split_bits d key) (drop k (low drawn.fresh))) first ∙ take_all (split_bits d key) (low drawn.fresh) long

  -- what was written of these bits
  pub drawn-written : (status : Status) → Writes (key_file (split_lines d key (lane 0 words))) o.out_before o.out_after status → WritesLines d key o status
  drawn-written status sent = record {
    fresh = drawn.fresh;
    count = count;
    drawn = drawn.taken;
    written = subst (λ (bits : List Bool). Writes (key_file (split_lines d key bits)) o.out_before o.out_after status) coins sent;
  }
