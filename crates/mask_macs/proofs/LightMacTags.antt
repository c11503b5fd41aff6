-- The tag of LightMAC: what the last piece makes of V, and where its bits stand.
use Rattle.std.proofs.Common.{◌≡◌, ℕ, zero, suc, ◌+◌, ◌-◌, ◌*◌, ◌/◌, ◌%◌, ◌^◌, ◌<◌, ◌≤◌, Bool, true, false, List, [], ◌∷◌, ◌++◌, length, take, drop, get_or, refl, ap, ap₂, sym, ◌∙◌, arith}
use Rattle.std.proofs.lemmas.List.{append-nil, length-take-le}
use Rattle.std.proofs.lemmas.List.Elements.{All-append, All-cons, All-nil, All-take}
use Rattle.mask_bits.specs.Reading.{AreBytes, bit, lowest, number}
use Rattle.mask_bits.proofs.Numbers.{bit-number, get_or-lowest}
use Rattle.mask_tasks.specs.declared.sizes.KeySize.{KeySize}
use Rattle.mask_tasks.specs.Sizes.{present_bytes}
use Rattle.mask_lightmac.specs.LightMac.{bytes_of, finished, lightmac, number_of, padded, value_after as value_of_code, value_before_last}
use Rattle.mask_lightmac.proofs.Tags.{bit-tag, length-bytes_of}
use Rattle.mask_trace.specs.Values.{value_after}
use Rattle.mask_macs.specs.Codes.{IsCounterLength, lightmac_code}
use Rattle.mask_macs.specs.Laws.{OutputFits, OutputGoesOn, OutputsAreBits}
use Rattle.mask_macs.specs.LightMacRuns.{fed_steps, key_width, next_steps, value_at, with_key}
use Rattle.mask_macs.proofs.LightMacPlans.{last_piece-last, pieces_before-last}
use Rattle.mask_macs.proofs.LightMacValues.{last_value, pieces_go_on, second_half, value-front, value_behind}
use Rattle.mask_macs.proofs.Messages.{fed_is_held}
use Rattle.mask_macs.proofs.Pieces.{IsLast}

-- BYTES

bytes_of_are_bytes : (n a : ℕ) → AreBytes (bytes_of n a)
unfolding bytes_of
bytes_of_are_bytes zero a = All-nil (λ byte. byte < 2 ^ 8)
bytes_of_are_bytes (suc n) a =
    let byte : ℕ → Type 0 = λ b. b < 2 ^ 8 in
    All-append byte (bytes_of n (a / 256)) (a % 256 ∷ []) (bytes_of_are_bytes n (a / 256))
    (All-cons byte (a % 256) [] (omega arith) (All-nil byte))

-- the first bytes of eight
first_are_long : (tag a : ℕ) → tag ≤ 8 → length (take tag (bytes_of 8 a)) ≡ tag
first_are_long tag a few = length-take-le tag (bytes_of 8 a) (omega (arith, length-bytes_of 8 a))

first_are_bytes : (tag a : ℕ) → AreBytes (take tag (bytes_of 8 a))
first_are_bytes tag a = All-take (λ byte. byte < 2 ^ 8) tag (bytes_of 8 a) (bytes_of_are_bytes 8 a)

-- THE LAWS

pub output_fits : (size : KeySize) (s tag : ℕ) → tag ≤ 8 → OutputFits (lightmac_code size s tag)
unfolding lightmac
output_fits size s tag few = record {
  as_long = λ key message. first_are_long tag _ few;
  are_bytes = λ key message. first_are_bytes tag _;
  piece_as_long = λ held n piece. first_are_long tag _ few;
  piece_of_bytes = λ held n piece. first_are_bytes tag _;
  none_before = λ held n piece. refl;
}

module _ (size : KeySize) (s tag : ℕ) (is : IsCounterLength s) where
  value_before-last : (k1 : ℕ) (front piece : List ℕ) → IsLast (8 - s) front piece →
      value_before_last size s k1 (front ++ piece) ≡ value_of_code size s k1 front (length front / (8 - s))
  unfolding value_before_last
  value_before-last k1 front piece last =
      ap (value_of_code size s k1 (front ++ piece)) (pieces_before-last size s is front piece last)
      ∙ value-front size s tag is k1 front piece (length front / (8 - s)) (omega arith)

  pub output_goes_on : OutputGoesOn (lightmac_code size s tag)
  unfolding lightmac
  output_goes_on key front piece long whole next =
      let last : IsLast (8 - s) front piece = record { whole = whole; few = next.0; some = next.1 } in
      let k1 = number_of (take (present_bytes size) key) in
      let k2 = number_of (drop (present_bytes size) key) in
      let held = value_after (with_key size key) (fed_steps size s front) in
      let same_key = (fed_is_held (lightmac_code size s tag) (pieces_go_on size s tag is) key long front whole).1 in
      ap₂ (λ (v : ℕ) (bytes : List ℕ). take tag (bytes_of 8 (finished size k2 v (number_of (padded bytes)))))
      (value_before-last k1 front piece last ∙ sym (value_behind size s tag is key long front whole))
      (last_piece-last size s is front piece last)
      ∙ ap (λ (bits : List Bool). take tag (bytes_of 8 (finished size (number bits) (value_at held (length front)) (number_of (padded piece)))))
      (sym (ap (drop (key_width size)) same_key ∙ second_half size s tag is key long))

  pub outputs_are_bits : tag ≤ 8 → OutputsAreBits (lightmac_code size s tag)
  outputs_are_bits few held n piece k p holds next lt small =
      let state = (value_after held (next_steps size s n piece true)).state in
      let place = 8 * (7 - k) + p in
      let a = number state in
      sym (bit-number state place)
      ∙ sym (get_or-lowest 64 place a [] (omega arith))
      ∙ ap (λ (bs : List Bool). get_or bs place false) (append-nil (lowest 64 a))
      ∙ sym (bit-tag tag a k p few lt small)
      ∙ ap (λ (b : ℕ). bit p (get_or (take tag (bytes_of 8 b)) k 0)) (last_value size s tag is held n piece holds next.0)
