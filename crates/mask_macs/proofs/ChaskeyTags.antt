-- The tag of Chaskey: what the last piece makes of the state that is held, and where its bits stand.
use Rattle.std.proofs.Common.{◌≡◌, ℕ, zero, suc, ◌+◌, ◌*◌, ◌/◌, ◌%◌, ◌^◌, ◌<◌, Bool, true, false, List, [], ◌++◌, length, get_or, refl, ap, ap₂, sym, ◌∙◌, arith}
use Rattle.std.proofs.lemmas.List.{append-nil}
use Rattle.std.proofs.lemmas.List.Elements.{All-cons, All-nil}
use Rattle.mask_bits.specs.Reading.{AreBytes, bit, lowest, number}
use Rattle.mask_bits.proofs.Bytes.{low-place}
use Rattle.mask_bits.proofs.Numbers.{bit-number, get_or-lowest}
use Rattle.mask_chaskey.specs.declared.doubling.End.{End}
use Rattle.mask_chaskey.specs.Chaskey.{bytes_of, chaskey_mac, end_of, finished, last_block, number_of, padded, state_before_last}
use Rattle.mask_chaskey.proofs.Tags.{low-bytes_of}
use Rattle.mask_trace.specs.Values.{value_after}
use Rattle.mask_macs.specs.ChaskeyRuns.{next_steps}
use Rattle.mask_macs.specs.Codes.{chaskey_code}
use Rattle.mask_macs.specs.Laws.{OutputFits, OutputGoesOn, OutputsAreBits}
use Rattle.mask_macs.proofs.ChaskeyBlocks.{blocks_before-last, end_of-last, last_bytes-last}
use Rattle.mask_macs.proofs.ChaskeyValues.{absorbed_all, absorbed_all-front, last_value, pieces_go_on, state_behind}
use Rattle.mask_macs.proofs.Messages.{fed_is_held}
use Rattle.mask_macs.proofs.Pieces.{IsLast}

-- BYTES

length-bytes_of : (n a : ℕ) → length (bytes_of n a) ≡ n
unfolding bytes_of
length-bytes_of zero a = refl
length-bytes_of (suc n) a = ap suc (length-bytes_of n (a / 256))

bytes_of_are_bytes : (n a : ℕ) → AreBytes (bytes_of n a)
unfolding bytes_of
bytes_of_are_bytes zero a = All-nil (λ byte. byte < 2 ^ 8)
bytes_of_are_bytes (suc n) a = All-cons (λ byte. byte < 2 ^ 8) (a % 256) (bytes_of n (a / 256)) (omega arith) (bytes_of_are_bytes n (a / 256))

-- bit p of byte k is the number's bit there
bit-bytes_of : (n a k p : ℕ) → k < n → p < 8 → bit p (get_or (bytes_of n a) k 0) ≡ bit (8 * k + p) a
bit-bytes_of n a k p lt few =
    sym (low-place (bytes_of n a) k p (omega (arith, length-bytes_of n a)) few)
    ∙ ap (λ (bs : List Bool). get_or bs (8 * k + p) false) (low-bytes_of n a ∙ sym (append-nil (lowest (8 * n) a)))
    ∙ get_or-lowest (8 * n) (8 * k + p) a [] (omega arith)

-- THE LAWS

pub output_fits : (tag : ℕ) → OutputFits (chaskey_code tag)
unfolding chaskey_mac
output_fits tag = record {
  as_long = λ key message. length-bytes_of tag _;
  are_bytes = λ key message. bytes_of_are_bytes tag _;
  piece_as_long = λ held n piece. length-bytes_of tag _;
  piece_of_bytes = λ held n piece. bytes_of_are_bytes tag _;
  none_before = λ held n piece. refl;
}

-- the state before the last piece, and the last block
state_before-last : (key : ℕ) (front piece : List ℕ) → IsLast 16 front piece →
    state_before_last key (front ++ piece) ≡ absorbed_all front (length front / 16) key
unfolding state_before_last
state_before-last key front piece is =
    ap (λ (n : ℕ). absorbed_all (front ++ piece) n key) (blocks_before-last front piece is)
    ∙ absorbed_all-front front piece key

last_block-last : (front piece : List ℕ) → IsLast 16 front piece →
    last_block (front ++ piece) ≡ number_of (padded (end_of piece) piece)
unfolding last_block
last_block-last front piece is =
    ap₂ (λ (end : End) (bytes : List ℕ). number_of (padded end bytes)) (end_of-last front piece is) (last_bytes-last front piece is)

pub output_goes_on : (tag : ℕ) → OutputGoesOn (chaskey_code tag)
unfolding chaskey_mac
output_goes_on tag key front piece long whole next =
    let is : IsLast 16 front piece = record { whole = whole; few = next.0; some = next.1 } in
    let k = number_of key in
    let same_key = (fed_is_held (chaskey_code tag) (pieces_go_on tag) key long front whole).1 in
    let state = state_before-last k front piece is ∙ sym (state_behind tag key long front whole) in
    ap₂ (λ (end : End) (block : ℕ). bytes_of tag (finished end k (state_before_last k (front ++ piece)) block))
    (end_of-last front piece is) (last_block-last front piece is)
    ∙ ap₂ (λ (bits : List Bool) (s : ℕ). bytes_of tag (finished (end_of piece) (number bits) s (number_of (padded (end_of piece) piece))))
    (sym same_key) state

pub outputs_are_bits : (tag : ℕ) → OutputsAreBits (chaskey_code tag)
outputs_are_bits tag held n piece k p holds next lt few =
    let state = (value_after held (next_steps n piece true)).state in
    sym (bit-number state (8 * k + p))
    ∙ ap (bit (8 * k + p)) (last_value tag held n piece holds next.0)
    ∙ sym (bit-bytes_of tag _ k p lt few)
