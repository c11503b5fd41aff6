-- Key lines are shares of the bits of the key that they join to.
use Rattle.std.proofs.Common.{◌≡◌, ℕ, ◌*◌, ◌<◌, Bool, false, nat_eq, List, [], ◌∷◌, map, fold, length, get_or, bit_xor, All, refl, sym, ap, ap₂, ◌∙◌, arith}
use Rattle.std.proofs.lemmas.List.{length-map, get_or-map, ext_get_or}
use Rattle.std.proofs.lemmas.List.Elements.{All-nil, All-head, All-tail}
use Rattle.std.proofs.lemmas.Nat.Bits.{bit_at-zero}
use Rattle.mask_bits.specs.Reading.{bit}
use Rattle.mask_circuit.specs.Ring.{bits}
use Rattle.mask_circuit.specs.Sharing.{unmasked}
use Rattle.mask_circuit.specs.Value.{xor}
use Rattle.mask_circuit.specs.Wires.{each}
use Rattle.mask_circuit.proofs.Places.{length-each}
use Rattle.mask_shares.proofs.Lists.{get_or-each}
use Rattle.mask_tasks.specs.declared.tasks.Task.{Task}
use Rattle.mask_tasks.specs.Tasks.{key_bytes}
use Rattle.mask_keys.specs.Lines.{line_length, joined}
use Rattle.mask_keys.proofs.Joining.{bit-fold}
use Rattle.mask_trace.specs.Steps.{Registers}
use Rattle.mask_trace.specs.Traces.{BitShares}
use Rattle.mask_trace.specs.Values.{HasShares, values_of}
use Rattle.mask_laws.proofs.CircuitNames.{All-each}
use Rattle.mask_ciphers.specs.Tasks.{held_at_first, key_bits, key_shares, with_lines}
use Rattle.mask_ciphers.specs.Laws.{LinesShareKeys}
use Rattle.mask_ciphers.proofs.KeyBits.{IsBitOfByte, ReadsBits, key_reads_bits}

-- ONE BIT

-- byte b of each line
abbrev column : List (List ℕ) → ℕ → List ℕ
column lines b = map (λ (line : List ℕ). get_or line b 0) lines

-- bit j of each line
abbrev row : (List ℕ → List Bool) → List (List ℕ) → ℕ → List Bool
row reading lines j = map (λ (line : List ℕ). get_or (reading line) j false) lines

row_of_bits : (reading : List ℕ → List Bool) (n j : ℕ) (at : IsBitOfByte reading n j) (lines : List (List ℕ)) → All (λ line. length line ≡ n) lines →
    row reading lines j ≡ map (bit at.place) (column lines at.byte)
row_of_bits reading n j at [] equal = refl
row_of_bits reading n j at (line ∷ lines) equal =
    ap₂ ◌∷◌ (at.is line (All-head (λ (l : List ℕ). length l ≡ n) line lines equal))
    (row_of_bits reading n j at lines (All-tail (λ (l : List ℕ). length l ≡ n) line lines equal))

-- the bits of bytes at a place have the bit of their exclusive or for a sum
sum_of_bits : (p : ℕ) (bytes : List ℕ) → unmasked bits (map (bit p) bytes) ≡ bit p (fold bit_xor 0 bytes)
sum_of_bits p bytes = sym (bit-fold p 0 bytes ∙ ap (λ (b : Bool). fold xor b (map (bit p) bytes)) (ap (λ (x : ℕ). nat_eq x 1) (bit_at-zero p)))

length-joined : (lines : List (List ℕ)) → length (joined lines) ≡ line_length lines
length-joined lines = length-each (λ b. fold bit_xor 0 (column lines b)) (line_length lines)

-- bit j of all lines is shares of bit j of what they join to
shares_of_bit : (reading : List ℕ → List Bool) → ReadsBits reading → (lines : List (List ℕ)) (j : ℕ) → All (λ line. length line ≡ line_length lines) lines →
    j < 8 * line_length lines → unmasked bits (row reading lines j) ≡ get_or (reading (joined lines)) j false
shares_of_bit reading reads lines j equal lt =
    let n = line_length lines in
    let at = reads.place n j lt in
    ap (unmasked bits) (row_of_bits reading n j at lines equal)
    ∙ sum_of_bits at.place (column lines at.byte)
    ∙ ap (bit at.place) (sym (get_or-each (λ b. fold bit_xor 0 (column lines b)) n at.byte 0 at.within))
    ∙ sym (at.is (joined lines) (length-joined lines))

-- ALL BITS

shares_of_bits : (reading : List ℕ → List Bool) → ReadsBits reading → (lines : List (List ℕ)) (n : ℕ) → All (λ line. length line ≡ line_length lines) lines →
    line_length lines ≡ n → map (unmasked bits) (each (row reading lines) (8 * n)) ≡ reading (joined lines)
shares_of_bits reading reads lines n equal long =
    let rows = each (row reading lines) (8 * n) in
    let size : length rows ≡ 8 * n = length-each (row reading lines) (8 * n) in
    let made : length (map (unmasked bits) rows) ≡ 8 * n = length-map rows (unmasked bits) ∙ size in
    let whole : length (reading (joined lines)) ≡ 8 * n = reads.count (joined lines) ∙ ap (λ (k : ℕ). 8 * k) (length-joined lines ∙ long) in
    ext_get_or false (map (unmasked bits) rows) (reading (joined lines)) (made ∙ sym whole)
    (λ j lt.
    let here : j < 8 * n = omega arith in
    get_or-map (unmasked bits) rows j [] false (omega arith)
    ∙ ap (unmasked bits) (get_or-each (row reading lines) (8 * n) j [] here)
    ∙ shares_of_bit reading reads lines j equal (omega arith))

lines_have_key : (task : Task) (lines : List (List ℕ)) → HasShares (length lines) (8 * key_bytes task) 0 (with_lines task lines)
unfolding key_shares
lines_have_key task lines = record {
  key = length-each (row (key_bits task) lines) (8 * key_bytes task);
  state = refl;
  key_shares = All-each (λ shares. length shares ≡ length lines) (row (key_bits task) lines) (8 * key_bytes task)
      (λ j lt. length-map lines (λ (line : List ℕ). get_or (key_bits task line) j false));
  state_shares = All-nil (λ (shares : BitShares). length shares ≡ length lines);
}

-- the registers with this key
abbrev with_key_bits : List Bool → Registers Bool
with_key_bits key = record { key = key; state = [] }

lines_join : (task : Task) (lines : List (List ℕ)) → All (λ line. length line ≡ line_length lines) lines → line_length lines ≡ key_bytes task →
    values_of (with_lines task lines) ≡ held_at_first task (joined lines)
unfolding key_shares
lines_join task lines equal long =
    ap with_key_bits (shares_of_bits (key_bits task) (key_reads_bits task) lines (key_bytes task) equal long)

pub lines_share_keys : LinesShareKeys
lines_share_keys = record {
  has_key = lines_have_key;
  joins = λ task lines are. lines_join task lines are.equal;
}
