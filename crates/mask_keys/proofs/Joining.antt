-- The lines of a split are key lines, and their exclusive or is the key.
use Rattle.std.proofs.Common.{◌≡◌, ℕ, zero, suc, ◌+◌, ◌*◌, ◌^◌, ◌<◌, ◌≤◌, Bool, false, nat_eq, List, [], ◌∷◌, ◌++◌, map, fold, length, take, drop, get_or, bit_xor, refl, sym, ap, ap₂, ◌∙◌, subst, arith, length-drop, length-take, lit<}
use Rattle.std.specs.List.{All}
use Rattle.std.specs.Int.{bit_at}
use Rattle.std.proofs.lemmas.List.{get_or-take, get_or-drop, length-take-le, length-map, get_or-map, drop-drop}
use Rattle.std.proofs.lemmas.Nat.{xor_of_8}
use Rattle.std.proofs.lemmas.Nat.Bits.{bit_at_xor, bit_at-lt, bit_at-zero}
use Rattle.std.proofs.Math.Nat.{mod-eq_of_lt}
use Rattle.std.proofs.Math.Pow.{pow_mono}
use Rattle.mask_bits.specs.Reading.{bit, lowest, low, number, AreBytes}
use Rattle.mask_bits.proofs.Bytes.{length-low, low-place}
use Rattle.mask_bits.proofs.Numbers.{number-lt, bit-number, number-lowest}
use Rattle.mask_circuit.specs.Ring.{bits}
use Rattle.mask_circuit.specs.Sharing.{shared}
use Rattle.mask_circuit.specs.Value.{xor}
use Rattle.mask_circuit.specs.Wires.{each}
use Rattle.mask_shares.proofs.Lists.{each-same, is_each, map-each, each-get_or}
use Rattle.mask_laws.proofs.BitSums.{shared-unmasks}
use Rattle.mask_laws.proofs.Bits.{xor_of_digits}
use Rattle.mask_laws.proofs.CircuitNames.{All-each}
use Rattle.mask_keys.specs.Lines.{line_length, joined}
use Rattle.mask_keys.specs.Splitting.{packed, shares_at, split_line, split_lines, split_bits}
use Rattle.mask_keys.specs.Laws.{SplitsJoin}
use Rattle.mask_keys.proofs.Cutting.{line_end}
use Rattle.mask_keys.proofs.Sharing.{get_or-shares_at, length-split_lines, get_or-split_lines}

-- THE BITS OF AN EXCLUSIVE OR

bit-xor : (j a b : ℕ) → bit j (bit_xor a b) ≡ xor (bit j a) (bit j b)
bit-xor j a b = rw (bit_at_xor a b j) (xor_of_digits (bit_at a j) (bit_at b j) (bit_at-lt a j) (bit_at-lt b j))

pub bit-fold : (j start : ℕ) (xs : List ℕ) → bit j (fold bit_xor start xs) ≡ fold xor (bit j start) (map (bit j) xs)
bit-fold j start [] = refl
bit-fold j start (x ∷ xs) = bit-fold j (bit_xor start x) xs ∙ ap (λ (b : Bool). fold xor b (map (bit j) xs)) (bit-xor j start x)

-- bytes have a byte for exclusive or
fold_xor-lt : (start : ℕ) (xs : List ℕ) → start < 2 ^ 8 → All (λ (x : ℕ). x < 2 ^ 8) xs → fold bit_xor start xs < 2 ^ 8
fold_xor-lt start [] small all = small
fold_xor-lt start (x ∷ xs) small all =
    fold_xor-lt (bit_xor start x) xs (xor_of_8 start x small (all 0 0 (omega arith))) (λ k d lt. all (suc k) d (omega arith))

-- numbers with the same n lowest bits
lowest-same : (n a b : ℕ) → ((j : ℕ) → j < n → bit j a ≡ bit j b) → lowest n a ≡ lowest n b
lowest-same zero a b same = refl
lowest-same (suc n) a b same = ap₂ (λ (l : List Bool) (c : Bool). l ++ c ∷ []) (lowest-same n a b (λ j lt. same j (omega arith))) (same n (omega arith))

-- bytes with the same bits
byte-same : (a b : ℕ) → a < 2 ^ 8 → b < 2 ^ 8 → ((j : ℕ) → j < 8 → bit j a ≡ bit j b) → a ≡ b
byte-same a b ha hb same =
    sym (number-lowest 8 a ∙ mod-eq_of_lt ha) ∙ ap number (lowest-same 8 a b same) ∙ number-lowest 8 b ∙ mod-eq_of_lt hb

-- PACKED BYTES

pub length-packed : (n : ℕ) (reading : List Bool) → length (packed n reading) ≡ n
unfolding packed
length-packed zero reading = refl
length-packed (suc n) reading = ap suc (length-packed n (drop 8 reading))

get_or-packed : (n : ℕ) (reading : List Bool) (b d : ℕ) → b < n → get_or (packed n reading) b d ≡ number (take 8 (drop (8 * b) reading))
unfolding packed
get_or-packed zero reading b d lt = absurd (omega arith)
get_or-packed (suc n) reading zero d lt = refl
get_or-packed (suc n) reading (suc b) d lt =
    let more : 8 + 8 * b ≡ 8 * suc b = omega arith in
    get_or-packed n (drop 8 reading) b d (omega arith) ∙ ap (λ (r : List Bool). number (take 8 r)) (drop-drop (8 * b) 8 reading ∙ ap (λ (k : ℕ). drop k reading) more)

-- they are bytes
pub packed-bytes : (n : ℕ) (reading : List Bool) → AreBytes (packed n reading)
packed-bytes n reading k d lt =
    let long = length-packed n reading in
    let few : length (take 8 (drop (8 * k) reading)) ≤ 8 = omega (arith, length-take 8 (drop (8 * k) reading)) in
    let bound = number-lt (take 8 (drop (8 * k) reading)) in
    let top : 2 ^ length (take 8 (drop (8 * k) reading)) ≤ 2 ^ 8 = pow_mono {i = length (take 8 (drop (8 * k) reading))} {j = 8} few in
    subst (λ (x : ℕ). x < 2 ^ 8) (sym (get_or-packed n reading k d (omega arith))) (omega arith)

-- bit j of byte b
bit-packed : (n : ℕ) (reading : List Bool) (b j : ℕ) → b < n → j < 8 → bit j (get_or (packed n reading) b 0) ≡ get_or reading (8 * b + j) false
bit-packed n reading b j lt low8 =
    ap (bit j) (get_or-packed n reading b 0 lt)
    ∙ bit-number (take 8 (drop (8 * b) reading)) j
    ∙ get_or-take 8 (drop (8 * b) reading) j false low8
    ∙ get_or-drop (8 * b) reading j false

-- LINES

module _ (d : ℕ) (key : List ℕ) (coins : List Bool) where
  length-split_line : (k : ℕ) → length (split_line d key coins k) ≡ length key
  unfolding split_line
  length-split_line k = length-packed (length key) (shares_at d k (low key) coins)

  split_line-bytes : (k : ℕ) → AreBytes (split_line d key coins k)
  unfolding split_line
  split_line-bytes k = packed-bytes (length key) (shares_at d k (low key) coins)

  -- byte b of all lines
  column : ℕ → List ℕ
  column b = map (λ (line : List ℕ). get_or line b 0) (split_lines d key coins)

  -- bit j of byte b of line k is share k of that bit of the key
  module _ (b j : ℕ) (lt : b < length key) (low8 : j < 8) (enough : split_bits d key ≤ length coins) where
    own : List Bool
    own = take d (drop ((8 * b + j) * d) coins)

    bit-line : (k : ℕ) → bit j (get_or (split_line d key coins k) b 0) ≡ get_or (shared bits (bit j (get_or key b 0)) own) k false
    unfolding split_line own
    bit-line k =
        bit-packed (length key) (shares_at d k (low key) coins) b j lt low8
        ∙ get_or-shares_at d k (low key) coins (8 * b + j) (omega (arith, length-low key))
        ∙ ap (λ (v : Bool). get_or (shared bits v (take d (drop ((8 * b + j) * d) coins))) k false) (low-place key b j lt low8)

    length-own : length own ≡ d
    unfolding own
    length-own =
        let end = line_end (8 * length key) d (8 * b + j) (omega arith) in
        length-take-le d (drop ((8 * b + j) * d) coins) (omega (arith, length-drop ((8 * b + j) * d) coins))

    bit-column : bit j (fold bit_xor 0 (column b)) ≡ bit j (get_or key b 0)
    unfolding column split_lines
    bit-column =
        bit-fold j 0 (column b)
        ∙ ap₂ (λ (s : Bool) (xs : List Bool). fold xor s xs) (ap (λ (x : ℕ). nat_eq x 1) (bit_at-zero j))
        (ap (map (bit j)) (map-each (λ (line : List ℕ). get_or line b 0) (split_line d key coins) (suc d))
        ∙ map-each (bit j) (λ k. get_or (split_line d key coins k) b 0) (suc d)
        ∙ each-same _ _ (suc d) (λ k below. bit-line k)
        ∙ ap (each (λ k. get_or (shared bits (bit j (get_or key b 0)) own) k false)) (sym (ap suc length-own))
        ∙ each-get_or (shared bits (bit j (get_or key b 0)) own) false)
        ∙ shared-unmasks (bit j (get_or key b 0)) own

  column-bytes : (b : ℕ) → b < length key → All (λ (x : ℕ). x < 2 ^ 8) (column b)
  unfolding column
  column-bytes b lt k e below =
      let lines = split_lines d key coins in
      let within : k < suc d = omega (arith, length-map (split_lines d key coins) (λ (line : List ℕ). get_or line b 0), length-split_lines d key coins) in
      subst (λ (x : ℕ). x < 2 ^ 8)
      (sym (get_or-map (λ (line : List ℕ). get_or line b 0) (split_lines d key coins) k [] e (omega (arith, length-split_lines d key coins))
      ∙ ap (λ (line : List ℕ). get_or line b 0) (get_or-split_lines d key coins k (omega arith))))
      (split_line-bytes k b 0 (omega (arith, length-split_line k)))

  first : line_length (split_lines d key coins) ≡ length key
  first = ap length (get_or-split_lines d key coins 0 (omega arith)) ∙ length-split_line 0

  all_lines : (P : List ℕ → Type 0) → ((k : ℕ) → P (split_line d key coins k)) → All P (split_lines d key coins)
  unfolding split_lines
  all_lines P each_line = All-each P (split_line d key coins) (suc d) (λ k lt. each_line k)

  joins : AreBytes key → split_bits d key ≤ length coins → joined (split_lines d key coins) ≡ key
  unfolding column
  joins are_bytes enough =
      ap (each (λ b. fold bit_xor 0 (column b))) first
      ∙ sym (is_each (λ b. fold bit_xor 0 (column b)) (length key) key refl (λ b lt.
      sym (byte-same (fold bit_xor 0 (column b)) (get_or key b 0) (fold_xor-lt 0 (column b) (lit< tt) (column-bytes b lt)) (are_bytes b 0 lt)
      (λ j low8. bit-column b j lt low8 enough))))

pub splits_join : SplitsJoin
splits_join d key coins few is enough =
    let many = length-split_lines d key coins in
    let long = first d key coins in
    let some = is.some in
    let short = is.few in
    record {
      shape = record {
        some = omega arith;
        few = omega arith;
        filled = omega arith;
        short = omega arith;
        equal = all_lines d key coins (λ line. length line ≡ line_length (split_lines d key coins)) (λ k. length-split_line d key coins k ∙ sym long);
      };
      bytes = all_lines d key coins AreBytes (split_line-bytes d key coins);
      many = many;
      long = long;
      join = joins d key coins is.bytes enough;
    }
