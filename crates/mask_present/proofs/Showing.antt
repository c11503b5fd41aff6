-- What the values of a stage stand for: where bits solve all gates, the rounds on values compute the rounds on numbers.
use Rattle.std.proofs.Common.{◌≡◌, ℕ, zero, suc, ◌+◌, ◌-◌, ◌*◌, ◌/◌, ◌%◌, ◌^◌, ◌<◌, ◌≤◌, Bool, true, false, not, List, [], ◌∷◌, ◌++◌, length, take, drop, map, get_or, refl, sym, ap, ◌∙◌, arith, lit<, add-one, fold, bit_xor, slice_index}
use Rattle.std.specs.List.{range_with_len}
use Rattle.std.proofs.Math.Nat.{mod-eq_of_lt}
use Rattle.std.proofs.lemmas.List.{length-map, length-drop, length-take-le, map-append, take-map, drop-map, get_or-map}
use Rattle.std.proofs.lemmas.Simd.{map-map}
use Rattle.mask_bits.specs.Reading.{number, lowest}
use Rattle.mask_bits.proofs.Numbers.{number-append, number-lowest, length-lowest}
use Rattle.mask_circuit.specs.declared.gates.Gate.{Gate}
use Rattle.mask_circuit.specs.Netlist.{value_count}
use Rattle.mask_circuit.specs.Value.{xor, value_at}
use Rattle.mask_laws.proofs.Bits.{xor-false}
use Rattle.mask_laws.proofs.Members.{map-same_in}
use Rattle.mask_parts.specs.PresentSbox.{sbox, sbox_gates, sbox_results, with_sbox}
use Rattle.mask_parts.specs.Rows.{xor_gates, xor_bits}
use Rattle.mask_parts.proofs.NumberParts.{number-xor_bits, number-take, number-drop}
use Rattle.mask_parts.proofs.Substituting.{length-sbox_gates, sbox-solved}
use Rattle.mask_parts.proofs.Solving.{Solves, Solves-left, Solves-right, Solved, Solved-with_gates, Solved-Grows}
use Rattle.mask_parts.proofs.WordShowing.{shown}
use Rattle.mask_parts.proofs.XorRows.{bits-xors}
use Rattle.mask_present.specs.Present.{Register, substituted, permuted, round_key, rotated, replaced, updated, register_after, block_after, encrypted}
use Rattle.mask_present.specs.Rounds.{Stage, xored, sboxes, sboxes_results, source, moved, with_stretch, not_gates, not_results, counter_values, key_added, block_substituted, block_moved, key_rotated, key_replaced, key_counted, key_updated, block_round, stage_after, rounds}
use Rattle.mask_present.proofs.Fitting.{IsShape, AllWithin, Fits, length-sbox_results, length-not_results, length-counter_values, Fits-key_added, Fits-block_substituted, Fits-block_moved, Fits-key_rotated, Fits-key_replaced, Fits-key_counted}
use Rattle.mask_present.proofs.Lengthening.{Lengthens-block_substituted, Lengthens-nibbles, Lengthens-key_counted, Lengthens-key_updated, Lengthens-block_round, Lengthens-rounds}
use Rattle.mask_present.proofs.NumberLaws.{number-rotated, number-stretch, number-xor_stretch}
use Rattle.mask_present.proofs.Permuting.{source-lt, permuted-number}

-- LAYERS

pub shown-xor_gates : (vs : List Bool) (n k : ℕ) (us ws : List ℕ) → length us ≡ k → length ws ≡ k → Solves vs n (xor_gates us ws)
    → shown vs (range_with_len n k) ≡ bit_xor (shown vs us) (shown vs ws)
shown-xor_gates vs n k us ws long long' solved =
    let bits = bits-xors vs n us ws (long ∙ sym long') solved in
    ap (λ m. shown vs (range_with_len n m)) (sym long) ∙ ap number bits
    ∙ number-xor_bits (map (value_at vs) us) (map (value_at vs) ws) (length-map us _ ∙ long ∙ sym long' ∙ sym (length-map ws _))

shown-append : (vs : List Bool) (us ws : List ℕ) → shown vs (us ++ ws) ≡ shown vs us + 2 ^ length us * shown vs ws
shown-append vs us ws =
    ap number (map-append (value_at vs) us ws) ∙ number-append (map (value_at vs) us) (map (value_at vs) ws)
    ∙ rw (length-map us (value_at vs)) refl

shown-take : (vs : List Bool) (n : ℕ) (us : List ℕ) → n ≤ length us → shown vs (take n us) ≡ shown vs us % 2 ^ n
shown-take vs n us within = rw (← take-map) (number-take n (map (value_at vs) us) (rw (length-map us (value_at vs)) within))

shown-drop : (vs : List Bool) (n : ℕ) (us : List ℕ) → n ≤ length us → shown vs (drop n us) ≡ shown vs us / 2 ^ n
shown-drop vs n us within = rw (← drop-map) (number-drop n (map (value_at vs) us) (rw (length-map us (value_at vs)) within))

shown-sboxes : (vs : List Bool) (m n : ℕ) (us : List ℕ) → length us ≡ 4 * m → Solves vs n (sboxes m n us)
    → shown vs (sboxes_results m n) ≡ substituted m (shown vs us)
unfolding sboxes sboxes_results substituted
shown-sboxes vs zero n us long solved = refl
shown-sboxes vs (suc m) n us long solved =
    let first : List Gate = sbox_gates n (take 4 us) in
    let rest : List Gate = sboxes m (n + 26) (drop 4 us) in
    let four : 4 ≤ length us = omega arith in
    let one : shown vs (sbox_results n) ≡ sbox (shown vs (take 4 us)) =
    sbox-solved vs n (take 4 us) (length-take-le 4 us four) (Solves-left vs n first rest solved) in
    let later : Solves vs (n + 26) rest = rw (length-sbox_gates n (take 4 us)) at (Solves-right vs n first rest solved) in
    let others : shown vs (sboxes_results m (n + 26)) ≡ substituted m (shown vs (drop 4 us)) =
    shown-sboxes vs m (n + 26) (drop 4 us) (length-drop 4 us ∙ omega arith) later in
    shown-append vs (sbox_results n) (sboxes_results m (n + 26))
    ∙ rw (length-sbox_results n, one, others, shown-take vs 4 us four, shown-drop vs 4 us four) refl

pub shown-moved : (vs : List Bool) (us : List ℕ) → length us ≡ 64 → shown vs (moved us) ≡ permuted (shown vs us)
unfolding moved
shown-moved vs us long =
    let bit : (i : ℕ) → value_at vs (slice_index us (source i)) ≡ get_or (map (value_at vs) us) (source i) false =
    λ i. sym (get_or-map (value_at vs) us (source i) 0 false (let h = source-lt i in omega arith)) in
    ap number (map-map (value_at vs) (λ i. slice_index us (source i)) (range_with_len 0 64) ∙ map-same_in _ _ (range_with_len 0 64) (λ i _. bit i))
    ∙ sym (permuted-number (map (value_at vs) us))

xor-true : (b : Bool) → xor b true ≡ not b
xor-true true = refl
xor-true false = refl

not_gates-solved : (vs : List Bool) (n : ℕ) (bs : List Bool) (us : List ℕ) → length bs ≡ length us → Solves vs n (not_gates bs us)
    → map (value_at vs) (not_results n bs us) ≡ xor_bits (map (value_at vs) us) bs
unfolding not_gates not_results xor_bits
not_gates-solved vs n [] [] same solved = refl
not_gates-solved vs n [] (u ∷ us) same solved = absurd (omega arith)
not_gates-solved vs n (b ∷ bs) [] same solved = refl
not_gates-solved vs n (true ∷ bs) (u ∷ us) same solved =
    let rest = not_gates-solved vs (suc n) bs us (omega arith) solved.1 in
    rw (add-one n, solved.0, rest, xor-true (value_at vs u)) refl
not_gates-solved vs n (false ∷ bs) (u ∷ us) same solved =
    rw (not_gates-solved vs n bs us (omega arith) solved, xor-false (value_at vs u)) refl

-- THE STAGES

-- the values of a stage stand for this register and this block
pub record Shows (r : Register) (vs : List Bool) (k b : ℕ) (s : Stage) : Type 0 where
  pub fits : Fits r s
  pub key : shown vs s.key ≡ k
  pub block : shown vs s.block ≡ b

pub Shows-key_added : (r : Register) (vs : List Bool) (k b : ℕ) (s : Stage) → IsShape r → Solved vs (key_added r s).draft → Shows r vs k b s
    → Shows r vs k (bit_xor b (round_key r k)) (key_added r s)
unfolding key_added xored round_key
Shows-key_added r vs k b s shape solved shows =
    let long = shows.fits.key in let block = shows.fits.block in let wide = shape.wide in
    let high : List ℕ = drop (r.width - 64) s.key in
    let high_long : length high ≡ 64 = length-drop (r.width - 64) s.key ∙ omega arith in
    let key : shown vs high ≡ k / 2 ^ (r.width - 64) = shown-drop vs (r.width - 64) s.key (omega arith) ∙ rw shows.key refl in
    record {
      fits = Fits-key_added r s shows.fits;
      key = shows.key;
      block = shown-xor_gates vs (value_count s.draft) 64 s.block high block high_long (Solved-with_gates vs s.draft (xor_gates s.block high) solved).1
          ∙ rw (shows.block, key) refl;
    }

pub Shows-block_substituted : (r : Register) (vs : List Bool) (k b : ℕ) (s : Stage) → Solved vs (block_substituted s).draft → Shows r vs k b s
    → Shows r vs k (substituted 16 b) (block_substituted s)
unfolding block_substituted
Shows-block_substituted r vs k b s solved shows = record {
  fits = Fits-block_substituted r s shows.fits;
  key = shows.key;
  block = shown-sboxes vs 16 (value_count s.draft) s.block shows.fits.block (Solved-with_gates vs s.draft _ solved).1 ∙ rw shows.block refl;
}

pub Shows-block_moved : (r : Register) (vs : List Bool) (k b : ℕ) (s : Stage) → Shows r vs k b s → Shows r vs k (permuted b) (block_moved s)
unfolding block_moved
Shows-block_moved r vs k b s shows = record {
  fits = Fits-block_moved r s shows.fits;
  key = shows.key;
  block = shown-moved vs s.block shows.fits.block ∙ rw shows.block refl;
}

pub Shows-key_rotated : (r : Register) (vs : List Bool) (k b : ℕ) (s : Stage) → IsShape r → Shows r vs k b s → Shows r vs (rotated r k) b (key_rotated r s)
unfolding key_rotated rotated
Shows-key_rotated r vs k b s shape shows =
    let long = shows.fits.key in let wide = shape.wide in
    let bits = map (value_at vs) s.key in
    let bits_long : length bits ≡ (r.width - 61) + 61 = length-map s.key (value_at vs) ∙ omega arith in
    record {
      fits = Fits-key_rotated r s shape shows.fits;
      key = ap number (map-append (value_at vs) (drop (r.width - 61) s.key) (take (r.width - 61) s.key)
          ∙ rw (drop-map (value_at vs) (r.width - 61) s.key, take-map (value_at vs) (r.width - 61) s.key) refl)
          ∙ number-rotated (r.width - 61) 61 bits bits_long ∙ rw shows.key refl;
      block = shows.block;
    }

map-with_stretch : (f : ℕ → Bool) (at : ℕ) (us xs : List ℕ) → map f (with_stretch at us xs) ≡ with_stretch at (map f us) (map f xs)
unfolding with_stretch
map-with_stretch f at us xs =
    map-append f (take at xs) (us ++ drop (at + length us) xs)
    ∙ rw (map-append f us (drop (at + length us) xs), length-map us f, take-map f at xs, drop-map f (at + length us) xs) refl

pub Shows-key_replaced : (r : Register) (vs : List Bool) (k b at : ℕ) (s : Stage) → at + 4 ≤ r.width → Solved vs (key_replaced s at).draft → Shows r vs k b s
    → Shows r vs (replaced k at) b (key_replaced s at)
unfolding key_replaced replaced with_sbox
Shows-key_replaced r vs k b at s within solved shows =
    let long = shows.fits.key in
    let n = value_count s.draft in
    let nibble : List ℕ = take 4 (drop at s.key) in
    let bits : List Bool = map (value_at vs) s.key in
    let bits_long : length bits ≡ r.width = length-map s.key (value_at vs) ∙ long in
    let nibble_long : length nibble ≡ 4 = length-take-le 4 (drop at s.key) (rw (length-drop at s.key) (omega arith)) in
    let nibble_shown : shown vs nibble ≡ k / 2 ^ at % 16 =
    shown-take vs 4 (drop at s.key) (rw (length-drop at s.key) (omega arith)) ∙ rw (shown-drop vs at s.key (omega arith), shows.key) refl in
    let result : number (map (value_at vs) (sbox_results n)) ≡ sbox (k / 2 ^ at % 16) =
    sbox-solved vs n nibble nibble_long (Solved-with_gates vs s.draft (sbox_gates n nibble) solved).1 ∙ rw nibble_shown refl in
    let results_long : length (map (value_at vs) (sbox_results n)) ≡ 4 = length-map (sbox_results n) (value_at vs) ∙ length-sbox_results n in
    record {
      fits = Fits-key_replaced r s at within shows.fits;
      key = ap number (map-with_stretch (value_at vs) at (sbox_results n) s.key)
          ∙ number-stretch at 4 (map (value_at vs) (sbox_results n)) bits results_long (omega arith)
          ∙ rw (result, shows.key) refl;
      block = shows.block;
    }

pub Shows-nibbles : (r : Register) (vs : List Bool) (k b : ℕ) (ats : List ℕ) (s : Stage) → AllWithin r.width ats → Solved vs (fold key_replaced s ats).draft
    → Shows r vs k b s → Shows r vs (fold replaced k ats) b (fold key_replaced s ats)
Shows-nibbles r vs k b [] s within solved shows = shows
Shows-nibbles r vs k b (at ∷ ats) s within solved shows =
    let before = Solved-Grows vs _ _ (Lengthens-nibbles ats (key_replaced s at)) solved in
    Shows-nibbles r vs (replaced k at) b ats (key_replaced s at) within.1 solved (Shows-key_replaced r vs k b at s within.0 before shows)

pub Shows-key_counted : (r : Register) (vs : List Bool) (k b i : ℕ) (s : Stage) → IsShape r → i < 32 → Solved vs (key_counted r i s).draft → Shows r vs k b s
    → Shows r vs (bit_xor k (i * 2 ^ r.counter)) b (key_counted r i s)
unfolding key_counted
Shows-key_counted r vs k b i s shape small solved shows =
    let long = shows.fits.key in let room = shape.counter in
    let n = value_count s.draft in
    let flags : List Bool = lowest 5 i in
    let us : List ℕ = counter_values r s in
    let bits : List Bool = map (value_at vs) s.key in
    let bits_long : length bits ≡ r.width = length-map s.key (value_at vs) ∙ long in
    let us_long : length us ≡ 5 = length-counter_values r s shape shows.fits in
    let same : length flags ≡ length us = length-lowest 5 i ∙ sym us_long in
    let made : List Bool = map (value_at vs) (not_results n flags us) in
    let made_long : length made ≡ 5 = length-map (not_results n flags us) (value_at vs) ∙ length-not_results n flags us ∙ us_long in
    let made_is : number made ≡ bit_xor (shown vs us) i =
    ap number (not_gates-solved vs n flags us same (Solved-with_gates vs s.draft (not_gates flags us) solved).1)
    ∙ number-xor_bits (map (value_at vs) us) flags (length-map us (value_at vs) ∙ sym same)
    ∙ ap (λ m. bit_xor (shown vs us) m) (number-lowest 5 i ∙ mod-eq_of_lt small) in
    let us_are : shown vs us ≡ number (take 5 (drop r.counter bits)) =
    ap number (sym (take-map (value_at vs) 5 (drop r.counter s.key)) ∙ ap (take 5) (sym (drop-map (value_at vs) r.counter s.key))) in
    record {
      fits = Fits-key_counted r i s shape shows.fits;
      key = ap number (map-with_stretch (value_at vs) r.counter (not_results n flags us) s.key)
          ∙ number-xor_stretch r.counter 5 i made bits made_long (omega arith) small (made_is ∙ rw us_are refl)
          ∙ rw shows.key refl;
      block = shows.block;
    }

pub Shows-key_updated : (r : Register) (vs : List Bool) (k b i : ℕ) (s : Stage) → IsShape r → i < 32 → Solved vs (key_updated r i s).draft → Shows r vs k b s
    → Shows r vs (updated r i k) b (key_updated r i s)
unfolding key_updated updated
Shows-key_updated r vs k b i s shape small solved shows =
    let turned = key_rotated r s in
    let before = Solved-Grows vs _ _ (Lengthens-key_counted r i (fold key_replaced turned r.nibbles)) solved in
    Shows-key_counted r vs _ b i _ shape small solved
    (Shows-nibbles r vs _ b r.nibbles turned shape.nibbles before (Shows-key_rotated r vs k b s shape shows))

pub Shows-block_round : (r : Register) (vs : List Bool) (k b : ℕ) (s : Stage) → IsShape r → Solved vs (block_round r s).draft → Shows r vs k b s
    → Shows r vs k (permuted (substituted 16 (bit_xor b (round_key r k)))) (block_round r s)
unfolding block_round block_moved
Shows-block_round r vs k b s shape solved shows =
    let before = Solved-Grows vs _ _ (Lengthens-block_substituted (key_added r s)) solved in
    Shows-block_moved r vs k _ (block_substituted (key_added r s))
    (Shows-block_substituted r vs k _ (key_added r s) solved (Shows-key_added r vs k b s shape before shows))

pub Shows-stage_after : (r : Register) (vs : List Bool) (k b i : ℕ) (s : Stage) → IsShape r → i < 32 → Solved vs (stage_after r i s).draft → Shows r vs k b s
    → Shows r vs (register_after r i k) (block_after r i k b) (stage_after r i s)
unfolding stage_after register_after block_after
Shows-stage_after r vs k b zero s shape small solved shows = shows
Shows-stage_after r vs k b (suc i) s shape small solved shows =
    let before = stage_after r i s in
    let half = Solved-Grows vs _ _ (Lengthens-key_updated r (suc i) (block_round r before)) solved in
    let whole = Solved-Grows vs _ _ (Lengthens-block_round r before) half in
    Shows-key_updated r vs _ _ (suc i) (block_round r before) shape small solved
    (Shows-block_round r vs _ _ before shape half (Shows-stage_after r vs k b i s shape (omega arith) whole shows))

pub Shows-rounds : (r : Register) (vs : List Bool) (k b : ℕ) (s : Stage) → IsShape r → Solved vs (rounds r s).draft → Shows r vs k b s
    → shown vs (rounds r s).block ≡ encrypted r k b
unfolding rounds encrypted
Shows-rounds r vs k b s shape solved shows =
    let before = Solved-Grows vs _ _ (Lengthens-rounds r s) solved in
    (Shows-key_added r vs _ _ (stage_after r 31 s) shape (unfold rounds in solved)
    (Shows-stage_after r vs k b 31 s shape (lit< tt) before shows)).block
