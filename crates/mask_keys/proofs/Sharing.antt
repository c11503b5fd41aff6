-- Shares of bits one by one, and the bytes that they make.
use Rattle.std.proofs.Common.{◌≡◌, ℕ, zero, suc, ◌+◌, ◌*◌, ◌%◌, ◌^◌, ◌<◌, ◌≤◌, Bool, true, false, List, [], ◌∷◌, ◌++◌, map, length, take, drop, get_or, refl, sym, ap, ap₂, ◌∙◌, arith, append-nil, length-drop, if◌then◌else◌}
use Rattle.std.proofs.lemmas.List.{get_or-map, take-map, drop-map, drop-drop, length-map, length-take-le, take_at, drop_at, take_all}
use Rattle.std.proofs.lemmas.Option.{get_or_from_slice_get}
use Rattle.std.proofs.Math.Nat.{mod-eq_of_lt}
use mir.Val.{bool_byte}
use Rattle.mask_bits.specs.Reading.{bit, lowest, low, number}
use Rattle.mask_bits.proofs.Bytes.{length-low}
use Rattle.mask_bits.proofs.Numbers.{length-lowest, get_or-lowest, number-lowest, lowest-of, byte_more}
use Rattle.mask_circuit.specs.Ring.{bits}
use Rattle.mask_circuit.specs.Sharing.{listed, shared, all_shared}
use Rattle.mask_circuit.proofs.Places.{length-each, slice_get-each}
use Rattle.mask_laws.proofs.Sharings.{all_shared-take, length-all_shared}
use Rattle.mask_keys.specs.Splitting.{packed, shares_at, split_line, split_lines}
use Rattle.mask_keys.proofs.Cutting.{line_end}

-- ALL SHARES

get_or-all_shared : (d : ℕ) (plain coins : List Bool) (v : ℕ) → v < length plain →
    get_or (all_shared bits d plain coins) v [] ≡ shared bits (get_or plain v false) (take d (drop (v * d) coins))
get_or-all_shared d [] coins v lt = absurd (omega arith)
get_or-all_shared d (b ∷ plain) coins zero lt = let none : 0 * d ≡ 0 = omega arith in rw none refl
get_or-all_shared d (b ∷ plain) coins (suc v) lt =
    get_or-all_shared d plain (drop d coins) v (omega arith)
    ∙ ap (λ (c : List Bool). shared bits (get_or plain v false) (take d c)) (drop-drop (v * d) d coins ∙ ap (λ (k : ℕ). drop k coins) (omega arith))

take-all_shared : (d n : ℕ) (plain coins : List Bool) → take n (all_shared bits d plain coins) ≡ all_shared bits d (take n plain) coins
take-all_shared d zero plain coins = refl
take-all_shared d (suc n) [] coins = refl
take-all_shared d (suc n) (b ∷ plain) coins = ap (λ (s : List (List Bool)). shared bits b (take d coins) ∷ s) (take-all_shared d n plain (drop d coins))

drop-all_shared : (d n : ℕ) (plain coins : List Bool) → drop n (all_shared bits d plain coins) ≡ all_shared bits d (drop n plain) (drop (n * d) coins)
drop-all_shared d zero plain coins = let none : 0 * d ≡ 0 = omega arith in rw none refl
drop-all_shared d (suc n) [] coins = refl
drop-all_shared d (suc n) (b ∷ plain) coins =
    drop-all_shared d n plain (drop d coins)
    ∙ ap (all_shared bits d (drop n plain)) (drop-drop (n * d) d coins ∙ ap (λ (k : ℕ). drop k coins) (omega arith))

-- ONE SHARE OF EACH BIT

pub length-shares_at : (d k : ℕ) (plain coins : List Bool) → length (shares_at d k plain coins) ≡ length plain
unfolding shares_at
length-shares_at d k plain coins = length-map (all_shared bits d plain coins) (λ s. listed bits s k) ∙ length-all_shared bits d plain coins

pub get_or-shares_at : (d k : ℕ) (plain coins : List Bool) (v : ℕ) → v < length plain →
    get_or (shares_at d k plain coins) v false ≡ get_or (shared bits (get_or plain v false) (take d (drop (v * d) coins))) k false
unfolding shares_at
get_or-shares_at d k plain coins v lt =
    get_or-map (λ s. listed bits s k) (all_shared bits d plain coins) v [] false (omega (arith, length-all_shared bits d plain coins))
    ∙ ap (λ (s : List Bool). get_or s k false) (get_or-all_shared d plain coins v lt)

-- eight bits, with just the coins that they take
shares_at-byte : (d k b : ℕ) (plain coins : List Bool) → 8 * b + 8 ≤ length plain →
    take 8 (drop (8 * b) (shares_at d k plain coins)) ≡ shares_at d k (take 8 (drop (8 * b) plain)) (take (8 * d) (drop (b * (8 * d)) coins))
unfolding shares_at
shares_at-byte d k b plain coins within =
    let own = drop (8 * b * d) coins in
    let eight : length (take 8 (drop (8 * b) plain)) ≡ 8 = length-take-le 8 (drop (8 * b) plain) (omega (arith, length-drop (8 * b) plain)) in
    let start : 8 * b * d ≡ b * (8 * d) = omega arith in
    let enough : d * length (take 8 (drop (8 * b) plain)) ≡ 8 * d = ap (λ (n : ℕ). d * n) eight ∙ omega arith in
    ap (take 8) (drop-map (λ s. listed bits s k) (8 * b) (all_shared bits d plain coins))
    ∙ take-map (λ s. listed bits s k) 8 (drop (8 * b) (all_shared bits d plain coins))
    ∙ ap (map (λ s. listed bits s k)) (ap (take 8) (drop-all_shared d (8 * b) plain coins) ∙ take-all_shared d 8 (drop (8 * b) plain) own
    ∙ sym (all_shared-take bits d (take 8 (drop (8 * b) plain)) own)
    ∙ ap₂ (λ (n m : ℕ). all_shared bits d (take 8 (drop (8 * b) plain)) (take n (drop m coins))) enough start)

-- BYTES

-- the bits of one byte
low-byte : (key : List ℕ) (b : ℕ) → b < length key → take 8 (drop (8 * b) (low key)) ≡ lowest 8 (get_or key b 0)
low-byte [] b lt = absurd (omega arith)
low-byte (x ∷ key) zero lt = take_at (lowest 8 x) (low key) 8 (length-lowest 8 x)
low-byte (x ∷ key) (suc b) lt =
    let more : 8 * suc b ≡ 8 + 8 * b = omega arith in
    ap (λ (n : ℕ). take 8 (drop n (low (x ∷ key)))) more
    ∙ ap (take 8) (sym (drop-drop (8 * b) 8 (low (x ∷ key))) ∙ ap (drop (8 * b)) (drop_at (lowest 8 x) (low key) 8 (length-lowest 8 x)))
    ∙ low-byte key b (omega arith)

-- one byte more
packed-more : (b : ℕ) (reading : List Bool) → packed (b + 1) reading ≡ packed b reading ++ number (take 8 (drop (8 * b) reading)) ∷ []
unfolding packed
packed-more zero reading = refl
packed-more (suc b) reading =
    let count : suc b + 1 ≡ suc (b + 1) = omega arith in
    let more : 8 + 8 * b ≡ 8 * suc b = omega arith in
    ap (λ (n : ℕ). packed n reading) count
    ∙ ap (λ (bytes : List ℕ). number (take 8 reading) ∷ bytes) (packed-more b (drop 8 reading)
    ∙ ap (λ (r : List Bool). packed b (drop 8 reading) ++ number (take 8 r) ∷ []) (drop-drop (8 * b) 8 reading ∙ ap (λ (n : ℕ). drop n reading) more))

-- the next byte of a line
pub line_more : (d k b x : ℕ) (key : List ℕ) (coins own : List Bool) → b < length key → own ≡ take (8 * d) (drop (b * (8 * d)) coins) →
    x < 256 → lowest 8 x ≡ shares_at d k (lowest 8 (get_or key b 0)) own →
    packed (b + 1) (shares_at d k (low key) coins) ≡ packed b (shares_at d k (low key) coins) ++ x ∷ []
line_more d k b x key coins own lt own_is byte is =
    let reading : take 8 (drop (8 * b) (shares_at d k (low key) coins)) ≡ lowest 8 x =
    shares_at-byte d k b (low key) coins (omega (arith, length-low key))
    ∙ ap₂ (shares_at d k) (low-byte key b lt) (sym own_is) ∙ sym is in
    let value : number (lowest 8 x) ≡ x = number-lowest 8 x ∙ mod-eq_of_lt byte in
    packed-more b (shares_at d k (low key) coins)
    ∙ ap (λ (n : ℕ). packed b (shares_at d k (low key) coins) ++ n ∷ []) (ap number reading ∙ value)

-- a bit as a number
weight_of : (b : Bool) → bool_byte b ≡ (if b then 1 else 0)
weight_of true = refl
weight_of false = refl

-- the next bit of a byte
pub byte_grows : (d k byte place shares weight : ℕ) (coins own : List Bool) (plain share : Bool) → place < 8 → own ≡ take d (drop (place * d) coins) →
    plain ≡ bit place byte → share ≡ get_or (shared bits plain own) k false → weight ≡ bool_byte share →
    shares ≡ number (take place (shares_at d k (lowest 8 byte) coins)) →
    (shares + weight * 2 ^ place % 256 ≡ number (take (place + 1) (shares_at d k (lowest 8 byte) coins)))
    × (number (take (place + 1) (shares_at d k (lowest 8 byte) coins)) < 256)
byte_grows d k byte place shares weight coins own plain share lt own_is plain_is share_is weight_is done =
    let all = shares_at d k (lowest 8 byte) coins in
    let long : length (shares_at d k (lowest 8 byte) coins) ≡ 8 = length-shares_at d k (lowest 8 byte) coins ∙ length-lowest 8 byte in
    let here : get_or (lowest 8 byte) place false ≡ plain = ap (λ (l : List Bool). get_or l place false) (sym (append-nil (lowest 8 byte)))
    ∙ get_or-lowest 8 place byte [] lt ∙ sym plain_is in
    let next : share ≡ get_or all place false = share_is
    ∙ ap₂ (λ (b : Bool) (c : List Bool). get_or (shared bits b c) k false) (sym here) own_is
    ∙ sym (get_or-shares_at d k (lowest 8 byte) coins place (omega (arith, length-lowest 8 byte))) in
    byte_more all place shares weight (omega arith) (omega arith) done (weight_is ∙ weight_of share ∙ ap (λ (b : Bool). if b then 1 else 0) next)

-- all bits of a byte
pub byte_done : (d k byte place shares : ℕ) (coins : List Bool) → 8 ≤ place → shares ≡ number (take place (shares_at d k (lowest 8 byte) coins)) →
    lowest 8 shares ≡ shares_at d k (lowest 8 byte) coins
byte_done d k byte place shares coins end done =
    let long : length (shares_at d k (lowest 8 byte) coins) ≡ 8 = length-shares_at d k (lowest 8 byte) coins ∙ length-lowest 8 byte in
    lowest-of (shares_at d k (lowest 8 byte) coins) shares 8 (done ∙ ap number (take_all place (shares_at d k (lowest 8 byte) coins) (omega arith))) long

-- what is left of the coins
pub coins_left : (count n i : ℕ) (coins rest : List Bool) → i < count → length coins ≡ count * n → rest ≡ drop (i * n) coins → n ≤ length rest
coins_left count n i coins rest lt all is = let end = line_end count n i lt in omega (arith, ap length is, length-drop (i * n) coins)

pub coins_next : (n i : ℕ) (coins rest : List Bool) → rest ≡ drop (i * n) coins → drop n rest ≡ drop ((i + 1) * n) coins
coins_next n i coins rest is = ap (drop n) is ∙ drop-drop n (i * n) coins ∙ ap (λ (k : ℕ). drop k coins) (omega arith)

-- LINES

pub length-split_lines : (d : ℕ) (key : List ℕ) (coins : List Bool) → length (split_lines d key coins) ≡ suc d
unfolding split_lines
length-split_lines d key coins = length-each (split_line d key coins) (suc d)

pub get_or-split_lines : (d : ℕ) (key : List ℕ) (coins : List Bool) (k : ℕ) → k ≤ d → get_or (split_lines d key coins) k [] ≡ split_line d key coins k
unfolding split_lines
get_or-split_lines d key coins k below =
    get_or_from_slice_get (split_lines d key coins) k (split_line d key coins k) [] (slice_get-each (split_line d key coins) (suc d) k (omega arith))
