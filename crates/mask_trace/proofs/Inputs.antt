-- The shares of inputs part by part, and lane by lane.
use Rattle.std.proofs.Common.{◌≡◌, ℕ, zero, suc, pred, ◌+◌, ◌*◌, Bool, true, false, cond, ◌==◌, List, [], ◌∷◌, ◌++◌, map, length, take, drop, get_or, refl, ap, ap₂, sym, ◌∙◌, arith}
use Rattle.std.proofs.lemmas.List.{map-append, drop-drop}
use Rattle.mask_bits.specs.Reading.{bit}
use Rattle.mask_bits.specs.Lanes.{lane}
use Rattle.mask_circuit.specs.Ring.{bits, words}
use Rattle.mask_circuit.specs.Wires.{each, on_first}
use Rattle.mask_circuit.specs.Sharing.{shared, all_shared}
use Rattle.mask_tape.proofs.Lanes.{bit-nought}
use Rattle.mask_shares.proofs.Lists.{each-get_or}
use Rattle.mask_eval.proofs.Shared.{all_shared_in_lane}
use Rattle.mask_trace.specs.Steps.{InputBit, Public, Plain, Key, State, Registers, plain_bits}
use Rattle.mask_trace.specs.Traces.{BitShares, input_shares}
use Rattle.mask_trace.specs.Lanes.{InputsStandInParts, WordsAreInputs}

-- PARTS

both : (N : ℕ) (have : Registers BitShares) (is js : List InputBit) (r : List Bool) →
    input_shares N have (is ++ js) r ≡ input_shares N have is r ++ input_shares N have js (drop (pred N * length (plain_bits is)) r)
both N have [] js r = let none : 0 ≡ pred N * 0 = omega arith in ap (λ (k : ℕ). input_shares N have js (drop k r)) none
both N have (Public b ∷ is) js r = ap (λ (ss : List BitShares). each (on_first bits b) N ∷ ss) (both N have is js r)
both N have (Plain b ∷ is) js r =
    let more : pred N + pred N * length (plain_bits is) ≡ pred N * suc (length (plain_bits is)) = omega arith in
    ap (λ (ss : List BitShares). shared bits b (take (pred N) r) ∷ ss)
    (both N have is js (drop (pred N) r)
    ∙ ap (λ (rest : List Bool). input_shares N have is (drop (pred N) r) ++ input_shares N have js rest)
    (drop-drop (pred N * length (plain_bits is)) (pred N) r ∙ ap (λ (k : ℕ). drop k r) more))
both N have (Key k ∷ is) js r = ap (λ (ss : List BitShares). get_or have.key k [] ∷ ss) (both N have is js r)
both N have (State k ∷ is) js r = ap (λ (ss : List BitShares). get_or have.state k [] ∷ ss) (both N have is js r)

bits_of_both : (is js : List InputBit) → plain_bits (is ++ js) ≡ plain_bits is ++ plain_bits js
bits_of_both [] js = refl
bits_of_both (Public b ∷ is) js = bits_of_both is js
bits_of_both (Plain b ∷ is) js = ap (λ (bs : List Bool). b ∷ bs) (bits_of_both is js)
bits_of_both (Key k ∷ is) js = bits_of_both is js
bits_of_both (State k ∷ is) js = bits_of_both is js

bits_of_key : (n : ℕ) → plain_bits (each Key n) ≡ []
bits_of_key zero = refl
bits_of_key (suc n) = bits_of_both (each Key n) (Key n ∷ []) ∙ ap (λ (bs : List Bool). bs ++ []) (bits_of_key n)

bits_of_state : (n : ℕ) → plain_bits (each State n) ≡ []
bits_of_state zero = refl
bits_of_state (suc n) = bits_of_both (each State n) (State n ∷ []) ∙ ap (λ (bs : List Bool). bs ++ []) (bits_of_state n)

keys : (N : ℕ) (have : Registers BitShares) (n : ℕ) (r : List Bool) → input_shares N have (each Key n) r ≡ each (λ k. get_or have.key k []) n
keys N have zero r = refl
keys N have (suc n) r =
    both N have (each Key n) (Key n ∷ []) r ∙ ap (λ (ss : List BitShares). ss ++ get_or have.key n [] ∷ []) (keys N have n r)

pub states : (N : ℕ) (have : Registers BitShares) (n : ℕ) (r : List Bool) → input_shares N have (each State n) r ≡ each (λ k. get_or have.state k []) n
states N have zero r = refl
states N have (suc n) r =
    both N have (each State n) (State n ∷ []) r ∙ ap (λ (ss : List BitShares). ss ++ get_or have.state n [] ∷ []) (states N have n r)

publics : (N : ℕ) (have : Registers BitShares) (bs r : List Bool) → input_shares N have (map Public bs) r ≡ map (λ b. each (on_first bits b) N) bs
publics N have [] r = refl
publics N have (b ∷ bs) r = ap (λ (ss : List BitShares). each (on_first bits b) N ∷ ss) (publics N have bs r)

bits_of_publics : (bs : List Bool) → plain_bits (map Public bs) ≡ []
bits_of_publics [] = refl
bits_of_publics (b ∷ bs) = bits_of_publics bs

plains : (N : ℕ) (have : Registers BitShares) (bs r : List Bool) → input_shares N have (map Plain bs) r ≡ all_shared bits (pred N) bs r
plains N have [] r = refl
plains N have (b ∷ bs) r = ap (λ (ss : List BitShares). shared bits b (take (pred N) r) ∷ ss) (plains N have bs (drop (pred N) r))

bits_of_plains : (bs : List Bool) → plain_bits (map Plain bs) ≡ bs
bits_of_plains [] = refl
bits_of_plains (b ∷ bs) = ap (λ (cs : List Bool). b ∷ cs) (bits_of_plains bs)

pub inputs_stand_in_parts : InputsStandInParts
inputs_stand_in_parts = record {
  both = both;
  bits_of_both = bits_of_both;
  key = λ N have r. keys N have (length have.key) r ∙ each-get_or have.key [];
  bits_of_key = bits_of_key;
  state = λ N have r. states N have (length have.state) r ∙ each-get_or have.state [];
  bits_of_state = bits_of_state;
  publics = publics;
  bits_of_publics = bits_of_publics;
  plains = plains;
  bits_of_plains = bits_of_plains;
}

-- LANES

-- a word of zeros has no bit, and share 0 alone has a public word
on_first-lane : (l w i : ℕ) → bit l (on_first words w i) ≡ on_first bits (bit l w) i
on_first-lane l w i = go (i == 0)
  where
    go : (b : Bool) → bit l (cond b w 0) ≡ cond b (bit l w) false
    go true = refl
    go false = bit-nought l

each-lane : (l w n : ℕ) → lane l (each (on_first words w) n) ≡ each (on_first bits (bit l w)) n
each-lane l w zero = refl
each-lane l w (suc n) =
    map-append (bit l) (each (on_first words w) n) (on_first words w n ∷ [])
    ∙ ap₂ (λ (bs : List Bool) (b : Bool). bs ++ b ∷ []) (each-lane l w n) (on_first-lane l w n)

pub publics-lane : (l N : ℕ) (ws : List ℕ) → map (lane l) (map (λ w. each (on_first words w) N) ws) ≡ map (λ b. each (on_first bits b) N) (lane l ws)
publics-lane l N [] = refl
publics-lane l N (w ∷ ws) = ap₂ (λ (s : BitShares) (ss : List BitShares). s ∷ ss) (each-lane l w N) (publics-lane l N ws)

pub words_are_inputs : WordsAreInputs
words_are_inputs l N have key ps ms coins same =
    let n = length have.key in
    let r = lane l coins in
    let none : pred N * 0 ≡ 0 = omega arith in
    let behind_key : drop (pred N * length (plain_bits (each Key n))) r ≡ r
    = ap (λ (bs : List Bool). drop (pred N * length bs) r) (bits_of_key n) ∙ ap (λ (k : ℕ). drop k r) none in
    let behind_publics : drop (pred N * length (plain_bits (map Public (lane l ps)))) r ≡ r
    = ap (λ (bs : List Bool). drop (pred N * length bs) r) (bits_of_publics (lane l ps)) ∙ ap (λ (k : ℕ). drop k r) none in
    let shares_of_words = map (λ w. each (on_first words w) N) ps in
    let rest : map (lane l) (shares_of_words ++ all_shared words (pred N) ms coins) ≡ input_shares N have (map Public (lane l ps) ++ map Plain (lane l ms)) r
    = map-append (lane l) shares_of_words (all_shared words (pred N) ms coins)
    ∙ ap₂ (λ (xs ys : List BitShares). xs ++ ys)
    (publics-lane l N ps ∙ sym (publics N have (lane l ps) r))
    (all_shared_in_lane l (pred N) ms coins ∙ sym (plains N have (lane l ms) r) ∙ ap (input_shares N have (map Plain (lane l ms))) (sym behind_publics))
    ∙ sym (both N have (map Public (lane l ps)) (map Plain (lane l ms)) r) in
    map-append (lane l) key (shares_of_words ++ all_shared words (pred N) ms coins)
    ∙ ap₂ (λ (xs ys : List BitShares). xs ++ ys)
    (same ∙ sym (keys N have n r ∙ each-get_or have.key []))
    (rest ∙ ap (input_shares N have (map Public (lane l ps) ++ map Plain (lane l ms))) (sym behind_key))
    ∙ sym (both N have (each Key n) (map Public (lane l ps) ++ map Plain (lane l ms)) r)
