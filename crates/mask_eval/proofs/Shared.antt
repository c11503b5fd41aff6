-- Words shared with coins: step by step, lane by lane, and what the shares stand for.
use Rattle.std.proofs.Common.{◌≡◌, ℕ, suc, ◌+◌, ◌*◌, ◌<◌, Bool, List, [], ◌∷◌, ◌++◌, length, map, take, drop, get_or, set, fold, refl, ap, ap₂, sym, ◌∙◌, arith, length-drop, append_assoc}
use Rattle.std.specs.List.{concat}
use Rattle.std.proofs.lemmas.List.{take_more, take_more_set, drop-drop, get_or-drop, take-map, drop-map, length-take-le, map-append}
use Rattle.mask_circuit.specs.Value.{xor}
use Rattle.mask_bits.specs.Reading.{bit}
use Rattle.mask_bits.specs.Lanes.{lane}
use Rattle.mask_circuit.specs.Ring.{Ring, bits, words}
use Rattle.mask_laws.proofs.BitSums.{shared-unmasks}
use Rattle.mask_shares.specs.Sharing.{shared, all_shared, unmasked}
use Rattle.mask_gadget.proofs.Lanes.{Keeps, keeps_lane}
use Rattle.mask_tape.specs.Drawn.{Drawn, ahead}
use Rattle.mask_eval.specs.Watching.{value_by_value}

-- one coin more
pub ahead_more : (n : ℕ) (c : Drawn) → c.used + n < length c.words → ahead (n + 1) c ≡ ahead n c ++ get_or c.words (c.used + n) 0 ∷ []
ahead_more n c lt =
    let within : n < length (drop c.used c.words) = omega (arith, length-drop c.used c.words) in
    take_more (drop c.used c.words) n 0 within ∙ ap (λ (x : ℕ). ahead n c ++ x ∷ []) (get_or-drop c.used c.words n 0)

-- LANES

module _ {X Y : Type 0} (R : Ring X) (S : Ring Y) (h : X → Y) (keeps : Keeps R S h) where
  pub fold-keeps : (x : X) (xs : List X) → h (fold R.add x xs) ≡ fold S.add (h x) (map h xs)
  fold-keeps x [] = refl
  fold-keeps x (y ∷ ys) = fold-keeps (R.add x y) ys ∙ ap (λ (z : Y). fold S.add z (map h ys)) (keeps.add x y)

  shared-keeps : (x : X) (coins : List X) → map h (shared R x coins) ≡ shared S (h x) (map h coins)
  shared-keeps x coins = ap (λ (z : Y). z ∷ map h coins) (fold-keeps x coins)

  -- the shares of all values are kept
  pub all_shared-keeps : (d : ℕ) (xs coins : List X) → map (map h) (all_shared R d xs coins) ≡ all_shared S d (map h xs) (map h coins)
  all_shared-keeps d [] coins = refl
  all_shared-keeps d (x ∷ xs) coins =
      ap₂ (λ (s : List Y) (ss : List (List Y)). s ∷ ss)
      (shared-keeps x (take d coins) ∙ ap (shared S (h x)) (sym (take-map h d coins)))
      (all_shared-keeps d xs (drop d coins) ∙ ap (all_shared S d (map h xs)) (sym (drop-map h d coins)))

-- so in each lane the shares of words are those of the lane's bits
pub all_shared_in_lane : (l d : ℕ) (ws coins : List ℕ) → map (lane l) (all_shared words d ws coins) ≡ all_shared bits d (lane l ws) (lane l coins)
all_shared_in_lane l d ws coins = all_shared-keeps words bits (bit l) (keeps_lane l) d ws coins

-- and the word that shares stand for has in each lane the bit that the lane's shares stand for
pub unmasked_in_lane : (l : ℕ) (shares : List ℕ) → bit l (unmasked words shares) ≡ unmasked bits (lane l shares)
unmasked_in_lane l shares =
    fold-keeps words bits (bit l) (keeps_lane l) 0 shares
    ∙ ap (λ (b : Bool). fold xor b (lane l shares)) (keeps_lane l).nought

-- the words of all values in a lane
pub lane-concat : (l : ℕ) (values : List (List ℕ)) → lane l (concat values) ≡ value_by_value (map (lane l) values)
lane-concat l [] = refl
lane-concat l (value ∷ values) = map-append (bit l) value (concat values) ∙ ap (λ (bs : List Bool). lane l value ++ bs) (lane-concat l values)

-- WHAT SHARES STAND FOR

pub all_shared-unmask : (d : ℕ) (bs coins : List Bool) → map (unmasked bits) (all_shared bits d bs coins) ≡ bs
all_shared-unmask d [] coins = refl
all_shared-unmask d (b ∷ bs) coins =
    ap₂ (λ (c : Bool) (cs : List Bool). c ∷ cs) (shared-unmasks b (take d coins)) (all_shared-unmask d bs (drop d coins))

-- STEPS

module _ {X : Type 0} (R : Ring X) where
  -- one value more
  pub all_shared-push : (d : ℕ) (xs : List X) (x : X) (coins : List X) →
      all_shared R d (xs ++ x ∷ []) coins ≡ all_shared R d xs coins ++ shared R x (take d (drop (d * length xs) coins)) ∷ []
  all_shared-push d [] x coins = let none : 0 ≡ d * 0 = omega arith in ap (λ (n : ℕ). shared R x (take d (drop n coins)) ∷ []) none
  all_shared-push d (y ∷ ys) x coins =
      let more : d + d * length ys ≡ d * suc (length ys) = omega arith in
      ap (λ (ss : List (List X)). shared R y (take d coins) ∷ ss)
      (all_shared-push d ys x (drop d coins)
      ∙ ap (λ (cs : List X). all_shared R d ys (drop d coins) ++ shared R x (take d cs) ∷ [])
      (drop-drop (d * length ys) d coins ∙ ap (λ (n : ℕ). drop n coins) more))

-- one word more is shared, behind values that stay
pub shared_more : (d k start used : ℕ) (ws coins : List ℕ) (values front : List (List ℕ)) (shares : List ℕ) → k < length ws → start + k < length values →
    take (start + k) values ≡ front ++ all_shared words d (take k ws) (drop used coins) →
    shares ≡ shared words (get_or ws k 0) (take d (drop (used + d * k) coins)) →
    take (start + (k + 1)) (set values (start + k) shares) ≡ front ++ all_shared words d (take (k + 1) ws) (drop used coins)
shared_more d k start used ws coins values front shares lt room before made =
    ap (λ (n : ℕ). take n (set values (start + k) shares)) more
    ∙ take_more_set values (start + k) shares room
    ∙ ap (λ (vs : List (List ℕ)). vs ++ shares ∷ []) before
    ∙ append_assoc front (all_shared words d (take k ws) (drop used coins)) (shares ∷ [])
    ∙ ap (λ (vs : List (List ℕ)). front ++ vs)
    (ap (λ (v : List ℕ). all_shared words d (take k ws) (drop used coins) ++ v ∷ [])
    (made ∙ ap (λ (cs : List ℕ). shared words (get_or ws k 0) (take d cs)) there)
    ∙ sym (all_shared-push words d (take k ws) (get_or ws k 0) (drop used coins))
    ∙ ap (λ (xs : List ℕ). all_shared words d xs (drop used coins)) (sym (take_more ws k 0 lt)))
  where
    more : start + (k + 1) ≡ start + k + 1
    more = omega arith

    there : drop (used + d * k) coins ≡ drop (d * length (take k ws)) (drop used coins)
    there =
        sym (drop-drop (d * k) used coins) ∙ ap (λ (n : ℕ). drop (d * n) (drop used coins)) (sym (length-take-le k ws (omega arith)))
