-- A map that keeps sums and products of a ring takes the wires of a gate to those of the images: so each lane of words
-- has the wires of the gate on its bits.
use Rattle.std.proofs.Common.{◌≡◌, ℕ, zero, suc, pred, ◌<◌, Bool, true, false, cond, ◌&&◌, ◌==◌, nat_lt, List, [], ◌∷◌, length, map, refl, ap, ◌∙◌}
use Rattle.std.proofs.Math.Path.{fun_ext}
use Rattle.std.specs.Int.{bit_at}
use Rattle.std.proofs.lemmas.Nat.Bits.{bit_at_xor, bit_at-lt, bit_at-zero, bit_at_ones}
use Rattle.std.proofs.lemmas.Simd.{map-map}
use Rattle.std.proofs.lemmas.List.{length-map}
use Rattle.mask_bits.specs.Reading.{bit}
use Rattle.mask_bits.specs.Lanes.{lane}
use Rattle.mask_bits.proofs.Words.{bit-and}
use Rattle.mask_circuit.specs.declared.gates.Gate.{Gate}
use Rattle.mask_circuit.specs.declared.gates.Gate.TheVariants.{Zero, One, Xor, Not, And, Ref}
use Rattle.mask_circuit.specs.Ring.{Ring, bits, words}
use Rattle.mask_circuit.specs.declared.gates.Wire.{Wire}
use Rattle.mask_circuit.specs.declared.gates.Wire.TheVariants.{Share, Product, Fresh, Left, Right, Partial}
use Rattle.mask_circuit.specs.Wires.{Pair, Shares, fresh_of, row_sum, cross, product_wire, fresh_between, refresh_wire, share_wire, on_first, gate_wire, gate_wires, gate_out, gate_names, share_names, pairs}
use Rattle.mask_laws.proofs.Bits.{xor_of_digits}
use Rattle.mask_shares.specs.Sharing.{listed, all_listed}

-- a map of one ring to another that keeps nought, sums and products
pub record Keeps {X Y : Type 0} (R : Ring X) (S : Ring Y) (h : X → Y) : Type 0 where
  pub nought : h R.nought ≡ S.nought
  pub add : (x y : X) → h (R.add x y) ≡ S.add (h x) (h y)
  pub mul : (x y : X) → h (R.mul x y) ≡ S.mul (h x) (h y)

module _ {X Y : Type 0} (R : Ring X) (S : Ring Y) (h : X → Y) (keeps : Keeps R S h) where
  row_sum-keeps : (first : X) (term : ℕ → X) (i k : ℕ) → h (row_sum R first term i k) ≡ row_sum S (h first) (λ j. h (term j)) i k
  row_sum-keeps first term i zero = go (i == 0)
    where
      go : (here : Bool) → h (cond here first (R.add first (term 0))) ≡ cond here (h first) (S.add (h first) (h (term 0)))
      go true = refl
      go false = keeps.add first (term 0)
  row_sum-keeps first term i (suc k) = go (row_sum-keeps first term i k) (i == suc k)
    where
      go : h (row_sum R first term i k) ≡ row_sum S (h first) (λ j. h (term j)) i k → (here : Bool) →
          h (cond here (row_sum R first term i k) (R.add (row_sum R first term i k) (term (suc k))))
          ≡ cond here (row_sum S (h first) (λ j. h (term j)) i k) (S.add (row_sum S (h first) (λ j. h (term j)) i k) (h (term (suc k))))
      go up true = up
      go up false = keeps.add _ _ ∙ ap (λ y. S.add y (h (term (suc k)))) up

  fresh_of-keeps : (ps : List Pair) (r : List X) (i j : ℕ) → h (fresh_of R ps r i j) ≡ fresh_of S ps (map h r) i j
  fresh_of-keeps [] r i j = keeps.nought
  fresh_of-keeps (p ∷ ps) [] i j = keeps.nought
  fresh_of-keeps (p ∷ ps) (x ∷ r) i j = go (fresh_of-keeps ps r i j) (p.0 == i && p.1 == j)
    where
      go : h (fresh_of R ps r i j) ≡ fresh_of S ps (map h r) i j → (here : Bool) →
          h (cond here x (fresh_of R ps r i j)) ≡ cond here (h x) (fresh_of S ps (map h r) i j)
      go up true = refl
      go up false = up

  cross-keeps : (a b : Shares X) (r : ℕ → ℕ → X) (i j : ℕ) →
      h (cross R a b r i j) ≡ cross S (λ i. h (a i)) (λ i. h (b i)) (λ i j. h (r i j)) i j
  cross-keeps a b r i j = go (nat_lt i j)
    where
      go : (low : Bool) → h (cond low (r i j) (R.add (R.add (r j i) (R.mul (a j) (b i))) (R.mul (a i) (b j))))
          ≡ cond low (h (r i j)) (S.add (S.add (h (r j i)) (S.mul (h (a j)) (h (b i)))) (S.mul (h (a i)) (h (b j))))
      go true = refl
      go false = rw (keeps.add _ _, keeps.add _ _, keeps.mul (a j) (b i), keeps.mul (a i) (b j)) refl

  product_row-keeps : (a b : Shares X) (r : ℕ → ℕ → X) (i k : ℕ) → h (row_sum R (R.mul (a i) (b i)) (cross R a b r i) i k)
      ≡ row_sum S (S.mul (h (a i)) (h (b i))) (cross S (λ i. h (a i)) (λ i. h (b i)) (λ i j. h (r i j)) i) i k
  product_row-keeps a b r i k =
      row_sum-keeps (R.mul (a i) (b i)) (cross R a b r i) i k
      ∙ ap (λ x. row_sum S x (λ j. h (cross R a b r i j)) i k) (keeps.mul (a i) (b i))
      ∙ ap (λ t. row_sum S (S.mul (h (a i)) (h (b i))) t i k) (fun_ext (cross-keeps a b r i))

  product_wire-keeps : (n : ℕ) (a b : Shares X) (r : ℕ → ℕ → X) (w : Wire) →
      h (product_wire R n a b r w) ≡ product_wire S n (λ i. h (a i)) (λ i. h (b i)) (λ i j. h (r i j)) w
  product_wire-keeps n a b r (Share i) = product_row-keeps a b r i (pred n)
  product_wire-keeps n a b r (Product i j) = keeps.mul (a i) (b j)
  product_wire-keeps n a b r (Fresh i j) = refl
  product_wire-keeps n a b r (Left i j) = rw (keeps.add _ _, keeps.mul (a i) (b j)) refl
  product_wire-keeps n a b r (Right i j) = rw (keeps.add _ _, keeps.add _ _, keeps.mul (a i) (b j), keeps.mul (a j) (b i)) refl
  product_wire-keeps n a b r (Partial i k) = product_row-keeps a b r i k

  fresh_between-keeps : (r : ℕ → ℕ → X) (i j : ℕ) → h (fresh_between r i j) ≡ fresh_between (λ i j. h (r i j)) i j
  fresh_between-keeps r i j = go (nat_lt i j)
    where
      go : (low : Bool) → h (cond low (r i j) (r j i)) ≡ cond low (h (r i j)) (h (r j i))
      go true = refl
      go false = refl

  refresh_row-keeps : (a : Shares X) (r : ℕ → ℕ → X) (i k : ℕ) →
      h (row_sum R (a i) (fresh_between r i) i k) ≡ row_sum S (h (a i)) (fresh_between (λ i j. h (r i j)) i) i k
  refresh_row-keeps a r i k =
      row_sum-keeps (a i) (fresh_between r i) i k ∙ ap (λ t. row_sum S (h (a i)) t i k) (fun_ext (fresh_between-keeps r i))

  refresh_wire-keeps : (n : ℕ) (a : Shares X) (r : ℕ → ℕ → X) (w : Wire) →
      h (refresh_wire R n a r w) ≡ refresh_wire S n (λ i. h (a i)) (λ i j. h (r i j)) w
  refresh_wire-keeps n a r (Share i) = refresh_row-keeps a r i (pred n)
  refresh_wire-keeps n a r (Product i j) = keeps.nought
  refresh_wire-keeps n a r (Fresh i j) = refl
  refresh_wire-keeps n a r (Left i j) = keeps.nought
  refresh_wire-keeps n a r (Right i j) = keeps.nought
  refresh_wire-keeps n a r (Partial i k) = refresh_row-keeps a r i k

  share_wire-keeps : (s : Shares X) (w : Wire) → h (share_wire R s w) ≡ share_wire S (λ i. h (s i)) w
  share_wire-keeps s (Share i) = refl
  share_wire-keeps s (Product i j) = keeps.nought
  share_wire-keeps s (Fresh i j) = keeps.nought
  share_wire-keeps s (Left i j) = keeps.nought
  share_wire-keeps s (Right i j) = keeps.nought
  share_wire-keeps s (Partial i k) = keeps.nought

  -- the unit is kept where the gate reads it
  abbrev pub KeepsUnit : Gate → Type 0
  KeepsUnit Zero = Unit {0}
  KeepsUnit One = h R.unit ≡ S.unit
  KeepsUnit (Xor u v) = Unit {0}
  KeepsUnit (Not u) = h R.unit ≡ S.unit
  KeepsUnit (And u v) = Unit {0}
  KeepsUnit (Ref u) = Unit {0}

  on_first-keeps : (x : X) (i : ℕ) → h (on_first R x i) ≡ on_first S (h x) i
  on_first-keeps x i = go (i == 0)
    where
      go : (first : Bool) → h (cond first x R.nought) ≡ cond first (h x) S.nought
      go true = refl
      go false = keeps.nought

  not-keeps : (s : Shares X) → h R.unit ≡ S.unit → (i : ℕ) →
      h (cond (i == 0) (R.add (s i) R.unit) (s i)) ≡ cond (i == 0) (S.add (h (s i)) S.unit) (h (s i))
  not-keeps s unit i = go (i == 0)
    where
      go : (first : Bool) → h (cond first (R.add (s i) R.unit) (s i)) ≡ cond first (S.add (h (s i)) S.unit) (h (s i))
      go true = keeps.add (s i) R.unit ∙ ap (λ y. S.add (h (s i)) y) unit
      go false = refl

  -- what a wire of a gate carries is kept
  pub gate_wire-keeps : (n : ℕ) (g : Gate) (s : ℕ → Shares X) (r : List X) → KeepsUnit g → (w : Wire) →
      h (gate_wire R n g s r w) ≡ gate_wire S n g (λ u i. h (s u i)) (map h r) w
  gate_wire-keeps n Zero s r unit w = share_wire-keeps _ w ∙ ap (λ t. share_wire S t w) (fun_ext (λ i. keeps.nought))
  gate_wire-keeps n One s r unit w =
      share_wire-keeps _ w ∙ ap (λ t. share_wire S t w) (fun_ext (λ i. on_first-keeps R.unit i ∙ ap (λ x. on_first S x i) unit))
  gate_wire-keeps n (Xor u v) s r unit w =
      share_wire-keeps _ w ∙ ap (λ t. share_wire S t w) (fun_ext (λ i. keeps.add (s u i) (s v i)))
  gate_wire-keeps n (Not u) s r unit w = share_wire-keeps _ w ∙ ap (λ t. share_wire S t w) (fun_ext (not-keeps (s u) unit))
  gate_wire-keeps n (And u v) s r unit w =
      product_wire-keeps n (s u) (s v) (fresh_of R (pairs n) r) w
      ∙ ap (λ f. product_wire S n (λ i. h (s u i)) (λ i. h (s v i)) f w) (fun_ext (λ i. fun_ext (λ j. fresh_of-keeps (pairs n) r i j)))
  gate_wire-keeps n (Ref u) s r unit w =
      refresh_wire-keeps n (s u) (fresh_of R (pairs n) r) w
      ∙ ap (λ f. refresh_wire S n (λ i. h (s u i)) f w) (fun_ext (λ i. fun_ext (λ j. fresh_of-keeps (pairs n) r i j)))

  map-same : (f g : Wire → Y) (ws : List Wire) → ((w : Wire) → f w ≡ g w) → map f ws ≡ map g ws
  map-same f g ws same = ap (λ (k : Wire → Y). map k ws) (fun_ext same)

  -- and so are the wires, and the output shares
  pub gate_wires-keeps : (n : ℕ) (g : Gate) (s : ℕ → Shares X) (r : List X) → KeepsUnit g →
      map h (gate_wires R n g s r) ≡ gate_wires S n g (λ u i. h (s u i)) (map h r)
  gate_wires-keeps n g s r unit =
      map-map h (gate_wire R n g s r) (gate_names n g) ∙ map-same _ _ (gate_names n g) (gate_wire-keeps n g s r unit)

  pub gate_out-keeps : (n : ℕ) (g : Gate) (s : ℕ → Shares X) (r : List X) → KeepsUnit g →
      map h (gate_out R n g s r) ≡ gate_out S n g (λ u i. h (s u i)) (map h r)
  gate_out-keeps n g s r unit =
      map-map h (gate_wire R n g s r) (share_names n) ∙ map-same _ _ (share_names n) (gate_wire-keeps n g s r unit)

  listed-keeps : (xs : List X) (i : ℕ) → h (listed R xs i) ≡ listed S (map h xs) i
  listed-keeps [] i = keeps.nought
  listed-keeps (x ∷ xs) zero = refl
  listed-keeps (x ∷ xs) (suc i) = listed-keeps xs i

  pub all_listed-keeps : (values : List (List X)) → (λ u i. h (all_listed R values u i)) ≡ all_listed S (map (map h) values)
  all_listed-keeps values = fun_ext (λ u. fun_ext (go values u))
    where
      go : (values : List (List X)) (u i : ℕ) → h (all_listed R values u i) ≡ all_listed S (map (map h) values) u i
      go [] u i = keeps.nought
      go (x ∷ values) zero i = listed-keeps x i
      go (x ∷ values) (suc u) i = go values u i

-- each bit of a word keeps what words do
pub keeps_lane : (l : ℕ) → Keeps words bits (bit l)
keeps_lane l = record {
  nought = rw (bit_at-zero l) refl;
  add = λ a b. rw (bit_at_xor a b l) (xor_of_digits (bit_at a l) (bit_at b l) (bit_at-lt a l) (bit_at-lt b l));
  mul = λ a b. bit-and a b l;
}

-- and each of the 64 keeps the unit
pub keeps_unit : (l : ℕ) → l < 64 → bit l words.unit ≡ bits.unit
keeps_unit l lt = rw (bit_at_ones 64 l lt) refl

-- lane by lane, the wires and the output shares of a gate are those of the gate on the operands' bits in that lane
pub wires_in_lane : (l n : ℕ) (g : Gate) (values : List (List ℕ)) (r : List ℕ) → KeepsUnit words bits (bit l) (keeps_lane l) g →
    lane l (gate_wires words n g (all_listed words values) r) ≡ gate_wires bits n g (all_listed bits (map (lane l) values)) (lane l r)
wires_in_lane l n g values r unit =
    gate_wires-keeps words bits (bit l) (keeps_lane l) n g (all_listed words values) r unit
    ∙ ap (λ s. gate_wires bits n g s (lane l r)) (all_listed-keeps words bits (bit l) (keeps_lane l) values)

pub out_in_lane : (l n : ℕ) (g : Gate) (values : List (List ℕ)) (r : List ℕ) → KeepsUnit words bits (bit l) (keeps_lane l) g →
    lane l (gate_out words n g (all_listed words values) r) ≡ gate_out bits n g (all_listed bits (map (lane l) values)) (lane l r)
out_in_lane l n g values r unit =
    gate_out-keeps words bits (bit l) (keeps_lane l) n g (all_listed words values) r unit
    ∙ ap (λ s. gate_out bits n g s (lane l r)) (all_listed-keeps words bits (bit l) (keeps_lane l) values)

-- the same of a result that is known by words
pub out_of_words : (l n : ℕ) (g : Gate) (values : List (List ℕ)) (r result : List ℕ) → KeepsUnit words bits (bit l) (keeps_lane l) g →
    result ≡ gate_out words n g (all_listed words values) r →
    lane l result ≡ gate_out bits n g (all_listed bits (map (lane l) values)) (lane l r)
out_of_words l n g values r result unit e = ap (lane l) e ∙ out_in_lane l n g values r unit

-- how many bits a lane has
pub length-lane : (l n : ℕ) (ws : List ℕ) → length ws ≡ n → length (lane l ws) ≡ n
length-lane l n ws e = length-map ws (bit l) ∙ e

pub wires_of_words : (l n : ℕ) (g : Gate) (values : List (List ℕ)) (r wires : List ℕ) → KeepsUnit words bits (bit l) (keeps_lane l) g →
    wires ≡ gate_wires words n g (all_listed words values) r →
    lane l wires ≡ gate_wires bits n g (all_listed bits (map (lane l) values)) (lane l r)
wires_of_words l n g values r wires unit e = ap (lane l) e ∙ wires_in_lane l n g values r unit
