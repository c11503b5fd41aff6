-- The demands of a list of probes are those of its parts.
--
-- Which row of a product is touched is a matter of all probes, T below; apart from that each probe demands by itself.
use Rattle.std.proofs.Common.{◌≡◌, ℕ, suc, ◌<◌, Bool, true, false, ◌&&◌, ◌||◌, ◌==◌, List, [], ◌∷◌, ◌++◌, refl, ap, ap₂, sym, subst, ◌∙◌, ⊎_elim, eqb-true}
use Rattle.std.specs.List.{list_any}
use Rattle.std.proofs.lemmas.Bool.{and_parts, or_cases, false≢true}
use Rattle.std.proofs.lemmas.List.Elements.{filter_map-append}
use Rattle.std.proofs.lemmas.List.Folds.{list_any-append}
use Rattle.mask_circuit.specs.declared.gates.Gate.{Gate}
use Rattle.mask_circuit.specs.declared.gates.Gate.TheVariants.{Zero, One, Xor, Not, And, Ref}
use Rattle.mask_circuit.specs.Netlist.{OperandsBelow}
use Rattle.mask_circuit.specs.declared.gates.Wire.{Wire}
use Rattle.mask_circuit.specs.declared.gates.Wire.TheVariants.{Share}
use Rattle.mask_circuit.specs.Expansion.{CircuitWire}
use Rattle.mask_circuit.specs.Probing.{ShareSets, same_wire}
use Rattle.mask_circuit.specs.Need.{ShareSet, inner_probes, probed_shares, is_of_row, product_rows, demands_left, demands_right, left_need, is_update_of, refresh_need, demand, need_from}

-- the shares of a product's second operand that the probes Q demand, where the rows T are touched
abbrev pub right_part : ShareSet → List Wire → ShareSet
right_part T Q i = product_rows Q i || list_any (demands_right T i) Q

-- the shares of value v that a gate demands for the inner probes Q and the demanded shares O
abbrev pub demand_part : ShareSet → Gate → List Wire → ShareSet → ShareSets
demand_part T Zero Q O v i = false
demand_part T One Q O v i = false
demand_part T (Xor u w) Q O v i = (v == u || v == w) && O i
demand_part T (Not u) Q O v i = v == u && O i
demand_part T (And u w) Q O v i = (v == u && left_need Q i) || (v == w && right_part T Q i)
demand_part T (Ref u) Q O v i = v == u && refresh_need Q i

-- the shares that these gates demand for the probes L, where T has the touched rows of each product
abbrev pub need_part : (ℕ → ShareSet) → List CircuitWire → List Gate → ℕ → ShareSets
need_part T L [] n v i = probed_shares L v i
need_part T L (g ∷ gs) n v i = need_part T L gs (suc n) v i || demand_part (T n) g (inner_probes n L) (need_part T L gs (suc n) n) v i

-- the rows of each product that the probes touch
abbrev pub touched : List CircuitWire → ℕ → ShareSet
touched P n = product_rows (inner_probes n P)

pub demand-part : (g : Gate) (Q : List Wire) (O : ShareSet) (v i : ℕ) → demand g Q O v i ≡ demand_part (product_rows Q) g Q O v i
demand-part Zero Q O v i = refl
demand-part g Q O v i = refl

-- a gate demands shares of its operands alone
pub demand_part-below : (T : ShareSet) (n : ℕ) (g : Gate) (Q : List Wire) (O : ShareSet) (v i : ℕ) → OperandsBelow n g → demand_part T g Q O v i ≡ true → v < n
demand_part-below T n Zero Q O v i below d = absurd (false≢true d)
demand_part-below T n One Q O v i below d = absurd (false≢true d)
demand_part-below T n (Xor u w) Q O v i below d = ⊎_elim
    (λ e. subst (λ (k : ℕ). k < n) (sym (eqb-true v u e)) below.0)
    (λ e. subst (λ (k : ℕ). k < n) (sym (eqb-true v w e)) below.1)
    (or_cases (v == u) (v == w) (and_parts (v == u || v == w) (O i) d).0)
demand_part-below T n (Not u) Q O v i below d = subst (λ (k : ℕ). k < n) (sym (eqb-true v u (and_parts (v == u) (O i) d).0)) below
demand_part-below T n (And u w) Q O v i below d = ⊎_elim
    (λ e. subst (λ (k : ℕ). k < n) (sym (eqb-true v u (and_parts (v == u) (left_need Q i) e).0)) below.0)
    (λ e. subst (λ (k : ℕ). k < n) (sym (eqb-true v w (and_parts (v == w) (right_part T Q i) e).0)) below.1)
    (or_cases (v == u && left_need Q i) (v == w && right_part T Q i) d)
demand_part-below T n (Ref u) Q O v i below d = subst (λ (k : ℕ). k < n) (sym (eqb-true v u (and_parts (v == u) (refresh_need Q i) d).0)) below

-- all probes together demand what they need
pub need_from-part : (P : List CircuitWire) (gs : List Gate) (n v i : ℕ) → need_from P gs n v i ≡ need_part (touched P) P gs n v i
need_from-part P [] n v i = refl
need_from-part P (g ∷ gs) n v i =
    ap₂ (λ (b : Bool) (O : ShareSet). b || demand g (inner_probes n P) O v i) (need_from-part P gs (suc n) v i) (λ d j. need_from-part P gs (suc n) n j d)
    ∙ ap (λ (b : Bool). need_part (touched P) P gs (suc n) v i || b) (demand-part g (inner_probes n P) (need_part (touched P) P gs (suc n) n) v i)

or_swap : (a b c d : Bool) → ((a || b) || (c || d)) ≡ ((a || c) || (b || d))
or_swap true b c d = refl
or_swap false true true d = refl
or_swap false true false d = refl
or_swap false false c d = refl

and_or : (a b c : Bool) → (a && (b || c)) ≡ ((a && b) || (a && c))
and_or true b c = refl
and_or false b c = refl

-- two unions of two are one of two unions
or_both : (a a' a'' b b' b'' : Bool) → a ≡ (a' || a'') → b ≡ (b' || b'') → (a || b) ≡ ((a' || b') || (a'' || b''))
or_both a a' a'' b b' b'' e f = ap₂ (λ (x y : Bool). x || y) e f ∙ or_swap a' a'' b' b''

product_rows-append : (Q Q' : List Wire) (i : ℕ) → product_rows (Q ++ Q') i ≡ (product_rows Q i || product_rows Q' i)
product_rows-append Q Q' i = list_any-append (is_of_row i) Q Q'

left_need-append : (Q Q' : List Wire) (i : ℕ) → left_need (Q ++ Q') i ≡ (left_need Q i || left_need Q' i)
left_need-append Q Q' i = or_both _ (product_rows Q i) (product_rows Q' i) _ (list_any (demands_left i) Q) (list_any (demands_left i) Q')
    (product_rows-append Q Q' i) (list_any-append (demands_left i) Q Q')

right_part-append : (T : ShareSet) (Q Q' : List Wire) (i : ℕ) → right_part T (Q ++ Q') i ≡ (right_part T Q i || right_part T Q' i)
right_part-append T Q Q' i = or_both _ (product_rows Q i) (product_rows Q' i) _ (list_any (demands_right T i) Q) (list_any (demands_right T i) Q')
    (product_rows-append Q Q' i) (list_any-append (demands_right T i) Q Q')

demand_part-append : (T : ShareSet) (g : Gate) (Q Q' : List Wire) (O O' : ShareSet) (v i : ℕ) →
    demand_part T g (Q ++ Q') (λ j. O j || O' j) v i ≡ (demand_part T g Q O v i || demand_part T g Q' O' v i)
demand_part-append T Zero Q Q' O O' v i = refl
demand_part-append T One Q Q' O O' v i = refl
demand_part-append T (Xor u w) Q Q' O O' v i = and_or (v == u || v == w) (O i) (O' i)
demand_part-append T (Not u) Q Q' O O' v i = and_or (v == u) (O i) (O' i)
demand_part-append T (And u w) Q Q' O O' v i = or_both _ (v == u && left_need Q i) (v == u && left_need Q' i) _ (v == w && right_part T Q i) (v == w && right_part T Q' i)
    (ap (λ (b : Bool). v == u && b) (left_need-append Q Q' i) ∙ and_or (v == u) (left_need Q i) (left_need Q' i))
    (ap (λ (b : Bool). v == w && b) (right_part-append T Q Q' i) ∙ and_or (v == w) (right_part T Q i) (right_part T Q' i))
demand_part-append T (Ref u) Q Q' O O' v i =
    ap (λ (b : Bool). v == u && b) (list_any-append (is_update_of i) Q Q') ∙ and_or (v == u) (refresh_need Q i) (refresh_need Q' i)

pub inner_probes-append : (n : ℕ) (L L' : List CircuitWire) → inner_probes n (L ++ L') ≡ inner_probes n L ++ inner_probes n L'
inner_probes-append n L L' = filter_map-append _ L L'

-- the demands of two lists of probes are those of the one and those of the other
pub need_part-append : (T : ℕ → ShareSet) (L L' : List CircuitWire) (gs : List Gate) (n v i : ℕ) →
    need_part T (L ++ L') gs n v i ≡ (need_part T L gs n v i || need_part T L' gs n v i)
need_part-append T L L' [] n v i = list_any-append (λ p. p.0 == v && same_wire (Share i) p.1) L L'
need_part-append T L L' (g ∷ gs) n v i =
    or_both _ (need_part T L gs (suc n) v i) (need_part T L' gs (suc n) v i) _
    (demand_part (T n) g (inner_probes n L) (need_part T L gs (suc n) n) v i) (demand_part (T n) g (inner_probes n L') (need_part T L' gs (suc n) n) v i)
    (need_part-append T L L' gs (suc n) v i)
    (ap₂ (λ (Q : List Wire) (O : ShareSet). demand_part (T n) g Q O v i) (inner_probes-append n L L') (λ d j. need_part-append T L L' gs (suc n) n j d)
    ∙ demand_part-append (T n) g (inner_probes n L) (inner_probes n L') (need_part T L gs (suc n) n) (need_part T L' gs (suc n) n) v i)
