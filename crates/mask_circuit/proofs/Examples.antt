-- The definitions of masking at worked examples, computed.
use Rattle.std.proofs.Common.{◌≡◌, ℕ, Bool, true, false, List, [], ◌∷◌, refl, map}
use Rattle.std.specs.List.{slice_index_or}
use Rattle.mask_circuit.specs.declared.gates.Gate.TheVariants.{Xor, And, Ref}
use Rattle.mask_circuit.specs.Netlist.{Netlist}
use Rattle.mask_circuit.specs.Value.{plain}
use Rattle.mask_circuit.specs.Ring.{bits}
use Rattle.mask_circuit.specs.declared.gates.Wire.{Wire}
use Rattle.mask_circuit.specs.declared.gates.Wire.TheVariants.{Share}
use Rattle.mask_circuit.specs.Wires.{Shares, pairs, each, product_names, refresh_names, gate_wires, gate_out}
use Rattle.mask_circuit.specs.Expansion.{draws, wire_count}
use Rattle.mask_circuit.specs.Probing.{hits, seen}
use Rattle.mask_circuit.specs.Need.{need, left_need, right_need, refresh_need, ShareSet}
use Rattle.mask_circuit.specs.Shift.{product_mask, refresh_mask, shift}

-- the shares of one value, from a list
listed : List Bool → Shares Bool
listed bs i = slice_index_or bs i false

-- the shares of each value, from a list of lists
all_listed : List (List Bool) → ℕ → Shares Bool
all_listed bss u = listed (slice_index_or bss u [])

-- which of the first n shares are in a set
members : ℕ → ShareSet → List Bool
members n set = each set n

-- the names of the wires of these local numbers
local : List Wire → List ℕ → List Wire
local names = map (λ p. slice_index_or names p (Share 0))

-- a mask as bits, pair by pair
by_pairs : ℕ → (ℕ → ℕ → Bool) → List Bool
by_pairs n mask = map (λ p. mask p.0 p.1) (pairs n)

-- A product on two shares, (1, 0) and (1, 1), with the fresh bit 1.
product_out : gate_out bits 2 (And 0 1) (all_listed ((true ∷ false ∷ []) ∷ (true ∷ true ∷ []) ∷ [])) (true ∷ []) ≡ false ∷ false ∷ []
unfolding all_listed listed
product_out = refl

product_wires : gate_wires bits 2 (And 0 1) (all_listed ((true ∷ false ∷ []) ∷ (true ∷ true ∷ []) ∷ [])) (true ∷ [])
    ≡ true ∷ true ∷ false ∷ false ∷ true ∷ false ∷ false ∷ false ∷ false ∷ []
unfolding all_listed listed
product_wires = refl

-- A refresh of three shares (1, 0, 0) with the fresh bits 1, 0, 1.
refresh_out : gate_out bits 3 (Ref 0) (all_listed ((true ∷ false ∷ false ∷ []) ∷ [])) (true ∷ false ∷ true ∷ []) ≡ false ∷ false ∷ true ∷ []
unfolding all_listed listed
refresh_out = refl

refresh_wires : gate_wires bits 3 (Ref 0) (all_listed ((true ∷ false ∷ false ∷ []) ∷ [])) (true ∷ false ∷ true ∷ [])
    ≡ true ∷ false ∷ true ∷ false ∷ false ∷ false ∷ true ∷ false ∷ true ∷ []
unfolding all_listed listed
refresh_wires = refl

-- Needs of gadgets: in a product on three shares the first partial sum of its first row and v of the pair (0, 1) ..
product_left_need : members 3 (left_need (local (product_names 3) (18 ∷ 10 ∷ []))) ≡ true ∷ false ∷ false ∷ []
unfolding members local
product_left_need = refl

product_right_need : members 3 (right_need (local (product_names 3) (18 ∷ 10 ∷ []))) ≡ true ∷ true ∷ false ∷ []
unfolding members local
product_right_need = refl

-- .. v alone, which demands nothing ..
lone_right_need : members 3 (right_need (local (product_names 3) (10 ∷ []))) ≡ false ∷ false ∷ false ∷ []
unfolding members local
lone_right_need = refl

-- .. and in a refresh the first update of share 0.
update_need : members 3 (refresh_need (local (refresh_names 3) (1 ∷ []))) ≡ true ∷ false ∷ false ∷ []
unfolding members local
update_need = refl

-- Masks of gadgets: output share 0 of a refresh whose shares change from (0, 0) to (1, 1) ..
refresh_mask_two : by_pairs 2 (refresh_mask 2 [] (λ i. slice_index_or (true ∷ []) i false) (record { one = listed (false ∷ false ∷ []); two = listed (true ∷ true ∷ []) }))
    ≡ true ∷ []
unfolding by_pairs listed
refresh_mask_two = refl

-- .. output share 0 of a product whose operands change from (1, 0) and (1, 0) to zeros ..
product_mask_two : by_pairs 2 (product_mask 2 [] (λ i. slice_index_or (true ∷ []) i false)
    (record { one = listed (true ∷ false ∷ []); two = listed (false ∷ false ∷ []) })
    (record { one = listed (true ∷ false ∷ []); two = listed (false ∷ false ∷ []) }))
    ≡ true ∷ []
unfolding by_pairs listed
product_mask_two = refl

-- .. and v of the pair (0, 1), whose term a_0 · b_1 changes.
product_mask_three : by_pairs 3 (product_mask 3 (local (product_names 3) (10 ∷ [])) (λ i. false)
    (record { one = listed (true ∷ false ∷ false ∷ []); two = listed (false ∷ false ∷ false ∷ []) })
    (record { one = listed (false ∷ true ∷ false ∷ []); two = listed (false ∷ false ∷ false ∷ []) }))
    ≡ true ∷ false ∷ false ∷ []
unfolding by_pairs listed local
product_mask_three = refl

-- A product whose second operand is refreshed: on two shares 16 wires, and probing a_0 · b_1 is worth share 0 of input 0.
refreshed_product : Netlist
refreshed_product = record { inputs = 2; gates = Ref 1 ∷ And 0 2 ∷ []; outputs = 3 ∷ [] }

refreshed_product_wires : wire_count refreshed_product 2 ≡ 16
unfolding refreshed_product
refreshed_product_wires = refl

refreshed_product_need : map (λ v. members 2 (need refreshed_product 2 (8 ∷ []) v)) (0 ∷ 1 ∷ []) ≡ (true ∷ false ∷ []) ∷ (false ∷ false ∷ []) ∷ []
unfolding refreshed_product members
refreshed_product_need = refl

-- A product of two inputs on three shares: the first partial sum of its first row and v of the pair (0, 1);
-- then the last partial sum of that row, an output share.
lone_product : Netlist
lone_product = record { inputs = 2; gates = And 0 1 ∷ []; outputs = 2 ∷ [] }

lone_product_need : map (λ v. members 3 (need lone_product 3 (24 ∷ 16 ∷ []) v)) (0 ∷ 1 ∷ []) ≡ (true ∷ false ∷ false ∷ []) ∷ (true ∷ true ∷ false ∷ []) ∷ []
unfolding lone_product members
lone_product_need = refl

lone_output_need : map (λ v. members 3 (need lone_product 3 (25 ∷ []) v)) (0 ∷ 1 ∷ []) ≡ (false ∷ false ∷ false ∷ []) ∷ (false ∷ false ∷ false ∷ []) ∷ []
unfolding lone_product members
lone_output_need = refl

-- A refresh on two shares: from (0, 0) to (1, 1) with output share 0 probed the tape 0 becomes 1.
lone_refresh : Netlist
lone_refresh = record { inputs = 1; gates = Ref 0 ∷ []; outputs = 1 ∷ [] }

lone_refresh_shift : shift lone_refresh 2 (all_listed ((false ∷ false ∷ []) ∷ [])) (all_listed ((true ∷ true ∷ []) ∷ [])) (3 ∷ []) (false ∷ []) ≡ true ∷ []
unfolding lone_refresh all_listed listed
lone_refresh_shift = refl

lone_refresh_seen : seen lone_refresh 2 (all_listed ((true ∷ true ∷ []) ∷ [])) (true ∷ []) (3 ∷ []) ≡ false ∷ []
unfolding lone_refresh all_listed listed
lone_refresh_seen = refl

-- The circuit of two inputs whose sum is refreshed and multiplied by the first: 4 draws of random bits beside the two
-- of the inputs, and its plain values on (1, 0) and (1, 1).
example : Netlist
example = record { inputs = 2; gates = Xor 0 1 ∷ Ref 2 ∷ And 0 3 ∷ []; outputs = 4 ∷ [] }

example_draws : (draws example 2 ∷ draws example 8 ∷ []) ≡ 2 ∷ 56 ∷ []
unfolding example
example_draws = refl

example_plain : (plain example (true ∷ false ∷ []) ∷ plain example (true ∷ true ∷ []) ∷ []) ≡ (true ∷ []) ∷ (false ∷ []) ∷ []
unfolding example
example_plain = refl

-- A product of a bit by itself is not accepted, and rightly so: a_0 · a_1 shows more of (1, 1) than of (1, 0) ..
squared : Netlist
squared = record { inputs = 1; gates = And 0 0 ∷ []; outputs = 1 ∷ [] }

-- .. on two shares, since all tapes show 1 on the one side and none on the other.
squared_hits : (hits squared 2 (all_listed ((true ∷ true ∷ []) ∷ [])) (3 ∷ []) (true ∷ []) ∷ hits squared 2 (all_listed ((true ∷ false ∷ []) ∷ [])) (3 ∷ []) (true ∷ []) ∷ [])
    ≡ 2 ∷ 0 ∷ []
unfolding squared all_listed listed
squared_hits = refl
