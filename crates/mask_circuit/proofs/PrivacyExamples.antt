-- The definitions of privacy at worked examples, computed.
use Rattle.std.proofs.Common.{◌≡◌, true, false, [], ◌∷◌, refl, map}
use Rattle.mask_circuit.specs.declared.gates.Gate.TheVariants.{And, Ref}
use Rattle.mask_circuit.specs.Netlist.{Netlist}
use Rattle.mask_circuit.specs.Wires.{each}
use Rattle.mask_circuit.specs.Privacy.{sharing, private_hits, call_seen, call_hits}

-- The bits 1 and 0 in three shares with the coins 1, 0 and 1, 1.
sharing_of_two : map (λ u. each (sharing 3 (true ∷ false ∷ []) (true ∷ false ∷ true ∷ true ∷ []) u) 3) (0 ∷ 1 ∷ [])
    ≡ (false ∷ true ∷ false ∷ []) ∷ (false ∷ true ∷ true ∷ []) ∷ []
sharing_of_two = refl

-- A product on two shares: of its 8 sharings and tapes 2 show 1 on a_0 · b_1, whatever the input bits are ..
product : Netlist
product = record { inputs = 2; gates = And 0 1 ∷ []; outputs = 2 ∷ [] }

product_hits : map (λ x. private_hits product 2 x (5 ∷ []) (true ∷ []))
    ((false ∷ false ∷ []) ∷ (false ∷ true ∷ []) ∷ (true ∷ false ∷ []) ∷ (true ∷ true ∷ []) ∷ []) ≡ 2 ∷ 2 ∷ 2 ∷ 2 ∷ []
unfolding product
product_hits = refl

-- .. but both shares of an input are wires too many: only with the bit 0 are they the same.
two_shares_hits : map (λ x. private_hits product 2 x (0 ∷ 1 ∷ []) (true ∷ true ∷ []))
    ((false ∷ false ∷ []) ∷ (false ∷ true ∷ []) ∷ (true ∷ false ∷ []) ∷ (true ∷ true ∷ []) ∷ []) ≡ 4 ∷ 4 ∷ 0 ∷ 0 ∷ []
unfolding product
two_shares_hits = refl

-- A refresh of the bit 1 on two shares, with the tape 1, 1: the first coin shares it as (0, 1), and the refresh draws the
-- second one.
refresh : Netlist
refresh = record { inputs = 1; gates = Ref 0 ∷ []; outputs = 1 ∷ [] }

refresh_seen : call_seen refresh 2 (true ∷ []) (true ∷ true ∷ []) (0 ∷ 1 ∷ 2 ∷ 3 ∷ 4 ∷ []) ≡ false ∷ true ∷ true ∷ true ∷ false ∷ []
unfolding refresh
refresh_seen = refl

-- of the 4 tapes 2 show 1 on the first output share
refresh_hits : map (λ x. call_hits refresh 2 x (3 ∷ []) (true ∷ [])) ((false ∷ []) ∷ (true ∷ []) ∷ []) ≡ 2 ∷ 2 ∷ []
unfolding refresh
refresh_hits = refl
