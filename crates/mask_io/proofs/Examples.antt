-- The words of the outside at worked examples, computed.
use Rattle.std.proofs.Common.{◌≡◌, ◌^◌, ◌-◌, true, false, [], ◌∷◌, Some, refl, arith, lit<, lit≤}
use Rattle.mask_io.specs.Outside.{faults_after, Rose, Gives, Takes, IsProperPrefix, AppendsProperPrefix}

-- a call that fails is counted once, and another isn't
one_fault : faults_after true 3 ≡ 4
one_fault = refl

no_fault : faults_after false 3 ≡ 3
no_fault = refl

last_count : faults_after true (2 ^ 64 - 1) ≡ 2 ^ 64 - 1
last_count = refl

-- a count that goes from 3 to 4 rose, and one that stays at 3 didn't
rises : Rose 3 4
rises = lit≤ tt

stays : Rose 3 3 → ⊥
stays h = omega arith

-- at its last value it counts as risen
at_its_end : Rose (2 ^ 64 - 1) (2 ^ 64 - 1)
at_its_end = lit≤ tt

-- two bytes of three were read into a buffer of four
two_of_three : Gives (Some (1 ∷ 2 ∷ 3 ∷ [])) (Some (3 ∷ [])) (9 ∷ 9 ∷ 9 ∷ 9 ∷ []) (1 ∷ 2 ∷ 9 ∷ 9 ∷ []) 2
two_of_three = record { bound = lit≤ tt; taken = refl; rest_stays = refl; none_at_end = λ none room. absurd (omega arith) }

-- all that was left was drawn
all_drawn : Takes (Some (1 ∷ 2 ∷ [])) (Some []) (1 ∷ 2 ∷ [])
all_drawn = refl

-- the empty list is a proper prefix, and the whole is none
nothing_of_one : IsProperPrefix [] (1 ∷ [])
nothing_of_one = (lit< tt, refl)

not_the_whole : IsProperPrefix (1 ∷ []) (1 ∷ []) → ⊥
not_the_whole h = omega (arith, h.0)

-- one byte of two was appended
one_of_two : AppendsProperPrefix (Some (7 ∷ [])) (Some (7 ∷ 1 ∷ [])) (1 ∷ 2 ∷ [])
one_of_two = (1 ∷ [], (lit< tt, refl), refl)
