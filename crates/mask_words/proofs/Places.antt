-- The place at which words are refused is one.
use Rattle.std.proofs.Common.{◌≡◌, ℕ, ◌+◌, ◌<◌, ◌≤◌, List, length, inl, inr, arith}
use Rattle.std.proofs.lemmas.Bool.{cases_order}
use Rattle.mask_words.specs.WordTests.{Word}
use Rattle.mask_words.specs.Jobs.{IsRefused}

-- no place below another one is one
not_below : (ws : List Word) (p q : ℕ) → IsRefused ws p → IsRefused ws q → p < q → ⊥
not_below ws p q at_p at_q h =
    let bound : q ≤ length ws + 1 = elim at_q.stops [ inl end ↦ omega arith | inr s ↦ omega arith ] in
    elim at_p.stops [ inl end ↦ omega arith | inr s ↦ s.1 (at_q.least p h) ]

pub refused_at_one_place : (ws : List Word) (p q : ℕ) → IsRefused ws p → IsRefused ws q → p ≡ q
refused_at_one_place ws p q at_p at_q =
    elim (cases_order p q) [
      | inl same ↦ same
      | inr differ ↦ elim differ [ inl below ↦ absurd (not_below ws p q at_p at_q below) | inr above ↦ absurd (not_below ws q p at_q at_p above) ]
    ]
