-- The sum of two bits, and what a test says.
use Rattle.std.proofs.Common.{◌≡◌, ℕ, zero, suc, ◌+◌, ◌%◌, ◌<◌, nat_eq, Bool, true, false, ◌&&◌, ◌||◌, refl, sym, ap, ◌∙◌, arith}
use Rattle.mask_circuit.specs.Value.{xor}

pub xor-false : (a : Bool) → xor a false ≡ a
xor-false true = refl
xor-false false = refl

pub xor_self : (a : Bool) → xor a a ≡ false
xor_self true = refl
xor_self false = refl

pub xor_comm : (a b : Bool) → xor a b ≡ xor b a
xor_comm true true = refl
xor_comm true false = refl
xor_comm false true = refl
xor_comm false false = refl

pub xor_assoc : (a b c : Bool) → xor (xor a b) c ≡ xor a (xor b c)
xor_assoc false b c = refl
xor_assoc true false c = refl
xor_assoc true true false = refl
xor_assoc true true true = refl

-- the sum of two sums, term by term
pub xor-xor : (a b c d : Bool) → xor (xor a b) (xor c d) ≡ xor (xor a c) (xor b d)
xor-xor false b false d = refl
xor-xor false false true d = refl
xor-xor false true true false = refl
xor-xor false true true true = refl
xor-xor true false false d = refl
xor-xor true false true false = refl
xor-xor true false true true = refl
xor-xor true true false false = refl
xor-xor true true false true = refl
xor-xor true true true false = refl
xor-xor true true true true = refl

-- a bit plus its difference from another is the other
pub xor-change : (a b : Bool) → b ≡ xor a (xor a b)
xor-change true true = refl
xor-change true false = refl
xor-change false b = refl

-- a bit plus no change
pub same_under_no_change : (a b c : Bool) → b ≡ xor a c → c ≡ false → a ≡ b
same_under_no_change true b true e none = cc
same_under_no_change true b false e none = cc
same_under_no_change false b true e none = cc
same_under_no_change false b false e none = cc

-- two equal bits differ by nothing
pub xor_same : (a b : Bool) → a ≡ b → xor a b ≡ false
xor_same true true e = refl
xor_same true false e = cc
xor_same false true e = cc
xor_same false false e = refl

pub or-false : (a : Bool) → (a || false) ≡ a
or-false true = refl
or-false false = refl

pub and-true : (a : Bool) → (a && true) ≡ a
and-true true = refl
and-true false = refl

-- the last two terms of a sum, changed
pub xor_right_comm : (a b c : Bool) → xor (xor a b) c ≡ xor (xor a c) b
xor_right_comm a b c = xor_assoc a b c ∙ ap (λ x. xor a x) (xor_comm b c) ∙ sym (xor_assoc a c b)

-- two terms, each twice
pub both_twice : (a b : Bool) → xor (xor (xor a b) a) b ≡ false
both_twice true true = refl
both_twice true false = refl
both_twice false true = refl
both_twice false false = refl

-- two bits as numbers: their sum is odd where just one of them is 1
pub xor_of_digits : (a b : ℕ) → a < 2 → b < 2 → nat_eq ((a + b) % 2) 1 ≡ xor (nat_eq a 1) (nat_eq b 1)
xor_of_digits zero zero ha hb = refl
xor_of_digits zero (suc zero) ha hb = refl
xor_of_digits (suc zero) zero ha hb = refl
xor_of_digits (suc zero) (suc zero) ha hb = refl
xor_of_digits (suc (suc a)) b ha hb = absurd (omega arith)
xor_of_digits zero (suc (suc b)) ha hb = absurd (omega arith)
xor_of_digits (suc zero) (suc (suc b)) ha hb = absurd (omega arith)
