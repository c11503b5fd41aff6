-- The report of `probe`, share by share and line by line.
use Rattle.std.proofs.Common.{◌≡◌, ℕ, zero, suc, ◌+◌, ◌<◌, Bool, true, false, not, ◌&&◌, cond, List, [], ◌∷◌, ◌++◌, map, refl, ap, ap₂, sym, ◌∙◌, arith, append_assoc, codes, decimal}
use Rattle.std.proofs.lemmas.List.{append-nil}
use Rattle.mask_circuit.specs.Wires.{joined}
use Rattle.mask_circuit.specs.Need.{ShareSet}
use Rattle.mask_circuit.specs.Text.{spaced}
use Rattle.mask_sni.specs.Asked.{members}
use Rattle.mask_sni.proofs.Members.{member_in, member_out}
use Rattle.mask_inspect.specs.Probing.{numbers_text, share_text, need_line}

-- the numbers with a space between them
abbrev pub numbers : List ℕ → List ℕ
numbers is = spaced (map decimal is)

abbrev pub is_nil : List ℕ → Bool
is_nil [] = true
is_nil (i ∷ is) = false

-- a number more
numbers-push : (is : List ℕ) (k : ℕ) → numbers (is ++ k ∷ []) ≡ numbers is ++ cond (is_nil is) (decimal k) (32 ∷ decimal k)
numbers-push [] k = refl
numbers-push (i ∷ []) k = refl
numbers-push (i ∷ (j ∷ js)) k =
    ap (λ (bs : List ℕ). decimal i ++ (32 ∷ bs)) (numbers-push (j ∷ js) k) ∙ sym (append_assoc (decimal i) (32 ∷ numbers (j ∷ js)) (32 ∷ decimal k))

is_nil-push : (is : List ℕ) (k : ℕ) → is_nil (is ++ k ∷ []) ≡ false
is_nil-push [] k = refl
is_nil-push (i ∷ is) k = refl

-- the set below one share more
members_out : (N : ℕ) (set : ShareSet) → set N ≡ false → members (suc N) set ≡ members N set
members_out N set e = let more : suc N ≡ N + 1 = omega arith in ap (λ (n : ℕ). members n set) more ∙ member_out set N e

members_in : (N : ℕ) (set : ShareSet) → set N ≡ true → members (suc N) set ≡ members N set ++ N ∷ []
members_in N set e = let more : suc N ≡ N + 1 = omega arith in ap (λ (n : ℕ). members n set) more ∙ member_in set N e

-- what a share more adds to the text, and whether the next one is the first
pub share_more : (N : ℕ) (set : ShareSet) (is_first needed : Bool) → set N ≡ needed → is_first ≡ is_nil (members N set) →
    (numbers (members (suc N) set) ≡ numbers (members N set) ++ share_text N needed is_first) × ((is_first && not needed) ≡ is_nil (members (suc N) set))
share_more N set is_first true e first = (
  ap numbers (members_in N set e) ∙ numbers-push (members N set) N
      ∙ ap (λ (b : Bool). numbers (members N set) ++ cond b (decimal N) (32 ∷ decimal N)) (sym first),
  and_false is_first ∙ sym (ap is_nil (members_in N set e) ∙ is_nil-push (members N set) N),
)
  where
    and_false : (b : Bool) → (b && false) ≡ false
    and_false true = refl
    and_false false = refl
share_more N set is_first false e first = (
  ap numbers (members_out N set e) ∙ sym (append-nil (numbers (members N set))),
  and_true is_first ∙ first ∙ sym (ap is_nil (members_out N set e)),
)
  where
    and_true : (b : Bool) → (b && true) ≡ b
    and_true true = refl
    and_true false = refl

-- the text of all needed shares: the numbers, or `none` where there are none
pub numbers_text-some : (is : List ℕ) → is_nil is ≡ false → numbers_text is ≡ numbers is
numbers_text-some [] e = let different : true ≡ false = e in cc
numbers_text-some (i ∷ is) e = refl

pub numbers_text-none : (is : List ℕ) → is_nil is ≡ true → numbers is ++ codes "none" ≡ numbers_text is
numbers_text-none [] e = refl
numbers_text-none (i ∷ is) e = let different : false ≡ true = e in cc

-- sets that are the same below N have the same shares there
members-same : (N : ℕ) (set set' : ShareSet) → ((i : ℕ) → i < N → set i ≡ set' i) → members N set ≡ members N set'
members-same zero set set' same = refl
members-same (suc N) set set' same = go (members-same N set set' (λ i lt. same i (omega arith))) (same N (omega arith)) (set' N) refl
  where
    go : members N set ≡ members N set' → set N ≡ set' N → (b : Bool) → set' N ≡ b → members (suc N) set ≡ members (suc N) set'
    go up here true e = members_in N set (here ∙ e) ∙ ap (λ (is : List ℕ). is ++ N ∷ []) up ∙ sym (members_in N set' e)
    go up here false e = members_out N set (here ∙ e) ∙ up ∙ sym (members_out N set' e)

-- so they have the same lines
pub lines-same : (N n : ℕ) (sets sets' : ℕ → ShareSet) → ((v i : ℕ) → v < n → i < N → sets v i ≡ sets' v i) →
    joined (λ v. need_line N (sets v) v) n ≡ joined (λ v. need_line N (sets' v) v) n
lines-same N zero sets sets' same = refl
lines-same N (suc n) sets sets' same =
    ap₂ (λ (xs ys : List ℕ). xs ++ ys) (lines-same N n sets sets' (λ v i lv li. same v i (omega arith) li))
    (ap (λ (is : List ℕ). codes "input " ++ decimal n ++ codes ": " ++ numbers_text is ++ 10 ∷ []) (members-same N (sets n) (sets' n) (λ i li. same n i (omega arith) li)))
