-- A strong plan is a strong run: no register holds an origin twice.
use Rattle.std.proofs.Common.{◌≡◌, ℕ, zero, suc, ◌+◌, ◌-◌, ◌<◌, ◌≤◌, ◌⊎◌, inl, inr, Bool, false, List, [], ◌∷◌, ◌++◌, length, drop, get_or, slice_index, All, refl, ap, sym, subst, ◌∙◌, arith, length-append, length-drop}
use Rattle.std.proofs.lemmas.Bool.{cases_lt}
use Rattle.std.proofs.lemmas.List.{get_or_append_left, get_or-append_right, get_or_push, get_or-drop, length_push}
use Rattle.std.proofs.lemmas.List.Elements.{All-nil, All-cons}
use Rattle.mask_circuit.specs.Netlist.{Netlist}
use Rattle.mask_circuit.specs.Wires.{each}
use Rattle.mask_circuit.proofs.Places.{length-each}
use Rattle.mask_shares.proofs.Lists.{get_or-each}
use Rattle.mask_laws.specs.Runs.{Origin, Public, Variable, Output, IsPublic, IsThere, AreStrongCalls, IsStrongRun}
use Rattle.mask_trace.specs.Steps as steps
use Rattle.mask_trace.specs.Calls.{origins, outputs_of, calls_from, calls_of, with_key}

-- ORIGINS

variable_not_public : (n : ℕ) (b : Bool) → Variable n ≡ Public b → ⊥
variable_not_public n b e = cc

same_variable : (m n : ℕ) → Variable m ≡ Variable n → m ≡ n
same_variable m n e = cc

same_output : (i j k l : ℕ) → Output i k ≡ Output j l → k ≡ l
same_output i j k l e = cc

-- an origin that a register may hold, where the earlier calls have so many outputs and the variables below v are used
abbrev pub IsKnown : List ℕ → ℕ → Origin → Type 0
IsKnown counts v (Public b) = ⊥
IsKnown counts v (Variable u) = u < v
IsKnown counts v (Output j k) = (j < length counts) × (k < slice_index counts j)

known-there : (counts : List ℕ) (v : ℕ) (o : Origin) → IsKnown counts v o → IsThere counts o
known-there counts v (Public b) known = absurd known
known-there counts v (Variable u) known = tt
known-there counts v (Output j k) known = known

-- and stays one
known-later : (counts : List ℕ) (m v w : ℕ) (o : Origin) → v ≤ w → IsKnown counts v o → IsKnown (counts ++ m ∷ []) w o
known-later counts m v w (Public b) le known = known
known-later counts m v w (Variable u) le known = omega arith
known-later counts m v w (Output j k) le known =
    let same : slice_index (counts ++ m ∷ []) j ≡ slice_index counts j = get_or_append_left counts (m ∷ []) 0 j known.0 in
    let more = length_push counts m in
    (omega (arith, known.0), omega (arith, known.1))

-- it isn't an output of the call that comes now
known-not_now : (counts : List ℕ) (v j k : ℕ) (o : Origin) → IsKnown counts v o → length counts ≡ j → o ≡ Output j k → ⊥
known-not_now counts v j k o known number e =
    let here : IsKnown counts v (Output j k) = subst (IsKnown counts v) e known in omega (arith, here.0)

-- REGISTERS

-- the bit's shares are held by a register
abbrev pub IsHeld : steps.InputBit → Type 0
IsHeld b = steps.IsNotHeld b → ⊥

-- what is held there
abbrev pub held : {X : Type 0} → X → steps.Registers X → steps.InputBit → X
held none have (steps.Public b) = none
held none have (steps.Plain b) = none
held none have (steps.Key i) = get_or have.key i none
held none have (steps.State i) = get_or have.state i none

abbrev pub origin_held : steps.Registers Origin → steps.InputBit → Origin
origin_held have b = held (Public false) have b

-- the registers have k and s bits, whose origins are known, and no two are the same
pub record AreApart (counts : List ℕ) (v k s : ℕ) (have : steps.Registers Origin) : Type 0 where
  pub key : length have.key ≡ k
  pub state : length have.state ≡ s
  pub known : (b : steps.InputBit) → IsHeld b → steps.IsThere k s b → IsKnown counts v (origin_held have b)
  pub apart : (b c : steps.InputBit) → IsHeld b → IsHeld c → steps.IsThere k s b → steps.IsThere k s c →
      origin_held have b ≡ origin_held have c → b ≡ c

-- ONE STEP

pub length-origins : (have : steps.Registers Origin) (v : ℕ) (is : List steps.InputBit) → length (origins have v is) ≡ length is
length-origins have v [] = refl
length-origins have v (steps.Public b ∷ is) = ap suc (length-origins have v is)
length-origins have v (steps.Plain b ∷ is) = ap suc (length-origins have (suc v) is)
length-origins have v (steps.Key i ∷ is) = ap suc (length-origins have v is)
length-origins have v (steps.State i ∷ is) = ap suc (length-origins have v is)

abbrev bit_at : List steps.InputBit → ℕ → steps.InputBit
bit_at is u = get_or is u (steps.Public false)

abbrev origin_of : steps.Registers Origin → ℕ → List steps.InputBit → ℕ → Origin
origin_of have v is u = get_or (origins have v is) u (Public false)

-- what an origin may be: public, a new variable, or one that a register holds
abbrev Sort : steps.Registers Origin → ℕ → steps.InputBit → Origin → Type 0
Sort have v b o = ((x : Bool) × (o ≡ Public x)) ⊎ (((n : ℕ) × (v ≤ n) × (o ≡ Variable n)) ⊎ (IsHeld b × (o ≡ origin_held have b)))

sort-later : (have : steps.Registers Origin) (v : ℕ) (b : steps.InputBit) (o : Origin) → Sort have (suc v) b o → Sort have v b o
sort-later have v b o (inl public) = inl public
sort-later have v b o (inr (inl new)) = inr (inl (new.0, omega (arith, new.1), new.2))
sort-later have v b o (inr (inr old)) = inr (inr old)

sorted : (have : steps.Registers Origin) (v : ℕ) (is : List steps.InputBit) (u : ℕ) → u < length is → Sort have v (bit_at is u) (origin_of have v is u)
sorted have v [] u lt = absurd (omega arith)
sorted have v (steps.Public b ∷ is) zero lt = inl (b, refl)
sorted have v (steps.Plain b ∷ is) zero lt = inr (inl (v, omega arith, refl))
sorted have v (steps.Key i ∷ is) zero lt = inr (inr (λ e. e, refl))
sorted have v (steps.State i ∷ is) zero lt = inr (inr (λ e. e, refl))
sorted have v (steps.Public b ∷ is) (suc u) lt = sorted have v is u (omega arith)
sorted have v (steps.Plain b ∷ is) (suc u) lt = sort-later have v _ _ (sorted have (suc v) is u (omega arith))
sorted have v (steps.Key i ∷ is) (suc u) lt = sorted have v is u (omega arith)
sorted have v (steps.State i ∷ is) (suc u) lt = sorted have v is u (omega arith)

module _ (counts : List ℕ) (first k s : ℕ) (have : steps.Registers Origin) (are : AreApart counts first k s have) where
  -- each origin stands
  origins-there : (v : ℕ) (is : List steps.InputBit) → All (steps.IsThere k s) is → All (IsThere counts) (origins have v is)
  origins-there v [] there = All-nil (IsThere counts)
  origins-there v (steps.Public b ∷ is) there =
      All-cons (IsThere counts) (Public b) (origins have v is) tt (origins-there v is (λ i d lt. there (suc i) d (omega arith)))
  origins-there v (steps.Plain b ∷ is) there =
      All-cons (IsThere counts) (Variable v) (origins have (suc v) is) tt (origins-there (suc v) is (λ i d lt. there (suc i) d (omega arith)))
  origins-there v (steps.Key i ∷ is) there =
      All-cons (IsThere counts) (origin_held have (steps.Key i)) (origins have v is)
      (known-there counts first (origin_held have (steps.Key i)) (are.known (steps.Key i) (λ e. e) (there 0 (steps.Key i) (omega arith))))
      (origins-there v is (λ n d lt. there (suc n) d (omega arith)))
  origins-there v (steps.State i ∷ is) there =
      All-cons (IsThere counts) (origin_held have (steps.State i)) (origins have v is)
      (known-there counts first (origin_held have (steps.State i)) (are.known (steps.State i) (λ e. e) (there 0 (steps.State i) (omega arith))))
      (origins-there v is (λ n d lt. there (suc n) d (omega arith)))

  -- an origin that is held is neither public nor a new variable, and no other place holds it
  held-once : (v : ℕ) (b c : steps.InputBit) (o : Origin) → first ≤ v → IsHeld b → steps.IsThere k s b → steps.IsThere k s c → Sort have v c o → origin_held have b ≡ o → b ≡ c
  held-once v b c o le is there_b there_c (inl public) e =
      absurd (subst (IsKnown counts first) (e ∙ public.1) (are.known b is there_b))
  held-once v b c o le is there_b there_c (inr (inl new)) e =
      let below : new.0 < first = subst (IsKnown counts first) (e ∙ new.2) (are.known b is there_b) in absurd (omega (arith, new.1))
  held-once v b c o le is there_b there_c (inr (inr old)) e = are.apart b c is old.0 there_b there_c (e ∙ old.1)

  -- a new variable isn't taken later
  new-once : (v : ℕ) (c : steps.InputBit) (o : Origin) → first ≤ v → steps.IsThere k s c → Sort have (suc v) c o → Variable v ≡ o → ⊥
  new-once v c o le there_c (inl public) e = variable_not_public v public.0 (e ∙ public.1)
  new-once v c o le there_c (inr (inl new)) e = let same = same_variable v new.0 (e ∙ new.2) in omega (arith, new.1)
  new-once v c o le there_c (inr (inr old)) e =
      let below : v < first = subst (IsKnown counts first) (sym (e ∙ old.1)) (are.known c old.0 there_c) in omega arith

  -- so no origin is taken twice unless it is public
  origins-once : (v : ℕ) (is : List steps.InputBit) → first ≤ v → All (steps.IsThere k s) is →
      ((u w : ℕ) → u < w → w < length is → bit_at is u ≡ bit_at is w → steps.IsNotHeld (bit_at is u)) →
      (u w : ℕ) → u < w → w < length is → origin_of have v is u ≡ origin_of have v is w → IsPublic (origin_of have v is u)
  origins-once v [] le there once u w lt within e = absurd (omega arith)
  origins-once v (b ∷ is) le there once u zero lt within e = absurd (omega arith)
  origins-once v (steps.Public b ∷ is) le there once zero (suc w) lt within e = tt
  origins-once v (steps.Plain b ∷ is) le there once zero (suc w) lt within e =
      new-once v (bit_at is w) _ le (there (suc w) (steps.Public false) within) (sorted have (suc v) is w (omega arith)) e
  origins-once v (steps.Key i ∷ is) le there once zero (suc w) lt within e =
      absurd (once 0 (suc w) lt within (held-once v (steps.Key i) (bit_at is w) _ le (λ h. h) (there 0 (steps.Key i) (omega arith))
      (there (suc w) (steps.Public false) within) (sorted have v is w (omega arith)) e))
  origins-once v (steps.State i ∷ is) le there once zero (suc w) lt within e =
      absurd (once 0 (suc w) lt within (held-once v (steps.State i) (bit_at is w) _ le (λ h. h) (there 0 (steps.State i) (omega arith))
      (there (suc w) (steps.Public false) within) (sorted have v is w (omega arith)) e))
  origins-once v (steps.Public b ∷ is) le there once (suc u) (suc w) lt within e =
      origins-once v is le (λ n d l. there (suc n) d (omega arith)) (λ x y l m. once (suc x) (suc y) (omega arith) (omega arith)) u w (omega arith) (omega arith) e
  origins-once v (steps.Plain b ∷ is) le there once (suc u) (suc w) lt within e =
      origins-once (suc v) is (omega arith) (λ n d l. there (suc n) d (omega arith)) (λ x y l m. once (suc x) (suc y) (omega arith) (omega arith)) u w (omega arith) (omega arith) e
  origins-once v (steps.Key i ∷ is) le there once (suc u) (suc w) lt within e =
      origins-once v is le (λ n d l. there (suc n) d (omega arith)) (λ x y l m. once (suc x) (suc y) (omega arith) (omega arith)) u w (omega arith) (omega arith) e
  origins-once v (steps.State i ∷ is) le there once (suc u) (suc w) lt within e =
      origins-once v is le (λ n d l. there (suc n) d (omega arith)) (λ x y l m. once (suc x) (suc y) (omega arith) (omega arith)) u w (omega arith) (omega arith) e

-- THE NEXT STEP

-- the place of a new output
abbrev pub new_place : steps.Keeps → ℕ → steps.InputBit
new_place steps.Nothing i = steps.Public false
new_place steps.AsKey i = steps.Key i
new_place steps.AsState i = steps.State i

-- What is held behind a step: an output of the step, at its place, or what was held there before.
abbrev pub Behind : {X : Type 0} → X → steps.Keeps → ℕ → List X → steps.Registers X → ℕ → ℕ → steps.InputBit → Type 0
Behind none keeps m outputs have k s b =
    ((i : ℕ) × (i < m) × (held none (steps.kept keeps outputs have) b ≡ get_or outputs i none) × (b ≡ new_place keeps i))
    ⊎ ((held none (steps.kept keeps outputs have) b ≡ held none have b) × steps.IsThere k s b)

-- behind the new outputs a key is as before
pub get_or-kept : {X : Type 0} (outputs old : List X) (i : ℕ) (none : X) → length outputs ≤ i → get_or (outputs ++ drop (length outputs) old) i none ≡ get_or old i none
get_or-kept outputs old i none le =
    let place : length outputs + (i - length outputs) ≡ i = omega arith in
    get_or-append_right outputs (drop (length outputs) old) (length outputs) i none refl le
    ∙ get_or-drop (length outputs) old (i - length outputs) none
    ∙ ap (λ (n : ℕ). get_or old n none) place

pub behind : {X : Type 0} (none : X) (keeps : steps.Keeps) (c : Netlist) (outputs : List X) (have : steps.Registers X) (k s : ℕ) → length outputs ≡ length c.outputs →
    steps.Fit k keeps c → (b : steps.InputBit) → IsHeld b → steps.IsThere k (steps.state_after keeps c s) b → Behind none keeps (length c.outputs) outputs have k s b
behind none keeps c outputs have k s count fit (steps.Public x) is there = absurd (is tt)
behind none keeps c outputs have k s count fit (steps.Plain x) is there = absurd (is tt)
behind none steps.Nothing c outputs have k s count fit (steps.Key i) is there = inr (refl, there)
behind none steps.Nothing c outputs have k s count fit (steps.State i) is there = inr (refl, there)
behind none steps.AsKey c outputs have k s count fit (steps.State i) is there = inr (refl, there)
behind none steps.AsState c outputs have k s count fit (steps.Key i) is there = inr (refl, there)
behind none steps.AsState c outputs have k s count fit (steps.State i) is there = inl (i, there, refl, refl)
behind none steps.AsKey c outputs have k s count fit (steps.Key i) is there = elim (cases_lt i (length outputs)) [
  | inl lt ↦ inl (i, omega arith, get_or_append_left outputs (drop (length outputs) have.key) none i lt, refl)
  | inr le ↦ inr (get_or-kept outputs have.key i none le, there)
]

-- the registers have as many bits
pub length-kept : {X : Type 0} (keeps : steps.Keeps) (c : Netlist) (outputs : List X) (have : steps.Registers X) (k s : ℕ) → length outputs ≡ length c.outputs →
    steps.Fit k keeps c → length have.key ≡ k → length have.state ≡ s →
    (length (steps.kept keeps outputs have).key ≡ k) × (length (steps.kept keeps outputs have).state ≡ steps.state_after keeps c s)
length-kept steps.Nothing c outputs have k s count fit key state = (key, state)
length-kept steps.AsKey c outputs have k s count fit key state =
    (let all = length-append outputs (drop (length outputs) have.key) in let rest = length-drop (length outputs) have.key in omega arith, state)
length-kept steps.AsState c outputs have k s count fit key state = (key, count)

-- the new outputs are held at different places
same_place : (keeps : steps.Keeps) (i l : ℕ) (b c : steps.InputBit) → b ≡ new_place keeps i → c ≡ new_place keeps l → i ≡ l → b ≡ c
same_place keeps i l b c at_b at_c e = at_b ∙ ap (new_place keeps) e ∙ sym at_c

module _ (counts : List ℕ) (j v w k s : ℕ) (have : steps.Registers Origin) (are : AreApart counts v k s have) (number : length counts ≡ j) (later : v ≤ w)
    (keeps : steps.Keeps) (c : Netlist) (fit : steps.Fit k keeps c) where
  abbrev now : steps.Registers Origin
  now = steps.kept keeps (outputs_of j c) have

  abbrev counts_now : List ℕ
  counts_now = counts ++ length c.outputs ∷ []

  abbrev there_now : steps.InputBit → Type 0
  there_now b = steps.IsThere k (steps.state_after keeps c s) b

  abbrev sort_of : steps.InputBit → Type 0
  sort_of b = Behind (Public false) keeps (length c.outputs) (outputs_of j c) have k s b

  sort : (b : steps.InputBit) → IsHeld b → there_now b → sort_of b
  sort b is there = behind (Public false) keeps c (outputs_of j c) have k s (length-each (Output j) (length c.outputs)) fit b is there

  known-now : (b : steps.InputBit) → IsHeld b → sort_of b → IsKnown counts_now w (origin_held now b)
  known-now b is (inl new) =
      let more = length_push counts (length c.outputs) in
      let own : slice_index counts_now j ≡ length c.outputs = get_or_push counts (length c.outputs) 0 j number in
      subst (IsKnown counts_now w) (sym (new.2 ∙ get_or-each (Output j) (length c.outputs) new.0 (Public false) new.1)) (omega arith, omega (arith, new.1))
  known-now b is (inr old) =
      subst (IsKnown counts_now w) (sym old.0) (known-later counts (length c.outputs) v w (origin_held have b) later (are.known b is old.1))

  apart-now : (b d : steps.InputBit) → IsHeld b → IsHeld d → sort_of b → sort_of d → origin_held now b ≡ origin_held now d → b ≡ d
  apart-now b d is_b is_d (inl new) (inl other) e =
      same_place keeps new.0 other.0 b d new.3 other.3
      (same_output j j new.0 other.0
      (sym (new.2 ∙ get_or-each (Output j) (length c.outputs) new.0 (Public false) new.1)
      ∙ e ∙ other.2 ∙ get_or-each (Output j) (length c.outputs) other.0 (Public false) other.1))
  apart-now b d is_b is_d (inl new) (inr old) e =
      absurd (known-not_now counts v j new.0 (origin_held have d) (are.known d is_d old.1) number
      (sym old.0 ∙ sym e ∙ new.2 ∙ get_or-each (Output j) (length c.outputs) new.0 (Public false) new.1))
  apart-now b d is_b is_d (inr old) (inl new) e =
      absurd (known-not_now counts v j new.0 (origin_held have b) (are.known b is_b old.1) number
      (sym old.0 ∙ e ∙ new.2 ∙ get_or-each (Output j) (length c.outputs) new.0 (Public false) new.1))
  apart-now b d is_b is_d (inr old) (inr other) e = are.apart b d is_b is_d old.1 other.1 (sym old.0 ∙ e ∙ other.0)

  -- the registers are apart behind the step too
  pub apart-later : AreApart counts_now w k (steps.state_after keeps c s) now
  apart-later =
      let sizes = length-kept keeps c (outputs_of j c) have k s (length-each (Output j) (length c.outputs)) fit are.key are.state in
      record {
        key = sizes.0;
        state = sizes.1;
        known = λ b is there. known-now b is (sort b is there);
        apart = λ b d is_b is_d there_b there_d e. apart-now b d is_b is_d (sort b is_b there_b) (sort d is_d there_d) e;
      }

-- ALL STEPS

strong_from : (ss : List steps.Step) (counts : List ℕ) (j v k s : ℕ) (have : steps.Registers Origin) → AreApart counts v k s have → length counts ≡ j →
    steps.IsStrongPlan k s ss → AreStrongCalls counts (calls_from have v j ss)
unfolding calls_from
strong_from [] counts j v k s have are number plan = tt
strong_from (t ∷ ts) counts j v k s have are number plan =
    let count = length-origins have v t.inputs in (
      record {
        formed = plan.0.formed;
        strong = plan.0.strong;
        origins = count ∙ plan.0.count;
        there = origins-there counts v k s have are v t.inputs plan.0.there;
        once = λ u w lt within e. origins-once counts v k s have are v t.inputs (omega arith) plan.0.there plan.0.once u w lt (omega arith) e;
      },
      strong_from ts (counts ++ length t.circuit.outputs ∷ []) (suc j) (v + length (steps.plain_bits t.inputs)) k (steps.state_after t.keeps t.circuit s) _
          (apart-later counts j v (v + length (steps.plain_bits t.inputs)) k s have are number (omega arith) t.keeps t.circuit plan.0.fit)
          (omega (arith, length_push counts (length t.circuit.outputs))) plan.1,
    )

-- A key stands apart.
pub key_apart : (n : ℕ) → AreApart [] n n 0 (with_key n)
key_apart n = record {
  key = length-each Variable n;
  state = refl;
  known = known;
  apart = apart;
}
  where
    at : (i : ℕ) → i < n → get_or (each Variable n) i (Public false) ≡ Variable i
    at i lt = get_or-each Variable n i (Public false) lt

    known : (b : steps.InputBit) → IsHeld b → steps.IsThere n 0 b → IsKnown [] n (origin_held (with_key n) b)
    known (steps.Public x) is there = absurd (is tt)
    known (steps.Plain x) is there = absurd (is tt)
    known (steps.Key i) is there = subst (IsKnown [] n) (sym (at i there)) there
    known (steps.State i) is there = absurd (omega arith)

    apart : (b c : steps.InputBit) → IsHeld b → IsHeld c → steps.IsThere n 0 b → steps.IsThere n 0 c → origin_held (with_key n) b ≡ origin_held (with_key n) c → b ≡ c
    apart (steps.Public x) c is_b is_c there_b there_c e = absurd (is_b tt)
    apart (steps.Plain x) c is_b is_c there_b there_c e = absurd (is_b tt)
    apart (steps.State i) c is_b is_c there_b there_c e = absurd (omega arith)
    apart (steps.Key i) (steps.Public x) is_b is_c there_b there_c e = absurd (is_c tt)
    apart (steps.Key i) (steps.Plain x) is_b is_c there_b there_c e = absurd (is_c tt)
    apart (steps.Key i) (steps.State l) is_b is_c there_b there_c e = absurd (omega arith)
    apart (steps.Key i) (steps.Key l) is_b is_c there_b there_c e = ap steps.Key (same_variable i l (sym (at i there_b) ∙ e ∙ at l there_c))

-- A strong plan is a strong run.
pub plans_are_strong_runs : (n : ℕ) (ss : List steps.Step) → steps.IsStrongPlan n 0 ss → IsStrongRun (calls_of n ss)
plans_are_strong_runs n ss plan = strong_from ss [] 0 n n 0 (with_key n) (key_apart n) refl plan
