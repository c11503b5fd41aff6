-- Plans that are the same but for the message bits have the same calls, and one is strong where the other is.
use Rattle.std.proofs.Common.{◌≡◌, ℕ, zero, suc, ◌+◌, ◌<◌, false, List, [], ◌∷◌, map, length, get_or, refl, ap, ap₂, sym, subst, ◌∙◌, arith, length-append}
use Rattle.std.proofs.lemmas.List.{length-map, get_or-map}
use Rattle.mask_laws.specs.Runs.{Origin, Public, Variable, Call}
use Rattle.mask_trace.specs.Steps as steps
use Rattle.mask_trace.specs.Calls.{origins, outputs_of, calls_from, calls_of, with_key, message_bits}
use Rattle.mask_trace.specs.Privacy.{without_message, blank, AreAlike}

-- CALLS

origins-blank : (have : steps.Registers Origin) (v : ℕ) (is : List steps.InputBit) → origins have v (map without_message is) ≡ origins have v is
origins-blank have v [] = refl
origins-blank have v (steps.Public b ∷ is) = ap (λ (os : List Origin). Public b ∷ os) (origins-blank have v is)
origins-blank have v (steps.Plain b ∷ is) = ap (λ (os : List Origin). Variable v ∷ os) (origins-blank have (suc v) is)
origins-blank have v (steps.Key k ∷ is) = ap (λ (os : List Origin). get_or have.key k (Public false) ∷ os) (origins-blank have v is)
origins-blank have v (steps.State k ∷ is) = ap (λ (os : List Origin). get_or have.state k (Public false) ∷ os) (origins-blank have v is)

count-blank : (is : List steps.InputBit) → length (steps.plain_bits (map without_message is)) ≡ length (steps.plain_bits is)
count-blank [] = refl
count-blank (steps.Public b ∷ is) = count-blank is
count-blank (steps.Plain b ∷ is) = ap suc (count-blank is)
count-blank (steps.Key k ∷ is) = count-blank is
count-blank (steps.State k ∷ is) = count-blank is

calls-blank : (ss : List steps.Step) (have : steps.Registers Origin) (v j : ℕ) → calls_from have v j (map blank ss) ≡ calls_from have v j ss
unfolding calls_from
calls-blank [] have v j = refl
calls-blank (s ∷ ss) have v j =
    let behind = steps.kept s.keeps (outputs_of j s.circuit) have in
    let call : List Origin → Call = λ os. record { circuit = s.circuit; origins = os } in
    ap₂ (λ (os : List Origin) (calls : List Call). call os ∷ calls)
    (origins-blank have v s.inputs)
    (ap (λ (n : ℕ). calls_from behind (v + n) (suc j) (map blank ss)) (count-blank s.inputs) ∙ calls-blank ss behind (v + length (steps.plain_bits s.inputs)) (suc j))

messages-blank : (ss : List steps.Step) → length (message_bits (map blank ss)) ≡ length (message_bits ss)
unfolding message_bits
messages-blank [] = refl
messages-blank (s ∷ ss) =
    let own = count-blank s.inputs in
    let rest = messages-blank ss in
    omega (arith, length-append (steps.plain_bits s.inputs) (message_bits ss), length-append (steps.plain_bits (map without_message s.inputs)) (message_bits (map blank ss)))

pub calls-alike : (n : ℕ) (ss ts : List steps.Step) → AreAlike ss ts → calls_of n ss ≡ calls_of n ts
calls-alike n ss ts alike =
    sym (calls-blank ss (with_key n) n 0) ∙ ap (calls_of n) alike ∙ calls-blank ts (with_key n) n 0

pub messages-alike : (ss ts : List steps.Step) → AreAlike ss ts → length (message_bits ss) ≡ length (message_bits ts)
messages-alike ss ts alike = sym (messages-blank ss) ∙ ap (λ (us : List steps.Step). length (message_bits us)) alike ∙ messages-blank ts

-- STRONG PLANS

module _ (k s : ℕ) where
  there-blank : (b : steps.InputBit) → steps.IsThere k s b → steps.IsThere k s (without_message b)
  there-blank (steps.Public b) there = tt
  there-blank (steps.Plain b) there = tt
  there-blank (steps.Key i) there = there
  there-blank (steps.State i) there = there

  blank-there : (b : steps.InputBit) → steps.IsThere k s (without_message b) → steps.IsThere k s b
  blank-there (steps.Public b) there = tt
  blank-there (steps.Plain b) there = tt
  blank-there (steps.Key i) there = there
  blank-there (steps.State i) there = there

blank-not_held : (b : steps.InputBit) → steps.IsNotHeld (without_message b) → steps.IsNotHeld b
blank-not_held (steps.Public b) free = tt
blank-not_held (steps.Plain b) free = tt
blank-not_held (steps.Key i) free = free
blank-not_held (steps.State i) free = free

-- a bit that a register holds is the same, whatever the message
same_key : (i : ℕ) (b : steps.InputBit) → steps.Key i ≡ without_message b → steps.Key i ≡ b
same_key i (steps.Public b) e = absurd cc
same_key i (steps.Plain b) e = absurd cc
same_key i (steps.Key l) e = e
same_key i (steps.State l) e = absurd cc

same_state : (i : ℕ) (b : steps.InputBit) → steps.State i ≡ without_message b → steps.State i ≡ b
same_state i (steps.Public b) e = absurd cc
same_state i (steps.Plain b) e = absurd cc
same_state i (steps.Key l) e = absurd cc
same_state i (steps.State l) e = e

once-blank : (b c : steps.InputBit) → (b ≡ c → steps.IsNotHeld b) → without_message b ≡ without_message c → steps.IsNotHeld (without_message b)
once-blank (steps.Public b) c once e = tt
once-blank (steps.Plain b) c once e = tt
once-blank (steps.Key i) c once e = once (same_key i c e)
once-blank (steps.State i) c once e = once (same_state i c e)

-- the bit of an input of a blank step
at-blank : (is : List steps.InputBit) (u : ℕ) → get_or (map without_message is) u (steps.Public false) ≡ without_message (get_or is u (steps.Public false))
at-blank [] u = refl
at-blank (b ∷ is) zero = refl
at-blank (b ∷ is) (suc u) = at-blank is u

module _ (k s : ℕ) where
  strong-blank : (t : steps.Step) → steps.IsStrongStep k s t → steps.IsStrongStep k s (blank t)
  strong-blank t is = record {
    formed = is.formed;
    strong = is.strong;
    count = length-map t.inputs without_message ∙ is.count;
    there = λ u d lt.
        let within : u < length t.inputs = omega (arith, length-map t.inputs without_message) in
        subst (steps.IsThere k s) (sym (get_or-map without_message t.inputs u d d within)) (there-blank k s (get_or t.inputs u d) (is.there u d within));
    once = λ u v lt within e.
        let below : v < length t.inputs = omega (arith, length-map t.inputs without_message) in
        subst steps.IsNotHeld (sym (at-blank t.inputs u))
        (once-blank (steps.input_at t u) (steps.input_at t v) (is.once u v lt below) (sym (at-blank t.inputs u) ∙ e ∙ at-blank t.inputs v));
    fit = is.fit;
  }

  blank-strong : (t : steps.Step) → steps.IsStrongStep k s (blank t) → steps.IsStrongStep k s t
  blank-strong t is = record {
    formed = is.formed;
    strong = is.strong;
    count = sym (length-map t.inputs without_message) ∙ is.count;
    there = λ u d lt.
        let within : u < length (map without_message t.inputs) = omega (arith, length-map t.inputs without_message) in
        blank-there k s (get_or t.inputs u d) (subst (steps.IsThere k s) (get_or-map without_message t.inputs u d d lt) (is.there u d within));
    once = λ u v lt within e.
        let below : v < length (map without_message t.inputs) = omega (arith, length-map t.inputs without_message) in
        blank-not_held (steps.input_at t u) (subst steps.IsNotHeld (at-blank t.inputs u)
        (is.once u v lt below (at-blank t.inputs u ∙ ap without_message e ∙ sym (at-blank t.inputs v))));
    fit = is.fit;
  }

plan-blank : (k s : ℕ) (ss : List steps.Step) → steps.IsStrongPlan k s ss → steps.IsStrongPlan k s (map blank ss)
plan-blank k s [] plan = tt
plan-blank k s (t ∷ ts) plan = (strong-blank k s t plan.0, plan-blank k (steps.state_after t.keeps t.circuit s) ts plan.1)

blank-plan : (k s : ℕ) (ss : List steps.Step) → steps.IsStrongPlan k s (map blank ss) → steps.IsStrongPlan k s ss
blank-plan k s [] plan = tt
blank-plan k s (t ∷ ts) plan = (blank-strong k s t plan.0, blank-plan k (steps.state_after t.keeps t.circuit s) ts plan.1)

pub plan-alike : (k s : ℕ) (ss ts : List steps.Step) → AreAlike ss ts → steps.IsStrongPlan k s ss → steps.IsStrongPlan k s ts
plan-alike k s ss ts alike plan = blank-plan k s ts (subst (steps.IsStrongPlan k s) alike (plan-blank k s ss plan))
