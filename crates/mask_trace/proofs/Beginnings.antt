-- The first steps of a run, and what is behind them.
use Rattle.std.proofs.Common.{◌≡◌, ℕ, zero, suc, Bool, List, [], ◌∷◌, ◌++◌, take, refl, sym, ap, ◌∙◌}
use Rattle.std.proofs.lemmas.List.{take-map}
use Rattle.mask_trace.specs.Steps.{Registers, Step, kept, state_after, IsStrongPlan}
use Rattle.mask_trace.specs.Privacy.{AreAlike, blank}
use Rattle.mask_trace.specs.Values.{step_value, value_after}

-- what is held behind steps and more steps
pub value_after-append : (held : Registers Bool) (ss ts : List Step) → value_after held (ss ++ ts) ≡ value_after (value_after held ss) ts
unfolding value_after
value_after-append held [] ts = refl
value_after-append held (s ∷ ss) ts = value_after-append (kept s.keeps (step_value held s) held) ss ts

-- a beginning of a strong plan is a strong plan
pub IsStrongPlan-take : (k s count : ℕ) (steps : List Step) → IsStrongPlan k s steps → IsStrongPlan k s (take count steps)
IsStrongPlan-take k s zero steps strong = tt
IsStrongPlan-take k s (suc count) [] strong = tt
IsStrongPlan-take k s (suc count) (step ∷ steps) strong =
    (strong.0, IsStrongPlan-take k (state_after step.keeps step.circuit s) count steps strong.1)

-- beginnings of alike steps are alike
pub AreAlike-take : (count : ℕ) (ss ts : List Step) → AreAlike ss ts → AreAlike (take count ss) (take count ts)
AreAlike-take count ss ts alike = sym (take-map blank count ss) ∙ ap (take count) alike ∙ take-map blank count ts
