-- Steps one after another: strong, alike, and how long the state is behind them.
use Rattle.std.proofs.Common.{◌≡◌, ℕ, List, [], ◌∷◌, ◌++◌, map, refl, ap, ap₂, sym, ◌∙◌}
use Rattle.std.proofs.lemmas.List.{map-append}
use Rattle.mask_trace.specs.Steps.{Step, IsStrongPlan, state_after}
use Rattle.mask_trace.specs.Privacy.{AreAlike, blank}
use Rattle.mask_trace.specs.Values.{states_after}

pub IsStrongPlan-append : (k s : ℕ) (ss ts : List Step) → IsStrongPlan k s ss → IsStrongPlan k (states_after s ss) ts →
    IsStrongPlan k s (ss ++ ts)
IsStrongPlan-append k s [] ts strong more = more
IsStrongPlan-append k s (step ∷ ss) ts strong more =
    (strong.0, IsStrongPlan-append k (state_after step.keeps step.circuit s) ss ts strong.1 more)

pub states_after-append : (s : ℕ) (ss ts : List Step) → states_after s (ss ++ ts) ≡ states_after (states_after s ss) ts
states_after-append s [] ts = refl
states_after-append s (step ∷ ss) ts = states_after-append (state_after step.keeps step.circuit s) ss ts

-- steps that are alike in two parts are alike
pub alike_both : (all all' ss ss' ts ts' : List Step) → all ≡ ss ++ ts → all' ≡ ss' ++ ts' → AreAlike ss ss' → AreAlike ts ts' →
    AreAlike all all'
alike_both all all' ss ss' ts ts' is is' front back =
    ap (map blank) is
    ∙ map-append blank ss ts
    ∙ ap₂ (λ (l r : List Step). l ++ r) front back
    ∙ sym (ap (map blank) is' ∙ map-append blank ss' ts')
