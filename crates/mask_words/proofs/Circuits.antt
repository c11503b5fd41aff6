-- CIRCUIT words: a circuit is found by its name, and by no other word.
use Rattle.std.proofs.Common.{◌≡◌, Bool, true, false, if◌then◌else◌, Option, None, Some, List, [], ◌∷◌, refl, sym, ap, ◌∙◌}
use Rattle.std.specs.Prelude.{MatchOption}
use Rattle.std.specs.Str.{bytes_eq}
use Rattle.std.proofs.lemmas.Slice.Eq.{bytes_eq-Decides}
use Rattle.mask_tasks.specs.declared.names.Named.{Named}
use Rattle.mask_tasks.specs.declared.names.Named.TheVariants.{Present80, Present128, Lea128, Lea192, Lea256, Refresh80, Refresh128, Refresh192, Refresh256, TriviumStart, TriviumStep, LightmacStep80, LightmacEnd80, LightmacStep128, LightmacEnd128, ChaskeyStart, ChaskeyStep, ChaskeyEndWhole, ChaskeyEndShort}
use Rattle.mask_tasks.specs.declared.names.TheConstants.{ALL}
use Rattle.mask_tasks.specs.Names.{name_text}
use Rattle.mask_words.specs.WordTests.{Word, first_named, circuit_named}

-- what is found has that name
first_named-name : (names : List Named) (w : Word) (found : Named) → first_named names w ≡ Some found → w ≡ name_text found
first_named-name [] w found e = cc
first_named-name (name ∷ names) w found e = step (first_named-name names w found) (bytes_eq w (name_text name)) refl e
  where
    step : (first_named names w ≡ Some found → w ≡ name_text found) → (same : Bool) → bytes_eq w (name_text name) ≡ same →
        (if same then Some name else first_named names w) ≡ Some found → w ≡ name_text found
    step more true is e = let here : name ≡ found = cc in (bytes_eq-Decides w (name_text name)).0 is ∙ ap name_text here
    step more false is e = more e

-- and each is found by its name
circuit_named-name : (name : Named) → circuit_named (name_text name) ≡ Some name
circuit_named-name Present80 = refl
circuit_named-name Present128 = refl
circuit_named-name Lea128 = refl
circuit_named-name Lea192 = refl
circuit_named-name Lea256 = refl
circuit_named-name Refresh80 = refl
circuit_named-name Refresh128 = refl
circuit_named-name Refresh192 = refl
circuit_named-name Refresh256 = refl
circuit_named-name TriviumStart = refl
circuit_named-name TriviumStep = refl
circuit_named-name LightmacStep80 = refl
circuit_named-name LightmacEnd80 = refl
circuit_named-name LightmacStep128 = refl
circuit_named-name LightmacEnd128 = refl
circuit_named-name ChaskeyStart = refl
circuit_named-name ChaskeyStep = refl
circuit_named-name ChaskeyEndWhole = refl
circuit_named-name ChaskeyEndShort = refl

-- so any search by names finds the same
pub circuit_named-found : (w : Word) (found : Option Named) →
    MatchOption found ((name : Named) → w ≡ name_text name → ⊥) (λ name. w ≡ name_text name) → found ≡ circuit_named w
circuit_named-found w (Some name) is = sym (circuit_named-name name) ∙ ap circuit_named (sym is)
circuit_named-found w None none = step (circuit_named w) refl
  where
    step : (found : Option Named) → circuit_named w ≡ found → None ≡ found
    step None e = refl
    step (Some name) e = absurd (none name (first_named-name ALL w name e))
