-- Each circuit has its row in the list of all, and no two rows have one name, which is computed.
use Rattle.std.proofs.Common.{◌≡◌, ℕ, zero, suc, ◌<◌, Bool, true, false, ◌&&◌, not, List, [], ◌∷◌, length, get_or, refl, sym, ap, ◌∙◌, inl, inr, arith, lit<}
use Rattle.std.specs.List.{list_all}
use Rattle.std.specs.Str.{bytes_eq}
use Rattle.std.proofs.lemmas.Bool.{and_parts, cases_order}
use Rattle.std.proofs.lemmas.List.Sums.{AllPass-from_list_all}
use Rattle.std.proofs.lemmas.Slice.Eq.{bytes_eq-Decides}
use Rattle.mask_tasks.specs.declared.names.Named.{Named}
use Rattle.mask_tasks.specs.declared.names.Named.TheVariants.{Present80, Present128, Lea128, Lea192, Lea256, Refresh80, Refresh128, Refresh192, Refresh256, TriviumStart, TriviumStep, LightmacStep80, LightmacEnd80, LightmacStep128, LightmacEnd128, ChaskeyStart, ChaskeyStep, ChaskeyEndWhole, ChaskeyEndShort}
use Rattle.mask_tasks.specs.declared.names.TheConstants.{ALL}
use Rattle.mask_tasks.specs.Names.{name_text}

abbrev pub name_at : ℕ → Named
name_at k = get_or ALL k Present80

pub row_of : (name : Named) → (k : ℕ) × (k < length ALL) × (name_at k ≡ name)
row_of Present80 = (0, lit< tt, refl)
row_of Present128 = (1, lit< tt, refl)
row_of Lea128 = (2, lit< tt, refl)
row_of Lea192 = (3, lit< tt, refl)
row_of Lea256 = (4, lit< tt, refl)
row_of Refresh80 = (5, lit< tt, refl)
row_of Refresh128 = (6, lit< tt, refl)
row_of Refresh192 = (7, lit< tt, refl)
row_of Refresh256 = (8, lit< tt, refl)
row_of TriviumStart = (9, lit< tt, refl)
row_of TriviumStep = (10, lit< tt, refl)
row_of LightmacStep80 = (11, lit< tt, refl)
row_of LightmacEnd80 = (12, lit< tt, refl)
row_of LightmacStep128 = (13, lit< tt, refl)
row_of LightmacEnd128 = (14, lit< tt, refl)
row_of ChaskeyStart = (15, lit< tt, refl)
row_of ChaskeyStep = (16, lit< tt, refl)
row_of ChaskeyEndWhole = (17, lit< tt, refl)
row_of ChaskeyEndShort = (18, lit< tt, refl)

differ : Named → Named → Bool
differ a b = not (bytes_eq (name_text a) (name_text b))

all_differ : List Named → Bool
all_differ [] = true
all_differ (a ∷ names) = list_all (λ b. differ a b) names && all_differ names

differ_at : (names : List Named) (k l : ℕ) → all_differ names ≡ true → k < l → l < length names →
    differ (get_or names k Present80) (get_or names l Present80) ≡ true
unfolding all_differ
differ_at [] k l h lt within = absurd (omega arith)
differ_at (a ∷ names) k zero h lt within = absurd (omega arith)
differ_at (a ∷ names) zero (suc l) h lt within = AllPass-from_list_all (λ b. differ a b) names (and_parts _ _ h).0 l Present80 (omega arith)
differ_at (a ∷ names) (suc k) (suc l) h lt within = differ_at names k l (and_parts _ _ h).1 (omega arith) (omega arith)

all_names_differ : all_differ ALL ≡ true
unfolding all_differ differ
all_names_differ = refl

one_row : (k l : ℕ) → k < l → l < length ALL → name_text (name_at k) ≡ name_text (name_at l) → ⊥
unfolding differ
one_row k l lt within same =
    let other : not (bytes_eq (name_text (name_at k)) (name_text (name_at l))) ≡ true = differ_at ALL k l all_names_differ lt within in
    let equal : bytes_eq (name_text (name_at k)) (name_text (name_at l)) ≡ true = (bytes_eq-Decides _ _).1 same in
    let contrary : not (bytes_eq (name_text (name_at k)) (name_text (name_at l))) ≡ false = ap not equal in cc

pub distinct : (a b : Named) → name_text a ≡ name_text b → a ≡ b
distinct a b same =
    let k = row_of a in
    let l = row_of b in
    let rows : name_text (name_at k.0) ≡ name_text (name_at l.0) = ap name_text k.2 ∙ same ∙ sym (ap name_text l.2) in
    elim (cases_order k.0 l.0) [
      | inl here ↦ sym k.2 ∙ ap name_at here ∙ l.2
      | inr apart ↦ elim apart [ inl below ↦ absurd (one_row k.0 l.0 below l.1 rows) | inr above ↦ absurd (one_row l.0 k.0 above k.1 (sym rows)) ]
    ]
