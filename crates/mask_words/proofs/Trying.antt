-- Trying the forms of the table one after another.
use Rattle.std.proofs.Common.{◌≡◌, ◌⊎◌, ℕ, ◌+◌, ◌<◌, ◌≤◌, List, length, get_or, refl, sym, subst, arith, below_more, lit<}
use Rattle.std.proofs.Common.{inl, inr}
use Rattle.std.proofs.lemmas.Bool.{cases_lt}
use Rattle.mask_words.specs.declared.table.Form.{Form}
use Rattle.mask_words.specs.declared.table.Form.TheVariants as forms
use Rattle.mask_words.specs.declared.table.TheConstants.{FORMS}
use Rattle.mask_words.specs.WordTests.{Word}
use Rattle.mask_words.specs.Jobs.{tests_of, tail_of, reach, Match, CouldGoOn, IsRefused}
use Rattle.mask_words.proofs.Matching.{goes_on, reach-goes_on, reach-bound}

-- the form in row k of the table
abbrev pub form_at : ℕ → Form
form_at k = get_or FORMS k forms.EncPresent

-- each form has a row
pub row_of : (f : Form) → (k : ℕ) × (k < length FORMS) × (form_at k ≡ f)
row_of forms.EncPresent = (0, lit< tt, refl)
row_of forms.EncLea = (1, lit< tt, refl)
row_of forms.EncTrivium = (2, lit< tt, refl)
row_of forms.MacChaskey = (3, lit< tt, refl)
row_of forms.MacLightMac = (4, lit< tt, refl)
row_of forms.Eval = (5, lit< tt, refl)
row_of forms.Check = (6, lit< tt, refl)
row_of forms.Upgrade = (7, lit< tt, refl)
row_of forms.Probe = (8, lit< tt, refl)
row_of forms.Split = (9, lit< tt, refl)
row_of forms.Join = (10, lit< tt, refl)
row_of forms.Emit = (11, lit< tt, refl)
row_of forms.SelfRun = (12, lit< tt, refl)

-- the words are those of the form
abbrev pub IsForm : Form → List Word → Type 0
IsForm f ws = Match (tests_of f) (tail_of f) ws

-- how many of the words from the front are those of the form
abbrev pub reach_in : Form → List Word → ℕ
reach_in f ws = reach (tests_of f) (tail_of f) ws

-- the first n forms are not that of the words, and none of them reaches farther
pub record Tried (ws : List Word) (n farthest : ℕ) : Type 0 where
  pub in_words : farthest ≤ length ws
  pub in_limit : farthest ≤ 1000000
  pub none : (k : ℕ) → k < n → IsForm (form_at k) ws → ⊥
  pub below : (k : ℕ) → k < n → reach_in (form_at k) ws ≤ farthest
  pub could_go_on : (q : ℕ) → q ≤ farthest → CouldGoOn ws q

-- words that reach so far in a form can go on
form_goes_on : (ws : List Word) (f : Form) (q : ℕ) → q ≤ reach_in f ws → CouldGoOn ws q
form_goes_on ws f q h = let on = goes_on (tests_of f) (tail_of f) ws q h in (f, on.0, on.1)

pub Tried-none : (ws : List Word) → Tried ws 0 0
Tried-none ws = record {
  in_words = omega arith;
  in_limit = omega arith;
  none = λ k h. absurd (omega arith);
  below = λ k h. absurd (omega arith);
  could_go_on = λ q h. form_goes_on ws forms.EncPresent q (omega arith);
}

-- one more form is tried, which isn't that of the words; now is the farther of the reaches
pub Tried-more : (ws : List Word) (n far reached now : ℕ) → Tried ws n far → reached ≡ reach_in (form_at n) ws → reached ≤ 1000000 →
    (IsForm (form_at n) ws → ⊥) → (now ≡ far × reached ≤ far) ⊎ (now ≡ reached × far ≤ reached) → Tried ws (n + 1) now
Tried-more ws n far reached now tried is limit other farther =
    let bound = reach-bound (tests_of (form_at n)) (tail_of (form_at n)) ws in
    record {
      in_words = let h = tried.in_words in elim farther [ inl w ↦ omega arith | inr w ↦ omega arith ];
      in_limit = let h = tried.in_limit in elim farther [ inl w ↦ omega arith | inr w ↦ omega arith ];
      none = below_more (λ k. IsForm (form_at k) ws → ⊥) n tried.none other;
      below = below_more (λ k. reach_in (form_at k) ws ≤ now) n
          (λ k h. let b = tried.below k h in elim farther [ inl w ↦ omega arith | inr w ↦ omega arith ])
          (elim farther [ inl w ↦ omega arith | inr w ↦ omega arith ]);
      could_go_on = λ q h. elim farther [ inl w ↦ tried.could_go_on q (omega arith) | inr w ↦ form_goes_on ws (form_at n) q (omega arith) ];
    }

-- once all forms are tried, the words are refused one past the farthest reach
module _ (ws : List Word) (far : ℕ) (tried : Tried ws (length FORMS) far) where
  no_match : (f : Form) → IsForm f ws → ⊥
  no_match f m =
      let row = row_of f in
      tried.none row.0 row.1 (subst (λ (g : Form). IsForm g ws) (sym row.2) m)

  no_farther : (f : Form) → reach_in f ws ≤ far
  no_farther f = let row = row_of f in subst (λ (g : Form). reach_in g ws ≤ far) row.2 (tried.below row.0 row.1)

  past : far < length ws → CouldGoOn ws (far + 1) → ⊥
  past h on =
      let reached = reach-goes_on (tests_of on.0) (tail_of on.0) ws on.1 (far + 1) (omega arith) on.2 in
      let bound = no_farther on.0 in omega arith

  pub IsRefused-tried : IsRefused ws (far + 1)
  IsRefused-tried = record {
    no_job = λ job is. no_match is.0 is.1;
    least = λ q h. tried.could_go_on q (omega arith);
    stops = elim (cases_lt far (length ws)) [ inl within ↦ inr (omega arith, past within) | inr end ↦ inl (let h = tried.in_words in omega arith) ];
  }
