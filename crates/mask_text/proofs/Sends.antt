-- Sending a text piece by piece.
use Rattle.std.proofs.Common.{◌≡◌, ℕ, ◌+◌, ◌<◌, ◌≤◌, List, [], ◌∷◌, ◌++◌, length, take, drop, map, get_or, suc, Option, refl, sym, ap, ◌∙◌, subst, append_assoc, append-nil, arith, length-append, length-drop, drop-cons, add-one}
use Rattle.std.specs.Io.KnownBytes.{Appends}
use Rattle.std.proofs.KnownBytes.{Appends-nil, Appends-trans}
use Rattle.std.proofs.lemmas.List.{take-append-le, drop_all}
use Rattle.std.proofs.lemmas.List.Concat.{flat_map-append}
use Rattle.mask_circuit.specs.Labels.{NamedGroup, sizes}
use Rattle.mask_circuit.specs.Text.{Line, Output, Out, output_lines, line_words, spaced, spelling}
use Rattle.mask_io.specs.Outside.{IsProperPrefix, AppendsProperPrefix}

-- of the whole text a front was sent, and the rest not yet
pub record Sent (start now : Option (List ℕ)) (rest whole : List ℕ) : Type 0 where
  pub front : List ℕ
  pub sent : Appends start now front
  pub all : front ++ rest ≡ whole

pub sent-none : (start : Option (List ℕ)) (whole : List ℕ) → Sent start start whole whole
sent-none start whole = record { front = []; sent = Appends-nil start; all = refl }

-- the next piece was sent
pub sent-more : (start now then : Option (List ℕ)) (piece rest whole : List ℕ) → Sent start now (piece ++ rest) whole
    → Appends now then piece → Sent start then rest whole
sent-more start now then piece rest whole s piece_sent = record {
  front = s.front ++ piece;
  sent = Appends-trans start now then s.front piece s.sent piece_sent;
  all = append_assoc s.front piece rest ∙ s.all;
}

pub sent-all : (start now : Option (List ℕ)) (whole : List ℕ) → Sent start now [] whole → Appends start now whole
sent-all start now whole s = subst (Appends start now) (sym (append-nil s.front) ∙ s.all) s.sent

prefix-whole : (front piece rest done : List ℕ) → IsProperPrefix front piece → IsProperPrefix (done ++ front) (done ++ (piece ++ rest))
prefix-whole front piece rest done is = (
  omega (
    arith,
    length-append done front,
    length-append done (piece ++ rest),
    length-append piece
        rest,
  ),
  by done,
)
  where
    here : take (length front) (piece ++ rest) ≡ front
    here = take-append-le (length front) piece rest (omega (arith, is.0)) ∙ is.1

    by : (xs : List ℕ) → take (length (xs ++ front)) (xs ++ (piece ++ rest)) ≡ xs ++ front
    by [] = here
    by (x ∷ xs) = ap (λ l. x ∷ l) (by xs)

-- the next piece was sent in part alone
pub sent-stopped : (start now then : Option (List ℕ)) (piece rest whole : List ℕ) → Sent start now (piece ++ rest) whole
    → AppendsProperPrefix now then piece
    → AppendsProperPrefix start then whole
sent-stopped start now then piece rest whole s part = (
  s.front ++ part.0,
  subst (λ (xs : List ℕ). IsProperPrefix (s.front ++ part.0) xs) s.all (prefix-whole part.0 piece rest s.front part.1),
  Appends-trans start now then s.front part.0 s.sent part.2,
)

-- the same for the lines of a list, of which i were sent
module _ {X : Type 0} (f : X → Line) (xs : List X) (i : ℕ) (x d : X) (below : i < length xs) (is : x ≡ get_or xs i d) where
  spelling-next : spelling (map f (drop i xs)) ≡ (spaced (line_words (f x)) ++ 10 ∷ []) ++ spelling (map f (drop (i + 1) xs))
  spelling-next =
      ap (λ l. spelling (map f l)) (drop-cons xs i d below)
      ∙ ap (λ y. (spaced (line_words (f y)) ++ 10 ∷ []) ++ spelling (map f (drop (suc i) xs))) (sym is)
      ∙ ap (λ k. (spaced (line_words (f x)) ++ 10 ∷ []) ++ spelling (map f (drop k xs))) (sym (add-one i))

  pub line-sent : (start now then : Option (List ℕ)) (piece whole : List ℕ) → piece ≡ spaced (line_words (f x)) ++ 10 ∷ []
      → Sent start now (spelling (map f (drop i xs))) whole → Appends now then piece → Sent start then (spelling (map f (drop (i + 1) xs))) whole
  line-sent start now then piece whole e s sent =
      sent-more start now then (spaced (line_words (f x)) ++ 10 ∷ []) (spelling (map f (drop (i + 1) xs))) whole
      (subst (λ (rest : List ℕ). Sent start now rest whole) spelling-next s) (subst (Appends now then) e sent)

  pub line-stopped : (start now then : Option (List ℕ)) (piece whole : List ℕ) → piece ≡ spaced (line_words (f x)) ++ 10 ∷ []
      → Sent start now (spelling (map f (drop i xs))) whole → AppendsProperPrefix now then piece → AppendsProperPrefix start then whole
  line-stopped start now then piece whole e s part =
      sent-stopped start now then (spaced (line_words (f x)) ++ 10 ∷ []) (spelling (map f (drop (i + 1) xs))) whole
      (subst (λ (rest : List ℕ). Sent start now rest whole) spelling-next s) (subst (AppendsProperPrefix now then) e part)

pub lines-sent : {X : Type 0} (f : X → Line) (xs : List X) (i : ℕ) (start now : Option (List ℕ)) (whole : List ℕ) → length xs ≤ i
    → Sent start now (spelling (map f (drop i xs))) whole → Appends start now whole
lines-sent f xs i start now whole all s =
    sent-all start now whole (subst (λ (rest : List ℕ). Sent start now rest whole) (ap (λ l. spelling (map f l)) (drop_all i xs all)) s)

-- the same for groups of outputs, of which i were sent with their outputs
module _ (groups : List NamedGroup) (i : ℕ) (g d : NamedGroup) (below : i < length groups) (is : g ≡ get_or groups i d) where
  next_group : drop i groups ≡ g ∷ drop (i + 1) groups
  next_group = drop-cons groups i d below ∙ ap (λ h. h ∷ drop (suc i) groups) (sym is) ∙ ap (λ k. g ∷ drop k groups) (sym (add-one i))

  -- the outputs of the group, and those behind it
  pub group_within : (us : List ℕ) → sizes (drop i groups) ≤ length us → g.size ≤ length us
  group_within us enough = let e = ap sizes next_group in omega arith

  pub groups_within : (us : List ℕ) → sizes (drop i groups) ≤ length us → sizes (drop (i + 1) groups) ≤ length (drop g.size us)
  groups_within us enough = let e = ap sizes next_group in omega (arith, length-drop g.size us)

  spelling-group : (us : List ℕ) → spelling (output_lines (drop i groups) us)
      ≡ (spaced (line_words (Output g.name g.size)) ++ 10 ∷ []) ++
      (spelling (map Out (take g.size us)) ++ spelling (output_lines (drop (i + 1) groups) (drop g.size us)))
  spelling-group us =
      ap (λ l. spelling (output_lines l us)) next_group
      ∙ ap (λ xs. (spaced (line_words (Output g.name g.size)) ++ 10 ∷ []) ++ xs)
      (flat_map-append (λ line. spaced (line_words line) ++ 10 ∷ []) (map Out (take g.size us)) (output_lines (drop (i + 1) groups) (drop g.size us)))

  -- the line of the group, and behind it its outputs, were sent
  pub group-named : (start now then : Option (List ℕ)) (us piece whole : List ℕ) → piece ≡ spaced (line_words (Output g.name g.size)) ++ 10 ∷ []
      → Sent start now (spelling (output_lines (drop i groups) us)) whole → Appends now then piece
      → Sent start then (spelling (map Out (take g.size us)) ++ spelling (output_lines (drop (i + 1) groups) (drop g.size us))) whole
  group-named start now then us piece whole e s sent =
      sent-more start now then (spaced (line_words (Output g.name g.size)) ++ 10 ∷ []) _ whole
      (subst (λ (rest : List ℕ). Sent start now rest whole) (spelling-group us) s) (subst (Appends now then) e sent)

  pub group-stopped : (start now then : Option (List ℕ)) (us piece whole : List ℕ) → piece ≡ spaced (line_words (Output g.name g.size)) ++ 10 ∷ []
      → Sent start now (spelling (output_lines (drop i groups) us)) whole → AppendsProperPrefix now then piece → AppendsProperPrefix start then whole
  group-stopped start now then us piece whole e s part =
      sent-stopped start now then (spaced (line_words (Output g.name g.size)) ++ 10 ∷ []) _ whole
      (subst (λ (rest : List ℕ). Sent start now rest whole) (spelling-group us) s) (subst (AppendsProperPrefix now then) e part)

pub groups-sent : (groups : List NamedGroup) (i : ℕ) (us : List ℕ) (start now : Option (List ℕ)) (whole : List ℕ) → length groups ≤ i
    → Sent start now (spelling (output_lines (drop i groups) us)) whole → Appends start now whole
groups-sent groups i us start now whole all s =
    sent-all start now whole (subst (λ (rest : List ℕ). Sent start now rest whole) (ap (λ l. spelling (output_lines l us)) (drop_all i groups all)) s)
