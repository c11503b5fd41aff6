-- Sending key lines one by one.
use Rattle.std.proofs.Common.{◌≡◌, ℕ, suc, ◌+◌, ◌<◌, ◌≤◌, List, [], ◌∷◌, ◌++◌, length, drop, get_or, Option, sym, ap, ◌∙◌, subst, add-one, drop-cons}
use Rattle.std.proofs.lemmas.List.{drop_all}
use Rattle.std.specs.Io.KnownBytes.{Appends}
use Rattle.mask_io.specs.Outside.{AppendsProperPrefix}
use Rattle.mask_text.proofs.Sends.{Sent, sent-more, sent-all, sent-stopped}
use Rattle.mask_keys.specs.Files.{line_text, key_file}

-- the next line of a list
module _ (lines : List (List ℕ)) (i : ℕ) (line : List ℕ) (below : i < length lines) (is : line ≡ get_or lines i []) where
  key_file-next : key_file (drop i lines) ≡ line_text line ++ key_file (drop (i + 1) lines)
  unfolding key_file
  key_file-next =
      ap key_file (drop-cons lines i [] below ∙ ap (λ (l : List ℕ). l ∷ drop (suc i) lines) (sym is) ∙ ap (λ (k : ℕ). line ∷ drop k lines) (sym (add-one i)))

  pub line-sent : (start now then : Option (List ℕ)) (piece whole : List ℕ) → piece ≡ line_text line → Sent start now (key_file (drop i lines)) whole →
      Appends now then piece → Sent start then (key_file (drop (i + 1) lines)) whole
  line-sent start now then piece whole e s sent = sent-more start now then (line_text line) (key_file (drop (i + 1) lines)) whole
      (subst (λ (rest : List ℕ). Sent start now rest whole) key_file-next s) (subst (Appends now then) e sent)

  pub line-stopped : (start now then : Option (List ℕ)) (piece whole : List ℕ) → piece ≡ line_text line → Sent start now (key_file (drop i lines)) whole →
      AppendsProperPrefix now then piece → AppendsProperPrefix start then whole
  line-stopped start now then piece whole e s part = sent-stopped start now then (line_text line) (key_file (drop (i + 1) lines)) whole
      (subst (λ (rest : List ℕ). Sent start now rest whole) key_file-next s) (subst (AppendsProperPrefix now then) e part)

pub lines-sent : (lines : List (List ℕ)) (i : ℕ) (start now : Option (List ℕ)) (whole : List ℕ) → length lines ≤ i →
    Sent start now (key_file (drop i lines)) whole → Appends start now whole
unfolding key_file
lines-sent lines i start now whole all s = sent-all start now whole (subst (λ (rest : List ℕ). Sent start now rest whole) (ap key_file (drop_all i lines all)) s)
