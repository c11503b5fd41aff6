use Rattle.std.proofs.Common.{◌≡◌, ℕ, zero, suc, ◌+◌, ◌*◌, [], ◌∷◌, length, map, refl, ap₂, ◌∙◌, arith}
use Rattle.std.specs.List.{range_with_len}
use Rattle.std.proofs.lemmas.List.FromFn.{fill_by_all}
use Rattle.mask_lea.specs.NamedLea.{words_from}
use Rattle.mask_lea.proofs.circuits.number_words.Goals as goal

-- words in a row, counted from another one
map-words : (f a n b : ℕ) → f + 32 * a ≡ b → map (λ k. range_with_len (f + 32 * k) 32) (range_with_len a n) ≡ words_from b n
unfolding words_from
map-words f a zero b at = refl
map-words f a (suc n) b at = ap₂ ◌∷◌ (rw at refl) (map-words f (a + 1) n (b + 32) (omega arith))

pub returns : goal.returns
returns c =
    let first = c.args.first in
    fill_by_all (λ k. range_with_len (first + 32 * k) 32) c.loop-k.words (length c.args.words.now) [] c.loop-k.auto.words
    (λ i low. c.loop-k.invariant i (omega arith))
    ∙ map-words first 0 (length c.args.words.now) first (omega arith)
