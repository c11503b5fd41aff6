use Rattle.std.proofs.Common.{◌≡◌, ℕ, ◌+◌, ◌<◌, List, [], ◌∷◌, length, map, take, get_or, refl, ap, sym, ◌∙◌, arith, set}
use Rattle.std.proofs.lemmas.Grind.{take-set_at}
use Rattle.std.proofs.lemmas.List.{take_all, take_more, map-append, length-set}
use Rattle.mask_parts.specs.Words32.{word}
use Rattle.mask_lea.specs.Lea.{schedule, place}
use Rattle.mask_lea.specs.Rounds.{round_words}
use Rattle.mask_lea.proofs.Calling.{place-inside, place-low}
use Rattle.mask_lea.proofs.Running.{IsShape-schedule}
use Rattle.mask_lea.proofs.schedule.round_key.Goals as goal

-- one word more
more : (f : ℕ → List ℕ) (ks : List ℕ) (ws : List (List ℕ)) (w : List ℕ) (j : ℕ) → j < length ks → j < length ws → take j ws ≡ map f (take j ks) → w ≡ f (get_or ks j 0)
    → take (j + 1) (set ws j w) ≡ map f (take (j + 1) ks)
more f ks ws w j in_ks in_ws so_far is =
    take-set_at ws j (j + 1) w refl in_ws
    ∙ rw (so_far, is) (sym (map-append f (take j ks) (get_or ks j 0 ∷ [])) ∙ ap (map f) (sym (take_more ks j 0 in_ks)))

pub offset_bounds-key-place : goal.offset_bounds-key-place
offset_bounds-key-place c =
    let low = place-low c.args.size c.args.i _ c.place.result c.place.ensures in omega arith

pub bounds-key-place : goal.bounds-key-place
bounds-key-place c = rw c.requires.width (place-inside c.args.size c.args.i _ c.place.result c.place.ensures)

pub loop-j-preserved : goal.loop-j-preserved
loop-j-preserved c =
    let r = schedule c.args.size in
    let six : length c.taken-taken.result ≡ 6 = ap length c.taken-taken.ensures ∙ (IsShape-schedule c.args.size).six in
    let low = c.loop-j-test.true in let long = c.loop-j.invariant.long in
    record {
      long = length-set c.loop-j.words c.loop-j.j _ ∙ long;
      so_far = more (λ j. word c.args.key.now (place r c.args.i j)) c.taken-taken.result c.loop-j.words _ c.loop-j.j (omega arith) (omega arith) c.loop-j.invariant.so_far
          (rw c.place.ensures refl);
    }

pub returns : goal.returns
unfolding round_words
returns c =
    let r = schedule c.args.size in
    let six : length c.taken-taken.result ≡ 6 = ap length c.taken-taken.ensures ∙ (IsShape-schedule c.args.size).six in
    let long = c.loop-j.invariant.long in
    let high = c.loop-j-test.false in
    sym (take_all c.loop-j.j c.loop-j.words (omega arith)) ∙ c.loop-j.invariant.so_far
    ∙ ap (map (λ j. word c.args.key.now (place r c.args.i j))) (take_all c.loop-j.j c.taken-taken.result (omega arith) ∙ c.taken-taken.ensures)
