use Rattle.std.proofs.Common.{◌≡◌, ℕ, ◌+◌, ◌-◌, ◌<◌, List, [], ◌∷◌, ◌++◌, length, get_or, fold, bit_xor, ap, sym, ◌∙◌, arith}
use Rattle.std.proofs.lemmas.List.{take_more_set, length-set}
use Rattle.std.proofs.lemmas.List.Sums.{fold-append}
use Rattle.mask_tape.specs.Drawn.{ahead}
use Rattle.mask_eval.proofs.Shared.{ahead_more}
use Rattle.mask_eval.proofs.sharing.share.Goals as goal

pub loop-i-preserved : goal.loop-i-preserved
loop-i-preserved g c =
    let now : c.loop-i.i + 1 - 1 ≡ c.loop-i.i - 1 + 1 = omega arith in
    let at : c.args.coins.now.used + (c.loop-i.i - 1) ≡ c.loop-i.coins.used = omega arith in
    let room : c.args.coins.now.used + (c.loop-i.i - 1) < length c.args.coins.now.words = omega arith in
    let coin : get_or c.args.coins.now.words (c.args.coins.now.used + (c.loop-i.i - 1)) 0 ≡ c.next-coin.result = rw at (cc) in
    let more = ahead_more (c.loop-i.i - 1) c.args.coins.now room in
    let grown : ahead (c.loop-i.i + 1 - 1) c.args.coins.now ≡ ahead (c.loop-i.i - 1) c.args.coins.now ++ c.next-coin.result ∷ [] =
    ap (λ (n : ℕ). ahead n c.args.coins.now) now ∙ more
    ∙ ap (λ (x : ℕ). ahead (c.loop-i.i - 1) c.args.coins.now ++ x ∷ []) coin in
    record {
      spent = omega arith;
      same = cc;
      first =
          ap (λ (x : ℕ). bit_xor x c.next-coin.result) c.loop-i.invariant.first
          ∙ sym (fold-append bit_xor c.args.word (ahead (c.loop-i.i - 1) c.args.coins.now) (c.next-coin.result ∷ []))
          ∙ ap (fold bit_xor c.args.word) (sym grown);
      size = length-set c.loop-i.parts c.loop-i.i c.next-coin.result ∙ c.loop-i.invariant.size;
      parts =
          take_more_set c.loop-i.parts c.loop-i.i c.next-coin.result (omega arith)
          ∙ ap (λ (xs : List ℕ). xs ++ c.next-coin.result ∷ []) c.loop-i.invariant.parts
          ∙ ap (λ (xs : List ℕ). 0 ∷ xs) (sym grown);
    }
