use Rattle.std.proofs.Common.{ℕ, ◌+◌, ◌<◌, Bool, List, [], ◌∷◌, ◌++◌, length, map, take, ap, ap₂, sym, ◌∙◌, arith}
use Rattle.std.proofs.lemmas.List.{take_more, take_more_set, length-set, map-append, get_or_read}
use Rattle.mask_run.specs.Lanes.{first_bit}
use Rattle.mask_run.proofs.LaneZero.{lowest_bit}
use Rattle.mask_run.proofs.evaluation.unmask_outputs.Goals as goal

pub loop-k-preserved : goal.loop-k-preserved
loop-k-preserved g c =
    let k = c.loop-k.k in
    let within : k < length c.args.shares.now = omega arith in
    let room : k < length c.loop-k.outputs = omega arith in
    let value = get_or_read c.args.shares.now k c.index-shares-k.result within c.index-shares-k.is [] in
    record {
      size = ap length c.set.ensures ∙ length-set c.loop-k.outputs k _ ∙ c.loop-k.invariant.size;
      values =
          ap (take (k + 1)) c.set.ensures
          ∙ take_more_set c.loop-k.outputs k _ room
          ∙ ap₂ (λ (bs : List Bool) (b : Bool). bs ++ b ∷ []) c.loop-k.invariant.values (lowest_bit c.unmask.result c.index-shares-k.result c.unmask.ensures)
          ∙ sym (map-append first_bit (take k c.args.shares.now) (c.index-shares-k.result ∷ []))
          ∙ ap (λ (vs : List (List ℕ)). map first_bit vs)
          (ap (λ (v : List ℕ). take k c.args.shares.now ++ v ∷ []) value ∙ sym (take_more c.args.shares.now k [] within));
    }
