use Rattle.std.proofs.Common.{◌≡◌, ℕ, List, ◌++◌, length, take, drop, replicate, refl}
use Rattle.std.specs.List.{range_with_len}
use Rattle.std.proofs.lemmas.List.{append-nil, take_at, drop_at}
use borrow.Rule.Slice.PartMut.{put_mid}
use Rattle.mask_trivium.proofs.circuits.followed.Goals as goal

-- the state, and then the places behind it written
joined : (was state ys : List ℕ) (first : ℕ) → was ≡ state → length state ≡ 288 → ys ≡ range_with_len first (length (take 64 (drop 288 (was ++ replicate 64 0))))
    → put_mid 288 64 (was ++ replicate 64 0) ys ≡ state ++ range_with_len first 64
joined was state ys first same long is =
    rw (is, same, take_at state (replicate 64 0) 288 long, drop_at state (replicate 64 0) 288 long, append-nil) refl

pub returns : goal.returns
returns c = joined c.copy_from_slice.new.self c.args.state.now c.number_from.new.places c.args.first c.copy_from_slice.ensures.after c.told-state c.number_from.ensures
