use Rattle.std.proofs.Common.{◌≡◌, ℕ, ◌<◌, List, ◌++◌, length, take, drop, replicate, get_or, ap, ◌∙◌, arith}
use Rattle.std.specs.Int.{w64, from_le_bytes}
use borrow.Rule.Slice.PartMut.{put_mid, post_of}
use Rattle.std.proofs.lemmas.List.{length-take-le, get_or-take, take_all}
use Rattle.mask_bits.specs.Reading.{low, number}
use Rattle.mask_tape.proofs.Windows.{number-eight, number-few}
use Rattle.mask_tape.proofs.spreading.little_endian.Goals as goal

pub returns-in-Some : goal.returns-in-Some
returns-in-Some c =
    let long : length c.in-Some.eight.now ≡ 8 = ap length c.in-Some.ensures.cases.same ∙ length-take-le 8 c.args.bytes.now c.in-Some.ensures.cases.enough in
    let small : (i : ℕ) → i < length c.in-Some.eight.now → get_or c.in-Some.eight.now i 0 < 256 =
    λ i lt. rw (c.in-Some.ensures.cases.same, get_or-take 8 c.args.bytes.now i 0 (omega arith)) (c.type_inv.bytes i).fits in
    c.from_le_bytes.ensures ∙ number-eight c.in-Some.eight.now long small ∙ ap (λ l. number (low l)) c.in-Some.ensures.cases.same

pub returns-in-None : goal.returns-in-None
returns-in-None c =
    let few : length c.args.bytes.now < 8 = c.in-None.ensures.cases in
    let all : take 8 c.args.bytes.now ≡ c.args.bytes.now = take_all 8 c.args.bytes.now (omega arith) in
    let bytes = c.args.bytes.now in
    let filled : put_mid 0 (length bytes) (replicate 8 0) c.copy_from_slice.new.self ≡ bytes ++ drop (length bytes) (replicate 8 0) =
    ap (λ (l : List ℕ). l ++ post_of 0 (length bytes) (replicate 8 0)) c.copy_from_slice.ensures.after in
    rw all (c.from_le_bytes-in-None.ensures ∙ ap (from_le_bytes w64) filled ∙ number-few bytes few (λ i lt. (c.type_inv.bytes i).fits))
