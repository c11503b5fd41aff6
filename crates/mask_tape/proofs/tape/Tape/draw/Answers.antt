use Rattle.std.proofs.Common.{◌≡◌, ℕ, ◌+◌, ◌-◌, ◌*◌, ◌/◌, ◌<◌, List, [], ◌∷◌, ◌++◌, length, take, drop, get_or, arith, ◌∙◌, ap, ap₂, sym, subst}
use Rattle.std.proofs.lemmas.List.{take_at, get_or_read}
use Rattle.mask_bits.specs.Reading.{low}
use Rattle.mask_tape.specs.Drawn.{Amount}
use Rattle.mask_tape.specs.Tape.{new_bytes, IsSpread}
use Rattle.mask_tape.proofs.Stretches.{stretch, count_is, rest_is, spread_same}
use Rattle.mask_tape.proofs.tape.Tape.draw.Goals as goal

pub returns-clause-drawn : goal.returns-clause-drawn
returns-clause-drawn g c =
    let ok = c.in_ok-fill_behind.ensures.ok in
    let kept = c.args.self.now in
    let bytes : List ℕ = c.fill_behind.new.bytes in
    let from : ℕ = c.self.inside.from in
    let n : ℕ = c.room.inside.lanes * c.len.result in
    let count : ℕ = (c.self.inside.from + c.room.inside.lanes * c.len.result - 1) / 8 in
    let some = c.self.invariant.0 in
    let few = c.self.invariant.1 in
    let lanes_are : c.room.inside.lanes ≡ c.args.room.lanes = ap (λ (a : Amount). a.lanes) c.room.view_is in
    let bits_are : length c.room.inside.words.items ≡ c.args.room.bits = ap (λ (a : Amount). a.bits) c.room.view_is in
    let words_len : c.len.result ≡ length c.room.inside.words.items = omega arith in
    let all : n ≡ c.room.inside.lanes * length c.room.inside.words.items = ap (λ (b : ℕ). c.room.inside.lanes * b) words_len in
    let n_is : n ≡ c.args.room.lanes * c.args.room.bits = ap₂ (λ (a b : ℕ). a * b) lanes_are (words_len ∙ bits_are) in
    let enough : length c.room.inside.bytes.items ≡ (c.room.inside.lanes * length c.room.inside.words.items + 7) / 8 + 1 = c.room.invariant.3 in
    let long : length bytes ≡ count + 1 = omega arith in
    let filled : length bytes ≡ c.truncate.new.self.len = omega arith in
    let same = take_at bytes (drop (length bytes) c.truncate.new.self.items) c.truncate.new.self.len filled in
    let fresh : length ok.0 ≡ count = omega (arith, ap length ok.1) in
    let whole : kept ++ low ok.0 ≡ drop from (low bytes) =
    stretch kept c.self.inside.last from ok.0 few c.self.view_is ∙ ap (λ (l : List ℕ). drop from (low l)) (sym ok.1) in
    let inside : count < length (take c.truncate.new.self.len (bytes ++ drop (length bytes) c.truncate.new.self.items)) = omega (arith, ap length same) in
    let last : c.index.result.now ≡ get_or bytes count 0 =
    get_or_read _ count c.index.result.now inside c.index.ensures 0 ∙ ap (λ (l : List ℕ). get_or l count 0) same in
    let spread_words : length c.spread.new.words ≡ c.room.inside.words.len = omega (arith, c.spread.ensures.count) in
    let words : c.new.result.words ≡ c.spread.new.words =
    c.new.ensures.words
    ∙ take_at c.spread.new.words (drop (length c.spread.new.words) c.room.inside.words.items) c.room.inside.words.len spread_words in
    record {
      fresh = ok.0;
      needed = fresh ∙ count_is kept c.self.inside.last from n some few c.self.view_is ∙ ap (new_bytes kept) n_is;
      taken = ok.2;
      spread = subst (λ (m : ℕ). IsSpread (kept ++ low ok.0) m c.args.room.bits c.new.result.words) lanes_are
          (spread_same (drop from (low c.deref.result.now)) _ c.room.inside.lanes (length c.deref_mut-2.result.now) _ c.spread.new.words _
          (whole ∙ ap (λ (l : List ℕ). drop from (low l)) (sym (c.deref.ensures.value ∙ same)))
          (let b : c.args.room.bits ≡ length c.deref_mut-2.result.now = omega arith in b) words c.spread.ensures);
      rest = ap (λ (b : ℕ). drop (from + n - 8 * count) (low (b ∷ []))) last ∙ rest_is bytes from n count long (omega arith) ∙ ap (drop n) (sym whole)
          ∙ ap (λ (m : ℕ). drop m (kept ++ low ok.0)) n_is;
    }
