-- Records that are filled lane by lane.
use Rattle.std.proofs.Common.{◌≡◌, ℕ, zero, suc, ◌+◌, ◌*◌, ◌<◌, ◌≤◌, List, [], ◌∷◌, ◌++◌, length, map, take, drop, get_or, All, refl, ap, ap₂, sym, subst, ◌∙◌, arith, length-append, length-drop, append_assoc}
use Rattle.std.proofs.lemmas.List.{get_or-drop, ext_get_or, length-map, length_push, map-append, take_more, take_all, take_at, drop_all, take-map, drop-map, take-append-le, drop-append-le, length-take}
use Rattle.std.specs.List.{concat}
use Rattle.std.proofs.lemmas.List.Elements.{All-push}
use Rattle.std.proofs.Math.ListN.{get_or-map}
use Rattle.std.proofs.Math.Seq.{drop-append_seam}
use borrow.Rule.Slice.PartMut.{put_mid, same_len_mid}
use Rattle.mask_bits.specs.Lanes.{lane}
use Rattle.mask_circuit.specs.Netlist.{Netlist}
use Rattle.mask_circuit.proofs.Places.{length-each}
use Rattle.mask_shares.proofs.Lists.{get_or-each, concat-push}
use Rattle.mask_eval.specs.Watching.{Told, Awaited, awaited, reports}
use Rattle.mask_eval.specs.Listing.{as_told, IsBlank, AreBlank, AreBlanksFor, Added, filled}
use Rattle.mask_eval.specs.declared.listing.Seen.{Seen}

-- what holds of all records holds of one that is still as it was
pub at_blank : {X : Type 0} (P : X → Type 0) (items old : List X) (l : ℕ) (d : X) → All P old → drop l items ≡ drop l old → l < length old → P (get_or items l d)
at_blank {X} P items old l d all back lt =
    let end : l + 0 ≡ l = omega arith in
    subst P
    (ap (λ (n : ℕ). get_or old n d) (sym end)
    ∙ sym (get_or-drop l old 0 d)
    ∙ ap (λ (xs : List X). get_or xs 0 d) (sym back)
    ∙ get_or-drop l items 0 d
    ∙ ap (λ (n : ℕ). get_or items n d) end)
    (all l d lt)

module _ (inputs coins outputs : List ℕ) where
  -- a record with the bits of lane l
  abbrev of_lane : Netlist → ℕ → ℕ → Told
  of_lane c order l = record { circuit = c; order = order; inputs = lane l inputs; tape = lane l coins; outputs = lane l outputs }

  filled-at : (l : ℕ) (ss : List Seen) (k : ℕ) (d : Told) → k < length ss →
      get_or (map as_told (filled inputs coins outputs l ss)) k d ≡ of_lane (get_or (map as_told ss) k d).circuit (get_or (map as_told ss) k d).order (l + k)
  filled-at l [] k d lt = absurd (omega arith)
  filled-at l (s ∷ ss) zero d lt = let e : l ≡ l + 0 = omega arith in ap (of_lane s.circuit s.order) e
  filled-at l (s ∷ ss) (suc k) d lt =
      let e : suc l + k ≡ l + suc k = omega arith in
      filled-at (suc l) ss k d (omega arith) ∙ ap (of_lane (get_or (map as_told ss) k d).circuit (get_or (map as_told ss) k d).order) e

  pub length-filled : (l : ℕ) (ss : List Seen) → length (filled inputs coins outputs l ss) ≡ length ss
  length-filled l [] = refl
  length-filled l (s ∷ ss) = ap suc (length-filled (suc l) ss)

  -- filled blanks are what is reported
  pub reported : (c : Netlist) (order lanes : ℕ) (ss : List Seen) → AreBlank c order lanes (map as_told ss) →
      map as_told (filled inputs coins outputs 0 ss) ≡ reports c order inputs coins outputs lanes
  reported c order lanes ss blank =
      let d = of_lane c order 0 in
      let count : length ss ≡ lanes = sym (length-map ss as_told) ∙ blank.count in
      let all : length (map as_told (filled inputs coins outputs 0 ss)) ≡ length ss = length-map _ as_told ∙ length-filled 0 ss in
      ext_get_or d _ _ (all ∙ count ∙ sym (length-each (of_lane c order) lanes))
      (λ k lt.
      let below : k < length ss = omega arith in
      let within : k < length (map as_told ss) = omega (arith, length-map ss as_told) in
      let low : k < lanes = omega arith in
      let e : 0 + k ≡ k = omega arith in
      let is = blank.each_is k d within in
      filled-at 0 ss k d below
      ∙ ap₂ (λ (n : Netlist) (o : ℕ). of_lane n o (0 + k)) is.circuit is.order_is
      ∙ ap (of_lane c order) e
      ∙ sym (get_or-each (of_lane c order) lanes k d low))

-- one blank of all
pub blank_at : (c : Netlist) (order lanes : ℕ) (ss : List Seen) (k : ℕ) (d : Seen) → AreBlank c order lanes (map as_told ss) → k < length ss →
    IsBlank c order (as_told (get_or ss k d))
blank_at c order lanes ss k d blank lt =
    subst (IsBlank c order) (get_or-map as_told ss k d) (blank.each_is k (as_told d) (omega (arith, length-map ss as_told)))

-- one blank more
pub added_more : (c : Netlist) (order n : ℕ) (old items new : List Seen) (s : Seen) → Added c order n old items → IsBlank c order (as_told s) →
    new ≡ items ++ s ∷ [] → Added c order (n + 1) old new
added_more c order n old items new s added is e =
    let all : map as_told (added.more ++ s ∷ []) ≡ map as_told added.more ++ as_told s ∷ [] = map-append as_told added.more (s ∷ []) in
    record {
      more = added.more ++ s ∷ [];
      is = e ∙ ap (λ (ss : List Seen). ss ++ s ∷ []) added.is ∙ append_assoc old added.more (s ∷ []);
      blank = record {
        count = ap length all ∙ length_push (map as_told added.more) (as_told s) ∙ ap (λ (m : ℕ). m + 1) added.blank.count;
        each_is = subst (λ (ts : List Told). All (IsBlank c order) ts) (sym all)
            (All-push (IsBlank c order) (map as_told added.more) (as_told s) added.blank.each_is is);
      };
    }

-- QUEUES

-- the first blanks are those for the first evaluation, and behind them are those for the others
module _ (c : Netlist) (order lanes : ℕ) (rest : List Awaited) (ss : List Seen) (queued : AreBlanksFor (awaited c order lanes ∷ rest) (map as_told ss)) where
  pub first_blanks : AreBlank c order lanes (map as_told (take lanes ss))
  first_blanks = subst (AreBlank c order lanes) (take-map as_told lanes ss) queued.0

  pub blanks_behind : AreBlanksFor rest (map as_told (drop lanes ss))
  blanks_behind = subst (AreBlanksFor rest) (drop-map as_told lanes ss) queued.1

-- blanks for one evaluation more
pub queued_more : (es : List Awaited) (e : Awaited) (ts more : List Told) → AreBlanksFor es ts → AreBlank e.circuit e.order e.lanes more →
    AreBlanksFor (es ++ e ∷ []) (ts ++ more)
queued_more [] e ts more none blank =
    let all : length more ≤ e.lanes = omega (arith, blank.count) in
    rw none (subst (AreBlank e.circuit e.order e.lanes) (sym (take_all e.lanes more all)) blank, drop_all e.lanes more all)
queued_more (f ∷ es) e ts more queued blank =
    let within : f.lanes ≤ length ts = omega (arith, queued.0.count, length-take f.lanes ts) in (
      subst (AreBlank f.circuit f.order f.lanes) (sym (take-append-le f.lanes ts more within)) queued.0,
      subst (AreBlanksFor (es ++ e ∷ [])) (sym (drop-append-le f.lanes ts more within)) (queued_more es e (drop f.lanes ts) more queued.1 blank),
    )

-- blanks that were added are behind all others
pub room_added : (c : Netlist) (order lanes : ℕ) (es : List Awaited) (told : ℕ) (old new : List Seen) → told ≤ length old → Added c order lanes old new →
    AreBlanksFor es (map as_told (drop told old)) → AreBlanksFor (es ++ awaited c order lanes ∷ []) (map as_told (drop told new))
room_added c order lanes es told old new le added queued =
    subst (AreBlanksFor (es ++ awaited c order lanes ∷ []))
    (sym (ap (λ (ss : List Seen). map as_told (drop told ss)) added.is
    ∙ ap (map as_told) (drop-append-le told old added.more le)
    ∙ map-append as_told (drop told old) added.more))
    (queued_more es (awaited c order lanes) (map as_told (drop told old)) (map as_told added.more) queued added.blank)

-- PARTS

-- records in the middle that were replaced by as many others: up to their end and behind it
module _ {X : Type 0} (from count end : ℕ) (items new : List X) (ends : end ≡ from + count) (within : from + count ≤ length items) (many : length new ≡ count) where
  front : length (take from items ++ new) ≡ end
  front = omega (arith, length-append (take from items) new, length-take from items)

  pub part_front : take end (put_mid from count items new) ≡ take from items ++ new
  part_front =
      ap (take end) (sym (append_assoc (take from items) new (drop count (drop from items))))
      ∙ take_at (take from items ++ new) (drop count (drop from items)) end front

  pub part_back : drop end (put_mid from count items new) ≡ drop count (drop from items)
  part_back =
      ap (drop end) (sym (append_assoc (take from items) new (drop count (drop from items))))
      ∙ ap (λ (n : ℕ). drop n ((take from items ++ new) ++ drop count (drop from items))) (sym front)
      ∙ drop-append_seam (take from items ++ new) (drop count (drop from items))

  pub part_length : length (put_mid from count items new) ≡ length items
  part_length = same_len_mid from count items new (many ∙ (let e : count ≡ length (take count (drop from items)) = omega (arith, length-take count (drop from items), length-drop from items) in e))

-- blanks are within the records
pub blanks_within : (c : Netlist) (order lanes told : ℕ) (ss : List Seen) → AreBlank c order lanes (map as_told (take lanes (drop told ss))) → 1 ≤ lanes →
    told + lanes ≤ length ss
blanks_within c order lanes told ss blank some =
    omega (arith, blank.count, length-map (take lanes (drop told ss)) as_told, length-take lanes (drop told ss), length-drop told ss)

-- words that hold k lists of n, one after another, hold one list more
pub concat_more : (n k : ℕ) (values : List (List ℕ)) (value words words' : List ℕ) → k < length values → value ≡ get_or values k [] →
    take (n * k) words ≡ concat (take k values) → take (n * k + n) words' ≡ take (n * k) words ++ value → take (n * (k + 1)) words' ≡ concat (take (k + 1) values)
concat_more n k values value words words' lt value_is before now =
    let end : n * (k + 1) ≡ n * k + n = omega arith in
    rw end
    (now
    ∙ ap₂ (λ (xs ys : List ℕ). xs ++ ys) before value_is
    ∙ sym (concat-push (take k values) (get_or values k []))
    ∙ ap concat (sym (take_more values k [] lt)))
