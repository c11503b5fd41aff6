use Rattle.std.proofs.Common.{◌≡◌, ℕ, ◌+◌, ◌-◌, ◌≤◌, List, ◌∷◌, ◌++◌, length, map, take, drop, Some, ap, ap₂, sym, subst, ◌∙◌, arith, length-drop}
use Rattle.std.proofs.lemmas.List.{take_at, map-append, length-take-le}
use borrow.Rule.Slice.PartMut.{put_mid}
use Rattle.mask_eval.specs.Watching.{Told, awaited}
use Rattle.mask_eval.specs.Listing.{Listed, as_told, AreBlank, AreBlanksFor}
use Rattle.mask_eval.specs.declared.listing.Seen.{Seen}
use Rattle.mask_eval.proofs.Lists.{blank_at, blanks_behind, blanks_within, first_blanks, part_back, part_front, part_length, reported}
use Rattle.mask_eval.proofs.listing.ListWatchWatch.report.Goals as goal

pub fill_blanks-requires-clause-inputs : goal.fill_blanks-requires-clause-inputs
fill_blanks-requires-clause-inputs c k d lt =
    let told : ℕ = c.self.inside.told in
    let count : ℕ = c.self.inside.told + c.args.lanes - c.self.inside.told in
    let items : List Seen = c.deref_mut.result.now in
    let many : count ≡ c.args.lanes = omega arith in
    let mid : take c.args.lanes (drop told c.self.inside.list.items) ≡ take count (drop told items) =
    ap₂ (λ (n : ℕ) (ss : List Seen). take n (drop told ss)) (sym many) (sym c.deref_mut.ensures.value) in
    let queued = subst (λ (w : Listed). AreBlanksFor (awaited c.args._circuit.now c.args._order c.args.lanes ∷ c.requires.ready.0) w.blank) (sym c.self.view_is) c.requires.ready.1 in
    let first = first_blanks c.args._circuit.now c.args._order c.args.lanes c.requires.ready.0 (drop told c.self.inside.list.items) queued in
    let blank = subst (λ (ss : List Seen). AreBlank c.args._circuit.now c.args._order c.args.lanes (map as_told ss)) mid first in
    (blank_at c.args._circuit.now c.args._order c.args.lanes (take count (drop told items)) k d blank lt).inputs ∙ sym c.requires.inputs

pub fill_blanks-requires-clause-tape : goal.fill_blanks-requires-clause-tape
fill_blanks-requires-clause-tape c k d lt =
    let told : ℕ = c.self.inside.told in
    let count : ℕ = c.self.inside.told + c.args.lanes - c.self.inside.told in
    let items : List Seen = c.deref_mut.result.now in
    let many : count ≡ c.args.lanes = omega arith in
    let mid : take c.args.lanes (drop told c.self.inside.list.items) ≡ take count (drop told items) =
    ap₂ (λ (n : ℕ) (ss : List Seen). take n (drop told ss)) (sym many) (sym c.deref_mut.ensures.value) in
    let queued = subst (λ (w : Listed). AreBlanksFor (awaited c.args._circuit.now c.args._order c.args.lanes ∷ c.requires.ready.0) w.blank) (sym c.self.view_is) c.requires.ready.1 in
    let first = first_blanks c.args._circuit.now c.args._order c.args.lanes c.requires.ready.0 (drop told c.self.inside.list.items) queued in
    let blank = subst (λ (ss : List Seen). AreBlank c.args._circuit.now c.args._order c.args.lanes (map as_told ss)) mid first in
    (blank_at c.args._circuit.now c.args._order c.args.lanes (take count (drop told items)) k d blank lt).tape ∙ sym c.requires.coins

pub fill_blanks-requires-clause-outputs : goal.fill_blanks-requires-clause-outputs
fill_blanks-requires-clause-outputs c k d lt =
    let told : ℕ = c.self.inside.told in
    let count : ℕ = c.self.inside.told + c.args.lanes - c.self.inside.told in
    let items : List Seen = c.deref_mut.result.now in
    let many : count ≡ c.args.lanes = omega arith in
    let mid : take c.args.lanes (drop told c.self.inside.list.items) ≡ take count (drop told items) =
    ap₂ (λ (n : ℕ) (ss : List Seen). take n (drop told ss)) (sym many) (sym c.deref_mut.ensures.value) in
    let queued = subst (λ (w : Listed). AreBlanksFor (awaited c.args._circuit.now c.args._order c.args.lanes ∷ c.requires.ready.0) w.blank) (sym c.self.view_is) c.requires.ready.1 in
    let first = first_blanks c.args._circuit.now c.args._order c.args.lanes c.requires.ready.0 (drop told c.self.inside.list.items) queued in
    let blank = subst (λ (ss : List Seen). AreBlank c.args._circuit.now c.args._order c.args.lanes (map as_told ss)) mid first in
    (blank_at c.args._circuit.now c.args._order c.args.lanes (take count (drop told items)) k d blank lt).outputs ∙ sym c.requires.outputs

pub returns-clause-told : goal.returns-clause-told
returns-clause-told c =
    let told : ℕ = c.self.inside.told in
    let count : ℕ = c.self.inside.told + c.args.lanes - c.self.inside.told in
    let items : List Seen = c.deref_mut.result.now in
    let many : count ≡ c.args.lanes = omega arith in
    let mid : take c.args.lanes (drop told c.self.inside.list.items) ≡ take count (drop told items) =
    ap₂ (λ (n : ℕ) (ss : List Seen). take n (drop told ss)) (sym many) (sym c.deref_mut.ensures.value) in
    let queued = subst (λ (w : Listed). AreBlanksFor (awaited c.args._circuit.now c.args._order c.args.lanes ∷ c.requires.ready.0) w.blank) (sym c.self.view_is) c.requires.ready.1 in
    let first = first_blanks c.args._circuit.now c.args._order c.args.lanes c.requires.ready.0 (drop told c.self.inside.list.items) queued in
    let blank = subst (λ (ss : List Seen). AreBlank c.args._circuit.now c.args._order c.args.lanes (map as_told ss)) mid first in
    let within = blanks_within c.args._circuit.now c.args._order c.args.lanes told c.self.inside.list.items first c.requires.some_lanes in
    let same = ap length c.deref_mut.ensures.value in
    let inside : told + count ≤ length items = omega arith in
    let end : told + c.args.lanes ≡ told + count = omega arith in
    let new : List Seen = c.fill_blanks.new.blanks in
    let filled : length c.fill_blanks.new.blanks ≡ count = c.fill_blanks.auto.blanks ∙ length-take-le count (drop told items) (omega (arith, length-drop told items)) in
    let whole : List Seen = put_mid told count items c.fill_blanks.new.blanks in
    let list = take_at whole _ c.self.inside.list.len (part_length told count (told + c.args.lanes) items new end inside filled ∙ c.deref_mut.ensures.len) in
    ap (λ (ts : List Told). Some ts)
    (ap (map as_told)
    (ap (take (told + c.args.lanes)) list
    ∙ part_front told count (told + c.args.lanes) items new end inside filled
    ∙ ap (λ (ss : List Seen). take told items ++ ss) c.fill_blanks.ensures)
    ∙ map-append as_told (take told items) _
    ∙ ap₂ (λ (ss ts : List Told). ss ++ ts)
    (ap (λ (ss : List Seen). map as_told (take told ss)) c.deref_mut.ensures.value ∙ ap (λ (w : Listed). w.told) c.self.view_is)
    (reported c.args.inputs.now c.args.coins.now c.args.outputs.now c.args._circuit.now c.args._order c.args.lanes (take count (drop told items)) blank))

pub returns-clause-ready : goal.returns-clause-ready
returns-clause-ready c rest ready =
    let told : ℕ = c.self.inside.told in
    let count : ℕ = c.self.inside.told + c.args.lanes - c.self.inside.told in
    let items : List Seen = c.deref_mut.result.now in
    let many : count ≡ c.args.lanes = omega arith in
    let mid : take c.args.lanes (drop told c.self.inside.list.items) ≡ take count (drop told items) =
    ap₂ (λ (n : ℕ) (ss : List Seen). take n (drop told ss)) (sym many) (sym c.deref_mut.ensures.value) in
    let queued = subst (λ (w : Listed). AreBlanksFor (awaited c.args._circuit.now c.args._order c.args.lanes ∷ c.requires.ready.0) w.blank) (sym c.self.view_is) c.requires.ready.1 in
    let first = first_blanks c.args._circuit.now c.args._order c.args.lanes c.requires.ready.0 (drop told c.self.inside.list.items) queued in
    let blank = subst (λ (ss : List Seen). AreBlank c.args._circuit.now c.args._order c.args.lanes (map as_told ss)) mid first in
    let within = blanks_within c.args._circuit.now c.args._order c.args.lanes told c.self.inside.list.items first c.requires.some_lanes in
    let same = ap length c.deref_mut.ensures.value in
    let inside : told + count ≤ length items = omega arith in
    let end : told + c.args.lanes ≡ told + count = omega arith in
    let new : List Seen = c.fill_blanks.new.blanks in
    let filled : length c.fill_blanks.new.blanks ≡ count = c.fill_blanks.auto.blanks ∙ length-take-le count (drop told items) (omega (arith, length-drop told items)) in
    let whole : List Seen = put_mid told count items c.fill_blanks.new.blanks in
    let list = take_at whole _ c.self.inside.list.len (part_length told count (told + c.args.lanes) items new end inside filled ∙ c.deref_mut.ensures.len) in
    let here = subst (λ (w : Listed). AreBlanksFor (awaited c.args._circuit.now c.args._order c.args.lanes ∷ rest) w.blank) (sym c.self.view_is) ready in
    subst (λ (ss : List Seen). AreBlanksFor rest (map as_told ss))
    (sym (ap (drop (told + c.args.lanes)) list
    ∙ part_back told count (told + c.args.lanes) items new end inside filled
    ∙ ap₂ (λ (n : ℕ) (ss : List Seen). drop n (drop told ss)) many c.deref_mut.ensures.value))
    (blanks_behind c.args._circuit.now c.args._order c.args.lanes rest (drop told c.self.inside.list.items) here)
