-- What a reader has after each kind of line.
use Rattle.std.proofs.Common.{◌≡◌, ℕ, ◌+◌, ◌<◌, ◌≤◌, Bool, true, false, not, ◌&&◌, leb, ltb, eqb, List, [], ◌∷◌, ◌++◌, length, Option, Some, None, refl, sym, ap, ◌∙◌, subst, arith, leb-true, leb-false, ltb-true, eqb-true}
use Rattle.std.specs.Prelude.{IsSome}
use Rattle.std.proofs.lemmas.Bool.{and_parts, not-true, false≢true}
use Rattle.mask_circuit.specs.declared.gates.Gate.{Gate}
use Rattle.mask_circuit.specs.Netlist.{value_count, only_inputs}
use Rattle.mask_circuit.specs.Labels.{LabelledNetlist, sizes}
use Rattle.mask_circuit.specs.Text.{Line, First, Second, Inputs, Input, Makes, Output, Out}
use Rattle.mask_text.specs.declared.section.Section.{Section}
use Rattle.mask_text.specs.declared.section.Section.TheVariants.{Start, Size, Plain, Named, Ended}
use Rattle.mask_text.specs.declared.said.Said.{Said}
use Rattle.mask_text.specs.declared.said.Said.TheVariants as say
use Rattle.mask_text.specs.declared.reader.Reader.{Reader}
use Rattle.mask_text.specs.Says.{line_of}
use Rattle.mask_text.specs.Faults.{Draft, at, more_inputs, more_gate, more_outputs, more_out, is_full, has_no_gates, has_no_groups_out, if_so, goes_on, is_known, is_within, wrong, are_below}
use Rattle.mask_text.specs.Readers.{labelled_of, draft_of, IsReading, IsFilled}
use Rattle.mask_text.proofs.Fronts.{empty_list}
use Rattle.mask_text.proofs.Groups.{sizes-push, length-push}
use Rattle.mask_text.proofs.Rights.{IsRight, right_means}

if_goes : (b : Bool) (p : Section) (l : LabelledNetlist) → IsSome (if_so b p l) → (b ≡ true) × (if_so b p l ≡ Some (at p l))
if_goes true p l h = (refl, refl)
if_goes false p l h = absurd (false≢true h)

-- in which sections a line may stand, and what it makes
goes_first : (p : Section) (l : LabelledNetlist) → IsSome (goes_on p l First) → (p ≡ Start) × (goes_on p l First ≡ Some (at Size l))
unfolding goes_on
goes_first Start l h = (refl, refl)
goes_first Size l h = absurd (false≢true h)
goes_first Plain l h = absurd (false≢true h)
goes_first Named l h = absurd (false≢true h)
goes_first Ended l h = absurd (false≢true h)

goes_second : (p : Section) (l : LabelledNetlist) → IsSome (goes_on p l Second) → (p ≡ Start) × (goes_on p l Second ≡ Some (at Named l))
unfolding goes_on
goes_second Start l h = (refl, refl)
goes_second Size l h = absurd (false≢true h)
goes_second Plain l h = absurd (false≢true h)
goes_second Named l h = absurd (false≢true h)
goes_second Ended l h = absurd (false≢true h)

goes_inputs : (p : Section) (l : LabelledNetlist) (n : ℕ) → IsSome (goes_on p l (Inputs n)) → goes_on p l (Inputs n)
    ≡ Some (at Plain (record l { circuit = only_inputs n }))
unfolding goes_on
goes_inputs Start l n h = absurd (false≢true h)
goes_inputs Size l n h = refl
goes_inputs Plain l n h = absurd (false≢true h)
goes_inputs Named l n h = absurd (false≢true h)
goes_inputs Ended l n h = absurd (false≢true h)

goes_input : (p : Section) (l : LabelledNetlist) (name : List ℕ) (n : ℕ) → IsSome (goes_on p l (Input name n))
    → (p ≡ Named) × ((has_no_gates l && has_no_groups_out l) ≡ true) × (goes_on p l (Input name n) ≡ Some (at p (more_inputs l name n)))
unfolding goes_on
goes_input Start l name n h = absurd (false≢true h)
goes_input Size l name n h = absurd (false≢true h)
goes_input Plain l name n h = absurd (false≢true h)
goes_input Named l name n h = let g = if_goes (has_no_gates l && has_no_groups_out l) Named (more_inputs l name n) h in (refl, g.0, g.1)
goes_input Ended l name n h = absurd (false≢true h)

goes_gate : (p : Section) (l : LabelledNetlist) (gate : Gate) → IsSome (goes_on p l (Makes gate)) → goes_on p l (Makes gate)
    ≡ Some (at p (more_gate l gate))
unfolding goes_on
goes_gate Start l gate h = absurd (false≢true h)
goes_gate Size l gate h = absurd (false≢true h)
goes_gate Plain l gate h = (if_goes (eqb (length l.circuit.outputs) 0) Plain (more_gate l gate) h).1
goes_gate Named l gate h = (if_goes (has_no_groups_out l) Named (more_gate l gate) h).1
goes_gate Ended l gate h = absurd (false≢true h)

goes_output : (p : Section) (l : LabelledNetlist) (name : List ℕ) (n : ℕ) → IsSome (goes_on p l (Output name n))
    → (p ≡ Named) × (goes_on p l (Output name n) ≡ Some (at p (more_outputs l name n)))
unfolding goes_on
goes_output Start l name n h = absurd (false≢true h)
goes_output Size l name n h = absurd (false≢true h)
goes_output Plain l name n h = absurd (false≢true h)
goes_output Named l name n h = (refl, (if_goes (is_full l) Named (more_outputs l name n) h).1)
goes_output Ended l name n h = absurd (false≢true h)

-- with one more output the groups are still not overfull
filled_out : (p : Section) (l : LabelledNetlist) (u promised : ℕ) → promised ≡ sizes l.outputs → IsSome (goes_on p l (Out u))
    → (goes_on p l (Out u) ≡ Some (at p (more_out l u))) × IsFilled p (length (l.circuit.outputs ++ u ∷ [])) promised
unfolding goes_on
filled_out Start l u promised e h = absurd (false≢true h)
filled_out Size l u promised e h = absurd (false≢true h)
filled_out Plain l u promised e h = (refl, tt)
filled_out Named l u promised e h =
    let g = if_goes (not (is_full l)) Named (more_out l u) h in
    let missing = leb-false (sizes l.outputs) (length l.circuit.outputs) (not-true _ g.0) in
    let one_more = length-push l.circuit.outputs u in
    (g.1, (let few : length (l.circuit.outputs ++ u ∷ []) ≤ promised = omega arith in few))
filled_out Ended l u promised e h = absurd (false≢true h)

-- the reader has taken the line that makes this draft
abbrev pub Took : Reader → Option Draft → Type 0
Took new draft = (draft ≡ Some (draft_of new)) × IsReading new

module _ (old : Reader) (said : Said) (reading : IsReading old)
    (follows : IsSome (goes_on old.section (labelled_of old) (line_of said))) (right : wrong (labelled_of old) (line_of said) ≡ None) where
  -- the same facts of the line that was said
  follows_line : (line : Line) → line_of said ≡ line → IsSome (goes_on old.section (labelled_of old) line)
  follows_line line e = subst (λ (x : Line). IsSome (goes_on old.section (labelled_of old) x)) e follows

  right_line : (line : Line) → line_of said ≡ line → IsRight (labelled_of old) line
  right_line line e = right_means (labelled_of old) line (subst (λ (x : Line). wrong (labelled_of old) x ≡ None) e right)

  goes_line : (line : Line) (draft : Option Draft) → line_of said ≡ line → goes_on old.section (labelled_of old) line ≡ draft
      → goes_on old.section (labelled_of old) (line_of said) ≡ draft
  goes_line line draft e g = ap (goes_on old.section (labelled_of old)) e ∙ g

  pub took_first : said ≡ say.First → Took (record old { section = Size }) (goes_on old.section (labelled_of old) (line_of said))
  took_first e =
      let g = goes_first old.section (labelled_of old) (follows_line First (ap line_of e)) in
      (goes_line First _ (ap line_of e) g.1, record { promised = reading.promised; filled = tt })

  pub took_second : said ≡ say.Second → Took (record old { section = Named }) (goes_on old.section (labelled_of old) (line_of said))
  took_second e =
      let g = goes_second old.section (labelled_of old) (follows_line Second (ap line_of e)) in (
        goes_line Second _ (ap line_of e) g.1,
        record {
          promised = reading.promised;
          filled = subst (λ (p : Section). IsFilled p (length old.builder.outputs) old.promised) g.0
              reading.filled;
        },
      )

  pub few_inputs : (n : ℕ) → said ≡ say.Inputs n → n ≤ 1_000_000
  unfolding is_within
  few_inputs n e = let r = right_line (Inputs n) (ap line_of e) in leb-true _ _ r.within

  pub took_inputs : (n : ℕ) (new : Reader) → said ≡ say.Inputs n → Took new (Some (at Plain (record (labelled_of old) { circuit = only_inputs n })))
      → Took new (goes_on old.section (labelled_of old) (line_of said))
  took_inputs n new e took =
      (goes_line (Inputs n) _ (ap line_of e) (goes_inputs old.section (labelled_of old) n (follows_line (Inputs n) (ap line_of e))) ∙ took.0, took.1)

  -- where a group of inputs may stand
  pub record BeforeGates (n : ℕ) : Type 0 where
    pub gates : old.builder.gates ≡ []
    pub outputs : old.builder.outputs ≡ []
    pub few : old.builder.inputs + n ≤ 1_000_000

  pub before_gates : (name : _) (n : ℕ) → said ≡ say.Input name n → BeforeGates n
  unfolding is_within
  before_gates name n e =
      let g = goes_input old.section (labelled_of old) name.now n (follows_line _ (ap line_of e)) in
      let parts = and_parts (has_no_gates (labelled_of old)) (has_no_groups_out (labelled_of old)) g.1 in
      let r = right_line (Input name.now n) (ap line_of e) in
      let within = and_parts (ltb (length old.inputs.items) 1_000) (leb (old.builder.inputs + n) 1_000_000) r.within in
      let filled : length old.builder.outputs ≤ old.promised = subst (λ (p : Section). IsFilled p (length old.builder.outputs) old.promised)
      g.0 reading.filled in
      let none : sizes old.outputs.items ≡ 0 = ap sizes (empty_list old.outputs.items (eqb-true _ _ parts.1)) in
      let promised = reading.promised in
      record {
        gates = empty_list old.builder.gates (eqb-true _ _ parts.0);
        outputs = empty_list old.builder.outputs (omega arith);
        few = leb-true _ _ within.1;
      }

  pub took_input : (name : _) (n : ℕ) (new : Reader) → said ≡ say.Input name n → labelled_of new ≡ more_inputs (labelled_of old) name.now n
      → new.section ≡ old.section → new.promised ≡ old.promised → Took new (goes_on old.section (labelled_of old) (line_of said))
  took_input name n new e added section promised =
      let g = goes_input old.section (labelled_of old) name.now n (follows_line _ (ap line_of e)) in (
        goes_line _ _ (ap line_of e) g.2 ∙ cc,
        record {
          promised = promised ∙ reading.promised ∙ sym (ap (λ (l : LabelledNetlist). sizes l.outputs) added);
          filled = rw (section, promised, ap (λ (l : LabelledNetlist). l.circuit.outputs) added) reading.filled;
        },
      )

  pub known_gate : (gate : Gate) → said ≡ say.Makes gate → are_below (value_count old.builder) gate ≡ true
  unfolding is_known
  known_gate gate e = let r = right_line (Makes gate) (ap line_of e) in r.known

  pub took_gate : (gate : Gate) (new : Reader) → said ≡ say.Makes gate → labelled_of new ≡ more_gate (labelled_of old) gate
      → new.section ≡ old.section → new.promised ≡ old.promised → Took new (goes_on old.section (labelled_of old) (line_of said))
  took_gate gate new e added section promised =
      let g = goes_gate old.section (labelled_of old) gate (follows_line (Makes gate) (ap line_of e)) in (
        goes_line _ _ (ap line_of e) g ∙ cc,
        record {
          promised = promised ∙ reading.promised ∙ sym (ap (λ (l : LabelledNetlist). sizes l.outputs) added);
          filled = rw (section, promised, ap (λ (l : LabelledNetlist). l.circuit.outputs) added) reading.filled;
        },
      )

  pub few_outputs : (name : _) (n : ℕ) → said ≡ say.Output name n → old.promised + n ≤ 1_000_000
  unfolding is_within
  few_outputs name n e =
      let r = right_line (Output name.now n) (ap line_of e) in
      let within = and_parts (ltb (length old.outputs.items) 1_000) (leb (sizes old.outputs.items + n) 1_000_000) r.within in
      let few = leb-true (sizes old.outputs.items + n) 1_000_000 within.1 in
      let promised = reading.promised in
      omega arith

  pub took_output : (name : _) (n : ℕ) (new : Reader) → said ≡ say.Output name n → labelled_of new ≡ more_outputs (labelled_of old) name.now n
      → new.section ≡ old.section → new.promised ≡ old.promised + n → Took new (goes_on old.section (labelled_of old) (line_of said))
  took_output name n new e added section promised =
      let g = goes_output old.section (labelled_of old) name.now n (follows_line _ (ap line_of e)) in
      let more = sizes-push old.outputs.items (record { name = name.now; size = n }) in
      let was = reading.promised in
      let filled : length old.builder.outputs ≤ old.promised = subst (λ (p : Section). IsFilled p (length old.builder.outputs) old.promised)
      g.0 reading.filled in
      let named : new.section ≡ Named = section ∙ g.0 in
      let fits : length old.builder.outputs ≤ old.promised + n = omega arith in (
        goes_line _ _ (ap line_of e) g.1 ∙ cc,
        record {
          promised = rw (promised, ap (λ (l : LabelledNetlist). l.outputs) added) (omega arith);
          filled = rw (named, promised, ap (λ (l : LabelledNetlist). l.circuit.outputs) added) fits;
        },
      )

  pub known_out : (u : ℕ) → said ≡ say.Out u → u < value_count old.builder
  unfolding is_known
  known_out u e = let r = right_line (Out u) (ap line_of e) in ltb-true _ _ r.known

  pub took_out : (u : ℕ) (new : Reader) → said ≡ say.Out u → labelled_of new ≡ more_out (labelled_of old) u
      → new.section ≡ old.section → new.promised ≡ old.promised → Took new (goes_on old.section (labelled_of old) (line_of said))
  took_out u new e added section promised =
      let g = filled_out old.section (labelled_of old) u old.promised reading.promised (follows_line (Out u) (ap line_of e)) in (
        goes_line _ _ (ap line_of e) g.0 ∙ cc,
        record {
          promised = promised ∙ reading.promised ∙ sym (ap (λ (l : LabelledNetlist). sizes l.outputs) added);
          filled = rw (section, promised, ap (λ (l : LabelledNetlist). l.circuit.outputs) added) g.1;
        },
      )
