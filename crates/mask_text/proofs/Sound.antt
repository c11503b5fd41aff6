-- What is read is what the text stands for.
use Rattle.std.proofs.Common.{◌≡◌, ℕ, ◌+◌, ◌<◌, ◌≤◌, Bool, true, false, not, ◌&&◌, leb, ltb, eqb, List, [], ◌∷◌, ◌++◌, length, map, Some, Result, Ok, Err, ◌⊎◌, inl, inr, refl, sym, ap, ◌∙◌, subst, append_assoc, append-nil, arith, leb-true, leb-false, ltb-true, eqb-true}
use Rattle.std.proofs.lemmas.Bool.{and_parts, not-true}
use Rattle.std.proofs.lemmas.List.{map-append}
use Rattle.mask_circuit.specs.declared.gates.Gate.{Gate}
use Rattle.mask_circuit.specs.Netlist.{Netlist, IsCircuit, only_inputs}
use Rattle.mask_circuit.specs.Labels.{LabelledNetlist, IsLabelled, AreGroups, sizes, with_plain_groups}
use Rattle.mask_circuit.specs.Text.{Line, First, Second, Inputs, Input, Makes, Output, Out, End, line_words, first_front, second_front, first_lines, second_lines}
use Rattle.mask_text.specs.declared.section.Section.{Section}
use Rattle.mask_text.specs.declared.section.Section.TheVariants.{Start, Size, Plain, Named, Ended}
use Rattle.mask_text.specs.declared.errors.Reason.{Reason}
use Rattle.mask_text.specs.Lines.{text_lines, spoken}
use Rattle.mask_text.specs.Sayings.{said}
use Rattle.mask_text.specs.Text.{IsText}
use Rattle.mask_text.specs.Faults.{Draft, at, of_inputs, more_inputs, more_gate, more_outputs, more_out, is_full, has_no_gates, has_no_groups_out, if_so, goes_on, has_taken_name, is_known, is_within, at_start, reading, unless_unsaid}
use Rattle.mask_circuit.proofs.Growing.{IsCircuit-with_gate}
use Rattle.mask_circuit.proofs.Plain.{IsLabelled-plain}
use Rattle.mask_text.proofs.Circuits.{operands_below, circuit-inputs, circuit-out}
use Rattle.mask_text.proofs.Groups.{sizes-push, length-push, AreGroups-push, IsOpen, open-none, open-push}
use Rattle.mask_text.proofs.Fronts.{empty_list, first_front-gate, first_front-out, second_front-input, second_front-gate, second_front-group, second_front-out}
use Rattle.mask_text.proofs.Rights.{IsRight, right_means}
use Rattle.mask_text.proofs.Meanings.{IsSmall, said-takes}
use Rattle.mask_text.proofs.Run.{right_part, ended, run, run_on, run-kept, step-takes}

-- a labelled circuit whose last group may lack outputs
pub record IsDraft (l : LabelledNetlist) : Type 0 where
  circuit : IsCircuit l.circuit
  inputs : AreGroups [] l.inputs
  few_inputs : length l.inputs ≤ 1000
  all_inputs : sizes l.inputs ≡ l.circuit.inputs
  outputs : AreGroups [] l.outputs
  few_outputs : length l.outputs ≤ 1000
  open_outputs : IsOpen l.outputs (length l.circuit.outputs)
  no_more : length l.circuit.outputs ≤ sizes l.outputs
  within : sizes l.outputs ≤ 1_000_000

-- these lines stand for the labelled circuit
abbrev Spells : LabelledNetlist → List Line → Type 0
Spells l ls = (ls ≡ second_lines l) ⊎ ((l ≡ with_plain_groups l.circuit) × (ls ≡ first_lines l.circuit))

-- what is known of the draft behind these lines
abbrev Holds : Section → LabelledNetlist → List Line → Type 0
Holds Start l ls = (l ≡ of_inputs 0) × (ls ≡ [])
Holds Size l ls = ls ≡ First ∷ []
Holds Plain l ls = IsCircuit l.circuit × (ls ≡ first_front l.circuit)
Holds Named l ls = IsDraft l × (ls ≡ second_front l)
Holds Ended l ls = IsLabelled l × Spells l ls

pub plain-labelled : (c : Netlist) → IsCircuit c → IsLabelled (with_plain_groups c)
plain-labelled c is = IsLabelled-plain c _ _ is refl refl

-- a test that a line had to pass
if_passed : (b : Bool) (p : Section) (l : LabelledNetlist) (e : Draft) → if_so b p l ≡ Some e → (b ≡ true) × (at p l ≡ e)
if_passed true p l e f = (refl, cc)
if_passed false p l e f = cc

draft-none : IsDraft (of_inputs 0)
draft-none = record {
  circuit = circuit-inputs 0 (omega arith);
  inputs = tt;
  few_inputs = omega arith;
  all_inputs = refl;
  outputs = tt;
  few_outputs = omega arith;
  open_outputs = open-none 0;
  no_more = omega arith;
  within = omega arith;
}

draft-input : (l : LabelledNetlist) (name : List ℕ) (n : ℕ) → IsDraft l → IsSmall (Input name n) → IsRight l (Input name n)
    → l.circuit.gates ≡ [] → l.outputs ≡ [] → IsDraft (more_inputs l name n)
unfolding has_taken_name is_within
draft-input l name n is small right no_gates no_groups =
    let within = and_parts (ltb (length l.inputs) 1_000) (leb (l.circuit.inputs + n) 1_000_000) right.within in
    let room = ltb-true (length l.inputs) 1_000 within.0 in
    let few = leb-true (l.circuit.inputs + n) 1_000_000 within.1 in
    let no_promise : sizes l.outputs ≡ 0 = ap sizes no_groups in
    let no_outputs : l.circuit.outputs ≡ [] = empty_list l.circuit.outputs (let h = is.no_more in omega arith) in
    let bare : IsCircuit (record l.circuit { inputs = l.circuit.inputs + n }) = rw (no_gates, no_outputs)
    (circuit-inputs (l.circuit.inputs + n) few) in
    let h1 = sizes-push l.inputs (record { name = name; size = n }) in
    let h2 = length-push l.inputs (record { name = name; size = n }) in
    record {
      circuit = bare;
      inputs = AreGroups-push [] l.inputs (record { name = name; size = n }) is.inputs small.0 small.1 right.fresh;
      few_inputs = omega arith;
      all_inputs = let h = is.all_inputs in omega arith;
      outputs = is.outputs;
      few_outputs = is.few_outputs;
      open_outputs = is.open_outputs;
      no_more = is.no_more;
      within = is.within;
    }

draft-gate : (l : LabelledNetlist) (g : Gate) → IsDraft l → IsRight l (Makes g) → IsDraft (more_gate l g)
unfolding is_known is_within
draft-gate l g is right = record {
  circuit = IsCircuit-with_gate l.circuit g is.circuit (operands_below _ g right.known) (ltb-true _ _ right.within);
  inputs = is.inputs;
  few_inputs = is.few_inputs;
  all_inputs = is.all_inputs;
  outputs = is.outputs;
  few_outputs = is.few_outputs;
  open_outputs = is.open_outputs;
  no_more = is.no_more;
  within = is.within;
}

draft-group : (l : LabelledNetlist) (name : List ℕ) (n : ℕ) → IsDraft l → IsSmall (Output name n) → IsRight l (Output name n)
    → is_full l ≡ true → IsDraft (more_outputs l name n)
unfolding has_taken_name is_within
draft-group l name n is small right full =
    let within = and_parts (ltb (length l.outputs) 1_000) (leb (sizes l.outputs + n) 1_000_000) right.within in
    let room = ltb-true (length l.outputs) 1_000 within.0 in
    let few = leb-true (sizes l.outputs + n) 1_000_000 within.1 in
    let all = leb-true (sizes l.outputs) (length l.circuit.outputs) full in
    let h1 = sizes-push l.outputs (record { name = name; size = n }) in
    let h2 = length-push l.outputs (record { name = name; size = n }) in
    record {
      circuit = is.circuit;
      inputs = is.inputs;
      few_inputs = is.few_inputs;
      all_inputs = is.all_inputs;
      outputs = AreGroups-push [] l.outputs (record { name = name; size = n }) is.outputs small.0 small.1 right.fresh;
      few_outputs = omega arith;
      open_outputs = open-push l.outputs (record { name = name; size = n }) (length l.circuit.outputs) all;
      no_more = let h = is.no_more in omega arith;
      within = omega arith;
    }

draft-out : (l : LabelledNetlist) (u : ℕ) → IsDraft l → IsRight l (Out u) → length l.circuit.outputs < sizes l.outputs → IsDraft (more_out l u)
unfolding is_known is_within
draft-out l u is right missing =
    let h = length-push l.circuit.outputs u in
    record {
      circuit = circuit-out l.circuit u is.circuit (ltb-true _ _ right.known) (ltb-true _ _ right.within);
      inputs = is.inputs;
      few_inputs = is.few_inputs;
      all_inputs = is.all_inputs;
      outputs = is.outputs;
      few_outputs = is.few_outputs;
      open_outputs = let ready = is.open_outputs in omega arith;
      no_more = omega arith;
      within = is.within;
    }

pub labelled-draft : (l : LabelledNetlist) → IsDraft l → is_full l ≡ true → IsLabelled l
labelled-draft l is full =
    let all = leb-true (sizes l.outputs) (length l.circuit.outputs) full in
    let most = is.no_more in
    record {
      circuit = is.circuit;
      inputs = is.inputs;
      few_inputs = is.few_inputs;
      all_inputs = is.all_inputs;
      outputs = is.outputs;
      few_outputs = is.few_outputs;
      all_outputs = omega arith;
    }

begin_first : (n : ℕ) → First ∷ (Inputs n ∷ []) ≡ first_front (only_inputs n)
unfolding first_front
begin_first n = refl

begin_second : (l : LabelledNetlist) → l ≡ of_inputs 0 → Second ∷ [] ≡ second_front l
unfolding second_front
begin_second l is = sym (ap second_front is)

-- One more line that may stand there and is right keeps what is known.
advance : (p : Section) (l : LabelledNetlist) (line : Line) (e : Draft) (ls : List Line) → Holds p l ls → IsSmall line
    → goes_on p l line ≡ Some e → IsRight l line → Holds e.section e.so_far (ls ++ line ∷ [])
unfolding goes_on is_known is_within
advance Start l First e ls h s g w = let same : at Size l ≡ e = cc in subst (λ d. Holds d.section d.so_far (ls ++ First ∷ [])) same
    (ap (λ xs. xs ++ First ∷ []) h.1)
advance Start l Second e ls h s g w =
    let same : at Named l ≡ e = cc in
    subst (λ d. Holds d.section d.so_far (ls ++ Second ∷ [])) same
    (subst IsDraft (sym h.0) draft-none, ap (λ xs. xs ++ Second ∷ []) h.1 ∙ begin_second l h.0)
advance Size l (Inputs n) e ls h s g w =
    let same : at Plain (record l { circuit = only_inputs n }) ≡ e = cc in
    subst (λ d. Holds d.section d.so_far (ls ++ Inputs n ∷ [])) same
    (circuit-inputs n (leb-true _ _ w.within), ap (λ xs. xs ++ Inputs n ∷ []) h ∙ begin_first n)
advance Plain l (Makes gate) e ls h s g w =
    let passed = if_passed (eqb (length l.circuit.outputs) 0) Plain (more_gate l gate) e g in
    let none = empty_list l.circuit.outputs (eqb-true _ _ passed.0) in
    subst (λ d. Holds d.section d.so_far (ls ++ Makes gate ∷ [])) passed.1 (
      IsCircuit-with_gate l.circuit gate h.0 (operands_below _ gate w.known) (ltb-true _ _ w.within),
      ap (λ xs. xs ++ Makes gate ∷ []) h.1
          ∙ sym (first_front-gate l.circuit gate none),
    )
advance Plain l (Out u) e ls h s g w =
    let same : at Plain (more_out l u) ≡ e = cc in
    subst (λ d. Holds d.section d.so_far (ls ++ Out u ∷ [])) same
    (circuit-out l.circuit u h.0 (ltb-true _ _ w.known) (ltb-true _ _ w.within), ap (λ xs. xs ++ Out u ∷ []) h.1 ∙ sym (first_front-out l.circuit u))
advance Plain l End e ls h s g w =
    let same : at Ended (with_plain_groups l.circuit) ≡ e = cc in
    subst (λ d. Holds d.section d.so_far (ls ++ End ∷ [])) same
    (plain-labelled l.circuit h.0, inr (refl, ap (λ xs. xs ++ End ∷ []) h.1))
advance Named l (Input name n) e ls h s g w =
    let passed = if_passed (has_no_gates l && has_no_groups_out l) Named (more_inputs l name n) e g in
    let parts = and_parts (has_no_gates l) (has_no_groups_out l) passed.0 in
    let no_gates = empty_list l.circuit.gates (eqb-true _ _ parts.0) in
    let no_groups = empty_list l.outputs (eqb-true _ _ parts.1) in
    subst (λ d. Holds d.section d.so_far (ls ++ Input name n ∷ [])) passed.1
    (draft-input l name n h.0 s w no_gates no_groups, ap (λ xs. xs ++ Input name n ∷ []) h.1 ∙ sym (second_front-input l name n no_gates no_groups))
advance Named l (Makes gate) e ls h s g w =
    let passed = if_passed (has_no_groups_out l) Named (more_gate l gate) e g in
    let no_groups = empty_list l.outputs (eqb-true _ _ passed.0) in
    subst (λ d. Holds d.section d.so_far (ls ++ Makes gate ∷ [])) passed.1
    (draft-gate l gate h.0 w, ap (λ xs. xs ++ Makes gate ∷ []) h.1 ∙ sym (second_front-gate l gate no_groups))
advance Named l (Output name n) e ls h s g w =
    let passed = if_passed (is_full l) Named (more_outputs l name n) e g in
    let is = h.0 in
    let few = is.no_more in
    subst (λ d. Holds d.section d.so_far (ls ++ Output name n ∷ [])) passed.1
    (draft-group l name n h.0 s w passed.0, ap (λ xs. xs ++ Output name n ∷ []) h.1 ∙ sym (second_front-group l name n few))
advance Named l (Out u) e ls h s g w =
    let passed = if_passed (not (is_full l)) Named (more_out l u) e g in
    let is = h.0 in
    let missing = leb-false (sizes l.outputs) (length l.circuit.outputs) (not-true _ passed.0) in
    subst (λ d. Holds d.section d.so_far (ls ++ Out u ∷ [])) passed.1
    (draft-out l u h.0 w missing, ap (λ xs. xs ++ Out u ∷ []) h.1 ∙ sym (second_front-out l u is.open_outputs missing))
advance Named l End e ls h s g w =
    let passed = if_passed (is_full l) Ended l e g in
    subst (λ d. Holds d.section d.so_far (ls ++ End ∷ [])) passed.1
    (labelled-draft l h.0 passed.0, inl (ap (λ xs. xs ++ End ∷ []) h.1))
advance p l line e ls h s g w = cc

-- these words are those of the lines of the labelled circuit
abbrev Says : LabelledNetlist → List (List (List ℕ)) → Type 0
Says l wss = IsLabelled l × ((wss ≡ map line_words (second_lines l)) ⊎
    ((l ≡ with_plain_groups l.circuit) × (wss ≡ map line_words (first_lines l.circuit))))

at_end_says : (p : Section) (so_far l : LabelledNetlist) (ls : List Line) → Holds p so_far ls → ended p so_far ≡ Some l
    → Says l (map line_words ls ++ [])
at_end_says Start so_far l ls h e = cc
at_end_says Size so_far l ls h e = cc
at_end_says Plain so_far l ls h e = cc
at_end_says Named so_far l ls h e = cc
at_end_says Ended so_far l ls h e =
    let same : so_far ≡ l = cc in
    subst (λ m. Says m (map line_words ls ++ [])) same (h.0, spelled h.1)
  where
    spelled : Spells so_far ls → ((map line_words ls ++ []) ≡ map line_words (second_lines so_far)) ⊎
        ((so_far ≡ with_plain_groups so_far.circuit) × ((map line_words ls ++ []) ≡ map line_words (first_lines so_far.circuit)))
    spelled (inl e) = inl (append-nil (map line_words ls) ∙ ap (map line_words) e)
    spelled (inr e) = inr (e.0, append-nil (map line_words ls) ∙ ap (map line_words) e.1)

-- What is read of these words, behind these lines, is what they all stand for.
run-says : (wss : List (List (List ℕ))) (d : Draft) (ls : List Line) (l : LabelledNetlist) → Holds d.section d.so_far ls → run d wss ≡ Some l
    → Says l (map line_words ls ++ wss)
unfolding run
run-says [] d ls l h e = at_end_says d.section d.so_far l ls h e
run-says (ws ∷ wss) d ls l h e =
    let next = on_ok (unless_unsaid d (said ws)) refl e in
    let takes = step-takes d ws next.0 next.1 in
    let spelled = said-takes ws takes.line takes.says in
    let held = advance d.section d.so_far takes.line next.0 ls h spelled.1 takes.goes (right_means d.so_far takes.line takes.right) in
    let whole : map line_words (ls ++ takes.line ∷ []) ++ wss ≡ map line_words ls ++ (ws ∷ wss) =
    ap (λ xs. xs ++ wss) (map-append line_words ls (takes.line ∷ [])) ∙ append_assoc (map line_words ls) (line_words takes.line ∷ []) wss
    ∙ ap (λ xs. map line_words ls ++ (xs ∷ wss)) (sym spelled.0) in
    subst (Says l) whole (run-says wss next.0 (ls ++ takes.line ∷ []) l held next.2)
  where
    on_ok : (r : Result Draft Reason) → unless_unsaid d (said ws) ≡ r → run_on (λ next. run next wss) r ≡ Some l
        → (next : Draft) × (unless_unsaid d (said ws) ≡ Ok next) × (run next wss ≡ Some l)
    on_ok (Ok next) s f = (next, s, f)
    on_ok (Err reason) s f = cc

-- What a text is read as, it stands for.
pub sound : (bytes : List ℕ) (l : LabelledNetlist) → reading bytes ≡ Ok l → IsText bytes l
unfolding reading
sound bytes l e =
    let ran : run at_start (spoken bytes) ≡ Some l = sym (run-kept (text_lines bytes) at_start 1) ∙ ap right_part e in
    let says = run-says (spoken bytes) at_start [] l (refl, refl) ran in
    record { labelled = says.0; lines = says.1 }
