-- What stands for a labelled circuit is read as that.
use Rattle.std.proofs.Common.{◌≡◌, ℕ, suc, ◌+◌, ◌^◌, ◌<◌, ◌≤◌, Bool, true, false, List, [], ◌∷◌, ◌++◌, length, map, take, drop, Option, Some, None, Result, Ok, Err, ◌⊎◌, inl, inr, refl, sym, ap, ap₂, ◌∙◌, subst, append_assoc, append-nil, take-append-drop, arith, le-leb, lt-ltb, length-append, length-take, length-drop}
use Rattle.std.specs.List.{All}
use Rattle.std.proofs.lemmas.Bool.{and_from, lt-leb, not_from_false}
use Rattle.std.proofs.lemmas.List.Elements.{All-head, All-tail, All-take, All-drop}
use Rattle.mask_circuit.specs.declared.gates.Gate.{Gate}
use Rattle.mask_circuit.specs.declared.gates.Gate.TheVariants.{Zero, One, Xor, Not, And, Ref}
use Rattle.mask_circuit.specs.Netlist.{Netlist, IsCircuit, AreGates, OperandsBelow, value_count, only_inputs}
use Rattle.mask_circuit.specs.Labels.{NamedGroup, LabelledNetlist, IsLabelled, AreGroups, is_taken, sizes, with_plain_groups}
use Rattle.mask_circuit.specs.Text.{Line, First, Second, Inputs, Input, Makes, Output, Out, End, line_words, first_front, second_front, first_lines, second_lines, output_lines}
use Rattle.mask_text.specs.declared.section.Section.{Section}
use Rattle.mask_text.specs.declared.section.Section.TheVariants.{Size, Plain, Named, Ended}
use Rattle.mask_text.specs.declared.errors.Reason.{Reason}
use Rattle.mask_text.specs.Lines.{text_lines, spoken}
use Rattle.mask_text.specs.Text.{IsText}
use Rattle.mask_text.specs.Faults.{Draft, Fault, at, of_inputs, goes_on, if_so, has_taken_name, is_known, is_within, wrong, are_below, at_start, reading, unless_unsaid, unless_misplaced, unless_wrong}
use Rattle.mask_text.proofs.Groups.{sizes-push, length-push}
use Rattle.mask_text.proofs.Meanings.{IsSmall, IsSmallGate, said-again}
use Rattle.mask_text.proofs.Run.{right_part, ended, run, run_on, run-kept}

-- reading over the lines themselves
unfoldable lead : Draft → List Line → Option LabelledNetlist
lead d [] = ended d.section d.so_far
lead d (line ∷ lines) = run_on (λ next. lead next lines) (unless_misplaced d line (goes_on d.section d.so_far line))

-- all lines are small
abbrev pub AllSmall : List Line → Type 0
AllSmall [] = Unit {0}
AllSmall (line ∷ lines) = IsSmall line × AllSmall lines

run_on-both : (go go' : Draft → Option LabelledNetlist) → ((d : Draft) → go d ≡ go' d) → (r : Result Draft Reason) → run_on go r ≡ run_on go' r
run_on-both go go' same (Ok d) = same d
run_on-both go go' same (Err reason) = refl

run-lead : (lines : List Line) (d : Draft) → AllSmall lines → run d (map line_words lines) ≡ lead d lines
unfolding run lead
run-lead [] d small = refl
run-lead (line ∷ lines) d small =
    ap (λ o. run_on (λ next. run next (map line_words lines)) (unless_unsaid d o)) (said-again line small.0)
    ∙ run_on-both (λ next. run next (map line_words lines)) (λ next. lead next lines) (λ next. run-lead lines next small.1)
    (unless_misplaced d line (goes_on d.section d.so_far line))

-- a line that may stand there and is right
lead-step : (d : Draft) (line : Line) (next : Draft) (after : List Line) → goes_on d.section d.so_far line ≡ Some next → wrong d.so_far line ≡ None
    → lead d (line ∷ after) ≡ lead next after
unfolding lead
lead-step d line next after goes right =
    ap (λ o. run_on (λ e. lead e after) (unless_misplaced d line o)) goes ∙ ap (λ w. run_on (λ e. lead e after) (unless_wrong next w)) right

right_none : (l : LabelledNetlist) (line : Line) → has_taken_name l line ≡ false → is_known l line ≡ true → is_within l line ≡ true
    → wrong l line ≡ None
unfolding wrong
right_none l line fresh known within = rw (fresh, known, within) refl

if_so-true : (b : Bool) (p : Section) (l : LabelledNetlist) → b ≡ true → if_so b p l ≡ Some (at p l)
if_so-true true p l e = refl
if_so-true false p l e = cc

below_known : (n : ℕ) (g : Gate) → OperandsBelow n g → are_below n g ≡ true
unfolding are_below
below_known n Zero h = refl
below_known n One h = refl
below_known n (Xor u v) h = and_from _ _ (lt-ltb _ _ h.0) (lt-ltb _ _ h.1)
below_known n (Not u) h = lt-ltb _ _ h
below_known n (And u v) h = and_from _ _ (lt-ltb _ _ h.0) (lt-ltb _ _ h.1)
below_known n (Ref u) h = lt-ltb _ _ h

-- the groups of inputs
with_inputs : ℕ → List NamedGroup → LabelledNetlist
with_inputs n ins = record { circuit = only_inputs n; inputs = ins; outputs = [] }

inputs-step : (g : NamedGroup) (ins : List NamedGroup) (n : ℕ) (after : List Line) → is_taken g.name ins ≡ false → length ins < 1000
    → n + g.size ≤ 1_000_000
    → lead (at Named (with_inputs n ins)) (Input g.name g.size ∷ after) ≡ lead (at Named (with_inputs (n + g.size) (ins ++ g ∷ []))) after
unfolding goes_on has_taken_name is_known is_within with_inputs
inputs-step g ins n after fresh room few =
    lead-step (at Named (with_inputs n ins)) (Input g.name g.size) (at Named (with_inputs (n + g.size) (ins ++ g ∷ []))) after refl
    (right_none (with_inputs n ins) (Input g.name g.size) fresh refl (and_from _ _ (lt-ltb _ _ room) (le-leb _ _ few)))

inputs-go : (gs ins : List NamedGroup) (n : ℕ) (after : List Line) → AreGroups ins gs → length ins + length gs ≤ 1000 → n + sizes gs ≤ 1_000_000
    → lead (at Named (with_inputs n ins)) (map (λ g. Input g.name g.size) gs ++ after)
    ≡ lead (at Named (with_inputs (n + sizes gs) (ins ++ gs))) after
inputs-go [] ins n after are room few =
    let none : n ≡ n + 0 = omega arith in
    ap₂ (λ m xs. lead (at Named (with_inputs m xs)) after) none (sym (append-nil ins))
inputs-go (g ∷ gs) ins n after are room few =
    let one = length-push ins g in
    let sum : n + g.size + sizes gs ≡ n + (g.size + sizes gs) = omega arith in
    inputs-step g ins n (map (λ g. Input g.name g.size) gs ++ after) are.2 (omega arith) (omega arith)
    ∙ inputs-go gs (ins ++ g ∷ []) (n + g.size) after are.3 (omega arith) (omega arith)
    ∙ ap₂ (λ m xs. lead (at Named (with_inputs m xs)) after) sum (append_assoc ins (g ∷ []) gs)

-- the gates, in either version
module _ (p : Section) (n : ℕ) (ins : List NamedGroup) where
  with_gates : List Gate → LabelledNetlist
  with_gates gs = record { circuit = record { inputs = n; gates = gs; outputs = [] }; inputs = ins; outputs = [] }

  gates-step : (h : Gate) (gs : List Gate) (after : List Line) → goes_on p (with_gates gs) (Makes h) ≡ Some (at p (with_gates (gs ++ h ∷ [])))
      → OperandsBelow (n + length gs) h → n + length gs < 1_000_000
      → lead (at p (with_gates gs)) (Makes h ∷ after) ≡ lead (at p (with_gates (gs ++ h ∷ []))) after
  unfolding has_taken_name is_known is_within with_gates
  gates-step h gs after goes below room =
      lead-step (at p (with_gates gs)) (Makes h) (at p (with_gates (gs ++ h ∷ []))) after goes
      (right_none (with_gates gs) (Makes h) refl (below_known _ h below) (lt-ltb _ _ room))

  gates-go : ((gs : List Gate) (h : Gate) → goes_on p (with_gates gs) (Makes h) ≡ Some (at p (with_gates (gs ++ h ∷ []))))
      → (hs gs : List Gate) (after : List Line) → AreGates (n + length gs) hs → n + length gs + length hs ≤ 1_000_000
      → lead (at p (with_gates gs)) (map Makes hs ++ after) ≡ lead (at p (with_gates (gs ++ hs))) after
  gates-go goes [] gs after are few = ap (λ xs. lead (at p (with_gates xs)) after) (sym (append-nil gs))
  gates-go goes (h ∷ hs) gs after are few =
      let one = length-push gs h in
      let more : suc (n + length gs) ≡ n + length (gs ++ h ∷ []) = omega arith in
      gates-step h gs (map Makes hs ++ after) (goes gs h) are.0 (omega arith)
      ∙ gates-go goes hs (gs ++ h ∷ []) after (subst (λ (m : ℕ). AreGates m hs) more are.1) (omega arith)
      ∙ ap (λ xs. lead (at p (with_gates xs)) after) (append_assoc gs (h ∷ []) hs)

-- the outputs, in either version, up to as many as may stand there
module _ (p : Section) (n : ℕ) (gates : List Gate) (ins outs : List NamedGroup) where
  with_outs : List ℕ → LabelledNetlist
  with_outs us = record { circuit = record { inputs = n; gates = gates; outputs = us }; inputs = ins; outputs = outs }

  outs-go : (most : ℕ) → most ≤ 1_000_000
      → ((us : List ℕ) (u : ℕ) → length us < most → goes_on p (with_outs us) (Out u) ≡ Some (at p (with_outs (us ++ u ∷ []))))
      → (vs us : List ℕ) (after : List Line) → All (λ u. u < n + length gates) vs → length us + length vs ≤ most
      → lead (at p (with_outs us)) (map Out vs ++ after) ≡ lead (at p (with_outs (us ++ vs))) after
  unfolding has_taken_name is_known is_within with_outs
  outs-go most limit goes [] us after known few = ap (λ xs. lead (at p (with_outs xs)) after) (sym (append-nil us))
  outs-go most limit goes (v ∷ vs) us after known few =
      let one = length-push us v in
      lead-step (at p (with_outs us)) (Out v) (at p (with_outs (us ++ v ∷ []))) (map Out vs ++ after) (goes us v (omega arith))
      (right_none (with_outs us) (Out v) refl (lt-ltb _ _ (All-head (λ u. u < n + length gates) v vs known)) (lt-ltb _ _ (omega arith)))
      ∙ outs-go most limit goes vs (us ++ v ∷ []) after (All-tail (λ u. u < n + length gates) v vs known) (omega arith)
      ∙ ap (λ xs. lead (at p (with_outs xs)) after) (append_assoc us (v ∷ []) vs)

-- the groups of outputs
module _ (n : ℕ) (gates : List Gate) (ins : List NamedGroup) where
  with_groups : List NamedGroup → List ℕ → LabelledNetlist
  with_groups outs us = record { circuit = record { inputs = n; gates = gates; outputs = us }; inputs = ins; outputs = outs }

  group-step : (g : NamedGroup) (before : List NamedGroup) (us : List ℕ) (after : List Line) → is_taken g.name before ≡ false → length before < 1000
      → sizes before + g.size ≤ 1_000_000 → sizes before ≤ length us
      → lead (at Named (with_groups before us)) (Output g.name g.size ∷ after) ≡ lead (at Named (with_groups (before ++ g ∷ []) us)) after
  unfolding goes_on has_taken_name is_known is_within with_groups
  group-step g before us after fresh room few full =
      lead-step (at Named (with_groups before us)) (Output g.name g.size) (at Named (with_groups (before ++ g ∷ []) us)) after
      (if_so-true _ Named _ (le-leb _ _ full))
      (right_none (with_groups before us) (Output g.name g.size) fresh refl (and_from _ _ (lt-ltb _ _ room) (le-leb _ _ few)))

  group-outs : (outs : List NamedGroup) (vs us : List ℕ) (after : List Line) → sizes outs ≤ 1_000_000 → All (λ u. u < n + length gates) vs
      → length us + length vs ≤ sizes outs → lead (at Named (with_groups outs us)) (map Out vs ++ after)
      ≡ lead (at Named (with_groups outs (us ++ vs))) after
  unfolding goes_on with_groups with_outs
  group-outs outs vs us after limit known few =
      outs-go Named n gates ins outs (sizes outs) limit (λ xs u missing. if_so-true _ Named _ (not_from_false _ (lt-leb _ _ missing))) vs
      us after known few

  groups-go : (gs before : List NamedGroup) (us vs : List ℕ) (after : List Line) → AreGroups before gs → length before + length gs ≤ 1000
      → sizes before ≡ length us → sizes gs ≡ length vs → length us + length vs ≤ 1_000_000 → All (λ u. u < n + length gates) vs
      → lead (at Named (with_groups before us)) (output_lines gs vs ++ after) ≡ lead (at Named (with_groups (before ++ gs) (us ++ vs))) after
  groups-go [] before us [] after are room full sized few known =
      ap₂ (λ xs ys. lead (at Named (with_groups xs ys)) after) (sym (append-nil before)) (sym (append-nil us))
  groups-go [] before us (v ∷ vs) after are room full sized few known = absurd (omega arith)
  groups-go (g ∷ gs) before us vs after are room full sized few known =
      let one = length-push before g in
      let more = sizes-push before g in
      let front = take g.size vs in
      let back = drop g.size vs in
      let front_long : length front ≡ g.size = omega (arith, length-take g.size vs) in
      let back_long : length back ≡ sizes gs = omega (arith, length-drop g.size vs) in
      let all_long = length-append us front in
      group-step g before us ((map Out front ++ output_lines gs back) ++ after) are.2 (omega arith) (omega arith) (omega arith)
      ∙ ap (λ xs. lead (at Named (with_groups (before ++ g ∷ []) us)) xs) (append_assoc (map Out front) (output_lines gs back) after)
      ∙ group-outs (before ++ g ∷ []) front us (output_lines gs back ++ after) (omega arith)
      (All-take (λ u. u < n + length gates) g.size vs known) (omega arith)
      ∙ groups-go gs (before ++ g ∷ []) (us ++ front) back after are.3 (omega arith) (omega arith) (omega arith) (omega arith)
      (All-drop (λ u. u < n + length gates) g.size vs known)
      ∙ ap₂ (λ xs ys. lead (at Named (with_groups xs ys)) after) (append_assoc before (g ∷ []) gs)
      (append_assoc us front back ∙ ap (λ xs. us ++ xs) (take-append-drop g.size vs))

-- the first line, the gates of version 2, and the last line
begin_second : (after : List Line) → lead at_start (Second ∷ after) ≡ lead (at Named (with_inputs 0 [])) after
unfolding goes_on has_taken_name is_known is_within with_inputs
begin_second after = lead-step at_start Second (at Named (with_inputs 0 [])) after refl (right_none (of_inputs 0) Second refl refl refl)

gates_named : (n : ℕ) (ins : List NamedGroup) (gs : List Gate) (after : List Line) → AreGates n gs → n + length gs ≤ 1_000_000
    → lead (at Named (with_inputs n ins)) (map Makes gs ++ after) ≡ lead (at Named (with_groups n gs ins [] [])) after
unfolding goes_on with_inputs with_gates with_groups
gates_named n ins gs after are few =
    let none : n ≡ n + 0 = omega arith in
    gates-go Named n ins (λ hs h. refl) gs [] after (subst (λ (m : ℕ). AreGates m gs) none are) (omega arith)

end_named : (l : LabelledNetlist) → sizes l.outputs ≡ length l.circuit.outputs
    → lead (at Named (with_groups l.circuit.inputs l.circuit.gates l.inputs l.outputs l.circuit.outputs)) (End ∷ []) ≡ Some l
unfolding goes_on has_taken_name is_known is_within with_groups lead
end_named l all =
    lead-step (at Named l) End (at Ended l) [] (if_so-true _ Ended _ (le-leb _ _ (omega arith))) (right_none l End refl refl refl)

-- all of version 2
lead-second : (l : LabelledNetlist) → IsLabelled l → lead at_start (second_lines l) ≡ Some l
unfolding second_front
lead-second l is =
    let c = l.circuit in
    let circuit = is.circuit in
    let values = circuit.few_values in
    let outputs = circuit.few_outputs in
    let all_inputs = is.all_inputs in
    let all_outputs = is.all_outputs in
    let few_inputs = is.few_inputs in
    let few_groups = is.few_outputs in
    let ins = map (λ g. Input g.name g.size) l.inputs in
    let gates = map Makes c.gates in
    let outs = output_lines l.outputs c.outputs in
    let sum : 0 + sizes l.inputs ≡ c.inputs = omega arith in
    begin_second ((ins ++ (gates ++ outs)) ++ End ∷ [])
    ∙ ap (lead (at Named (with_inputs 0 []))) (append_assoc ins (gates ++ outs) (End ∷ [])
    ∙ ap (λ xs. ins ++ xs) (append_assoc gates outs (End ∷ [])))
    ∙ inputs-go l.inputs [] 0 (gates ++ (outs ++ End ∷ [])) is.inputs (omega arith) (omega arith)
    ∙ ap (λ m. lead (at Named (with_inputs m l.inputs)) (gates ++ (outs ++ End ∷ []))) sum
    ∙ gates_named c.inputs l.inputs c.gates (outs ++ End ∷ []) circuit.formed.gates values
    ∙ groups-go c.inputs c.gates l.inputs l.outputs [] [] c.outputs (End ∷ []) is.outputs (omega arith) refl all_outputs (omega arith) circuit.formed.outputs
    ∙ end_named l all_outputs

-- all of version 1
gates_plain : (n : ℕ) (gs : List Gate) (after : List Line) → AreGates n gs → n + length gs ≤ 1_000_000
    → lead (at Plain (of_inputs n)) (map Makes gs ++ after) ≡ lead (at Plain (with_groups n gs [] [] [])) after
unfolding goes_on with_gates with_groups
gates_plain n gs after are few =
    let none : n ≡ n + 0 = omega arith in
    gates-go Plain n [] (λ hs h. refl) gs [] after (subst (λ (m : ℕ). AreGates m gs) none are) (omega arith)

outs_plain : (c : Netlist) (after : List Line) → All (λ u. u < value_count c) c.outputs → length c.outputs ≤ 1_000_000
    → lead (at Plain (with_groups c.inputs c.gates [] [] [])) (map Out c.outputs ++ after)
    ≡ lead (at Plain (with_groups c.inputs c.gates [] [] c.outputs)) after
unfolding goes_on with_groups with_outs
outs_plain c after known few = outs-go Plain c.inputs c.gates [] [] 1_000_000 (omega arith) (λ us u room. refl) c.outputs [] after known
    (omega arith)

begin_first : (n : ℕ) (after : List Line) → n ≤ 1_000_000 → lead at_start (First ∷ (Inputs n ∷ after)) ≡ lead (at Plain (of_inputs n)) after
unfolding goes_on has_taken_name is_known is_within
begin_first n after few =
    lead-step at_start First (at Size (of_inputs 0)) (Inputs n ∷ after) refl (right_none (of_inputs 0) First refl refl refl)
    ∙ lead-step (at Size (of_inputs 0)) (Inputs n) (at Plain (of_inputs n)) after refl
    (right_none (of_inputs 0) (Inputs n) refl refl (le-leb _ _ few))

end_plain : (c : Netlist) → lead (at Plain (with_groups c.inputs c.gates [] [] c.outputs)) (End ∷ []) ≡ Some (with_plain_groups c)
unfolding goes_on has_taken_name is_known is_within with_groups lead
end_plain c = lead-step (at Plain (with_groups c.inputs c.gates [] [] c.outputs)) End (at Ended (with_plain_groups c)) [] refl
    (right_none (with_groups c.inputs c.gates [] [] c.outputs) End refl refl refl)

lead-first : (c : Netlist) → IsCircuit c → lead at_start (first_lines c) ≡ Some (with_plain_groups c)
unfolding first_front
lead-first c is =
    let values = is.few_values in
    let gates = map Makes c.gates in
    let outs = map Out c.outputs in
    begin_first c.inputs ((gates ++ outs) ++ End ∷ []) (omega arith)
    ∙ ap (lead (at Plain (of_inputs c.inputs))) (append_assoc gates outs (End ∷ []))
    ∙ gates_plain c.inputs c.gates (outs ++ End ∷ []) is.formed.gates values
    ∙ outs_plain c (End ∷ []) is.formed.outputs is.few_outputs
    ∙ end_plain c

-- all lines of a circuit are small
small-append : (xs ys : List Line) → AllSmall xs → AllSmall ys → AllSmall (xs ++ ys)
small-append [] ys a b = b
small-append (x ∷ xs) ys a b = (a.0, small-append xs ys a.1 b)

small-gate : (n : ℕ) (g : Gate) → OperandsBelow n g → n ≤ 1_000_000 → IsSmallGate g
small-gate n Zero h few = tt
small-gate n One h few = tt
small-gate n (Xor u v) h few = let a = h.0 in let b = h.1 in (omega arith, omega arith)
small-gate n (Not u) h few = omega arith
small-gate n (And u v) h few = let a = h.0 in let b = h.1 in (omega arith, omega arith)
small-gate n (Ref u) h few = omega arith

small-gates : (n : ℕ) (gs : List Gate) → AreGates n gs → n + length gs ≤ 1_000_000 → AllSmall (map Makes gs)
small-gates n [] are few = tt
small-gates n (g ∷ gs) are few = (small-gate n g are.0 (omega arith), small-gates (suc n) gs are.1 (omega arith))

small-outs : (n : ℕ) (us : List ℕ) → n ≤ 1_000_000 → All (λ u. u < n) us → AllSmall (map Out us)
small-outs n [] few known = tt
small-outs n (u ∷ us) few known =
    let first = All-head (λ v. v < n) u us known in
    ((let small : u < 10 ^ 9 = omega arith in small), small-outs n us few (All-tail (λ v. v < n) u us known))

small-inputs : (before gs : List NamedGroup) → AreGroups before gs → sizes gs ≤ 1_000_000 → AllSmall (map (λ g. Input g.name g.size) gs)
small-inputs before [] are few = tt
small-inputs before (g ∷ gs) are few = ((are.0, are.1, omega arith), small-inputs (before ++ g ∷ []) gs are.3 (omega arith))

small-output_lines : (n : ℕ) (before gs : List NamedGroup) (us : List ℕ) → AreGroups before gs → sizes gs ≤ 1_000_000 → n ≤ 1_000_000
    → All (λ u. u < n) us
    → AllSmall (output_lines gs us)
small-output_lines n before [] us are few values known = tt
small-output_lines n before (g ∷ gs) us are few values known = (
  (are.0, are.1, omega arith),
  small-append (map Out (take g.size us)) (output_lines gs (drop g.size us))
      (small-outs n (take g.size us) values (All-take (λ v. v < n) g.size us known))
      (small-output_lines n (before ++ g ∷ []) gs (drop g.size us) are.3 (omega arith) values (All-drop (λ v. v < n) g.size us known)),
)

end_small : AllSmall (End ∷ [])
end_small = (tt, tt)

pub small-first : (c : Netlist) → IsCircuit c → AllSmall (first_lines c)
unfolding first_front
small-first c is =
    let values = is.few_values in (
      tt,
      (
        (let small : c.inputs < 10 ^ 9 = omega arith in small),
        small-append (map Makes c.gates ++ map Out c.outputs) (End ∷ [])
            (small-append (map Makes c.gates) (map Out c.outputs) (small-gates c.inputs c.gates is.formed.gates values)
            (small-outs _ c.outputs values is.formed.outputs)) end_small,
      ),
    )

pub small-second : (l : LabelledNetlist) → IsLabelled l → AllSmall (second_lines l)
unfolding second_front
small-second l is =
    let c = l.circuit in
    let circuit = is.circuit in
    let values = circuit.few_values in
    let outputs = circuit.few_outputs in
    let all_inputs = is.all_inputs in
    let all_outputs = is.all_outputs in
    let ins = map (λ g. Input g.name g.size) l.inputs in
    let gates = map Makes c.gates in
    let outs = output_lines l.outputs c.outputs in (
      tt,
      small-append (ins ++ (gates ++ outs)) (End ∷ [])
          (small-append ins (gates ++ outs) (small-inputs [] l.inputs is.inputs (omega arith))
          (small-append gates outs (small-gates c.inputs c.gates circuit.formed.gates values)
          (small-output_lines _ [] l.outputs c.outputs is.outputs (omega arith) values circuit.formed.outputs))) end_small,
    )

right_is : (r : Result LabelledNetlist Fault) (l : LabelledNetlist) → right_part r ≡ Some l → r ≡ Ok l
right_is (Ok m) l e = cc
right_is (Err fault) l e = cc

-- What stands for a labelled circuit is read as that.
pub complete : (bytes : List ℕ) (l : LabelledNetlist) → IsText bytes l → reading bytes ≡ Ok l
unfolding reading
complete bytes l text = right_is _ l (run-kept (text_lines bytes) at_start 1 ∙ by text.lines)
  where
    by : (spoken bytes ≡ map line_words (second_lines l)) ⊎ ((l ≡ with_plain_groups l.circuit)
        × (spoken bytes ≡ map line_words (first_lines l.circuit))) → run at_start (spoken bytes) ≡ Some l
    by (inl e) = ap (run at_start) e ∙ run-lead (second_lines l) at_start (small-second l text.labelled) ∙ lead-second l text.labelled
    by (inr e) = ap (run at_start) e.1 ∙ run-lead (first_lines l.circuit) at_start (small-first l.circuit text.labelled.circuit)
        ∙ lead-first l.circuit text.labelled.circuit ∙ ap Some (sym e.0)
