-- A text that is sent in five parts.
use Rattle.std.proofs.Common.{◌≡◌, ℕ, List, [], ◌∷◌, ◌++◌, map, Option, sym, ap, ◌∙◌, subst, append_assoc, append-nil}
use Rattle.std.specs.Io.KnownBytes.{Appends}
use Rattle.std.proofs.lemmas.List.Concat.{flat_map-append}
use Rattle.mask_io.specs.Outside.{AppendsProperPrefix}
use Rattle.mask_circuit.specs.declared.gates.Gate.{Gate}
use Rattle.mask_circuit.specs.Netlist.{Netlist}
use Rattle.mask_circuit.specs.Labels.{NamedGroup, LabelledNetlist}
use Rattle.mask_circuit.specs.Text.{Line, First, Second, Inputs, Input, Makes, Out, End, line_words, spaced, spelling, output_lines, first_front, second_front, canonical, canonical2}
use Rattle.mask_text.proofs.Sends.{Sent, sent-none, sent-more, sent-stopped, sent-all}

spelling-append : (xs ys : List Line) → spelling (xs ++ ys) ≡ spelling xs ++ spelling ys
spelling-append xs ys = flat_map-append (λ line. spaced (line_words line) ++ 10 ∷ []) xs ys

-- the text of one line
abbrev pub alone : Line → List ℕ
alone line = spaced (line_words line) ++ 10 ∷ []

-- two lists of lines and the last line
spelling-tail : (xs ys : List Line) → spelling ((xs ++ ys) ++ End ∷ []) ≡ spelling xs ++ (spelling ys ++ alone End)
spelling-tail xs ys =
    spelling-append (xs ++ ys) (End ∷ []) ∙ ap (λ t. t ++ (alone End ++ [])) (spelling-append xs ys)
    ∙ append_assoc (spelling xs) (spelling ys) (alone End ++ []) ∙ ap (λ t. spelling xs ++ (spelling ys ++ t)) (append-nil (alone End))

pub first_parts : (c : Netlist) (inputs : List ℕ) (gates : List Gate) (outs : List ℕ) → inputs ≡ alone (Inputs c.inputs) → gates ≡ c.gates
    → outs ≡ c.outputs
    → canonical c ≡ alone First ++ (inputs ++ (spelling (map Makes gates) ++ (spelling (map Out outs) ++ alone End)))
unfolding canonical first_front
first_parts c inputs gates outs e f g =
    rw (e, f, g) (ap (λ t. alone First ++ (alone (Inputs c.inputs) ++ t)) (spelling-tail (map Makes c.gates) (map Out c.outputs)))

pub second_parts : (l : LabelledNetlist) (ins : List NamedGroup) (gates : List Gate) (outs : List NamedGroup) (us : List ℕ)
    → ins ≡ l.inputs → gates ≡ l.circuit.gates → outs ≡ l.outputs → us ≡ l.circuit.outputs
    → canonical2 l ≡ alone Second ++ (spelling (map (λ g. Input g.name g.size) ins) ++
    (spelling (map Makes gates) ++ (spelling (output_lines outs us) ++ alone End)))
unfolding canonical2 second_front
second_parts l ins gates outs us e f g h =
    let named = map (λ (g : NamedGroup). Input g.name g.size) l.inputs in
    let made = map Makes l.circuit.gates in
    let handed = output_lines l.outputs l.circuit.outputs in
    rw (e, f, g, h) (ap (λ t. alone Second ++ t)
    (ap spelling (append_assoc named (made ++ handed) (End ∷ [])) ∙ spelling-append named ((made ++ handed) ++ End ∷ [])
    ∙ ap (λ t. spelling named ++ t) (spelling-tail made handed)))

module _ (whole t1 t2 t3 t4 t5 : List ℕ) (parts : whole ≡ t1 ++ (t2 ++ (t3 ++ (t4 ++ t5)))) (a b1 b2 b3 b4 b5 : Option (List ℕ)) where
  begun : Sent a a (t1 ++ (t2 ++ (t3 ++ (t4 ++ t5)))) whole
  begun = subst (λ (rest : List ℕ). Sent a a rest whole) parts (sent-none a whole)

  sent1 : Appends a b1 t1 → Sent a b1 (t2 ++ (t3 ++ (t4 ++ t5))) whole
  sent1 s1 = sent-more a a b1 t1 _ whole begun s1

  sent2 : Appends a b1 t1 → Appends b1 b2 t2 → Sent a b2 (t3 ++ (t4 ++ t5)) whole
  sent2 s1 s2 = sent-more a b1 b2 t2 _ whole (sent1 s1) s2

  sent3 : Appends a b1 t1 → Appends b1 b2 t2 → Appends b2 b3 t3 → Sent a b3 (t4 ++ t5) whole
  sent3 s1 s2 s3 = sent-more a b2 b3 t3 _ whole (sent2 s1 s2) s3

  sent4 : Appends a b1 t1 → Appends b1 b2 t2 → Appends b2 b3 t3 → Appends b3 b4 t4 → Sent a b4 (t5 ++ []) whole
  sent4 s1 s2 s3 s4 = subst (λ (rest : List ℕ). Sent a b4 rest whole) (sym (append-nil t5)) (sent-more a b3 b4 t4 t5 whole (sent3 s1 s2 s3) s4)

  pub stopped1 : AppendsProperPrefix a b1 t1 → AppendsProperPrefix a b1 whole
  stopped1 part = sent-stopped a a b1 t1 _ whole begun part

  pub stopped2 : Appends a b1 t1 → AppendsProperPrefix b1 b2 t2 → AppendsProperPrefix a b2 whole
  stopped2 s1 part = sent-stopped a b1 b2 t2 _ whole (sent1 s1) part

  pub stopped3 : Appends a b1 t1 → Appends b1 b2 t2 → AppendsProperPrefix b2 b3 t3 → AppendsProperPrefix a b3 whole
  stopped3 s1 s2 part = sent-stopped a b2 b3 t3 _ whole (sent2 s1 s2) part

  pub stopped4 : Appends a b1 t1 → Appends b1 b2 t2 → Appends b2 b3 t3 → AppendsProperPrefix b3 b4 t4 → AppendsProperPrefix a b4 whole
  stopped4 s1 s2 s3 part = sent-stopped a b3 b4 t4 _ whole (sent3 s1 s2 s3) part

  pub stopped5 : Appends a b1 t1 → Appends b1 b2 t2 → Appends b2 b3 t3 → Appends b3 b4 t4 → AppendsProperPrefix b4 b5 t5
      → AppendsProperPrefix a b5 whole
  stopped5 s1 s2 s3 s4 part = sent-stopped a b4 b5 t5 [] whole (sent4 s1 s2 s3 s4) part

  pub sent5 : Appends a b1 t1 → Appends b1 b2 t2 → Appends b2 b3 t3 → Appends b3 b4 t4 → Appends b4 b5 t5 → Appends a b5 whole
  sent5 s1 s2 s3 s4 s5 = sent-all a b5 whole (sent-more a b4 b5 t5 [] whole (sent4 s1 s2 s3 s4) s5)
