-- The shares of inputs that are laid source by source.
use Rattle.std.proofs.Common.{◌≡◌, ℕ, zero, suc, pred, ◌+◌, ◌-◌, ◌*◌, ◌<◌, ◌≤◌, Bool, List, [], ◌∷◌, ◌++◌, map, length, take, drop, get_or, All, refl, ap, ap₂, sym, ◌∙◌, arith, append_assoc, length-append, length-drop}
use Rattle.std.proofs.lemmas.List.{map-append, take-map, drop-map, length-map, length-take-le, get_or-take, get_or-drop, append-nil, take_more, take-append-drop, take-take, drop-take}
use Rattle.std.proofs.Math.Seq.{take-append_seam, drop-append_seam}
use Rattle.std.proofs.lemmas.List.Elements.{All-head, All-tail}
use Rattle.mask_bits.specs.Reading.{bit}
use Rattle.mask_bits.specs.Lanes.{lane}
use Rattle.mask_circuit.specs.Netlist.{Netlist}
use Rattle.mask_circuit.specs.Wires.{each}
use Rattle.mask_shares.proofs.Lists.{each-get_or, each-same}
use Rattle.mask_trace.specs.Steps.{InputBit, Registers, plain_bits}
use Rattle.mask_trace.specs.Steps as steps
use Rattle.mask_trace.specs.Traces.{BitShares, input_shares}
use Rattle.mask_trace.proofs.Inputs.{inputs_stand_in_parts, publics-lane, states}
use Rattle.mask_trace.proofs.Computing.{length-input_shares}
use Rattle.mask_chain.specs.Evaluations.{IsThere, Suits, all_laid, input_bits, laid, source_bits}
use Rattle.mask_chain.specs.Chains.{registers}
use Rattle.mask_chain.specs.declared.evaluations.Source.{Source}
use Rattle.mask_chain.specs.declared.evaluations.Source.TheVariants.{Key, State, Public}
use Rattle.mask_chain.specs.declared.evaluations.Evaluation.{Evaluation}

-- THE BITS OF A SOURCE

-- a part of a list, by its places
part-is : {A : Type 0} (xs : List A) (from count : ℕ) (d : A) → from + count ≤ length xs →
    each (λ j. get_or xs (from + j) d) count ≡ take count (drop from xs)
part-is {A} xs from count d there =
    let ys = take count (drop from xs) in
    let long : length ys ≡ count = length-take-le count (drop from xs) (let rest = length-drop from xs in omega arith) in
    each-same (λ j. get_or xs (from + j) d) (λ j. get_or ys j d) count
    (λ j lt. sym (get_or-take count (drop from xs) j d lt ∙ get_or-drop from xs j d))
    ∙ ap (each (λ j. get_or ys j d)) (sym long) ∙ each-get_or ys d

front-is : {A : Type 0} (xs : List A) (count : ℕ) (d : A) → count ≤ length xs → each (λ j. get_or xs j d) count ≡ take count xs
front-is xs count d there =
    let none : (j : ℕ) → j ≡ 0 + j = λ j. omega arith in
    each-same (λ j. get_or xs j d) (λ j. get_or xs (0 + j) d) count (λ j lt. ap (λ (k : ℕ). get_or xs k d) (none j)) ∙ part-is xs 0 count d (omega arith)

-- bits of the key from this one on
keys_from : (N : ℕ) (have : Registers BitShares) (from n : ℕ) (r : List Bool) →
    input_shares N have (each (λ j. steps.Key (from + j)) n) r ≡ each (λ j. get_or have.key (from + j) []) n
keys_from N have from zero r = refl
keys_from N have from (suc n) r =
    inputs_stand_in_parts.both N have (each (λ j. steps.Key (from + j)) n) (steps.Key (from + n) ∷ []) r
    ∙ ap (λ (ss : List BitShares). ss ++ get_or have.key (from + n) [] ∷ []) (keys_from N have from n r)

no_keys : (from n : ℕ) → plain_bits (each (λ j. steps.Key (from + j)) n) ≡ []
no_keys from zero = refl
no_keys from (suc n) =
    inputs_stand_in_parts.bits_of_both (each (λ j. steps.Key (from + j)) n) (steps.Key (from + n) ∷ []) ∙ ap (λ (bs : List Bool). bs ++ []) (no_keys from n)

-- a source has no bit of the message
no_plain : (source : Source) → plain_bits (source_bits source) ≡ []
no_plain (Key from count) = no_keys from count
no_plain (State count) = inputs_stand_in_parts.bits_of_state count
no_plain (Public bits) = inputs_stand_in_parts.bits_of_publics (lane 0 bits.now)

pub none_plain : (sources : List Source) → plain_bits (input_bits sources) ≡ []
none_plain [] = refl
none_plain (source ∷ sources) =
    inputs_stand_in_parts.bits_of_both (source_bits source) (input_bits sources)
    ∙ ap₂ (λ (xs ys : List Bool). xs ++ ys) (no_plain source) (none_plain sources)

-- THEIR SHARES

-- inputs with no bit of the message read no coin
pub behind_none : (N : ℕ) (have : Registers BitShares) (is js : List InputBit) (r : List Bool) → plain_bits is ≡ [] →
    input_shares N have (is ++ js) r ≡ input_shares N have is r ++ input_shares N have js r
behind_none N have is js r none =
    let no : pred N * 0 ≡ 0 = omega arith in
    inputs_stand_in_parts.both N have is js r
    ∙ ap (λ (k : ℕ). input_shares N have is r ++ input_shares N have js (drop k r)) (ap (λ (bs : List Bool). pred N * length bs) none ∙ no)

module _ (N : ℕ) (key state : List (List ℕ)) where
  -- the words of a source have its shares in lane 0
  laid-lane : (source : Source) (r : List Bool) → IsThere (length key) (length state) source →
      map (lane 0) (laid N key state source) ≡ input_shares N (registers key state) (source_bits source) r
  laid-lane (Key from count) r there =
      let long = length-map key (lane 0) in
      sym (take-map (lane 0) count (drop from key)) ∙ ap (take count) (sym (drop-map (lane 0) from key))
      ∙ sym (part-is (map (lane 0) key) from count [] (omega arith)) ∙ sym (keys_from N (registers key state) from count r)
  laid-lane (State count) r there =
      let long = length-map state (lane 0) in
      sym (take-map (lane 0) count state) ∙ sym (front-is (map (lane 0) state) count [] (omega arith)) ∙ sym (states N (registers key state) count r)
  laid-lane (Public bits) r there = publics-lane 0 N bits.now ∙ sym (inputs_stand_in_parts.publics N (registers key state) (lane 0 bits.now) r)

  pub all_laid-lane : (sources : List Source) (r : List Bool) → All (IsThere (length key) (length state)) sources →
      map (lane 0) (all_laid N key state sources) ≡ input_shares N (registers key state) (input_bits sources) r
  all_laid-lane [] r there = refl
  all_laid-lane (source ∷ sources) r there =
      map-append (lane 0) (laid N key state source) (all_laid N key state sources)
      ∙ ap₂ (λ (xs ys : List BitShares). xs ++ ys) (laid-lane source r (All-head (IsThere (length key) (length state)) source sources there))
      (all_laid-lane sources r (All-tail (IsThere (length key) (length state)) source sources there))
      ∙ sym (behind_none N (registers key state) (source_bits source) (input_bits sources) r (no_plain source))

  -- they are as many as the bits
  pub length-all_laid : (sources : List Source) → All (IsThere (length key) (length state)) sources →
      length (all_laid N key state sources) ≡ length (input_bits sources)
  length-all_laid sources there =
      sym (length-map (all_laid N key state sources) (lane 0)) ∙ ap length (all_laid-lane sources [] there)
      ∙ length-input_shares N (registers key state) (input_bits sources) []

-- ONE SOURCE AFTER ANOTHER

module _ (N : ℕ) (key state : List (List ℕ)) where
  all_laid-append : (xs ys : List Source) → all_laid N key state (xs ++ ys) ≡ all_laid N key state xs ++ all_laid N key state ys
  all_laid-append [] ys = refl
  all_laid-append (x ∷ xs) ys =
      ap (λ (more : List (List ℕ)). laid N key state x ++ more) (all_laid-append xs ys)
      ∙ sym (append_assoc (laid N key state x) (all_laid N key state xs) (all_laid N key state ys))

  pub all_laid-more : (sources : List Source) (i : ℕ) (d : Source) → i < length sources →
      all_laid N key state (take (i + 1) sources) ≡ all_laid N key state (take i sources) ++ laid N key state (get_or sources i d)
  all_laid-more sources i d lt =
      ap (all_laid N key state) (take_more sources i d lt) ∙ all_laid-append (take i sources) (get_or sources i d ∷ [])
      ∙ ap (λ (more : List (List ℕ)). all_laid N key state (take i sources) ++ more) (append-nil (laid N key state (get_or sources i d)))

  -- the next source ends within all of them
  pub ends_within : (sources : List Source) (i : ℕ) (d : Source) → i < length sources →
      length (all_laid N key state (take i sources)) + length (laid N key state (get_or sources i d)) ≤ length (all_laid N key state sources)
  ends_within sources i d lt =
      let whole = ap length (ap (all_laid N key state) (sym (take-append-drop (i + 1) sources)) ∙ all_laid-append (take (i + 1) sources) (drop (i + 1) sources)) in
      let parts = length-append (all_laid N key state (take (i + 1) sources)) (all_laid N key state (drop (i + 1) sources)) in
      let front = ap length (all_laid-more sources i d lt) ∙ length-append (all_laid N key state (take i sources)) (laid N key state (get_or sources i d)) in
      omega arith

-- THE INPUTS OF A STEP

-- what is laid before the message and behind it, as two parts of one list
pub laid_parts : (before behind first inputs old : List (List ℕ)) (m n : ℕ) → m ≡ 0 + length before → n ≡ m + length behind →
    take m first ≡ take 0 old ++ before → take n inputs ≡ take m first ++ behind →
    (take m inputs ≡ before) × (take (n - m) (drop m inputs) ≡ behind)
laid_parts before behind first inputs old m n m_is n_is front all =
    let size : m ≡ length before = omega arith in
    let whole : take n inputs ≡ before ++ behind = all ∙ ap (λ (xs : List (List ℕ)). xs ++ behind) front in
    let rest : m + (n - m) ≡ n = omega arith in (
      sym (take-take m n inputs (omega arith)) ∙ ap₂ (λ (k : ℕ) (xs : List (List ℕ)). take k xs) size whole ∙ take-append_seam before behind,
      sym (drop-take m (n - m) inputs) ∙ ap (λ (k : ℕ). drop m (take k inputs)) rest
          ∙ ap₂ (λ (k : ℕ) (xs : List (List ℕ)). drop k xs) size whole ∙ drop-append_seam before behind,
    )

-- with the message they are as many as the inputs
pub counted : (N : ℕ) (key state : List (List ℕ)) (circuit : Netlist) (e : Evaluation) →
    Suits (length key) (length state) circuit e →
    length (all_laid N key state e.before.now) + length e.message.now + length (all_laid N key state e.behind.now) ≡ circuit.inputs
counted N key state circuit e suits =
    let message = map steps.Plain (lane 0 e.message.now) in
    let all = length-append (input_bits e.before.now) (message ++ input_bits e.behind.now) in
    let rest = length-append message (input_bits e.behind.now) in
    let words = length-map (lane 0 e.message.now) steps.Plain ∙ length-map e.message.now (bit 0) in
    let first = length-all_laid N key state e.before.now suits.before in
    let last = length-all_laid N key state e.behind.now suits.behind in
    let count = suits.count in
    omega arith
