-- Plain bits in lane 0 of words: shared, evaluated and unmasked.
use Rattle.std.proofs.Common.{◌≡◌, ℕ, suc, ◌+◌, ◌-◌, ◌*◌, Bool, true, false, cond, List, [], ◌∷◌, length, map, take, drop, refl, ap, ap₂, sym, ◌∙◌, ◌==◌, bit_and, arith, lit<}
use Rattle.std.specs.List.{concat}
use Rattle.std.proofs.lemmas.List.{append-nil, length-map, take-map, drop-map, take-take, drop-take}
use Rattle.std.proofs.lemmas.Simd.{map-map}
use Rattle.std.proofs.lemmas.Nat.{and_mask}
use Rattle.std.proofs.lemmas.Nat.Bits.{bit_at_lowest}
use Rattle.std.specs.declared.option.Option.{Option}
use Rattle.mask_bits.specs.Reading.{bit, low, bytes_for}
use Rattle.mask_bits.specs.Lanes.{lane}
use Rattle.mask_circuit.specs.Netlist.{Netlist}
use Rattle.mask_circuit.specs.Ring.{bits, words}
use Rattle.mask_circuit.specs.Value.{plain}
use Rattle.mask_circuit.specs.Expansion.{draws, outs}
use Rattle.mask_shares.specs.Sharing.{all_listed, all_shared, unmasked}
use Rattle.mask_eval.specs.Evaluated.{coin_count, inputs_of, coins_behind, EvaluatesInLanes}
use Rattle.mask_eval.specs.Watching.{Told, reports, told_more, value_by_value}
use Rattle.mask_laws.proofs.Sharings.{all_shared-take}
use Rattle.mask_eval.proofs.Shared.{all_shared_in_lane, unmasked_in_lane, all_shared-unmask, lane-concat}
use Rattle.mask_run.specs.Calls.{eval_bits, eval_call}
use Rattle.mask_run.specs.Lanes.{words_of, first_bit}

-- a bit as a word has it in lane 0
bit-word : (b : Bool) → bit 0 (cond b 1 0) ≡ b
bit-word true = refl
bit-word false = refl

pub lane-words_of : (bs : List Bool) → lane 0 (words_of bs) ≡ bs
lane-words_of [] = refl
lane-words_of (b ∷ bs) = ap₂ (λ (c : Bool) (cs : List Bool). c ∷ cs) (bit-word b) (lane-words_of bs)

-- shares made with words are in lane 0 those made with bits, and share the bits
pub shared_in_lane : (d : ℕ) (bs : List Bool) (coins : List ℕ) → map (lane 0) (all_shared words d (words_of bs) coins) ≡ all_shared bits d bs (lane 0 coins)
shared_in_lane d bs coins =
    all_shared_in_lane 0 d (words_of bs) coins
    ∙ ap (λ (cs : List Bool). all_shared bits d cs (lane 0 coins)) (lane-words_of bs)

pub shared_first_bits : (d : ℕ) (bs : List Bool) (coins : List ℕ) → map first_bit (all_shared words d (words_of bs) coins) ≡ bs
shared_first_bits d bs coins =
    sym (map-map (unmasked bits) (lane 0) (all_shared words d (words_of bs) coins))
    ∙ ap (map (unmasked bits)) (shared_in_lane d bs coins)
    ∙ all_shared-unmask d bs (lane 0 coins)

-- the lowest bit of the word that shares stand for is the one that they stand for in lane 0
pub lowest_bit : (word : ℕ) (shares : List ℕ) → word ≡ unmasked words shares → bit_and word 1 == 1 ≡ first_bit shares
lowest_bit word shares is =
    ap (λ (n : ℕ). n == 1) (and_mask word 1 ∙ sym (bit_at_lowest word))
    ∙ ap (bit 0) is
    ∙ unmasked_in_lane 0 shares

-- THE CALL

-- records of calls are the same where their parts are
same_call : (c : Netlist) (d : ℕ) (i i' t t' o o' : List Bool) → i ≡ i' → t ≡ t' → o ≡ o' →
    (let one : Told = record { circuit = c; order = d; inputs = i; tape = t; outputs = o } in
    let two : Told = record { circuit = c; order = d; inputs = i'; tape = t'; outputs = o' } in one ≡ two)
same_call c d i i' t t' o o' ei et eo =
    ap (λ (x : List Bool). record { circuit = c; order = d; inputs = x; tape = t; outputs = o }) ei
    ∙ ap₂ (λ (x y : List Bool). record { circuit = c; order = d; inputs = i'; tape = x; outputs = y }) et eo

-- the coins behind those of the inputs, in lane 0
pub lane-coins : (n used : ℕ) (ws : List ℕ) → lane 0 (take n (drop used ws)) ≡ take n (drop used (lane 0 ws))
lane-coins n used ws = sym (take-map (bit 0) n (drop used ws)) ∙ ap (take n) (sym (drop-map (bit 0) used ws))

-- what the watch is told of an evaluation on shared bits is the call of `eval`
reported_call : (c : Netlist) (d : ℕ) (bs : List Bool) (ws behind : List ℕ) (inputs outputs : List (List ℕ)) →
    inputs ≡ all_shared words d (words_of bs) ws → behind ≡ take (draws c (suc d)) (drop (d * length bs) ws) →
    map (lane 0) outputs ≡ outs bits c (suc d) (all_listed bits (map (lane 0) inputs)) (lane 0 behind) →
    reports c d (concat inputs) behind (concat outputs) 1 ≡ eval_call c d bs (lane 0 ws) ∷ []
reported_call c d bs ws behind inputs outputs shared next evaluated =
    ap (λ (t : Told). t ∷ [])
    (same_call c d _ _ _ _ _ _ (lane-concat 0 inputs ∙ ap value_by_value shares) coins
    (lane-concat 0 outputs
    ∙ ap value_by_value (evaluated ∙ ap₂ (λ (s : List (List Bool)) (t : List Bool). outs bits c (suc d) (all_listed bits s) t) shares coins)))
  where
    shares : map (lane 0) inputs ≡ all_shared bits d bs (lane 0 ws)
    shares = ap (map (lane 0)) shared ∙ shared_in_lane d bs ws

    coins : lane 0 behind ≡ take (draws c (suc d)) (drop (d * length bs) (lane 0 ws))
    coins = ap (lane 0) next ∙ lane-coins (draws c (suc d)) (d * length bs) ws

-- the call reads as many bits of the tape as it draws
pub call-take : (c : Netlist) (d : ℕ) (bs r : List Bool) → length bs ≡ c.inputs → eval_call c d bs (take (eval_bits c d) r) ≡ eval_call c d bs r
call-take c d bs r count =
    same_call c d _ _ _ _ _ _ (ap value_by_value shares) tape
    (ap₂ (λ (s : List (List Bool)) (t : List Bool). value_by_value (outs bits c (suc d) (all_listed bits s) t)) shares tape)
  where
    total : eval_bits c d ≡ d * length bs + draws c (suc d)
    total = ap (λ (n : ℕ). d * n + draws c (suc d)) (sym count)

    shares : all_shared bits d bs (take (eval_bits c d) r) ≡ all_shared bits d bs r
    shares =
        sym (all_shared-take bits d bs (take (eval_bits c d) r))
        ∙ ap (all_shared bits d bs) (take-take (d * length bs) (eval_bits c d) r (omega (arith, total)))
        ∙ all_shared-take bits d bs r

    tape : take (draws c (suc d)) (drop (d * length bs) (take (eval_bits c d) r)) ≡ take (draws c (suc d)) (drop (d * length bs) r)
    tape =
        ap (λ (n : ℕ). take (draws c (suc d)) (drop (d * length bs) (take n r))) total
        ∙ ap (take (draws c (suc d))) (drop-take (d * length bs) (draws c (suc d)) r)
        ∙ take-take (draws c (suc d)) (draws c (suc d)) (drop (d * length bs) r) (omega arith)

-- how many bits the call draws
pub count_is : (c : Netlist) (N d n : ℕ) (bs : List Bool) → N ≡ suc d → n ≡ length (words_of bs) → length bs ≡ c.inputs → coin_count c N n ≡ eval_bits c d
count_is c N d n bs more many count =
    let one : N - 1 ≡ d = omega arith in
    ap₂ (λ (k m : ℕ). k * m + draws c N) one (many ∙ length-map bs (λ b. cond b 1 0) ∙ count) ∙ ap (λ (m : ℕ). d * c.inputs + draws c m) more

-- the same evaluation where its parts are given otherwise
pub evaluates-same : (c : Netlist) (N N' : ℕ) (b b' e e' : List (List ℕ)) (ws ws' : List ℕ) (kept kept' after : List Bool) (left left' : Option (List ℕ))
    (told told' now : Option (List Told)) (outputs : List (List ℕ)) → N' ≡ N → b' ≡ b → e' ≡ e → ws' ≡ ws → kept' ≡ kept → told' ≡ told →
    EvaluatesInLanes c N 1 b ws e kept after left left' told now outputs → EvaluatesInLanes c N' 1 b' ws' e' kept' after left left' told' now outputs
evaluates-same c N N' b b' e e' ws ws' kept kept' after left left' told told' now outputs n_is b_is e_is ws_is kept_is told_is run =
    rw (n_is, b_is, e_is, ws_is, kept_is, told_is) run

-- An evaluation in one lane of a tape that kept nothing, all of whose inputs are shared bits, is the call on the next bits of the tape.
module _ (c : Netlist) (d : ℕ) (bs : List Bool) (after : List Bool) (before now : Option (List ℕ)) (told told' : Option (List Told)) (outputs : List (List ℕ))
    (count : length bs ≡ c.inputs) (run : EvaluatesInLanes c (suc d) 1 [] (words_of bs) [] [] after before now told told' outputs) where
  one : suc d - 1 ≡ d
  one = omega arith

  many : length (words_of bs) ≡ length bs
  many = length-map bs (λ b. cond b 1 0)

  total : coin_count c (suc d) (length (words_of bs)) ≡ eval_bits c d
  total = count_is c (suc d) d (length (words_of bs)) bs refl refl count

  inputs : inputs_of (suc d) [] (words_of bs) [] run.coins ≡ all_shared words d (words_of bs) run.coins
  inputs =
      append-nil (all_shared words (suc d - 1) (words_of bs) run.coins) ∙ ap (λ (k : ℕ). all_shared words k (words_of bs) run.coins) one

  behind : coins_behind c (suc d) (length (words_of bs)) run.coins ≡ take (draws c (suc d)) (drop (d * length bs) run.coins)
  behind = ap₂ (λ (k n : ℕ). take (draws c (suc d)) (drop (k * n) run.coins)) one many

  next : lane 0 run.coins ≡ take (eval_bits c d) (low run.drawn.fresh)
  next =
      run.drawn.spread.used 0 (lit< tt)
      ∙ ap (λ (n : ℕ). take n (drop (0 * n) (low run.drawn.fresh))) total
      ∙ ap (λ (n : ℕ). take (eval_bits c d) (drop n (low run.drawn.fresh))) (let none : 0 * eval_bits c d ≡ 0 = omega arith in none)

  pub needed : length run.drawn.fresh ≡ bytes_for (eval_bits c d)
  needed = omega (arith, run.drawn.needed, total)

  pub tells_call : told' ≡ told_more told (eval_call c d bs (low run.drawn.fresh) ∷ [])
  tells_call =
      run.tells
      ∙ ap (λ (k : ℕ). told_more told (reports c k (concat (inputs_of (suc d) [] (words_of bs) [] run.coins))
      (coins_behind c (suc d) (length (words_of bs)) run.coins) (concat outputs) 1)) one
      ∙ ap (told_more told)
      (reported_call c d bs run.coins _ _ outputs inputs behind (run.on_bits 0 (lit< tt))
      ∙ ap (λ (r : List Bool). eval_call c d bs r ∷ []) next
      ∙ ap (λ (t : Told). t ∷ []) (call-take c d bs (low run.drawn.fresh) count))

  -- and its outputs stand for the plain ones
  pub outputs_stand : map first_bit outputs ≡ plain c bs
  outputs_stand = run.unmasked_are 0 (lit< tt) ∙ ap (plain c) (ap (map first_bit) inputs ∙ shared_first_bits d bs run.coins)
