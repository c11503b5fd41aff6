-- The tape of a plan has the coins of the message and those of the gates woven together: a sum over its tapes is one over
-- both, each for itself.
use Rattle.std.proofs.Common.{◌≡◌, ℕ, zero, suc, pred, ◌+◌, ◌*◌, ◌≤◌, Bool, true, false, List, [], ◌∷◌, ◌++◌, length, take, drop, sum_by, refl, ap, ap₂, sym, ◌∙◌, arith, length-append, length-drop}
use Rattle.std.proofs.lemmas.List.{drop-drop}
use Rattle.std.proofs.lemmas.List.Sums.{sum_by-cons}
use Rattle.std.proofs.Math.Nat.{mul-add}
use Rattle.mask_circuit.specs.Expansion.{draws}
use Rattle.mask_circuit.specs.Probing.{sum_over_tapes}
use Rattle.mask_laws.specs.Runs.{Origin, Call, run_draws, call_draws}
use Rattle.mask_laws.proofs.Shifts.{take_front, drop_front}
use Rattle.mask_laws.proofs.Tapes.{sum_over_tapes-same, sum_over_tapes-add}
use Rattle.mask_trace.specs.Steps.{Registers, Step, plain_bits, kept, sharing_bits, stretch, bits_of}
use Rattle.mask_trace.specs.Traces.{gate_tape}
use Rattle.mask_trace.specs.Calls.{origins, outputs_of, calls_from, message_bits, message_coins, gate_coins}
use Rattle.mask_trace.proofs.Traces.{bits_of-cons}
use Rattle.mask_trace.proofs.RunWires.{length-gate_tape}

-- SUMS OVER TAPES

sum_over_tapes-plus : (n : ℕ) (f g : List Bool → ℕ) → sum_over_tapes n (λ r. f r + g r) ≡ sum_over_tapes n f + sum_over_tapes n g
sum_over_tapes-plus zero f g = refl
sum_over_tapes-plus (suc n) f g =
    let left = sum_over_tapes-plus n (λ r. f (false ∷ r)) (λ r. g (false ∷ r)) in
    let right = sum_over_tapes-plus n (λ r. f (true ∷ r)) (λ r. g (true ∷ r)) in
    omega arith

-- two sums change places
sum_over_tapes-swap : (m n : ℕ) (f : List Bool → List Bool → ℕ) →
    sum_over_tapes m (λ a. sum_over_tapes n (λ b. f a b)) ≡ sum_over_tapes n (λ b. sum_over_tapes m (λ a. f a b))
sum_over_tapes-swap zero n f = refl
sum_over_tapes-swap (suc m) n f =
    ap₂ (λ (x y : ℕ). x + y) (sum_over_tapes-swap m n (λ a. f (false ∷ a))) (sum_over_tapes-swap m n (λ a. f (true ∷ a)))
    ∙ sym (sum_over_tapes-plus n _ _)

-- HOW MANY COINS

-- the coins of all gates
abbrev pub gate_count : ℕ → List Step → ℕ
gate_count N ss = sum_by (λ s. draws s.circuit N) ss

pub run_draws-plan : (N : ℕ) (ss : List Step) (have : Registers Origin) (v j : ℕ) → run_draws (calls_from have v j ss) N ≡ gate_count N ss
unfolding calls_from
run_draws-plan N [] have v j = refl
run_draws-plan N (s ∷ ss) have v j =
    let call : Call = record { circuit = s.circuit; origins = origins have v s.inputs } in
    let behind = kept s.keeps (outputs_of j s.circuit) have in
    let later = v + length (plain_bits s.inputs) in
    sum_by-cons (call_draws N) call (calls_from behind later (suc j) ss)
    ∙ ap (λ (n : ℕ). draws s.circuit N + n) (run_draws-plan N ss behind later (suc j))
    ∙ sym (sum_by-cons (λ (t : Step). draws t.circuit N) s ss)

pub length-gate_coins : (N : ℕ) (ss : List Step) (r : List Bool) → bits_of N ss ≤ length r → length (gate_coins N ss r) ≡ gate_count N ss
unfolding gate_coins
length-gate_coins N [] r long = refl
length-gate_coins N (s ∷ ss) r long =
    let more = bits_of-cons N s ss in
    let behind = length-drop (stretch N s) r in
    length-append (gate_tape N s r) (gate_coins N ss (drop (stretch N s) r))
    ∙ ap₂ (λ (m n : ℕ). m + n) (length-gate_tape N s r (omega arith)) (length-gate_coins N ss (drop (stretch N s) r) (omega arith))
    ∙ sym (sum_by-cons (λ (t : Step). draws t.circuit N) s ss)

-- WOVEN

-- the coins of one step more, where its own stand first
module _ (N : ℕ) (s : Step) (ss : List Step) (a b r : List Bool) (long_a : length a ≡ sharing_bits N s) (long_b : length b ≡ draws s.circuit N) where
  behind : drop (stretch N s) (a ++ (b ++ r)) ≡ r
  behind =
      sym (drop-drop (draws s.circuit N) (sharing_bits N s) (a ++ (b ++ r)))
      ∙ ap (drop (draws s.circuit N)) (drop_front (sharing_bits N s) a (b ++ r) long_a)
      ∙ drop_front (draws s.circuit N) b r long_b

  message_coins-cons : message_coins N (s ∷ ss) (a ++ (b ++ r)) ≡ a ++ message_coins N ss r
  unfolding message_coins
  message_coins-cons = ap₂ (λ (x y : List Bool). x ++ message_coins N ss y) (take_front (sharing_bits N s) a (b ++ r) long_a) behind

  gate_coins-cons : gate_coins N (s ∷ ss) (a ++ (b ++ r)) ≡ b ++ gate_coins N ss r
  unfolding gate_coins
  gate_coins-cons =
      ap₂ (λ (x y : List Bool). x ++ gate_coins N ss y)
      (ap (take (draws s.circuit N)) (drop_front (sharing_bits N s) a (b ++ r) long_a) ∙ take_front (draws s.circuit N) b r long_b)
      behind

pub sum_over_tapes-woven : (N : ℕ) (ss : List Step) (F : List Bool → List Bool → ℕ) →
    sum_over_tapes (bits_of N ss) (λ r. F (message_coins N ss r) (gate_coins N ss r))
    ≡ sum_over_tapes (pred N * length (message_bits ss)) (λ a. sum_over_tapes (gate_count N ss) (λ b. F a b))
unfolding message_bits message_coins gate_coins
sum_over_tapes-woven N [] F =
    let none : 0 ≡ pred N * 0 = omega arith in ap (λ (n : ℕ). sum_over_tapes n (λ a. F a [])) none
sum_over_tapes-woven N (s ∷ ss) F =
    let S = sharing_bits N s in
    let D = draws s.circuit N in
    let B = bits_of N ss in
    let M = pred N * length (message_bits ss) in
    let G = gate_count N ss in
    let shown : List Bool → ℕ = λ r. F (message_coins N (s ∷ ss) r) (gate_coins N (s ∷ ss) r) in
    let all : bits_of N (s ∷ ss) ≡ S + (D + B) = let more = bits_of-cons N s ss in omega arith in
    let messages : S + M ≡ pred N * length (message_bits (s ∷ ss)) =
    sym (ap (λ (n : ℕ). pred N * n) (length-append (plain_bits s.inputs) (message_bits ss)) ∙ mul-add (pred N) (length (plain_bits s.inputs)) (length (message_bits ss))) in
    let gates : D + G ≡ gate_count N (s ∷ ss) = sym (sum_by-cons (λ (t : Step). draws t.circuit N) s ss) in
    let parts : (a : List Bool) → length a ≡ S → sum_over_tapes (D + B) (λ r. shown (a ++ r)) ≡ sum_over_tapes M (λ c. sum_over_tapes (D + G) (λ g. F (a ++ c) g))
    = λ a long_a.
    sum_over_tapes-add D B (λ r. shown (a ++ r))
    ∙ sum_over_tapes-same D _ _ (λ b long_b.
    sum_over_tapes-same B _ _ (λ r _. ap₂ F (message_coins-cons N s ss a b r long_a long_b) (gate_coins-cons N s ss a b r long_a long_b))
    ∙ sum_over_tapes-woven N ss (λ c g. F (a ++ c) (b ++ g)))
    ∙ sum_over_tapes-swap D M (λ b c. sum_over_tapes G (λ g. F (a ++ c) (b ++ g)))
    ∙ sum_over_tapes-same M _ _ (λ c _. sym (sum_over_tapes-add D G (λ g. F (a ++ c) g))) in
    ap (λ (n : ℕ). sum_over_tapes n shown) all
    ∙ sum_over_tapes-add S (D + B) shown
    ∙ sum_over_tapes-same S _ _ parts
    ∙ sym (sum_over_tapes-add S M (λ c. sum_over_tapes (D + G) (λ g. F c g)))
    ∙ ap₂ (λ (m n : ℕ). sum_over_tapes m (λ c. sum_over_tapes n (λ g. F c g))) messages gates
