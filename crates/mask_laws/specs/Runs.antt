-- A whole run: calls in order, of which each takes public bits, variables and outputs of earlier calls, and what an
-- observer sees of the wires of all calls together.
use Rattle.std.specs.Prelude.{◌≡◌, ℕ, suc, ◌-◌, ◌<◌, ◌≤◌, Bool, true, false, cond, not, ◌&&◌, ◌||◌, ◌==◌, nat_lt, List, [], ◌∷◌, ◌++◌, map, length, take, drop, All, sum_by, slice_index, slice_index_or}
use Rattle.std.specs.List.{filter, flat_map, list_any}
use Rattle.mask_circuit.specs.Netlist.{Netlist, IsWellFormed}
use Rattle.mask_circuit.specs.Value.{xor}
use Rattle.mask_circuit.specs.Ring.{bits}
use Rattle.mask_circuit.specs.Wires.{Shares, each, on_first}
use Rattle.mask_circuit.specs.Expansion.{shares_of, expand, draws, wire_count, wires}
use Rattle.mask_circuit.specs.Probing.{same_bits, sum_over_tapes, ShareSets, size}
use Rattle.mask_circuit.specs.Privacy.{sum_over_sharings}
use Rattle.mask_circuit.specs.Need.{ShareSet, need}
use Rattle.mask_circuit.specs.Acceptance.{IsStrong, output_at}

-- CALLS

-- Where the shares of an input come from: a public bit, a variable, or an output of an earlier call, by the number of
-- the call and the place of the output.
pub data Origin : Type 0 where
  Public : Bool → Origin
  Variable : ℕ → Origin
  Output : ℕ → ℕ → Origin

-- A circuit, and the origin of each of its inputs.
pub record Call : Type 0 where
  pub circuit : Netlist
  pub origins : List Origin

-- the origin of input v
abbrev pub origin_at : Call → ℕ → Origin
origin_at call v = slice_index_or call.origins v (Public false)

-- The shares of the outputs of all calls so far, by call and place.
abbrev pub Outputs : Type 0
Outputs = ℕ → ℕ → Shares Bool

-- before any call there are none
abbrev pub no_outputs : Outputs
no_outputs j k i = false

-- the shares of an origin, where x has the variables: a public bit stands on share 0
abbrev pub origin_shares : (ℕ → Shares Bool) → Outputs → Origin → Shares Bool
origin_shares x outputs (Public b) = on_first bits b
origin_shares x outputs (Variable v) = x v
origin_shares x outputs (Output j k) = outputs j k

-- the shares of the inputs of a call
abbrev pub call_inputs : (ℕ → Shares Bool) → Outputs → Call → ℕ → Shares Bool
call_inputs x outputs call v = origin_shares x outputs (origin_at call v)

-- how many fresh bits a call draws, and how many wires it has
abbrev pub call_draws : ℕ → Call → ℕ
call_draws N call = draws call.circuit N

abbrev pub call_wires : ℕ → Call → ℕ
call_wires N call = wire_count call.circuit N

-- RUNS

-- A call as it is evaluated: its circuit, the shares of its inputs, and its fresh bits.
pub record Evaluation : Type 0 where
  pub circuit : Netlist
  pub inputs : ℕ → Shares Bool
  pub tape : List Bool

abbrev pub evaluation : Call → (ℕ → Shares Bool) → List Bool → Evaluation
evaluation call s r = record { circuit = call.circuit; inputs = s; tape = r }

-- the wires of an evaluation
abbrev pub evaluation_wires : ℕ → Evaluation → List Bool
evaluation_wires N e = wires bits e.circuit N e.inputs e.tape

-- the outputs of all calls so far, with those of call number j
abbrev pub with_outputs : ℕ → ℕ → Evaluation → Outputs → Outputs
with_outputs N j e outputs i k = cond (i == j) (shares_of (expand bits e.circuit N e.inputs e.tape) (output_at e.circuit k)) (outputs i k)

-- these calls evaluated, each with its part of the tape r; the first is number j
abbrev pub evaluations_from : List Call → ℕ → ℕ → (ℕ → Shares Bool) → Outputs → List Bool → List Evaluation
evaluations_from [] N j x outputs r = []
evaluations_from (call ∷ calls) N j x outputs r =
    let own = evaluation call (call_inputs x outputs call) (take (call_draws N call) r) in
    own ∷ evaluations_from calls N (suc j) x (with_outputs N j own outputs) (drop (call_draws N call) r)

-- the evaluations of a run on the variables x and the tape r
abbrev pub run_evaluations : List Call → ℕ → (ℕ → Shares Bool) → List Bool → List Evaluation
run_evaluations calls N x r = evaluations_from calls N 0 x no_outputs r

-- the wires of a run, call by call
abbrev pub run_wires : List Call → ℕ → (ℕ → Shares Bool) → List Bool → List Bool
run_wires calls N x r = flat_map (evaluation_wires N) (run_evaluations calls N x r)

-- how many fresh bits a run draws
abbrev pub run_draws : List Call → ℕ → ℕ
run_draws calls N = sum_by (call_draws N) calls

-- the bits on the wires of these numbers; a number may be repeated, and one past the wires shows 0
abbrev pub run_seen : List Call → ℕ → (ℕ → Shares Bool) → List Bool → List ℕ → List Bool
run_seen calls N x r P = map (λ p. slice_index_or (run_wires calls N x r) p false) P

-- how many tapes show just the bits v on the wires P
abbrev pub run_hits : List Call → ℕ → (ℕ → Shares Bool) → List ℕ → List Bool → ℕ
run_hits calls N x P v = sum_over_tapes (run_draws calls N) (λ r. cond (same_bits (run_seen calls N x r P) v) 1 0)

-- What the wires P show has, over all tapes, the same distribution for variables that agree on the shares in I.
abbrev pub IsRunSimulated : List Call → ℕ → List ℕ → ShareSets → Type 0
IsRunSimulated calls N P I = (x y : ℕ → Shares Bool) →
    ((v i : ℕ) → i < N → I v i ≡ true → x v i ≡ y v i) → (v : List Bool) → run_hits calls N x P v ≡ run_hits calls N y P v

-- how many sharings of the bits x of the variables, each with all tapes, show just the bits v on the wires P
abbrev pub private_run_hits : List Call → ℕ → List Bool → List ℕ → List Bool → ℕ
private_run_hits calls N x P v = sum_over_sharings N x (λ shares. run_hits calls N shares P v)

-- Privacy of a run: what any t of its wires show, t at most N - 1, has over all sharings and tapes the same distribution
-- for any two lists of bits of the variables. Public bits are part of the calls.
abbrev pub IsPrivateRun : List Call → ℕ → Type 0
IsPrivateRun calls N = (P : List ℕ) → length P < N → (x y : List Bool) → length x ≡ length y →
    (v : List Bool) → private_run_hits calls N x P v ≡ private_run_hits calls N y P v

-- STRONG RUNS

abbrev pub IsPublic : Origin → Type 0
IsPublic (Public b) = Unit {0}
IsPublic (Variable v) = ⊥
IsPublic (Output j k) = ⊥

-- an origin stands before a call, where the earlier calls have so many outputs
abbrev pub IsThere : List ℕ → Origin → Type 0
IsThere counts (Public b) = Unit {0}
IsThere counts (Variable v) = Unit {0}
IsThere counts (Output j k) = (j < length counts) × (k < slice_index counts j)

-- a call of a strong circuit, whose origins stand and of which none is taken twice unless it is public
pub record IsStrongCall (counts : List ℕ) (call : Call) : Type 0 where
  pub formed : IsWellFormed call.circuit
  pub strong : IsStrong call.circuit
  pub origins : length call.origins ≡ call.circuit.inputs
  pub there : All (IsThere counts) call.origins
  pub once : (u v : ℕ) → u < v → v < length call.origins → origin_at call u ≡ origin_at call v → IsPublic (origin_at call u)

abbrev pub AreStrongCalls : List ℕ → List Call → Type 0
AreStrongCalls counts [] = Unit {0}
AreStrongCalls counts (call ∷ calls) = IsStrongCall counts call × AreStrongCalls (counts ++ length call.circuit.outputs ∷ []) calls

-- a run of strong calls
abbrev pub IsStrongRun : List Call → Type 0
IsStrongRun calls = AreStrongCalls [] calls

-- THE NEED OF A RUN

-- the places on the first n wires
abbrev pub places_within : ℕ → List ℕ → List ℕ
places_within n P = filter (λ p. nat_lt p n) P

-- the places behind them, counted from there
abbrev pub places_behind : ℕ → List ℕ → List ℕ
places_behind n P = map (λ p. p - n) (filter (λ p. not (nat_lt p n)) P)

abbrev pub same_origin : Origin → Origin → Bool
same_origin (Public a) (Public b) = not (xor a b)
same_origin (Variable u) (Variable v) = u == v
same_origin (Output i k) (Output j l) = i == j && k == l
same_origin (Public _) _ = false
same_origin (Variable _) _ = false
same_origin (Output _ _) _ = false

-- the shares that a call demands of an origin, where I has the need of its inputs
abbrev pub demanded_by : Call → ShareSets → Origin → ShareSet
demanded_by call I s i = list_any (λ v. same_origin (origin_at call v) s && I v i) (each (λ v. v) call.circuit.inputs)

-- The shares of each origin that the probes of these calls need, each those on its own wires. What later calls demand of
-- an output adds nothing, since the output is a refresh.
abbrev pub demanded : List Call → ℕ → List ℕ → Origin → ShareSet
demanded [] N P s i = false
demanded (call ∷ calls) N P s i =
    demanded_by call (need call.circuit N (places_within (call_wires N call) P)) s i
    || demanded calls N (places_behind (call_wires N call) P) s i

-- for each variable the shares that are needed
abbrev pub run_need : List Call → ℕ → List ℕ → ShareSets
run_need calls N P v = demanded calls N P (Variable v)

-- In a run of strong calls any t wires, t at most N - 1, need at most t shares of each variable, and these suffice.
abbrev pub RunNeed : Type 0
RunNeed = (calls : List Call) (N : ℕ) (P : List ℕ) → 2 ≤ N → IsStrongRun calls → length P < N →
    ((v : ℕ) → size N (run_need calls N P v) ≤ length P) × IsRunSimulated calls N P (run_need calls N P)

-- The first calls of a strong run are one ..
abbrev pub StrongRunsBegin : Type 0
StrongRunsBegin = (calls : List Call) (k : ℕ) → IsStrongRun calls → IsStrongRun (take k calls)

-- .. and strong calls after it make it a longer one.
abbrev pub StrongRunsGrow : Type 0
StrongRunsGrow = (calls more : List Call) → IsStrongRun calls → AreStrongCalls (map (λ call. length call.circuit.outputs) calls) more →
    IsStrongRun (calls ++ more)
