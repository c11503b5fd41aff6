-- Steps that are evaluated side by side, each in a lane of its own.
use Rattle.std.specs.Prelude.{◌≡◌, ℕ, pred, ◌+◌, ◌-◌, ◌*◌, ◌<◌, ◌≤◌, Bool, List, [], ◌++◌, map, length, take, drop}
use Rattle.std.specs.List.{concat}
use Rattle.mask_bits.specs.Lanes.{lane}
use Rattle.mask_bits.specs.Reading.{low}
use Rattle.mask_circuit.specs.Netlist.{Netlist}
use Rattle.mask_circuit.specs.Ring.{bits, words}
use Rattle.mask_circuit.specs.Wires.{each, on_first}
use Rattle.mask_circuit.specs.Expansion.{draws, outs}
use Rattle.mask_circuit.specs.Sharing.{all_listed, all_shared}
use Rattle.mask_tape.specs.Tape.{IsDrawn}
use Rattle.mask_eval.specs.Watching.{reports, told_more}
use Rattle.mask_trace.specs.Steps.{InputBit, Public, Plain, Key, State, Nothing, Registers, Step, plain_bits, kept, sharing_bits}
use Rattle.mask_trace.specs.Traces.{BitShares, input_shares, output_shares}
use Rattle.mask_trace.specs.Drawing.{Stand, Ran}

-- The step of lane l is `step l`, and the lanes below the number of lanes are used. The steps have one circuit, and m coins
-- share the message bits of each. Their coins were drawn, those of all lanes at once: the words `coins` have in each lane
-- those of its own step. In each lane the inputs have the shares of the inputs of the step; the outputs are those of the circuit
-- on these shares and on the coins behind the first m; and the watch was told this evaluation.
pub record RanInLanes (N m lanes : ℕ) (c : Netlist) (have : Registers BitShares) (step : ℕ → Step) (coins : List ℕ) (inputs outputs : List (List ℕ))
    (a b : Stand) : Type 0 where
  pub few : lanes ≤ 64
  pub circuit : (l : ℕ) → l < lanes → (step l).circuit ≡ c
  pub sharing : (l : ℕ) → l < lanes → sharing_bits N (step l) ≡ m
  pub small : length a.kept < 8
  pub drawn : IsDrawn a.kept b.kept a.left b.left lanes (m + draws c N) coins
  pub inputs_are : (l : ℕ) → l < lanes → map (lane l) inputs ≡ input_shares N have (step l).inputs (lane l coins)
  pub outputs_are : (l : ℕ) → l < 64 → map (lane l) outputs
      ≡ outs bits c N (all_listed bits (map (lane l) inputs)) (lane l (take (draws c N) (drop m coins)))
  pub tells : b.told ≡ told_more a.told (reports c (N - 1) (concat inputs) (take (draws c N) (drop m coins)) (concat outputs) lanes)

-- Steps that keep nothing may be evaluated side by side: they were evaluated, and the outputs are theirs lane by lane.
abbrev pub LanesAreSteps : Type 0
LanesAreSteps = (N m lanes : ℕ) (c : Netlist) (have : Registers BitShares) (step : ℕ → Step) (coins : List ℕ) (inputs outputs : List (List ℕ)) (a b : Stand) →
    (ran : RanInLanes N m lanes c have step coins inputs outputs a b) → ((l : ℕ) → l < lanes → (step l).keeps ≡ Nothing) →
    Ran N have (each step lanes) have a b
    × ((l : ℕ) → l < lanes → map (lane l) outputs ≡ output_shares N have (step l) (drop (l * (m + draws c N)) (a.kept ++ low ran.drawn.fresh)))

-- A single step takes lane 0 alone, whatever it keeps.
abbrev pub LaneIsStep : Type 0
LaneIsStep = (N m : ℕ) (c : Netlist) (have : Registers BitShares) (step : ℕ → Step) (coins : List ℕ) (inputs outputs : List (List ℕ)) (a b : Stand) →
    RanInLanes N m 1 c have step coins inputs outputs a b → Ran N have (each step 1) (kept (step 0).keeps (map (lane 0) outputs) have) a b

-- The shares of inputs part by part: of two lists of inputs, of a whole key or state, and of public bits and message bits.
pub record InputsStandInParts : Type 0 where
  pub both : (N : ℕ) (have : Registers BitShares) (is js : List InputBit) (r : List Bool) →
      input_shares N have (is ++ js) r ≡ input_shares N have is r ++ input_shares N have js (drop (pred N * length (plain_bits is)) r)
  pub bits_of_both : (is js : List InputBit) → plain_bits (is ++ js) ≡ plain_bits is ++ plain_bits js
  pub key : (N : ℕ) (have : Registers BitShares) (r : List Bool) → input_shares N have (each Key (length have.key)) r ≡ have.key
  pub bits_of_key : (n : ℕ) → plain_bits (each Key n) ≡ []
  pub state : (N : ℕ) (have : Registers BitShares) (r : List Bool) → input_shares N have (each State (length have.state)) r ≡ have.state
  pub bits_of_state : (n : ℕ) → plain_bits (each State n) ≡ []
  pub publics : (N : ℕ) (have : Registers BitShares) (bs r : List Bool) → input_shares N have (map Public bs) r ≡ map (λ b. each (on_first bits b) N) bs
  pub bits_of_publics : (bs : List Bool) → plain_bits (map Public bs) ≡ []
  pub plains : (N : ℕ) (have : Registers BitShares) (bs r : List Bool) → input_shares N have (map Plain bs) r ≡ all_shared bits (pred N) bs r
  pub bits_of_plains : (bs : List Bool) → plain_bits (map Plain bs) ≡ bs

-- Words of a key that has the same shares in each lane, words of public bits, and words of message bits that are shared with
-- the next coins: in each lane they have the shares of the inputs that stand so.
abbrev pub WordsAreInputs : Type 0
WordsAreInputs = (l N : ℕ) (have : Registers BitShares) (key : List (List ℕ)) (publics messages coins : List ℕ) → map (lane l) key ≡ have.key →
    map (lane l) (key ++ (map (λ w. each (on_first words w) N) publics ++ all_shared words (pred N) messages coins))
    ≡ input_shares N have (each Key (length have.key) ++ (map Public (lane l publics) ++ map Plain (lane l messages))) (lane l coins)
