-- A run in counter mode between batches, and what a batch does.
use Rattle.std.specs.Prelude.{◌≡◌, ℕ, ◌+◌, ◌*◌, ◌^◌, ◌<◌, ◌≤◌, Bool, List, [], ◌++◌, length, map, take, drop}
use Rattle.mask_bits.specs.Lanes.{lane}
use Rattle.mask_bits.specs.Reading.{low}
use Rattle.mask_circuit.specs.Netlist.{Netlist}
use Rattle.mask_circuit.specs.Expansion.{draws}
use Rattle.mask_tape.specs.Tape.{new_bytes}
use Rattle.mask_eval.specs.Frames.{Held, IsFrameOf}
use Rattle.mask_trace.specs.Steps.{Registers, Step, bits_of}
use Rattle.mask_trace.specs.Lanes.{RanInLanes}
use Rattle.mask_trace.specs.Traces.{BitShares, output_shares}
use Rattle.mask_trace.specs.Drawing.{Stand, Ran, RanPart}
use Rattle.mask_modes.specs.CounterMode.{block_count}
use Rattle.mask_modes.specs.Steps.{Mode, ahead_of, block_at, blocks, block_step, block_steps, steps_from}
use Rattle.mask_counter.specs.Blocks.{IsBlockLength, reading}
use Rattle.mask_counter.specs.declared.words.BitOrder.{BitOrder}

-- how the cipher's circuit is used, the shares of the bits of the key, how many blocks were encrypted, and the words of the
-- latest ones
pub record Between : Type 0 where
  pub circuit : Netlist
  pub refresh : Netlist
  pub key : ℕ
  pub block : ℕ
  pub order : BitOrder
  pub iv : ℕ
  pub shares : List BitShares
  pub done : ℕ
  pub outputs : List (List ℕ)

-- its mode, and what the run has in shares
abbrev pub mode : Between → Mode
mode run = record { circuit = run.circuit; refresh = run.refresh; key = run.key; block = run.block; reading = reading run.order; iv = run.iv }

abbrev pub have : Between → Registers BitShares
have run = record { key = run.shares; state = [] }

-- The circuits take what they are given: the key, a counter and a block, or the key alone. The key has the same shares in
-- each lane.
pub record IsInForm (N : ℕ) (circuit refresh : Netlist) (key block iv : ℕ) (inputs : List (List ℕ)) (counters blocks : List ℕ)
    (frame refresh_frame : Held) : Type 0 where
  pub some : 2 ≤ N
  pub few : N ≤ 8
  pub is_block : IsBlockLength block
  pub iv_fits : iv < 2 ^ (8 * block)
  pub takes : circuit.inputs ≡ key + (8 * block + 8 * block)
  pub gives : length circuit.outputs ≡ 8 * block
  pub refresh_takes : refresh.inputs ≡ key
  pub refresh_gives : length refresh.outputs ≡ key
  pub many_inputs : length inputs ≡ key + 8 * block
  pub many_counters : length counters ≡ 8 * block
  pub many_blocks : length blocks ≡ 8 * block
  pub fits : IsFrameOf frame circuit
  pub refresh_fits : IsFrameOf refresh_frame refresh
  pub same : (l : ℕ) → l < 64 → map (lane l) (take key inputs) ≡ map (lane 0) (take key inputs)

-- The steps of these blocks were evaluated side by side, each in a lane of its own: in each lane the outputs are those of the
-- lane's step, on the shares of the key, with the lane's own part of the tape.
pub record Encrypted (N : ℕ) (m : Mode) (held : Registers BitShares) (i : ℕ) (part : List ℕ) (outputs : List (List ℕ)) (a b : Stand) : Type 0 where
  pub ran : Ran N held (block_steps m i part) held a b
  pub sharing : ℕ
  pub coins : List ℕ
  pub inputs : List (List ℕ)
  pub lanes : RanInLanes N sharing (block_count m.block (length part)) m.circuit held (λ l. block_step m (i + l) (block_at m.block part l)) coins inputs outputs a b
  pub made : (l : ℕ) → l < block_count m.block (length part) → map (lane l) outputs
      ≡ output_shares N held (block_step m (i + l) (block_at m.block part l)) (drop (l * (sharing + draws m.circuit N)) (a.kept ++ low lanes.drawn.fresh))

-- the steps of a batch that begins with the next block
abbrev pub batch_steps : Between → List ℕ → List Step
batch_steps run part = steps_from (mode run) run.done (blocks run.block part)

-- All steps of the batch were evaluated, and what is in shares is what they leave. In each lane the outputs are those of the
-- lane's block, on the shares of the key that are in use by then, whatever tape it had.
pub record BatchRan (N : ℕ) (run run' : Between) (part : List ℕ) (a b : Stand) : Type 0 where
  pub ran : Ran N (have run) (batch_steps run part) (have run') a b
  pub tapes : ℕ → List Bool
  pub made : (l : ℕ) → l < block_count run.block (length part) →
      map (lane l) run'.outputs ≡ output_shares N (have run') (block_step (mode run) (run.done + l) (block_at run.block part l)) (tapes l)

-- The tape failed behind the first steps of the batch, none or the refresh, whose gates alone were counted. It wants just the
-- new bytes that the next steps need, at least one.
pub record BatchStopped (N : ℕ) (run : Between) (part : List ℕ) (wanted counted counted' : ℕ) (a b : Stand) : Type 0 where
  pub count : ℕ
  pub ran : RanPart N (have run) (batch_steps run part) count a b
  pub few : count ≤ length (ahead_of (mode run) run.done)
  pub steps : counted' ≡ counted + count * length run.refresh.gates
  pub next : List Step
  pub later : List Step
  pub follow : drop count (batch_steps run part) ≡ next ++ later
  pub wants : wanted ≡ new_bytes b.kept (bits_of N next)
  pub some : 1 ≤ wanted
