-- What is made of a seed, and how a run on it ends; N is the number of key lines, so d is N - 1.
use Rattle.std.specs.Prelude.{◌≡◌, ℕ, pred, ◌+◌, ◌*◌, ◌≤◌, List, length}
use Rattle.mask_bits.specs.Reading.{big_endian, bytes_for}
use Rattle.mask_tasks.specs.declared.sizes.LeaSize.TheVariants.{K128}
use Rattle.mask_tasks.specs.declared.tasks.Task.{Task}
use Rattle.mask_tasks.specs.declared.tasks.Task.TheVariants.{Lea}
use Rattle.mask_keys.specs.Lines.{joined, lines_of}
use Rattle.mask_ciphers.specs.Tasks.{output, plan}
use Rattle.mask_ciphers.specs.Totals.{total}
use Rattle.mask_status.specs.declared.status.Status.{Status}
use Rattle.mask_status.specs.declared.status.Status.TheVariants.{Done, TapeFault, WriteFault, NoMemory}
use Rattle.mask_status.specs.Ends.{Writes}
use Rattle.mask_message.specs.Outside.{Outside}
use Rattle.mask_message.specs.Encrypting.{RanSteps, RanAll}
use Rattle.mask_self.specs.Generator.{bytes_from}
use Rattle.mask_self.specs.Reports.{line, sum_of_blocks}

-- N key lines of 16 bytes come first, then 16 bytes of an IV, which is a big-endian number, and then the message
abbrev pub own_lines : ℕ → ℕ → List (List ℕ)
own_lines seed N = lines_of N 16 (bytes_from seed 0 (16 * N))

abbrev pub own_iv : ℕ → ℕ → ℕ
own_iv seed N = big_endian (bytes_from seed (16 * N) 16)

abbrev pub own_message : ℕ → ℕ → ℕ → List ℕ
own_message seed N count = bytes_from seed (16 * N + 16) count

-- it is encrypted by LEA with a key of 128 bits
abbrev pub own_task : ℕ → ℕ → Task
own_task seed N = Lea K128 (own_iv seed N)

-- All steps of the run on this message were evaluated, and the tape gave just the stated number of bits.
pub record RunsWhole (task : Task) (N : ℕ) (lines : List (List ℕ)) (message : List ℕ) (o : Outside) : Type 0 where
  pub ran : RanAll task N lines message o
  pub drawn : length ran.part.ran.fresh ≡ bytes_for (total task (pred N) (length message))

-- The tape failed behind the first steps of that run. What it gave and what it wants are no more than the whole run needs.
pub record FailsToDraw (task : Task) (N : ℕ) (lines : List (List ℕ)) (message : List ℕ) (o : Outside) : Type 0 where
  pub count : ℕ
  pub ran : RanSteps task N lines message count o
  pub wanted : 1 ≤ o.wanted
  pub within : length ran.part.ran.fresh + o.wanted ≤ bytes_for (total task (pred N) (length message))

-- There was no memory behind the first steps of that run, none or more of them.
abbrev pub BreaksOff : Task → ℕ → List (List ℕ) → List ℕ → Outside → Type 0
BreaksOff task N lines message o = (count : ℕ) × RanSteps task N lines message count o

-- what a status says with which no line was written
abbrev pub Stops : Task → ℕ → List (List ℕ) → List ℕ → Outside → Status → Type 0
Stops task N lines message o TapeFault = FailsToDraw task N lines message o
Stops task N lines message o NoMemory = BreaksOff task N lines message o
Stops task N lines message o status = ⊥

-- the line: how many bytes, steps and random bits there are, and the XOR of the blocks of the ciphertext
abbrev pub report : ℕ → ℕ → ℕ → List ℕ
report seed N count =
    line count (length (plan (own_task seed N) (own_message seed N count))) (total (own_task seed N) (pred N) count)
    (sum_of_blocks (output (own_task seed N) (joined (own_lines seed N)) (own_message seed N count)))

-- The whole run, and its line was written whole or in part.
abbrev pub Reports : ℕ → ℕ → ℕ → Outside → Status → Type 0
Reports seed N count o status = RunsWhole (own_task seed N) N (own_lines seed N) (own_message seed N count) o
    × Writes (report seed N count) o.out_before o.out_after status

-- What each status says of a run on so many bytes that are made of a seed.
abbrev pub RunsItself : ℕ → ℕ → ℕ → Outside → Status → Type 0
RunsItself seed N count o Done = Reports seed N count o Done
RunsItself seed N count o WriteFault = Reports seed N count o WriteFault
RunsItself seed N count o status = Stops (own_task seed N) N (own_lines seed N) (own_message seed N count) o status × (o.out_after ≡ o.out_before)
