-- A run on what is made of a seed.
use Rattle.std.proofs.Common.{◌≡◌, ℕ, suc, ◌+◌, ◌*◌, ◌-◌, ◌/◌, ◌≤◌, false, List, length, refl, ap, ap₂, sym, ◌∙◌, subst, arith, add-one}
use Rattle.mask_bits.specs.Reading.{big_endian}
use Rattle.mask_tasks.specs.declared.sizes.LeaSize.TheVariants.{K128}
use Rattle.mask_tasks.specs.declared.tasks.Task.{Task}
use Rattle.mask_tasks.specs.declared.tasks.Task.TheVariants.{Lea}
use Rattle.mask_keys.specs.Lines.{joined, lines_of}
use Rattle.mask_ciphers.specs.Tasks.{lea_mode, output, plan}
use Rattle.mask_ciphers.specs.Totals.{counter_bits, total}
use Rattle.mask_status.specs.declared.status.Status.{Status}
use Rattle.mask_status.specs.declared.status.Status.TheVariants.{Done, Refused, BadWords, BadText, BadKeys, KeyFault, TooLong, ReadFault, TapeFault, WriteFault, BadProbe, NoMemory}
use Rattle.mask_status.specs.Ends.{Writes, is_write_fault}
use Rattle.mask_message.specs.Outside.{Outside}
use Rattle.mask_message.specs.Counting.{most_run_steps}
use Rattle.mask_self.specs.Generator.{number_at, bytes_from}
use Rattle.mask_self.specs.Reports.{line, sum_of_blocks}
use Rattle.mask_self.specs.Selves.{own_iv, own_lines, own_message, own_task, report, RunsWhole, Stops, RunsItself}
use Rattle.mask_self.proofs.Generating.{number_at-behind, bytes_from-behind, length-bytes_from}
use Rattle.mask_self.proofs.Counting.{length-steps_of}

-- WHAT IS MADE

-- bytes of a generator that stands at a number of the seed
made-from : (seed at place n : ℕ) → at ≡ number_at seed place → bytes_from at 0 n ≡ bytes_from seed place n
made-from seed at place n stands =
    let e : place + 0 ≡ place = omega arith in
    ap (λ (x : ℕ). bytes_from x 0 n) stands ∙ bytes_from-behind seed place 0 n ∙ ap (λ (k : ℕ). bytes_from seed k n) e

-- A generator began at a seed; it stood at `first` behind the lines, and at `second` behind the IV.
pub record MadeOf (seed order first second iv : ℕ) (lines : List (List ℕ)) : Type 0 where
  pub lines_are : lines ≡ lines_of (order + 1) 16 (bytes_from seed 0 (16 * (order + 1)))
  pub many : length lines ≡ order + 1
  pub behind_lines : first ≡ number_at seed (16 * (order + 1))
  pub iv_is : iv ≡ big_endian (bytes_from first 0 16)
  pub behind_iv : second ≡ number_at first 16

pub made_of : (seed start order first second iv : ℕ) (lines : List (List ℕ)) → start ≡ seed → lines ≡ lines_of (order + 1) 16 (bytes_from start 0 (16 * (order + 1))) →
    length lines ≡ order + 1 → first ≡ number_at start (16 * (order + 1)) → iv ≡ big_endian (bytes_from first 0 16) → second ≡ number_at first 16 →
    MadeOf seed order first second iv lines
made_of seed start order first second iv lines begins lines_are many behind_lines iv_is behind_iv =
    subst (λ (s : ℕ). MadeOf s order first second iv lines) begins
    (record { lines_are = lines_are; many = many; behind_lines = behind_lines; iv_is = iv_is; behind_iv = behind_iv })

module _ (seed order first second iv count : ℕ) (lines : List (List ℕ)) (made : MadeOf seed order first second iv lines) where
  task_own : Lea K128 iv ≡ own_task seed (suc order)
  task_own =
      ap (λ (x : ℕ). Lea K128 x) (made.iv_is ∙ ap big_endian (made-from seed first (16 * (order + 1)) 16 made.behind_lines)) ∙ ap (own_task seed) (add-one order)

  message_own : bytes_from second 0 count ≡ own_message seed (suc order) count
  message_own =
      made-from seed second (16 * (order + 1) + 16) count
      (made.behind_iv ∙ ap (λ (x : ℕ). number_at x 16) made.behind_lines ∙ number_at-behind seed (16 * (order + 1)) 16)
      ∙ ap (λ (n : ℕ). own_message seed n count) (add-one order)

  -- what holds of what was made holds of what is made of the seed
  of-seed : (X : Task → ℕ → List (List ℕ) → List ℕ → Type 0) → X (Lea K128 iv) (length lines) lines (bytes_from second 0 count) →
      X (own_task seed (suc order)) (suc order) (own_lines seed (suc order)) (own_message seed (suc order) count)
  of-seed X holds =
      subst (λ (t : Task). X t (suc order) (own_lines seed (suc order)) (own_message seed (suc order) count)) task_own
      (subst (λ (n : ℕ). X (Lea K128 iv) n (own_lines seed (suc order)) (own_message seed (suc order) count)) (made.many ∙ add-one order)
      (subst (λ (ls : List (List ℕ)). X (Lea K128 iv) (length lines) ls (own_message seed (suc order) count)) (made.lines_are ∙ ap (own_lines seed) (add-one order))
      (subst (X (Lea K128 iv) (length lines) lines) message_own holds)))

  pub counted_own : (before now : ℕ) → now ≤ before + most_run_steps (Lea K128 iv) count → now ≤ before + most_run_steps (own_task seed (suc order)) count
  counted_own before now few = subst (λ (t : Task). now ≤ before + most_run_steps t count) task_own few

-- WHAT IS PRINTED

own_calls : (seed N count : ℕ) → (count + 15) / 16 + (((count + 15) / 16 + 63) / 64 - 1) ≡ length (plan (own_task seed N) (own_message seed N count))
own_calls seed N count =
    let long = length-bytes_from seed (16 * N + 16) count in
    sym (length-steps_of (lea_mode K128 (own_iv seed N)) (own_message seed N count) ∙ ap (λ (n : ℕ). (n + 15) / 16 + (((n + 15) / 16 + 63) / 64 - 1)) long)

own_bits : (seed order count : ℕ) → counter_bits 128 10_544 128 order ((count + 15) / 16) ≡ total (own_task seed (suc order)) order count
unfolding total
own_bits seed order count = refl

line_is : (seed order count calls bits : ℕ) (sum : List ℕ) → calls ≡ (count + 15) / 16 + (((count + 15) / 16 + 63) / 64 - 1) →
    bits ≡ counter_bits 128 10_544 128 order ((count + 15) / 16) →
    sum ≡ sum_of_blocks (output (own_task seed (suc order)) (joined (own_lines seed (suc order))) (own_message seed (suc order) count)) →
    line count calls bits sum ≡ report seed (suc order) count
line_is seed order count calls bits sum calls_are bits_are sum_is =
    ap₂ (λ (c b : ℕ). line count c b sum) (calls_are ∙ own_calls seed (suc order) count) (bits_are ∙ own_bits seed order count)
    ∙ ap (line count (length (plan (own_task seed (suc order)) (own_message seed (suc order) count))) (total (own_task seed (suc order)) order count)) sum_is

-- STATUSES

-- the whole run, and what was written of its line
reports : (seed N count : ℕ) (o : Outside) (status : Status) → RunsWhole (own_task seed N) N (own_lines seed N) (own_message seed N count) o →
    Writes (report seed N count) o.out_before o.out_after status → RunsItself seed N count o status
reports seed N count o Done whole written = (whole, written)
reports seed N count o WriteFault whole written = (whole, written)
reports seed N count o (Refused product source) whole written = absurd written
reports seed N count o (BadWords place) whole written = absurd written
reports seed N count o (BadText line reason) whole written = absurd written
reports seed N count o (BadKeys reason) whole written = absurd written
reports seed N count o KeyFault whole written = absurd written
reports seed N count o (TooLong limit) whole written = absurd written
reports seed N count o ReadFault whole written = absurd written
reports seed N count o TapeFault whole written = absurd written
reports seed N count o (BadProbe place) whole written = absurd written
reports seed N count o NoMemory whole written = absurd written

-- a run that stopped ahead of its line
stops : (seed N count : ℕ) (o : Outside) (status : Status) → Stops (own_task seed N) N (own_lines seed N) (own_message seed N count) o status →
    o.out_after ≡ o.out_before → RunsItself seed N count o status
stops seed N count o TapeFault e unwritten = (e, unwritten)
stops seed N count o NoMemory e unwritten = (e, unwritten)
stops seed N count o Done e unwritten = absurd e
stops seed N count o WriteFault e unwritten = absurd e
stops seed N count o (Refused product source) e unwritten = absurd e
stops seed N count o (BadWords place) e unwritten = absurd e
stops seed N count o (BadText line reason) e unwritten = absurd e
stops seed N count o (BadKeys reason) e unwritten = absurd e
stops seed N count o KeyFault e unwritten = absurd e
stops seed N count o (TooLong limit) e unwritten = absurd e
stops seed N count o ReadFault e unwritten = absurd e
stops seed N count o (BadProbe place) e unwritten = absurd e

module _ (task : Task) (N : ℕ) (lines : List (List ℕ)) (message : List ℕ) (o : Outside) where
  -- where the run stopped, what failed isn't the output, and a tape that failed wants some bytes
  pub stops_unwritten : (status : Status) → Stops task N lines message o status → is_write_fault status ≡ false
  stops_unwritten TapeFault e = refl
  stops_unwritten NoMemory e = refl
  stops_unwritten Done e = refl
  stops_unwritten WriteFault e = absurd e
  stops_unwritten (Refused product source) e = refl
  stops_unwritten (BadWords place) e = refl
  stops_unwritten (BadText line reason) e = refl
  stops_unwritten (BadKeys reason) e = refl
  stops_unwritten KeyFault e = refl
  stops_unwritten (TooLong limit) e = refl
  stops_unwritten ReadFault e = refl
  stops_unwritten (BadProbe place) e = refl

  pub stops_want : (status : Status) → Stops task N lines message o status → status ≡ TapeFault → 1 ≤ o.wanted
  stops_want status e is = (subst (Stops task N lines message o) is e).wanted

-- ENDS

module _ (seed order first second iv count : ℕ) (lines : List (List ℕ)) (made : MadeOf seed order first second iv lines) (o : Outside) (status : Status) where
  pub stops_early : Stops (Lea K128 iv) (length lines) lines (bytes_from second 0 count) o status → o.out_after ≡ o.out_before → RunsItself seed (suc order) count o status
  stops_early e unwritten =
      stops seed (suc order) count o status
      (of-seed seed order first second iv count lines made (λ (t : Task) (n : ℕ) (ls : List (List ℕ)) (m : List ℕ). Stops t n ls m o status) e) unwritten

  pub writes_line : (calls bits : ℕ) (sum text : List ℕ) → calls ≡ (count + 15) / 16 + (((count + 15) / 16 + 63) / 64 - 1) →
      bits ≡ counter_bits 128 10_544 128 order ((count + 15) / 16) → sum ≡ sum_of_blocks (output (Lea K128 iv) (joined lines) (bytes_from second 0 count)) →
      text ≡ line count calls bits sum → RunsWhole (Lea K128 iv) (length lines) lines (bytes_from second 0 count) o → Writes text o.out_before o.out_after status →
      RunsItself seed (suc order) count o status
  writes_line calls bits sum text calls_are bits_are sum_is text_is whole written =
      let own = of-seed seed order first second iv count lines made in
      let sum_own = own (λ (t : Task) (n : ℕ) (ls : List (List ℕ)) (m : List ℕ). sum ≡ sum_of_blocks (output t (joined ls) m)) sum_is in
      reports seed (suc order) count o status (own (λ (t : Task) (n : ℕ) (ls : List (List ℕ)) (m : List ℕ). RunsWhole t n ls m o) whole)
      (subst (λ (l : List ℕ). Writes l o.out_before o.out_after status) (text_is ∙ line_is seed order count calls bits sum calls_are bits_are sum_own) written)
