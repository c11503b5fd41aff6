use Rattle.std.proofs.Common.{ap, refl}
use Rattle.mask_status.specs.declared.status.Status.TheVariants.{BadWords}
use Rattle.mask_status.specs.Ends.{is_key_fault, is_read_fault, is_tape_fault, is_write_fault}
use Rattle.mask_run.specs.Promises.{kind_of}
use Rattle.mask_run.proofs.Promises.{on_circuit, has_lines, EndsOn-told, nothing_left, same-idle, steps-bound, answers, complete, raised}
use Rattle.mask_run.proofs.Statuses.{does_late}
use Rattle.mask_run.proofs.command.mask_main.Goals as goal

-- WORDS THAT ARE NO JOB

pub returns-in-Err-clause-refused : goal.returns-in-Err-clause-refused
returns-in-Err-clause-refused g c place is =
    (ap BadWords (c.words_have_one_answer.ensures.place c.args.words.now c.in-Err.field-0.place place c.in-Err.ensures.refused is), refl, refl, refl, refl, refl, refl)

pub returns-in-Err-clause-ends : goal.returns-in-Err-clause-ends
returns-in-Err-clause-ends g c job is = absurd (c.in-Err.ensures.refused.no_job job is)

pub returns-in-Err-clause-told : goal.returns-in-Err-clause-told
returns-in-Err-clause-told g c job text is = absurd (c.in-Err.ensures.refused.no_job job is)

pub returns-in-Err-clause-all_read : goal.returns-in-Err-clause-all_read
returns-in-Err-clause-all_read g c job text is = absurd (c.in-Err.ensures.refused.no_job job is)

pub returns-in-Err-clause-answers : goal.returns-in-Err-clause-answers
returns-in-Err-clause-answers g c job file text due is = absurd (c.in-Err.ensures.refused.no_job job is)

pub returns-in-Err-clause-complete : goal.returns-in-Err-clause-complete
returns-in-Err-clause-complete g c job file text is = absurd (c.in-Err.ensures.refused.no_job job is)

-- WORDS THAT ARE A JOB

pub returns-clause-refused : goal.returns-clause-refused
returns-clause-refused g c place is = absurd (is.no_job _ c.in-Ok.ensures.job)

pub returns-clause-ends : goal.returns-clause-ends
returns-clause-ends g c job is =
    rw (c.words_have_one_answer.ensures.job c.args.words.now c.in-Ok.job job c.in-Ok.ensures.job is) at c.run_job.ensures.ends

pub returns-clause-told : goal.returns-clause-told
returns-clause-told g c job text is reads told =
    let run = returns-clause-ends g c job is in
    EndsOn-told _ text run.bytes (rw told at run.taken) (kind_of job c.args.words.now) run.keys _ (on_circuit job c.args.words.now reads) run.ends

pub returns-clause-all_read : goal.returns-clause-all_read
returns-clause-all_read g c job text is reads told h =
    let run = returns-clause-ends g c job is in
    nothing_left _ text run.bytes (rw told at run.taken) (kind_of job c.args.words.now) run.keys _ (on_circuit job c.args.words.now reads) h run.ends

pub returns-clause-answers : goal.returns-clause-answers
returns-clause-answers g c job file text due is keys_told told =
    let words = c.args.words.now in
    let run = returns-clause-ends g c job is in
    let order = rw (c.words_have_one_answer.ensures.job words c.in-Ok.job job c.in-Ok.ensures.job is) at c.in-Ok.ensures.order in
    answers c.key_file_or_fault.ensures _ file run.keys text run.bytes (rw keys_told at run.keys_taken) (rw told at run.taken) _
    c.checks_decide.ensures.one c.checks_decide.ensures.none (kind_of job words) due (has_lines job words order) (does_late job words) run.ends

pub returns-clause-complete : goal.returns-clause-complete
returns-clause-complete g c job file text is keys_told told can no_key no_read no_tape no_write =
    let words = c.args.words.now in
    let run = returns-clause-ends g c job is in
    let order = rw (c.words_have_one_answer.ensures.job words c.in-Ok.job job c.in-Ok.ensures.job is) at c.in-Ok.ensures.order in
    complete c.key_file_or_fault.ensures _ file run.keys text run.bytes (rw keys_told at run.keys_taken) (rw told at run.taken) _
    (λ e. no_key (raised _ _ _ c.run_job.ensures.key_faults (ap is_key_fault e)))
    (λ e. no_read (raised _ _ _ c.run_job.ensures.input_faults (ap is_read_fault e)))
    (λ e. no_tape (raised _ _ _ c.run_job.ensures.tape_faults (ap is_tape_fault e)))
    (λ e. no_write (raised _ _ _ c.run_job.ensures.out_faults (ap is_write_fault e)))
    c.checks_decide.ensures.none (kind_of job words) (has_lines job words order) (does_late job words) can run.ends

pub returns-clause-idle : goal.returns-clause-idle
returns-clause-idle g c job text d is told is_text none =
    let run = returns-clause-ends g c job is in
    same-idle _ text run.bytes (rw told at run.taken) c.checks_decide.ensures.text d is_text (kind_of job c.args.words.now) _ run.asks none

pub returns-clause-cost : goal.returns-clause-cost
returns-clause-cost g c job text d is reads told is_text =
    let run = returns-clause-ends g c job is in
    steps-bound _ text run.bytes (rw told at run.taken) c.checks_decide.ensures.text d is_text (kind_of job c.args.words.now) (on_circuit job c.args.words.now reads) run.costs

pub returns-clause-front : goal.returns-clause-front
returns-clause-front g c job is =
    rw (c.words_have_one_answer.ensures.job c.args.words.now c.in-Ok.job job c.in-Ok.ensures.job is) at c.run_job.ensures.front

pub returns-clause-keys : goal.returns-clause-keys
returns-clause-keys g c job is =
    rw (c.words_have_one_answer.ensures.job c.args.words.now c.in-Ok.job job c.in-Ok.ensures.job is) at c.run_job.ensures.keys

pub returns-clause-unread : goal.returns-clause-unread
returns-clause-unread g c job is =
    rw (c.words_have_one_answer.ensures.job c.args.words.now c.in-Ok.job job c.in-Ok.ensures.job is) at c.run_job.ensures.unread

pub returns-clause-undrawn : goal.returns-clause-undrawn
returns-clause-undrawn g c job is =
    rw (c.words_have_one_answer.ensures.job c.args.words.now c.in-Ok.job job c.in-Ok.ensures.job is) at c.run_job.ensures.undrawn

pub returns-clause-unwatched : goal.returns-clause-unwatched
returns-clause-unwatched g c job is =
    rw (c.words_have_one_answer.ensures.job c.args.words.now c.in-Ok.job job c.in-Ok.ensures.job is) at c.run_job.ensures.unwatched

pub returns-clause-untold : goal.returns-clause-untold
returns-clause-untold g c job is =
    rw (c.words_have_one_answer.ensures.job c.args.words.now c.in-Ok.job job c.in-Ok.ensures.job is) at c.run_job.ensures.untold

pub returns-clause-unwritten : goal.returns-clause-unwritten
returns-clause-unwritten g c job is =
    rw (c.words_have_one_answer.ensures.job c.args.words.now c.in-Ok.job job c.in-Ok.ensures.job is) at c.run_job.ensures.unwritten
