use Rattle.std.proofs.Common.{arith, ◌≡◌, inl, inr, subst, ℕ}
use Rattle.mask_words.proofs.Trying.{Tried, Tried-none, Tried-more, IsRefused-tried}
use Rattle.mask_words.proofs.JobWords.{HasOrder-job_of, HasCount-job_of, HasWords-job_of}
use Rattle.mask_words.proofs.table.read_words.Goals as goal
use Rattle.mask_words.proofs.table.read_words.Goals.{then-passed-farthest, else-passed-farthest}

pub loop-form-init : goal.loop-form-init
loop-form-init c = Tried-none _

pub loop-form-preserved : goal.loop-form-preserved
loop-form-preserved c =
    Tried-more _ _ c.loop-form.farthest c.reach-passed.result _ c.loop-form.invariant (rw c.tests.ensures at (rw c.tail.ensures at c.reach-passed.ensures.count)) (omega arith) (λ m. absurd (cc (c.is_whole.ensures.1 m)))
    (elim c.if-passed-farthest.branch [ then-passed-farthest w ↦ inr (omega arith, omega arith) | else-passed-farthest w ↦ inl (omega arith, omega arith) ])

pub returns-clause-refused : goal.returns-clause-refused
returns-clause-refused c =
    let all : c.loop-form.form-index ≡ 13 = omega arith in
    IsRefused-tried _ _ (subst (λ (n : ℕ). Tried c.args.words.now n c.loop-form.farthest) all c.loop-form.invariant)

pub returns-then-is_whole-clause-order : goal.returns-then-is_whole-clause-order
returns-then-is_whole-clause-order c = rw c.job_of.ensures (HasOrder-job_of _ _ (c.is_whole.ensures.0 c.if-is_whole.true))

pub returns-then-is_whole-clause-count : goal.returns-then-is_whole-clause-count
returns-then-is_whole-clause-count c = rw c.job_of.ensures (HasCount-job_of _ _ (c.is_whole.ensures.0 c.if-is_whole.true))

pub returns-then-is_whole-clause-words : goal.returns-then-is_whole-clause-words
returns-then-is_whole-clause-words c = rw c.job_of.ensures (HasWords-job_of _ _ (c.is_whole.ensures.0 c.if-is_whole.true))
