-- A run that breaks off behind any of its steps is private.
use Rattle.std.proofs.Common.{ℕ, ◌*◌, List, take, subst}
use Rattle.mask_tasks.specs.Tasks.{key_bytes}
use Rattle.mask_trace.specs.Steps.{IsStrongPlan}
use Rattle.mask_trace.proofs.Beginnings.{IsStrongPlan-take}
use Rattle.mask_trace.proofs.Showing.{plans_are_runs, plans_are_private}
use Rattle.mask_modes.specs.Steps.{blocks}
use Rattle.mask_modes.proofs.Blocks.{blocks_are_long}
use Rattle.mask_modes.proofs.Plans.{steps_are_strong}
use Rattle.mask_streams.proofs.Plans.{plans_are_strong as stream_plans}
use Rattle.mask_ciphers.specs.Methods.{Method, InCounterMode, AsStream, AsCode, key_width}
use Rattle.mask_ciphers.specs.Methods as methods
use Rattle.mask_ciphers.specs.Tasks.{method_of, plan}
use Rattle.mask_ciphers.specs.Laws.{IsSound, PlansAreStrong, RunsArePrivate}
use Rattle.mask_ciphers.proofs.Enciphering.{tasks_encipher}
use Rattle.mask_ciphers.proofs.KeyBits.{key_in_bytes}

plan_by_method : (method : Method) (message : List ℕ) → IsSound method → IsStrongPlan (key_width method) 0 (methods.plan method message)
plan_by_method (InCounterMode m cipher) message is =
    steps_are_strong.strong m cipher 0 (blocks m.block message) is (blocks_are_long m.block message)
plan_by_method (AsStream iv) message is = stream_plans.strong iv message is
plan_by_method (AsCode code) message is = is.strong.strong message

pub plans_are_strong : PlansAreStrong
plans_are_strong task is message =
    subst (λ (k : ℕ). IsStrongPlan k 0 (plan task message)) (key_in_bytes task) (plan_by_method (method_of task) message (tasks_encipher task is))

pub runs_are_private : RunsArePrivate
runs_are_private N task is message count two =
    let strong = IsStrongPlan-take (8 * key_bytes task) 0 count (plan task message) (plans_are_strong task is message) in
    record {
      run = plans_are_runs N (8 * key_bytes task) (take count (plan task message)) two strong;
      private = plans_are_private N (8 * key_bytes task) (take count (plan task message)) two strong;
    }
