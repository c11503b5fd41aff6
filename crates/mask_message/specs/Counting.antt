-- How many steps a run counts: the values that are visited where its circuits are checked, and the gates that are evaluated.
use Rattle.std.specs.Prelude.{ℕ, ◌+◌}
use Rattle.mask_tasks.specs.declared.tasks.Task.{Task}
use Rattle.mask_ciphers.specs.Methods.{run_gates, start_steps}
use Rattle.mask_ciphers.specs.Tasks.{method_of}

-- the most steps of a run on so many bytes
abbrev pub most_run_steps : Task → ℕ → ℕ
most_run_steps task n = start_steps (method_of task) + run_gates (method_of task) n
