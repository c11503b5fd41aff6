use Rattle.std.proofs.Common.{◌≡◌, ℕ, ◌*◌, false, List, map, ap, ◌∙◌, arith}
use Rattle.std.specs.Prelude.{slice_index_or}
use Rattle.mask_circuit.specs.Wires.{each}
use Rattle.mask_tasks.specs.Tasks.{key_bytes}
use Rattle.mask_ciphers.specs.Tasks.{key_bits, key_shares}
use Rattle.mask_plan.proofs.keys.shares_of_key.Goals as goal

pub returns-clause-shares : goal.returns-clause-shares
unfolding key_shares
returns-clause-shares g c =
    let all : c.loop-j.j ≡ 8 * key_bytes c.args.task.now = omega arith in
    c.loop-j.invariant.done
    ∙ ap (each (λ (j : ℕ). map (λ (line : List ℕ). slice_index_or (key_bits c.args.task.now line) j false) c.args.key.now)) all
