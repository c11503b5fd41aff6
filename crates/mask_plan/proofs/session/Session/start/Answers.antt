use Rattle.std.proofs.Common.{◌≡◌, ℕ, ◌*◌, List, [], map, ap, subst, sym, ◌∙◌, arith}
use Rattle.mask_bits.specs.Lanes.{lane}
use Rattle.mask_tasks.specs.Tasks.{key_bytes}
use Rattle.mask_trace.specs.Traces.{BitShares}
use Rattle.mask_trace.specs.Values.{HasShares}
use Rattle.mask_ciphers.specs.Methods.{key_width}
use Rattle.mask_ciphers.specs.Tasks.{key_shares, method_of, with_lines}
use Rattle.mask_ciphers.proofs.Enciphering.{tasks_encipher}
use Rattle.mask_ciphers.proofs.KeyBits.{key_in_bytes}
use Rattle.mask_plan.specs.Inside.{Begin}
use Rattle.mask_plan.proofs.Taking.{begins, begins_by}
use Rattle.mask_plan.proofs.session.Session.start.Goals as goal

pub invariant_of-result : goal.invariant_of-result
invariant_of-result g c =
    let task = c.args.task.now in
    let method = method_of task in
    let shares : map (lane 0) c.deref.result.now ≡ key_shares task c.args.key.now = ap (map (lane 0)) c.deref.ensures.value ∙ c.in_ok-shares.ensures.shares in
    let begin : Begin method (key_shares task c.args.key.now) c.in_ok-run.run'
    = subst (λ (key : List BitShares). Begin method key c.in_ok-run.run') shares c.in_ok-run.ensures.begins in
    let lines : HasShares g.row.N (key_width method) 0 (with_lines task c.args.key.now)
    = subst (λ (k : ℕ). HasShares g.row.N k 0 (with_lines task c.args.key.now)) (sym (key_in_bytes task))
    (subst (λ (n : ℕ). HasShares n (8 * key_bytes task) 0 (with_lines task c.args.key.now)) c.requires.lines
    (c.lines_share_keys.ensures.has_key task c.args.key.now)) in
    record {
      some = c.requires.some;
      few = c.requires.few;
      within = omega arith;
      by = begins_by method (key_shares task c.args.key.now) c.in_ok-run.run' begin;
      goes_on = λ o e. begins g.row.N method (key_shares task c.args.key.now) c.in_ok-run.run' (tasks_encipher task c.tasks_are_whole.ensures) begin lines;
    }
