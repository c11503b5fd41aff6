use Rattle.std.proofs.Common.{rules, ◌≡◌, ◌*◌, length, inl, refl, arith}
use Rattle.mask_refresh.specs.Refreshing.{refreshing_size}
use Rattle.mask_tasks.specs.Sizes.{present_bytes}
use Rattle.mask_plan.proofs.Sizes.{inputs_are, outputs_are, present_takes, present_gives}
use Rattle.mask_plan.proofs.tasks.present_run.Goals as goal

pub new-requires : goal.new-requires
new-requires g c =
    let bits = 8 * c.bytes.result in
    let long : length c.args.key.now ≡ 8 * present_bytes c.args.size = c.requires.length in
    let is = c.in_ok-circuit.ensures.circuit.sized in
    let fresh = c.in_ok-refresh.ensures.named.sized in
    let n : c.bytes.result ≡ present_bytes c.args.size = c.bytes.ensures in (
      search rules,
      (
        omega arith,
        (
          c.requires.some,
          (
            c.requires.few,
            (
              inl refl,
              (
                omega arith,
                (
                  omega (arith, present_takes c.args.size c.in_ok-circuit.circuit is),
                  (
                    present_gives c.args.size c.in_ok-circuit.circuit is,
                    (
                      omega (arith, inputs_are c.in_ok-refresh.refresh (refreshing_size bits) fresh),
                      omega (arith, outputs_are c.in_ok-refresh.refresh (refreshing_size bits) fresh),
                    ),
                  ),
                ),
              ),
            ),
          ),
        ),
      ),
    )
