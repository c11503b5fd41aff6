use Rattle.std.proofs.Common.{rules, ◌≡◌, ◌*◌, length, inr, refl, arith}
use Rattle.mask_refresh.specs.Refreshing.{refreshing_size}
use Rattle.mask_tasks.specs.Sizes.{lea_bytes}
use Rattle.mask_plan.proofs.Sizes.{inputs_are, outputs_are, lea_takes, lea_gives}
use Rattle.mask_plan.proofs.tasks.lea_run.Goals as goal

pub new-requires : goal.new-requires
new-requires g c =
    let bits = 8 * c.bytes.result in
    let long : length c.args.key.now ≡ 8 * lea_bytes c.args.size = c.requires.length in
    let is = c.in_ok-circuit.ensures.circuit.sized in
    let fresh = c.in_ok-refresh.ensures.named.sized in
    let n : c.bytes.result ≡ lea_bytes c.args.size = c.bytes.ensures in (
      search rules,
      (
        omega arith,
        (
          c.requires.some,
          (
            c.requires.few,
            (
              inr refl,
              (
                omega arith,
                (
                  omega (arith, lea_takes c.args.size c.in_ok-circuit.circuit is),
                  (
                    lea_gives c.args.size c.in_ok-circuit.circuit is,
                    (
                      omega (arith, inputs_are c.in_ok-refresh.refresh (refreshing_size bits) fresh),
                      omega (arith, outputs_are c.in_ok-refresh.refresh (refreshing_size bits) fresh),
                    ),
                  ),
                ),
              ),
            ),
          ),
        ),
      ),
    )
