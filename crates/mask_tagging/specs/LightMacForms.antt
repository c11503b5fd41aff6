-- A run of LightMAC between its pieces, as it is built.
use Rattle.std.specs.Prelude.{◌≡◌, ℕ, ◌+◌, ◌*◌, List, length}
use Rattle.mask_circuit.specs.Netlist.{Netlist}
use Rattle.mask_tasks.specs.declared.sizes.KeySize.{KeySize}
use Rattle.mask_tasks.specs.Sizes.{present_bytes}
use Rattle.mask_lightmac.specs.NamedLightMac.{named_end, named_step}
use Rattle.mask_refresh.specs.Refreshing.{refreshing}
use Rattle.mask_macs.specs.Codes.{IsCounterLength}
use Rattle.mask_macs.specs.LightMacRuns.{key_width}
use Rattle.mask_chain.specs.Chains.{Chain}

-- The circuits are those of LightMAC, the key is K1 and K2, and the counter leaves room for a piece.
pub record IsInForm (size : KeySize) (counter : ℕ) (refresh step end : Netlist) (run : Chain) (blank : List (List ℕ)) : Type 0 where
  pub is_refresh : refresh ≡ refreshing (key_width size)
  pub is_step : step ≡ named_step size
  pub is_end : end ≡ named_end size
  pub key : length run.key ≡ 8 * (present_bytes size + present_bytes size)
  pub blanks : length blank ≡ 64
  pub counted : IsCounterLength counter
