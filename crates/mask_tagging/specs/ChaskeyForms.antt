-- What holds inside a run of Chaskey-12.
use Rattle.std.specs.Prelude.{◌≡◌, ℕ, List, length}
use Rattle.mask_circuit.specs.Netlist.{Netlist}
use Rattle.mask_chaskey.specs.declared.doubling.End.TheVariants.{Whole, Short}
use Rattle.mask_chaskey.specs.NamedChaskey.{named_end, named_step}
use Rattle.mask_refresh.specs.Refreshing.{refreshing}
use Rattle.mask_chain.specs.Chains.{Chain}

-- The circuits are those of Chaskey-12, and the key has 128 bits.
pub record IsChaskey (start step whole short : Netlist) (run : Chain) (blank : List (List ℕ)) : Type 0 where
  pub is_start : start ≡ refreshing 128
  pub is_step : step ≡ named_step
  pub is_whole : whole ≡ named_end Whole
  pub is_short : short ≡ named_end Short
  pub key : length run.key ≡ 128
  pub blanks : length blank ≡ 128
