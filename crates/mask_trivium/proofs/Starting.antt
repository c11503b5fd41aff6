-- The stages that the clocks begin with: they are whole, and their values are the input bits.
use Rattle.std.proofs.Common.{[], ◌∷◌, refl, arith, lit≤}
use Rattle.std.specs.List.{range_with_len}
use Rattle.std.proofs.lemmas.List.Elements.{All-nil}
use Rattle.mask_circuit.specs.declared.gates.Gate.TheVariants.{Zero, One}
use Rattle.mask_circuit.specs.Netlist.{Netlist, only_inputs}
use Rattle.mask_parts.specs.Drafts.{with_gates}
use Rattle.mask_parts.proofs.Inputs.{IsSound-inputs, All-inputs, IsSound-constants, IsReady-input, IsReady-nought, IsReady-one}
use Rattle.mask_parts.proofs.Passing.{IsReady}
use Rattle.mask_parts.proofs.Ranges.{All-range}
use Rattle.mask_trivium.specs.Clocks.{stage}
use Rattle.mask_trivium.specs.NamedTrivium.{start, given}
use Rattle.mask_trivium.proofs.Running.{IsFine}
use Rattle.mask_trivium.proofs.Shifting.{All-loaded}

pub IsFine-start : (T : Type 0) → IsFine T start
unfolding start stage
IsFine-start T =
    let d : Netlist = with_gates (only_inputs 160) (Zero ∷ One ∷ []) in
    record {
      sound = IsSound-constants 160 T;
      long = refl;
      state = All-loaded (IsReady T d) 160 161 (range_with_len 0 80) (range_with_len 80 80) (IsReady-nought 160 T) (IsReady-one 160 T)
          (All-range (IsReady T d) 0 80 (λ u low high. IsReady-input 160 T u (omega arith)))
          (All-range (IsReady T d) 80 80 (λ u low high. IsReady-input 160 T u (omega arith)));
      outputs = All-nil (IsReady T d);
    }

pub IsFine-given : (T : Type 0) → IsFine T given
unfolding given stage
IsFine-given T = record {
  sound = IsSound-inputs 352 T;
  long = refl;
  state = All-inputs 352 T 0 288 (lit≤ tt);
  outputs = All-nil (IsReady T (only_inputs 352));
}
