-- What the watch is told by the command: the call of `eval`, and that every call is secure.
use Rattle.std.specs.Prelude.{◌≡◌, ℕ, suc, ◌+◌, ◌*◌, ◌≤◌, Bool, List, [], ◌∷◌, length, take, drop, All}
use Rattle.std.specs.declared.option.Option.{Option}
use Rattle.mask_bits.specs.Reading.{low, bytes_for}
use Rattle.mask_io.specs.Outside.{Takes}
use Rattle.mask_circuit.specs.Netlist.{Netlist}
use Rattle.mask_circuit.specs.Ring.{bits}
use Rattle.mask_circuit.specs.Expansion.{draws, outs}
use Rattle.mask_circuit.specs.Acceptance.{IsAccepted, IsStrong}
use Rattle.mask_circuit.specs.Probing.{IsNI, IsSNI}
use Rattle.mask_circuit.specs.Privacy.{IsPrivate, IsPrivateCall}
use Rattle.mask_shares.specs.Sharing.{all_listed, all_shared}
use Rattle.mask_eval.specs.Watching.{Told, told_more, value_by_value, IsEvaluation}

-- how many bits `eval` draws at order d: d for each input, and those of products and refreshes
abbrev pub eval_bits : Netlist → ℕ → ℕ
eval_bits c d = d * c.inputs + draws c (suc d)

-- The call of `eval` at order d on these bits, where the tape goes on with the bits r: the first of them share the
-- inputs, d for each, and products and refreshes draw the next ones.
abbrev pub eval_call : Netlist → ℕ → List Bool → List Bool → Told
eval_call c d inputs r =
    let shares = all_shared bits d inputs r in
    let tape = take (draws c (suc d)) (drop (d * length inputs) r) in
    record {
      circuit = c;
      order = d;
      inputs = value_by_value shares;
      tape = tape;
      outputs = value_by_value (outs bits c (suc d) (all_listed bits shares) tape);
    }

-- The tape gave just the bits of the call, rounded up to bytes, and the watch was told this call alone. Over all tapes, what
-- any d wires of the call show has the same distribution for all input bits: who reads them learns nothing of these.
pub record Evaluates (c : Netlist) (d : ℕ) (inputs : List Bool) (tape tape' : Option (List ℕ)) (told told' : Option (List Told)) : Type 0 where
  pub fresh : List ℕ
  pub count : length fresh ≡ bytes_for (eval_bits c d)
  pub drawn : Takes tape tape' fresh
  pub tells : told' ≡ told_more told (eval_call c d inputs (low fresh) ∷ [])
  pub private : IsPrivateCall c (suc d)

-- An evaluation of an accepted circuit at an order from 1 to 7: it is non-interfering at this order, and strongly so where
-- it is strong; and over all sharings and tapes any d of its wires show nothing of the input bits.
pub record IsSecure (t : Told) : Type 0 where
  pub some : 1 ≤ t.order
  pub few : t.order ≤ 7
  pub evaluation : IsEvaluation t
  pub accepted : IsAccepted t.circuit
  pub non_interfering : IsNI t.circuit (suc t.order)
  pub strongly : IsStrong t.circuit → IsSNI t.circuit (suc t.order)
  pub private : IsPrivate t.circuit (suc t.order)

-- what a watch was told in between is secure calls alone
abbrev pub TellsSecureCalls : Option (List Told) → Option (List Told) → Type 0
TellsSecureCalls before now = (calls : List Told) × (now ≡ told_more before calls) × All IsSecure calls
