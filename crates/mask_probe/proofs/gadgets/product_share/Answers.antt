use Rattle.std.proofs.Common.{ℕ, Bool, ◌&&◌, length, arith, ◌∙◌, ap₂}
use Rattle.mask_circuit.specs.Ring.{bits}
use Rattle.mask_circuit.specs.Wires.{pairs, fresh_of, cross}
use Rattle.mask_circuit.specs.Value.{xor}
use Rattle.mask_sni.specs.Asked.{bit_shares}
use Rattle.mask_sni.proofs.Sums.{all_columns, column_more, xor_code}
use Rattle.mask_probe.specs.Sides.{bits_from}
use Rattle.mask_probe.proofs.gadgets.product_share.Goals as goal

pub loop-k-preserved : goal.loop-k-preserved
loop-k-preserved g c =
    let first : Bool = bit_shares c.args.a c.args.i && bit_shares c.args.b c.args.i in
    let term : ℕ → Bool = cross bits (bit_shares c.args.a) (bit_shares c.args.b) (fresh_of bits (pairs g.row.N) (bits_from c.args.tape.now c.args.start (length (pairs g.row.N)))) c.args.i in
    xor_code _ _ ∙ ap₂ xor c.loop-k.invariant c.product_column-sum.ensures ∙ column_more first term c.args.i c.loop-k.k

pub returns : goal.returns
returns g c =
    let first : Bool = bit_shares c.args.a c.args.i && bit_shares c.args.b c.args.i in
    let term : ℕ → Bool = cross bits (bit_shares c.args.a) (bit_shares c.args.b) (fresh_of bits (pairs g.row.N) (bits_from c.args.tape.now c.args.start (length (pairs g.row.N)))) c.args.i in
    c.loop-k.invariant ∙ all_columns first term c.args.i g.row.N c.loop-k.k c.requires.some (omega arith)
