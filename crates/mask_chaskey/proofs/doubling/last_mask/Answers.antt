use Rattle.std.proofs.Common.{◌≡◌, ℕ, List, length, refl}
use Rattle.mask_circuit.specs.Netlist.{Netlist, IsCircuit}
use Rattle.mask_parts.specs.Drafts.{Grows}
use Rattle.mask_parts.specs.Words32.{AreWordsOf}
use Rattle.mask_parts.proofs.Growing.{Grows-refl}
use Rattle.mask_parts.proofs.Laying.{Lays-exit, Lays-last}
use Rattle.mask_parts.proofs.WordPassing.{known-words}
use Rattle.mask_chaskey.specs.declared.doubling.End.{End}
use Rattle.mask_chaskey.specs.declared.doubling.End.TheVariants.{Whole, Short}
use Rattle.mask_chaskey.specs.NamedChaskey.{with_doubled, with_last_mask}
use Rattle.mask_chaskey.specs.Rounds.{Stage, stage}
use Rattle.mask_chaskey.proofs.Calling.{IsFine-known, stage-is}
use Rattle.mask_chaskey.proofs.Lengthening.{Lengthens, Lengthens-doubled}
use Rattle.mask_chaskey.proofs.Running.{Runs-doubled}
use Rattle.mask_chaskey.proofs.doubling.last_mask.Goals as goal

-- the key is doubled first at either end
left : (end : End) (s : Stage) → Lengthens (with_doubled s) (with_last_mask end s)
unfolding with_last_mask
left Whole s = Grows-refl (with_doubled s).draft
left Short s = Lengthens-doubled (with_doubled s)

twice-known : (b : Netlist) (ws : List (List ℕ)) → IsCircuit b → length ws ≡ 4 → AreWordsOf b ws → AreWordsOf (with_doubled (stage b ws)).draft (with_doubled (stage b ws)).block
twice-known b ws circuit four known = known-words ⊥ _ _ (Runs-doubled ⊥ (stage b ws) (IsFine-known b ws circuit.formed.gates four known)).fine.words

begun : (b : Netlist) (ws : List (List ℕ)) → Grows b (with_doubled (stage b ws)).draft
unfolding stage
begun b ws = Lengthens-doubled (stage b ws)

pub returns-in_err-twice : goal.returns-in_err-twice
returns-in_err-twice c =
    let b = c.args.b.now in let s = stage b c.args.key.now in
    Lays-exit _ b (with_doubled s).draft _ _ _ _ _ c.from_residual.ensures.1 (Grows-refl b) (left c.args.end s) c.in_err-twice.ensures

pub double-requires-in-Short : goal.double-requires-in-Short
double-requires-in-Short c =
    rw (c.in_ok-twice.ensures.0, c.in_ok-twice.ensures.1) (twice-known c.args.b.now c.args.key.now c.values-values.ensures.circuit c.told-key c.requires)

pub returns-in-Whole : goal.returns-in-Whole
unfolding with_last_mask
returns-in-Whole c = rw c.in-Whole.is c.in_ok-twice.ensures

pub returns-in-Short : goal.returns-in-Short
unfolding with_last_mask
returns-in-Short c =
    let b = c.args.b.now in let s = stage b c.args.key.now in
    let twice = c.in_ok-twice.ensures in
    rw c.in-Short.is (Lays-last b (with_doubled s).draft _ _ _ _ _ _ (begun b c.args.key.now) refl refl
    (rw (stage-is _ _ (with_doubled s) twice.0 twice.1, twice.1) at c.double-in-Short.ensures))
