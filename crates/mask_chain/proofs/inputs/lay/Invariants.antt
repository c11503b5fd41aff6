use Rattle.std.proofs.Common.{◌≡◌, ◌+◌, ◌++◌, length, take}
use Rattle.mask_chain.specs.Evaluations.{all_laid}
use Rattle.mask_chain.proofs.inputs.lay.Given as goal

abbrev pub invariant-loop-source : goal.invariant-loop-source
invariant-loop-source g l = record {
  end : l.at ≡ l.start + length (all_laid g.row.N l.key l.state (take l.source-index l.sources));
  laid : take l.at l.inputs ≡ take l.start l.fn.inputs ++ all_laid g.row.N l.key l.state (take l.source-index l.sources);
}
