use Rattle.std.proofs.Common.{[], ◌∷◌, refl, inl, inr}
use Rattle.std.proofs.KnownBytes.{Consumes-nil}
use Rattle.mask_circuit.specs.Netlist.{Netlist}
use Rattle.mask_words.specs.Jobs.{word_at}
use Rattle.mask_inspect.specs.Checks.{Grammar, Inputs, Acceptance}
use Rattle.mask_inspect.specs.Ends.{Does, Breaks}
use Rattle.mask_inspect.proofs.Stopping.{Ends-stopped}
use Rattle.mask_run.specs.Calls.{eval_bits}
use Rattle.mask_run.proofs.Printing.{ready, passes, Evaluated-printed, asks_for, CostsAtMost-both, CostsAtMost-more}
use Rattle.mask_run.proofs.evaluating.eval.Goals as goal

pub returns-in-Err-clause-ends : goal.returns-in-Err-clause-ends
returns-in-Err-clause-ends g c keys =
    let taken = c.in-Err.ensures.err in
    let stopped = rw c.word.ensures at taken.2.0 in
    record {
      keys = [];
      keys_taken = Consumes-nil keys;
      bytes = taken.0;
      taken = taken.1;
      ends = Ends-stopped (Grammar ∷ Inputs (word_at c.args.words.now 5) ∷ Acceptance ∷ []) [] _ taken.0 _ _ stopped;
      costs = CostsAtMost-more _ _ taken.0 _ taken.2.1;
      asks = inl refl;
    }

pub returns-in-Ok-evaluated-clause-ends : goal.returns-in-Ok-evaluated-clause-ends
returns-in-Ok-evaluated-clause-ends g c keys =
    let taken = c.in-Ok.ensures.ok in
    let prepared = rw c.word.ensures at taken.2.0 in
    let read = prepared.read in
    let written = rw c.deref.ensures.value at c.send.ensures.writes in
    record {
      keys = [];
      keys_taken = Consumes-nil keys;
      bytes = taken.0;
      taken = taken.1;
      ends =
          Does read.at_end read.within (passes taken.0 _ _ _ _ prepared)
          (Evaluated-printed taken.0 _ _ _ _ prepared c.args.order _ c.in-Ok-evaluated.ensures.evaluates _ c.in-Ok-evaluated.ensures.report _ written);
      costs = CostsAtMost-both _ _ _ taken.0 _ _ read taken.2.1 c.evaluated.ensures.steps;
      asks = asks_for _ (λ (n : Netlist). eval_bits n c.args.order) taken.0 _ _ read c.evaluated.ensures.idle;
    }

pub returns-in-Err-Failed-clause-ends : goal.returns-in-Err-Failed-clause-ends
returns-in-Err-Failed-clause-ends g c keys =
    let taken = c.in-Ok.ensures.ok in
    let prepared = rw c.word.ensures at taken.2.0 in
    let read = prepared.read in
    let failed = c.in-Err-Failed.ensures.failed c.in-Err-Failed.field-0-is in
    record {
      keys = [];
      keys_taken = Consumes-nil keys;
      bytes = taken.0;
      taken = taken.1;
      ends =
          Does read.at_end read.within (passes taken.0 _ _ _ _ prepared)
          (record {
            circuit = _;
            ready = ready taken.0 _ _ _ _ prepared;
            wanted = failed.0;
            some = failed.1;
            idle = (c.in-Err-Failed.ensures.left, c.in-Err-Failed.ensures.told);
          });
      costs = CostsAtMost-both _ _ _ taken.0 _ _ read taken.2.1 c.evaluated.ensures.steps;
      asks = asks_for _ (λ (n : Netlist). eval_bits n c.args.order) taken.0 _ _ read c.evaluated.ensures.idle;
    }

pub returns-clause-ends : goal.returns-clause-ends
returns-clause-ends g c keys =
    let taken = c.in-Ok.ensures.ok in
    let prepared = taken.2.0 in
    let read = prepared.read in
    record {
      keys = [];
      keys_taken = Consumes-nil keys;
      bytes = taken.0;
      taken = taken.1;
      ends = Breaks (inr refl);
      costs = CostsAtMost-both _ _ _ taken.0 _ _ read taken.2.1 c.evaluated.ensures.steps;
      asks = asks_for _ (λ (n : Netlist). eval_bits n c.args.order) taken.0 _ _ read c.evaluated.ensures.idle;
    }
