-- From what preparing, evaluating and writing come to, to what `eval` did.
use Rattle.std.proofs.Common.{◌≡◌, ℕ, zero, suc, ◌+◌, ◌≤◌, Bool, List, [], ◌∷◌, length, refl, subst, inl, inr, arith}
use Rattle.std.specs.declared.option.Option.{Option}
use Rattle.mask_circuit.specs.Netlist.{Netlist}
use Rattle.mask_circuit.specs.Value.{plain}
use Rattle.mask_check.specs.Costs.{most_steps}
use Rattle.mask_words.specs.WordTests.{Word}
use Rattle.mask_status.specs.declared.status.Status.{Status}
use Rattle.mask_status.specs.declared.status.Status.TheVariants.{TapeFault}
use Rattle.mask_inspect.specs.Checks.{Grammar, Inputs, Acceptance, AllPass}
use Rattle.mask_inspect.specs.Ends.{IsRead, CostsAtMost}
use Rattle.mask_status.specs.Ends.{Writes}
use Rattle.mask_run.specs.Hexadecimal.{IsReport}
use Rattle.mask_message.specs.Outside.{Outside}
use Rattle.mask_run.specs.Calls.{Evaluates}
use Rattle.mask_run.specs.Evaluating.{IsReady, Prints, Evaluated, Prepares}
use Rattle.mask_run.specs.Promises.{AsksOnlyFor}

module _ (text : List ℕ) (rest : Option (List ℕ)) (hex : Word) (c : Netlist) (inputs : List Bool) (prepared : Prepares text rest hex c inputs) where
  pub ready : IsReady text hex c
  ready = record { is_text = prepared.read.is_text; fit = prepared.is_input.fit; accepted = prepared.accepted }

  pub passes : AllPass (Grammar ∷ Inputs hex ∷ Acceptance ∷ []) text
  passes = ((c, prepared.read.is_text), ((c, prepared.read.is_text, prepared.is_input.fit), ((c, prepared.read.is_text, prepared.accepted), tt)))

  -- the call was evaluated, and its report was written, or a part of it
  module _ (d : ℕ) (o : Outside) (evaluates : Evaluates c d inputs o.tape_before o.tape_after o.told_before o.told_after) (line : List ℕ) (report : IsReport (plain c inputs) line) where
    prints : (status : Status) → Writes line o.out_before o.out_after status → Prints text hex d o status
    prints status written = record {
      circuit = c;
      line = line;
      ready = ready;
      report = subst (λ (bs : List Bool). IsReport (plain c bs) line) prepared.is_input.bits_are report;
      written = written;
      evaluates =
          subst (λ (bs : List Bool). Evaluates c d bs o.tape_before o.tape_after o.told_before o.told_after) prepared.is_input.bits_are evaluates;
    }

    pub Evaluated-printed : (status : Status) → Writes line o.out_before o.out_after status → Evaluated text hex d o status
    Evaluated-printed TapeFault h = absurd h
    Evaluated-printed status h = prints status h

-- no bit is drawn, or some are
pub asks_for : (same : Type 0) (bits : Netlist → ℕ) (bytes : List ℕ) (rest : Option (List ℕ)) (c : Netlist) → IsRead bytes rest c → (bits c ≡ 0 → same) →
    AsksOnlyFor same bits bytes rest
asks_for same bits bytes rest c read idle = go (bits c) refl
  where
    go : (n : ℕ) → bits c ≡ n → AsksOnlyFor same bits bytes rest
    go zero e = inl (idle e)
    go (suc n) e = inr (c, read, omega arith)

-- the steps of checking and of evaluating add up
pub CostsAtMost-both : (before mid now : ℕ) (bytes : List ℕ) (rest : Option (List ℕ)) (c : Netlist) → IsRead bytes rest c → mid ≤ before + most_steps c →
    now ≤ mid + length c.gates → CostsAtMost (λ n. most_steps n + length n.gates) before now bytes rest
CostsAtMost-both before mid now bytes rest c read checked evaluated = inr (c, read, omega arith)

-- the steps of checking alone
pub CostsAtMost-more : (before now : ℕ) (bytes : List ℕ) (rest : Option (List ℕ)) → CostsAtMost most_steps before now bytes rest →
    CostsAtMost (λ n. most_steps n + length n.gates) before now bytes rest
CostsAtMost-more before now bytes rest (inl same) = inl same
CostsAtMost-more before now bytes rest (inr read) = let bound = read.2 in inr (read.0, read.1, omega arith)
