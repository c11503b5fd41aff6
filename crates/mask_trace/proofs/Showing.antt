-- A strong plan is a run, and few of its wires show nothing.
use Rattle.std.proofs.Common.{◌≡◌, ℕ, pred, ◌+◌, ◌*◌, ◌≤◌, Bool, false, cond, List, ◌++◌, map, length, get_or, ap, sym, ◌∙◌, arith, length-append}
use Rattle.std.proofs.Math.Nat.{mul-add}
use Rattle.mask_circuit.specs.Ring.{bits}
use Rattle.mask_circuit.specs.Sharing.{all_listed, all_shared}
use Rattle.mask_circuit.specs.Probing.{same_bits, sum_over_tapes}
use Rattle.mask_laws.specs.Runs.{Call, run_draws, run_seen, run_hits, private_run_hits}
use Rattle.mask_laws.proofs.Hiding.{strong_run_is_private}
use Rattle.mask_laws.proofs.Running.{run_needs}
use Rattle.mask_laws.proofs.Tapes.{sum_over_tapes-same, sum_over_tapes-add}
use Rattle.mask_laws.proofs.Sharings.{length-all_shared}
use Rattle.mask_trace.specs.Steps as steps
use Rattle.mask_trace.specs.Traces.{BitShares}
use Rattle.mask_trace.specs.Calls.{calls_of, with_key, message_bits, message_coins, gate_coins}
use Rattle.mask_trace.specs.Privacy.{trace_seen, key_shared, trace_hits}
use Rattle.mask_trace.specs.Laws.{PlansAreRuns, PlansArePrivate}
use Rattle.mask_trace.proofs.Alike.{calls-alike, messages-alike, plan-alike}
use Rattle.mask_trace.proofs.RunWires.{all_shared-append, run_wires-plan}
use Rattle.mask_trace.proofs.StrongRuns.{plans_are_strong_runs}
use Rattle.mask_trace.proofs.Woven.{gate_count, run_draws-plan, length-gate_coins, sum_over_tapes-woven}

pub plans_are_runs : PlansAreRuns
plans_are_runs N n ss two plan =
    let strong = plans_are_strong_runs n ss plan in
    record {
      strong = strong;
      wires = λ key r count long. sym (run_wires-plan N n ss key r two plan count long);
      tape = λ r long. length-gate_coins N ss r long ∙ sym (run_draws-plan N ss (with_key n) n 0);
      few = λ P few v. (run_needs (calls_of n ss) N P two strong few).0 v;
      suffice = λ P few. (run_needs (calls_of n ss) N P two strong few).1;
    }

-- HITS

module _ (N n : ℕ) (ss : List steps.Step) (two : 2 ≤ N) (plan : steps.IsStrongPlan n 0 ss) (key : List Bool) (count : length key ≡ n) (P : List ℕ) (v : List Bool) where
  abbrev hit : List Bool → ℕ
  hit seen = cond (same_bits seen v) 1 0

  abbrev d : ℕ
  d = pred N

  -- what the wires show of a run with these coins
  abbrev shown : List Bool → List Bool → List Bool → ℕ
  shown coins message gates =
      hit (run_seen (calls_of n ss) N (all_listed bits (all_shared bits d key coins ++ all_shared bits d (message_bits ss) message)) gates P)

  seen-same : (coins r : List Bool) → length r ≡ steps.bits_of N ss →
      hit (trace_seen N (key_shared N key coins) ss r P) ≡ shown coins (message_coins N ss r) (gate_coins N ss r)
  seen-same coins r long =
      ap (λ (ws : List Bool). hit (map (λ p. get_or ws p false) P))
      (sym (run_wires-plan N n ss (all_shared bits d key coins) r two plan (length-all_shared bits d key coins ∙ count) (omega arith)))

  -- the coins of the key and of the message share all variables
  variables-shared : (coins message gates : List Bool) → length coins ≡ d * length key →
      shown coins message gates ≡ hit (run_seen (calls_of n ss) N (all_listed bits (all_shared bits d (key ++ message_bits ss) (coins ++ message))) gates P)
  variables-shared coins message gates long =
      ap (λ (shares : List BitShares). hit (run_seen (calls_of n ss) N (all_listed bits shares) gates P)) (sym (all_shared-append d key (message_bits ss) coins message long))

  -- So the wires of a plan show a value as often as those of its run.
  pub trace_hits-run : trace_hits N key ss P v ≡ private_run_hits (calls_of n ss) N (key ++ message_bits ss) P v
  trace_hits-run =
      let K = d * length key in
      let M = d * length (message_bits ss) in
      let G = run_draws (calls_of n ss) N in
      let gates : gate_count N ss ≡ G = sym (run_draws-plan N ss (with_key n) n 0) in
      let all : K + M ≡ d * length (key ++ message_bits ss) = sym (ap (λ (m : ℕ). d * m) (length-append key (message_bits ss)) ∙ mul-add d (length key) (length (message_bits ss))) in
      let run : List Bool → ℕ = λ coins. run_hits (calls_of n ss) N (all_listed bits (all_shared bits d (key ++ message_bits ss) coins)) P v in
      sum_over_tapes-same K _ _ (λ coins long.
      sum_over_tapes-same (steps.bits_of N ss) _ _ (λ r enough. seen-same coins r enough)
      ∙ sum_over_tapes-woven N ss (shown coins)
      ∙ ap (λ (m : ℕ). sum_over_tapes M (λ a. sum_over_tapes m (λ b. shown coins a b))) gates
      ∙ sum_over_tapes-same M _ _ (λ a _. sum_over_tapes-same G _ _ (λ b _. variables-shared coins a b long)))
      ∙ sym (sum_over_tapes-add K M run)
      ∙ ap (λ (m : ℕ). sum_over_tapes m run) all

-- Few wires show nothing: the run is private, and the calls don't depend on the message.
pub plans_are_private : PlansArePrivate
plans_are_private N n ss two plan P few ts alike key key' count count' v =
    let calls = calls-alike n ss ts alike in
    let same : length (key ++ message_bits ss) ≡ length (key' ++ message_bits ts)
    = let messages = messages-alike ss ts alike in omega (arith, length-append key (message_bits ss), length-append key' (message_bits ts)) in
    trace_hits-run N n ss two plan key count P v
    ∙ strong_run_is_private (calls_of n ss) N two (plans_are_strong_runs n ss plan) P few (key ++ message_bits ss) (key' ++ message_bits ts) same v
    ∙ ap (λ (cs : List Call). private_run_hits cs N (key' ++ message_bits ts) P v) calls
    ∙ sym (trace_hits-run N n ts two (plan-alike n 0 ss ts alike plan) key' count' P v)
