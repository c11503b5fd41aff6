-- Stages as calls know them: of values of the draft, and what a loop of steps has made of one.
use Rattle.std.proofs.Common.{◌≡◌, ℕ, List, length, refl, ap, subst}
use Rattle.mask_circuit.specs.Netlist.{Netlist}
use Rattle.mask_parts.specs.Drafts.{IsWithinLimits}
use Rattle.mask_parts.specs.Turns.{in_turn}
use Rattle.mask_parts.specs.Words32.{AreWordsOf}
use Rattle.mask_parts.proofs.Passing.{Formed}
use Rattle.mask_parts.proofs.Turns.{HasRun}
use Rattle.mask_parts.proofs.WordPassing.{words-known, known-words}
use Rattle.mask_chaskey.specs.Rounds.{Stage, stage}
use Rattle.mask_chaskey.proofs.Running.{IsFine}

-- STAGES

-- a stage of words of a draft
pub IsFine-known : (c : Netlist) (ws : List (List ℕ)) → Formed c → length ws ≡ 4 → AreWordsOf c ws → IsFine ⊥ (stage c ws)
unfolding stage
IsFine-known c ws formed four known =
    record { sound = record { formed = formed; tidy = λ none. absurd none }; long = four; words = words-known c ws known }

pub known-fine : (c : Netlist) (ws : List (List ℕ)) → IsFine ⊥ (stage c ws) → (length ws ≡ 4) × AreWordsOf c ws
unfolding stage
known-fine c ws fine = (fine.long, known-words ⊥ c ws fine.words)

-- a stage by its parts
pub stage-is : (c : Netlist) (ws : List (List ℕ)) (s : Stage) → ws ≡ s.block → c ≡ s.draft → stage c ws ≡ s
unfolding stage
stage-is c ws s block draft = rw (block, draft) refl

-- LOOPS

-- after all steps
pub HasRun-done : (f : ℕ → Stage → Stage) (before : Stage) (c : Netlist) (ws : List (List ℕ)) (n : ℕ) → HasRun (λ (s : Stage). s.draft) f before (stage c ws) n
    → (ws ≡ (in_turn f n before).block) × (c ≡ (in_turn f n before).draft) × IsWithinLimits (in_turn f n before).draft
unfolding stage
HasRun-done f before c ws n has =
    let draft : c ≡ (in_turn f n before).draft = ap (λ (s : Stage). s.draft) has.is in
    (ap (λ (s : Stage). s.block) has.is, draft, subst IsWithinLimits draft has.within)
