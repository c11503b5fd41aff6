-- Stages as calls know them: of values of the draft, and what a loop of steps has made of one.
use Rattle.std.proofs.Common.{◌≡◌, ℕ, zero, suc, ◌+◌, ◌%◌, ◌<◌, List, [], length, refl, sym, ap, ◌∙◌, arith}
use Rattle.std.proofs.lemmas.List.Elements.{All-nil, All-weaker}
use Rattle.mask_circuit.specs.Netlist.{Netlist, value_count}
use Rattle.mask_parts.specs.Drafts.{Grows}
use Rattle.mask_parts.specs.Turns.{in_turn}
use Rattle.mask_parts.specs.Words32.{AreWordsOf}
use Rattle.mask_parts.proofs.Passing.{Formed, IsReady, AreOf}
use Rattle.mask_parts.proofs.Turns.{HasRun}
use Rattle.mask_parts.proofs.WordPassing.{IsWord-rotated, IsWord-constant, words-known, known-words, AreWordsOf-Grows}
use Rattle.mask_tasks.specs.declared.sizes.LeaSize.{LeaSize}
use Rattle.mask_lea.specs.Lea.{schedule, place, Schedule, delta}
use Rattle.mask_lea.specs.Rounds.{Stage, stage, constant_word, with_word_updated, with_key_updated, round_words, with_block_mixed, with_round}
use Rattle.mask_lea.proofs.Lengthening.{Lengthens-key_updated, Lengthens-block_mixed}
use Rattle.mask_lea.proofs.Running.{IsShape, IsShape-schedule, place-lt, IsFine, Runs-key_updated, All-round_words}

-- STAGES

-- a stage of values of a draft
pub IsFine-stage : (r : Schedule) (m : ℕ) (c : Netlist) (nought one : ℕ) (key block : List (List ℕ)) → Formed c → nought < value_count c → one < value_count c
    → length key ≡ r.words → AreWordsOf c key → length block ≡ m → AreWordsOf c block → IsFine ⊥ r m (stage c nought one key block)
unfolding stage
IsFine-stage r m c nought one key block formed low low' key_long key_known block_long block_known = record {
  sound = record { formed = formed; tidy = λ none. absurd none };
  nought = record { below = low; free = λ none. absurd none };
  one = record { below = low'; free = λ none. absurd none };
  key_long = key_long;
  key = words-known c key key_known;
  block_long = block_long;
  block = words-known c block block_known;
}

-- LOOPS

in_turn-fine : (r : Schedule) (m : ℕ) (f : ℕ → Stage → Stage) → ((i : ℕ) (s : Stage) → IsFine ⊥ r m s → IsFine ⊥ r m (f i s)) → (i : ℕ) (s : Stage) → IsFine ⊥ r m s
    → IsFine ⊥ r m (in_turn f i s)
unfolding in_turn
in_turn-fine r m f keeps zero s fine = fine
in_turn-fine r m f keeps (suc i) s fine = keeps i (in_turn f i s) (in_turn-fine r m f keeps i s fine)

-- what the stage in a loop is as calls know it
pub record IsKnown (r : Schedule) (m : ℕ) (c : Netlist) (nought one : ℕ) (key block : List (List ℕ)) : Type 0 where
  pub nought_known : nought < value_count c
  pub one_known : one < value_count c
  pub width : length key ≡ r.words
  pub key_known : AreWordsOf c key
  pub block_long : length block ≡ m
  pub block_known : AreWordsOf c block

pub IsKnown-from : (r : Schedule) (m : ℕ) (c : Netlist) (nought one : ℕ) (key block : List (List ℕ)) → nought < value_count c → one < value_count c → length key ≡ r.words → AreWordsOf c key
    → length block ≡ m → AreWordsOf c block → IsKnown r m c nought one key block
IsKnown-from r m c nought one key block low low' key_long key_known block_long block_known =
    record { nought_known = low; one_known = low'; width = key_long; key_known = key_known; block_long = block_long; block_known = block_known }

pub IsKnown-fine : (r : Schedule) (m : ℕ) (c : Netlist) (nought one : ℕ) (key block : List (List ℕ)) → IsFine ⊥ r m (stage c nought one key block) → IsKnown r m c nought one key block
unfolding stage
IsKnown-fine r m c nought one key block fine = record {
  nought_known = fine.nought.below;
  one_known = fine.one.below;
  width = fine.key_long;
  key_known = known-words ⊥ c key fine.key;
  block_long = fine.block_long;
  block_known = known-words ⊥ c block fine.block;
}

pub IsFine-known : (r : Schedule) (m : ℕ) (c : Netlist) (nought one : ℕ) (key block : List (List ℕ)) → Formed c → IsKnown r m c nought one key block → IsFine ⊥ r m (stage c nought one key block)
IsFine-known r m c nought one key block formed known =
    IsFine-stage r m c nought one key block formed known.nought_known known.one_known known.width known.key_known known.block_long known.block_known

pub IsKnown-run : (r : Schedule) (m : ℕ) (f : ℕ → Stage → Stage) → ((i : ℕ) (s : Stage) → IsFine ⊥ r m s → IsFine ⊥ r m (f i s))
    → (b c : Netlist) (nought one : ℕ) (key now us vs : List (List ℕ)) (i : ℕ) → Formed b → IsKnown r m b nought one key us
    → HasRun (λ (s : Stage). s.draft) f (stage b nought one key us) (stage c nought one now vs) i → IsKnown r m c nought one now vs
IsKnown-run r m f keeps b c nought one key now us vs i formed known has =
    IsKnown-fine r m c nought one now vs (rw has.is (in_turn-fine r m f keeps i (stage b nought one key us) (IsFine-known r m b nought one key us formed known)))

-- the place of a word of a round is one of the key's, of which there are at most eight
pub place-inside : (size : LeaSize) (i j at : ℕ) → at ≡ place (schedule size) i j → at < (schedule size).words
place-inside size i j at is = rw is (place-lt ⊥ (schedule size) (IsShape-schedule size) i j)

pub place-low : (size : LeaSize) (i j at : ℕ) → at ≡ place (schedule size) i j → at < 8
place-low size i j at is = let inside = place-inside size i j at is in let few = (IsShape-schedule size).few in omega arith

-- the constant of a word of a round
pub AreOf-constant : (r : Schedule) (i j : ℕ) (c : Netlist) (nought one : ℕ) → nought < value_count c → one < value_count c → AreOf c (constant_word r i j nought one)
unfolding constant_word
AreOf-constant r i j c nought one low low' =
    let word = IsWord-rotated ⊥ c ((i + j) % 32) _ (IsWord-constant ⊥ c nought one (delta r i) (record { below = low; free = λ none. absurd none }) (record { below = low'; free = λ none. absurd none })) in
    All-weaker (IsReady ⊥ c) (λ u. u < value_count c) (λ u ready. ready.below) _ word.ready

-- A ROUND

-- the key is updated whatever the block is
words_updated-block : (r : Schedule) (i j : ℕ) (c : Netlist) (nought one : ℕ) (key us : List (List ℕ))
    → in_turn (with_word_updated r i) j (stage c nought one key us)
    ≡ stage (in_turn (with_word_updated r i) j (stage c nought one key [])).draft nought one (in_turn (with_word_updated r i) j (stage c nought one key [])).key us
    × ((in_turn (with_word_updated r i) j (stage c nought one key [])).nought ≡ nought)
    × ((in_turn (with_word_updated r i) j (stage c nought one key [])).one ≡ one)
unfolding in_turn stage with_word_updated
words_updated-block r i zero c nought one key us = (refl, refl, refl)
words_updated-block r i (suc j) c nought one key us =
    let before = words_updated-block r i j c nought one key us in (
      ap (with_word_updated r i j) before.0 ∙ rw (before.1, before.2) refl,
      before.1,
      before.2,
    )

pub key_updated-block : (r : Schedule) (i : ℕ) (c : Netlist) (nought one : ℕ) (key us : List (List ℕ))
    → with_key_updated r i (stage c nought one key us)
    ≡ stage (with_key_updated r i (stage c nought one key [])).draft nought one (with_key_updated r i (stage c nought one key [])).key us
unfolding with_key_updated
key_updated-block r i c nought one key us = (words_updated-block r i (length r.turns) c nought one key us).0

-- a block is mixed whatever the key is
pub block_mixed-key : (ks : List (List ℕ)) (c : Netlist) (nought one : ℕ) (key us : List (List ℕ))
    → with_block_mixed ks (stage c nought one key us)
    ≡ stage (with_block_mixed ks (stage c 0 0 [] us)).draft nought one key (with_block_mixed ks (stage c 0 0 [] us)).block
unfolding with_block_mixed stage
block_mixed-key ks c nought one key us = refl

-- a round in two calls: the key, and then the block
pub round-parts : (r : Schedule) (i : ℕ) (c : Netlist) (nought one : ℕ) (key us : List (List ℕ))
    → with_round r i (stage c nought one key us)
    ≡ (let t = with_key_updated r i (stage c nought one key []) in
    let ks = round_words r i t.key in
    stage (with_block_mixed ks (stage t.draft 0 0 [] us)).draft nought one t.key (with_block_mixed ks (stage t.draft 0 0 [] us)).block)
unfolding with_round stage with_key_updated
round-parts r i c nought one key us =
    let t : Stage = with_key_updated r i (stage c nought one key []) in
    rw (key_updated-block r i c nought one key us) (block_mixed-key (round_words r i t.key) t.draft nought one t.key us)

-- so what both make is what the round makes
module _ (r : Schedule) (i : ℕ) (c : Netlist) (nought one : ℕ) (key us : List (List ℕ)) where
  abbrev keyed : Stage
  keyed = with_key_updated r i (stage c nought one key [])

  abbrev blocked : Stage
  blocked = with_block_mixed (round_words r i keyed.key) (stage keyed.draft 0 0 [] us)

  pub round-draft : blocked.draft ≡ (with_round r i (stage c nought one key us)).draft
  unfolding stage
  round-draft = sym (ap (λ (s : Stage). s.draft) (round-parts r i c nought one key us))

  pub round-block : blocked.block ≡ (with_round r i (stage c nought one key us)).block
  unfolding stage
  round-block = sym (ap (λ (s : Stage). s.block) (round-parts r i c nought one key us))

  pub round-key : keyed.key ≡ (with_round r i (stage c nought one key us)).key
  unfolding stage
  round-key = sym (ap (λ (s : Stage). s.key) (round-parts r i c nought one key us))

-- what the second call is handed
module _ (r : Schedule) (shape : IsShape r) (i : ℕ) (c : Netlist) (nought one : ℕ) (key us : List (List ℕ)) (formed : Formed c) (known : IsKnown r 4 c nought one key us) where
  abbrev pub updated : Stage
  updated = with_key_updated r i (stage c nought one key [])

  updated-fine : IsFine ⊥ r 0 updated
  updated-fine =
      (Runs-key_updated ⊥ r shape 0 i (stage c nought one key [])
      (IsFine-stage r 0 c nought one key [] formed known.nought_known known.one_known known.width known.key_known refl (All-nil _))).fine

  pub updated-long : length updated.key ≡ r.words
  updated-long = updated-fine.key_long

  pub updated-words : AreWordsOf updated.draft (round_words r i updated.key)
  updated-words = known-words ⊥ updated.draft _ (All-round_words ⊥ r shape i updated.draft updated.key updated-fine.key_long updated-fine.key)

  pub begun-updated : Grows c updated.draft
  unfolding stage
  begun-updated = Lengthens-key_updated r i (stage c nought one key [])

  pub updated-block : AreWordsOf updated.draft us
  updated-block = AreWordsOf-Grows c updated.draft us begun-updated known.block_known

  pub left-updated : Grows updated.draft (with_round r i (stage c nought one key us)).draft
  unfolding stage
  left-updated = rw (round-parts r i c nought one key us) (Lengthens-block_mixed (round_words r i updated.key) (stage updated.draft 0 0 [] us))

-- a stage after a round, by its parts
pub stage-round : (r : Schedule) (i : ℕ) (c d : Netlist) (nought one : ℕ) (key now us vs : List (List ℕ)) → d ≡ (with_round r i (stage c nought one key us)).draft
    → now ≡ (with_round r i (stage c nought one key us)).key → vs ≡ (with_round r i (stage c nought one key us)).block
    → stage d nought one now vs ≡ with_round r i (stage c nought one key us)
stage-round r i c d nought one key now us vs draft_is key_is block_is =
    rw (
      draft_is ∙ sym (round-draft r i c nought one key us),
      key_is ∙ sym (round-key r i c nought one key us),
      block_is ∙ sym (round-block r i c nought one key us),
    ) (sym (round-parts r i c nought one key us))
