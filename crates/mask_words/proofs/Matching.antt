-- Words against the tests of a form, and how far they reach.
use Rattle.std.proofs.Common.{◌≡◌, ℕ, zero, suc, ◌<◌, ◌≤◌, Bool, true, false, cond, Option, None, Some, List, [], ◌∷◌, ◌++◌, length, get_or, take, drop, refl, ap, arith, eq-eqb, codes}
use Rattle.std.proofs.lemmas.Fmt.{decimal_digit}
use Rattle.std.proofs.lemmas.List.{drop_all}
use Rattle.mask_words.specs.declared.word_tests.Command.TheVariants as commands
use Rattle.mask_words.specs.declared.word_tests.Test.{Test}
use Rattle.mask_words.specs.declared.word_tests.Test.TheVariants.{Given, Tape, Named, Present, Lea, Trivium, LightMac, Chaskey, Order, Digits, Counter, LightMacTag, ChaskeyTag, Hex, Wire, Seed, Count, Circuit}
use Rattle.mask_words.specs.WordTests.{Word, command_text, are_hex_digits, are_digits, passes}
use Rattle.mask_words.specs.Jobs.{Match, reach}

-- n digits 0
zeros : ℕ → Word
zeros zero = []
zeros (suc n) = 48 ∷ zeros n

length-zeros : (n : ℕ) → length (zeros n) ≡ n
unfolding zeros
length-zeros zero = refl
length-zeros (suc n) = ap suc (length-zeros n)

are_hex_digits-zeros : (n : ℕ) → are_hex_digits (zeros n) ≡ true
unfolding zeros
are_hex_digits-zeros zero = refl
are_hex_digits-zeros (suc n) = are_hex_digits-zeros n

are_digits-zeros : (n : ℕ) → are_digits n (zeros n) ≡ true
are_digits-zeros n = rw (eq-eqb _ _ (length-zeros n)) (are_hex_digits-zeros n)

-- a word that passes
sample : Test → Word
sample Given = codes "-"
sample Tape = codes "-"
sample (Named c) = command_text c
sample Present = codes "present-80"
sample Lea = codes "lea-128"
sample Trivium = codes "trivium"
sample LightMac = codes "lightmac-80"
sample Chaskey = codes "chaskey-12"
sample Order = codes "1"
sample (Digits n) = zeros n
sample Counter = codes "1"
sample LightMacTag = codes "8"
sample ChaskeyTag = codes "8"
sample Hex = codes "-"
sample Wire = codes "0"
sample Seed = codes "0"
sample Count = codes "1"
sample Circuit = codes "present-80"

sample-passes : (t : Test) → passes t (sample t) ≡ true
unfolding sample
sample-passes Given = refl
sample-passes Tape = refl
sample-passes (Named commands.Enc) = refl
sample-passes (Named commands.Mac) = refl
sample-passes (Named commands.Eval) = refl
sample-passes (Named commands.Check) = refl
sample-passes (Named commands.Upgrade) = refl
sample-passes (Named commands.Probe) = refl
sample-passes (Named commands.Split) = refl
sample-passes (Named commands.Join) = refl
sample-passes (Named commands.Emit) = refl
sample-passes (Named commands.SelfRun) = refl
sample-passes Present = refl
sample-passes Lea = refl
sample-passes Trivium = refl
sample-passes LightMac = refl
sample-passes Chaskey = refl
sample-passes Order = refl
sample-passes (Digits n) = are_digits-zeros n
sample-passes Counter = refl
sample-passes LightMacTag = refl
sample-passes ChaskeyTag = refl
sample-passes Hex = refl
sample-passes Wire = rw (decimal_digit 0 (omega arith)) refl
sample-passes Seed = rw (decimal_digit 0 (omega arith)) refl
sample-passes Count = rw (decimal_digit 1 (omega arith)) refl
sample-passes Circuit = refl

-- words that pass the tests
samples : List Test → List Word
samples [] = []
samples (t ∷ ts) = sample t ∷ samples ts

samples-match : (ts : List Test) (tail : Option Test) → Match ts tail (samples ts)
unfolding samples
samples-match [] None = tt
samples-match [] (Some t) = tt
samples-match (t ∷ ts) tail = (sample-passes t, samples-match ts tail)

-- the words that reach so far can go on to words of the form
pub goes_on : (ts : List Test) (tail : Option Test) (ws : List Word) (q : ℕ) → q ≤ reach ts tail ws →
    (rest : List Word) × Match ts tail (take q ws ++ rest)
goes_on ts tail ws zero h = (samples ts, samples-match ts tail)
goes_on [] None ws (suc q) h = absurd (omega arith)
goes_on [] (Some t) [] (suc q) h = absurd (omega arith)
goes_on [] (Some t) (w ∷ ws) (suc q) h = step (goes_on [] (Some t) ws q) (passes t w) refl h
  where
    step : (q ≤ reach [] (Some t) ws → (rest : List Word) × Match [] (Some t) (take q ws ++ rest)) → (b : Bool) → passes t w ≡ b →
        suc q ≤ cond b (suc (reach [] (Some t) ws)) 0 → (rest : List Word) × Match [] (Some t) (take (suc q) (w ∷ ws) ++ rest)
    step more true e h = let on = more (omega arith) in (on.0, (e, on.1))
    step more false e h = absurd (omega arith)
goes_on (t ∷ ts) tail [] (suc q) h = absurd (omega arith)
goes_on (t ∷ ts) tail (w ∷ ws) (suc q) h = step (goes_on ts tail ws q) (passes t w) refl h
  where
    step : (q ≤ reach ts tail ws → (rest : List Word) × Match ts tail (take q ws ++ rest)) → (b : Bool) → passes t w ≡ b →
        suc q ≤ cond b (suc (reach ts tail ws)) 0 → (rest : List Word) × Match (t ∷ ts) tail (take (suc q) (w ∷ ws) ++ rest)
    step more true e h = let on = more (omega arith) in (on.0, (e, on.1))
    step more false e h = absurd (omega arith)

-- and words that can go on reach so far
pub reach-goes_on : (ts : List Test) (tail : Option Test) (ws rest : List Word) (q : ℕ) → q ≤ length ws →
    Match ts tail (take q ws ++ rest) → q ≤ reach ts tail ws
reach-goes_on ts tail ws rest zero h m = omega arith
reach-goes_on [] None [] rest (suc q) h m = absurd (omega arith)
reach-goes_on [] None (w ∷ ws) rest (suc q) h m = absurd m
reach-goes_on [] (Some t) [] rest (suc q) h m = absurd (omega arith)
reach-goes_on [] (Some t) (w ∷ ws) rest (suc q) h m =
    rw m.0 (let on = reach-goes_on [] (Some t) ws rest q (omega arith) m.1 in omega arith)
reach-goes_on (t ∷ ts) tail [] rest (suc q) h m = absurd (omega arith)
reach-goes_on (t ∷ ts) tail (w ∷ ws) rest (suc q) h m =
    rw m.0 (let on = reach-goes_on ts tail ws rest q (omega arith) m.1 in omega arith)

-- words of the form are all reached, and are as many as the tests at least
pub reach-match : (ts : List Test) (tail : Option Test) (ws : List Word) → Match ts tail ws →
    (reach ts tail ws ≡ length ws) × (length ts ≤ length ws)
reach-match [] None [] m = (refl, omega arith)
reach-match [] None (w ∷ ws) m = absurd m
reach-match [] (Some t) [] m = (refl, omega arith)
reach-match [] (Some t) (w ∷ ws) m = let on = reach-match [] (Some t) ws m.1 in (rw m.0 (ap suc on.0), omega arith)
reach-match (t ∷ ts) tail [] m = absurd m
reach-match (t ∷ ts) tail (w ∷ ws) m = let on = reach-match ts tail ws m.1 in (rw m.0 (ap suc on.0), omega arith)

-- words that are all reached, and are as many as the tests at least, are of the form
pub match-reach : (ts : List Test) (tail : Option Test) (ws : List Word) → reach ts tail ws ≡ length ws → length ts ≤ length ws →
    Match ts tail ws
match-reach [] None [] e l = tt
match-reach [] None (w ∷ ws) e l = absurd (omega arith)
match-reach [] (Some t) [] e l = tt
match-reach [] (Some t) (w ∷ ws) e l = step (λ m. match-reach [] (Some t) ws m (omega arith)) (passes t w) refl e
  where
    step : (reach [] (Some t) ws ≡ length ws → Match [] (Some t) ws) → (b : Bool) → passes t w ≡ b →
        cond b (suc (reach [] (Some t) ws)) 0 ≡ suc (length ws) → Match [] (Some t) (w ∷ ws)
    step more true p e = (p, more (omega arith))
    step more false p e = absurd (omega arith)
match-reach (t ∷ ts) tail [] e l = absurd (omega arith)
match-reach (t ∷ ts) tail (w ∷ ws) e l = step (λ m. match-reach ts tail ws m (omega arith)) (passes t w) refl e
  where
    step : (reach ts tail ws ≡ length ws → Match ts tail ws) → (b : Bool) → passes t w ≡ b →
        cond b (suc (reach ts tail ws)) 0 ≡ suc (length ws) → Match (t ∷ ts) tail (w ∷ ws)
    step more true p e = (p, more (omega arith))
    step more false p e = absurd (omega arith)

-- no more words are reached than there are
pub reach-bound : (ts : List Test) (tail : Option Test) (ws : List Word) → reach ts tail ws ≤ length ws
reach-bound [] None ws = omega arith
reach-bound [] (Some t) [] = omega arith
reach-bound [] (Some t) (w ∷ ws) = step (reach-bound [] (Some t) ws) (passes t w)
  where
    step : reach [] (Some t) ws ≤ length ws → (b : Bool) → cond b (suc (reach [] (Some t) ws)) 0 ≤ suc (length ws)
    step on true = omega arith
    step on false = omega arith
reach-bound (t ∷ ts) tail [] = omega arith
reach-bound (t ∷ ts) tail (w ∷ ws) = step (reach-bound ts tail ws) (passes t w)
  where
    step : reach ts tail ws ≤ length ws → (b : Bool) → cond b (suc (reach ts tail ws)) 0 ≤ suc (length ws)
    step on true = omega arith
    step on false = omega arith

-- with no words left none is reached
reach-nil : (ts : List Test) (tail : Option Test) → reach ts tail [] ≡ 0
reach-nil [] None = refl
reach-nil [] (Some t) = refl
reach-nil (t ∷ ts) tail = refl

-- past the words nothing is reached
pub reach-drop_all : (ts : List Test) (tail : Option Test) (ws : List Word) (n : ℕ) → length ws ≤ n →
    reach (drop n ts) tail (drop n ws) ≡ 0
reach-drop_all ts tail ws n h = rw (drop_all n ws h) (reach-nil (drop n ts) tail)

-- a word of matching words passes the test at its place
pub Match-at : (ts : List Test) (tail : Option Test) (ws : List Word) (k : ℕ) → Match ts tail ws → k < length ts →
    passes (get_or ts k Given) (get_or ws k []) ≡ true
Match-at [] tail ws k m h = absurd (omega arith)
Match-at (t ∷ ts) tail [] k m h = absurd m
Match-at (t ∷ ts) tail (w ∷ ws) zero m h = m.0
Match-at (t ∷ ts) tail (w ∷ ws) (suc k) m h = Match-at ts tail ws k m.1 (omega arith)

-- and one past the tests passes that for further words
pub Match-past : (ts : List Test) (t : Test) (ws : List Word) (k : ℕ) → Match ts (Some t) ws → length ts ≤ k → k < length ws →
    passes t (get_or ws k []) ≡ true
Match-past [] t [] k m h l = absurd (omega arith)
Match-past [] t (w ∷ ws) zero m h l = m.0
Match-past [] t (w ∷ ws) (suc k) m h l = Match-past [] t ws k m.1 (omega arith) (omega arith)
Match-past (u ∷ ts) t [] k m h l = absurd m
Match-past (u ∷ ts) t (w ∷ ws) zero m h l = absurd (omega arith)
Match-past (u ∷ ts) t (w ∷ ws) (suc k) m h l = Match-past ts t ws k m.1 (omega arith) (omega arith)

-- words of a form that has no further words are as many as its tests
pub Match-length : (ts : List Test) (ws : List Word) → Match ts None ws → length ws ≡ length ts
Match-length [] [] m = refl
Match-length [] (w ∷ ws) m = absurd m
Match-length (t ∷ ts) [] m = absurd m
Match-length (t ∷ ts) (w ∷ ws) m = ap suc (Match-length ts ws m.1)
