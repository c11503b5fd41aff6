-- The steps of counter mode are a strong plan, and depend on the message in its bits alone.
use Rattle.std.proofs.Common.{◌≡◌, ℕ, suc, ◌+◌, ◌*◌, Bool, true, false, cond, List, [], ◌∷◌, ◌++◌, map, length, All, refl, ap, ap₂, sym, subst, ◌∙◌, arith, length-append}
use Rattle.std.proofs.lemmas.List.{length-map, map-append, append-nil}
use Rattle.std.proofs.lemmas.List.Elements.{All-nil, All-tail, All-append, All-map}
use Rattle.mask_circuit.specs.Wires.{each}
use Rattle.mask_circuit.proofs.Places.{length-each}
use Rattle.mask_trace.specs.Steps.{InputBit, Public, Plain, Key, Step, IsThere, IsNotHeld, IsStrongStep, IsStrongPlan}
use Rattle.mask_trace.specs.Privacy.{AreAlike, without_message}
use Rattle.mask_trace.proofs.Showing.{plans_are_private}
use Rattle.mask_trace.proofs.Taking.{IsOnce, held_once, inputs_are_alike, with_inputs}
use Rattle.mask_modes.specs.CounterMode.{block_count}
use Rattle.mask_modes.specs.Steps.{Cipher, Mode, Enciphers, blocks, block_step, refresh_step, steps_from, steps_of, is_due}
use Rattle.mask_modes.specs.Laws.{StepsAreStrong, RunsArePrivate}
use Rattle.mask_modes.proofs.Keystreams.{length-counter}
use Rattle.mask_modes.proofs.Blocks.{blocks_are_long}
use Rattle.mask_laws.proofs.CircuitNames.{All-each}

-- THE KEY

-- the whole key is there ..
key_there : (k s : ℕ) → All (IsThere k s) (each Key k)
key_there k s = All-each (IsThere k s) Key k (λ i lt. lt)

-- and nothing of it twice, before bits that no register holds
key_once : (k : ℕ) (more : List InputBit) → All IsNotHeld more → IsOnce (each Key k ++ more)
key_once k more none = held_once Key (λ i j same. cc) k more none

-- the key, public bits and message bits: all are there, and none of a register twice
all_there : (k : ℕ) (public message : List Bool) → All (IsThere k 0) (each Key k ++ (map Public public ++ map Plain message))
all_there k public message =
    All-append (IsThere k 0) (each Key k) (map Public public ++ map Plain message) (key_there k 0)
    (All-append (IsThere k 0) (map Public public) (map Plain message)
    (All-map (IsThere k 0) Public public (λ i d lt. tt)) (All-map (IsThere k 0) Plain message (λ i d lt. tt)))

all_once : (k : ℕ) (public message : List Bool) → IsOnce (each Key k ++ (map Public public ++ map Plain message))
all_once k public message =
    key_once k (map Public public ++ map Plain message)
    (All-append IsNotHeld (map Public public) (map Plain message)
    (All-map IsNotHeld Public public (λ i d lt. tt)) (All-map IsNotHeld Plain message (λ i d lt. tt)))

length-all : (k : ℕ) (public message : List Bool) → length (each Key k ++ (map Public public ++ map Plain message)) ≡ k + (length public + length message)
length-all k public message =
    length-append (each Key k) (map Public public ++ map Plain message)
    ∙ ap₂ (λ (a b : ℕ). a + b) (length-each Key k)
    (length-append (map Public public) (map Plain message) ∙ ap₂ (λ (a b : ℕ). a + b) (length-map public Public) (length-map message Plain))

-- MESSAGE BITS

-- the inputs of a block with as many message bits are the same but for these
blocks_are_alike : (k : ℕ) (public xs ys : List Bool) → length xs ≡ length ys →
    map without_message (each Key k ++ (map Public public ++ map Plain xs)) ≡ map without_message (each Key k ++ (map Public public ++ map Plain ys))
blocks_are_alike k public xs ys e =
    map-append without_message (each Key k) (map Public public ++ map Plain xs)
    ∙ ap (λ l. map without_message (each Key k) ++ l) (inputs_are_alike (map Public public) xs ys e)
    ∙ sym (map-append without_message (each Key k) (map Public public ++ map Plain ys))

module _ (m : Mode) (cipher : Cipher) (is : Enciphers cipher m) where
  pub block_step_is_strong : (i : ℕ) (block : List ℕ) → length block ≡ m.block → IsStrongStep m.key 0 (block_step m i block)
  block_step_is_strong i block e =
      let bits : (bytes : List ℕ) → length bytes ≡ m.block → length (m.reading bytes) ≡ 8 * m.block = λ bytes size. is.reads.count bytes ∙ ap (λ (n : ℕ). 8 * n) size in
      record {
        formed = is.circuits.formed;
        strong = is.circuits.strong;
        count = length-all m.key _ (m.reading block) ∙ ap₂ (λ (a b : ℕ). m.key + (a + b)) (bits _ (length-counter m.block m.iv _)) (bits block e) ∙ sym is.circuits.inputs;
        there = all_there m.key _ (m.reading block);
        once = all_once m.key _ (m.reading block);
        fit = tt;
      }

  pub refresh_step_is_strong : IsStrongStep m.key 0 (refresh_step m)
  refresh_step_is_strong = record {
    formed = is.circuits.refresh_formed;
    strong = is.circuits.refresh_strong;
    count = length-each Key m.key ∙ sym is.circuits.refresh_inputs;
    there = key_there m.key 0;
    once = subst IsOnce (append-nil (each Key m.key)) (key_once m.key [] (All-nil IsNotHeld));
    fit = omega (arith, is.circuits.refresh_outputs);
  }

  plan_is_strong : (i : ℕ) (part : List (List ℕ)) → All (λ block. length block ≡ m.block) part → IsStrongPlan m.key 0 (steps_from m i part)
  unfolding steps_from
  plan_is_strong i [] all = tt
  plan_is_strong i (block ∷ part) all =
      go (is_due i) (block_step_is_strong i block (all 0 [] (omega arith))) (plan_is_strong (suc i) part (All-tail (λ b. length b ≡ m.block) block part all))
    where
      go : (due : Bool) → IsStrongStep m.key 0 (block_step m i block) → IsStrongPlan m.key 0 (steps_from m (suc i) part) →
          IsStrongPlan m.key 0 (cond due (refresh_step m ∷ []) [] ++ block_step m i block ∷ steps_from m (suc i) part)
      go true first rest = (refresh_step_is_strong, (first, rest))
      go false first rest = (first, rest)

  steps_are_alike : (i : ℕ) (part other : List (List ℕ)) → All (λ block. length block ≡ m.block) part → All (λ block. length block ≡ m.block) other →
      length part ≡ length other → AreAlike (steps_from m i part) (steps_from m i other)
  unfolding steps_from
  steps_are_alike i [] [] all all' e = refl
  steps_are_alike i [] (b ∷ other) all all' e = absurd (omega arith)
  steps_are_alike i (b ∷ part) [] all all' e = absurd (omega arith)
  steps_are_alike i (block ∷ part) (block' ∷ other) all all' e =
      go (is_due i)
      (ap₂ (λ (is : List InputBit) (l : List Step). with_inputs is (block_step m i block) ∷ l)
      (blocks_are_alike m.key _ (m.reading block) (m.reading block')
      (is.reads.count block ∙ ap (λ (n : ℕ). 8 * n) (all 0 [] (omega arith) ∙ sym (all' 0 [] (omega arith))) ∙ sym (is.reads.count block')))
      (steps_are_alike (suc i) part other (All-tail (λ b. length b ≡ m.block) block part all) (All-tail (λ b. length b ≡ m.block) block' other all') (omega arith)))
    where
      go : (due : Bool) → AreAlike (block_step m i block ∷ steps_from m (suc i) part) (block_step m i block' ∷ steps_from m (suc i) other) →
          AreAlike (cond due (refresh_step m ∷ []) [] ++ block_step m i block ∷ steps_from m (suc i) part)
          (cond due (refresh_step m ∷ []) [] ++ block_step m i block' ∷ steps_from m (suc i) other)
      go true rest = ap (λ (l : List Step). with_inputs (map without_message (each Key m.key)) (refresh_step m) ∷ l) rest
      go false rest = rest

pub steps_are_strong : StepsAreStrong
steps_are_strong = record {
  strong = λ m cipher i part is all. plan_is_strong m cipher is i part all;
  alike = λ m cipher message other is e.
      steps_are_alike m cipher is 0 (blocks m.block message) (blocks m.block other) (blocks_are_long m.block message) (blocks_are_long m.block other)
      (length-each _ _ ∙ ap (block_count m.block) e ∙ sym (length-each _ _));
}

pub runs_are_private : RunsArePrivate
runs_are_private N m cipher message other two is same P few key key' size size' v =
    plans_are_private N m.key (steps_of m message) two (steps_are_strong.strong m cipher 0 (blocks m.block message) is (blocks_are_long m.block message)) P few
    (steps_of m other) (steps_are_strong.alike m cipher message other is same) key key' size size' v
