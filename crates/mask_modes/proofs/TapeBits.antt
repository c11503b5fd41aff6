-- How many bits of the tape the steps of a message take.
use Rattle.std.proofs.Common.{◌≡◌, ℕ, suc, pred, ◌+◌, ◌-◌, ◌*◌, ◌/◌, ◌%◌, Bool, true, false, not, ◌&&◌, ◌==◌, cond, List, [], ◌∷◌, ◌++◌, map, length, All, refl, ap, ap₂, sym, ◌∙◌, arith, eqb-true}
use Rattle.std.proofs.lemmas.Bool.{eqb-false}
use Rattle.std.proofs.lemmas.List.Elements.{All-tail}
use Rattle.mask_circuit.specs.Wires.{each}
use Rattle.mask_circuit.specs.Expansion.{draws}
use Rattle.mask_circuit.proofs.Places.{length-each}
use Rattle.mask_trace.specs.Steps.{Public, Plain, Key, plain_bits, stretch, bits_of}
use Rattle.mask_trace.proofs.Inputs.{inputs_stand_in_parts}
use Rattle.mask_trace.proofs.Traces.{traces_split, bits_of-cons}
use Rattle.mask_modes.specs.CounterMode.{block_count}
use Rattle.mask_modes.specs.Steps.{Cipher, Mode, Enciphers, block_at, blocks, block_step, refresh_step, steps_from, steps_of, ahead_of, is_due}
use Rattle.mask_modes.specs.Laws.{RunBits}
use Rattle.mask_modes.proofs.Blocks.{blocks_are_long}

-- the message bits behind a key and public bits
plain_bits-behind : (k : ℕ) (public message : List Bool) → plain_bits (each Key k ++ (map Public public ++ map Plain message)) ≡ message
plain_bits-behind k public message =
    inputs_stand_in_parts.bits_of_both (each Key k) (map Public public ++ map Plain message)
    ∙ ap₂ (λ (l r : List Bool). l ++ r) (inputs_stand_in_parts.bits_of_key k)
    (inputs_stand_in_parts.bits_of_both (map Public public) (map Plain message)
    ∙ ap₂ (λ (l r : List Bool). l ++ r) (inputs_stand_in_parts.bits_of_publics public) (inputs_stand_in_parts.bits_of_plains message))

-- the message bits of a block are its bits
pub plain_bits-block : (m : Mode) (i : ℕ) (block : List ℕ) → plain_bits (block_step m i block).inputs ≡ m.reading block
plain_bits-block m i block = plain_bits-behind m.key _ (m.reading block)

-- one refresh more, where one is due
refreshes-more : (i : ℕ) → (suc i + 63) / 64 - 1 ≡ (i + 63) / 64 - 1 + cond (is_due i) 1 0
refreshes-more i = go (i % 64 == 0) (i == 0) refl refl
  where
    go : (whole none : Bool) → (i % 64 == 0) ≡ whole → (i == 0) ≡ none → (suc i + 63) / 64 - 1 ≡ (i + 63) / 64 - 1 + cond (whole && not none) 1 0
    go true true is first = let e : i ≡ 0 = eqb-true i 0 first in omega arith
    go true false is first =
        let e : i % 64 ≡ 0 = eqb-true (i % 64) 0 is in
        let ne : i ≡ 0 → ⊥ = eqb-false i 0 first in
        omega arith
    go false none is first = let ne : i % 64 ≡ 0 → ⊥ = eqb-false (i % 64) 0 is in omega arith

-- one block more, with a refresh ahead of it where one is due
one_more : (ahead due refresh block rest before after count : ℕ) → ahead ≡ due * refresh → rest + (before + due) * refresh ≡ count * block + after * refresh →
    ahead + (block + rest) + before * refresh ≡ suc count * block + after * refresh
one_more ahead due refresh block rest before after count a e = omega arith

module _ (N : ℕ) (m : Mode) (cipher : Cipher) (is : Enciphers cipher m) where
  stretch-block : (i : ℕ) (block : List ℕ) → length block ≡ m.block → stretch N (block_step m i block) ≡ pred N * (8 * m.block) + draws m.circuit N
  stretch-block i block e =
      ap (λ (k : ℕ). pred N * k + draws m.circuit N) (ap length (plain_bits-block m i block) ∙ is.reads.count block ∙ ap (λ (k : ℕ). 8 * k) e)

  stretch-refresh : stretch N (refresh_step m) ≡ draws m.refresh N
  stretch-refresh = ap (λ (l : List Bool). pred N * length l + draws m.refresh N) (inputs_stand_in_parts.bits_of_key m.key) ∙ omega arith

  -- ahead of a block
  bits-due : (due : Bool) → bits_of N (cond due (refresh_step m ∷ []) []) ≡ cond due 1 0 * draws m.refresh N
  bits-due true = omega (arith, stretch-refresh)
  bits-due false = omega arith

  -- what blocks take, where there were (i + 63) / 64 - 1 refreshes ahead of the first i
  bits_from : (i : ℕ) (part : List (List ℕ)) → All (λ block. length block ≡ m.block) part →
      bits_of N (steps_from m i part) + ((i + 63) / 64 - 1) * draws m.refresh N
      ≡ length part * (pred N * (8 * m.block) + draws m.circuit N) + ((i + length part + 63) / 64 - 1) * draws m.refresh N
  unfolding steps_from
  bits_from i [] all = let e : i + 0 ≡ i = omega arith in rw e (omega arith)
  bits_from i (block ∷ part) all =
      let ahead = ahead_of m i in
      let rest = steps_from m (suc i) part in
      let stretches : bits_of N (ahead ++ block_step m i block ∷ rest) ≡ bits_of N ahead + ((pred N * (8 * m.block) + draws m.circuit N) + bits_of N rest)
      = traces_split.bits N ahead (block_step m i block ∷ rest)
      ∙ ap (λ (k : ℕ). bits_of N ahead + k) (bits_of-cons N (block_step m i block) rest ∙ ap (λ (k : ℕ). k + bits_of N rest) (stretch-block i block (all 0 [] (omega arith)))) in
      let e : suc i + length part ≡ i + suc (length part) = omega arith in
      ap (λ (k : ℕ). k + ((i + 63) / 64 - 1) * draws m.refresh N) stretches
      ∙ one_more (bits_of N ahead) (cond (is_due i) 1 0) (draws m.refresh N) (pred N * (8 * m.block) + draws m.circuit N) (bits_of N rest)
      ((i + 63) / 64 - 1) ((i + suc (length part) + 63) / 64 - 1) (length part) (bits-due (is_due i))
      (ap (λ (k : ℕ). bits_of N rest + k * draws m.refresh N) (sym (refreshes-more i))
      ∙ bits_from (suc i) part (All-tail (λ block. length block ≡ m.block) block part all)
      ∙ ap (λ (k : ℕ). length part * (pred N * (8 * m.block) + draws m.circuit N) + ((k + 63) / 64 - 1) * draws m.refresh N) e)

pub run_bits : RunBits
run_bits N m cipher message is =
    let count = block_count m.block (length message) in
    let all : length (blocks m.block message) ≡ count = length-each (block_at m.block message) count in
    let none : bits_of N (steps_of m message) ≡ bits_of N (steps_of m message) + ((0 + 63) / 64 - 1) * draws m.refresh N = omega arith in
    let end : 0 + length (blocks m.block message) ≡ count = omega arith in
    none
    ∙ bits_from N m cipher is 0 (blocks m.block message) (blocks_are_long m.block message)
    ∙ ap₂ (λ (k n : ℕ). k * (pred N * (8 * m.block) + draws m.circuit N) + ((n + 63) / 64 - 1) * draws m.refresh N) all end
