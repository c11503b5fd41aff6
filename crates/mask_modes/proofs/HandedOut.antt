-- What the steps of counter mode hand out stands for the ciphertext.
use Rattle.std.proofs.Common.{◌≡◌, ℕ, suc, ◌+◌, ◌/◌, ◌≤◌, Bool, true, false, cond, List, [], ◌∷◌, ◌++◌, map, length, take, drop, get_or, All, refl, ap, ap₂, sym, ◌∙◌, arith, add-zero}
use Rattle.std.specs.List.{concat}
use Rattle.std.proofs.Math.ListN.{get_or-map}
use Rattle.std.proofs.lemmas.List.{length-map}
use Rattle.std.proofs.lemmas.List.Concat.{concat_is}
use Rattle.std.proofs.lemmas.List.Elements.{All-tail}
use Rattle.mask_bits.specs.Reading.{bit, AreBytes}
use Rattle.mask_circuit.specs.Ring.{bits}
use Rattle.mask_circuit.specs.Wires.{each}
use Rattle.mask_circuit.specs.Sharing.{unmasked}
use Rattle.mask_circuit.proofs.Places.{length-each}
use Rattle.mask_shares.proofs.Lists.{get_or-each, map-each, each-same, each-first}
use Rattle.mask_gadget.proofs.Made.{flat_map-each}
use Rattle.mask_trace.specs.Steps.{Registers, stretch}
use Rattle.mask_trace.specs.Traces.{BitShares, output_shares, after_step}
use Rattle.mask_modes.specs.CounterMode.{block_count, counter, ciphertext_from, xor_bytes}
use Rattle.mask_modes.specs.Readings.{IsReading}
use Rattle.mask_modes.specs.Steps.{Cipher, Mode, Enciphers, IsBlock, block_at, blocks, block_step, refresh_step, steps_from, is_due}
use Rattle.mask_modes.specs.Outputs.{key_of, HasKey, ciphertext_block, handed_out, StandFor}
use Rattle.mask_modes.specs.Laws.{OutputsStandForCiphertext, OutputsAreBits}
use Rattle.mask_modes.proofs.CiphertextBlocks.{ciphertext_whole, ciphertext_byte}
use Rattle.mask_modes.proofs.Keystreams.{counter_is_block, makes_blocks}
use Rattle.mask_modes.proofs.Encrypting.{encrypted, refreshed}
use Rattle.mask_laws.proofs.CircuitNames.{All-each}
use Rattle.mask_modes.proofs.Blocks.{block_at_is_block, xor_is_block}

-- blocks are known by their readings
same_blocks : (m : Mode) → IsReading m.reading → (xs ys : List (List ℕ)) → All (IsBlock m) xs → All (IsBlock m) ys → map m.reading xs ≡ map m.reading ys → xs ≡ ys
same_blocks m is [] [] all all' same = refl
same_blocks m is [] (y ∷ ys) all all' same = cc
same_blocks m is (x ∷ xs) [] all all' same = cc
same_blocks m is (x ∷ xs) (y ∷ ys) all all' same =
    let front : m.reading x ≡ m.reading y = cc in
    let back : map m.reading xs ≡ map m.reading ys = cc in
    ap₂ (λ (z : List ℕ) (zs : List (List ℕ)). z ∷ zs) (is.one_to_one x y (all 0 [] (omega arith)).1 (all' 0 [] (omega arith)).1 front)
    (same_blocks m is xs ys (All-tail (IsBlock m) x xs all) (All-tail (IsBlock m) y ys all') back)

module _ (N : ℕ) (m : Mode) (cipher : Cipher) (two : 2 ≤ N) (is : Enciphers cipher m) where
  ciphertext_block_is_block : (key : List Bool) (i : ℕ) (part : List ℕ) (j : ℕ) → length key ≡ m.key → AreBytes part →
      IsBlock m (ciphertext_block m.block m.iv (cipher key) i part j)
  ciphertext_block_is_block key i part j size are =
      xor_is_block m (block_at m.block part j) (cipher key (counter m.block m.iv (i + j))) (block_at_is_block m part j are)
      (is.is_block key (counter m.block m.iv (i + j)) size (counter_is_block m (i + j)))

  -- blocks that read as the ciphertext are the ciphertext
  ends_in_ciphertext : (key : List Bool) (i : ℕ) (part : List ℕ) (outputs : List (List BitShares)) (out : List (List ℕ)) →
      length key ≡ m.key → AreBytes part → StandFor m outputs out →
      map (map (unmasked bits)) outputs ≡ map m.reading (each (ciphertext_block m.block m.iv (cipher key) i part) (block_count m.block (length part))) →
      take (length part) (concat out) ≡ ciphertext_from m.block m.iv (cipher key) i part
  ends_in_ciphertext key i part outputs out size are stand same =
      let n = block_count m.block (length part) in
      let block = ciphertext_block m.block m.iv (cipher key) i part in
      let all : All (IsBlock m) (each block n) = All-each (IsBlock m) block n (λ j lt. ciphertext_block_is_block key i part j size are) in
      ap (λ (l : List (List ℕ)). take (length part) (concat l)) (same_blocks m is.reads out (each block n) stand.are_blocks all (stand.read ∙ same))
      ∙ ap (take (length part)) (concat_is (each block n) ∙ flat_map-each (λ x. x) block n)
      ∙ sym (ciphertext_whole m.block m.iv (cipher key) is.circuits.some (makes_blocks m cipher key is size) i part)

  -- what blocks share one by one
  blocks_encrypted : (have : Registers BitShares) (i : ℕ) (part : List ℕ) (r : ℕ → List Bool) → HasKey N m have → AreBytes part →
      map (map (unmasked bits)) (each (λ l. output_shares N have (block_step m (i + l) (block_at m.block part l)) (r l)) (block_count m.block (length part)))
      ≡ map m.reading (each (ciphertext_block m.block m.iv (cipher (key_of have)) i part) (block_count m.block (length part)))
  blocks_encrypted have i part r has are =
      let n = block_count m.block (length part) in
      map-each (map (unmasked bits)) (λ l. output_shares N have (block_step m (i + l) (block_at m.block part l)) (r l)) n
      ∙ each-same _ _ n (λ l lt. encrypted N m cipher two is have (i + l) (block_at m.block part l) (r l) has (block_at_is_block m part l are))
      ∙ sym (map-each m.reading (ciphertext_block m.block m.iv (cipher (key_of have)) i part) n)

  -- one block more in front
  handed_block : (key : List Bool) (now : Registers BitShares) (i : ℕ) (block : List ℕ) (part : List (List ℕ)) (r : List Bool) →
      HasKey N m now → key_of now ≡ key → IsBlock m block →
      map (map (unmasked bits)) (handed_out N now (steps_from m (suc i) part) (drop (stretch N (block_step m i block)) r))
      ≡ map m.reading (each (λ j. xor_bytes (get_or part j []) (cipher key (counter m.block m.iv (suc i + j)))) (length part)) →
      map (map (unmasked bits)) (handed_out N now (block_step m i block ∷ steps_from m (suc i) part) r)
      ≡ map m.reading (each (λ j. xor_bytes (get_or (block ∷ part) j []) (cipher key (counter m.block m.iv (i + j)))) (suc (length part)))
  unfolding handed_out
  handed_block key now i block part r has is_key block_is more =
      let xors : ℕ → List ℕ = λ j. xor_bytes (get_or (block ∷ part) j []) (cipher key (counter m.block m.iv (i + j))) in
      ap₂ (λ (bs : List Bool) (rest : List (List Bool)). bs ∷ rest)
      (encrypted N m cipher two is now i block r has block_is
      ∙ ap₂ (λ (k : List Bool) (n : ℕ). m.reading (xor_bytes block (cipher k (counter m.block m.iv n)))) is_key (sym (add-zero i)))
      (more
      ∙ ap (map m.reading) (each-same _ (λ j. xors (suc j)) (length part)
      (λ j lt. let e : suc i + j ≡ i + suc j = omega arith in ap (λ (n : ℕ). xor_bytes (get_or part j []) (cipher key (counter m.block m.iv n))) e)))
      ∙ ap (map m.reading) (sym (each-first xors (length part)))

  -- what a run hands out of blocks, under the key that it has all along
  handed : (key : List Bool) (have : Registers BitShares) (i : ℕ) (part : List (List ℕ)) (r : List Bool) → HasKey N m have → key_of have ≡ key → All (IsBlock m) part →
      map (map (unmasked bits)) (handed_out N have (steps_from m i part) r)
      ≡ map m.reading (each (λ j. xor_bytes (get_or part j []) (cipher key (counter m.block m.iv (i + j)))) (length part))
  unfolding handed_out steps_from
  handed key have i [] r has is_key all = refl
  handed key have i (block ∷ part) r has is_key all =
      go (is_due i) (λ now rest has is_key. handed key now (suc i) part rest has is_key (All-tail (IsBlock m) block part all))
    where
      go : (due : Bool) →
          ((now : Registers BitShares) (rest : List Bool) → HasKey N m now → key_of now ≡ key →
          map (map (unmasked bits)) (handed_out N now (steps_from m (suc i) part) rest)
          ≡ map m.reading (each (λ j. xor_bytes (get_or part j []) (cipher key (counter m.block m.iv (suc i + j)))) (length part))) →
          map (map (unmasked bits)) (handed_out N have (cond due (refresh_step m ∷ []) [] ++ block_step m i block ∷ steps_from m (suc i) part) r)
          ≡ map m.reading (each (λ j. xor_bytes (get_or (block ∷ part) j []) (cipher key (counter m.block m.iv (i + j)))) (suc (length part)))
      go true more =
          let now = after_step N have (refresh_step m) r in
          let first = refreshed N m cipher two is have r has in
          let rest = drop (stretch N (refresh_step m)) r in
          handed_block key now i block part rest first.0 (first.1 ∙ is_key) (all 0 [] (omega arith))
          (more now (drop (stretch N (block_step m i block)) rest) first.0 (first.1 ∙ is_key))
      go false more =
          handed_block key have i block part r has is_key (all 0 [] (omega arith)) (more have (drop (stretch N (block_step m i block)) r) has is_key)

pub outputs_stand_for_ciphertext : OutputsStandForCiphertext
outputs_stand_for_ciphertext = record {
  run = λ N m cipher have i part r out two is has are stand.
      let n = block_count m.block (length part) in
      let xors : (ℕ → List ℕ) → ℕ → List ℕ = λ block j. xor_bytes (block j) (cipher (key_of have) (counter m.block m.iv (i + j))) in
      let all : All (IsBlock m) (blocks m.block part) = All-each (IsBlock m) (block_at m.block part) n (λ j lt. block_at_is_block m part j are) in
      ends_in_ciphertext N m cipher two is (key_of have) i part (handed_out N have (steps_from m i (blocks m.block part)) r) out (length-map have.key _ ∙ has.key) are stand
      (handed N m cipher two is (key_of have) have i (blocks m.block part) r has refl all
      ∙ ap (map m.reading)
      (ap (each (xors (λ j. get_or (blocks m.block part) j []))) (length-each (block_at m.block part) n)
      ∙ each-same _ _ n (λ j lt. ap (λ (block : List ℕ). xor_bytes block (cipher (key_of have) (counter m.block m.iv (i + j)))) (get_or-each (block_at m.block part) n j [] lt))));
  lanes = λ N m cipher have i part r out two is has are stand.
      ends_in_ciphertext N m cipher two is (key_of have) i part _ out (length-map have.key _ ∙ has.key) are stand (blocks_encrypted N m cipher two is have i part r has are);
}

pub outputs_are_bits : OutputsAreBits
outputs_are_bits N m cipher have i part r k p place two is has are lt reads =
    let j = k / m.block in
    let block = ciphertext_block m.block m.iv (cipher (key_of have)) i part j in
    let size : length (key_of have) ≡ m.key = length-map have.key _ ∙ has.key in
    sym (get_or-map (unmasked bits) (output_shares N have (block_step m (i + j) (block_at m.block part j)) r) place [])
    ∙ ap (λ (bs : List Bool). get_or bs place false) (encrypted N m cipher two is have (i + j) (block_at m.block part j) r has (block_at_is_block m part j are))
    ∙ reads block (ciphertext_block_is_block N m cipher two is (key_of have) i part j size are)
    ∙ ap (bit p) (sym (ciphertext_byte m.block m.iv (cipher (key_of have)) is.circuits.some (makes_blocks m cipher (key_of have) is size) i part k lt))
