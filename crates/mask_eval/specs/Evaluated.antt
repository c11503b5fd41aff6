-- One evaluation with all that it draws.
use Rattle.std.specs.Prelude.{◌≡◌, ℕ, ◌+◌, ◌-◌, ◌*◌, ◌<◌, Bool, List, ◌++◌, length, map, take, drop, Option}
use Rattle.std.specs.List.{concat}
use Rattle.mask_bits.specs.Lanes.{lane}
use Rattle.mask_circuit.specs.Netlist.{Netlist}
use Rattle.mask_circuit.specs.Ring.{bits, words}
use Rattle.mask_circuit.specs.Value.{plain}
use Rattle.mask_circuit.specs.Expansion.{draws, outs}
use Rattle.mask_circuit.specs.Sharing.{all_listed, all_shared, unmasked}
use Rattle.mask_tape.specs.Tape.{IsDrawn}
use Rattle.mask_eval.specs.Watching.{Told, reports, told_more}

-- the shares of all inputs: those that were given, and between them those of plain words, each shared with the next coins
abbrev pub inputs_of : ℕ → List (List ℕ) → List ℕ → List (List ℕ) → List ℕ → List (List ℕ)
inputs_of N before ws behind coins = before ++ all_shared words (N - 1) ws coins ++ behind

-- how many coins each lane gets where n words are shared: first those of these words, and then those of products and refreshes
abbrev pub coin_count : Netlist → ℕ → ℕ → ℕ
coin_count c N n = (N - 1) * n + draws c N

-- the coins behind those of n words
abbrev pub coins_behind : Netlist → ℕ → ℕ → List ℕ → List ℕ
coins_behind c N n coins = take (draws c N) (drop ((N - 1) * n) coins)

-- The circuit was evaluated on N shares of each value, in so many lanes, where the plain words are ws. Its coins were drawn,
-- those of all lanes at once. The outputs are those of the circuit on the shares of its inputs and on the coins behind those of
-- the plain words, on words, and on bits in each lane; and they share the plain outputs on the bits that the inputs share.
-- The watch was told this evaluation.
pub record EvaluatesInLanes (c : Netlist) (N lanes : ℕ) (before : List (List ℕ)) (ws : List ℕ) (behind : List (List ℕ)) (kept kept' : List Bool)
    (left left' : Option (List ℕ)) (told told' : Option (List Told)) (outputs : List (List ℕ)) : Type 0 where
  pub coins : List ℕ
  pub drawn : IsDrawn kept kept' left left' lanes (coin_count c N (length ws)) coins
  pub on_words : outputs ≡ outs words c N (all_listed words (inputs_of N before ws behind coins)) (coins_behind c N (length ws) coins)
  pub on_bits : (l : ℕ) → l < 64 → map (lane l) outputs
      ≡ outs bits c N (all_listed bits (map (lane l) (inputs_of N before ws behind coins))) (lane l (coins_behind c N (length ws) coins))
  pub unmasked_are : (l : ℕ) → l < 64 → map (λ v. unmasked bits (lane l v)) outputs
      ≡ plain c (map (λ v. unmasked bits (lane l v)) (inputs_of N before ws behind coins))
  pub tells : told'
      ≡ told_more told (reports c (N - 1) (concat (inputs_of N before ws behind coins)) (coins_behind c N (length ws) coins) (concat outputs) lanes)
