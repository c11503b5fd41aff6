-- What a run has in shares, and outputs that become it.
use Rattle.std.proofs.Common.{◌≡◌, ℕ, ◌+◌, List, ◌++◌, map, length, take, drop, All, ap, ap₂, sym, ◌∙◌, arith}
use Rattle.std.proofs.lemmas.List.{map-append, drop-map, length-map, take-append-drop}
use Rattle.std.proofs.lemmas.List.Elements.{All-map}
use Rattle.mask_bits.specs.Reading.{bit}
use Rattle.mask_bits.specs.Lanes.{lane}
use Rattle.mask_trace.specs.Steps.{AsKey, Registers, kept}
use Rattle.mask_trace.specs.Traces.{BitShares}
use Rattle.mask_trace.specs.Values.{HasShares}
use Rattle.mask_chain.specs.Chains.{AreShares, registers}

shares-lane : (N : ℕ) (values : List (List ℕ)) → AreShares N values → All (λ shares. length shares ≡ N) (map (lane 0) values)
shares-lane N values own =
    All-map (λ shares. length shares ≡ N) (lane 0) values (λ k d lt. length-map _ (bit 0) ∙ own k d lt)

pub has_shares : (N : ℕ) (key state : List (List ℕ)) → AreShares N key → AreShares N state →
    HasShares N (length key) (length state) (registers key state)
has_shares N key state own_key own_state = record {
  key = length-map key (lane 0);
  state = length-map state (lane 0);
  key_shares = shares-lane N key own_key;
  state_shares = shares-lane N state own_state;
}

-- what stands in front
pub put_front : (outputs old places : List (List ℕ)) → take (0 + length outputs) places ≡ take 0 old ++ outputs →
    drop (0 + length outputs) places ≡ drop (0 + length outputs) old → places ≡ outputs ++ drop (length outputs) old
put_front outputs old places front rest =
    let none : 0 + length outputs ≡ length outputs = omega arith in
    sym (take-append-drop (0 + length outputs) places) ∙ ap₂ (λ (xs ys : List (List ℕ)). xs ++ ys) front rest
    ∙ ap (λ (n : ℕ). outputs ++ drop n old) none

pub registers-front : (outputs key state : List (List ℕ)) →
    registers (outputs ++ drop (length outputs) key) state ≡ kept AsKey (map (lane 0) outputs) (registers key state)
registers-front outputs key state =
    let keys : List BitShares → Registers BitShares = λ (k : List BitShares). record { key = k; state = map (lane 0) state } in
    ap keys (map-append (lane 0) outputs (drop (length outputs) key)
    ∙ ap (λ (rest : List BitShares). map (lane 0) outputs ++ rest)
    (sym (drop-map (lane 0) (length outputs) key) ∙ ap (λ (n : ℕ). drop n (map (lane 0) key)) (sym (length-map outputs (lane 0)))))
