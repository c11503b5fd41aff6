-- Privacy: what few wires show doesn't depend on the bits that are shared. It is the step from shares, of which the
-- probing model speaks, to plain bits (Ishai, Sahai and Wagner 2003).
use Rattle.std.specs.Prelude.{◌≡◌, ℕ, pred, ◌+◌, ◌*◌, ◌<◌, Bool, cond, List, length, take, drop}
use Rattle.mask_circuit.specs.Netlist.{Netlist}
use Rattle.mask_circuit.specs.Ring.{bits}
use Rattle.mask_circuit.specs.Wires.{Shares}
use Rattle.mask_circuit.specs.Expansion.{draws}
use Rattle.mask_circuit.specs.Probing.{hits, same_bits, seen, sum_over_tapes}
use Rattle.mask_circuit.specs.Sharing.{all_listed, all_shared}

-- N shares of each of the bits x: the first N - 1 coins share the first bit, the next ones the second, and so on
abbrev pub sharing : ℕ → List Bool → List Bool → ℕ → Shares Bool
sharing N x coins = all_listed bits (all_shared bits (pred N) x coins)

-- the sum of f over all sharings of the bits x
abbrev pub sum_over_sharings : ℕ → List Bool → ((ℕ → Shares Bool) → ℕ) → ℕ
sum_over_sharings N x f = sum_over_tapes (pred N * length x) (λ coins. f (sharing N x coins))

-- how many sharings of the input bits x, each with all tapes, show just the bits v on the wires P
abbrev pub private_hits : Netlist → ℕ → List Bool → List ℕ → List Bool → ℕ
private_hits c N x P v = sum_over_sharings N x (λ shares. hits c N shares P v)

-- Privacy: what any t wires show, t at most N - 1, has over all sharings and tapes the same distribution for any two
-- lists of input bits.
abbrev pub IsPrivate : Netlist → ℕ → Type 0
IsPrivate c N = (P : List ℕ) → length P < N → (x y : List Bool) → length x ≡ c.inputs → length y ≡ c.inputs →
    (v : List Bool) → private_hits c N x P v ≡ private_hits c N y P v

-- A call that draws all its coins from one tape r: the first of them share the input bits x, N - 1 for each, and
-- products and refreshes draw the next ones. This is what the wires P of such a call show ..
abbrev pub call_seen : Netlist → ℕ → List Bool → List Bool → List ℕ → List Bool
call_seen c N x r P = seen c N (sharing N x r) (take (draws c N) (drop (pred N * length x) r)) P

-- .. and how many tapes show just the bits v on them
abbrev pub call_hits : Netlist → ℕ → List Bool → List ℕ → List Bool → ℕ
call_hits c N x P v = sum_over_tapes (pred N * c.inputs + draws c N) (λ r. cond (same_bits (call_seen c N x r P) v) 1 0)

-- Privacy of such a call: what any t of its wires show, t at most N - 1, has over all tapes the same distribution for
-- any two lists of input bits.
abbrev pub IsPrivateCall : Netlist → ℕ → Type 0
IsPrivateCall c N = (P : List ℕ) → length P < N → (x y : List Bool) → length x ≡ c.inputs → length y ≡ c.inputs →
    (v : List Bool) → call_hits c N x P v ≡ call_hits c N y P v
