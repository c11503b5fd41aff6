-- The bytes of counters.
use Rattle.std.proofs.Common.{◌≡◌, ℕ, suc, ◌+◌, ◌-◌, ◌*◌, ◌/◌, ◌%◌, ◌^◌, ◌<◌, ◌≤◌, List, ◌++◌, length, drop, replicate, get_or, inl, inr, ap₂, ◌∙◌, arith, length-drop}
use Rattle.std.proofs.lemmas.List.{get_or-take, get_or-drop, get_or_append_left}
use Rattle.std.proofs.lemmas.Nat.{div-mul-add, mul-add-lt}
use Rattle.mask_shares.proofs.Lists.{is_each}
use Rattle.mask_modes.specs.CounterMode.{counter}
use Rattle.mask_modes.specs.Steps.{block_at}
use Rattle.mask_modes.proofs.Blocks.{length-block_at}
use Rattle.mask_counter.specs.Blocks.{IsBlockLength}

-- byte j of the counter of block i
abbrev pub counter_byte : ℕ → ℕ → ℕ → ℕ → ℕ
counter_byte b iv i j = (iv + i) % 2 ^ (8 * b) / 2 ^ (8 * (b - suc j)) % 2 ^ 8

-- a byte of a block that is there
byte_of_block : (b : ℕ) (bytes : List ℕ) (l j : ℕ) → j < b → l * b + j < length bytes → get_or (block_at b bytes l) j 0 ≡ get_or bytes (l * b + j) 0
byte_of_block b bytes l j below within =
    get_or-take b (drop (l * b) bytes ++ replicate b 0) j 0 below
    ∙ get_or_append_left (drop (l * b) bytes) (replicate b 0) 0 j (omega (arith, length-drop (l * b) bytes))
    ∙ get_or-drop (l * b) bytes j 0

-- bytes that are those of counters, block by block
pub counted : (b iv first : ℕ) (bytes : List ℕ) (l : ℕ) → IsBlockLength b → length bytes ≡ 1024 → l < 64 →
    ((k : ℕ) → k < 64 * b → get_or bytes k 0 ≡ counter_byte b iv (first + k / b) (k % b)) → block_at b bytes l ≡ counter b iv (first + l)
counted b iv first bytes l is many lt all =
    is_each (counter_byte b iv (first + l)) b (block_at b bytes l) (length-block_at b bytes l) (λ j hj.
    let bound : b ≤ 16 = elim is [ inl e ↦ omega arith | inr e ↦ omega arith ] in
    let within : l * b + j < 64 * b = (let h = mul-add-lt l b j 64 lt hj in omega arith) in
    let top : 64 * b ≤ 1024 = omega arith in
    let row : (l * b + j) / b ≡ l = div-mul-add l b j hj in
    let place : (l * b + j) % b ≡ j = elim is [ inl e ↦ rw e (let h : j < 8 = omega arith in omega arith) | inr e ↦ rw e (let h : j < 16 = omega arith in omega arith) ] in
    byte_of_block b bytes l j hj (omega arith) ∙ all (l * b + j) within
    ∙ ap₂ (λ (x y : ℕ). counter_byte b iv (first + x) y) row place)
