-- Whole batches of 64 blocks.
use Rattle.std.proofs.Common.{◌≡◌, ℕ, ◌+◌, ◌-◌, ◌*◌, ◌/◌, ◌%◌, ◌<◌, ◌≤◌, ◌⊎◌, inl, inr, List, length, subst, sym, ap, ◌∙◌, arith}
use Rattle.std.proofs.lemmas.Bool.{cases_lt}
use Rattle.std.proofs.Math.Nat.{div-add-mod, mul-add-div_right, le-mul_of_pos_right}
use Rattle.mask_tasks.specs.declared.tasks.Task.{Task}
use Rattle.mask_tasks.specs.declared.tasks.Task.TheVariants.{Present, Lea, Trivium, LightMac, Chaskey}
use Rattle.mask_tasks.specs.Tasks.{longest_message}
use Rattle.mask_tasks.specs.Limits.{counter_bytes, longest_lightmac}
use Rattle.mask_tasks.proofs.Limits.{counter_bytes-bounds, each_counter}
use Rattle.mask_modes.specs.CounterMode.{block_count}
use Rattle.mask_modes.proofs.BlockCounts.{block_count-add, block_count-whole, block_count_grows}
use Rattle.mask_ciphers.specs.Methods.{Method, InCounterMode, AsStream, AsCode, AreBatches, IsCipher, MayEnd, batch}
use Rattle.mask_ciphers.specs.Tasks.{method_of}

-- so many bytes are 64 blocks of b bytes, n times
pub batches_of : (b bytes : ℕ) → bytes % (64 * b) ≡ 0 → bytes ≡ 64 * (bytes / (64 * b)) * b
batches_of b bytes whole = omega (arith, div-add-mod bytes (64 * b))

pub blocks_of_batches : (b bytes : ℕ) → 0 < b → bytes % (64 * b) ≡ 0 → block_count b bytes ≡ 64 * (bytes / (64 * b))
blocks_of_batches b bytes some whole =
    ap (block_count b) (batches_of b bytes whole) ∙ block_count-whole b (64 * (bytes / (64 * b))) some

-- so they are whole blocks, and some groups of 64
pub batches_are_blocks : (b bytes : ℕ) → 0 < b → bytes % (64 * b) ≡ 0 → bytes ≡ block_count b bytes * b
batches_are_blocks b bytes some whole =
    batches_of b bytes whole ∙ ap (λ (count : ℕ). count * b) (sym (blocks_of_batches b bytes some whole))

pub batches_are_groups : (b bytes : ℕ) → 0 < b → bytes % (64 * b) ≡ 0 → block_count b bytes % 64 ≡ 0
batches_are_groups b bytes some whole = let are = blocks_of_batches b bytes some whole in omega arith

-- the blocks of more bytes follow
pub blocks_follow : (b bytes more : ℕ) → 0 < b → bytes % (64 * b) ≡ 0 → block_count b (bytes + more) ≡ block_count b bytes + block_count b more
blocks_follow b bytes more some whole =
    ap (λ (n : ℕ). block_count b (n + more)) (batches_are_blocks b bytes some whole) ∙ block_count-add b (block_count b bytes) more some

-- the block of a byte
pub block_of_byte : (b k n : ℕ) → 0 < b → k < n → k / b < block_count b n
block_of_byte b k n some lt =
    let sum : k + 1 + (b - 1) ≡ 1 * b + k = omega arith in
    let is : block_count b (k + 1) ≡ 1 + k / b = ap (λ (x : ℕ). x / b) sum ∙ mul-add-div_right some 1 k in
    let grows : block_count b (k + 1) ≤ block_count b n = block_count_grows b (k + 1) n some (omega arith) in
    omega arith

-- there are no more blocks than bytes
pub blocks_are_few : (b n : ℕ) → 0 < b → block_count b n ≤ n
blocks_are_few b n some =
    let grows : block_count b n ≤ block_count b (n * b) = block_count_grows b n (n * b) some (le-mul_of_pos_right n some) in
    omega (arith, block_count-whole b n some)

-- some bytes are some blocks
pub some_blocks : (b n : ℕ) → 0 < b → 1 ≤ n → 1 ≤ block_count b n
some_blocks b n some one = omega (arith, block_of_byte b 0 n some one)

-- EVERY TASK

pub some_batch : (task : Task) → 0 < batch (method_of task)
some_batch (Present size iv) = omega arith
some_batch (Lea size iv) = omega arith
some_batch (Trivium iv) = omega arith
some_batch (LightMac size counter tag) = omega (arith, (counter_bytes-bounds counter).1)
some_batch (Chaskey tag) = omega arith

-- in counter mode a block has some bytes, and of a code a piece
abbrev pub HasBlocks : Method → Type 0
HasBlocks (InCounterMode m cipher) = 0 < m.block
HasBlocks (AsStream iv) = Unit {0}
HasBlocks (AsCode code) = 0 < code.piece_bytes

pub has_blocks : (task : Task) → HasBlocks (method_of task)
has_blocks (Present size iv) = omega arith
has_blocks (Lea size iv) = omega arith
has_blocks (Trivium iv) = tt
has_blocks (LightMac size counter tag) = omega (arith, (counter_bytes-bounds counter).1)
has_blocks (Chaskey tag) = omega arith

-- of LightMAC, with each length of a counter
pieces_reach : (s limit n k : ℕ) → (s ≡ 1) ⊎ ((s ≡ 2) ⊎ (s ≡ 4)) → limit ≡ longest_lightmac s → n % (8 - s) ≡ 0 → n ≤ longest_lightmac s →
    k ≤ 8 - s → limit < n + k → n ≡ limit
pieces_reach s limit n k (inl one) is whole within few over =
    subst (λ (s : ℕ). limit ≡ longest_lightmac s → n % (8 - s) ≡ 0 → n ≤ longest_lightmac s → k ≤ 8 - s → limit < n + k → n ≡ limit) (sym one)
    (λ is whole within few over. omega arith) is whole within few over
pieces_reach s limit n k (inr (inl two)) is whole within few over =
    subst (λ (s : ℕ). limit ≡ longest_lightmac s → n % (8 - s) ≡ 0 → n ≤ longest_lightmac s → k ≤ 8 - s → limit < n + k → n ≡ limit) (sym two)
    (λ is whole within few over. omega arith) is whole within few over
pieces_reach s limit n k (inr (inr four)) is whole within few over =
    subst (λ (s : ℕ). limit ≡ longest_lightmac s → n % (8 - s) ≡ 0 → n ≤ longest_lightmac s → k ≤ 8 - s → limit < n + k → n ≡ limit) (sym four)
    (λ is whole within few over. omega arith) is whole within few over

-- The longest message is whole batches: where more bytes pass it, whole batches have reached it.
pub batches_reach : (task : Task) (limit n k : ℕ) → limit ≡ longest_message task → AreBatches (method_of task) n → n ≤ longest_message task →
    k ≤ batch (method_of task) → limit < n + k → n ≡ limit
batches_reach (Present size iv) limit n k is whole within few over = omega arith
batches_reach (Lea size iv) limit n k is whole within few over = omega arith
batches_reach (Trivium iv) limit n k is whole within few over = omega arith
batches_reach (LightMac size counter tag) limit n k is whole within few over = pieces_reach (counter_bytes counter) limit n k (each_counter counter) is whole within few over
batches_reach (Chaskey tag) limit n k is whole within few over = omega arith

-- whole pieces that reach the longest message with one more fill it
pub pieces_fill : (task : Task) (limit n k : ℕ) → limit ≡ longest_message task → AreBatches (method_of task) n → k ≡ batch (method_of task) → n < limit → limit ≤ n + k →
    n + k ≡ limit
pieces_fill task limit n k is whole all room reached = go (cases_lt limit (n + k))
  where
    go : (limit < n + k) ⊎ (n + k ≤ limit) → n + k ≡ limit
    go (inl over) = let at : n ≡ limit = batches_reach task limit n k is whole (omega arith) (omega arith) over in absurd (omega arith)
    go (inr within) = omega arith

-- a message may end with a batch or less, of some bytes where it began
pub may_end : (task : Task) (n : ℕ) (piece : List ℕ) → length piece ≤ batch (method_of task) → (0 < n → 0 < length piece) → MayEnd (method_of task) n piece
may_end (Present size iv) n piece few some = tt
may_end (Lea size iv) n piece few some = tt
may_end (Trivium iv) n piece few some = tt
may_end (LightMac size counter tag) n piece few some = (few, some)
may_end (Chaskey tag) n piece few some = (few, some)

-- a task writes a ciphertext or a tag
pub cipher_or_tag : (task : Task) → IsCipher (method_of task) ⊎ (IsCipher (method_of task) → ⊥)
cipher_or_tag (Present size iv) = inl tt
cipher_or_tag (Lea size iv) = inl tt
cipher_or_tag (Trivium iv) = inl tt
cipher_or_tag (LightMac size counter tag) = inr (λ is. is)
cipher_or_tag (Chaskey tag) = inr (λ is. is)
