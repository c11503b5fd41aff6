-- The block cipher LEA (ISO/IEC 29192-2:2019; Hong and others, WISA 2013) on words.
--
-- A word is a number below 2 ^ 32. A block is four words, and a key four, six or eight.
use Rattle.std.specs.Prelude.{ℕ, ◌+◌, ◌-◌, ◌*◌, ◌%◌, ◌^◌, List, [], ◌∷◌, length, map, bit_xor, slice_index, slice_set}
use Rattle.mask_tasks.specs.declared.sizes.LeaSize.{LeaSize}
use Rattle.mask_tasks.specs.declared.sizes.LeaSize.TheVariants.{K128, K192, K256}
use Rattle.mask_parts.specs.Turns.{in_turn}
use Rattle.mask_parts.specs.Words32.{rol32, words_of, joined}

-- What the size of a key decides: how many rounds there are; how many words the key has; by how many places a round
-- rotates each word of the key that it updates, in order; and which of these words are its round key.
pub record Schedule : Type 0 where
  pub rounds : ℕ
  pub words : ℕ
  pub turns : List ℕ
  pub taken : List ℕ

abbrev pub schedule : LeaSize → Schedule
schedule K128 = record { rounds = 24; words = 4; turns = 1 ∷ (3 ∷ (6 ∷ (11 ∷ []))); taken = 0 ∷ (1 ∷ (2 ∷ (1 ∷ (3 ∷ (1 ∷ []))))) }
schedule K192 = record { rounds = 28; words = 6; turns = 1 ∷ (3 ∷ (6 ∷ (11 ∷ (13 ∷ (17 ∷ []))))); taken = 0 ∷ (1 ∷ (2 ∷ (3 ∷ (4 ∷ (5 ∷ []))))) }
schedule K256 = record { rounds = 32; words = 8; turns = 1 ∷ (3 ∷ (6 ∷ (11 ∷ (13 ∷ (17 ∷ []))))); taken = 0 ∷ (1 ∷ (2 ∷ (3 ∷ (4 ∷ (5 ∷ []))))) }

-- the constants of the key schedule
unfoldable pub deltas : List ℕ
deltas = 0xc3efe9db ∷ (0x44626b02 ∷ (0x79e27c8a ∷ (0x78df30ec ∷ (0x715ea49e ∷ (0xc785da0a ∷ (0xe04ef22a ∷ (0xe5c40957 ∷ [])))))))

-- the constant of round i
unfoldable pub delta : Schedule → ℕ → ℕ
delta r i = slice_index deltas (i % r.words)

-- Where in the key word j of round i is. With four or six words this is j itself, since a round updates all of them.
unfoldable pub place : Schedule → ℕ → ℕ → ℕ
place r i j = (length r.turns * i + j) % r.words

-- word j of round i updated
unfoldable pub word_updated : Schedule → ℕ → ℕ → List ℕ → List ℕ
word_updated r i j key =
    let at = place r i j in
    slice_set key at (rol32 (slice_index r.turns j) ((slice_index key at + rol32 ((i + j) % 32) (delta r i)) % 2 ^ 32))

-- the update of the key in round i
unfoldable pub key_updated : Schedule → ℕ → List ℕ → List ℕ
key_updated r i key = in_turn (word_updated r i) (length r.turns) key

-- the key of round i, out of the key that it updated: six words
unfoldable pub round_key : Schedule → ℕ → List ℕ → List ℕ
round_key r i key = map (λ j. slice_index key (place r i j)) r.taken

-- a word rotated right by k places
abbrev pub ror32 : ℕ → ℕ → ℕ
ror32 k a = rol32 (32 - k) a

-- two words, each xored with one of the round key, added up
unfoldable pub mixed : ℕ → ℕ → ℕ → ℕ → ℕ
mixed x k y l = (bit_xor x k + bit_xor y l) % 2 ^ 32

-- the block after a round with these six words: rotated left by 9, right by 5 and right by 3
unfoldable pub block_mixed : List ℕ → List ℕ → List ℕ
block_mixed ks xs =
    let k = slice_index ks in
    let x = slice_index xs in
    rol32 9 (mixed (x 0) (k 0) (x 1) (k 1))
    ∷ (ror32 5 (mixed (x 1) (k 2) (x 2) (k 3))
    ∷ (ror32 3 (mixed (x 2) (k 4) (x 3) (k 5))
    ∷ (x 0 ∷ [])))

-- the key and the block
pub record State : Type 0 where
  pub key : List ℕ
  pub block : List ℕ

-- round i
unfoldable pub round : Schedule → ℕ → State → State
round r i s =
    let key = key_updated r i s.key in
    record { key = key; block = block_mixed (round_key r i key) s.block }

-- the encryption of a block of four words under the words of a key
unfoldable pub lea_words : Schedule → List ℕ → List ℕ → List ℕ
lea_words r key block = (in_turn (round r) r.rounds (record { key = key; block = block })).block

-- the encryption of a block under a key of this size, as whole numbers in which bit j weighs 2 ^ j
unfoldable pub lea : LeaSize → ℕ → ℕ → ℕ
lea size key block =
    let r = schedule size in
    joined (lea_words r (words_of r.words key) (words_of 4 block))
