-- A run of Trivium at worked examples, computed.
use Rattle.std.specs.Prelude.{◌≡◌, ℕ, Bool, false, List, [], ◌∷◌, ◌++◌, length, replicate, refl}
use Rattle.mask_bits.specs.Reading.{lowest}
use Rattle.mask_trace.specs.Steps.{Registers}
use Rattle.mask_trivium.specs.Trivium.{bytes, clocked, outputs}
use Rattle.mask_streams.specs.Streams.{output_behind, start_step, steps_behind, stream_bits, stream_plan, stream_step}

abbrev iv : List ℕ
iv = replicate 10 0

-- THE STEPS

no_steps : stream_plan iv [] ≡ []
no_steps = refl

-- 17 bytes are three blocks
step_count : length (stream_plan iv (replicate 17 0)) ≡ 4
step_count = refl

-- the first block, which is filled up with zeros
first_steps : stream_plan iv (5 ∷ 6 ∷ []) ≡ start_step iv ∷ stream_step (5 ∷ 6 ∷ replicate 6 0) ∷ []
first_steps = refl

-- behind eight bytes the state is there already
later_steps : steps_behind iv 8 (5 ∷ 6 ∷ []) ≡ stream_step (5 ∷ 6 ∷ replicate 6 0) ∷ []
later_steps = refl

-- RANDOM BITS

one_block : stream_bits 1 1 ≡ 8_000
unfolding stream_bits
one_block = refl

three_blocks : stream_bits 2 3 ≡ 28_608
unfolding stream_bits
three_blocks = refl

no_block : stream_bits 3 0 ≡ 0
unfolding stream_bits
no_block = refl

-- THE OUTPUT

-- A state from which the first vector of mask_trivium outputs fc 05 f1 and so on (TriviumVectors), and 64 bits that a step put
-- out before.
abbrev held : Registers Bool
held = record {
  key = [];
  state = lowest 288 0x57186e2e09fff2ede12cf7efcb83a734e548935962983e6a784eb162f96203bd1a7539b0 ++ replicate 64 false;
}

whole_block : output_behind iv held 8 (replicate 8 0) ≡ 0xfc ∷ 0x05 ∷ 0xf1 ∷ 0x81 ∷ 0xd0 ∷ 0xa1 ∷ 0x67 ∷ 0xf3 ∷ []
unfolding bytes outputs clocked
whole_block = refl

short_block : output_behind iv held 8 (0x01 ∷ 0x05 ∷ 0xff ∷ []) ≡ 0xfd ∷ 0x00 ∷ 0x0e ∷ []
unfolding bytes outputs clocked
short_block = refl
