-- What is written of a message, piece by piece.
use Rattle.std.proofs.Common.{◌≡◌, ℕ, suc, ◌+◌, ◌*◌, ◌/◌, ◌%◌, ◌^◌, ◌<◌, ◌≤◌, Bool, true, false, List, [], ◌∷◌, ◌++◌, length, take, refl, sym, ap, ap₂, ◌∙◌, subst, arith}
use Rattle.std.proofs.lemmas.List.{get_or_default, nil_from_length}
use Rattle.std.proofs.lemmas.Nat.{mod_below}
use Rattle.mask_bits.specs.Reading.{AreBytes}
use Rattle.mask_tasks.specs.declared.tasks.Task.{Task}
use Rattle.mask_tasks.specs.declared.tasks.Task.TheVariants.{Present, Lea, Trivium, LightMac, Chaskey}
use Rattle.mask_tasks.specs.Tasks.{IsTask, key_bytes}
use Rattle.mask_circuit.proofs.Places.{length-each}
use Rattle.mask_trace.specs.Steps.{Registers, Step}
use Rattle.mask_trace.specs.Values.{value_after}
use Rattle.mask_modes.specs.CounterMode.{MakesBlocks, block_count, ciphertext_from, counter, counter_mode}
use Rattle.mask_modes.specs.Steps.{Cipher, Mode, Enciphers, ahead_of, block_at, block_step, blocks, steps_from, steps_of}
use Rattle.mask_modes.proofs.Blocks.{block_at_is_block, xor_is_block}
use Rattle.mask_modes.proofs.CiphertextBlocks.{ciphertext_in_blocks}
use Rattle.mask_modes.proofs.Encrypting.{steps_encrypt}
use Rattle.mask_modes.proofs.Keystreams.{ciphertext_fits, counter_is_block}
use Rattle.mask_modes.proofs.Splitting.{messages_split}
use Rattle.mask_streams.specs.Streams.{block_steps, stream_cipher}
use Rattle.mask_streams.proofs.HandedOut.{output_goes_on as stream_goes_on}
use Rattle.mask_streams.proofs.Keystreams.{output_fits}
use Rattle.mask_streams.proofs.Plans.{plans_split, steps_of_some}
use Rattle.mask_ciphers.specs.Methods.{Method, InCounterMode, AsStream, AsCode, AreBatches, IsCipher, MayEnd, batch, fed_steps, key_width, next_length, next_output, next_steps}
use Rattle.mask_ciphers.specs.Methods as methods
use Rattle.mask_ciphers.specs.Tasks.{fed_output, held_at_first, method_of, output, plan}
use Rattle.mask_ciphers.specs.Laws.{CiphersGoOn, MakesTags, MessagesGoOn, OutputsAreCiphertexts, PiecesAreWritten, held_behind}
use Rattle.mask_ciphers.proofs.Batches.{HasBlocks, batches_are_blocks, has_blocks, some_blocks}
use Rattle.mask_ciphers.proofs.Enciphering.{tasks_encipher}
use Rattle.mask_ciphers.proofs.KeyBits.{length-key_bits}
use Rattle.mask_tasks.specs.Limits.{chaskey_tag}
use Rattle.mask_macs.specs.Codes.{Code}
use Rattle.mask_ciphers.proofs.Tagging.{HasCode, chaskey_makes, has_code, lightmac_makes}

-- IN COUNTER MODE

module _ (m : Mode) (cipher : Cipher) (is : Enciphers cipher m) where
  steps_more : (front piece : List ℕ) → length front % (64 * m.block) ≡ 0 →
      steps_of m (front ++ piece) ≡ steps_of m front ++ steps_from m (block_count m.block (length front)) (blocks m.block piece)
  steps_more front piece whole =
      let n = block_count m.block (length front) in
      let count = messages_split.count m.block n front is.circuits.some (batches_are_blocks m.block (length front) is.circuits.some whole) in
      ap (steps_from m 0) (messages_split.cut m.block n front piece is.circuits.some (batches_are_blocks m.block (length front) is.circuits.some whole))
      ∙ messages_split.steps m 0 (blocks m.block front) (blocks m.block piece)
      ∙ ap (λ (i : ℕ). steps_of m front ++ steps_from m i (blocks m.block piece)) (omega (arith, count))

  module _ (held : Registers Bool) (long : length held.key ≡ m.key) where
    makes : MakesBlocks m.block m.iv (cipher held.key)
    makes = ciphertext_fits.blocks m cipher held.key is long

    -- the key is what it was
    held_on : (message : List ℕ) → value_after held (steps_of m message) ≡ held
    held_on message = steps_encrypt.values_stay m cipher held 0 (blocks m.block message) is long

    next_is : (front piece : List ℕ) → ciphertext_from m.block m.iv (cipher (value_after held (steps_of m front)).key) (block_count m.block (length front)) piece
        ≡ ciphertext_from m.block m.iv (cipher held.key) (block_count m.block (length front)) piece
    next_is front piece = ap (λ (now : Registers Bool). ciphertext_from m.block m.iv (cipher now.key) (block_count m.block (length front)) piece) (held_on front)

    output_more : (front piece : List ℕ) → length front % (64 * m.block) ≡ 0 → counter_mode m.block m.iv (cipher held.key) (front ++ piece)
        ≡ counter_mode m.block m.iv (cipher held.key) front
        ++ ciphertext_from m.block m.iv (cipher (value_after held (steps_of m front)).key) (block_count m.block (length front)) piece
    output_more front piece whole =
        messages_split.ciphertext m.block m.iv (cipher held.key) 0 (block_count m.block (length front)) front piece is.circuits.some makes (batches_are_blocks m.block (length front) is.circuits.some whole)
        ∙ ap₂ (λ (i : ℕ) (key : List Bool). counter_mode m.block m.iv (cipher held.key) front ++ ciphertext_from m.block m.iv (cipher key) i piece)
        (omega arith) (sym (ap (λ (now : Registers Bool). now.key) (held_on front)))

    next_long : (front piece : List ℕ) →
        length (ciphertext_from m.block m.iv (cipher (value_after held (steps_of m front)).key) (block_count m.block (length front)) piece) ≡ length piece
    next_long front piece =
        ap length (next_is front piece) ∙ ciphertext_fits.as_long m.block m.iv (cipher held.key) (block_count m.block (length front)) piece is.circuits.some makes

    -- a ciphertext of bytes is bytes
    ciphertext_is_bytes : (i : ℕ) (part : List ℕ) → AreBytes part → AreBytes (ciphertext_from m.block m.iv (cipher held.key) i part)
    ciphertext_is_bytes i part are k d lt =
        let b = m.block in
        let j = k / b in
        let within : k < length part = omega (arith, ciphertext_fits.as_long b m.iv (cipher held.key) i part is.circuits.some makes) in
        let block = xor_is_block m (block_at b part j) (cipher held.key (counter b m.iv (i + j))) (block_at_is_block m part j are)
        (is.is_block held.key (counter b m.iv (i + j)) long (counter_is_block m (i + j))) in
        subst (λ (x : ℕ). x < 2 ^ 8)
        (sym (get_or_default (ciphertext_from b m.iv (cipher held.key) i part) k d 0 lt
        ∙ ciphertext_in_blocks.byte b m.iv (cipher held.key) i part k is.circuits.some makes within))
        (block.1 (k % b) 0 (rw block.0 (mod_below k b is.circuits.some)))

    next_bytes : (front piece : List ℕ) → AreBytes piece →
        AreBytes (ciphertext_from m.block m.iv (cipher (value_after held (steps_of m front)).key) (block_count m.block (length front)) piece)
    next_bytes front piece are = rw (next_is front piece) (ciphertext_is_bytes (block_count m.block (length front)) piece are)

    as_long : (message : List ℕ) → length (counter_mode m.block m.iv (cipher held.key) message) ≡ length message
    as_long message = ciphertext_fits.as_long m.block m.iv (cipher held.key) 0 message is.circuits.some makes

    front_of : (message : List ℕ) (n : ℕ) → counter_mode m.block m.iv (cipher held.key) (take n message) ≡ take n (counter_mode m.block m.iv (cipher held.key) message)
    front_of message n = ciphertext_fits.front m.block m.iv (cipher held.key) 0 n message is.circuits.some makes

-- the steps of some bytes begin with a refresh of the key, where one is due
begins_due : (m : Mode) → 0 < m.block → (i : ℕ) (piece : List ℕ) → 1 ≤ length piece →
    (later : List Step) × (steps_from m i (blocks m.block piece) ≡ ahead_of m i ++ later)
unfolding steps_from
begins_due m some i piece one =
    go (blocks m.block piece) (omega (arith, some_blocks m.block (length piece) some one, length-each (block_at m.block piece) (block_count m.block (length piece))))
  where
    go : (parts : List (List ℕ)) → 1 ≤ length parts → (later : List Step) × (steps_from m i parts ≡ ahead_of m i ++ later)
    go [] none = absurd (omega arith)
    go (block ∷ parts) some = (block_step m i block ∷ steps_from m (suc i) parts, refl)

-- EVERY TASK

-- the bits of a key under which a run begins
key_long : (task : Task) (key : List ℕ) → length key ≡ key_bytes task → length (held_at_first task key).key ≡ key_width (method_of task)
key_long task key long = length-key_bits task key long

no_steps : (task : Task) → fed_steps (method_of task) [] ≡ []
unfolding steps_from
no_steps (Present size iv) = refl
no_steps (Lea size iv) = refl
no_steps (Trivium iv) = refl
no_steps (LightMac size counter tag) = (lightmac_makes size counter tag).split.no_steps
no_steps (Chaskey tag) = (chaskey_makes (chaskey_tag tag)).split.no_steps

no_output : (task : Task) (key : List ℕ) → fed_output task key [] ≡ []
unfolding output fed_output ciphertext_from
no_output (Present size iv) key = refl
no_output (Lea size iv) key = refl
no_output (Trivium iv) key = nil_from_length (stream_cipher key iv []) (output_fits.as_long key iv [])
no_output (LightMac size counter tag) key = refl
no_output (Chaskey tag) key = refl

fed_steps_go_on : (task : Task) (front piece : List ℕ) → AreBatches (method_of task) (length front) → length piece ≡ batch (method_of task) →
    fed_steps (method_of task) (front ++ piece) ≡ fed_steps (method_of task) front ++ next_steps (method_of task) (length front) piece false
fed_steps_go_on (Present size iv) front piece whole all = steps_more _ _ (tasks_encipher (Present size iv) tt) front piece whole
fed_steps_go_on (Lea size iv) front piece whole all = steps_more _ _ (tasks_encipher (Lea size iv) tt) front piece whole
fed_steps_go_on (Trivium iv) front piece whole all = plans_split.plan iv front piece whole
fed_steps_go_on (LightMac size counter tag) front piece whole all = (lightmac_makes size counter tag).split.on front piece whole all
fed_steps_go_on (Chaskey tag) front piece whole all = (chaskey_makes (chaskey_tag tag)).split.on front piece whole all

plan_goes_on : (task : Task) (front piece : List ℕ) → AreBatches (method_of task) (length front) → MayEnd (method_of task) (length front) piece →
    plan task (front ++ piece) ≡ fed_steps (method_of task) front ++ next_steps (method_of task) (length front) piece true
plan_goes_on (Present size iv) front piece whole ends = steps_more _ _ (tasks_encipher (Present size iv) tt) front piece whole
plan_goes_on (Lea size iv) front piece whole ends = steps_more _ _ (tasks_encipher (Lea size iv) tt) front piece whole
plan_goes_on (Trivium iv) front piece whole ends = plans_split.plan iv front piece whole
plan_goes_on (LightMac size counter tag) front piece whole ends = (lightmac_makes size counter tag).split.ends front piece whole ends
plan_goes_on (Chaskey tag) front piece whole ends = (chaskey_makes (chaskey_tag tag)).split.ends front piece whole ends

output_goes_on : (task : Task) → IsTask task → (key front piece : List ℕ) → length key ≡ key_bytes task → AreBatches (method_of task) (length front) →
    MayEnd (method_of task) (length front) piece →
    output task key (front ++ piece) ≡ fed_output task key front ++ next_output (method_of task) (held_behind task key front) (length front) piece true
unfolding output fed_output
output_goes_on (Present size iv) is key front piece long whole ends =
    let task = Present size iv in output_more _ _ (tasks_encipher task tt) (held_at_first task key) (key_long task key long) front piece whole
output_goes_on (Lea size iv) is key front piece long whole ends =
    let task = Lea size iv in output_more _ _ (tasks_encipher task tt) (held_at_first task key) (key_long task key long) front piece whole
output_goes_on (Trivium iv) is key front piece long whole ends = stream_goes_on key iv front piece long is whole
output_goes_on (LightMac size counter tag) is key front piece long whole ends = (lightmac_makes size counter tag).goes_on key front piece long whole ends
output_goes_on (Chaskey tag) is key front piece long whole ends = (chaskey_makes (chaskey_tag tag)).goes_on key front piece long whole ends

fed_output_goes_on : (task : Task) → IsTask task → (key front piece : List ℕ) → length key ≡ key_bytes task → AreBatches (method_of task) (length front) →
    length piece ≡ batch (method_of task) →
    fed_output task key (front ++ piece) ≡ fed_output task key front ++ next_output (method_of task) (held_behind task key front) (length front) piece false
unfolding fed_output
fed_output_goes_on (Present size iv) is key front piece long whole all = output_goes_on (Present size iv) tt key front piece long whole tt
fed_output_goes_on (Lea size iv) is key front piece long whole all = output_goes_on (Lea size iv) tt key front piece long whole tt
fed_output_goes_on (Trivium iv) is key front piece long whole all = output_goes_on (Trivium iv) is key front piece long whole tt
fed_output_goes_on (LightMac size counter tag) is key front piece long whole all = refl
fed_output_goes_on (Chaskey tag) is key front piece long whole all = refl

pub messages_go_on : MessagesGoOn
messages_go_on = record {
  no_steps = no_steps;
  no_output = no_output;
  steps_fed = fed_steps_go_on;
  steps_last = plan_goes_on;
  output_fed = fed_output_goes_on;
  output_last = output_goes_on;
}

same_steps : (method : Method) → IsCipher method → (front : List ℕ) → fed_steps method front ≡ methods.plan method front
same_steps (InCounterMode m cipher) is front = refl
same_steps (AsStream iv) is front = refl
same_steps (AsCode code) is front = absurd is

same_output : (task : Task) → IsCipher (method_of task) → (key front : List ℕ) → fed_output task key front ≡ output task key front
unfolding fed_output
same_output (Present size iv) is key front = refl
same_output (Lea size iv) is key front = refl
same_output (Trivium iv) is key front = refl
same_output (LightMac size counter tag) is key front = absurd is
same_output (Chaskey tag) is key front = absurd is

may_end : (method : Method) → IsCipher method → (n : ℕ) (piece : List ℕ) → MayEnd method n piece
may_end (InCounterMode m cipher) is n piece = tt
may_end (AsStream iv) is n piece = tt
may_end (AsCode code) is n piece = absurd is

begins : (method : Method) → HasBlocks method → HasCode method → (n : ℕ) (piece : List ℕ) (last : Bool) → (IsCipher method → 1 ≤ length piece) →
    (later : List Step) × (next_steps method n piece last ≡ methods.ahead method n last ++ later)
begins (InCounterMode m cipher) blocks is n piece last some = begins_due m blocks (block_count m.block n) piece (some tt)
begins (AsStream iv) blocks is n piece last some = (block_steps piece, steps_of_some iv n piece (some tt))
begins (AsCode code) blocks is n piece last some = let steps = is.steps.begins n piece last in (steps.0 ∷ [], steps.1)

same_ahead : (method : Method) → IsCipher method → (n : ℕ) → methods.ahead method n false ≡ methods.ahead method n true
same_ahead (InCounterMode m cipher) is n = refl
same_ahead (AsStream iv) is n = refl
same_ahead (AsCode code) is n = absurd is

-- nothing of a tag is written before the last piece
pub no_tag : (task : Task) → (IsCipher (method_of task) → ⊥) → (key front : List ℕ) → fed_output task key front ≡ []
unfolding fed_output
no_tag (Present size iv) tag key front = absurd (tag tt)
no_tag (Lea size iv) tag key front = absurd (tag tt)
no_tag (Trivium iv) tag key front = absurd (tag tt)
no_tag (LightMac size counter tag_bytes) tag key front = refl
no_tag (Chaskey tag_bytes) tag key front = refl

pub ciphers_go_on : CiphersGoOn
ciphers_go_on = record {
  ends = λ task is n piece. may_end (method_of task) is n piece;
  begins = λ task n piece last some. begins (method_of task) (has_blocks task) (has_code task) n piece last some;
  ahead = λ task is n. same_ahead (method_of task) is n;
  steps = λ task is front. same_steps (method_of task) is front;
  output = same_output;
}

-- a tag, or nothing before it
tag_long : (code : Code) → MakesTags code → (held : Registers Bool) (n : ℕ) (piece : List ℕ) (last : Bool) →
    length (code.output held n piece last) ≡ next_length (AsCode code) piece last
tag_long code makes held n piece false = ap length (makes.fits.none_before held n piece)
tag_long code makes held n piece true = makes.fits.piece_as_long held n piece

tag_bytes : (code : Code) → MakesTags code → (held : Registers Bool) (n : ℕ) (piece : List ℕ) (last : Bool) → AreBytes (code.output held n piece last)
tag_bytes code makes held n piece false = subst AreBytes (sym (makes.fits.none_before held n piece)) (λ k d lt. absurd (omega (arith, lt)))
tag_bytes code makes held n piece true = makes.fits.piece_of_bytes held n piece

piece_long : (task : Task) (key front piece : List ℕ) (last : Bool) → length key ≡ key_bytes task →
    length (next_output (method_of task) (held_behind task key front) (length front) piece last) ≡ next_length (method_of task) piece last
piece_long (Present size iv) key front piece last long =
    let task = Present size iv in next_long _ _ (tasks_encipher task tt) (held_at_first task key) (key_long task key long) front piece
piece_long (Lea size iv) key front piece last long =
    let task = Lea size iv in next_long _ _ (tasks_encipher task tt) (held_at_first task key) (key_long task key long) front piece
piece_long (Trivium iv) key front piece last long = output_fits.piece_as_long iv (held_behind (Trivium iv) key front) (length front) piece
piece_long (LightMac size counter tag) key front piece last long = tag_long _ (lightmac_makes size counter tag) (held_behind (LightMac size counter tag) key front) (length front) piece last
piece_long (Chaskey tag) key front piece last long = tag_long _ (chaskey_makes (chaskey_tag tag)) (held_behind (Chaskey tag) key front) (length front) piece last

piece_bytes : (task : Task) (key front piece : List ℕ) (last : Bool) → length key ≡ key_bytes task → AreBytes piece →
    AreBytes (next_output (method_of task) (held_behind task key front) (length front) piece last)
piece_bytes (Present size iv) key front piece last long are =
    let task = Present size iv in next_bytes _ _ (tasks_encipher task tt) (held_at_first task key) (key_long task key long) front piece are
piece_bytes (Lea size iv) key front piece last long are =
    let task = Lea size iv in next_bytes _ _ (tasks_encipher task tt) (held_at_first task key) (key_long task key long) front piece are
piece_bytes (Trivium iv) key front piece last long are = output_fits.piece_of_bytes iv (held_behind (Trivium iv) key front) (length front) piece are
piece_bytes (LightMac size counter tag) key front piece last long are = tag_bytes _ (lightmac_makes size counter tag) (held_behind (LightMac size counter tag) key front) (length front) piece last
piece_bytes (Chaskey tag) key front piece last long are = tag_bytes _ (chaskey_makes (chaskey_tag tag)) (held_behind (Chaskey tag) key front) (length front) piece last

pub pieces_are_written : PiecesAreWritten
pieces_are_written = record { as_long = piece_long; bytes = piece_bytes }

output_long : (task : Task) → IsCipher (method_of task) → (key message : List ℕ) → length key ≡ key_bytes task →
    length (output task key message) ≡ length message
unfolding output
output_long (Present size iv) is key message long =
    let task = Present size iv in as_long _ _ (tasks_encipher task tt) (held_at_first task key) (key_long task key long) message
output_long (Lea size iv) is key message long =
    let task = Lea size iv in as_long _ _ (tasks_encipher task tt) (held_at_first task key) (key_long task key long) message
output_long (Trivium iv) is key message long = output_fits.as_long key iv message
output_long (LightMac size counter tag) is key message long = absurd is
output_long (Chaskey tag) is key message long = absurd is

output_front : (task : Task) → IsCipher (method_of task) → (key message : List ℕ) (n : ℕ) → length key ≡ key_bytes task →
    output task key (take n message) ≡ take n (output task key message)
unfolding output
output_front (Present size iv) is key message n long =
    let task = Present size iv in front_of _ _ (tasks_encipher task tt) (held_at_first task key) (key_long task key long) message n
output_front (Lea size iv) is key message n long =
    let task = Lea size iv in front_of _ _ (tasks_encipher task tt) (held_at_first task key) (key_long task key long) message n
output_front (Trivium iv) is key message n long = output_fits.front key iv message n
output_front (LightMac size counter tag) is key message n long = absurd is
output_front (Chaskey tag) is key message n long = absurd is

pub outputs_are_ciphertexts : OutputsAreCiphertexts
outputs_are_ciphertexts = record { as_long = output_long; front = output_front }
