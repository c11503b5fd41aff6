-- Key lines that were read, and a message under them.
use Rattle.std.proofs.Common.{◌≡◌, ℕ, suc, ◌+◌, add-one, Option, List, length, ◌∙◌, subst}
use Rattle.std.specs.Io.KnownBytes.{Consumes, IsAtEnd}
use Rattle.mask_tasks.specs.declared.tasks.Task.{Task}
use Rattle.mask_tasks.specs.Tasks.{key_bytes}
use Rattle.mask_keys.specs.declared.files.KeyLength.TheVariants.{Exactly}
use Rattle.mask_keys.specs.Lines.{line_length}
use Rattle.mask_keys.specs.Files.{IsKeyFile}
use Rattle.mask_status.specs.declared.status.Status.{Status}
use Rattle.mask_secrets.specs.KeyEnds.{KeyEnds, Does, StopsKeys, AreLines}
use Rattle.mask_secrets.proofs.Stopping.{KeyEnds-stopped}
use Rattle.mask_message.specs.Outside.{Outside}
use Rattle.mask_message.specs.Encrypting.{Encs, Streams, TakesMessage}

module _ (task : Task) (order asked : ℕ) (is : asked ≡ key_bytes task) where
  -- an end before there are key lines
  pub stops_under : (Did : List (List ℕ) → Status → Type 0) (bytes : List ℕ) (rest : Option (List ℕ)) (status : Status) →
      StopsKeys (order + 1) (Exactly asked) bytes rest status → KeyEnds (suc order) (Exactly (key_bytes task)) Did bytes rest status
  stops_under Did bytes rest status stops =
      KeyEnds-stopped (suc order) (Exactly (key_bytes task)) Did bytes rest status
      (subst (λ (n : ℕ). StopsKeys n (Exactly (key_bytes task)) bytes rest status) (add-one order)
      (subst (λ (k : ℕ). StopsKeys (order + 1) (Exactly k) bytes rest status) is stops))

  module _ (keys : List ℕ) (rest : Option (List ℕ)) (lines : List (List ℕ)) (are : AreLines (order + 1) (Exactly asked) keys rest lines) where
    pub lines_long : line_length lines ≡ key_bytes task
    lines_long = are.file.long ∙ is

    -- the key lines were read, and the message under them
    pub encs_under : (o : Outside) (status : Status) → Consumes o.keys_before rest keys → rest ≡ o.keys_after →
        TakesMessage task (length lines) lines o status → Encs task (suc order) o status
    encs_under o status keys_taken rest_is takes =
        let many : length lines ≡ suc order = are.file.many ∙ add-one order in
        let file : IsKeyFile (suc order) (Exactly (key_bytes task)) keys lines
        = subst (λ (n : ℕ). IsKeyFile n (Exactly (key_bytes task)) keys lines) (add-one order)
        (subst (λ (k : ℕ). IsKeyFile (order + 1) (Exactly k) keys lines) is are.file) in
        record {
          keys = keys;
          keys_taken = subst (λ (now : Option (List ℕ)). Consumes o.keys_before now keys) rest_is keys_taken;
          bytes = takes.bytes;
          taken = takes.taken;
          ends = Does lines (subst IsAtEnd rest_is are.at_end) are.within file (subst (λ (n : ℕ). Streams task n lines takes.bytes o status) many takes.streams);
          counted = takes.counted;
        }
