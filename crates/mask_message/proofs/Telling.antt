-- What the watch is told: evaluations of strong circuits alone.
use Rattle.std.proofs.Common.{◌≡◌, ℕ, ◌*◌, ◌≤◌, Bool, false, List, [], ◌++◌, length, take, replicate, refl, ◌∙◌, subst, arith, length-append, Option, ◌⊎◌, inl, inr}
use Rattle.std.proofs.lemmas.List.{length-replicate}
use Rattle.std.proofs.lemmas.List.Elements.{All-nil, All-take}
use Rattle.mask_bits.specs.Reading.{low}
use Rattle.mask_tasks.specs.declared.tasks.Task.{Task}
use Rattle.mask_tasks.specs.Tasks.{IsTask, key_bytes}
use Rattle.mask_eval.specs.Watching.{Told}
use Rattle.mask_trace.specs.Steps.{bits_of}
use Rattle.mask_trace.specs.Traces.{trace}
use Rattle.mask_trace.specs.Values.{HasShares, IsStrongEvaluation}
use Rattle.mask_gadget.proofs.Telling.{told_more-none}
use Rattle.mask_trace.proofs.Drawing.{parts_are_beginnings}
use Rattle.mask_trace.proofs.Computing.{traces_are_evaluations}
use Rattle.mask_ciphers.specs.Tasks.{plan, with_lines}
use Rattle.mask_status.specs.declared.status.Status.{Status}
use Rattle.mask_status.specs.declared.status.Status.TheVariants.{Done, Refused, BadWords, BadText, BadKeys, KeyFault, TooLong, ReadFault, TapeFault, WriteFault, BadProbe, NoMemory}
use Rattle.mask_status.specs.Ends.{is_key_fault}
use Rattle.mask_secrets.specs.KeyEnds.{IsOfKeys}
use Rattle.mask_message.specs.Outside.{Outside}
use Rattle.mask_message.specs.Encrypting.{RanSteps, Streams, StreamsOut, Tags, TellsStrongCalls, at_first, at_last}
use Rattle.mask_ciphers.proofs.Breaking.{plans_are_strong}
use Rattle.mask_message.proofs.Ending.{ciphertext_or_tag}
use Rattle.mask_ciphers.proofs.Joining.{lines_share_keys}

-- nothing was told
pub tells_nothing : (N : ℕ) (before now : Option (List Told)) → now ≡ before → TellsStrongCalls N before now
tells_nothing N before now same = ([], same ∙ told_more-none before, All-nil (IsStrongEvaluation N))

module _ (task : Task) (N : ℕ) (lines : List (List ℕ)) (o : Outside) (some : 2 ≤ N) (is_task : IsTask task) (many : length lines ≡ N) where
  steps_tell : (bytes : List ℕ) (count : ℕ) → RanSteps task N lines bytes count o → TellsStrongCalls N o.told_before o.told_after
  steps_tell bytes count ran =
      let steps = plan task bytes in
      let held = with_lines task lines in
      let more : List Bool = replicate (bits_of N steps) false in
      let tape : List Bool = [] ++ low ran.part.ran.fresh ++ more in
      let has : HasShares N (8 * key_bytes task) 0 held = subst (λ (n : ℕ). HasShares n (8 * key_bytes task) 0 held) many (lines_share_keys.has_key task lines) in
      let enough : bits_of N steps ≤ length tape = omega (arith, length-append (low ran.part.ran.fresh) more, length-replicate {A = Bool} (bits_of N steps) false) in (
        take count (trace N held steps tape),
        parts_are_beginnings N held steps count (at_first o) (at_last ran.kept o) ran.part more,
        All-take (IsStrongEvaluation N) count (trace N held steps tape)
            (traces_are_evaluations N (8 * key_bytes task) 0 held steps tape (omega arith) (plans_are_strong task is_task bytes) has enough),
      )

  -- whatever the status, of a ciphertext ..
  ciphertexts_tell : (bytes : List ℕ) (status : Status) → StreamsOut task N lines bytes o status → TellsStrongCalls N o.told_before o.told_after
  ciphertexts_tell bytes Done e = steps_tell bytes _ e.ran
  ciphertexts_tell bytes WriteFault e = steps_tell bytes _ e.ran
  ciphertexts_tell bytes (TooLong limit) e = steps_tell bytes _ e.3.ran
  ciphertexts_tell bytes ReadFault e = steps_tell bytes _ e.4.ran
  ciphertexts_tell bytes NoMemory e = steps_tell bytes _ e.4.ran
  ciphertexts_tell bytes TapeFault e = steps_tell bytes e.count e.ran
  ciphertexts_tell bytes (Refused product source) e = absurd e
  ciphertexts_tell bytes (BadWords place) e = absurd e
  ciphertexts_tell bytes (BadText line reason) e = absurd e
  ciphertexts_tell bytes (BadKeys reason) e = absurd e
  ciphertexts_tell bytes KeyFault e = absurd e
  ciphertexts_tell bytes (BadProbe place) e = absurd e

  -- .. and of a tag
  tags_tell : (bytes : List ℕ) (status : Status) → Tags task N lines bytes o status → TellsStrongCalls N o.told_before o.told_after
  tags_tell bytes Done e = steps_tell bytes _ e.ran
  tags_tell bytes WriteFault e = steps_tell bytes _ e.ran
  tags_tell bytes (TooLong limit) e = steps_tell bytes _ e.3.ran
  tags_tell bytes ReadFault e = steps_tell bytes _ e.4.ran
  tags_tell bytes NoMemory e = steps_tell bytes _ e.4.ran
  tags_tell bytes TapeFault e = steps_tell bytes e.count e.ran
  tags_tell bytes (Refused product source) e = absurd e
  tags_tell bytes (BadWords place) e = absurd e
  tags_tell bytes (BadText line reason) e = absurd e
  tags_tell bytes (BadKeys reason) e = absurd e
  tags_tell bytes KeyFault e = absurd e
  tags_tell bytes (BadProbe place) e = absurd e

  pub streams_tell : (bytes : List ℕ) (status : Status) → Streams task N lines bytes o status → TellsStrongCalls N o.told_before o.told_after
  streams_tell bytes status e =
      elim (ciphertext_or_tag task N lines bytes o status e) [
        | inl ciphertext ↦ ciphertexts_tell bytes status ciphertext
        | inr tag ↦ tags_tell bytes status tag
      ]

-- WHAT A STATUS RULES OUT

module _ (task : Task) (N : ℕ) (lines : List (List ℕ)) (o : Outside) (bytes : List ℕ) where
  -- a run that has key lines ends with no status of the key file
  pub streams_have_keys : (status : Status) → Streams task N lines bytes o status → IsOfKeys status → ⊥
  streams_have_keys status e of_keys = go status (ciphertext_or_tag task N lines bytes o status e) of_keys
    where
      go : (status : Status) → StreamsOut task N lines bytes o status ⊎ Tags task N lines bytes o status → IsOfKeys status → ⊥
      go (BadKeys reason) (inl says) is = says
      go (BadKeys reason) (inr says) is = says
      go KeyFault (inl says) is = says
      go KeyFault (inr says) is = says
      go Done says is = is
      go WriteFault says is = is
      go (TooLong limit) says is = is
      go ReadFault says is = is
      go NoMemory says is = is
      go TapeFault says is = is
      go (Refused product source) says is = is
      go (BadWords place) says is = is
      go (BadText line reason) says is = is
      go (BadProbe place) says is = is

  -- what failed is the tape, and it wants some bytes
  pub streams_want : (status : Status) → Streams task N lines bytes o status → status ≡ TapeFault → 1 ≤ o.wanted
  streams_want status e is =
      elim (ciphertext_or_tag task N lines bytes o TapeFault (subst (Streams task N lines bytes o) is e)) [
        | inl ciphertext ↦ ciphertext.wanted
        | inr tag ↦ tag.wanted
      ]

-- a fault of the key file is a status of it
pub no_key_fault : (status : Status) → (IsOfKeys status → ⊥) → is_key_fault status ≡ false
no_key_fault KeyFault none = absurd (none tt)
no_key_fault (BadKeys reason) none = refl
no_key_fault Done none = refl
no_key_fault WriteFault none = refl
no_key_fault (TooLong limit) none = refl
no_key_fault ReadFault none = refl
no_key_fault NoMemory none = refl
no_key_fault TapeFault none = refl
no_key_fault (Refused product source) none = refl
no_key_fault (BadWords place) none = refl
no_key_fault (BadText line reason) none = refl
no_key_fault (BadProbe place) none = refl
