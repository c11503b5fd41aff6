-- The steps of counter mode encrypt, and keep the key.
use Rattle.std.proofs.Common.{◌≡◌, ℕ, suc, ◌≤◌, Bool, true, false, cond, List, [], ◌∷◌, ◌++◌, map, length, drop, refl, ap, ap₂, sym, ◌∙◌, arith}
use Rattle.std.proofs.lemmas.List.{length-map, map-append, map-id, append-nil, drop_all}
use Rattle.std.proofs.lemmas.Simd.{map-map}
use Rattle.mask_circuit.specs.Value.{plain}
use Rattle.mask_circuit.specs.Ring.{bits}
use Rattle.mask_circuit.specs.Wires.{each}
use Rattle.mask_circuit.specs.Sharing.{unmasked}
use Rattle.mask_shares.proofs.Lists.{map-each, each-get_or}
use Rattle.mask_trace.specs.Steps.{Public, Plain, Key, AsKey, Registers, kept, stretch}
use Rattle.mask_trace.specs.Traces.{BitShares, output_shares, after_step, after}
use Rattle.mask_trace.specs.Values.{values_of, input_value, step_value, value_after}
use Rattle.mask_trace.proofs.Computing.{runs_compute}
use Rattle.mask_modes.specs.CounterMode.{counter, xor_bytes}
use Rattle.mask_modes.specs.Steps.{Cipher, Mode, Enciphers, IsBlock, block_step, refresh_step, steps_from, is_due}
use Rattle.mask_modes.specs.Laws.{StepsEncrypt}
use Rattle.mask_modes.specs.Outputs.{key_of, HasKey}
use Rattle.mask_modes.proofs.Keystreams.{counter_is_block}
use Rattle.mask_modes.proofs.Plans.{block_step_is_strong, refresh_step_is_strong}

-- the bits of a whole key, of public bits and of message bits
key_value : (held : Registers Bool) → map (input_value held) (each Key (length held.key)) ≡ held.key
key_value held = map-each (input_value held) Key (length held.key) ∙ each-get_or held.key false

all_values : (held : Registers Bool) (public message : List Bool) →
    map (input_value held) (each Key (length held.key) ++ (map Public public ++ map Plain message)) ≡ held.key ++ (public ++ message)
all_values held public message =
    map-append (input_value held) (each Key (length held.key)) (map Public public ++ map Plain message)
    ∙ ap₂ (λ (front back : List Bool). front ++ back) (key_value held)
    (map-append (input_value held) (map Public public) (map Plain message)
    ∙ ap₂ (λ (front back : List Bool). front ++ back)
    (map-map (input_value held) Public public ∙ map-id public) (map-map (input_value held) Plain message ∙ map-id message))

-- the registers with another key
abbrev with_key_bits : Registers Bool → List Bool → Registers Bool
with_key_bits held key = record { key = key; state = held.state }

module _ (N : ℕ) (m : Mode) (cipher : Cipher) (two : 2 ≤ N) (is : Enciphers cipher m) where
  pub encrypted : (have : Registers BitShares) (i : ℕ) (block : List ℕ) (r : List Bool) → HasKey N m have → IsBlock m block →
      map (unmasked bits) (output_shares N have (block_step m i block) r) ≡ m.reading (xor_bytes block (cipher (key_of have) (counter m.block m.iv i)))
  encrypted have i block r has block_is =
      let count = counter m.block m.iv i in
      let size : length (key_of have) ≡ m.key = length-map have.key _ ∙ has.key in
      runs_compute.outputs N m.key 0 have (block_step m i block) r (omega arith) (block_step_is_strong m cipher is i block block_is.0) has
      ∙ ap (λ (k : ℕ). plain m.circuit (map (input_value (values_of have)) (each Key k ++ (map Public (m.reading count) ++ map Plain (m.reading block))))) (sym size)
      ∙ ap (plain m.circuit) (all_values (values_of have) (m.reading count) (m.reading block))
      ∙ is.value (key_of have) count block size (counter_is_block m i) block_is

  -- a refresh changes no bit of the key ..
  refresh_value : (held : Registers Bool) → length held.key ≡ m.key → kept AsKey (step_value held (refresh_step m)) held ≡ held
  refresh_value held size =
      let value : step_value held (refresh_step m) ≡ held.key
      = ap (λ (k : ℕ). plain m.refresh (map (input_value held) (each Key k))) (sym size)
      ∙ ap (plain m.refresh) (key_value held)
      ∙ is.circuits.refreshes held.key size in
      ap (λ (bs : List Bool). kept AsKey bs held) value
      ∙ ap (λ (key : List Bool). with_key_bits held key)
      (ap (λ l. held.key ++ l) (drop_all (length held.key) held.key (omega arith)) ∙ append-nil held.key)

  -- .. and no step changes what is held
  pub values_stay : (held : Registers Bool) (i : ℕ) (part : List (List ℕ)) → length held.key ≡ m.key → value_after held (steps_from m i part) ≡ held
  unfolding value_after steps_from
  values_stay held i [] size = refl
  values_stay held i (block ∷ part) size = go (is_due i) (values_stay held (suc i) part size)
    where
      go : (due : Bool) → value_after held (steps_from m (suc i) part) ≡ held →
          value_after held (cond due (refresh_step m ∷ []) [] ++ block_step m i block ∷ steps_from m (suc i) part) ≡ held
      go true more = ap (λ (now : Registers Bool). value_after now (steps_from m (suc i) part)) (refresh_value held size) ∙ more
      go false more = more

  -- a refresh gives the key new shares, and no other value
  pub refreshed : (have : Registers BitShares) (r : List Bool) → HasKey N m have →
      HasKey N m (after_step N have (refresh_step m) r) × (key_of (after_step N have (refresh_step m) r) ≡ key_of have)
  unfolding after value_after
  refreshed have r has =
      let run = runs_compute.registers N m.key 0 have (refresh_step m ∷ []) r (omega arith) (refresh_step_is_strong m cipher is, tt) has in
      let size : length (key_of have) ≡ m.key = length-map have.key _ ∙ has.key in
      (run.0, ap (λ (now : Registers Bool). now.key) (run.1 ∙ refresh_value (values_of have) size))

  key_stays : (have : Registers BitShares) (i : ℕ) (part : List (List ℕ)) (r : List Bool) → HasKey N m have →
      HasKey N m (after N have (steps_from m i part) r) × (key_of (after N have (steps_from m i part) r) ≡ key_of have)
  unfolding after steps_from
  key_stays have i [] r has = (has, refl)
  key_stays have i (block ∷ part) r has = go (is_due i) (λ now rest. key_stays now (suc i) part rest)
    where
      go : (due : Bool) →
          ((now : Registers BitShares) (rest : List Bool) → HasKey N m now →
          HasKey N m (after N now (steps_from m (suc i) part) rest) × (key_of (after N now (steps_from m (suc i) part) rest) ≡ key_of now)) →
          HasKey N m (after N have (cond due (refresh_step m ∷ []) [] ++ block_step m i block ∷ steps_from m (suc i) part) r)
          × (key_of (after N have (cond due (refresh_step m ∷ []) [] ++ block_step m i block ∷ steps_from m (suc i) part) r) ≡ key_of have)
      go true more =
          let first = refreshed have r has in
          let rest = more (after_step N have (refresh_step m) r) (drop (stretch N (block_step m i block)) (drop (stretch N (refresh_step m)) r)) first.0 in
          (rest.0, rest.1 ∙ first.1)
      go false more = more have (drop (stretch N (block_step m i block)) r) has

pub steps_encrypt : StepsEncrypt
steps_encrypt = record {
  encrypted = λ N m cipher have i block r two is has block_is. encrypted N m cipher two is have i block r has block_is;
  key_stays = λ N m cipher have i part r two is has. key_stays N m cipher two is have i part r has;
  values_stay = λ m cipher held i part is size. values_stay 2 m cipher (omega arith) is held i part size;
}
