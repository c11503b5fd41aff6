-- The steps of the next piece: what goes ahead, and one of its own.
use Rattle.std.proofs.Common.{◌≡◌, ℕ, Bool, true, false, List, [], ◌∷◌, ◌++◌, map, length, refl, ap, sym, ◌∙◌}
use Rattle.std.proofs.lemmas.List.{map-append}
use Rattle.mask_circuit.specs.Netlist.{Netlist}
use Rattle.mask_tasks.specs.declared.sizes.KeySize.{KeySize}
use Rattle.mask_chaskey.specs.Chaskey.{end_of}
use Rattle.mask_chaskey.specs.NamedChaskey.{named_end}
use Rattle.mask_trace.specs.Steps.{Step}
use Rattle.mask_macs.specs.ChaskeyRuns as chaskey
use Rattle.mask_macs.specs.Codes.{chaskey_code, lightmac_code}
use Rattle.mask_macs.specs.Laws.{PiecesAreSteps}
use Rattle.mask_macs.specs.LightMacRuns as light
use Rattle.mask_macs.proofs.ChaskeyBlocks.{end_of-alike}

-- the circuits of steps
abbrev circuits : List Step → List Netlist
circuits steps = map (λ (s : Step). s.circuit) steps

-- steps of one circuit behind the same ones
circuits-behind : (before : List Step) (own other : Step) → own.circuit ≡ other.circuit → circuits (before ++ own ∷ []) ≡ circuits (before ++ other ∷ [])
circuits-behind before own other same =
    map-append (λ (s : Step). s.circuit) before (own ∷ [])
    ∙ ap (λ (c : Netlist). circuits before ++ c ∷ []) same
    ∙ sym (map-append (λ (s : Step). s.circuit) before (other ∷ []))

-- CHASKEY

chaskey_begins : (n : ℕ) (piece : List ℕ) (last : Bool) → (own : Step) × (chaskey.next_steps n piece last ≡ chaskey.ahead n ++ own ∷ [])
chaskey_begins n piece false = (chaskey.block_step piece, refl)
chaskey_begins n piece true = (chaskey.end_step (end_of piece) piece, refl)

-- pieces of one length end alike
chaskey_circuits : (n : ℕ) (piece other : List ℕ) (last : Bool) → length piece ≡ length other
    → circuits (chaskey.next_steps n piece last) ≡ circuits (chaskey.next_steps n other last)
chaskey_circuits n piece other false e = circuits-behind (chaskey.ahead n) (chaskey.block_step piece) (chaskey.block_step other) refl
chaskey_circuits n piece other true e =
    circuits-behind (chaskey.ahead n) (chaskey.end_step (end_of piece) piece) (chaskey.end_step (end_of other) other)
    (ap named_end (end_of-alike piece other e))

pub chaskey_steps : (tag : ℕ) → PiecesAreSteps (chaskey_code tag)
chaskey_steps tag = record { begins = chaskey_begins; circuits = chaskey_circuits }

-- LIGHTMAC

module _ (size : KeySize) (s : ℕ) where
  light_begins : (n : ℕ) (piece : List ℕ) (last : Bool) → (own : Step) × (light.next_steps size s n piece last ≡ light.ahead size n last ++ own ∷ [])
  light_begins n piece false = (light.piece_step size s n piece, refl)
  light_begins n piece true = (light.end_step size n piece, refl)

  light_circuits : (n : ℕ) (piece other : List ℕ) (last : Bool) → length piece ≡ length other
      → circuits (light.next_steps size s n piece last) ≡ circuits (light.next_steps size s n other last)
  light_circuits n piece other false e =
      circuits-behind (light.ahead size n false) (light.piece_step size s n piece) (light.piece_step size s n other) refl
  light_circuits n piece other true e = refl

  pub light_steps : (tag : ℕ) → PiecesAreSteps (lightmac_code size s tag)
  light_steps tag = record { begins = light_begins; circuits = light_circuits }
