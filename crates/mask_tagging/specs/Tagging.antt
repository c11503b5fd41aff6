-- A run of a message authentication code between its pieces.
use Rattle.std.specs.Prelude.{◌≡◌, ℕ, ◌==◌, cond, Bool, List, [], ◌∷◌, ◌++◌, length}
use Rattle.mask_tasks.specs.declared.sizes.KeySize.{KeySize}
use Rattle.mask_trace.specs.Steps.{Registers, Step}
use Rattle.mask_trace.specs.Traces.{BitShares}
use Rattle.mask_trace.specs.Drawing.{Stand}
use Rattle.mask_macs.specs.Codes.{Code, chaskey_code, lightmac_code}
use Rattle.mask_chain.specs.Chains.{Stopped}

-- LightMAC over PRESENT, with a counter and a tag of so many bytes, or Chaskey-12, with a tag of so many
pub data Scheme : Type 0 where
  LightMac : KeySize → ℕ → ℕ → Scheme
  Chaskey : ℕ → Scheme

abbrev pub code_of : Scheme → Code
code_of (LightMac size counter tag) = lightmac_code size counter tag
code_of (Chaskey tag) = chaskey_code tag

-- the code, what the run has in shares, and the words of the latest outputs
pub record Between : Type 0 where
  pub scheme : Scheme
  pub held : Registers BitShares
  pub outputs : List (List ℕ)

-- what is handed out: the state, where it has so many bits, or these words where no piece was taken
abbrev pub shown : ℕ → List (List ℕ) → List (List ℕ) → List (List ℕ)
shown count blank state = cond (length state == count) state blank

-- The tape failed in the next piece, the last or not, behind the first of its steps: those of what goes ahead of its own.
pub record Interrupted (N : ℕ) (code : Code) (fed : ℕ) (piece : List ℕ) (last : Bool) (had now : Registers BitShares) (wanted counted counted' : ℕ) (a b : Stand) : Type 0 where
  pub own : Step
  pub begins : code.next fed piece last ≡ code.ahead fed last ++ own ∷ []
  pub stopped : Stopped N had now (code.ahead fed last) own wanted counted counted' a b
