-- From what reading and admitting come to, to how a run ends.
use Rattle.std.proofs.Common.{◌+◌, ◌^◌, ◌≤◌, ℕ, suc, List, [], ◌∷◌, ◌++◌, refl, ap, inl, inr}
use Rattle.std.specs.declared.option.Option.{Option}
use Rattle.mask_circuit.specs.Netlist.{Netlist}
use Rattle.mask_circuit.specs.Acceptance.{IsAccepted}
use Rattle.mask_text.specs.Answers.{TakesFront, Explains}
use Rattle.mask_text.specs.declared.errors.TextError.{TextError}
use Rattle.mask_text.specs.declared.errors.TextError.TheVariants as errors
use Rattle.mask_status.specs.declared.status.Status.{Status}
use Rattle.mask_status.specs.declared.status.Status.TheVariants.{Refused, TooLong, BadProbe, NoMemory}
use Rattle.mask_inspect.specs.Checks.{Check, Grammar, Acceptance, Probes, FirstFailure}
use Rattle.mask_inspect.specs.Ends.{Takes, Ends, Long, Fails, Does, Breaks, Stops, IsRead, CostsAtMost, RefusesCircuit, IsEarly, status_of}
use Rattle.mask_inspect.specs.Probing.{RefusesProbes}

-- what an error of the reader says of the bytes
pub Stops-read : (error : TextError) (before now : Option (List ℕ)) → Explains error before now → TakesFront before now →
    Takes before now (λ bytes. Stops (Grammar ∷ []) bytes now (status_of error))
Stops-read (errors.Bad line reason) before now h front = (h.0, h.1, Fails h.2 h.3 (inl (line, reason, refl, h.4)))
Stops-read (errors.TooLong limit) before now h front = (h.1.0, h.1.1, Long (ap TooLong h.0) h.1.2)
Stops-read errors.ReadFault before now h front = (front.0, front.1, Breaks (inl refl))
Stops-read errors.NoMemory before now h front = (front.0, front.1, Breaks (inr refl))

pub IsEarly-read : (error : TextError) → IsEarly (status_of error)
IsEarly-read (errors.Bad line reason) = tt
IsEarly-read (errors.TooLong limit) = tt
IsEarly-read errors.ReadFault = tt
IsEarly-read errors.NoMemory = tt

-- further checks don't change an end that came before them
pub FirstFailure-more : (checks more : List Check) (bytes : List ℕ) (status : Status) → FirstFailure checks bytes status → FirstFailure (checks ++ more) bytes status
FirstFailure-more [] more bytes status h = absurd h
FirstFailure-more (check ∷ checks) more bytes status (inl h) = inl h
FirstFailure-more (check ∷ checks) more bytes status (inr h) = inr (h.0, FirstFailure-more checks more bytes status h.1)

pub Ends-stopped : (checks more : List Check) (Did : Status → Type 0) (bytes : List ℕ) (rest : Option (List ℕ)) (status : Status) →
    Stops checks bytes rest status → Ends (2 ^ 25) (checks ++ more) Did bytes rest status
Ends-stopped checks more Did bytes rest status (Long e long) = Long e long
Ends-stopped checks more Did bytes rest status (Fails end within h) = Fails end within (FirstFailure-more checks more bytes status h)
Ends-stopped checks more Did bytes rest status (Does end within pass did) = absurd did
Ends-stopped checks more Did bytes rest status (Breaks h) = Breaks h

-- a circuit that was read and isn't admitted, where the checks before that pass
pub Ends-unadmitted : (checks : List Check) (Did : Status → Type 0) (bytes : List ℕ) (rest : Option (List ℕ)) (c : Netlist) (status : Status) → IsRead bytes rest c →
    ((s : Status) → FirstFailure (Acceptance ∷ []) bytes s → FirstFailure checks bytes s) → RefusesCircuit c status → Ends (2 ^ 25) checks Did bytes rest status
Ends-unadmitted checks Did bytes rest c (Refused p s) read behind h = Fails read.at_end read.within (behind (Refused p s) (inl (p, s, refl, (c, read.is_text, h))))
Ends-unadmitted checks Did bytes rest c NoMemory read behind h = Breaks (inr refl)
Ends-unadmitted checks Did bytes rest c status read behind h = absurd h

-- probes that aren't answered, where the circuit is accepted
pub Ends-unprobed : (Did : Status → Type 0) (bytes : List ℕ) (rest : Option (List ℕ)) (order : ℕ) (wires : List ℕ) (c : Netlist) (status : Status) →
    IsRead bytes rest c → IsAccepted c → RefusesProbes c (suc order) wires status → Ends (2 ^ 25) (Grammar ∷ Acceptance ∷ Probes order wires ∷ []) Did bytes rest status
Ends-unprobed Did bytes rest order wires c (BadProbe place) read accepted h =
    Fails read.at_end read.within (inr ((c, read.is_text), inr ((c, read.is_text, accepted), inl (place, refl, (c, read.is_text, h)))))
Ends-unprobed Did bytes rest order wires c NoMemory read accepted h = Breaks (inr refl)
Ends-unprobed Did bytes rest order wires c status read accepted h = absurd h

-- the steps of checking a circuit that was read
pub CostsAtMost-read : (most : Netlist → ℕ) (before now : ℕ) (bytes : List ℕ) (rest : Option (List ℕ)) (c : Netlist) → IsRead bytes rest c → now ≤ before + most c →
    CostsAtMost most before now bytes rest
CostsAtMost-read most before now bytes rest c read within = inr (c, read, within)
