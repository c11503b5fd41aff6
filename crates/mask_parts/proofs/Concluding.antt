-- From a tidy draft with a fence to the contract of a cipher's circuit.
use Rattle.std.proofs.Common.{◌≡◌, ℕ, ◌<◌, Bool, List, [], length, map, All, Result, Ok, Err, refl, sym, ap, ◌∙◌, subst}
use Rattle.std.specs.Result.{IfOk}
use Rattle.std.proofs.lemmas.List.{length-map}
use Rattle.std.proofs.lemmas.List.Elements.{All-nil}
use Rattle.mask_bits.specs.Reading.{number, lowest}
use Rattle.mask_bits.proofs.Numbers.{lowest-of}
use Rattle.mask_circuit.specs.Netlist.{Netlist, IsCircuit, AreGates, value_count}
use Rattle.mask_circuit.specs.Value.{value_at, plain_values, plain}
use Rattle.mask_circuit.specs.Acceptance.{IsStrong, IsTidy}
use Rattle.mask_laws.proofs.Reaching.{tidy_accepted}
use Rattle.mask_laws.proofs.Strengthening.{strong_is_sni}
use Rattle.mask_parts.specs.CipherCircuits.{Size, size_of, IsCipherCircuit}
use Rattle.mask_parts.specs.Drafts.{bits_of, Grows, IsWithinLimits}
use Rattle.mask_parts.specs.Fences.{with_fence}
use Rattle.mask_parts.proofs.Counting.{size-with_fence}
use Rattle.mask_parts.proofs.Fencing.{IsStrong-fence, IsWellFormed-fence, plain-with_fence}
use Rattle.mask_parts.proofs.Growing.{Grows-trans, Grows-with_gates, Grows-with_outputs}
use Rattle.mask_parts.proofs.Passing.{AreOf, IsSound}

-- a tidy draft with a fence is strong
pub IsStrong-tidy_fence : (c : Netlist) (us : List ℕ) → AreGates c.inputs c.gates → All (λ u. u < value_count c) us → c.outputs ≡ [] → IsTidy c → IsStrong (with_fence c us)
IsStrong-tidy_fence c us are below none tidy = IsStrong-fence c us are below none (tidy_accepted c tidy)

-- a strong circuit that is the named one and computes f meets the contract
pub IsCipherCircuit-strong : (named : Netlist) (size : Size) (f : List Bool → List Bool) (c : Netlist) → c ≡ named → IsCircuit c → size_of c ≡ size → IsStrong c →
    ((x : List Bool) → length x ≡ c.inputs → plain c x ≡ f x) → IsCipherCircuit named size f c
IsCipherCircuit-strong named size f c same circuit sized strong computes = record {
  same = same;
  circuit = circuit;
  sized = sized;
  strong = strong;
  sni = λ N two. strong_is_sni c N two circuit.formed strong;
  computes = computes;
}

-- what holds of a circuit holds of it as it is handed out
pub IfOk-same : {A E : Type 0} (a : A) (P : A → Type 0) (r : Result A E) → IfOk r (λ s. s ≡ a) → P a → IfOk r P
IfOk-same a P (Ok s) same p = subst P (sym same) p
IfOk-same a P (Err e) same p = tt

-- so a circuit that is handed out meets the contract where the named one does
pub IfOk-named : {E : Type 0} {named : Netlist} {size : Size} {f : List Bool → List Bool} (c : Netlist) (r : Result Netlist E) → c ≡ named → IfOk r (λ s. s ≡ c)
    → IsCipherCircuit named size f named → IfOk r (IsCipherCircuit named size f)
IfOk-named {named = named} {size = size} {f = f} c r is same meets = IfOk-same c (IsCipherCircuit named size f) r same (subst (IsCipherCircuit named size f) (sym is) meets)

-- FENCES

pub Grows-fence : (c : Netlist) (us : List ℕ) → Grows c (with_fence c us)
unfolding with_fence
Grows-fence c us = Grows-trans _ _ _ (Grows-with_gates c _) (Grows-with_outputs _ _)

-- a draft that hands out nothing yet, and values of it that are to be handed out
pub record IsDone (T : Type 0) (c : Netlist) (us : List ℕ) : Type 0 where
  pub sound : IsSound T c
  pub none : c.outputs ≡ []
  pub known : AreOf c us

module _ (c : Netlist) (us : List ℕ) (done : IsDone Unit c us) where
  pub IsStrong-done : IsStrong (with_fence c us)
  IsStrong-done = IsStrong-tidy_fence c us done.sound.formed done.known done.none (done.sound.tidy tt)

  plain-done : (x : List Bool) → length x ≡ c.inputs → plain (with_fence c us) x ≡ bits_of c x us
  plain-done x long =
      let none : plain c x ≡ [] = ap (map (value_at (plain_values c x))) done.none in
      plain-with_fence c us done.sound.formed done.known x long (rw done.none (All-nil (λ u. u < value_count c))) ∙ rw none refl

  -- behind a fence it meets the contract of a cipher's circuit
  pub IsCipherCircuit-done : (size : Size) (f : List Bool → List Bool) → size_of (with_fence c us) ≡ size → IsWithinLimits (with_fence c us)
      → ((x : List Bool) → length x ≡ c.inputs → bits_of c x us ≡ f x) → IsCipherCircuit (with_fence c us) size f (with_fence c us)
  IsCipherCircuit-done size f sized limits computes =
      let inputs : (with_fence c us).inputs ≡ c.inputs = unfold size_of in ap (λ (s : Size). s.inputs) (size-with_fence c us done.none) in
      IsCipherCircuit-strong (with_fence c us) size f (with_fence c us) refl
      (record { formed = IsWellFormed-fence c us done.sound.formed done.known done.none; few_values = limits.values; few_outputs = limits.outputs })
      sized IsStrong-done (λ x long. plain-done x (long ∙ inputs) ∙ computes x (long ∙ inputs))

-- n bits are the lowest ones of their number
pub bits_of-lowest : (c : Netlist) (x : List Bool) (us : List ℕ) (n k : ℕ) → length us ≡ n → number (bits_of c x us) ≡ k → bits_of c x us ≡ lowest n k
unfolding bits_of
bits_of-lowest c x us n k long is = sym (lowest-of (bits_of c x us) k n (sym is) (length-map us (value_at (plain_values c x)) ∙ long))
