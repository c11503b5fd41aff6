-- What holds of the codes that tasks run: they make tags, and how many gates they evaluate depends on lengths alone.
use Rattle.std.proofs.Common.{◌≡◌, ℕ, ◌+◌, ◌*◌, ◌%◌, ◌<◌, ◌≤◌, Bool, true, false, List, [], ◌∷◌, ◌++◌, length, map, take, drop, replicate, subst, refl, sym, ap, ap₂, ◌∙◌, arith}
use Rattle.std.proofs.lemmas.List.{length-replicate, replicate-append-replicate, take-append-drop}
use Rattle.std.proofs.lemmas.List.Sums.{sum_by-append, sum_by-cons}
use Rattle.mask_circuit.specs.Netlist.{Netlist}
use Rattle.mask_tasks.specs.declared.sizes.KeySize.{KeySize}
use Rattle.mask_tasks.specs.Limits.{counter_bytes, lightmac_tag, chaskey_tag}
use Rattle.mask_tasks.proofs.Limits.{counter_bytes-bounds, lightmac_tag-bounds}
use Rattle.mask_trace.specs.Steps.{Step}
use Rattle.mask_macs.specs.Codes.{Code, ArePieces, IsNext, chaskey_code, lightmac_code}
use Rattle.mask_macs.proofs.ChaskeyBits as chaskey_bits
use Rattle.mask_macs.proofs.ChaskeyPlans as chaskey_plans
use Rattle.mask_macs.proofs.ChaskeyTags as chaskey_tags
use Rattle.mask_macs.proofs.ChaskeyValues as chaskey_values
use Rattle.mask_macs.proofs.LightMacBits as light_bits
use Rattle.mask_macs.proofs.LightMacPlans as light_plans
use Rattle.mask_macs.proofs.LightMacTags as light_tags
use Rattle.mask_macs.proofs.LightMacValues as light_values
use Rattle.mask_macs.proofs.Messages.{plans_are_strong, registers_go_on}
use Rattle.mask_macs.proofs.OwnSteps.{chaskey_steps, light_steps}
use Rattle.mask_tasks.specs.declared.tasks.Task.{Task}
use Rattle.mask_tasks.specs.declared.tasks.Task.TheVariants.{Present, Lea, Trivium, LightMac, Chaskey}
use Rattle.mask_ciphers.specs.Methods.{Method, InCounterMode, AsStream, AsCode, gates_of}
use Rattle.mask_ciphers.specs.Tasks.{method_of}
use Rattle.mask_ciphers.specs.Laws.{MakesTags}

-- THE CODES

pub chaskey_makes : (tag : ℕ) → MakesTags (chaskey_code tag)
chaskey_makes tag = record {
  split = chaskey_plans.plans_split tag;
  steps = chaskey_steps tag;
  strong = plans_are_strong (chaskey_code tag) (chaskey_plans.pieces tag);
  draws = chaskey_bits.run_bits tag;
  fits = chaskey_tags.output_fits tag;
  goes_on = chaskey_tags.output_goes_on tag;
  registers = registers_go_on (chaskey_code tag) (chaskey_values.pieces_go_on tag);
  bits = chaskey_tags.outputs_are_bits tag;
}

pub lightmac_makes : (size : KeySize) (counter tag : ℕ) → MakesTags (lightmac_code size (counter_bytes counter) (lightmac_tag tag))
lightmac_makes size counter tag =
    let s = counter_bytes counter in
    let t = lightmac_tag tag in
    let is = counter_bytes-bounds counter in
    let few = (lightmac_tag-bounds tag).1 in
    record {
      split = light_plans.plans_split size s is t;
      steps = light_steps size s t;
      strong = plans_are_strong (lightmac_code size s t) (light_plans.pieces size s is t);
      draws = light_bits.run_bits size s t is;
      fits = light_tags.output_fits size s t few;
      goes_on = light_tags.output_goes_on size s t is;
      registers = registers_go_on (lightmac_code size s t) (light_values.pieces_go_on size s t is);
      bits = light_tags.outputs_are_bits size s t is few;
    }

-- a method that uses a code uses one that makes tags
abbrev pub HasCode : Method → Type 0
HasCode (InCounterMode m cipher) = Unit {0}
HasCode (AsStream iv) = Unit {0}
HasCode (AsCode code) = MakesTags code

pub has_code : (task : Task) → HasCode (method_of task)
has_code (Present size iv) = tt
has_code (Lea size iv) = tt
has_code (Trivium iv) = tt
has_code (LightMac size counter tag) = lightmac_makes size counter tag
has_code (Chaskey tag) = chaskey_makes (chaskey_tag tag)

-- GATES

pub gates_of-append : (ss ts : List Step) → gates_of (ss ++ ts) ≡ gates_of ss + gates_of ts
gates_of-append ss ts = sum_by-append (λ (s : Step). length s.circuit.gates) ss ts

gates_of-cons : (s : Step) (ss : List Step) → gates_of (s ∷ ss) ≡ length s.circuit.gates + gates_of ss
gates_of-cons s ss = sum_by-cons (λ (s : Step). length s.circuit.gates) s ss

-- steps of the same circuits have as many gates
gates_of-circuits : (ss ts : List Step) → map (λ (s : Step). s.circuit) ss ≡ map (λ (s : Step). s.circuit) ts → gates_of ss ≡ gates_of ts
gates_of-circuits [] [] same = refl
gates_of-circuits [] (t ∷ ts) same = absurd (cc)
gates_of-circuits (s ∷ ss) [] same = absurd (cc)
gates_of-circuits (s ∷ ss) (t ∷ ts) same =
    let here : s.circuit ≡ t.circuit = cc in
    let later : map (λ (s : Step). s.circuit) ss ≡ map (λ (s : Step). s.circuit) ts = cc in
    gates_of-cons s ss ∙ ap₂ (λ (c : Netlist) (n : ℕ). length c.gates + n) here (gates_of-circuits ss ts later) ∙ sym (gates_of-cons t ts)

module _ (code : Code) (is : MakesTags code) where
  -- the gates of the next piece, and of as many zeros
  zeros-next : (n : ℕ) (piece : List ℕ) (last : Bool) → gates_of (code.next n (replicate (length piece) 0) last) ≡ gates_of (code.next n piece last)
  zeros-next n piece last =
      gates_of-circuits _ _ (is.steps.circuits n (replicate (length piece) 0) piece last (length-replicate (length piece) 0))

  -- zeros behind zeros
  abbrev zeros : ℕ → List ℕ
  zeros n = replicate n 0

  next-zeros : (n : ℕ) (piece : List ℕ) (last : Bool) → gates_of (code.next (length (zeros n)) (zeros (length piece)) last) ≡ gates_of (code.next n piece last)
  next-zeros n piece last =
      ap (λ (k : ℕ). gates_of (code.next k (zeros (length piece)) last)) (length-replicate n 0) ∙ zeros-next n piece last

  whole-zeros : (n : ℕ) → ArePieces code n → ArePieces code (length (zeros n))
  whole-zeros n whole = subst (ArePieces code) (sym (length-replicate n 0)) whole

  next_is : (n : ℕ) (piece : List ℕ) (last : Bool) → IsNext code n piece last → IsNext code (length (zeros n)) (zeros (length piece)) last
  next_is n piece false is = length-replicate (length piece) 0 ∙ is
  next_is n piece true is =
      let front : length (zeros n) ≡ n = length-replicate n 0 in
      let long : length (zeros (length piece)) ≡ length piece = length-replicate (length piece) 0 in
      let few = is.0 in
      (omega arith, λ some. let before : 0 < n = omega arith in let more = is.1 before in omega arith)

  pub fed-more : (n : ℕ) (piece : List ℕ) → ArePieces code n → length piece ≡ code.piece_bytes →
      gates_of (code.fed (zeros (n + length piece))) ≡ gates_of (code.fed (zeros n)) + gates_of (code.next n piece false)
  fed-more n piece whole size =
      ap (λ (m : List ℕ). gates_of (code.fed m)) (sym (replicate-append-replicate n (length piece) 0))
      ∙ ap gates_of (is.split.on (zeros n) (zeros (length piece)) (whole-zeros n whole) (next_is n piece false size))
      ∙ gates_of-append (code.fed (zeros n)) (code.next (length (zeros n)) (zeros (length piece)) false)
      ∙ ap (λ (g : ℕ). gates_of (code.fed (zeros n)) + g) (next-zeros n piece false)

  pub last-more : (n : ℕ) (piece : List ℕ) → ArePieces code n → IsNext code n piece true →
      gates_of (code.plan (zeros (n + length piece))) ≡ gates_of (code.fed (zeros n)) + gates_of (code.next n piece true)
  last-more n piece whole next =
      ap (λ (m : List ℕ). gates_of (code.plan m)) (sym (replicate-append-replicate n (length piece) 0))
      ∙ ap gates_of (is.split.ends (zeros n) (zeros (length piece)) (whole-zeros n whole) (next_is n piece true next))
      ∙ gates_of-append (code.fed (zeros n)) (code.next (length (zeros n)) (zeros (length piece)) true)
      ∙ ap (λ (g : ℕ). gates_of (code.fed (zeros n)) + g) (next-zeros n piece true)

  -- what comes ahead of a piece is counted with it
  pub ahead-few : (n count : ℕ) (piece : List ℕ) (last : Bool) → gates_of (take count (code.ahead n last)) ≤ gates_of (code.next n piece last)
  ahead-few n count piece last =
      let begins = is.steps.begins n piece last in
      let all = ap gates_of begins.1 ∙ gates_of-append (code.ahead n last) (begins.0 ∷ []) in
      let parts = ap gates_of (sym (take-append-drop count (code.ahead n last))) ∙ gates_of-append (take count (code.ahead n last)) (drop count (code.ahead n last)) in
      omega (arith, all, parts)
