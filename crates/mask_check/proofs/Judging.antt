-- From what a pass finds to a verdict, and from verdicts to security.
use Rattle.std.proofs.Common.{◌≡◌, ℕ, ◌<◌, ◌≤◌, ◌⊎◌, inl, inr, List, get_or, Some, ap, sym, ◌∙◌, subst, arith}
use Rattle.std.proofs.lemmas.Bool.{cases_lt}
use Rattle.mask_circuit.specs.declared.gates.Gate.TheVariants.{And}
use Rattle.mask_circuit.specs.Netlist.{Netlist, IsCircuit, value_count}
use Rattle.mask_circuit.specs.Acceptance.{gate_at, Reaches, IsShared, IsAccepted, IsClash, IsStrong}
use Rattle.mask_circuit.proofs.GateAt.{gate_at_within}
use Rattle.mask_laws.proofs.Gates.{gate_keeps}
use Rattle.mask_laws.proofs.Simulation.{accepted_is_ni}
use Rattle.mask_laws.proofs.Strengthening.{strong_is_sni}
use Rattle.mask_check.specs.declared.backward.Meeting.{Meeting}
use Rattle.mask_check.specs.declared.batches.Batch.{Batch}
use Rattle.mask_check.specs.declared.verdicts.Verdict.{Verdict}
use Rattle.mask_check.specs.declared.verdicts.Verdict.TheVariants.{Accepted}
use Rattle.mask_check.specs.Batches.{IsBatch}
use Rattle.mask_check.specs.Marks.{Meets, IsLowestMeeting}
use Rattle.mask_check.specs.Security.{IsNIAtEachOrder, IsSNIAtEachOrder}
use Rattle.mask_check.specs.Verdicts.{IsVerdict, IsAcceptedBelow}

-- SECURITY

pub accepted_secure : (c : Netlist) → IsCircuit c → IsAccepted c → IsNIAtEachOrder c
accepted_secure c is accepted N two = accepted_is_ni gate_keeps c N two is.formed.gates accepted

pub strong_secure : (c : Netlist) → IsCircuit c → IsStrong c → IsSNIAtEachOrder c
strong_secure c is strong N two = strong_is_sni c N two is.formed strong

-- A BATCH

same_left : (a b u v : ℕ) → Some (And a b) ≡ Some (And u v) → a ≡ u
same_left a b u v e = cc

same_right : (a b u v : ℕ) → Some (And a b) ≡ Some (And u v) → b ≡ v
same_right a b u v e = cc

-- product p of the batch, which shares s, has a mark that meets s on both sides
pub record IsMet (c : Netlist) (b : Batch) (left right : List ℕ) (p s : ℕ) : Type 0 where
  pub mark : ℕ
  pub few : mark < b.count
  pub product : get_or b.products mark 0 ≡ p
  pub on_left : Meets c left mark s
  pub on_right : Meets c right mark s

-- a product of the batch that shares a source is met there ..
shared_is_met : (c : Netlist) (b : Batch) (left right : List ℕ) (p s : ℕ) → IsBatch c b left right → b.from ≤ p → p < b.until → IsShared c p s → IsMet c b left right p s
shared_is_met c b left right p s batch from lt h =
    let j = batch.all p h.left h.right from lt h.is_product in
    let product = batch.are_products j.0 j.1 in
    let same = sym product.is_product ∙ ap (gate_at c) j.2 ∙ h.is_product in
    record {
      mark = j.0;
      few = j.1;
      product = j.2;
      on_left = record {
        value = product.u;
        is_marked = product.left_mark;
        reaches = subst (λ (x : ℕ). Reaches c x s) (sym (same_left _ _ _ _ same)) h.left_reaches;
      };
      on_right = record {
        value = product.v;
        is_marked = product.right_mark;
        reaches = subst (λ (x : ℕ). Reaches c x s) (sym (same_right _ _ _ _ same)) h.right_reaches;
      };
    }

-- .. and what is met is shared
met_is_shared : (c : Netlist) (b : Batch) (left right : List ℕ) (j s : ℕ) → IsBatch c b left right → Meets c left j s → Meets c right j s →
    (j < b.count) × IsShared c (get_or b.products j 0) s
met_is_shared c b left right j s batch l r =
    let at_left = batch.left_only l.value j l.is_marked in
    let at_right = batch.right_only r.value j r.is_marked in
    let same = same_right _ _ _ _ (sym at_left.2 ∙ at_right.2) in (
      at_left.1,
      record {
        left = l.value;
        right = at_left.0;
        is_product = at_left.2;
        left_reaches = l.reaches;
        right_reaches = subst (λ (x : ℕ). Reaches c x s) (sym same) r.reaches;
      },
    )

-- nothing is met: no product of the batch shares a source
pub batch_accepted : (c : Netlist) (b : Batch) (left right : List ℕ) (m : Meeting) → IsBatch c b left right → IsLowestMeeting c left right 0 m → 64 ≤ m.bit →
    IsAcceptedBelow c b.from → IsAcceptedBelow c b.until
batch_accepted c b left right m batch lowest none earlier p s lt h = elim (cases_lt p b.from) [
  | inl before ↦ earlier p s before h
  | inr from ↦
      let met = shared_is_met c b left right p s batch from lt h in
      elim (lowest.lowest met.mark s (omega arith) met.on_left met.on_right) [
        | inl high ↦ absurd (omega (arith, met.few, batch.few))
        | inr same ↦ absurd (omega (arith, same.0, met.few, batch.few))
      ]
]

-- something is met: the lowest mark is that of the clash
pub batch_refused : (c : Netlist) (b : Batch) (left right : List ℕ) (m : Meeting) → IsBatch c b left right → IsLowestMeeting c left right 0 m → m.bit < 64 →
    IsAcceptedBelow c b.from → IsClash c (get_or b.products m.bit 0) m.source
batch_refused c b left right m batch lowest some earlier = record { shared = found.1; lowest = λ q t h. low q t h (cases_lt q b.from) (cases_lt q b.until) }
  where
    found : (m.bit < b.count) × IsShared c (get_or b.products m.bit 0) m.source
    found = met_is_shared c b left right m.bit m.source batch (lowest.on_left some) (lowest.on_right some)

    low : (q t : ℕ) → IsShared c q t → (q < b.from) ⊎ (b.from ≤ q) → (q < b.until) ⊎ (b.until ≤ q) →
        (get_or b.products m.bit 0 < q) ⊎ ((get_or b.products m.bit 0 ≡ q) × (m.source ≤ t))
    low q t h (inl before) end = absurd (earlier q t before h)
    low q t h (inr from) (inr after) = inl (omega (arith, (batch.are_products m.bit found.0).until))
    low q t h (inr from) (inl lt) =
        let met = shared_is_met c b left right q t batch from lt h in
        elim (lowest.lowest met.mark t (omega arith) met.on_left met.on_right) [
          | inl high ↦ inl (omega (arith, batch.rising m.bit met.mark high met.few, met.product))
          | inr same ↦ inr (ap (λ (x : ℕ). get_or b.products x 0) same.0 ∙ met.product, same.1)
        ]

-- an empty batch has no products
pub batch_empty : (c : Netlist) (b : Batch) (left right : List ℕ) → IsBatch c b left right → b.count ≡ 0 → IsAcceptedBelow c b.from → IsAcceptedBelow c b.until
batch_empty c b left right batch none earlier p s lt h = elim (cases_lt p b.from) [
  | inl before ↦ earlier p s before h
  | inr from ↦ absurd (omega (arith, (shared_is_met c b left right p s batch from lt h).few))
]

-- all products are below the number of values
pub accepted_below : (c : Netlist) (n : ℕ) → value_count c ≤ n → IsAcceptedBelow c n → IsAccepted c
accepted_below c n le below p s h = below p s (omega (arith, (gate_at_within c p _ h.is_product).1)) h

-- a search that finds nothing has come to the end
pub search_ended : (until n count : ℕ) → (until < n → count ≡ 64) → count ≡ 0 → n ≤ until
search_ended until n count full none = elim (cases_lt until n) [ inl lt ↦ absurd (omega (arith, full lt)) | inr le ↦ le ]

-- an accepting verdict gives security
pub verdict_secure : (c : Netlist) (v : Verdict) → IsCircuit c → IsVerdict c v → v ≡ Accepted → IsNIAtEachOrder c
verdict_secure c v is verdict accepted = accepted_secure c is (subst (IsVerdict c) accepted verdict)
