-- How a batch grows.
use Rattle.std.proofs.Common.{◌≡◌, ◌≢◌, ℕ, suc, ◌+◌, ◌<◌, ◌^◌, ◌⊎◌, inl, inr, List, length, get_or, slice_set, Some, None, refl, ap, sym, ◌∙◌, subst, arith, get_or-set_same, get_or-set_other}
use Rattle.std.specs.declared.option.Option.{Option}
use Rattle.std.proofs.Math.ListN.{length-set}
use Rattle.std.proofs.lemmas.Bool.{cases_eq}
use Rattle.std.proofs.lemmas.Option.{none-some}
use Rattle.mask_circuit.specs.declared.gates.Gate.{Gate}
use Rattle.mask_circuit.specs.declared.gates.Gate.TheVariants.{Zero, One, Xor, Not, And, Ref}
use Rattle.mask_circuit.specs.Netlist.{Netlist, IsCircuit, value_count}
use Rattle.mask_circuit.specs.Acceptance.{gate_at}
use Rattle.mask_circuit.proofs.GateAt.{gate_at_operands}
use Rattle.mask_check.specs.declared.batches.Batch.{Batch}
use Rattle.mask_check.specs.Marks.{IsMarked, with_marks}
use Rattle.mask_check.specs.Batches.{product_at, products_below, IsProduct, IsBatch, batch_after, left_after, right_after}
use Rattle.mask_check.proofs.Words.{HasBit-pow, HasBit-pow_only}
use Rattle.mask_check.proofs.Marking.{length-with_marks, with_marks-other, with_marks-kept, with_marks-new, with_marks-only}

pub products_below-more : (c : Netlist) (n : ℕ) → products_below c (n + 1) ≡ products_below c n + product_at (gate_at c n)
products_below-more c n = let e : n + 1 ≡ suc n = omega arith in subst (λ (m : ℕ). products_below c m ≡ products_below c n + product_at (gate_at c n)) (sym e) refl

-- the next value is no product
skip : (c : Netlist) (b : Batch) (left right : List ℕ) (g : Option Gate) → b.until < value_count c → gate_at c b.until ≡ g → product_at g ≡ 0 →
    ((u v : ℕ) → g ≡ Some (And u v) → ⊥) → IsBatch c b left right → IsBatch c (record b { until = b.until + 1 }) left right
skip c b left right g within is none not_and old = record {
  few = old.few;
  room = old.room;
  from = omega (arith, old.from);
  until = omega arith;
  left_size = old.left_size;
  right_size = old.right_size;
  left_clear = λ v le. old.left_clear v (omega arith);
  right_clear = λ v le. old.right_clear v (omega arith);
  are_products = λ j lt.
      let p = old.are_products j lt in
      record { from = p.from; until = omega (arith, p.until); u = p.u; v = p.v; is_product = p.is_product; left_mark = p.left_mark; right_mark = p.right_mark };
  rising = old.rising;
  all = λ p u v from lt product. elim (cases_eq p b.until) [
    | inl e ↦ absurd (not_and u v (sym is ∙ subst (λ (x : ℕ). gate_at c x ≡ Some (And u v)) e product))
    | inr ne ↦ old.all p u v from (omega arith) product
  ];
  left_only = old.left_only;
  right_only = old.right_only;
  counted =
      let more = products_below-more c b.until in
      let zero : product_at (gate_at c b.until) ≡ 0 = ap product_at is ∙ none in
      omega (arith, more, zero, old.counted);
}

-- the next value is a product
add : (c : Netlist) (b : Batch) (left right : List ℕ) (u v : ℕ) → IsCircuit c → b.until < value_count c → b.count < 64 → gate_at c b.until ≡ Some (And u v) →
    IsBatch c b left right → IsBatch c (batch_after (Some (And u v)) b) (with_marks left u (2 ^ b.count)) (with_marks right v (2 ^ b.count))
add c b left right u v circuit within few is old = record {
  few = omega arith;
  room = length-set b.products b.count b.until ∙ old.room;
  from = omega (arith, old.from);
  until = omega arith;
  left_size = length-with_marks left u _ ∙ old.left_size;
  right_size = length-with_marks right v _ ∙ old.right_size;
  left_clear = λ w le. let ne : w ≢ u = omega (arith, below.0) in with_marks-other left u _ w ne ∙ old.left_clear w (omega arith);
  right_clear = λ w le. let ne : w ≢ v = omega (arith, below.1) in with_marks-other right v _ w ne ∙ old.right_clear w (omega arith);
  are_products = λ j lt. product j lt (cases_eq j b.count);
  rising = λ i j lt below_end. rises i j lt below_end (cases_eq j b.count);
  all = λ p x y from lt product. elim (cases_eq p b.until) [
    | inl e ↦ (b.count, omega arith, at_new ∙ sym e)
    | inr ne ↦
        let o = old.all p x y from (omega arith) product in
        let other : o.0 ≢ b.count = omega (arith, o.1) in
        (o.0, omega (arith, o.1), at_old o.0 other ∙ o.2)
  ];
  left_only = λ w j h. elim (with_marks-only left u _ w j left_in h) [
    | inl kept ↦
        let o = old.left_only w j kept in
        let other : j ≢ b.count = omega (arith, o.1) in
        (o.0, omega (arith, o.1), subst (λ (x : ℕ). gate_at c x ≡ Some (And w o.0)) (sym (at_old j other)) o.2)
    | inr new ↦
        let last : j ≡ b.count = HasBit-pow_only b.count j new.1 in
        (v, omega arith, subst (λ (x : ℕ). gate_at c x ≡ Some (And w v)) (sym (here j last)) (is ∙ ap (λ (x : ℕ). Some (And x v)) (sym new.0)))
  ];
  right_only = λ w j h. elim (with_marks-only right v _ w j right_in h) [
    | inl kept ↦
        let o = old.right_only w j kept in
        let other : j ≢ b.count = omega (arith, o.1) in
        (o.0, omega (arith, o.1), subst (λ (x : ℕ). gate_at c x ≡ Some (And o.0 w)) (sym (at_old j other)) o.2)
    | inr new ↦
        let last : j ≡ b.count = HasBit-pow_only b.count j new.1 in
        (u, omega arith, subst (λ (x : ℕ). gate_at c x ≡ Some (And u w)) (sym (here j last)) (is ∙ ap (λ (x : ℕ). Some (And u x)) (sym new.0)))
  ];
  counted =
      let more = products_below-more c b.until in
      let one : product_at (gate_at c b.until) ≡ 1 = ap product_at is in
      omega (arith, more, one, old.counted);
}
  where
    places : List ℕ
    places = slice_set b.products b.count b.until

    below : (u < b.until) × (v < b.until)
    below = gate_at_operands c b.until (And u v) circuit.formed.gates is

    left_in : u < length left
    left_in = omega (arith, below.0, old.left_size)

    right_in : v < length right
    right_in = omega (arith, below.1, old.right_size)

    at_new : get_or places b.count 0 ≡ b.until
    at_new = get_or-set_same b.products b.count b.until 0 (omega (arith, old.room))

    at_old : (j : ℕ) → j ≢ b.count → get_or places j 0 ≡ get_or b.products j 0
    at_old j ne = get_or-set_other b.products b.count j b.until 0 ne

    here : (j : ℕ) → j ≡ b.count → get_or places j 0 ≡ b.until
    here j e = subst (λ (x : ℕ). get_or places x 0 ≡ b.until) (sym e) at_new

    product : (j : ℕ) → j < b.count + 1 → (j ≡ b.count) ⊎ (j ≢ b.count) →
        IsProduct c (batch_after (Some (And u v)) b) (with_marks left u (2 ^ b.count)) (with_marks right v (2 ^ b.count)) j
    product j lt (inl e) = record {
      from = omega (arith, here j e, old.from);
      until = omega (arith, here j e);
      u = u;
      v = v;
      is_product = subst (λ (x : ℕ). gate_at c x ≡ Some (And u v)) (sym (here j e)) is;
      left_mark = subst (IsMarked (with_marks left u (2 ^ b.count)) u) (sym e) (with_marks-new left u _ b.count left_in (HasBit-pow b.count));
      right_mark = subst (IsMarked (with_marks right v (2 ^ b.count)) v) (sym e) (with_marks-new right v _ b.count right_in (HasBit-pow b.count));
    }
    product j lt (inr ne) =
        let p = old.are_products j (omega arith) in
        record {
          from = omega (arith, at_old j ne, p.from);
          until = omega (arith, at_old j ne, p.until);
          u = p.u;
          v = p.v;
          is_product = subst (λ (x : ℕ). gate_at c x ≡ Some (And p.u p.v)) (sym (at_old j ne)) p.is_product;
          left_mark = with_marks-kept left u _ p.u j left_in p.left_mark;
          right_mark = with_marks-kept right v _ p.v j right_in p.right_mark;
        }

    rises : (i j : ℕ) → i < j → j < b.count + 1 → (j ≡ b.count) ⊎ (j ≢ b.count) → get_or places i 0 < get_or places j 0
    rises i j lt end (inl e) =
        let other : i ≢ b.count = omega arith in
        omega (arith, here j e, at_old i other, (old.are_products i (omega arith)).until)
    rises i j lt end (inr ne) =
        let other : i ≢ b.count = omega arith in
        omega (arith, at_old j ne, at_old i other, old.rising i j lt (omega arith))

-- one value more
IsBatch-step : (c : Netlist) (b : Batch) (left right : List ℕ) (g : Option Gate) → IsCircuit c → b.until < value_count c → b.count < 64 → gate_at c b.until ≡ g →
    IsBatch c b left right → IsBatch c (batch_after g b) (left_after g b.count left) (right_after g b.count right)
IsBatch-step c b left right None circuit within few is old = skip c b left right None within is refl (λ x y. none-some (And x y)) old
IsBatch-step c b left right (Some Zero) circuit within few is old = skip c b left right (Some Zero) within is refl (λ x y e. grind arith) old
IsBatch-step c b left right (Some One) circuit within few is old = skip c b left right (Some One) within is refl (λ x y e. grind arith) old
IsBatch-step c b left right (Some (Xor u v)) circuit within few is old = skip c b left right (Some (Xor u v)) within is refl (λ x y e. grind arith) old
IsBatch-step c b left right (Some (Not u)) circuit within few is old = skip c b left right (Some (Not u)) within is refl (λ x y e. grind arith) old
IsBatch-step c b left right (Some (And u v)) circuit within few is old = add c b left right u v circuit within few is old
IsBatch-step c b left right (Some (Ref u)) circuit within few is old = skip c b left right (Some (Ref u)) within is refl (λ x y e. grind arith) old

pub IsBatch-after : (c : Netlist) (b b' : Batch) (left right left' right' : List ℕ) (g : Option Gate) → IsCircuit c → b.until < value_count c → b.count < 64 →
    g ≡ gate_at c b.until → b' ≡ batch_after g b → left' ≡ left_after g b.count left → right' ≡ right_after g b.count right → IsBatch c b left right → IsBatch c b' left' right'
IsBatch-after c b b' left right left' right' g circuit within few gate eb el er old = rw (eb, el, er) (IsBatch-step c b left right g circuit within few (sym gate) old)

-- the ends of a batch after one value more
pub batch_after-ends : (g : Option Gate) (b : Batch) → ((batch_after g b).until ≡ b.until + 1) × ((batch_after g b).from ≡ b.from)
batch_after-ends None b = (refl, refl)
batch_after-ends (Some Zero) b = (refl, refl)
batch_after-ends (Some One) b = (refl, refl)
batch_after-ends (Some (Xor u v)) b = (refl, refl)
batch_after-ends (Some (Not u)) b = (refl, refl)
batch_after-ends (Some (And u v)) b = (refl, refl)
batch_after-ends (Some (Ref u)) b = (refl, refl)
