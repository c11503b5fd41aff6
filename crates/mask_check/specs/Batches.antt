-- Up to 64 products in rising order, and the marks of their operands.
use Rattle.std.specs.Prelude.{◌≡◌, ℕ, zero, suc, ◌+◌, ◌<◌, ◌≤◌, ◌^◌, List, length, slice_index, slice_set, Some, None}
use Rattle.std.specs.declared.option.Option.{Option}
use Rattle.mask_circuit.specs.declared.gates.Gate.{Gate}
use Rattle.mask_circuit.specs.declared.gates.Gate.TheVariants.{Zero, One, Xor, Not, And, Ref}
use Rattle.mask_circuit.specs.Netlist.{Netlist, value_count}
use Rattle.mask_circuit.specs.Acceptance.{gate_at}
use Rattle.mask_check.specs.declared.batches.Batch.{Batch}
use Rattle.mask_check.specs.Marks.{IsMarked, IsClearFrom, with_marks}

-- 1 for a product, and 0 for other gates and for inputs
abbrev pub product_at : Option Gate → ℕ
product_at None = 0
product_at (Some Zero) = 0
product_at (Some One) = 0
product_at (Some (Xor u v)) = 0
product_at (Some (Not u)) = 0
product_at (Some (And u v)) = 1
product_at (Some (Ref u)) = 0

-- how many of the values below n are products
abbrev pub products_below : Netlist → ℕ → ℕ
products_below c zero = 0
products_below c (suc v) = products_below c v + product_at (gate_at c v)

-- product j of the batch: both of its operands have mark j
pub record IsProduct (c : Netlist) (batch : Batch) (left right : List ℕ) (j : ℕ) : Type 0 where
  pub from : batch.from ≤ slice_index batch.products j
  pub until : slice_index batch.products j < batch.until
  pub u : ℕ
  pub v : ℕ
  pub is_product : gate_at c (slice_index batch.products j) ≡ Some (And u v)
  pub left_mark : IsMarked left u j
  pub right_mark : IsMarked right v j

-- the batch has all products among the values that it names, and the marks of their operands are all that there are
pub record IsBatch (c : Netlist) (batch : Batch) (left right : List ℕ) : Type 0 where
  pub few : batch.count ≤ 64
  pub room : length batch.products ≡ 64
  pub from : batch.from ≤ batch.until
  pub until : batch.until ≤ value_count c
  pub left_size : length left ≡ value_count c
  pub right_size : length right ≡ value_count c
  pub left_clear : IsClearFrom batch.until left
  pub right_clear : IsClearFrom batch.until right
  pub are_products : (j : ℕ) → j < batch.count → IsProduct c batch left right j
  pub rising : (i j : ℕ) → i < j → j < batch.count → slice_index batch.products i < slice_index batch.products j
  pub all : (p u v : ℕ) → batch.from ≤ p → p < batch.until → gate_at c p ≡ Some (And u v) →
      (j : ℕ) × (j < batch.count) × (slice_index batch.products j ≡ p)
  pub left_only : (w j : ℕ) → IsMarked left w j →
      (v : ℕ) × (j < batch.count) × (gate_at c (slice_index batch.products j) ≡ Some (And w v))
  pub right_only : (w j : ℕ) → IsMarked right w j →
      (u : ℕ) × (j < batch.count) × (gate_at c (slice_index batch.products j) ≡ Some (And u w))
  pub counted : products_below c batch.until ≡ products_below c batch.from + batch.count

-- what a batch becomes where the next value has this gate
abbrev pub batch_after : Option Gate → Batch → Batch
batch_after None batch = record batch { until = batch.until + 1 }
batch_after (Some Zero) batch = record batch { until = batch.until + 1 }
batch_after (Some One) batch = record batch { until = batch.until + 1 }
batch_after (Some (Xor u v)) batch = record batch { until = batch.until + 1 }
batch_after (Some (Not u)) batch = record batch { until = batch.until + 1 }
batch_after (Some (And u v)) batch = record batch {
  until = batch.until + 1;
  products = slice_set batch.products batch.count batch.until;
  count = batch.count + 1;
}
batch_after (Some (Ref u)) batch = record batch { until = batch.until + 1 }

-- the marks on the left where the next value has this gate: a product gives its left operand mark j
abbrev pub left_after : Option Gate → ℕ → List ℕ → List ℕ
left_after None j words = words
left_after (Some Zero) j words = words
left_after (Some One) j words = words
left_after (Some (Xor u v)) j words = words
left_after (Some (Not u)) j words = words
left_after (Some (And u v)) j words = with_marks words u (2 ^ j)
left_after (Some (Ref u)) j words = words

-- and those on the right
abbrev pub right_after : Option Gate → ℕ → List ℕ → List ℕ
right_after None j words = words
right_after (Some Zero) j words = words
right_after (Some One) j words = words
right_after (Some (Xor u v)) j words = words
right_after (Some (Not u)) j words = words
right_after (Some (And u v)) j words = with_marks words v (2 ^ j)
right_after (Some (Ref u)) j words = words
