-- The S-box of PRESENT, as the table of the standard and as a part of five products.
use Rattle.std.specs.Prelude.{ℕ, ◌+◌, List, [], ◌∷◌, slice_index}
use Rattle.mask_circuit.specs.declared.gates.Gate.{Gate}
use Rattle.mask_circuit.specs.Netlist.{Netlist, value_count}
use Rattle.mask_parts.specs.declared.tables.Place.TheVariants.{Given, Made}
use Rattle.mask_parts.specs.declared.tables.Step.{Step}
use Rattle.mask_parts.specs.declared.tables.Step.TheVariants.{Xor, Not, Product}
use Rattle.mask_parts.specs.Drafts.{with_gates}
use Rattle.mask_parts.specs.Tables.{part_gates}

-- S(0), S(1), .., S(15): ISO/IEC 29192-2; Bogdanov and others 2007, section 3
abbrev pub sbox_table : List ℕ
sbox_table =
    0xC ∷ (0x5 ∷ (0x6 ∷ (0xB ∷ (0x9 ∷ (0x0 ∷ (0xA ∷ (0xD ∷ (0x3 ∷ (0xE ∷ (0xF ∷ (0x8 ∷ (0x4 ∷ (0x7 ∷ (0x1 ∷ (0x2 ∷ [])))))))))))))))

-- the S-box of PRESENT, on a number below 16
unfoldable pub sbox : ℕ → ℕ
sbox x = slice_index sbox_table x

-- This project's own circuit for it, on the bits 0, the lowest, to 3. Behind each step stands the number of the value that
-- it makes; a product makes its refresh before that.
unfoldable pub sbox_steps : List Step
sbox_steps =
    Product (Given 1) (Given 2)  -- 1
    ∷ (Xor (Given 1) (Given 2)  -- 2
    ∷ (Product (Given 3) (Made 2)  -- 4
    ∷ (Product (Given 1) (Given 3)  -- 6
    ∷ (Xor (Made 1) (Made 4)  -- 7
    ∷ (Product (Given 0) (Made 7)  -- 9
    ∷ (Xor (Given 1) (Given 3)  -- 10
    ∷ (Xor (Made 10) (Made 4)  -- 11
    ∷ (Product (Given 0) (Made 11)  -- 13
    ∷ (Xor (Given 0) (Given 2)  -- 14
    ∷ (Xor (Made 14) (Given 3)  -- 15
    ∷ (Xor (Made 15) (Made 1)  -- 16
    ∷ (Xor (Made 11) (Made 9)  -- 17
    ∷ (Xor (Given 2) (Given 3)  -- 18
    ∷ (Xor (Made 18) (Made 6)  -- 19
    ∷ (Xor (Made 19) (Made 13)  -- 20
    ∷ (Not (Made 20)  -- 21
    ∷ (Xor (Given 0) (Made 10)  -- 22
    ∷ (Xor (Made 22) (Made 1)  -- 23
    ∷ (Xor (Made 23) (Made 9)  -- 24
    ∷ (Not (Made 24)  -- 25
    ∷ []))))))))))))))))))))

-- its 26 gates, on the values xs of the bits 0 to 3, where the first gate makes value n
unfoldable pub sbox_gates : ℕ → List ℕ → List Gate
sbox_gates n xs = part_gates n xs sbox_steps

-- the draft with them at its end
unfoldable pub with_sbox : Netlist → List ℕ → Netlist
with_sbox c xs = with_gates c (sbox_gates (value_count c) xs)

-- the values of the result's bits 0 to 3
unfoldable pub sbox_results : ℕ → List ℕ
sbox_results n = (n + 16) ∷ ((n + 17) ∷ ((n + 21) ∷ ((n + 25) ∷ [])))
