-- The circuits of a task compute its cipher.
use Rattle.std.proofs.Common.{◌≡◌, ℕ, ◌+◌, ◌*◌, ◌<◌, Bool, List, ◌++◌, length, take, drop, bit_xor, refl, sym, ap, ap₂, ◌∙◌, arith, lit<, length-append}
use Rattle.std.proofs.Math.Seq.{take-append_seam, drop-append_seam, drop-append-add}
use Rattle.std.proofs.lemmas.List.{take_all}
use Rattle.mask_bits.specs.Reading.{low, high, number, lowest}
use Rattle.mask_circuit.specs.Netlist.{Netlist}
use Rattle.mask_tasks.specs.declared.sizes.KeySize.{KeySize}
use Rattle.mask_tasks.specs.declared.sizes.KeySize.TheVariants.{K80, K128}
use Rattle.mask_tasks.specs.declared.sizes.LeaSize.{LeaSize}
use Rattle.mask_tasks.specs.declared.sizes.LeaSize.TheVariants as lea_size
use Rattle.mask_tasks.specs.declared.tasks.Task.TheVariants.{Present, Lea, Trivium, LightMac, Chaskey}
use Rattle.mask_tasks.specs.Sizes.{present_bytes, lea_bytes}
use Rattle.mask_parts.specs.CipherCircuits.{Size, size_of, IsCipherCircuit}
use Rattle.mask_present.specs.Present.{register, present}
use Rattle.mask_present.specs.NamedPresent.{named_present, size_present, present_of_bits}
use Rattle.mask_present.proofs.Forming.{IsCipherCircuit-named_present}
use Rattle.mask_lea.specs.Lea.{schedule, lea}
use Rattle.mask_lea.specs.NamedLea.{width, named_lea, size_lea, lea_of_bits}
use Rattle.mask_lea.proofs.Concluding.{IsCipherCircuit-named_lea}
use Rattle.mask_refresh.specs.Refreshing.{refreshing}
use Rattle.mask_refresh.proofs.Making.{IsWellFormed-refreshing, strong-refreshing, size-refreshing, inputs-refreshing, plain-refreshing}
use Rattle.mask_modes.specs.Steps.{Mode, EnciphersNumbers}
use Rattle.mask_modes.proofs.Numbers.{numbers_are_blocks}
use Rattle.mask_ciphers.specs.Tasks.{present_mode, lea_mode}
use Rattle.mask_ciphers.specs.Laws.{TasksEncipher}
use Rattle.mask_tasks.specs.Limits.{chaskey_tag}
use Rattle.mask_macs.proofs.Refreshes.{outputs-refreshing}
use Rattle.mask_ciphers.proofs.Tagging.{chaskey_makes, lightmac_makes}

-- PARTS OF AN INPUT

first_part : (n : ℕ) (xs ys : List Bool) → length xs ≡ n → take n (xs ++ ys) ≡ xs
first_part n xs ys e = ap (λ (k : ℕ). take k (xs ++ ys)) (sym e) ∙ take-append_seam xs ys

behind_part : (n : ℕ) (xs ys : List Bool) → length xs ≡ n → drop n (xs ++ ys) ≡ ys
behind_part n xs ys e = ap (λ (k : ℕ). drop k (xs ++ ys)) (sym e) ∙ drop-append_seam xs ys

-- what the circuit of a cipher computes, with keys of w bits and blocks of b: the encryption of the counter block under the
-- key, xored with the message block
abbrev of_bits : ℕ → ℕ → (ℕ → ℕ → ℕ) → List Bool → List Bool
of_bits w b encrypt x = lowest b (bit_xor (encrypt (number (take w x)) (number (take b (drop w x)))) (number (take b (drop (w + b) x))))

-- the key, the counter and the block are the parts of its input
of_parts : (w b : ℕ) (encrypt : ℕ → ℕ → ℕ) (key counter block : List Bool) → length key ≡ w → length counter ≡ b → length block ≡ b →
    of_bits w b encrypt (key ++ (counter ++ block)) ≡ lowest b (bit_xor (encrypt (number key) (number counter)) (number block))
of_parts w b encrypt key counter block key_long counter_long block_long =
    let x = key ++ (counter ++ block) in
    let key_is : take w x ≡ key = first_part w key (counter ++ block) key_long in
    let counter_is : take b (drop w x) ≡ counter
    = ap (take b) (behind_part w key (counter ++ block) key_long) ∙ first_part b counter block counter_long in
    let block_is : take b (drop (w + b) x) ≡ block
    = ap (λ (k : ℕ). take b (drop (k + b) x)) (sym key_long)
    ∙ ap (take b) (drop-append-add key (counter ++ block) b ∙ behind_part b counter block counter_long)
    ∙ take_all b block (omega arith) in
    ap₂ (λ (c m : ℕ). lowest b (bit_xor c m)) (ap₂ encrypt (ap number key_is) (ap number counter_is)) (ap number block_is)

-- ANY CIPHER

-- how the circuit of a cipher is used, with keys and blocks of so many bytes
abbrev mode : Netlist → ℕ → ℕ → (List ℕ → List Bool) → ℕ → Mode
mode c key block reading iv = record {
  circuit = c;
  refresh = refreshing (8 * key);
  key = 8 * key;
  block = block;
  reading = reading;
  iv = iv;
}

-- a circuit that computes the cipher enciphers
circuit_enciphers : (c : Netlist) (size : Size) (f : List Bool → List Bool) (encrypt : ℕ → ℕ → ℕ) (key block : ℕ) (reading : List ℕ → List Bool) (iv : ℕ) →
    IsCipherCircuit c size f c → size.inputs ≡ 8 * key + (8 * block + 8 * block) → size.outputs ≡ 8 * block → 0 < block →
    ((x : List Bool) → f x ≡ of_bits (8 * key) (8 * block) encrypt x) → EnciphersNumbers reading (λ k. encrypt (number k)) (mode c key block reading iv)
unfolding size_of
circuit_enciphers c size f encrypt key block reading iv is inputs outputs some computes =
    let inputs_are : c.inputs ≡ 8 * key + (8 * block + 8 * block) = ap (λ (s : Size). s.inputs) is.sized ∙ inputs in
    record {
      circuits = record {
        formed = is.circuit.formed;
        strong = is.strong;
        refresh_formed = IsWellFormed-refreshing (8 * key);
        refresh_strong = strong-refreshing (8 * key);
        some = some;
        inputs = inputs_are;
        outputs = ap (λ (s : Size). s.outputs) is.sized ∙ outputs;
        refresh_inputs = inputs-refreshing (8 * key);
        refresh_outputs = outputs-refreshing (8 * key);
        refreshes = plain-refreshing (8 * key);
      };
      reads = refl;
      value = λ k counter message key_long counter_long message_long.
          let x = k ++ (counter ++ message) in
          let long : length x ≡ c.inputs
          = length-append k (counter ++ message) ∙ ap₂ (λ (a b : ℕ). a + b) key_long (length-append counter message ∙ ap₂ (λ (a b : ℕ). a + b) counter_long message_long)
          ∙ sym inputs_are in
          is.computes x long ∙ computes x ∙ of_parts (8 * key) (8 * block) encrypt k counter message key_long counter_long message_long;
    }

-- PRESENT

present_width : (size : KeySize) → (register size).width ≡ 8 * present_bytes size
present_width K80 = refl
present_width K128 = refl

present_inputs : (size : KeySize) → (size_present size).inputs ≡ 8 * present_bytes size + 128
present_inputs K80 = refl
present_inputs K128 = refl

present_outputs : (size : KeySize) → (size_present size).outputs ≡ 64
present_outputs K80 = refl
present_outputs K128 = refl

present_enciphers : (size : KeySize) (iv : ℕ) → EnciphersNumbers high (λ key. present size (number key)) (present_mode size iv)
unfolding present_of_bits
present_enciphers size iv =
    circuit_enciphers (named_present size) (size_present size) (present_of_bits size) (present size) (present_bytes size) 8 high iv
    (IsCipherCircuit-named_present size) (present_inputs size) (present_outputs size) (lit< tt)
    (λ x. ap (λ (w : ℕ). of_bits w 64 (present size) x) (present_width size))

-- LEA

lea_width : (size : LeaSize) → width (schedule size) ≡ 8 * lea_bytes size
lea_width lea_size.K128 = refl
lea_width lea_size.K192 = refl
lea_width lea_size.K256 = refl

lea_inputs : (size : LeaSize) → (size_lea size).inputs ≡ 8 * lea_bytes size + 256
lea_inputs lea_size.K128 = refl
lea_inputs lea_size.K192 = refl
lea_inputs lea_size.K256 = refl

lea_outputs : (size : LeaSize) → (size_lea size).outputs ≡ 128
lea_outputs lea_size.K128 = refl
lea_outputs lea_size.K192 = refl
lea_outputs lea_size.K256 = refl

lea_enciphers : (size : LeaSize) (iv : ℕ) → EnciphersNumbers low (λ key. lea size (number key)) (lea_mode size iv)
unfolding lea_of_bits
lea_enciphers size iv =
    circuit_enciphers (named_lea size) (size_lea size) (lea_of_bits size) (lea size) (lea_bytes size) 16 low iv
    (IsCipherCircuit-named_lea size) (lea_inputs size) (lea_outputs size) (lit< tt)
    (λ x. ap (λ (w : ℕ). of_bits w 128 (lea size) x) (lea_width size))

-- EVERY TASK

pub tasks_encipher : TasksEncipher
tasks_encipher (Present size iv) is =
    numbers_are_blocks.high_first (present_mode size iv) (λ key. present size (number key)) (present_enciphers size iv)
tasks_encipher (Lea size iv) is = numbers_are_blocks.low_first (lea_mode size iv) (λ key. lea size (number key)) (lea_enciphers size iv)
tasks_encipher (Trivium iv) is = is
tasks_encipher (LightMac size counter tag) is = lightmac_makes size counter tag
tasks_encipher (Chaskey tag) is = chaskey_makes (chaskey_tag tag)
