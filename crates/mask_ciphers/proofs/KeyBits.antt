-- The bits of keys: how many there are, and which bit of which byte each of them is.
use Rattle.std.proofs.Common.{◌≡◌, ℕ, ◌+◌, ◌-◌, ◌*◌, ◌/◌, ◌%◌, ◌<◌, ◌≤◌, ◌⊎◌, inl, inr, Bool, false, List, ◌++◌, length, take, drop, get_or, refl, sym, ap, ap₂, ◌∙◌, arith, length-append, length-drop}
use Rattle.std.proofs.lemmas.Bool.{cases_lt}
use Rattle.std.proofs.lemmas.List.{get_or-append_right, get_or-drop, get_or-take, get_or_append_left, length-take, length-take-le, take_all}
use Rattle.mask_bits.specs.Reading.{bit, low, high}
use Rattle.mask_tasks.specs.declared.tasks.Task.{Task}
use Rattle.mask_tasks.specs.declared.tasks.Task.TheVariants.{Present, Lea, Trivium, LightMac, Chaskey}
use Rattle.mask_tasks.specs.Sizes.{present_bytes}
use Rattle.mask_tasks.specs.Tasks.{key_bytes}
use Rattle.mask_modes.proofs.Readings.{bytes_are_read}
use Rattle.mask_ciphers.specs.Methods.{key_width}
use Rattle.mask_ciphers.specs.Tasks.{method_of, key_bits}

-- Place j in this reading of n bytes has a bit of one byte.
pub record IsBitOfByte (reading : List ℕ → List Bool) (n j : ℕ) : Type 0 where
  pub byte : ℕ
  pub place : ℕ
  pub within : byte < n
  pub is : (line : List ℕ) → length line ≡ n → get_or (reading line) j false ≡ bit place (get_or line byte 0)

-- a reading that has eight bits for each byte
pub record ReadsBits (reading : List ℕ → List Bool) : Type 0 where
  pub count : (line : List ℕ) → length (reading line) ≡ 8 * length line
  pub place : (n j : ℕ) → j < 8 * n → IsBitOfByte reading n j

high_reads_bits : ReadsBits high
high_reads_bits = record {
  count = bytes_are_read.high_first.count;
  place = λ n j lt. record {
    byte = n - 1 - j / 8;
    place = j % 8;
    within = omega arith;
    is = λ line long.
        let at : 8 * (length line - 1 - (n - 1 - j / 8)) + j % 8 ≡ j = omega arith in
        ap (λ (i : ℕ). get_or (high line) i false) (sym at)
        ∙ bytes_are_read.high_place line (n - 1 - j / 8) (j % 8) (omega arith) (omega arith);
  };
}

low_reads_bits : ReadsBits low
low_reads_bits = record {
  count = bytes_are_read.low_first.count;
  place = λ n j lt. record {
    byte = j / 8;
    place = j % 8;
    within = omega arith;
    is = λ line long.
        let at : 8 * (j / 8) + j % 8 ≡ j = omega arith in
        ap (λ (i : ℕ). get_or (low line) i false) (sym at) ∙ bytes_are_read.low_place line (j / 8) (j % 8) (omega arith) (omega arith);
  };
}

-- two parts, each read by itself: the first h bytes, and those behind them
parts_read_bits : (h : ℕ) → ReadsBits (λ line. high (take h line) ++ high (drop h line))
parts_read_bits h = record {
  count = λ line.
      length-append (high (take h line)) (high (drop h line))
      ∙ ap₂ (λ (a b : ℕ). a + b) (high_reads_bits.count (take h line)) (high_reads_bits.count (drop h line))
      ∙ omega (arith, length-take h line, length-drop h line);
  place = λ n j lt. go n j lt (cases_lt j (8 * h)) (cases_lt n h);
}
  where
    -- there are fewer bytes than the first part may have, and that is all
    short : (n j : ℕ) → j < 8 * n → n < h → IsBitOfByte (λ line. high (take h line) ++ high (drop h line)) n j
    short n j lt few =
        let at = high_reads_bits.place n j lt in
        record {
          byte = at.byte;
          place = at.place;
          within = at.within;
          is = λ line long.
              let all : take h line ≡ line = take_all h line (omega arith) in
              let size : length (high line) ≡ 8 * length line = high_reads_bits.count line in
              ap (λ (front : List ℕ). get_or (high front ++ high (drop h line)) j false) all
              ∙ get_or_append_left (high line) (high (drop h line)) false j (omega arith)
              ∙ at.is line long;
        }

    front : (n j : ℕ) → j < 8 * n → h ≤ n → j < 8 * h → IsBitOfByte (λ line. high (take h line) ++ high (drop h line)) n j
    front n j lt enough here =
        let at = high_reads_bits.place h j here in
        let within = at.within in
        record {
          byte = at.byte;
          place = at.place;
          within = omega arith;
          is = λ line long.
              let size : length (take h line) ≡ h = length-take-le h line (omega arith) in
              get_or_append_left (high (take h line)) (high (drop h line)) false j (omega (arith, high_reads_bits.count (take h line)))
              ∙ at.is (take h line) size
              ∙ ap (bit at.place) (get_or-take h line at.byte 0 within);
        }

    behind : (n j : ℕ) → j < 8 * n → h ≤ n → 8 * h ≤ j → IsBitOfByte (λ line. high (take h line) ++ high (drop h line)) n j
    behind n j lt enough past =
        let at = high_reads_bits.place (n - h) (j - 8 * h) (omega arith) in
        let within = at.within in
        record {
          byte = h + at.byte;
          place = at.place;
          within = omega arith;
          is = λ line long.
              let size : length (take h line) ≡ h = length-take-le h line (omega arith) in
              get_or-append_right (high (take h line)) (high (drop h line)) (8 * h) j false (high_reads_bits.count (take h line) ∙ ap (λ (k : ℕ). 8 * k) size) past
              ∙ at.is (drop h line) (length-drop h line ∙ ap (λ (k : ℕ). k - h) long)
              ∙ ap (bit at.place) (get_or-drop h line at.byte 0);
        }

    go : (n j : ℕ) → j < 8 * n → (j < 8 * h) ⊎ (8 * h ≤ j) → (n < h) ⊎ (h ≤ n) → IsBitOfByte (λ line. high (take h line) ++ high (drop h line)) n j
    go n j lt here (inl few) = short n j lt few
    go n j lt (inl here) (inr enough) = front n j lt enough here
    go n j lt (inr past) (inr enough) = behind n j lt enough past

pub key_reads_bits : (task : Task) → ReadsBits (key_bits task)
key_reads_bits (Present size iv) = high_reads_bits
key_reads_bits (Lea size iv) = low_reads_bits
key_reads_bits (Trivium iv) = low_reads_bits
key_reads_bits (LightMac size counter tag) = parts_read_bits (present_bytes size)
key_reads_bits (Chaskey tag) = low_reads_bits

-- a method takes eight bits for each byte of a key
pub key_in_bytes : (task : Task) → key_width (method_of task) ≡ 8 * key_bytes task
key_in_bytes (Present size iv) = refl
key_in_bytes (Lea size iv) = refl
key_in_bytes (Trivium iv) = refl
key_in_bytes (LightMac size counter tag) = refl
key_in_bytes (Chaskey tag) = refl

-- a key has the bits that the method takes
pub length-key_bits : (task : Task) (key : List ℕ) → length key ≡ key_bytes task → length (key_bits task key) ≡ key_width (method_of task)
length-key_bits task key long = (key_reads_bits task).count key ∙ ap (λ (n : ℕ). 8 * n) long ∙ sym (key_in_bytes task)
