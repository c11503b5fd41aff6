-- What a word of a command line may be. A word is the list of its bytes.
use Rattle.std.specs.Prelude.{◌≡◌, ℕ, ◌%◌, ◌^◌, ◌<◌, Bool, not, ◌&&◌, ◌||◌, ◌==◌, nat_eq, nat_le, IsTrue, if◌then◌else◌, Option, None, Some, is_some, List, [], ◌∷◌, length, drop, codes, decimal, slice_index}
use Rattle.std.specs.List.{list_all, starts_with}
use Rattle.std.specs.Str.{bytes_eq}
use Rattle.std.specs.Str.Parse.{digits_value}
use Rattle.std.specs.Char.{is_ascii_hexdigit}
use Rattle.mask_tasks.specs.declared.sizes.KeySize.{KeySize}
use Rattle.mask_tasks.specs.declared.sizes.KeySize.TheVariants.{K80, K128}
use Rattle.mask_tasks.specs.declared.sizes.LeaSize.{LeaSize}
use Rattle.mask_tasks.specs.declared.sizes.LeaSize.TheVariants as lea
use Rattle.mask_tasks.specs.declared.names.Named.{Named as BuiltIn}
use Rattle.mask_tasks.specs.declared.names.TheConstants.{ALL}
use Rattle.mask_tasks.specs.Names.{name_text}
use Rattle.mask_words.specs.declared.word_tests.Command.{Command}
use Rattle.mask_words.specs.declared.word_tests.Command.TheVariants.{Enc, Mac, Eval, Check, Upgrade, Probe, Split, Join, Emit, SelfRun}
use Rattle.mask_words.specs.declared.word_tests.Test.{Test}
use Rattle.mask_words.specs.declared.word_tests.Test.TheVariants.{Given, Tape, Named, Present, Lea, Trivium, LightMac, Chaskey, Order, Digits, Counter, LightMacTag, ChaskeyTag, Hex, Wire, Seed, Count, Circuit}

abbrev pub Word : Type 0
Word = List ℕ

abbrev pub command_text : Command → Word
command_text Enc = codes "enc"
command_text Mac = codes "mac"
command_text Eval = codes "eval"
command_text Check = codes "check"
command_text Upgrade = codes "upgrade"
command_text Probe = codes "probe"
command_text Split = codes "split"
command_text Join = codes "join"
command_text Emit = codes "emit"
command_text SelfRun = codes "self"

-- digits of either case
abbrev pub are_hex_digits : Word → Bool
are_hex_digits w = list_all is_ascii_hexdigit w

-- n digits
abbrev pub are_digits : ℕ → Word → Bool
are_digits n w = length w == n && are_hex_digits w

-- 64 hexadecimal digits
abbrev pub are_seed_digits : Word → Bool
are_seed_digits w = are_digits 64 w

-- not empty; what begins with `seed:` goes on with 64 hexadecimal digits
abbrev pub is_tape : Word → Bool
is_tape w = if starts_with nat_eq w (codes "seed:") then are_seed_digits (drop 5 w) else not (length w == 0)

-- the key size of PRESENT that a CIPHER word names
abbrev pub present_size : Word → Option KeySize
present_size w = if bytes_eq w (codes "present-80") then Some K80 else if bytes_eq w (codes "present-128") then Some K128 else None

-- the key size of LEA that a CIPHER word names
abbrev pub lea_size : Word → Option LeaSize
lea_size w =
    if bytes_eq w (codes "lea-128")
    then Some lea.K128
    else if bytes_eq w (codes "lea-192") then Some lea.K192 else if bytes_eq w (codes "lea-256") then Some lea.K256 else None

-- the key size of PRESENT that a word for LightMAC names
abbrev pub lightmac_size : Word → Option KeySize
lightmac_size w = if bytes_eq w (codes "lightmac-80") then Some K80 else if bytes_eq w (codes "lightmac-128") then Some K128 else None

-- how many bytes a counter of LightMAC has
abbrev pub is_counter : Word → Bool
is_counter w = bytes_eq w (codes "1") || bytes_eq w (codes "2") || bytes_eq w (codes "4")

-- and its tag
abbrev pub is_lightmac_tag : Word → Bool
is_lightmac_tag w = bytes_eq w (codes "4") || bytes_eq w (codes "8")

-- how many bytes a tag of Chaskey-12 has
abbrev pub is_chaskey_tag : Word → Bool
is_chaskey_tag w = bytes_eq w (codes "8") || bytes_eq w (codes "16")

-- one digit from `1` to `7`
abbrev pub is_order : Word → Bool
is_order w = length w == 1 && nat_le 49 (slice_index w 0) && nat_le (slice_index w 0) 55

-- `-`, or an even number of digits, at least two
abbrev pub is_hex_text : Word → Bool
is_hex_text w = bytes_eq w (codes "-") || (not (length w == 0) && length w % 2 == 0 && are_hex_digits w)

-- the number that a word of decimal digits spells, highest digit first
abbrev pub number_of : Word → ℕ
number_of w = digits_value 10 w

-- the spelling of a number from low to high, with no needless zero
abbrev pub is_number_between : ℕ → ℕ → Word → Bool
is_number_between low high w = nat_le low (number_of w) && nat_le (number_of w) high && bytes_eq w (decimal (number_of w))

-- the number of a wire
abbrev pub is_wire : Word → Bool
is_wire w = is_number_between 0 4294967295 w

-- the seed of a message
abbrev pub is_message_seed : Word → Bool
is_message_seed w = is_number_between 0 18446744073709551615 w

abbrev pub is_count : Word → Bool
is_count w = is_number_between 1 1048576 w

-- the first of these circuits that has this name
abbrev pub first_named : List BuiltIn → Word → Option BuiltIn
first_named [] w = None
first_named (c ∷ cs) w = if bytes_eq w (name_text c) then Some c else first_named cs w

-- the circuit that a CIRCUIT word names
abbrev pub circuit_named : Word → Option BuiltIn
circuit_named w = first_named ALL w

abbrev pub passes : Test → Word → Bool
passes Given w = not (length w == 0)
passes Tape w = is_tape w
passes (Named c) w = bytes_eq w (command_text c)
passes Present w = is_some (present_size w)
passes Lea w = is_some (lea_size w)
passes Trivium w = bytes_eq w (codes "trivium")
passes LightMac w = is_some (lightmac_size w)
passes Chaskey w = bytes_eq w (codes "chaskey-12")
passes Order w = is_order w
passes (Digits n) w = are_digits n w
passes Counter w = is_counter w
passes LightMacTag w = is_lightmac_tag w
passes ChaskeyTag w = is_chaskey_tag w
passes Hex w = is_hex_text w
passes Wire w = is_wire w
passes Seed w = is_message_seed w
passes Count w = is_count w
passes Circuit w = is_some (circuit_named w)

-- Each number below 2^32 has a word, each word that passes spells such a number, and none spells two.
pub record WiresHaveOneNumber : Type 0 where
  pub word : (n : ℕ) → n < 2 ^ 32 → IsTrue (is_wire (decimal n))
  pub below : (w : Word) → IsTrue (is_wire w) → number_of w < 2 ^ 32
  pub spelled : (w : Word) → IsTrue (is_wire w) → w ≡ decimal (number_of w)
  pub one : (m n : ℕ) → m < 2 ^ 32 → n < 2 ^ 32 → decimal m ≡ decimal n → m ≡ n
