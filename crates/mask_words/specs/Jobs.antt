-- The table of commands: which words are a job, which job they are, and where words are refused.
use Rattle.std.specs.Prelude.{◌≡◌, ℕ, suc, ◌+◌, ◌-◌, ◌<◌, ◌≤◌, ◌⊎◌, true, cond, IsTrue, Option, None, Some, List, [], ◌∷◌, ◌++◌, length, take, slice_index, slice_index_or}
use Rattle.std.specs.Option.{unwrap_or}
use Rattle.std.specs.Str.Parse.{digits_value}
use Rattle.mask_tasks.specs.declared.sizes.KeySize.{KeySize}
use Rattle.mask_tasks.specs.declared.sizes.KeySize.TheVariants.{K80}
use Rattle.mask_tasks.specs.declared.sizes.LeaSize.{LeaSize}
use Rattle.mask_tasks.specs.declared.sizes.LeaSize.TheVariants as lea
use Rattle.mask_tasks.specs.declared.tasks.Task.TheVariants as tasks
use Rattle.mask_tasks.specs.declared.names.Named.{Named as BuiltIn}
use Rattle.mask_tasks.specs.declared.names.Named.TheVariants.{Present80}
use Rattle.mask_words.specs.declared.word_tests.Test.{Test}
use Rattle.mask_words.specs.declared.word_tests.Test.TheVariants.{Given, Tape, Named, Present, Lea, Trivium, LightMac, Chaskey, Order, Digits, Counter, LightMacTag, ChaskeyTag, Hex, Wire, Seed, Count, Circuit}
use Rattle.mask_words.specs.declared.table.Form.{Form}
use Rattle.mask_words.specs.declared.table.Form.TheVariants as forms
use Rattle.mask_words.specs.declared.table.Job.{Job}
use Rattle.mask_words.specs.declared.table.Job.TheVariants as jobs
use Rattle.mask_words.specs.declared.word_tests.Command.TheVariants as commands
use Rattle.mask_words.specs.WordTests.{Word, passes, is_hex_text, is_wire, number_of, present_size, lea_size, lightmac_size, circuit_named}
use Rattle.mask_words.specs.Naming.{hex_bytes}

-- what the words of a form are tested for, one by one
abbrev pub tests_of : Form → List Test
tests_of forms.EncPresent = Given ∷ Tape ∷ Named commands.Enc ∷ Present ∷ Order ∷ Digits 16 ∷ []
tests_of forms.EncLea = Given ∷ Tape ∷ Named commands.Enc ∷ Lea ∷ Order ∷ Digits 32 ∷ []
tests_of forms.EncTrivium = Given ∷ Tape ∷ Named commands.Enc ∷ Trivium ∷ Order ∷ Digits 20 ∷ []
tests_of forms.MacChaskey = Given ∷ Tape ∷ Named commands.Mac ∷ Chaskey ∷ Order ∷ ChaskeyTag ∷ []
tests_of forms.MacLightMac = Given ∷ Tape ∷ Named commands.Mac ∷ LightMac ∷ Order ∷ Counter ∷ LightMacTag ∷ []
tests_of forms.Eval = Given ∷ Tape ∷ Named commands.Eval ∷ Order ∷ Hex ∷ []
tests_of forms.Check = Given ∷ Tape ∷ Named commands.Check ∷ []
tests_of forms.Upgrade = Given ∷ Tape ∷ Named commands.Upgrade ∷ []
tests_of forms.Probe = Given ∷ Tape ∷ Named commands.Probe ∷ Order ∷ []
tests_of forms.Split = Given ∷ Tape ∷ Named commands.Split ∷ Order ∷ []
tests_of forms.Join = Given ∷ Tape ∷ Named commands.Join ∷ Order ∷ []
tests_of forms.Emit = Given ∷ Tape ∷ Named commands.Emit ∷ Circuit ∷ []
tests_of forms.SelfRun = Given ∷ Tape ∷ Named commands.SelfRun ∷ Seed ∷ Count ∷ Order ∷ []

-- what further words are tested for, where a form may have them
abbrev pub tail_of : Form → Option Test
tail_of forms.EncPresent = None
tail_of forms.EncLea = None
tail_of forms.EncTrivium = None
tail_of forms.MacChaskey = None
tail_of forms.MacLightMac = None
tail_of forms.Eval = None
tail_of forms.Check = None
tail_of forms.Upgrade = None
tail_of forms.Probe = Some Wire
tail_of forms.Split = None
tail_of forms.Join = None
tail_of forms.Emit = None
tail_of forms.SelfRun = None

-- as many words as tests, or more where further words have a test, and each word passes its test
abbrev pub Match : List Test → Option Test → List Word → Type 0
Match [] None [] = Unit {0}
Match [] None (w ∷ ws) = ⊥
Match [] (Some t) [] = Unit {0}
Match [] (Some t) (w ∷ ws) = (passes t w ≡ true) × Match [] (Some t) ws
Match (t ∷ ts) tail [] = ⊥
Match (t ∷ ts) tail (w ∷ ws) = (passes t w ≡ true) × Match ts tail ws

-- how many words from the front pass their tests
abbrev pub reach : List Test → Option Test → List Word → ℕ
reach [] None ws = 0
reach [] (Some t) [] = 0
reach [] (Some t) (w ∷ ws) = cond (passes t w) (suc (reach [] (Some t) ws)) 0
reach (t ∷ ts) tail [] = 0
reach (t ∷ ts) tail (w ∷ ws) = cond (passes t w) (suc (reach ts tail ws)) 0

-- the order that a word of one digit names
abbrev pub order_of : Word → ℕ
order_of w = slice_index w 0 - 48

-- the key sizes that CIPHER words name; a word that names none doesn't come here
abbrev pub present_size_of : Word → KeySize
present_size_of w = unwrap_or (present_size w) K80

abbrev pub lea_size_of : Word → LeaSize
lea_size_of w = unwrap_or (lea_size w) lea.K128

-- and those that words for LightMAC name
abbrev pub lightmac_size_of : Word → KeySize
lightmac_size_of w = unwrap_or (lightmac_size w) K80

-- the number that the digits of an IV spell in hexadecimal, highest digit first
abbrev pub iv_of : Word → ℕ
iv_of w = digits_value 16 w

-- the circuit that a CIRCUIT word names; a word that names none doesn't come here
abbrev pub circuit_of : Word → BuiltIn
circuit_of w = unwrap_or (circuit_named w) Present80

-- the word at a place counted from 1, as the table counts them
abbrev pub word_at : List Word → ℕ → Word
word_at ws place = slice_index_or ws (place - 1) []

-- the job of words of that form
abbrev pub job_of : Form → List Word → Job
job_of forms.EncPresent ws = jobs.Enc (tasks.Present (present_size_of (word_at ws 4)) (iv_of (word_at ws 6))) (order_of (word_at ws 5))
job_of forms.EncLea ws = jobs.Enc (tasks.Lea (lea_size_of (word_at ws 4)) (iv_of (word_at ws 6))) (order_of (word_at ws 5))
job_of forms.EncTrivium ws = jobs.Enc (tasks.Trivium (hex_bytes (word_at ws 6))) (order_of (word_at ws 5))
job_of forms.MacChaskey ws = jobs.Mac (tasks.Chaskey (number_of (word_at ws 6))) (order_of (word_at ws 5))
job_of forms.MacLightMac ws =
    jobs.Mac (tasks.LightMac (lightmac_size_of (word_at ws 4)) (number_of (word_at ws 6)) (number_of (word_at ws 7))) (order_of (word_at ws 5))
job_of forms.Eval ws = jobs.Eval (order_of (word_at ws 4))
job_of forms.Check ws = jobs.Check
job_of forms.Upgrade ws = jobs.Upgrade
job_of forms.Probe ws = jobs.Probe (order_of (word_at ws 4))
job_of forms.Split ws = jobs.Split (order_of (word_at ws 4))
job_of forms.Join ws = jobs.Join (order_of (word_at ws 4))
job_of forms.Emit ws = jobs.Emit (circuit_of (word_at ws 4))
job_of forms.SelfRun ws = jobs.SelfRun (number_of (word_at ws 4)) (number_of (word_at ws 5)) (order_of (word_at ws 6))

-- the words are this job
abbrev pub IsJob : List Word → Job → Type 0
IsJob ws job = (form : Form) × Match (tests_of form) (tail_of form) ws × (job ≡ job_of form ws)

-- the words of some job begin with the first p of these words
abbrev pub CouldGoOn : List Word → ℕ → Type 0
CouldGoOn ws p = (form : Form) × (rest : List Word) × Match (tests_of form) (tail_of form) (take p ws ++ rest)

-- The words are no job, and p is the least place such that no job's words begin with the first p of them; or one past
-- the words where all of them could go on.
pub record IsRefused (ws : List Word) (p : ℕ) : Type 0 where
  pub no_job : (job : Job) → IsJob ws job → ⊥
  pub least : (q : ℕ) → q < p → CouldGoOn ws q
  pub stops : (p ≡ length ws + 1) ⊎ ((p ≤ length ws) × (CouldGoOn ws p → ⊥))

-- the order of a job is from 1 to 7
abbrev pub HasOrder : Job → Type 0
HasOrder (jobs.Enc task order) = (1 ≤ order) × (order ≤ 7)
HasOrder (jobs.Mac task order) = (1 ≤ order) × (order ≤ 7)
HasOrder (jobs.Eval order) = (1 ≤ order) × (order ≤ 7)
HasOrder jobs.Check = Unit {0}
HasOrder jobs.Upgrade = Unit {0}
HasOrder (jobs.Probe order) = (1 ≤ order) × (order ≤ 7)
HasOrder (jobs.Split order) = (1 ≤ order) × (order ≤ 7)
HasOrder (jobs.Join order) = (1 ≤ order) × (order ≤ 7)
HasOrder (jobs.Emit circuit) = Unit {0}
HasOrder (jobs.SelfRun seed count order) = (1 ≤ order) × (order ≤ 7)

-- the count of a job that has one is from 1 to 1048576
abbrev pub HasCount : Job → Type 0
HasCount (jobs.SelfRun seed count order) = (1 ≤ count) × (count ≤ 1048576)
HasCount job = Unit {0}

-- the words of `eval`: five, of which the fourth is the order and the fifth is in hexadecimal
pub record EvalWords (ws : List Word) (order : ℕ) : Type 0 where
  pub count : length ws ≡ 5
  pub order_word : order ≡ order_of (word_at ws 4)
  pub hex_word : IsTrue (is_hex_text (word_at ws 5))

-- the words of `probe`: at least four, of which the fourth is the order, and those from the fifth on, whose index is 4,
-- are numbers of wires
pub record ProbeWords (ws : List Word) (order : ℕ) : Type 0 where
  pub count : 4 ≤ length ws
  pub order_word : order ≡ order_of (word_at ws 4)
  pub wire_words : (k : ℕ) → 4 ≤ k → k < length ws → IsTrue (is_wire (slice_index_or ws k []))

-- the words are those of this job, where a command reads them again
abbrev pub HasWords : List Word → Job → Type 0
HasWords ws (jobs.Enc task order) = Unit {0}
HasWords ws (jobs.Mac task order) = Unit {0}
HasWords ws (jobs.Eval order) = EvalWords ws order
HasWords ws jobs.Check = Unit {0}
HasWords ws jobs.Upgrade = Unit {0}
HasWords ws (jobs.Probe order) = ProbeWords ws order
HasWords ws (jobs.Split order) = Unit {0}
HasWords ws (jobs.Join order) = Unit {0}
HasWords ws (jobs.Emit circuit) = Unit {0}
HasWords ws (jobs.SelfRun seed count order) = Unit {0}

-- Words are one job at most, and are refused at one place at most.
abbrev pub HaveOneJob : Type 0
HaveOneJob = (ws : List Word) (a b : Job) → IsJob ws a → IsJob ws b → a ≡ b

abbrev pub HaveOnePlace : Type 0
HaveOnePlace = (ws : List Word) (p q : ℕ) → IsRefused ws p → IsRefused ws q → p ≡ q
