-- Which inputs some evaluations take: those that the steps of ciphers name.
use Rattle.std.proofs.Common.{◌≡◌, ℕ, zero, suc, ◌+◌, Bool, false, List, [], ◌∷◌, ◌++◌, map, replicate, refl, ap, ap₂, ◌∙◌, arith, append_assoc}
use Rattle.std.proofs.lemmas.List.{append-nil}
use Rattle.mask_bits.specs.Lanes.{lane}
use Rattle.mask_circuit.specs.Wires.{each}
use Rattle.mask_shares.proofs.Lists.{each-same}
use Rattle.mask_trace.specs.Steps.{InputBit}
use Rattle.mask_trace.specs.Steps as steps
use Rattle.mask_chain.specs.Evaluations.{input_bits, inputs_of, source_bits}
use Rattle.mask_chain.specs.declared.evaluations.Source.{Source}
use Rattle.mask_chain.specs.declared.evaluations.Source.TheVariants.{Key, State, Public}
use denote.Ref.{Bor}

-- the first bits of the key
pub front_of_key : (n : ℕ) → source_bits (Key 0 n) ≡ each steps.Key n
front_of_key n =
    let none : (j : ℕ) → 0 + j ≡ j = λ j. omega arith in
    each-same (λ j. steps.Key (0 + j)) steps.Key n (λ j lt. ap steps.Key (none j))

-- words of zeros are bits that are false
pub zeros-lane : (n : ℕ) → lane 0 (replicate n 0) ≡ replicate n false
zeros-lane zero = refl
zeros-lane (suc n) = ap (λ (bs : List Bool). false ∷ bs) (zeros-lane n)

one : (source : Source) → input_bits (source ∷ []) ≡ source_bits source
one source = append-nil (source_bits source)

two : (source next : Source) → input_bits (source ∷ next ∷ []) ≡ source_bits source ++ source_bits next
two source next = ap (λ (is : List InputBit). source_bits source ++ is) (one next)

-- with no bit of the message, and nothing behind it
no_message : (before : List Source) → inputs_of before [] [] ≡ input_bits before
no_message before = append-nil (input_bits before)

message_last : (before : List Source) (message : List ℕ) → inputs_of before message [] ≡ input_bits before ++ map steps.Plain (lane 0 message)
message_last before message = ap (λ (is : List InputBit). input_bits before ++ is) (append-nil (map steps.Plain (lane 0 message)))

pub key_alone : (n : ℕ) → inputs_of (Key 0 n ∷ []) [] [] ≡ each steps.Key n
key_alone n = no_message (Key 0 n ∷ []) ∙ one (Key 0 n) ∙ front_of_key n

pub key_public : (n : ℕ) (public : Bor (List ℕ)) → inputs_of (Key 0 n ∷ Public public ∷ []) [] [] ≡ each steps.Key n ++ map steps.Public (lane 0 public.now)
key_public n public =
    no_message (Key 0 n ∷ Public public ∷ []) ∙ two (Key 0 n) (Public public)
    ∙ ap (λ (is : List InputBit). is ++ map steps.Public (lane 0 public.now)) (front_of_key n)

pub state_message : (n : ℕ) (message : List ℕ) → inputs_of (State n ∷ []) message [] ≡ each steps.State n ++ map steps.Plain (lane 0 message)
state_message n message =
    message_last (State n ∷ []) message ∙ ap (λ (is : List InputBit). is ++ map steps.Plain (lane 0 message)) (one (State n))

-- the bits of two sources and then the message
two_message : (source next : Source) (message : List ℕ) →
    inputs_of (source ∷ next ∷ []) message [] ≡ source_bits source ++ (source_bits next ++ map steps.Plain (lane 0 message))
two_message source next message =
    let last = map steps.Plain (lane 0 message) in
    message_last (source ∷ next ∷ []) message ∙ ap (λ (is : List InputBit). is ++ last) (two source next)
    ∙ append_assoc (source_bits source) (source_bits next) last

pub state_key_message : (s k : ℕ) (message : List ℕ) →
    inputs_of (State s ∷ Key 0 k ∷ []) message [] ≡ each steps.State s ++ (each steps.Key k ++ map steps.Plain (lane 0 message))
state_key_message s k message =
    two_message (State s) (Key 0 k) message
    ∙ ap (λ (is : List InputBit). each steps.State s ++ (is ++ map steps.Plain (lane 0 message))) (front_of_key k)

pub key_state_message : (from k s : ℕ) (message : List ℕ) →
    inputs_of (Key from k ∷ State s ∷ []) message [] ≡ each (λ j. steps.Key (from + j)) k ++ (each steps.State s ++ map steps.Plain (lane 0 message))
key_state_message from k s message = two_message (Key from k) (State s) message

pub key_public_message : (from k : ℕ) (public : Bor (List ℕ)) (message : List ℕ) → inputs_of (Key from k ∷ Public public ∷ []) message []
    ≡ each (λ j. steps.Key (from + j)) k ++ (map steps.Public (lane 0 public.now) ++ map steps.Plain (lane 0 message))
key_public_message from k public message = two_message (Key from k) (Public public) message

-- the key, the message and then the bits of a source
key_message : (k : ℕ) (message : List ℕ) (source : Source) →
    inputs_of (Key 0 k ∷ []) message (source ∷ []) ≡ each steps.Key k ++ (map steps.Plain (lane 0 message) ++ source_bits source)
key_message k message source =
    ap₂ (λ (is js : List InputBit). is ++ (map steps.Plain (lane 0 message) ++ js)) (one (Key 0 k) ∙ front_of_key k) (one source)

pub key_message_state : (k s : ℕ) (message : List ℕ) →
    inputs_of (Key 0 k ∷ []) message (State s ∷ []) ≡ each steps.Key k ++ (map steps.Plain (lane 0 message) ++ each steps.State s)
key_message_state k s message = key_message k message (State s)

pub key_message_public : (k : ℕ) (message : List ℕ) (public : Bor (List ℕ)) → inputs_of (Key 0 k ∷ []) message (Public public ∷ [])
    ≡ each steps.Key k ++ (map steps.Plain (lane 0 message) ++ map steps.Public (lane 0 public.now))
key_message_public k message public = key_message k message (Public public)
