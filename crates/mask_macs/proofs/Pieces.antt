-- Messages in pieces of b bytes: whole pieces, and a last one.
use Rattle.std.proofs.Common.{◌≡◌, ℕ, zero, suc, ◌+◌, ◌-◌, ◌*◌, ◌/◌, ◌%◌, ◌<◌, ◌≤◌, ◌⊎◌, inl, inr, List, [], ◌∷◌, ◌++◌, length, take, drop, subst, ap, ◌∙◌, arith, length-append, length-drop, take-append-drop}
use Rattle.std.proofs.Math.Nat.{mul-div_cancel, mul-div-le, mul-mod_left}
use Rattle.std.proofs.lemmas.Bool.{cases_lt}
use Rattle.std.proofs.lemmas.List.{drop-append-le, drop_at, length-take-le, take-append-le, take_all}
use Rattle.std.proofs.lemmas.Nat.{div-mul-add, row_fits}

-- piece i of a message
abbrev pub piece_of : ℕ → List ℕ → ℕ → List ℕ
piece_of b message i = take b (drop (b * i) message)

-- A last piece behind whole ones: empty only where they are none.
pub record IsLast (b : ℕ) (front piece : List ℕ) : Type 0 where
  pub whole : length front % b ≡ 0
  pub few : length piece ≤ b
  pub some : 0 < length front → 0 < length piece

module _ (b : ℕ) (some : 0 < b) where
  -- COUNTS

  -- whole pieces and one more
  pub count-more : (front piece : List ℕ) → length front % b ≡ 0 → length piece ≡ b →
      length (front ++ piece) / b ≡ suc (length front / b)
  count-more front piece whole size =
      let all : length (front ++ piece) ≡ suc (length front / b) * b = omega (arith, length-append front piece) in
      ap (λ (n : ℕ). n / b) all ∙ mul-div_cancel (suc (length front / b)) some

  -- those before the last one
  pub count-last : (front piece : List ℕ) → IsLast b front piece → (length (front ++ piece) - 1) / b ≡ length front / b
  count-last front piece is = go (cases_lt 0 (length front))
    where
      one_less : length (front ++ piece) - 1 ≡ length front / b * b + (length piece - 1) →
          (length (front ++ piece) - 1) / b ≡ length front / b
      one_less e =
          let few = is.few in
          ap (λ (n : ℕ). n / b) e ∙ div-mul-add (length front / b) b (length piece - 1) (omega arith)

      go : (0 < length front) ⊎ (length front ≤ 0) → (length (front ++ piece) - 1) / b ≡ length front / b
      go (inl before) = one_less (omega (arith, length-append front piece, is.whole, is.some before))
      go (inr none) = one_less (omega (arith, length-append front piece, is.whole))

  -- which are no more than there are with all their bytes
  pub count-within : (n : ℕ) → (n - 1) / b ≤ n / b
  count-within n = go (cases_lt (n / b) ((n - 1) / b))
    where
      go : (n / b < (n - 1) / b) ⊎ ((n - 1) / b ≤ n / b) → (n - 1) / b ≤ n / b
      go (inl more) = let fits = row_fits (n / b) b ((n - 1) / b) b more (omega arith) in absurd (omega arith)
      go (inr within) = within

  -- PIECES

  -- a piece with all its bytes
  pub length-piece_of : (message : List ℕ) (i : ℕ) → i < length message / b → length (piece_of b message i) ≡ b
  length-piece_of message i lt =
      let within = row_fits i b (length message / b) b lt (omega arith) in
      length-take-le b (drop (b * i) message) (omega (arith, length-drop (b * i) message))

  -- a piece of what comes first
  pub piece_of-front : (front rest : List ℕ) (i : ℕ) → i < length front / b → piece_of b (front ++ rest) i ≡ piece_of b front i
  piece_of-front front rest i lt =
      let within = row_fits i b (length front / b) b lt (omega arith) in
      ap (take b) (drop-append-le (b * i) front rest (omega arith))
      ∙ take-append-le b (drop (b * i) front) rest (omega (arith, length-drop (b * i) front))

  -- the piece behind that
  pub piece_of-next : (front piece : List ℕ) → length front % b ≡ 0 → length piece ≡ b →
      piece_of b (front ++ piece) (length front / b) ≡ piece
  piece_of-next front piece whole size =
      ap (take b) (drop_at front piece (b * (length front / b)) (omega arith)) ∙ take_all b piece (omega arith)

  -- the last one
  pub last-is : (front piece : List ℕ) → IsLast b front piece →
      drop (b * ((length (front ++ piece) - 1) / b)) (front ++ piece) ≡ piece
  last-is front piece is =
      let whole = is.whole in
      ap (λ (n : ℕ). drop (b * n) (front ++ piece)) (count-last front piece is)
      ∙ drop_at front piece (b * (length front / b)) (omega arith)

  -- which has at most so many bytes
  pub length-last : (message : List ℕ) → length (drop (b * ((length message - 1) / b)) message) ≤ b
  length-last message = omega (arith, length-drop (b * ((length message - 1) / b)) message)

  -- CUTTING

  -- What holds of no bytes, and with whole pieces also of one piece more, holds of whole pieces.
  pub by_pieces : (P : List ℕ → Type 0) → P [] →
      ((front piece : List ℕ) → length front % b ≡ 0 → length piece ≡ b → P front → P (front ++ piece)) →
      (message : List ℕ) → length message % b ≡ 0 → P message
  by_pieces P none more message whole = go (length message / b) message (omega arith)
    where
      go : (m : ℕ) (message : List ℕ) → length message ≡ m * b → P message
      go zero [] e = none
      go zero (byte ∷ rest) e = absurd (omega arith)
      go (suc m) message e =
          let front = take (m * b) message in
          let long : length front ≡ m * b = length-take-le (m * b) message (omega arith) in
          subst P (take-append-drop (m * b) message)
          (more front (drop (m * b) message) (ap (λ (n : ℕ). n % b) long ∙ mul-mod_left m b)
          (omega (arith, length-drop (m * b) message)) (go m front long))

-- A message is whole pieces and a last one.
pub record IsCut (b : ℕ) (message : List ℕ) : Type 0 where
  pub front : List ℕ
  pub piece : List ℕ
  pub both : front ++ piece ≡ message
  pub last : IsLast b front piece

pub cut : (b : ℕ) (message : List ℕ) → 0 < b → IsCut b message
cut b message some =
    let n = (length message - 1) / b in
    let within = mul-div-le (length message - 1) b in
    let size : length (take (n * b) message) ≡ n * b = length-take-le (n * b) message (omega arith) in
    record {
      front = take (n * b) message;
      piece = drop (n * b) message;
      both = take-append-drop (n * b) message;
      last = record {
        whole = ap (λ (k : ℕ). k % b) size ∙ mul-mod_left n b;
        few = omega (arith, length-drop (n * b) message);
        some = λ some_before. omega (arith, length-drop (n * b) message);
      };
    }
