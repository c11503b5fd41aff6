-- Lines that are found in a key file one by one.
use Rattle.std.proofs.Common.{◌≡◌, ℕ, suc, ◌+◌, ◌*◌, ◌<◌, ◌≤◌, Bool, true, false, not, ◌&&◌, nat_le, nat_lt, cond, Result, Ok, Err, Some, None, Option, List, [], ◌∷◌, ◌++◌, map, length, get_or, refl, sym, ap, ap₂, ◌∙◌, subst, arith, append_assoc, append-nil, length-append, ne_eqb}
use Rattle.std.specs.Result.{is_ok, IsOk, OnOk}
use Rattle.std.specs.List.{All, concat, position, position_or_len}
use Rattle.std.proofs.lemmas.Bool.{and_parts, lt-ltb, leb-true}
use Rattle.std.proofs.lemmas.Bool.Decides.{nat_tests}
use Rattle.std.proofs.lemmas.List.{length-map, map-append}
use Rattle.std.proofs.lemmas.List.Elements.{All-append, All-cons, All-nil}
use Rattle.std.proofs.lemmas.List.Sums.{position_or_len_is}
use Rattle.std.proofs.Math.ListN.{get_or-append}
use Rattle.std.proofs.Math.Nat.{mul-le-mul_right}
use Rattle.std.proofs.Math.Seq.{get_or-append_seam}
use Rattle.hex.specs.declared.error.FromHexError.{FromHexError}
use Rattle.mask_text.specs.Lines.{text_lines}
use Rattle.mask_shares.proofs.Lists.{concat-push}
use Rattle.mask_keys.specs.declared.files.KeyLength.{KeyLength}
use Rattle.mask_keys.specs.declared.files.KeyLength.TheVariants.{Exactly, Any}
use Rattle.mask_keys.specs.declared.files.KeyError.TheVariants.{Line, Count}
use Rattle.mask_keys.specs.Lines.{line_length, lines_of}
use Rattle.mask_keys.specs.Files.{spelled, is_in_form, wanted, first_bad, fault, fault_of, IsAsked, IsKeyFile}
use Rattle.mask_keys.proofs.Cutting.{lines_of-concat}

-- FIRST PLACES

module _ {X : Type 0} (p : X → Bool) where
  -- the first element that passes stands behind those that don't
  pub position-behind : (xs ys : List X) (y : X) → All (λ x. p x ≡ false) xs → p y ≡ true → position p (xs ++ y ∷ ys) ≡ Some (length xs)
  position-behind xs ys y none passes =
      let long = length-append xs (y ∷ ys) in
      let at : position_or_len p (xs ++ y ∷ ys) ≡ length xs =
      position_or_len_is p (xs ++ y ∷ ys) (length xs) y (omega (arith, long))
      (λ k lt. ap p (get_or-append xs (y ∷ ys) y k lt) ∙ none k y lt)
      (λ lt. ap p (get_or-append_seam xs y ys y) ∙ passes) in
      let inside : nat_lt (length xs) (length (xs ++ y ∷ ys)) ≡ true = lt-ltb _ _ (omega (arith, long)) in
      rw (at, inside) refl

  -- none passes
  pub position-none : (xs : List X) → All (λ x. p x ≡ false) xs → position p xs ≡ None
  position-none [] none = refl
  position-none (x ∷ xs) none =
      let at : position_or_len p (x ∷ xs) ≡ length (x ∷ xs) =
      position_or_len_is p (x ∷ xs) (length (x ∷ xs)) x (omega arith) (λ k lt. none k x lt) (λ lt. absurd (omega arith)) in
      let outside : nat_lt (length (x ∷ xs)) (length (x ∷ xs)) ≡ false = grind (arith, nat_tests) in
      ap (λ (i : ℕ). cond (nat_lt i (length (x ∷ xs))) (Some i) None) at ∙ rw outside refl

-- one element more
All-push : {X : Type 0} (P : X → Type 0) (xs : List X) (x : X) → All P xs → P x → All P (xs ++ x ∷ [])
All-push P xs x all here = All-append P xs (x ∷ []) all (All-cons P x [] here (All-nil P))

-- lists of one length end to end
length-concat : (n : ℕ) (keys : List (List ℕ)) → All (λ (key : List ℕ). length key ≡ n) keys → length (concat keys) ≡ length keys * n
length-concat n [] long = omega arith
length-concat n (key ∷ keys) long =
    let here : length key ≡ n = long 0 [] (omega arith) in
    let rest = length-concat n keys (λ k d lt. long (suc k) d (omega arith)) in
    omega (arith, length-append key (concat keys))

-- what holds where there is a value
pub on_ok : {T E P : Type 0} (r : Result T E) → IsOk r → OnOk r P → P
on_ok (Ok x) is h = h
on_ok (Err e) is h = absurd (cc)

-- LINES SO FAR

-- a line in form has a length that a key may have
pub form_bounds : (n : ℕ) (line : List ℕ) → is_in_form n line ≡ true → (1 ≤ n) × (n ≤ 64)
form_bounds n line is =
    let both = and_parts (nat_le 1 n && nat_le n 64) (is_ok (spelled n line)) is in
    let bounds = and_parts (nat_le 1 n) (nat_le n 64) both.0 in
    (leb-true 1 n bounds.0, leb-true n 64 bounds.1)

-- the length that is wanted is the asked one
pub is_asked : (asked : KeyLength) (lines : List (List ℕ)) (n : ℕ) → n ≡ wanted asked lines → IsAsked asked n
is_asked (Exactly m) lines n e = e
is_asked Any lines n e = tt

-- the lines so far are in form and spell these keys of n bytes
pub record Found (n : ℕ) (file rest : List ℕ) (found : ℕ) (bytes : List ℕ) : Type 0 where
  pub done : List (List ℕ)
  pub keys : List (List ℕ)
  pub front : text_lines file ≡ done ++ text_lines rest
  pub in_form : All (λ (line : List ℕ). is_in_form n line ≡ true) done
  pub spell : map (spelled n) done ≡ map Ok keys
  pub long : All (λ (key : List ℕ). length key ≡ n) keys
  pub count : found ≡ length keys
  pub within : found + length rest ≤ length file
  pub kept : length keys * n ≤ 512 → bytes ≡ concat keys

pub found_none : (n : ℕ) (file bytes : List ℕ) → bytes ≡ [] → Found n file file 0 bytes
found_none n file bytes none = record {
  done = [];
  keys = [];
  front = refl;
  in_form = λ k d lt. absurd (omega arith);
  spell = refl;
  long = λ k d lt. absurd (omega arith);
  count = refl;
  within = omega arith;
  kept = λ _. none;
}

-- as many lines as keys
length-done : (n : ℕ) (done keys : List (List ℕ)) → map (spelled n) done ≡ map Ok keys → length done ≡ length keys
length-done n done keys e = sym (length-map done (spelled n)) ∙ ap length e ∙ length-map keys Ok

pub found_more : (n : ℕ) (file rest after line key bytes bytes' : List ℕ) (found : ℕ) → Found n file rest found bytes →
    text_lines rest ≡ line ∷ text_lines after → length after < length rest → is_in_form n line ≡ true → spelled n line ≡ Ok key → length key ≡ n →
    (length bytes + length key ≤ 512 → bytes' ≡ bytes ++ key) → Found n file after (found + 1) bytes'
found_more n file rest after line key bytes bytes' found f next shorter good spells long room =
    let within = f.within in
    let many = f.count in
    record {
      done = f.done ++ line ∷ [];
      keys = f.keys ++ key ∷ [];
      front = f.front ∙ ap (λ (l : List (List ℕ)). f.done ++ l) next ∙ sym (append_assoc f.done (line ∷ []) (text_lines after));
      in_form = All-push (λ (l : List ℕ). is_in_form n l ≡ true) f.done line f.in_form good;
      spell = map-append (spelled n) f.done (line ∷ []) ∙ ap₂ (λ (a b : List (Result (List ℕ) FromHexError)). a ++ b) f.spell (ap (λ (r : Result (List ℕ) FromHexError). r ∷ []) spells) ∙ sym (map-append Ok f.keys (key ∷ []));
      long = All-push (λ (k : List ℕ). length k ≡ n) f.keys key f.long long;
      count = omega (arith, length-append f.keys (key ∷ []));
      within = omega arith;
      kept = λ few.
          let more : length f.keys * n + n ≤ 512 = omega (arith, ap (λ (k : ℕ). k * n) (length-append f.keys (key ∷ []))) in
          let same = f.kept (omega arith) in
          room (omega (arith, ap length same, length-concat n f.keys f.long)) ∙ ap (λ (xs : List ℕ). xs ++ key) same ∙ sym (concat-push f.keys key);
    }

-- the test that fails for lines in form
none_fail : (n : ℕ) (done : List (List ℕ)) → All (λ (line : List ℕ). is_in_form n line ≡ true) done → All (λ (line : List ℕ). not (is_in_form n line) ≡ false) done
none_fail n done all = λ k d lt. ap not (all k d lt)

-- a line that isn't in form is the first fault
pub bad_line : (n count : ℕ) (asked : KeyLength) (file rest after line bytes : List ℕ) (found : ℕ) → Found n file rest found bytes →
    n ≡ wanted asked (text_lines file) → text_lines rest ≡ line ∷ text_lines after → is_in_form n line ≡ false → fault count asked file ≡ Some (Line (found + 1))
unfolding fault
bad_line n count asked file rest after line bytes found f size next bad =
    let fails : List ℕ → Bool = λ l. not (is_in_form n l) in
    let at : position (λ (l : List ℕ). not (is_in_form n l)) (text_lines file) ≡ Some (length f.done) =
    ap (position fails) (f.front ∙ ap (λ (l : List (List ℕ)). f.done ++ l) next)
    ∙ position-behind fails f.done (text_lines after) line (none_fail n f.done f.in_form) (ap not bad) in
    let here : suc (length f.done) ≡ found + 1 = omega (arith, length-done n f.done f.keys f.spell, f.count) in
    ap (λ (m : ℕ). fault_of count (length (text_lines file)) (position (λ (l : List ℕ). not (is_in_form m l)) (text_lines file))) (sym size)
    ∙ ap (fault_of count (length (text_lines file))) at
    ∙ ap (λ (m : ℕ). Some (Line m)) here

-- THE END OF THE FILE

module _ (n count : ℕ) (asked : KeyLength) (file rest bytes : List ℕ) (found : ℕ) (f : Found n file rest found bytes)
    (size : n ≡ wanted asked (text_lines file)) (end : text_lines rest ≡ []) where
  all_done : text_lines file ≡ f.done
  all_done = f.front ∙ ap (λ (l : List (List ℕ)). f.done ++ l) end ∙ append-nil f.done

  how_many : length (text_lines file) ≡ found
  how_many = ap length all_done ∙ length-done n f.done f.keys f.spell ∙ sym f.count

  none_bad : first_bad asked (text_lines file) ≡ None
  none_bad =
      let fails : List ℕ → Bool = λ l. not (is_in_form n l) in
      ap (λ (m : ℕ). position (λ (l : List ℕ). not (is_in_form m l)) (text_lines file)) (sym size)
      ∙ ap (position fails) all_done ∙ position-none fails f.done (none_fail n f.done f.in_form)

  -- all lines are in form, and there are more or fewer than asked
  pub other_count : (found ≡ count → ⊥) → fault count asked file ≡ Some (Count found)
  unfolding fault
  other_count other =
      ap₂ (λ (m : ℕ) (o : Option ℕ). fault_of count m o) how_many none_bad
      ∙ ap (λ (t : Bool). cond t None (Some (Count found))) (ne_eqb found count other)

  module _ (asked_many : found ≡ count) (some : 1 ≤ count) (few : count ≤ 8) where
    -- so there is a line, and it has a length that a key may have
    pub bounds : (1 ≤ n) × (n ≤ 64)
    bounds = form_bounds n (get_or f.done 0 []) (f.in_form 0 [] (omega (arith, length-done n f.done f.keys f.spell, f.count)))

    kept_all : bytes ≡ concat f.keys
    kept_all =
        let b = bounds in
        let at_most : length f.keys * n ≤ 8 * n = mul-le-mul_right n (omega (arith, f.count)) in
        f.kept (omega arith)

    pub whole : length bytes ≡ count * n
    whole = ap length kept_all ∙ length-concat n f.keys f.long ∙ ap (λ (k : ℕ). k * n) (sym f.count ∙ asked_many)

    -- the lines that were kept
    pub found_file : IsKeyFile count asked file (lines_of count n bytes)
    found_file = subst (IsKeyFile count asked file) same (record {
      shape = record {
        some = omega (arith, f.count);
        few = omega (arith, f.count);
        filled = omega (arith, bounds.0);
        short = omega (arith, bounds.1);
        equal = λ k d lt. f.long k d lt ∙ sym long;
      };
      spells = ap (λ (m : ℕ). map (spelled m) (text_lines file)) long ∙ ap (map (spelled n)) all_done ∙ f.spell;
      long = subst (IsAsked asked) (sym long) (is_asked asked (text_lines file) n size);
      many = sym f.count ∙ asked_many;
    })
      where
        long : line_length f.keys ≡ n
        long = f.long 0 [] (omega (arith, f.count))

        same : f.keys ≡ lines_of count n bytes
        same =
            sym (lines_of-concat n f.keys f.long)
            ∙ ap₂ (λ (k : ℕ) (xs : List ℕ). lines_of k n xs) (sym f.count ∙ asked_many) (sym kept_all)
