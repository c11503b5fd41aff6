-- What is drawn and told in two parts, and what a tape's own contract says of it.
use Rattle.std.proofs.Common.{◌≡◌, ℕ, zero, suc, ◌+◌, ◌<◌, Bool, List, [], ◌∷◌, ◌++◌, length, take, drop, refl, ap, ap₂, sym, subst, ◌∙◌, arith, append_assoc, length-append, length-drop}
use Rattle.std.specs.declared.option.Option.{Option}
use Rattle.std.proofs.KnownBytes.{Consumes-nil, Consumes-trans}
use Rattle.std.proofs.lemmas.List.{append-nil, drop-append-le, drop-drop, take-append-le, take_all}
use Rattle.mask_bits.specs.Reading.{low}
use Rattle.mask_bits.proofs.Bytes.{low-append, length-low}
use Rattle.mask_gadget.proofs.Telling.{told_more-none, told_more-more}
use Rattle.mask_eval.specs.Watching.{Told, told_more}
use Rattle.mask_trace.specs.Steps.{Registers, Step, stretch, bits_of}
use Rattle.mask_trace.specs.Traces.{BitShares, evaluation, after_step, after, trace}
use Rattle.mask_trace.specs.Drawing.{Stand, Drew, Ran, stand}
use Rattle.mask_trace.specs.Laws.{RunsJoin, DrawsJoin, PartsAreBeginnings, DrawnIsDrew}
use Rattle.mask_trace.proofs.Traces.{traces_split, tape_is_enough}

-- DRAWING

-- the kept bits and the new bytes of two parts
joined : (kept : List Bool) (f g : List ℕ) → kept ++ low (f ++ g) ≡ (kept ++ low f) ++ low g
joined kept f g = ap (λ (bs : List Bool). kept ++ bs) (low-append f g) ∙ sym (append_assoc kept (low f) (low g))

-- the second part begins where the first one ended
next : (n : ℕ) (f g : List ℕ) (a b : Stand) → Drew n f a b → drop n (a.kept ++ low (f ++ g)) ≡ b.kept ++ low g
next n f g a b drew =
    ap (drop n) (joined a.kept f g)
    ∙ drop-append-le n (a.kept ++ low f) (low g) drew.enough
    ∙ ap (λ (bs : List Bool). bs ++ low g) (sym drew.kept)

both : (m n : ℕ) (f g : List ℕ) (a b c : Stand) → Drew m f a b → Drew n g b c → Drew (m + n) (f ++ g) a c
both m n f g a b c first second =
    let all = ap length (joined a.kept f g) ∙ length-append (a.kept ++ low f) (low g) in
    let behind = ap length (next m f g a b first) in
    let begins = length-drop m (a.kept ++ low (f ++ g)) in
    let enough = first.enough in
    let more = second.enough in
    let fewest = second.fewest in
    record {
      taken = Consumes-trans a.left b.left c.left f g first.taken second.taken;
      enough = omega arith;
      fewest = omega arith;
      kept =
          second.kept
          ∙ ap (drop n) (sym (next m f g a b first))
          ∙ drop-drop n m (a.kept ++ low (f ++ g));
    }

few : (n : ℕ) (f : List ℕ) (a b : Stand) → Drew n f a b → length b.kept < 8
few n f a b drew =
    let fewest = drew.fewest in
    let rest = ap length drew.kept ∙ length-drop n (a.kept ++ low f) in
    omega arith

pub draws_join : DrawsJoin
draws_join = record { both = both; few = few }

pub drawn_is_drew : DrawnIsDrew
drawn_is_drew a b lanes bits words small drawn =
    let all = length-append a.kept (low drawn.fresh) ∙ ap (λ (n : ℕ). length a.kept + n) (length-low drawn.fresh) in
    let needed = drawn.needed in
    record {
      taken = drawn.taken;
      enough = omega arith;
      fewest = omega arith;
      kept = drawn.rest;
    }

-- RUNNING

none : (N : ℕ) (have : Registers BitShares) (a : Stand) → length a.kept < 8 → Ran N have [] have a a
unfolding trace after
none N have a small = record {
  fresh = [];
  drew = record {
    taken = Consumes-nil a.left;
    enough = omega arith;
    fewest = let same = ap length (append-nil a.kept) in omega arith;
    kept = sym (append-nil a.kept);
  };
  tells = told_more-none a.told;
  holds = refl;
}

-- the tape of both parts is enough for the first
front : (N : ℕ) (ss : List Step) (f g : List ℕ) (a b : Stand) → Drew (bits_of N ss) f a b →
    (have : Registers BitShares) → (trace N have ss (a.kept ++ low (f ++ g)) ≡ trace N have ss (a.kept ++ low f))
    × (after N have ss (a.kept ++ low (f ++ g)) ≡ after N have ss (a.kept ++ low f))
front N ss f g a b drew have = (
  ap (trace N have ss) (joined a.kept f g) ∙ tape_is_enough.trace N have ss (a.kept ++ low f) (low g) drew.enough,
  ap (after N have ss) (joined a.kept f g) ∙ tape_is_enough.after N have ss (a.kept ++ low f) (low g) drew.enough,
)

all : (N : ℕ) (have now later : Registers BitShares) (ss ts : List Step) (a b c : Stand) →
    Ran N have ss now a b → Ran N now ts later b c → Ran N have (ss ++ ts) later a c
all N have now later ss ts a b c first second =
    let f = first.fresh in
    let g = second.fresh in
    let whole = a.kept ++ low (f ++ g) in
    let same = front N ss f g a b first.drew have in
    let reached : after N have ss whole ≡ now = same.1 ∙ sym first.holds in
    let rest = next (bits_of N ss) f g a b first.drew in
    record {
      fresh = f ++ g;
      drew = subst (λ (n : ℕ). Drew n (f ++ g) a c) (sym (traces_split.bits N ss ts)) (both (bits_of N ss) (bits_of N ts) f g a b c first.drew second.drew);
      tells =
          second.tells
          ∙ ap (λ (told : Option (List Told)). told_more told (trace N now ts (b.kept ++ low g))) first.tells
          ∙ told_more-more a.told (trace N have ss (a.kept ++ low f)) (trace N now ts (b.kept ++ low g))
          ∙ ap (told_more a.told)
          (ap₂ (λ (xs ys : List Told). xs ++ ys) (sym same.0) (ap₂ (λ (h : Registers BitShares) (r : List Bool). trace N h ts r) (sym reached) (sym rest))
          ∙ sym (traces_split.trace N have ss ts whole));
      holds =
          second.holds
          ∙ ap₂ (λ (h : Registers BitShares) (r : List Bool). after N h ts r) (sym reached) (sym rest)
          ∙ sym (traces_split.after N have ss ts whole);
    }

-- the steps of the first part and the first of the second
take-more : (ss ts : List Step) (n : ℕ) → take (length ss + n) (ss ++ ts) ≡ ss ++ take n ts
take-more [] ts n = let e : 0 + n ≡ n = omega arith in ap (λ (k : ℕ). take k ts) e
take-more (s ∷ ss) ts n =
    let one : suc (length ss) + n ≡ suc (length ss + n) = omega arith in
    ap (λ (k : ℕ). take k (s ∷ (ss ++ ts))) one ∙ ap (λ (more : List Step). s ∷ more) (take-more ss ts n)

pub runs_join : RunsJoin
runs_join = record {
  none = none;
  all = all;
  part = λ N have now ss ts count a b c first second.
      let fits = second.within in
      record {
        within = let both = length-append ss ts in omega arith;
        now = second.now;
        ran = subst (λ (steps : List Step). Ran N have steps second.now a c) (sym (take-more ss ts count))
            (all N have now second.now ss (take count ts) a b c first second.ran);
      };
  stops = λ N have ss ts count a b part.
      let fits = part.within in
      record {
        within = let both = length-append ss ts in omega arith;
        now = part.now;
        ran = subst (λ (steps : List Step). Ran N have steps part.now a b) (sym (take-append-le count ss ts part.within)) part.ran;
      };
  whole = λ N have now ss a b ran. record {
    within = omega arith;
    now = now;
    ran = subst (λ (steps : List Step). Ran N have steps now a b) (sym (take_all (length ss) ss (omega arith))) ran;
  };
}

-- a stand is known by its parts
pub same_stand : (kept kept' : List Bool) (left left' : Option (List ℕ)) (told told' : Option (List Told)) → kept ≡ kept' → left ≡ left' → told ≡ told' →
    stand kept left told ≡ stand kept' left' told'
same_stand kept kept' left left' told told' k l t =
    ap₂ (λ (x : List Bool) (y : Option (List ℕ)). stand x y told) k l ∙ ap (λ (z : Option (List Told)). stand kept' left' z) t

-- BEGINNINGS

-- the first evaluations are those of the first steps
trace-first : (N : ℕ) (have : Registers BitShares) (ss : List Step) (n : ℕ) (r : List Bool) → take n (trace N have ss r) ≡ trace N have (take n ss) r
unfolding trace
trace-first N have ss zero r = refl
trace-first N have [] (suc n) r = refl
trace-first N have (s ∷ ss) (suc n) r =
    ap (λ (told : List Told). evaluation N have s r ∷ told) (trace-first N (after_step N have s r) ss n (drop (stretch N s) r))

pub parts_are_beginnings : PartsAreBeginnings
parts_are_beginnings N have ss count a b part more =
    let told = λ (calls : List Told). told_more a.told calls in
    part.ran.tells
    ∙ ap told
    (sym (tape_is_enough.trace N have (take count ss) (a.kept ++ low part.ran.fresh) more part.ran.drew.enough)
    ∙ sym (trace-first N have ss count ((a.kept ++ low part.ran.fresh) ++ more)))
