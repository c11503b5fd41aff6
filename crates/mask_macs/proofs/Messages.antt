-- From pieces to messages: what holds of the steps of each next piece makes the laws of whole runs.
use Rattle.std.proofs.Common.{◌≡◌, ℕ, ◌+◌, ◌<◌, ◌≤◌, Bool, true, false, List, [], ◌∷◌, ◌++◌, length, take, drop, refl, ap, sym, subst, ◌∙◌, arith, length-append, length-drop, take-append-drop}
use Rattle.std.proofs.lemmas.List.{length-take-le}
use Rattle.mask_trace.specs.Steps.{Registers, IsStrongPlan}
use Rattle.mask_trace.specs.Privacy.{AreAlike}
use Rattle.mask_trace.specs.Values.{states_after, value_after}
use Rattle.mask_trace.proofs.Beginnings.{value_after-append, IsStrongPlan-take, AreAlike-take}
use Rattle.mask_trace.proofs.Showing.{plans_are_private, plans_are_runs}
use Rattle.mask_macs.specs.Codes.{Code, ArePieces, IsNext, IsHeldBehind}
use Rattle.mask_macs.specs.Laws.{PlansAreStrong, PlansSplit, RegistersGoOn, RunsArePrivate, key_bits}
use Rattle.mask_macs.proofs.Pieces.{by_pieces, cut}
use Rattle.mask_macs.proofs.Plans.{IsStrongPlan-append, alike_both, states_after-append}

-- What holds of the steps of each next piece.
pub record PiecesAreStrong (code : Code) : Type 0 where
  pub some : 0 < code.piece_bytes
  pub split : PlansSplit code
  pub strong : (n s : ℕ) (piece : List ℕ) (last : Bool) → IsNext code n piece last → (0 < n → code.state_bits ≤ s) →
      IsStrongPlan (key_bits code) s (code.next n piece last)
  pub states : (n s : ℕ) (piece : List ℕ) (last : Bool) → states_after s (code.next n piece last) ≡ code.state_bits
  pub alike : (n : ℕ) (piece other : List ℕ) (last : Bool) → length piece ≡ length other →
      AreAlike (code.next n piece last) (code.next n other last)

-- And what a run holds behind them.
pub record PiecesGoOn (code : Code) : Type 0 where
  pub some : 0 < code.piece_bytes
  pub split : PlansSplit code
  pub first : (key : List ℕ) → length key ≡ code.key_bytes → IsHeldBehind code 0 (code.first_held key)
  pub key_stays : (held : Registers Bool) (n : ℕ) (piece : List ℕ) (last : Bool) → IsHeldBehind code n held →
      IsNext code n piece last → (value_after held (code.next n piece last)).key ≡ held.key
  pub state : (held : Registers Bool) (n : ℕ) (piece : List ℕ) (last : Bool) →
      length (value_after held (code.next n piece last)).state ≡ code.state_bits

-- STRONG PLANS

module _ (code : Code) (is : PiecesAreStrong code) where
  abbrev width : ℕ
  width = key_bits code

  -- the steps of whole pieces are strong, and behind some of them the state is there
  abbrev IsStrongFed : List ℕ → Type 0
  IsStrongFed front =
      IsStrongPlan width 0 (code.fed front) × (0 < length front → code.state_bits ≤ states_after 0 (code.fed front))

  fed_more : (front piece : List ℕ) → ArePieces code (length front) → length piece ≡ code.piece_bytes → IsStrongFed front →
      IsStrongFed (front ++ piece)
  fed_more front piece whole size was =
      let n = length front in
      let s = states_after 0 (code.fed front) in
      let e = is.split.on front piece whole size in
      let behind : states_after 0 (code.fed (front ++ piece)) ≡ code.state_bits
      = ap (states_after 0) e ∙ states_after-append 0 (code.fed front) (code.next n piece false) ∙ is.states n s piece false in (
        subst (IsStrongPlan width 0) (sym e)
            (IsStrongPlan-append width 0 (code.fed front) (code.next n piece false) was.0 (is.strong n s piece false size was.1)),
        λ some. omega arith,
      )

  fed_is_strong : (front : List ℕ) → ArePieces code (length front) → IsStrongFed front
  fed_is_strong =
      by_pieces code.piece_bytes is.some IsStrongFed
      (subst (IsStrongPlan width 0) (sym is.split.no_steps) tt, λ some. absurd (omega arith)) fed_more

  plan_is_strong : (message : List ℕ) → IsStrongPlan width 0 (code.plan message)
  plan_is_strong message =
      let parts = cut code.piece_bytes message is.some in
      let n = length parts.front in
      let fed = fed_is_strong parts.front parts.last.whole in
      let next : IsNext code n parts.piece true = (parts.last.few, parts.last.some) in
      subst (λ (m : List ℕ). IsStrongPlan width 0 (code.plan m)) parts.both
      (subst (IsStrongPlan width 0) (sym (is.split.ends parts.front parts.piece parts.last.whole next))
      (IsStrongPlan-append width 0 (code.fed parts.front) (code.next n parts.piece true) fed.0
      (is.strong n (states_after 0 (code.fed parts.front)) parts.piece true next fed.1)))

  -- ALIKE

  -- what holds of each two parts of these lengths holds of what is as long as both
  in_parts : (front piece other : List ℕ) (P : List ℕ → Type 0) → length other ≡ length (front ++ piece) →
      ((first rest : List ℕ) → length first ≡ length front → length rest ≡ length piece → P (first ++ rest)) → P other
  in_parts front piece other P e each_is =
      let sum = length-append front piece in
      subst P (take-append-drop (length front) other)
      (each_is (take (length front) other) (drop (length front) other) (length-take-le (length front) other (omega arith))
      (omega (arith, length-drop (length front) other)))

  next_alike : (front piece first rest : List ℕ) (last : Bool) → length first ≡ length front → length rest ≡ length piece →
      AreAlike (code.next (length front) piece last) (code.next (length first) rest last)
  next_alike front piece first rest last e e' =
      subst (λ (n : ℕ). AreAlike (code.next (length front) piece last) (code.next n rest last)) (sym e)
      (is.alike (length front) piece rest last (sym e'))

  abbrev AreAlikeFed : List ℕ → Type 0
  AreAlikeFed front = (other : List ℕ) → length other ≡ length front → AreAlike (code.fed front) (code.fed other)

  fed_more_alike : (front piece : List ℕ) → ArePieces code (length front) → length piece ≡ code.piece_bytes → AreAlikeFed front →
      AreAlikeFed (front ++ piece)
  fed_more_alike front piece whole size was other e =
      in_parts front piece other (λ (m : List ℕ). AreAlike (code.fed (front ++ piece)) (code.fed m)) e
      (λ first rest e' e''.
      alike_both _ _ (code.fed front) (code.fed first) _ _ (is.split.on front piece whole size)
      (is.split.on first rest (subst (ArePieces code) (sym e') whole) (e'' ∙ size)) (was first e')
      (next_alike front piece first rest false e' e''))

  none_alike : AreAlikeFed []
  none_alike [] e = refl
  none_alike (byte ∷ other) e = absurd (omega arith)

  fed_are_alike : (front : List ℕ) → ArePieces code (length front) → AreAlikeFed front
  fed_are_alike = by_pieces code.piece_bytes is.some AreAlikeFed none_alike fed_more_alike

  plans_are_alike : (message other : List ℕ) → length message ≡ length other → AreAlike (code.plan message) (code.plan other)
  plans_are_alike message other e =
      let parts = cut code.piece_bytes message is.some in
      let front = parts.front in
      let piece = parts.piece in
      subst (λ (m : List ℕ). AreAlike (code.plan m) (code.plan other)) parts.both
      (in_parts front piece other (λ (m : List ℕ). AreAlike (code.plan (front ++ piece)) (code.plan m)) (sym (ap length parts.both ∙ e))
      (λ first rest e' e''.
      alike_both _ _ (code.fed front) (code.fed first) _ _ (is.split.ends front piece parts.last.whole (parts.last.few, parts.last.some))
      (is.split.ends first rest (subst (ArePieces code) (sym e') parts.last.whole)
      (subst (λ (n : ℕ). n ≤ code.piece_bytes) (sym e'') parts.last.few, λ some. let more = parts.last.some (omega arith) in omega arith))
      (fed_are_alike front parts.last.whole first e') (next_alike front piece first rest true e' e'')))

  pub plans_are_strong : PlansAreStrong code
  plans_are_strong = record {
    strong = plan_is_strong;
    part = λ message count. IsStrongPlan-take width 0 count (code.plan message) (plan_is_strong message);
    behind = is.strong;
    alike = plans_are_alike;
    parts_alike = λ message other count e. AreAlike-take count (code.plan message) (code.plan other) (plans_are_alike message other e);
  }

-- PRIVACY

module _ (code : Code) (is : PlansAreStrong code) where
  pub runs_are_private : RunsArePrivate code
  runs_are_private = record {
    run = λ N message count two. plans_are_runs N (key_bits code) (take count (code.plan message)) two (is.part message count);
    private = λ N message count two. plans_are_private N (key_bits code) (take count (code.plan message)) two (is.part message count);
    hits = λ N message other count two e P few key key' size size' v.
        plans_are_private N (key_bits code) (take count (code.plan message)) two (is.part message count) P few
        (take count (code.plan other)) (is.parts_alike message other count e) key key' size size' v;
  }

-- REGISTERS

module _ (code : Code) (is : PiecesGoOn code) where
  held_behind : (held : Registers Bool) (n : ℕ) (piece : List ℕ) (last : Bool) → IsHeldBehind code n held →
      IsNext code n piece last → IsHeldBehind code (n + length piece) (value_after held (code.next n piece last))
  held_behind held n piece last holds next = record {
    key = ap length (is.key_stays held n piece last holds next) ∙ holds.key;
    state = λ some. is.state held n piece last;
  }

  -- behind one more piece, and behind the last
  joins : (held : Registers Bool) (front piece : List ℕ) → ArePieces code (length front) → IsNext code (length front) piece false →
      value_after held (code.fed (front ++ piece)) ≡ value_after (value_after held (code.fed front)) (code.next (length front) piece false)
  joins held front piece whole next =
      ap (value_after held) (is.split.on front piece whole next) ∙ value_after-append held (code.fed front) (code.next (length front) piece false)

  ends : (held : Registers Bool) (front piece : List ℕ) → ArePieces code (length front) → IsNext code (length front) piece true →
      value_after held (code.plan (front ++ piece)) ≡ value_after (value_after held (code.fed front)) (code.next (length front) piece true)
  ends held front piece whole next =
      ap (value_after held) (is.split.ends front piece whole next) ∙ value_after-append held (code.fed front) (code.next (length front) piece true)

  -- what is held behind whole pieces
  module _ (key : List ℕ) (long : length key ≡ code.key_bytes) where
    abbrev behind : List ℕ → Registers Bool
    behind front = value_after (code.first_held key) (code.fed front)

    abbrev HoldsFed : List ℕ → Type 0
    HoldsFed front = IsHeldBehind code (length front) (behind front) × ((behind front).key ≡ (code.first_held key).key)

    fed_none : HoldsFed []
    unfolding value_after
    fed_none =
        subst (λ ss. let now = value_after (code.first_held key) ss in IsHeldBehind code 0 now × (now.key ≡ (code.first_held key).key))
        (sym is.split.no_steps) (is.first key long, refl)

    fed_more_held : (front piece : List ℕ) → ArePieces code (length front) → length piece ≡ code.piece_bytes → HoldsFed front →
        HoldsFed (front ++ piece)
    fed_more_held front piece whole size was =
        let e = joins (code.first_held key) front piece whole size in
        let now = value_after (behind front) (code.next (length front) piece false) in (
          subst (IsHeldBehind code (length (front ++ piece))) (sym e)
              (subst (λ (n : ℕ). IsHeldBehind code n now) (sym (length-append front piece))
              (held_behind (behind front) (length front) piece false was.0 size)),
          ap (λ (r : Registers Bool). r.key) e ∙ is.key_stays (behind front) (length front) piece false was.0 size ∙ was.1,
        )

    pub fed_is_held : (front : List ℕ) → ArePieces code (length front) → HoldsFed front
    fed_is_held = by_pieces code.piece_bytes is.some HoldsFed fed_none fed_more_held

  pub registers_go_on : RegistersGoOn code
  registers_go_on = record {
    first = is.first;
    key_stays = is.key_stays;
    held = held_behind;
    state = is.state;
    fed_key_stays = λ key front long whole. (fed_is_held key long front whole).1;
    fed_held = λ key front long whole. (fed_is_held key long front whole).0;
    joins = joins;
    ends = ends;
  }
