-- What a run of a code has between its pieces.
use Rattle.std.proofs.Common.{◌≡◌, ℕ, ◌+◌, ◌-◌, ◌*◌, ◌^◌, ◌<◌, ◌≤◌, ◌⊎◌, inl, inr, Bool, true, false, List, [], length, refl, ap, subst, sym, arith}
use Rattle.mask_tasks.specs.declared.tasks.Task.{Task}
use Rattle.mask_tasks.specs.declared.tasks.Task.TheVariants.{Present, Lea, Trivium, LightMac, Chaskey}
use Rattle.mask_tasks.specs.Limits.{counter_bytes, longest_lightmac}
use Rattle.mask_tasks.specs.Tasks.{longest_message}
use Rattle.mask_tasks.proofs.Limits.{each_counter}
use Rattle.mask_trace.specs.Steps.{Registers}
use Rattle.mask_trace.specs.Values.{values_of}
use Rattle.mask_ciphers.specs.Methods.{IsCipher, known_behind}
use Rattle.mask_ciphers.specs.Methods as methods
use Rattle.mask_ciphers.specs.Tasks.{method_of}
use Rattle.mask_plan.specs.Sessions.{Progress, known_bytes, next_output}

-- nothing is written before the last piece
none_by : (task : Task) → (IsCipher (method_of task) → ⊥) → (held : Registers Bool) (n : ℕ) (piece : List ℕ) → methods.next_output (method_of task) held n piece false ≡ []
none_by (Present size iv) tag held n piece = absurd (tag tt)
none_by (Lea size iv) tag held n piece = absurd (tag tt)
none_by (Trivium iv) tag held n piece = absurd (tag tt)
none_by (LightMac size counter tag_bytes) tag held n piece = refl
none_by (Chaskey tag_bytes) tag held n piece = refl

pub none-out : (task : Task) (s : Progress) → s.task ≡ task → (IsCipher (method_of task) → ⊥) → (piece : List ℕ) → next_output s piece false ≡ []
none-out task s same tag piece =
    none_by s.task (subst (λ (t : Task). IsCipher (method_of t) → ⊥) (sym same) tag) (values_of s.held) s.fed piece

-- a byte more is known behind a piece that isn't the last, and so the message isn't at its limit
one_known : (task : Task) → (IsCipher (method_of task) → ⊥) → known_behind (method_of task) false ≡ 1
one_known (Present size iv) tag = absurd (tag tt)
one_known (Lea size iv) tag = absurd (tag tt)
one_known (Trivium iv) tag = absurd (tag tt)
one_known (LightMac size counter tag_bytes) tag = refl
one_known (Chaskey tag_bytes) tag = refl

longest_of : (s : ℕ) → (s ≡ 1) ⊎ ((s ≡ 2) ⊎ (s ≡ 4)) → 0 < longest_lightmac s
longest_of s (inl one) = subst (λ (s : ℕ). 0 < longest_lightmac s) (sym one) (omega arith)
longest_of s (inr (inl two)) = subst (λ (s : ℕ). 0 < longest_lightmac s) (sym two) (omega arith)
longest_of s (inr (inr four)) = subst (λ (s : ℕ). 0 < longest_lightmac s) (sym four) (omega arith)

pub room-first : (task : Task) → 0 < longest_message task
room-first (Present size iv) = omega arith
room-first (Lea size iv) = omega arith
room-first (Trivium iv) = omega arith
room-first (LightMac size counter tag) = longest_of (counter_bytes counter) (each_counter counter)
room-first (Chaskey tag) = omega arith

pub room-more : (task : Task) (s : Progress) (piece : List ℕ) (fed : ℕ) → s.task ≡ task → (IsCipher (method_of task) → ⊥) → fed ≡ s.fed + length piece →
    known_bytes s piece false ≤ longest_message s.task → fed < longest_message task
room-more task s piece fed same tag is within =
    let known : known_behind (method_of s.task) false ≡ 1 = one_known s.task (subst (λ (t : Task). IsCipher (method_of t) → ⊥) (sym same) tag) in
    let limit : known_bytes s piece false ≤ longest_message task = subst (λ (t : Task). known_bytes s piece false ≤ longest_message t) same within in
    omega (arith, known, limit)
