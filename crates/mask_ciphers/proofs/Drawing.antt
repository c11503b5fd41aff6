-- How many random bits the runs of a task draw.
use Rattle.std.proofs.Common.{◌≡◌, ℕ, suc, ◌+◌, ◌-◌, ◌*◌, ◌/◌, List, length, refl, ap₂, ◌∙◌, arith}
use Rattle.mask_circuit.specs.Expansion.{draws}
use Rattle.mask_tasks.specs.declared.sizes.KeySize.{KeySize}
use Rattle.mask_tasks.specs.declared.sizes.KeySize.TheVariants.{K80, K128}
use Rattle.mask_tasks.specs.declared.sizes.LeaSize.{LeaSize}
use Rattle.mask_tasks.specs.declared.sizes.LeaSize.TheVariants as lea_size
use Rattle.mask_tasks.specs.declared.tasks.Task.TheVariants.{Present, Lea, Trivium, LightMac, Chaskey}
use Rattle.mask_tasks.specs.Sizes.{present_bytes, lea_bytes}
use Rattle.mask_parts.specs.CipherCircuits.{gate_bits}
use Rattle.mask_parts.proofs.Drawing.{draws-gates}
use Rattle.mask_present.specs.NamedPresent.{named_present}
use Rattle.mask_present.proofs.Counting.{size-named_present}
use Rattle.mask_lea.specs.NamedLea.{named_lea}
use Rattle.mask_lea.proofs.Concluding.{size-named_lea}
use Rattle.mask_refresh.specs.Refreshing.{refreshing}
use Rattle.mask_refresh.proofs.Making.{size-refreshing}
use Rattle.mask_trace.specs.Steps.{bits_of}
use Rattle.mask_modes.specs.CounterMode.{block_count}
use Rattle.mask_modes.specs.Steps.{Mode, Cipher, Enciphers, steps_of}
use Rattle.mask_modes.proofs.TapeBits.{run_bits}
use Rattle.mask_ciphers.specs.Tasks.{lea_cipher, lea_mode, present_cipher, present_mode}
use Rattle.mask_ciphers.specs.Totals.{present_gates, present_key_gates, lea_gates, lea_key_gates, counter_bits, total}
use Rattle.mask_ciphers.specs.Laws.{RunsDrawTotals}
use Rattle.mask_streams.proofs.TapeBits.{run_bits as stream_bits}
use Rattle.mask_ciphers.proofs.Enciphering.{tasks_encipher}
use Rattle.mask_tasks.specs.Limits.{chaskey_tag}
use Rattle.mask_ciphers.proofs.Tagging.{chaskey_makes, lightmac_makes}

draws-refreshing : (n d : ℕ) → draws (refreshing n) (suc d) ≡ n * gate_bits d
draws-refreshing n d = draws-gates (refreshing n) _ d n (size-refreshing n) (omega arith)

-- what a run in a mode draws, if its circuits take so many products and refreshes
run_draws : (m : Mode) (cipher : Cipher) (gates refreshes d : ℕ) (message : List ℕ) → Enciphers cipher m → draws m.circuit (suc d) ≡ gates * gate_bits d →
    draws m.refresh (suc d) ≡ refreshes * gate_bits d →
    bits_of (suc d) (steps_of m message) ≡ counter_bits (8 * m.block) gates refreshes d (block_count m.block (length message))
run_draws m cipher gates refreshes d message is block refresh =
    let count = block_count m.block (length message) in
    run_bits (suc d) m cipher message is ∙ ap₂ (λ (b r : ℕ). count * (d * (8 * m.block) + b) + ((count + 63) / 64 - 1) * r) block refresh

-- PRESENT

draws-present : (size : KeySize) (d : ℕ) → draws (named_present size) (suc d) ≡ present_gates size * gate_bits d
draws-present K80 d = draws-gates (named_present K80) _ d 5334 (size-named_present K80) refl
draws-present K128 d = draws-gates (named_present K128) _ d 5644 (size-named_present K128) refl

draws-present_key : (size : KeySize) (d : ℕ) → draws (refreshing (8 * present_bytes size)) (suc d) ≡ present_key_gates size * gate_bits d
draws-present_key K80 = draws-refreshing 80
draws-present_key K128 = draws-refreshing 128

-- LEA

draws-lea : (size : LeaSize) (d : ℕ) → draws (named_lea size) (suc d) ≡ lea_gates size * gate_bits d
draws-lea lea_size.K128 d = draws-gates (named_lea lea_size.K128) _ d 10_544 (size-named_lea lea_size.K128) refl
draws-lea lea_size.K192 d = draws-gates (named_lea lea_size.K192) _ d 15_752 (size-named_lea lea_size.K192) refl
draws-lea lea_size.K256 d = draws-gates (named_lea lea_size.K256) _ d 17_984 (size-named_lea lea_size.K256) refl

draws-lea_key : (size : LeaSize) (d : ℕ) → draws (refreshing (8 * lea_bytes size)) (suc d) ≡ lea_key_gates size * gate_bits d
draws-lea_key lea_size.K128 = draws-refreshing 128
draws-lea_key lea_size.K192 = draws-refreshing 192
draws-lea_key lea_size.K256 = draws-refreshing 256

-- EVERY TASK

pub runs_draw_totals : RunsDrawTotals
unfolding total
runs_draw_totals (Present size iv) d message =
    run_draws (present_mode size iv) (present_cipher size) (present_gates size) (present_key_gates size) d message (tasks_encipher (Present size iv) tt)
    (draws-present size d) (draws-present_key size d)
runs_draw_totals (Lea size iv) d message =
    run_draws (lea_mode size iv) (lea_cipher size) (lea_gates size) (lea_key_gates size) d message (tasks_encipher (Lea size iv) tt)
    (draws-lea size d) (draws-lea_key size d)
runs_draw_totals (Trivium iv) d message = stream_bits d iv message
runs_draw_totals (LightMac size counter tag) d message = (lightmac_makes size counter tag).draws d message
runs_draw_totals (Chaskey tag) d message = (chaskey_makes (chaskey_tag tag)).draws d message
