use Rattle.std.proofs.Common.{◌≡◌, ◌<◌, ℕ, ◌+◌, ◌-◌, ◌*◌, List, [], length, take, drop, get_or, sym, ap, ◌∙◌, arith}
use Rattle.mask_keys.specs.Lines.{line_length}
use Rattle.mask_keys.proofs.Cutting.{length-lines_of, get_or-lines_of, length-line, line_end}
use Rattle.mask_keys.proofs.lines.KeyLines.line.Goals as goal

pub slice_bounds-result-end : goal.slice_bounds-result-end
slice_bounds-result-end c =
    let s = c.self.inside in
    let below : c.args.i < s.count = omega (arith, length-lines_of s.count s.size s.bytes.items, ap length c.self.view_is) in
    let end = line_end s.count s.size c.args.i below in
    let all = c.self.invariant.4 in
    let same = ap length c.as_slice.ensures.value in
    omega arith

pub returns-clause-line : goal.returns-clause-line
returns-clause-line c =
    let s = c.self.inside in
    let below : c.args.i < s.count = omega (arith, length-lines_of s.count s.size s.bytes.items, ap length c.self.view_is) in
    let size : c.args.i * s.size + s.size - c.args.i * s.size ≡ s.size = omega arith in
    ap (λ (n : ℕ). take n (drop (c.args.i * s.size) c.as_slice.result.now)) size
    ∙ ap (λ (xs : List ℕ). take s.size (drop (c.args.i * s.size) xs)) c.as_slice.ensures.value
    ∙ sym (get_or-lines_of s.count s.size s.bytes.items c.args.i [] below)
    ∙ ap (λ (lines : List (List ℕ)). get_or lines c.args.i []) c.self.view_is

pub returns-clause-length : goal.returns-clause-length
returns-clause-length c =
    let s = c.self.inside in
    let i = c.self.invariant in
    let below : c.args.i < s.count = omega (arith, length-lines_of s.count s.size s.bytes.items, ap length c.self.view_is) in
    let first = length-line s.count s.size s.bytes.items 0 [] i.4 (omega arith) in
    let here = length-line s.count s.size s.bytes.items c.args.i [] i.4 below in
    ap length (returns-clause-line c)
    ∙ sym (ap (λ (lines : List (List ℕ)). length (get_or lines c.args.i [])) c.self.view_is)
    ∙ here ∙ sym first ∙ ap line_length c.self.view_is
