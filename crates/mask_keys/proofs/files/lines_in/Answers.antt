use Rattle.std.proofs.Common.{◌++◌, List, ℕ, length, sym, ap, ◌∙◌, subst, arith}
use Rattle.mask_keys.specs.Files.{IsKeyFile}
use Rattle.mask_keys.proofs.Finding.{found_none, found_more, bad_line, other_count, bounds, whole, found_file, on_ok}
use Rattle.mask_keys.proofs.files.lines_in.Goals as goal

pub loop-line-init : goal.loop-line-init
loop-line-init c = found_none c.wanted-size.result c.args.file.now c.new-bytes.result.items c.new-bytes.ensures

pub loop-line-preserved : goal.loop-line-preserved
loop-line-preserved c =
    let next = c.in-Some.ensures in
    let good = c.in-Some-spelled.ensures in
    let bytes = c.as_slice.ensures.bytes in
    found_more c.wanted-size.result c.args.file.now c.loop-line.rest.now c.in-Some.after.now c.in-Some.line.now c.in-Some-spelled.key
    c.loop-line.bytes.items c.try_extend_from_slice-kept.new.self.items c.loop-line.found c.loop-line.invariant next.0 next.1 good.0 good.1 good.2
    (λ room. on_ok c.try_extend_from_slice-kept.result (c.try_extend_from_slice-kept.ensures.variant.1 (omega (arith, ap length bytes)))
    c.try_extend_from_slice-kept.ensures.ok ∙ ap (λ (xs : List ℕ). c.loop-line.bytes.items ++ xs) bytes)

pub returns-in_default-spelled-clause-bad : goal.returns-in_default-spelled-clause-bad
returns-in_default-spelled-clause-bad c =
    bad_line c.wanted-size.result c.args.count c.args.asked c.args.file.now c.loop-line.rest.now c.in-Some.after.now c.in-Some.line.now
    c.loop-line.bytes.items c.loop-line.found c.loop-line.invariant c.wanted-size.ensures c.in-Some.ensures.0 c.in_default-spelled.ensures

pub returns-then-found-count-clause-bad : goal.returns-then-found-count-clause-bad
returns-then-found-count-clause-bad c =
    other_count c.wanted-size.result c.args.count c.args.asked c.args.file.now c.loop-line.rest.now c.loop-line.bytes.items c.loop-line.found
    c.loop-line.invariant c.wanted-size.ensures c.in_default.ensures c.if-found-count.true

pub new-requires-clause-filled : goal.new-requires-clause-filled
new-requires-clause-filled c =
    (bounds c.wanted-size.result c.args.count c.args.asked c.args.file.now c.loop-line.rest.now c.loop-line.bytes.items c.loop-line.found
    c.loop-line.invariant c.wanted-size.ensures c.in_default.ensures c.if-found-count.false c.requires.some c.requires.few).0

pub new-requires-clause-short : goal.new-requires-clause-short
new-requires-clause-short c =
    (bounds c.wanted-size.result c.args.count c.args.asked c.args.file.now c.loop-line.rest.now c.loop-line.bytes.items c.loop-line.found
    c.loop-line.invariant c.wanted-size.ensures c.in_default.ensures c.if-found-count.false c.requires.some c.requires.few).1

pub new-requires-clause-whole : goal.new-requires-clause-whole
new-requires-clause-whole c =
    whole c.wanted-size.result c.args.count c.args.asked c.args.file.now c.loop-line.rest.now c.loop-line.bytes.items c.loop-line.found
    c.loop-line.invariant c.wanted-size.ensures c.in_default.ensures c.if-found-count.false c.requires.some c.requires.few

pub returns-clause-lines : goal.returns-clause-lines
returns-clause-lines c =
    subst (IsKeyFile c.args.count c.args.asked c.args.file.now) (sym c.new.ensures)
    (found_file c.wanted-size.result c.args.count c.args.asked c.args.file.now c.loop-line.rest.now c.loop-line.bytes.items c.loop-line.found
    c.loop-line.invariant c.wanted-size.ensures c.in_default.ensures c.if-found-count.false c.requires.some c.requires.few)
