use Rattle.std.proofs.Common.{arith}
use Rattle.std.proofs.lemmas.Int.{ints}
use Rattle.line_layout.proofs.TableLemmas.{begin-is, start-bounds}
use Rattle.line_layout.proofs.pens.begin_of.Goals as goal

pub overflow_add-result : goal.overflow_add-result
overflow_add-result c =
    let e = begin-is c.args.widths.now c.args.spaces.now c.args.pens.now c.args.k c.requires.paragraph c.requires.pens (omega arith) c.requires.place in
    let b = start-bounds c.args.widths.now c.args.spaces.now c.args.k c.requires.paragraph c.requires.place in
    let l = b.0 in
    let h = b.1 in
    omega (arith, ints, e, l, h)

pub returns-else-k-eq0 : goal.returns-else-k-eq0
returns-else-k-eq0 c =
    let e = begin-is c.args.widths.now c.args.spaces.now c.args.pens.now c.args.k c.requires.paragraph c.requires.pens (omega arith) c.requires.place in
    let b = start-bounds c.args.widths.now c.args.spaces.now c.args.k c.requires.paragraph c.requires.place in
    let l = b.0 in
    let h = b.1 in
    omega (arith, ints, e, l, h)
