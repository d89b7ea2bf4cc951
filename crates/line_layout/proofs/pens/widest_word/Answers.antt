use Rattle.std.proofs.Common.{rules, arith, ◌≤◌, length, SFits, to_z, w64}
use Rattle.std.proofs.lemmas.Int.{to_z-of_z}
use Rattle.line_layout.proofs.TableLemmas.{Words-more, Words-all, line-is, line-bounds, pen-fits}
use Rattle.line_layout.proofs.pens.widest_word.Goals as goal

pub overflow_sub-pens : goal.overflow_sub-pens
overflow_sub-pens c =
    let t = c.requires.pens in
    let n = t.count in
    let l : c.loop-k.k ≤ length c.args.spaces.now = omega (arith, c.loop-k-test.true, n) in
    let f : SFits w64 c.begin_of.result = search rules in
    rw (to_z-of_z w64 _ (pen-fits c.args.widths.now c.args.spaces.now c.args.pens.now c.loop-k.k c.requires.paragraph t l), to_z-of_z w64 _ f)
    (line-bounds c.args.widths.now c.args.spaces.now c.args.pens.now _ c.loop-k.k c.loop-k.k c.requires.paragraph t l l c.begin_of.ensures)

pub loop-k-preserved : goal.loop-k-preserved
loop-k-preserved c =
    let ws = c.args.widths.now in
    let s = c.args.spaces.now in
    let k = c.loop-k.k in
    let t = c.requires.pens in
    let n = t.count in
    let l : k ≤ length s = omega (arith, c.loop-k-test.true, n) in
    let f : SFits w64 c.begin_of.result = search rules in
    let h : SFits w64 c.max-widest.result = search rules in
    let e = line-is ws s c.args.pens.now c.begin_of.result k k t l c.begin_of.ensures in
    rw (
      to_z-of_z w64 _ h,
      c.max-widest.ensures.value,
      to_z-of_z w64 _ (pen-fits ws s c.args.pens.now k c.requires.paragraph t l),
      to_z-of_z w64 _ f,
      to_z-of_z w64 _ (line-bounds ws s c.args.pens.now c.begin_of.result k k c.requires.paragraph t l l c.begin_of.ensures),
    )
    (Words-more ws s (to_z w64 c.loop-k.widest-bits) _ k e c.loop-k.invariant)

pub returns : goal.returns
returns c =
    let n = c.requires.pens.count in
    let a = c.loop-k-test.false in
    let b = c.loop-k.auto.k-end in
    Words-all c.args.widths.now c.args.spaces.now _ c.loop-k.k (omega (arith, n, a, b)) c.loop-k.invariant
