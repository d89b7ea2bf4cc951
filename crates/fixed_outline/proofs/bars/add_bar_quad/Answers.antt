use Rattle.std.proofs.Common.{◌+ℤ◌, FitsSigned, to_z-of_z, rules, arith, w64}
use Rattle.std.proofs.lemmas.Int.{ints}
use Rattle.fixed_outline.proofs.ShapeLemmas.{bar_added}
use Rattle.fixed_outline.proofs.bars.add_bar_quad.Goals as goal

pub returns-clause-added : goal.returns-clause-added
returns-clause-added c =
    let ft : FitsSigned w64 c.from-top.result = search rules in
    let fs : FitsSigned w64 c.from.result = search rules in
    let fa : FitsSigned w64 c.from-2.result = search rules in
    let fb : FitsSigned w64 (c.from-top.result +ℤ c.from.result) = omega (arith, ints, c.from-top.ensures, c.from.ensures, c.requires.bar.top, c.requires.bar.size) in
    bar_added c.args.style.now.matrix c.from-2.result c.args.advance c.from-top.result c.args.bar.top c.from.result c.args.bar.size c.args.rings.now c.add_quad.new.rings
    (omega (arith, ints, c.from-2.ensures, c.requires.advance)) (omega (arith, ints, c.from-top.ensures, c.requires.bar.top)) (omega (arith, ints, c.from.ensures, c.requires.bar.size))
    (rw (to_z-of_z ft, to_z-of_z fs, to_z-of_z fa, to_z-of_z fb) at c.in_ok-add_quad.ensures.added)
