use Rattle.std.proofs.Common.{FitsSigned, to_z-of_z, ◌+ℤ◌, pos, arith, w64}
use Rattle.std.proofs.lemmas.Int.{ints}
use Rattle.fixed_outline.proofs.QuadLemmas.{pixel_bold, pixel_plain}
use Rattle.fixed_outline.proofs.glyphs.add_pixel.Goals as goal

pub returns-then-style-clause-added : goal.returns-then-style-clause-added
returns-then-style-clause-added c =
    let fa : FitsSigned w64 c.args.a = c.ranges.a in
    let fb : FitsSigned w64 c.args.b = c.ranges.b in
    let fc : FitsSigned w64 (c.args.a +ℤ pos 1) = omega (arith, ints, c.requires.a) in
    let fd : FitsSigned w64 (c.args.b +ℤ pos 1) = omega (arith, ints, c.requires.b) in
    let fe : FitsSigned w64 (c.args.a +ℤ pos 1 +ℤ pos 1) = omega (arith, ints, c.requires.a) in
    pixel_bold c.args.style.now.matrix c.args.style.now.bold c.args.a c.args.b c.args.rings.now c.add_quad.new.rings c.add_quad-then-style.new.rings c.if-style.true
    (simp to_z-of_z at c.in_ok-add_quad.ensures.added) (simp to_z-of_z at c.in_ok-add_quad-2.ensures.added)

pub returns-then-style-clause-within : goal.returns-then-style-clause-within
returns-then-style-clause-within c outline = c.in_ok-add_quad-2.ensures.within (c.in_ok-add_quad.ensures.within outline)

pub returns-clause-added : goal.returns-clause-added
returns-clause-added c =
    let fa : FitsSigned w64 c.args.a = c.ranges.a in
    let fb : FitsSigned w64 c.args.b = c.ranges.b in
    let fc : FitsSigned w64 (c.args.a +ℤ pos 1) = omega (arith, ints, c.requires.a) in
    let fd : FitsSigned w64 (c.args.b +ℤ pos 1) = omega (arith, ints, c.requires.b) in
    pixel_plain c.args.style.now.matrix c.args.style.now.bold c.args.a c.args.b c.args.rings.now c.add_quad.new.rings c.if-style.false (simp to_z-of_z at c.in_ok-add_quad.ensures.added)
