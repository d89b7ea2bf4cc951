use Rattle.std.proofs.Common.{FitsSigned, to_z-of_z, refl, w64}
use Rattle.outline_points.proofs.glyphs.quad.Goals as goal

pub returns-clause-value : goal.returns-clause-value
returns-clause-value c =
    let fl : FitsSigned w64 c.args.left = c.ranges.left in
    let ft : FitsSigned w64 c.args.top = c.ranges.top in
    let fr : FitsSigned w64 c.args.right = c.ranges.right in
    let fb : FitsSigned w64 c.args.bottom = c.ranges.bottom in
    let first = simp to_z-of_z at c.glyph_point.ensures.value in
    let second = simp to_z-of_z at c.glyph_point-2.ensures.value in
    let third = simp to_z-of_z at c.glyph_point-3.ensures.value in
    let fourth = simp to_z-of_z at c.glyph_point-4.ensures.value in
    rw (first, second, third, fourth) refl
