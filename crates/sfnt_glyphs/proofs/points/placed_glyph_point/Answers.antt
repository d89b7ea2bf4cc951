use Rattle.std.proofs.Common.{◌≡◌, ◌∙◌, ap, ap₂, FitsSigned, w32, rules}
use Rattle.sfnt_glyphs.specs.Glyphs.{held_unit, placed_x, placed_y, point_if}
use Rattle.sfnt_glyphs.proofs.Wide.{coordinate_is}
use Rattle.sfnt_glyphs.proofs.points.placed_glyph_point.Goals as goal
use mir.Syntax.{w128}

pub returns : goal.returns
returns c =
    let p = c.args.point.now in
    let to = c.args.placing.now in
    let x : FitsSigned w32 p.x = search rules in
    let y : FitsSigned w32 p.y = search rules in
    let a : FitsSigned w32 to.a = search rules in
    let b : FitsSigned w32 to.b = search rules in
    let third : FitsSigned w32 to.c = search rules in
    let d : FitsSigned w32 to.d = search rules in
    let dx : FitsSigned w32 to.dx = search rules in
    let dy : FitsSigned w32 to.dy = search rules in
    let wide_x : FitsSigned w128 c.placed_coordinate-x.result = search rules in
    let wide_y : FitsSigned w128 c.placed_coordinate-y.result = search rules in
    let held_x : c.held_unit.result ≡ held_unit (placed_x to p) =
    c.held_unit.ensures ∙ ap held_unit (coordinate_is p.x p.y to.a to.c to.dx c.placed_coordinate-x.result x y a third dx wide_x c.placed_coordinate-x.ensures) in
    let held_y : c.held_unit-2.result ≡ held_unit (placed_y to p) =
    c.held_unit-2.ensures ∙ ap held_unit (coordinate_is p.x p.y to.b to.d to.dy c.placed_coordinate-y.result x y b d dy wide_y c.placed_coordinate-y.ensures) in
    c.point_if.ensures ∙ ap₂ (λ i j. point_if i j p.is_on) held_x held_y
