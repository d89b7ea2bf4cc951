use Rattle.std.proofs.Common.{FitsSigned, to_z-of_z, ◌+ℤ◌, pos, arith, rules, w64}
use Rattle.std.proofs.lemmas.Int.{ints}
use Rattle.bdf_font.specs.GlyphRings.{bitmap_of}
use Rattle.fixed_outline.proofs.RunLemmas.{bold_added, plain_added, run_added}
use Rattle.fixed_outline.proofs.runs.add_run.Goals as goal

pub returns-then-style-clause-winding : goal.returns-then-style-clause-winding
returns-then-style-clause-winding c =
    let m = c.args.style.now.matrix in
    let bold = c.args.style.now.bold in
    let left = c.column_left-left.result in
    let last = c.column_left.result in
    let top = c.row_top-top.result in
    let fa : FitsSigned w64 left = search rules in
    let fb : FitsSigned w64 last = search rules in
    let fc : FitsSigned w64 top = search rules in
    let fd : FitsSigned w64 (last +ℤ pos 1) = omega (arith, ints, c.column_left.ensures.within) in
    let fe : FitsSigned w64 (top +ℤ pos 1) = omega (arith, ints, c.row_top-top.ensures.within) in
    let ff : FitsSigned w64 (left +ℤ pos 1) = omega (arith, ints, c.column_left-left.ensures.within) in
    let fg : FitsSigned w64 (last +ℤ pos 1 +ℤ pos 1) = omega (arith, ints, c.column_left.ensures.within) in
    run_added m bold (bitmap_of c.args.pixels.now) c.args.j c.requires.upright c.args.from c.args.to left (last +ℤ pos 1) top c.args.rings.now c.add_quad-then-style.new.rings c.requires.some c.requires.run
    c.column_left-left.ensures.value (omega (arith, ints, c.column_left.ensures.value)) c.row_top-top.ensures.value
    (bold_added m bold top left (last +ℤ pos 1) c.args.rings.now c.add_quad.new.rings c.add_quad-then-style.new.rings c.if-style.true
    (simp to_z-of_z at c.in_ok-add_quad.ensures.added) (simp to_z-of_z at c.in_ok-add_quad-2.ensures.added))

pub returns-then-style-clause-within : goal.returns-then-style-clause-within
returns-then-style-clause-within c outline = c.in_ok-add_quad-2.ensures.within (c.in_ok-add_quad.ensures.within outline)

pub returns-clause-winding : goal.returns-clause-winding
returns-clause-winding c =
    let m = c.args.style.now.matrix in
    let bold = c.args.style.now.bold in
    let left = c.column_left-left.result in
    let last = c.column_left.result in
    let top = c.row_top-top.result in
    let fa : FitsSigned w64 left = search rules in
    let fb : FitsSigned w64 last = search rules in
    let fc : FitsSigned w64 top = search rules in
    let fd : FitsSigned w64 (last +ℤ pos 1) = omega (arith, ints, c.column_left.ensures.within) in
    let fe : FitsSigned w64 (top +ℤ pos 1) = omega (arith, ints, c.row_top-top.ensures.within) in
    run_added m bold (bitmap_of c.args.pixels.now) c.args.j c.requires.upright c.args.from c.args.to left (last +ℤ pos 1) top c.args.rings.now c.add_quad.new.rings c.requires.some c.requires.run
    c.column_left-left.ensures.value (omega (arith, ints, c.column_left.ensures.value)) c.row_top-top.ensures.value
    (plain_added m bold top left (last +ℤ pos 1) c.args.rings.now c.add_quad.new.rings c.if-style.false (simp to_z-of_z at c.in_ok-add_quad.ensures.added))
