use Rattle.std.proofs.Common.{FitsSigned, to_z-of_z, rules, w64}
use Rattle.bdf_font.specs.GlyphRings.{bitmap_of}
use Rattle.fixed_outline.proofs.QuadLemmas.{place_set}
use Rattle.fixed_outline.proofs.glyphs.add_place.Goals as goal

pub returns-then-is_set-clause-added : goal.returns-then-is_set-clause-added
returns-then-is_set-clause-added c =
    let fa : FitsSigned w64 c.column_left.result = search rules in
    let fb : FitsSigned w64 c.row_top.result = search rules in
    place_set c.args.style.now.matrix c.args.style.now.bold c.is_set.result (bitmap_of c.args.pixels.now) c.args.i c.args.j c.column_left.result c.row_top.result c.args.rings.now c.add_pixel.new.rings
    c.is_set.ensures c.if-is_set.true c.column_left.ensures.value c.row_top.ensures.value (rw (to_z-of_z fa, to_z-of_z fb) at c.in_ok-add_pixel.ensures.added)
