use Rattle.std.proofs.Common.{◌≡◌, arith}
use Rattle.outline_points.specs.Glyphs.{row_quads}
use Rattle.bdf_font.specs.GlyphRings.{bitmap_of}
use Rattle.ass_num.proofs.ListLemmas.{flat_more}
use Rattle.fixed_outline.proofs.glyphs.add_rows.Goals as goal

pub loop-j-preserved : goal.loop-j-preserved
loop-j-preserved c = (
  flat_more (row_quads c.args.style.now.matrix c.args.style.now.bold (bitmap_of c.args.pixels.now)) c.args.rings.now c.loop-j.rings c.add_row.new.rings c.loop-j.j c.loop-j.invariant.0 c.in_ok-add_row.ensures.added,
  λ outline. c.in_ok-add_row.ensures.within (c.loop-j.invariant.1 outline),
)

pub returns-clause-added : goal.returns-clause-added
returns-clause-added c = let e : c.loop-j.j ≡ c.args.pixels.now.h = omega arith in rw e at c.loop-j.invariant.0
