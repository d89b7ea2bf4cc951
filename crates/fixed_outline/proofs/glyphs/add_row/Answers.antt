use Rattle.std.proofs.Common.{◌≡◌, arith}
use Rattle.outline_points.specs.Glyphs.{pixel_quads}
use Rattle.bdf_font.specs.GlyphRings.{bitmap_of}
use Rattle.ass_num.proofs.ListLemmas.{flat_more}
use Rattle.fixed_outline.proofs.glyphs.add_row.Goals as goal

pub loop-i-preserved : goal.loop-i-preserved
loop-i-preserved c = (
  flat_more (pixel_quads c.args.style.now.matrix c.args.style.now.bold (bitmap_of c.args.pixels.now) c.args.j) c.args.rings.now c.loop-i.rings c.add_place.new.rings c.loop-i.i c.loop-i.invariant.0 c.in_ok-add_place.ensures.added,
  λ outline. c.in_ok-add_place.ensures.within (c.loop-i.invariant.1 outline),
)

pub returns-clause-added : goal.returns-clause-added
returns-clause-added c = let e : c.loop-i.i ≡ c.args.pixels.now.w = omega arith in rw e at c.loop-i.invariant.0
