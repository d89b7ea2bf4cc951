use Rattle.std.proofs.Common.{arith}
use Rattle.bdf_font.specs.Pixels.{row_has_pixels}
use Rattle.bdf_font.proofs.PixelLemmas.{any_at, any_more}
use Rattle.bdf_font.proofs.glyphs.Pixels.has_pixels.Goals as goal

pub returns-then-row_has_pixels : goal.returns-then-row_has_pixels
returns-then-row_has_pixels c = grind (arith, any_at (row_has_pixels c.args.self.now) c.args.self.now.h c.loop-j.j (omega arith))

pub loop-j-preserved : goal.loop-j-preserved
loop-j-preserved c = grind (arith, any_more (row_has_pixels c.args.self.now) c.loop-j.j)
