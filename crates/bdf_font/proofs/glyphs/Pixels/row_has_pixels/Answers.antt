use Rattle.std.proofs.Common.{arith}
use Rattle.ass_num.specs.Bitmaps.{pixel_is_set}
use Rattle.bdf_font.proofs.PixelLemmas.{any_at, any_more}
use Rattle.bdf_font.proofs.glyphs.Pixels.row_has_pixels.Goals as goal

pub returns-then-is_set : goal.returns-then-is_set
returns-then-is_set c =
    grind (arith, any_at (λ i. pixel_is_set c.args.self.now.w c.args.self.now.bits i c.args.j) c.args.self.now.w c.loop-i.i (omega arith))

pub loop-i-preserved : goal.loop-i-preserved
loop-i-preserved c = grind (arith, any_more (λ i. pixel_is_set c.args.self.now.w c.args.self.now.bits i c.args.j) c.loop-i.i)
