use Rattle.std.proofs.Common.{◌∙◌, ap}
use Rattle.ass_num.specs.Bitmaps.{pixel_is_set}
use Rattle.bdf_font.proofs.glyphs.Pixels.is_set.Goals as goal

pub returns : goal.returns
returns c = c.pixel_is_set.ensures ∙ ap (λ bits. pixel_is_set c.args.self.now.w bits c.args.i c.args.j) c.as_slice.ensures
