use Rattle.std.proofs.Common.{◌∙◌, sym}
use Rattle.renderer.proofs.PaintedPictures.{front-painted, pixels-of-draws}
use Rattle.renderer.proofs.painting.paint_alpha_bands.Goals as goal

pub returns-clause-pixels : goal.returns-clause-pixels
returns-clause-pixels g c =
    front-painted c.args.form c.args.frame.now c.resize.new.self.len c.paint_alpha_bands.new.bytes c.resize.new.self.items (sym (c.paint_alpha_bands.auto.bytes ∙ c.as_mut_slice.ensures.len))
    (rw c.as_slice.ensures at c.paint_alpha_bands.ensures)

pub returns-clause-picture : goal.returns-clause-picture
returns-clause-picture g c = λ fonts draws shows. pixels-of-draws fonts draws c.args.form c.args.frame.now _ shows (returns-clause-pixels g c)
