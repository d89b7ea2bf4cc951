use Rattle.std.proofs.Common.{map}
use Rattle.blend.specs.Images.{image_value}
use Rattle.alpha_canvas.proofs.RowLemmas.{AreFirstRows}
use Rattle.alpha_canvas.proofs.painting.paint_alpha_rows.Given as goal

abbrev pub invariant-loop-j : goal.invariant-loop-j
invariant-loop-j g l = AreFirstRows l.form (map (image_value g.M.AsMask.mask) l.images) l.w l.top l.j l.h l.bytes
