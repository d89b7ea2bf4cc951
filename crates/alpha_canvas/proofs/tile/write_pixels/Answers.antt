use Rattle.std.proofs.Common.{length, get_or}
use Rattle.alpha_canvas.specs.Alpha.{clear, formed_pixel}
use Rattle.alpha_canvas.proofs.RowLemmas.{first-more}
use Rattle.alpha_canvas.proofs.tile.write_pixels.Goals as goal

pub loop-k-preserved : goal.loop-k-preserved
loop-k-preserved c =
    first-more (λ k. formed_pixel c.args.form (get_or c.args.pixels.now k clear)) c.loop-k.k (length c.args.pixels.now) c.pixel.result c.loop-k.bytes c.write.new.bytes
    c.loop-k.invariant c.write.ensures c.pixel.ensures
