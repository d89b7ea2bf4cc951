use Rattle.std.proofs.Common.{length, get_or}
use Rattle.alpha_canvas.specs.Alpha.{clear, formed_pixel}
use Rattle.alpha_canvas.proofs.RowLemmas.{AreFirst}
use Rattle.alpha_canvas.proofs.tile.write_pixels.Given as goal

abbrev pub invariant-loop-k : goal.invariant-loop-k
invariant-loop-k l = AreFirst (λ k. formed_pixel l.form (get_or l.pixels k clear)) l.k (length l.pixels) l.bytes
