use Rattle.std.proofs.Common.{◌+◌}
use Rattle.blend.specs.Areas.{placed_of}
use Rattle.plain_images.specs.Cutting.{AreRowsOf, clip_stencil, stencilled_at}
use Rattle.plain_images.proofs.cutting.rows_of.Given as goal

abbrev pub invariant-loop-l : goal.invariant-loop-l
invariant-loop-l l = AreRowsOf (λ k n. stencilled_at (placed_of l.placed) (clip_stencil l.clip) (l.x + k) (l.y + n)) l.w l.l l.bytes.items
