use Rattle.std.proofs.Common.{◌+◌}
use Rattle.blend.specs.Areas.{placed_of}
use Rattle.plain_images.specs.Cutting.{clip_stencil, stencilled_at}
use Rattle.plain_images.proofs.ByteLemmas.{rows_more}
use Rattle.plain_images.proofs.cutting.rows_of.Goals as goal

pub loop-l-preserved : goal.loop-l-preserved
loop-l-preserved c =
    rows_more (λ k n. stencilled_at (placed_of c.args.placed) (clip_stencil c.args.clip) (c.args.x + k) (c.args.y + n)) c.args.w c.loop-l.l _ _ c.loop-l.invariant c.in_ok-add_row.ensures
