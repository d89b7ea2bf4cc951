-- How far down a drawing may be moved.
use Rattle.std.proofs.Common.{◌*◌, ℤ, ◌*ℤ◌, arith}
use Rattle.ass_num.specs.Limits.{IsHeldNumber, IsWithin, max_held}
use Rattle.ass_num.proofs.LimitLemmas.{IsWithin-wider}
use Rattle.outline_points.proofs.Bounds.{scale_within, within_product, within_quotient}
use Rattle.outline_points.specs.Drawings.{path_unit}
use Rattle.outline_points.specs.Limits.{max_length, max_scale}
use Rattle.outline_points.specs.Placing.{IsScale}
use Rattle.override_tags.specs.declared.view.State.{State}
use Rattle.event_draws.specs.Marks.{drawing_shift}

pub shift_within : (state : State) (uy : ℤ) → IsHeldNumber state.offset → IsScale uy → IsWithin max_length (drawing_shift state uy)
shift_within state uy h k =
    within_quotient max_length path_unit (state.offset *ℤ uy) (omega arith)
    (IsWithin-wider (max_held * max_scale) (max_length * path_unit) (state.offset *ℤ uy) (omega arith) (within_product max_held max_scale state.offset uy h (scale_within uy k)))
