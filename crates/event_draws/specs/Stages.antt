-- Public: where an event that is laid out stands in the frame at an instant. Lengths are in 1/64 pixel.
-- (Aegisub tag reference, "\org".)
use Rattle.std.specs.Prelude.{Option, Some, None, ℤ, ◌+ℤ◌}
use Rattle.ass_num.specs.Limits.{IsFrameSize, IsPointWithin}
use Rattle.ass_num.specs.declared.geometry.Point.{Point}
use Rattle.ass_script.specs.Scripts.{ScriptValue}
use Rattle.ass_events.specs.declared.event.Event.{Event}
use Rattle.frame_view.specs.FrameScales.{IsScales}
use Rattle.frame_view.specs.declared.scales.Scales.{Scales}
use Rattle.frame_view.specs.declared.view.FrameView.{FrameView}
use Rattle.outline_points.specs.Limits.{max_length}
use Rattle.override_tags.specs.declared.view.EventView.{EventView}
use Rattle.tag_state.specs.Views.{elapsed_at}
use Rattle.text_layout.specs.Anchors.{anchor, block_corner, on_ground, script_place}
use Rattle.text_layout.specs.LineScales.{line_scales}
use Rattle.text_layout.specs.declared.laid.Laid.{Laid}
use Rattle.event_draws.specs.Limits.{max_block_corner}
use Rattle.event_draws.specs.declared.stage.Stage.{Stage}

abbrev pub moved_down : Point → ℤ → Point
moved_down p shift = record { x = p.x; y = p.y +ℤ shift }

-- An event is turned about the point of `\org`, which no shift moves, or else about its anchor.
abbrev pub origin_by : Scales → Point → Option (ℤ × ℤ) → Point
origin_by scales anchor (Some place) = on_ground scales (script_place scales place)
origin_by scales anchor None = anchor

-- an event at an instant, moved down by a shift
abbrev pub stage_at : ScriptValue → Event → ℤ → FrameView → EventView → Laid → ℤ → Stage
stage_at script event t frame view laid shift =
    let scales = line_scales script.header frame view in
    let at = anchor script event view scales in
    record {
      scales = scales;
      size = frame.size;
      corner = moved_down (block_corner at view.align laid.width laid.height) shift;
      origin = origin_by scales (moved_down at shift) view.org;
      elapsed = elapsed_at event t;
      fade = view.fade;
    }

-- ---- ranges

pub record IsStage (stage : Stage) : Type 0 where
  pub scales : IsScales stage.scales
  pub size : IsFrameSize stage.size
  pub corner : IsPointWithin max_block_corner stage.corner
  pub origin : IsPointWithin max_length stage.origin
