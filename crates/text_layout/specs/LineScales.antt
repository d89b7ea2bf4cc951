-- Public: the scales of a line in a frame, by whether its event says a place of its own for it.
-- (Aegisub tag reference, "\pos", "\clip".)
use Rattle.std.specs.Prelude.{◌||◌, Bool, is_some}
use Rattle.ass_script.specs.declared.script.Header.{Header}
use Rattle.frame_view.specs.FrameScales.{scales_of}
use Rattle.frame_view.specs.declared.scales.Scales.{Scales}
use Rattle.frame_view.specs.declared.view.FrameView.{FrameView}
use Rattle.override_tags.specs.declared.view.EventView.{EventView}

-- The event says one, by `\pos`, `\move`, `\org` or a clip.
abbrev pub is_typeset : EventView → Bool
is_typeset view = is_some view.pos || (is_some view.org || is_some view.clip)

abbrev pub line_scales : Header → FrameView → EventView → Scales
line_scales header frame view = scales_of header frame (is_typeset view)
