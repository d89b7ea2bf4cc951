-- Public: what the events of a picture are laid out and drawn in.
use Rattle.std.specs.Prelude.{List}
use Rattle.ass_script.specs.Ranges.{IsScript}
use Rattle.ass_script.specs.Scripts.{ScriptValue}
use Rattle.bdf_font.specs.Fonts.{FontValue}
use Rattle.frame_view.specs.FrameViews.{IsFrameView}
use Rattle.frame_view.specs.declared.view.FrameView.{FrameView}
use Rattle.text_layout.specs.Fonts.{IsLayoutFontSet}

-- the script, the fonts, and what the frame is to the script
pub record SettingValue : Type 0 where
  pub script : ScriptValue
  pub fonts : List FontValue
  pub frame : FrameView

-- Each is in its range.
pub record IsSetting (setting : SettingValue) : Type 0 where
  pub script : IsScript setting.script
  pub fonts : IsLayoutFontSet setting.fonts
  pub frame : IsFrameView setting.frame
