-- Inner: what worlds are opened on, and what is asked of them.
use Rattle.std.specs.Prelude.{List, All}
use Rattle.std.specs.Arc.{arc_value}
use Rattle.ass_num.specs.Limits.{IsFrameSize}
use Rattle.ass_script.specs.Ranges.{IsScript}
use Rattle.bdf_font.specs.Fonts.{FontValue}
use Rattle.mask_keys.specs.Keys.{IsValidComposite}
use Rattle.mask_keys.specs.Outlines.{glyph_counts}
use Rattle.ass_events.specs.LineLaws.{HasShortLines}
use Rattle.text_layout.specs.Fonts.{IsLayoutFontSet}
use Rattle.world_vectors.specs.declared.inputs.Inputs.{Inputs}

abbrev pub fonts_in : Inputs → List FontValue
fonts_in inputs = (arc_value inputs.fonts).fonts

-- a script whose lines are short, fonts, a size of frames, and keys of these fonts
pub record AreInputs (inputs : Inputs) : Type 0 where
  pub script : IsScript (arc_value inputs.script)
  pub short : HasShortLines (arc_value inputs.script)
  pub fonts : IsLayoutFontSet (fonts_in inputs)
  pub size : IsFrameSize inputs.size
  pub keys : All (IsValidComposite (glyph_counts (fonts_in inputs))) inputs.keys.items
