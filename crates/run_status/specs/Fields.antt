-- Public: the names of the fields of event lines, as reports have them (docs/PROGRAM.md).
use Rattle.std.specs.Prelude.{ℕ, List, codes}
use Rattle.ass_script.specs.declared.script.EventField.{EventField}
use Rattle.ass_script.specs.declared.script.EventField.TheVariants as field

abbrev pub field_name : EventField → List ℕ
field_name field.ReadOrder = codes "ReadOrder"
field_name field.Layer = codes "Layer"
field_name field.Start = codes "Start"
field_name field.End = codes "End"
field_name field.Duration = codes "Duration"
field_name field.Style = codes "Style"
field_name field.Name = codes "Name"
field_name field.MarginL = codes "MarginL"
field_name field.MarginR = codes "MarginR"
field_name field.MarginV = codes "MarginV"
field_name field.Effect = codes "Effect"
field_name field.Text = codes "Text"
field_name field.Utf8 = codes "Utf8"
field_name field.Other = codes "Other"
