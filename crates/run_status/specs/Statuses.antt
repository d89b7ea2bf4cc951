-- Public: the line and the exit status of each status (docs/PROGRAM.md).
use Rattle.std.specs.Prelude.{ℕ, List, [], ◌++◌, codes, decimal}
use Rattle.ass_script.specs.declared.script.EventField.{EventField}
use Rattle.run_words.specs.declared.job.WordsFault.{WordsFault}
use Rattle.run_words.specs.declared.job.WordsFault.TheVariants.{Usage, Value}
use Rattle.run_status.specs.Fields.{field_name}
use Rattle.run_status.specs.FontFaults.{fault_line}
use Rattle.run_status.specs.declared.status.BadScript.{BadScript}
use Rattle.run_status.specs.declared.status.BadScript.TheVariants.{NotUtf8, NoEvents, FontData}
use Rattle.run_status.specs.declared.status.Status.{Status}
use Rattle.run_status.specs.declared.status.Status.TheVariants as status
use Rattle.run_status.specs.declared.status.What.{What}
use Rattle.run_status.specs.declared.status.What.TheVariants as what
use Rattle.run_status.specs.declared.status.Which.{Which}
use Rattle.run_status.specs.declared.status.Which.TheVariants.{Frames, Report}

abbrev pub what_text : What → List ℕ
what_text what.Bytes = codes "bytes"
what_text what.Lines = codes "lines"
what_text what.Styles = codes "styles"
what_text what.Glyphs = codes "glyphs"
what_text what.Faces = codes "faces"
what_text what.Fonts = codes "fonts"
what_text what.Frames = codes "frames"

abbrev pub sink_text : Which → List ℕ
sink_text Frames = codes "frames"
sink_text Report = codes "report"

abbrev pub words_line : WordsFault → List ℕ
words_line Usage = codes "bad words: usage\n"
words_line (Value name) = codes "bad words: " ++ name ++ codes "\n"

abbrev pub script_line : BadScript → List ℕ
script_line (NotUtf8 n) = codes "bad script: not UTF-8 at byte " ++ decimal n ++ codes "\n"
script_line NoEvents = codes "bad script: no [Events] section\n"
script_line (FontData n) = codes "bad script: font data at line " ++ decimal n ++ codes "\n"

abbrev pub limit_line : List ℕ → ℕ → List ℕ
limit_line what limit = codes "too large: " ++ what ++ codes " passes " ++ decimal limit ++ codes "\n"

abbrev pub unwritable_line : ℕ → EventField → List ℕ
unwritable_line order field = codes "unwritable " ++ decimal order ++ codes " " ++ field_name field ++ codes "\n"

-- what the report says of a status; of a job that was done whole it says nothing
abbrev pub status_line : Status → List ℕ
status_line status.Done = []
status_line (status.BadWords fault) = words_line fault
status_line (status.NoSuchFile name) = codes "no such file: " ++ name ++ codes "\n"
status_line (status.ReadFault name) = codes "read fault: " ++ name ++ codes "\n"
status_line (status.BadScript cause) = script_line cause
status_line (status.BadFont place fault) = fault_line place fault
status_line (status.WriteFault which) = codes "write fault: " ++ sink_text which ++ codes "\n"
status_line (status.TooLarge what limit) = limit_line (what_text what) limit
status_line status.OutOfMemory = codes "out of memory\n"
status_line (status.Unwritable order field) = unwritable_line order field

-- the exit status of the program
abbrev pub exit_status_of : Status → ℕ
exit_status_of status.Done = 0
exit_status_of (status.BadWords _) = 2
exit_status_of (status.NoSuchFile _) = 3
exit_status_of (status.ReadFault _) = 4
exit_status_of (status.BadScript _) = 5
exit_status_of (status.BadFont _ _) = 6
exit_status_of (status.WriteFault _) = 7
exit_status_of (status.TooLarge _ _) = 8
exit_status_of status.OutOfMemory = 9
exit_status_of (status.Unwritable _ _) = 11
