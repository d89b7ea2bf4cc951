-- Public: the numbers that calls return, with the places that go with them.
use Rattle.std.specs.Prelude.{ℕ, ℤ, pos, Result, Ok, Err}
use Rattle.ass_num.specs.declared.memory.OutOfMemory.{OutOfMemory}
use Rattle.ass_script.specs.declared.refusal.ScriptRefusal.{ScriptRefusal}
use Rattle.ass_script.specs.declared.refusal.ScriptRefusal.TheVariants as script
use Rattle.ass_script.specs.declared.script.EventField.{EventField}
use Rattle.ass_script.specs.declared.script.EventField.TheVariants as field
use Rattle.bdf_font.specs.Limits.{max_fonts}
use Rattle.bdf_font.specs.declared.cause.FontFileRefusal.{FontFileRefusal}
use Rattle.bdf_font.specs.declared.cause.FontFileRefusal.TheVariants as file
use Rattle.bdf_font.specs.declared.cause.FontRefusal.{FontRefusal}
use Rattle.bdf_font.specs.declared.cause.FontRefusal.TheVariants as lines
use Rattle.embedded_fonts.specs.declared.refusal.EmbeddedRefusal.{EmbeddedRefusal}
use Rattle.embedded_fonts.specs.declared.refusal.EmbeddedRefusal.TheVariants as embedded
use Rattle.frame_change.specs.declared.kinds.ChangeKind.{ChangeKind}
use Rattle.frame_change.specs.declared.kinds.ChangeKind.TheVariants.{Same, Moved, Other}
use Rattle.script_fonts.specs.declared.refusal.ScriptFontsRefusal.{ScriptFontsRefusal}
use Rattle.script_fonts.specs.declared.refusal.ScriptFontsRefusal.TheVariants as data_of
use Rattle.sfnt_font.specs.declared.cause.SfntRefusal.{SfntRefusal}
use Rattle.sfnt_font.specs.declared.cause.SfntRefusal.TheVariants as bytes
use Rattle.track_history.specs.declared.answers.Feed.{Feed}
use Rattle.track_history.specs.declared.answers.Feed.TheVariants as fed
use Rattle.track_history.specs.declared.answers.Flushed.{Flushed}
use Rattle.track_history.specs.declared.answers.Flushed.TheVariants as flushed
use Rattle.track_history.specs.declared.answers.LookRefusal.{LookRefusal}
use Rattle.track_history.specs.declared.answers.LookRefusal.TheVariants as look
use Rattle.track_history.specs.declared.answers.TurnOut.{TurnOut}
use Rattle.shared_player.specs.Seats.{SharedSeatView}
use Rattle.shared_player.specs.declared.refusals.ShareRefusal.{ShareRefusal}
use Rattle.shared_player.specs.declared.refusals.ShareRefusal.TheVariants as share
use Rattle.shared_player.specs.declared.refusals.SplitRefusal.{SplitRefusal}
use Rattle.shared_player.specs.declared.refusals.SplitRefusal.TheVariants as split
use Rattle.vimalorua_c.specs.declared.status.Told.{Told}

abbrev pub done_status : ℤ
done_status = pos 0

abbrev pub out_of_memory_status : ℤ
out_of_memory_status = pos 5

abbrev pub many_fonts_status : ℤ
many_fonts_status = pos 8

abbrev pub no_font_status : ℤ
no_font_status = pos 9

abbrev pub bad_call_status : ℤ
bad_call_status = pos 14

abbrev pub closed_status : ℤ
closed_status = pos 15

abbrev pub busy_status : ℤ
busy_status = pos 17

abbrev pub not_first_status : ℤ
not_first_status = pos 18

abbrev pub many_seats_status : ℤ
many_seats_status = pos 19

abbrev pub was_fed_status : ℤ
was_fed_status = pos 20

abbrev pub told : ℤ → ℕ → Told
told status place = record { status = status; place = place }

-- why a script isn't read
abbrev pub script_told : ScriptRefusal → Told
script_told (script.NotUtf8 front) = told (pos 1) front
script_told script.NoEvents = told (pos 2) 0
script_told (script.TooManyLines most) = told (pos 3) most
script_told (script.TooManyStyles most) = told (pos 4) most
script_told script.OutOfMemory = told out_of_memory_status 0

-- why lines aren't a font
abbrev pub lines_told : FontRefusal → Told
lines_told (lines.BadFont line cause) = told (pos 6) line
lines_told (lines.TooLarge most) = told (pos 7) most
lines_told lines.OutOfMemory = told out_of_memory_status 0

-- why the bytes of a TrueType file aren't one
abbrev pub bytes_told : SfntRefusal → Told
bytes_told (bytes.BadFont byte cause) = told (pos 6) byte
bytes_told (bytes.TooLarge most) = told (pos 7) most
bytes_told bytes.OutOfMemory = told out_of_memory_status 0

-- why a font isn't read
abbrev pub font_told : FontFileRefusal → Told
font_told (file.Lines refusal) = lines_told refusal
font_told (file.Bytes refusal) = bytes_told refusal

-- why the fonts that a script holds aren't decoded
abbrev pub data_told : ScriptFontsRefusal → Told
data_told (data_of.BadCharacter line) = told (pos 16) line
data_told (data_of.BadLength line) = told (pos 16) line
data_told data_of.OutOfMemory = told out_of_memory_status 0

-- why the fonts that a script holds aren't read; of one that is none its place among them is told
abbrev pub embedded_told : EmbeddedRefusal → Told
embedded_told (embedded.Data refusal) = data_told refusal
embedded_told (embedded.Font place refusal) = told (font_told refusal).status place
embedded_told embedded.TooMany = told many_fonts_status max_fonts

-- the answer to a feed
abbrev pub feed_told : Feed → Told
feed_told (fed.Accepted entry) = told done_status entry
feed_told (fed.Repeated entry) = told (pos 10) entry
feed_told (fed.Malformed which byte) = told (pos 11) byte
feed_told (fed.Full most) = told (pos 12) most
feed_told fed.OutOfMemory = told out_of_memory_status 0

-- the number of a field, from 1
abbrev pub field_number : EventField → ℕ
field_number field.ReadOrder = 1
field_number field.Layer = 2
field_number field.Start = 3
field_number field.End = 4
field_number field.Duration = 5
field_number field.Style = 6
field_number field.Name = 7
field_number field.MarginL = 8
field_number field.MarginR = 9
field_number field.MarginV = 10
field_number field.Effect = 11
field_number field.Text = 12
field_number field.Utf8 = 13
field_number field.Other = 14

-- the number of the field that a feed refused, or 0
abbrev pub fed_field : Feed → ℕ
fed_field (fed.Accepted entry) = 0
fed_field (fed.Repeated entry) = 0
fed_field (fed.Malformed which byte) = field_number which
fed_field (fed.Full most) = 0
fed_field fed.OutOfMemory = 0

-- the answer to a flush
abbrev pub flush_told : Flushed → Told
flush_told (flushed.Done entry) = told done_status entry
flush_told (flushed.TooMany most) = told (pos 13) most

-- a change as libass numbers it
abbrev pub change_number : ChangeKind → ℤ
change_number Same = pos 0
change_number Moved = pos 1
change_number Other = pos 2

-- ---- seats

-- the answer to a try to feed
abbrev pub tried_feed_told : Result Feed TurnOut → Told
tried_feed_told (Ok answer) = feed_told answer
tried_feed_told (Err out) = told busy_status 0

-- the number of the field that a try to feed refused, or 0
abbrev pub tried_field : Result Feed TurnOut → ℕ
tried_field (Ok answer) = fed_field answer
tried_field (Err out) = 0

-- the answer to a try to flush
abbrev pub tried_flush_told : Result Flushed TurnOut → Told
tried_flush_told (Ok answer) = flush_told answer
tried_flush_told (Err out) = told busy_status 0

-- the answer to a try to feed the line behind so many, and how many are in then
abbrev pub line_told : ℕ → Result (Result ℕ OutOfMemory) TurnOut → Told
line_told from (Ok (Ok count)) = told done_status count
line_told from (Ok (Err refused)) = told out_of_memory_status from
line_told from (Err out) = told busy_status from

-- why there is no picture
abbrev pub look_status : LookRefusal → ℤ
look_status look.TurnOut = busy_status
look_status look.OutOfMemory = out_of_memory_status

-- why a player isn't shared
abbrev pub share_status : ShareRefusal → ℤ
share_status share.WasFed = was_fed_status
share_status share.OutOfMemory = out_of_memory_status

-- why no seat is split off
abbrev pub split_status : SplitRefusal → ℤ
split_status split.NotFirst = not_first_status
split_status split.TooMany = many_seats_status
split_status split.OutOfMemory = out_of_memory_status

-- a seat was made, or why none was
abbrev pub made_status : Result SharedSeatView ℤ → ℤ
made_status (Ok seat) = done_status
made_status (Err status) = status
