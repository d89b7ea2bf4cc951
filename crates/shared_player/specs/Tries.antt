-- Public: what a try to feed a line of the script does, and what a try that lost its turn does.
use Rattle.std.specs.Prelude.{◌≡◌, ◌≢◌, ℕ, ◌+◌, min, nat_lt, if◌then◌else◌, length, Option, Some, None, Result, Ok, Err}
use Rattle.std.specs.Result.{result_ok}
use Rattle.ass_events.specs.Events.{event_of_line}
use Rattle.ass_events.specs.declared.event.Event.{Event}
use Rattle.ass_num.specs.declared.memory.OutOfMemory.{OutOfMemory}
use Rattle.ass_script.specs.Scripts.{ScriptValue}
use Rattle.track_history.specs.Calls.{IsEventFed, IsOffered, IsTurn, TrackView}
use Rattle.track_history.specs.declared.answers.Feed.{Feed}
use Rattle.track_history.specs.declared.answers.Feed.TheVariants as feed
use Rattle.track_history.specs.declared.answers.LookRefusal.{LookRefusal}
use Rattle.track_history.specs.declared.answers.LookRefusal.TheVariants as look
use Rattle.track_history.specs.declared.answers.TurnOut.{TurnOut}

-- Another pass had the turn: the try counts as lost, and that is all.
abbrev pub IsLostTry : TrackView → TrackView → Type 0
IsLostTry pass after = after ≡ record pass { lost = pass.lost + 1 }

-- Why there is no picture and no list. Where memory ran out, the turn was taken and given back.
abbrev pub IsLookRefused : TrackView → TrackView → LookRefusal → Type 0
IsLookRefused pass after look.TurnOut = IsLostTry pass after
IsLookRefused pass after look.OutOfMemory = IsTurn pass after None

-- ---- the script's own lines

-- the event of the Dialogue line at this place, where there is such a line and it gives one
abbrev pub line_offered : ScriptValue → ℕ → Option Event
line_offered script from = if nat_lt from (length script.lines) then result_ok (event_of_line script from) else None

-- how many of the lines are in once that at this place is
abbrev pub lines_in : ScriptValue → ℕ → ℕ
lines_in script from = min (from + 1) (length script.lines)

-- The event was offered, and so many lines are in; or memory ran out, before the turn or at it; or the turn was out.
abbrev pub IsLineOffered : ℕ → Event → TrackView → TrackView → Result (Result ℕ OutOfMemory) TurnOut → Type 0
IsLineOffered count event pass after (Ok (Ok told)) = (told ≡ count) × ((answer : Feed) × (answer ≢ feed.OutOfMemory) × IsOffered event pass after answer)
IsLineOffered count event pass after (Ok (Err refused)) = IsEventFed event pass after feed.OutOfMemory
IsLineOffered count event pass after (Err refused) = IsLostTry pass after

-- The line gives no event, or there is no such line: it is passed over, so many lines are in, and no turn is taken. Where memory ran out it isn't.
abbrev pub IsLinePassed : ℕ → TrackView → TrackView → Result (Result ℕ OutOfMemory) TurnOut → Type 0
IsLinePassed count pass after (Ok (Ok told)) = (told ≡ count) × (after ≡ pass)
IsLinePassed count pass after (Ok (Err refused)) = after ≡ pass
IsLinePassed count pass after (Err refused) = ⊥

abbrev pub IsLineTried : ℕ → Option Event → TrackView → TrackView → Result (Result ℕ OutOfMemory) TurnOut → Type 0
IsLineTried count (Some event) pass after answer = IsLineOffered count event pass after answer
IsLineTried count None pass after answer = IsLinePassed count pass after answer
