-- Public: the events of chunks that are not too long.
use Rattle.std.specs.Prelude.{◌≤◌, List, All}
use Rattle.ass_num.specs.Limits.{max_text_bytes}
use Rattle.ass_events.specs.declared.event.Event.{Event}
use Rattle.ass_events.specs.Histories.{Entry, Chunk, Flush}
use Rattle.ass_events.specs.Ranges.{IsEvent, text_bytes}

-- Some chunk gives the event, and its texts have together at most so many bytes.
pub record IsShortEvent (event : Event) : Type 0 where
  pub is_event : IsEvent event
  pub texts : text_bytes event ≤ max_text_bytes

-- an entry whose event is a short one, or a flush
abbrev pub IsShortEntry : Entry → Type 0
IsShortEntry (Chunk event) = IsShortEvent event
IsShortEntry Flush = Unit {0}

-- Each event that was accepted is a short one.
abbrev pub HaveShortEvents : List Entry → Type 0
HaveShortEvents entries = All IsShortEntry entries
