-- Public: what the calls of a seat answer, and what they do to the seat behind it.
use Rattle.std.specs.Prelude.{◌≡◌, ◌≢◌, ◌↔◌, ◌⊎◌, ℕ, ℤ, true, false, List, [], length, Option, Some, None, Result, Ok, Err, IsOk}
use Rattle.ass_events.specs.Events.{event_of}
use Rattle.ass_num.specs.declared.memory.OutOfMemory.{OutOfMemory}
use Rattle.blend.specs.Canvases.{CanvasValue}
use Rattle.frame_change.specs.declared.kinds.ChangeKind.{ChangeKind}
use Rattle.frame_view.specs.declared.view.FrameView.{FrameView}
use Rattle.player.specs.Players.{PlayerView, mask_bytes}
use Rattle.shared_player.specs.Seats.{SharedSeatView, max_numbers}
use Rattle.shared_player.specs.Shown.{ListsHistory, ShowsHistory}
use Rattle.shared_player.specs.Tries.{IsLineTried, IsLostTry, line_offered, lines_in}
use Rattle.track_history.specs.Calls.{IsFed, IsFlushed, IsTurn, TrackView}
use Rattle.track_history.specs.LocalTracks.{new_track}
use Rattle.track_history.specs.declared.answers.Feed.{Feed}
use Rattle.track_history.specs.declared.answers.Flushed.{Flushed}
use Rattle.track_history.specs.declared.answers.TurnOut.{TurnOut}
use Rattle.turn_cell.specs.Passes.{split_pass}
use Rattle.vimalorua_c.specs.Calls.{AreCopied}
use Rattle.vimalorua_c.specs.Statuses.{bad_call_status, busy_status, change_number, closed_status, done_status, line_told, many_seats_status, no_font_status, not_first_status}
use Rattle.vimalorua_c.specs.Statuses.{out_of_memory_status, told, tried_feed_told, tried_field, tried_flush_told, was_fed_status}
use Rattle.vimalorua_c.specs.declared.held_seat.HeldSeat.{HeldSeat}
use Rattle.vimalorua_c.specs.declared.listing.ImageNumbers.{ImageNumbers}

-- ---- all calls

-- Where there is a seat the call was made of it, and there is one then. Where there is none, nothing is told.
abbrev pub IsMadeOfSeat : Type 0 → (SharedSeatView → SharedSeatView → Type 0) → ℤ → Option SharedSeatView → Option SharedSeatView → Type 0
IsMadeOfSeat IsUntold call status (Some old) (Some new) = call old new
IsMadeOfSeat IsUntold call status None None = (status ≡ closed_status) × IsUntold
IsMadeOfSeat IsUntold call status (Some old) None = ⊥
IsMadeOfSeat IsUntold call status None (Some new) = ⊥

-- A call of a seat whose numbers are good: where memory ran out before it was made, it changes and tells nothing.
abbrev pub IsGoodSeatCall : Type 0 → (SharedSeatView → SharedSeatView → Type 0) → ℤ → HeldSeat → HeldSeat → Type 0
IsGoodSeatCall IsUntold call status old new =
    ((status ≡ out_of_memory_status) × (new ≡ old) × IsUntold) ⊎ IsMadeOfSeat IsUntold call status old.seat new.seat

-- A call of a seat: a bad one changes and tells nothing.
abbrev pub IsSeatCall : Type 0 → Type 0 → (SharedSeatView → SharedSeatView → Type 0) → ℤ → HeldSeat → HeldSeat → Type 0
IsSeatCall IsBad IsUntold call status old new =
    (IsBad × (status ≡ bad_call_status) × (new ≡ old) × IsUntold) ⊎ ((IsBad → ⊥) × IsGoodSeatCall IsUntold call status old new)

-- ---- seats

-- The player was shared, so that there is none behind the handle; or it was fed before, or there is none, or memory ran out, and the handle stays.
pub record IsPlayerShared (status : ℤ) (old new : Option PlayerView) : Type 0 where
  pub shared : status ≡ done_status → (player : PlayerView) × (old ≡ Some player) × (player.track ≡ new_track) × (new ≡ None)
  pub fed : status ≡ was_fed_status → (player : PlayerView) × (old ≡ Some player) × (player.track ≢ new_track)
  pub closed : status ≡ closed_status → old ≡ None
  pub else_same : status ≢ done_status → new ≡ old
  pub others : status ≢ done_status → status ≢ was_fed_status → status ≢ closed_status → status ≡ out_of_memory_status

-- A seat was split off; or this one isn't the first, or all numbers were given, or memory ran out, and it stays.
pub record IsSeatSplit (status : ℤ) (old new : SharedSeatView) : Type 0 where
  pub split : status ≡ done_status → (old.first ≡ true) × (new ≡ record old { track = split_pass old.track })
  pub not_first : (status ≡ not_first_status) ↔ (old.first ≡ false)
  pub many : status ≡ many_seats_status → old.track.next ≡ max_numbers
  pub else_same : status ≢ done_status → new ≡ old
  pub others : status ≢ done_status → status ≢ not_first_status → status ≢ many_seats_status → status ≡ out_of_memory_status

abbrev pub IsSeatBudgetSet : ℕ → ℤ → SharedSeatView → SharedSeatView → Type 0
IsSeatBudgetSet budget status old new = (status ≡ done_status) × (new ≡ record old { budget = budget })

-- ---- feeding

-- The chunk was fed; or it gives an event, and another seat has the track.
abbrev pub IsTriedFeed : List ℕ → ℤ → ℤ → TrackView → TrackView → Result Feed TurnOut → Type 0
IsTriedFeed chunk start duration pass after (Ok answer) = IsFed chunk start duration pass after answer
IsTriedFeed chunk start duration pass after (Err out) = IsOk (event_of chunk start duration) × IsLostTry pass after

pub record IsChunkTried (chunk : List ℕ) (start duration : ℤ) (status : ℤ) (field place : ℕ) (old new : SharedSeatView) : Type 0 where
  pub answer : Result Feed TurnOut
  pub tried : IsTriedFeed chunk start duration old.track new.track answer
  pub same : new ≡ record old { track = new.track }
  pub is_told : tried_feed_told answer ≡ told status place
  pub is_field : tried_field answer ≡ field

-- The event of the script's line behind so many was offered, or not, and how many are in is told.
pub record IsLineTold (from : ℕ) (status : ℤ) (place : ℕ) (old new : SharedSeatView) : Type 0 where
  pub answer : Result (Result ℕ OutOfMemory) TurnOut
  pub tried : IsLineTried (lines_in old.script from) (line_offered old.script from) old.track new.track answer
  pub same : new ≡ record old { track = new.track }
  pub is_told : line_told from answer ≡ told status place

-- The track was flushed; or another seat has it.
abbrev pub IsTriedFlush : TrackView → TrackView → Result Flushed TurnOut → Type 0
IsTriedFlush pass after (Ok answer) = IsFlushed pass after answer
IsTriedFlush pass after (Err out) = IsLostTry pass after

pub record IsFlushTried (status : ℤ) (place : ℕ) (old new : SharedSeatView) : Type 0 where
  pub answer : Result Flushed TurnOut
  pub tried : IsTriedFlush old.track new.track answer
  pub same : new ≡ record old { track = new.track }
  pub is_told : tried_flush_told answer ≡ told status place

-- ---- pictures

-- The bytes are the picture of the entries that are told, in the one history of the track; or there is no font, or another seat has the track, or memory ran out, and
-- they are as before.
pub record IsDrawTried (at : ℤ) (frame : FrameView) (before after : List ℕ) (entries : ℕ) (status : ℤ) (old new : SharedSeatView) : Type 0 where
  pub fonts : (status ≡ no_font_status) ↔ (old.fonts ≡ [])
  pub shown : status ≡ done_status → (canvas : CanvasValue) × ShowsHistory old new at frame (record { entries = entries; canvas = canvas }) × (after ≡ canvas.bytes)
  pub unshown : status ≡ no_font_status → new ≡ old
  pub busy : status ≡ busy_status → IsLostTry old.track new.track
  pub wanting : status ≡ out_of_memory_status → IsTurn old.track new.track None
  pub else_same : status ≢ done_status → (after ≡ before) × (entries ≡ 0)
  pub same : new ≡ record old { track = new.track }
  pub others : status ≢ done_status → status ≢ no_font_status → status ≢ busy_status → status ≡ out_of_memory_status

-- The images of the entries that are told were listed; or there is no font, or another seat has the track, or memory ran out, and the list stays.
pub record IsListTried (at : ℤ) (frame : FrameView) (status before change : ℤ) (count bytes entries : ℕ) (old new : SharedSeatView) : Type 0 where
  pub fonts : (status ≡ no_font_status) ↔ (old.fonts ≡ [])
  pub listed : status ≡ done_status
      → (kind : ChangeKind) × ListsHistory old new at frame (record { entries = entries; change = kind }) × (change ≡ change_number kind)
  pub unlisted : status ≡ no_font_status → new ≡ old
  pub busy : status ≡ busy_status → IsLostTry old.track new.track
  pub wanting : status ≡ out_of_memory_status → IsTurn old.track new.track None
  pub else_same : status ≢ done_status → (new.images ≡ old.images) × (change ≡ before) × (entries ≡ 0)
  pub only_images : new ≡ record old { track = new.track; images = new.images }
  pub count_is : count ≡ length new.images
  pub bytes_is : bytes ≡ mask_bytes new.images
  pub others : status ≢ done_status → status ≢ no_font_status → status ≢ busy_status → status ≡ out_of_memory_status

-- The images that the seat listed last were copied, if the arrays have room for just them. The seat stays as it is.
abbrev pub AreSeatImagesCopied : List ImageNumbers → List ImageNumbers → List ℕ → List ℕ → ℤ → SharedSeatView → SharedSeatView → Type 0
AreSeatImagesCopied numbers after_numbers masks after_masks status old new = (new ≡ old) × AreCopied old.images numbers after_numbers masks after_masks status
